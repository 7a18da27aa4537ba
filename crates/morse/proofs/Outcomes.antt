-- No second outcome satisfies the contract of a public call of this crate.
-- Assumes nothing.
use mathlib.Core.Path.{◌≡◌, sym, ap, ◌∙◌}
use contract.Lifetimes.{Lfts}
use denote.Triple.Entry.{Args}
use denote.Triple.Clauses.{at_exit}
use Rattle.basics.specs.OneOutcome.{Leaves, OneOutcome}
use Rattle.morse.specs.Keying.{key_reply}
use Rattle.morse.specs.contracts.texts.FaultRefusal.number as fault_number
use Rattle.morse.proofs.texts.FaultRefusal.number.Reads as fault_number_reads
use Rattle.morse.specs.contracts.texts.fault_of
use Rattle.morse.proofs.texts.fault_of.Reads as fault_of_reads
use Rattle.morse.specs.contracts.units.put
use Rattle.morse.proofs.units.put.Reads as put_reads
use Rattle.morse.specs.contracts.keying.KeyFaultRefusal.number as keyed_number
use Rattle.morse.proofs.keying.KeyFaultRefusal.number.Reads as keyed_number_reads
use Rattle.morse.specs.contracts.keying.KeyFaultFromFault.from as from_fault
use Rattle.morse.proofs.keying.KeyFaultFromFault.from.Reads as from_fault_reads
use Rattle.morse.specs.contracts.keying.key
use Rattle.morse.proofs.keying.key.Reads as key_reads

pub fault_number_one : OneOutcome fault_number.ended fault_number_reads.Asked fault_number_reads.Learnt
fault_number_one = record { taken = λ κs a. tt; one = λ κs a x y p q i. ((p ∙ sym q) i, (tt, tt)) }

pub fault_of_one : OneOutcome fault_of.ended fault_of_reads.Asked fault_of_reads.Learnt
fault_of_one = record { taken = λ κs a. tt; one = λ κs a x y p q i. ((p ∙ sym q) i, (tt, tt)) }

pub put_one : OneOutcome put.ended put_reads.Asked put_reads.Learnt
put_one = record { taken = λ κs a. tt; one = λ κs a x y p q i. (tt, ((p ∙ sym q) i, (tt, (tt, tt)))) }

pub keyed_number_one : OneOutcome keyed_number.ended keyed_number_reads.Asked keyed_number_reads.Learnt
keyed_number_one = record { taken = λ κs a. tt; one = λ κs a x y p q i. ((p ∙ sym q) i, (tt, tt)) }

pub from_fault_one : OneOutcome from_fault.ended from_fault_reads.Asked from_fault_reads.Learnt
from_fault_one = record { taken = λ κs a. tt; one = λ κs a x y p q i. ((p ∙ sym q) i, (tt, tt)) }

pub key_one : OneOutcome key.ended key_reads.Asked key_reads.Learnt
key_one = record {
  taken = λ κs a. tt;
  one = λ κs a x y p q i. (((p ∙ sym q) i).result, (tt, (((p ∙ sym q) i).room, tt)));
}

-- of all that the contract lets keying answer, the count is one in the page's terms: 0 at a refusal
pub keyed_count_one :
    (κs : Lfts (key.ended).signature.lifetimes) (a : Args (key.ended).signature κs) (x y : Leaves key.ended κs a) →
    key_reads.Learnt κs a x.0 (at_exit key.ended κs a x.1) → key_reads.Learnt κs a y.0 (at_exit key.ended κs a y.1) →
    (key_reply x.0).count ≡ (key_reply y.0).count
keyed_count_one κs a x y p q = ap (λ (z : Leaves key.ended κs a). (key_reply z.0).count) (key_one.one κs a x y p q)
