-- No second outcome satisfies the contract of a public call of this crate.
-- Assumes nothing.
use mathlib.Core.Path.{◌≡◌, sym, ap, ◌∙◌}
use contract.Lifetimes.{Lfts}
use denote.Triple.Entry.{Args}
use denote.Triple.Clauses.{at_exit}
use Rattle.basics.specs.OneOutcome.{Leaves, OneOutcome}
use Rattle.hearing.specs.Reading.{read_reply}
use Rattle.basics.specs.Outcome.{outcome}
use Rattle.hearing.proofs.ReadingLaws.{one_reading}
use Rattle.hearing.specs.contracts.reading.ReadFaultRefusal.number as heard_number
use Rattle.hearing.proofs.reading.ReadFaultRefusal.number.Reads as heard_number_reads
use Rattle.hearing.specs.contracts.reading.read
use Rattle.hearing.proofs.reading.read.Reads as read_reads

pub heard_number_one : OneOutcome heard_number.ended heard_number_reads.Asked heard_number_reads.Learnt
heard_number_one = record { taken = λ κs a. tt; one = λ κs a x y p q i. ((p ∙ sym q) i, (tt, tt)) }

pub read_one : OneOutcome read.ended read_reads.Asked read_reads.Learnt
read_one = record {
  taken = λ κs a. tt;
  one = λ κs a x y p q.
      let e : outcome x.0 x.1.1.0 ≡ outcome y.0 y.1.1.0 = one_reading _ _ _ _ p q in
      λ i. ((e i).result, (tt, ((e i).room, tt)));
}

-- of all that the contract lets reading answer, the count is one in the page's terms: 0 at a refusal
pub heard_count_one :
    (κs : Lfts (read.ended).signature.lifetimes) (a : Args (read.ended).signature κs) (x y : Leaves read.ended κs a) →
    read_reads.Learnt κs a x.0 (at_exit read.ended κs a x.1) → read_reads.Learnt κs a y.0 (at_exit read.ended κs a y.1) →
    (read_reply x.0).count ≡ (read_reply y.0).count
heard_count_one κs a x y p q = ap (λ (z : Leaves read.ended κs a). (read_reply z.0).count) (read_one.one κs a x y p q)
