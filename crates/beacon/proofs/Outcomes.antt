-- No second outcome satisfies the contract of a public call of this crate, as the toolchain reads it from the source.
-- Assumes nothing.
use mathlib.Core.Path.{◌≡◌, ap, sym, ◌∙◌}
use contract.Lifetimes.{Lfts}
use denote.Triple.Entry.{Args}
use denote.Triple.Clauses.{at_exit}
use Rattle.basics.specs.OneOutcome.{Leaves, OneOutcome}
use Rattle.supervisor.specs.declared.form.Form.{Form}
use Rattle.supervisor.specs.declared.form.Form.TheVariants.{Basic, Complete, Extended}
use Rattle.beacon.specs.Writing.{written_reply}
use Rattle.beacon.specs.contracts.writing.WriteFaultRefusal.number
use Rattle.beacon.proofs.writing.WriteFaultRefusal.number.Reads as number_reads
use Rattle.beacon.specs.contracts.writing.write
use Rattle.beacon.proofs.writing.write.Reads as write_reads

pub number_one : OneOutcome number.ended number_reads.Asked number_reads.Learnt
number_one = record { taken = λ κs a. tt; one = λ κs a x y p q i. ((p ∙ sym q) i, (tt, tt)) }

pub write_one : OneOutcome write.ended write_reads.Asked write_reads.Learnt
write_one = record { taken = λ κs a. tt; one = λ κs a x y p q i. (((p ∙ sym q) i).result, (tt, (tt, (((p ∙ sym q) i).room, tt)))) }

-- of all that the contract lets writing answer, the count is one in the page's terms: 0 at a refusal
pub count_one :
    (κs : Lfts write.ended.signature.lifetimes) (a : Args write.ended.signature κs) (x y : Leaves write.ended κs a) →
    write_reads.Learnt κs a x.0 (at_exit write.ended κs a x.1) → write_reads.Learnt κs a y.0 (at_exit write.ended κs a y.1) →
    (written_reply x.0).count ≡ (written_reply y.0).count
count_one κs a x y p q = ap (λ (z : Leaves write.ended κs a). (written_reply z.0).count) (write_one.one κs a x y p q)

-- so too of each form alone: nothing is asked of a call for it, and it leaves one thing
pub record OneText (form : Form) : Type 0 where
  pub taken : (κs : Lfts write.ended.signature.lifetimes) (a : Args write.ended.signature κs) → a.1.0 ≡ form → write_reads.Asked κs a
  pub one :
      (κs : Lfts write.ended.signature.lifetimes) (a : Args write.ended.signature κs) → a.1.0 ≡ form →
      (x y : Leaves write.ended κs a) → write_reads.Learnt κs a x.0 (at_exit write.ended κs a x.1) →
      write_reads.Learnt κs a y.0 (at_exit write.ended κs a y.1) → x ≡ y

one_text : (form : Form) → OneText form
one_text form = record { taken = λ κs a e. write_one.taken κs a; one = λ κs a e. write_one.one κs a }

pub basic_one : OneText Basic
basic_one = one_text Basic

pub complete_one : OneText Complete
complete_one = one_text Complete

pub extended_one : OneText Extended
extended_one = one_text Extended
