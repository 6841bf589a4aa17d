use Rattle.std.proofs.Common.{◌≡◌, ◌<◌, ◌∙◌, ◌==◌, ℕ, true, false, length, refl, sym, ap, arith}
use Rattle.std.proofs.lemmas.Bool.Decides.{nat_tests}
use Rattle.pgs_io.specs.Feeding.{Feeding}
use Rattle.pgs_io.proofs.FeedLemmas.{not_both, Begun-start, Begun-ended, Begun-part, Begun-filled, Begun-last, Begun-end, Begun-fault, Begun-limit}
use Rattle.pgs_io.proofs.feeding.Feed.line.Goals as goal

not_zero : (m n : ℕ) → m ≡ n → (m == 0) ≡ false → 0 < n
not_zero m n e h = grind (arith, nat_tests)

is_zero : (m n : ℕ) → m ≡ n → (m == 0) ≡ true → n ≡ 0
is_zero m n e h = grind (arith, nat_tests)

ended_of : {r s : Feeding} → r ≡ s → r.ended ≡ s.ended
ended_of e = ap (λ (f : Feeding). f.ended) e

source_of : {r s : Feeding} → r ≡ s → r.source_ended ≡ s.source_ended
source_of e = ap (λ (f : Feeding). f.source_ended) e

pub loop-long-init : goal.loop-long-init
loop-long-init g c = record { begun = Begun-start _ _ _ c.clear.ensures; no_fault = refl; ended = c.requires; unread = λ e. (refl, e) }

pub returns-then-part-clause-line : goal.returns-then-part-clause-line
returns-then-part-clause-line g c =
    Begun-ended _ _ _ _ _ _ _ _ _ c.loop-long.invariant.begun (rw c.if-part.true at c.take_part-part.ensures.part)

pub returns-then-part-clause-ended : goal.returns-then-part-clause-ended
returns-then-part-clause-ended g c = ended_of c.take_part-part.ensures.part.same ∙ c.loop-long.invariant.ended

pub loop-long-preserved : goal.loop-long-preserved
loop-long-preserved g c =
    let part = rw c.if-part.false at c.take_part-part.ensures.part in
    let more = c.in-Bytes.ensures.cases in
    record {
      begun = Begun-filled _ _ _ _ _ _ _ _ (Begun-part _ _ _ _ _ _ _ _ _ c.loop-long.invariant.begun part) part.pending.1 more;
      no_fault = c.in-Bytes.ensures.no_fault ∙ c.loop-long.invariant.no_fault;
      ended = c.in-Bytes.ensures.ended ∙ ended_of part.same ∙ c.loop-long.invariant.ended;
      unread = λ e. not_both _ more.going (source_of part.same ∙ (c.loop-long.invariant.unread e).1);
    }

pub returns-in-End-clause-end : goal.returns-in-End-clause-end
returns-in-End-clause-end g c =
    let part = rw c.if-part.false at c.take_part-part.ensures.part in
    let met = c.in-End.ensures.cases in
    Begun-end _ _ _ _ _ _ _ (Begun-part _ _ _ _ _ _ _ _ _ c.loop-long.invariant.begun part) part.pending.1 met.0 met.2
    (is_zero _ _ (ap length c.as_slice.ensures.bytes) (sym c.if-is_empty.ensures))

pub returns-in-End-2-clause-line : goal.returns-in-End-2-clause-line
returns-in-End-2-clause-line g c =
    let part = rw c.if-part.false at c.take_part-part.ensures.part in
    let met = c.in-End-2.ensures.cases in
    Begun-last _ _ _ _ _ _ _ (Begun-part _ _ _ _ _ _ _ _ _ c.loop-long.invariant.begun part) part.pending.1 met.0 _ met.1 met.2
    (not_zero _ _ (ap length c.as_slice.ensures.bytes) (sym c.if-is_empty.ensures))

pub returns-in-End-2-clause-ended : goal.returns-in-End-2-clause-ended
returns-in-End-2-clause-ended g c = c.in-End-2.ensures.ended ∙ ended_of c.take_part-part.ensures.part.same ∙ c.loop-long.invariant.ended

pub returns-in-Fault-clause-at_fault : goal.returns-in-Fault-clause-at_fault
returns-in-Fault-clause-at_fault g c =
    let part = rw c.if-part.false at c.take_part-part.ensures.part in
    let met = c.in-Fault.ensures.cases in
    Begun-fault _ _ _ _ _ _ _ (Begun-part _ _ _ _ _ _ _ _ _ c.loop-long.invariant.begun part) part.pending.1 met.0 met.2 met.3

pub returns-in-TooLong-clause-too_long : goal.returns-in-TooLong-clause-too_long
returns-in-TooLong-clause-too_long g c =
    let part = rw c.if-part.false at c.take_part-part.ensures.part in
    let met = c.in-TooLong.ensures.cases in
    Begun-limit _ _ _ _ _ _ _ (Begun-part _ _ _ _ _ _ _ _ _ c.loop-long.invariant.begun part) part.pending.1 met.0 met.2 met.3
