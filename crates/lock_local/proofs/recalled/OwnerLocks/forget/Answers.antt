use Rattle.lock_local.proofs.Base.{ap, Bool, false, get_or, is_tag, List, list_any, LockTag, not, position, position-Some, Recall, recalls, refl, same_lock, sym, true, true≢false, ◌&&◌, ◌||◌, ◌∙◌, ◌≡◌}
use Rattle.lock_local.proofs.Lemmas.{any-remove, any_none, IsRising-remove, no_tag, other_tag, taken_out, untagged}
use Rattle.lock_local.proofs.recalled.OwnerLocks.forget.Goals as goal

-- where there are no more, tags tell all
few : (a b s t : Bool) → a ≡ false → t ≡ (not s && b) → (a || t) ≡ (not s && (a || b))
few true b s t e f = absurd (cc)
few false b s t e f = f

pub invariant_of-self : goal.invariant_of-self
invariant_of-self c = record {
  rising = rw c.remove.ensures.items (IsRising-remove c.self.inside.tags.items c.in-Some.place c.self.invariant.rising);
  full = λ more. absurd (true≢false (sym more ∙ c.if-self.false));
}

pub returns-in-Some-clause-just : goal.returns-in-Some-clause-just
returns-in-Some-clause-just c = λ more o m.
    let a = c.args.object in
    let n = c.args.mode in
    let ts = c.self.inside.tags.items in
    let found = ap (λ (us : List LockTag). position (is_tag a n) us) (sym c.as_slice.ensures.value) ∙ sym c.place_of_tag.ensures ∙ c.in-Some.is in
    let at = position-Some (is_tag a n) ts c.in-Some.place c.remove.result found in
    let gone = ap (λ (us : List LockTag). list_any (is_tag a n) us) c.remove.ensures.items ∙ taken_out a n ts c.in-Some.place c.remove.result c.self.invariant.rising at.0 at.1 in
    few c.self.inside.more (list_any (is_tag o m) ts) (same_lock a n o m) (list_any (is_tag o m) c.remove.new.self.items) more
    (untagged a n ts c.remove.new.self.items gone (λ p q other. ap (λ (us : List LockTag). list_any (is_tag p q) us) c.remove.ensures.items ∙ any-remove (is_tag p q) ts c.in-Some.place c.remove.result (other_tag a n p q (get_or ts c.in-Some.place c.remove.result) at.1 other)) o m)
    ∙ ap (λ (r : Recall). not (same_lock a n o m) && recalls r o m) c.self.view_is

pub returns-in_default-clause-just : goal.returns-in_default-clause-just
returns-in_default-clause-just c = λ more o m.
    let a = c.args.object in
    let n = c.args.mode in
    let ts = c.self.inside.tags.items in
    let missed = ap (λ (us : List LockTag). position (is_tag a n) us) (sym c.as_slice.ensures.value) ∙ sym c.place_of_tag.ensures ∙ c.in_default.is in
    sym (ap (λ (r : Recall). recalls r o m) c.self.view_is)
    ∙ few c.self.inside.more (list_any (is_tag o m) ts) (same_lock a n o m) (list_any (is_tag o m) ts) (ap (λ (r : Recall). r.more) c.self.view_is ∙ more) (untagged a n ts ts (any_none (is_tag a n) ts no_tag missed) (λ p q other. refl) o m)
    ∙ ap (λ (r : Recall). not (same_lock a n o m) && recalls r o m) c.self.view_is
