use Rattle.lock_local.proofs.Base.{ap, Bool, false, is_tag, List, list_any, LockTag, Recall, recalls, refl, same_lock, sym, true, true≢false, ◌||◌, ◌∙◌, ◌≡◌}
use Rattle.lock_local.proofs.Lemmas.{any-insert, IsRising-insert, new_tag}
use Rattle.lock_local.proofs.recalled.OwnerLocks.note.Goals as goal

neither : (a b : Bool) → (a || b) ≡ false → (a ≡ false) × (b ≡ false)
neither true b e = absurd (cc)
neither false b e = (refl, e)

or_swap : (a b c : Bool) → (a || (b || c)) ≡ (b || (a || c))
or_swap true true c = refl
or_swap true false c = refl
or_swap false b c = refl

pub invariant_of-self-2 : goal.invariant_of-self-2
invariant_of-self-2 c =
    let none : (c.self.inside.more ≡ false) × (list_any (is_tag c.args.object c.args.mode) c.self.inside.tags.items ≡ false) = neither c.self.inside.more _ (ap (λ (r : Recall). recalls r c.args.object c.args.mode) c.self.view_is ∙ sym c.recalls.ensures ∙ c.if-recalls.false) in
    record {
      rising = rw (c.insert.ensures.items, c.place_among-place.ensures, c.as_slice.ensures.value) (IsRising-insert c.args.object c.args.mode c.self.inside.tags.items c.self.invariant.rising none.1);
      full = λ more. absurd (true≢false (sym more ∙ none.0));
    }

pub returns-clause-just : goal.returns-clause-just
returns-clause-just c = λ few. (
  sym (ap (λ (r : Recall). r.more) c.self.view_is) ∙ few,
  λ o m.
      ap (λ (ts : List LockTag). c.self.inside.more || list_any (is_tag o m) ts) c.insert.ensures.items
      ∙ ap (λ b. c.self.inside.more || b) (any-insert (is_tag o m) c.self.inside.tags.items c.place_among-place.result (new_tag c.args.object c.args.mode))
      ∙ or_swap c.self.inside.more (is_tag o m (new_tag c.args.object c.args.mode)) (list_any (is_tag o m) c.self.inside.tags.items)
      ∙ ap (λ (r : Recall). same_lock c.args.object c.args.mode o m || recalls r o m) c.self.view_is,
)
