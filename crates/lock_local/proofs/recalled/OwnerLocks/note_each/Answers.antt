use Rattle.lock_local.proofs.Base.{ap, Bool, false, get_or, is_tag, list_any, list_any_more, recalls, refl, same_lock, sym, take, true, ◌||◌, ◌∙◌, ◌≡◌}
use Rattle.lock_local.proofs.Lemmas.{no_tag}
use Rattle.lock_local.proofs.recalled.OwnerLocks.note_each.Goals as goal

or_last : (a b c : Bool) → (a || (b || c)) ≡ ((b || a) || c)
or_last true true c = refl
or_last true false c = refl
or_last false true c = refl
or_last false false c = refl

pub loop-tag-preserved : goal.loop-tag-preserved
loop-tag-preserved c =
    let i = c.loop-tag.tag-index in
    let t = get_or c.args.tags.now i no_tag in
    record {
      owner = c.note.ensures.owner ∙ c.loop-tag.invariant.owner;
      some = λ more. c.note.ensures.some (c.loop-tag.invariant.some more);
      just = λ few.
          let k = c.note.ensures.just few in
          let p = c.loop-tag.invariant.just k.0 in (
            p.0,
            λ o m.
                k.1 o m
                ∙ ap (λ b. same_lock t.object t.mode o m || b) (p.1 o m)
                ∙ or_last (same_lock t.object t.mode o m) (list_any (is_tag o m) (take i c.args.tags.now)) (recalls c.args.self.now o m)
                ∙ ap (λ b. b || recalls c.args.self.now o m) (sym (list_any_more (is_tag o m) c.args.tags.now i no_tag c.loop-tag-test.true)),
          );
    }
