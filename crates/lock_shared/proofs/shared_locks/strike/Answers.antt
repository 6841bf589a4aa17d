use Rattle.lock_shared.proofs.Base.{List, ap, sym, subst, ◌∙◌, nat_eq, not, Some, None, is_some, length, ◌<◌, ◌≡◌, ℕ, false, arith, nat_tests}
use Rattle.lock_shared.proofs.Words.{Holding, is_holding, IsKept}
use Rattle.lock_shared.proofs.Lemmas.{kept_less, kept_at, kept_with, without_entry}
use Rattle.lock_shared.proofs.shared_locks.strike.Goals as goal

not_none : (n : ℕ) → nat_eq n 0 ≡ false → 0 < n
not_none n e = grind (arith, nat_tests)

pub returns-then-is_empty-clause-kept : goal.returns-then-is_empty-clause-kept
returns-then-is_empty-clause-kept c =
    let es = c.args.objects.now.entries in
    let w = c.take_off.new.holders in
    let changed = ((c.get_mut.follows.holds w).3 (sym (ap is_some c.in-Some.ensures.value))).0 in
    kept_with es _ c.args.object None c.requires c.swap_remove.ensures.unique tt
    (λ q. without_entry (nat_eq c.args.object q) _ _ _ w (c.swap_remove.ensures.updates.0 q) (changed q))

pub returns-else-is_empty-clause-kept : goal.returns-else-is_empty-clause-kept
returns-else-is_empty-clause-kept c =
    let es = c.args.objects.now.entries in
    let v = c.in-Some.holders.now in
    let w = c.take_off.new.holders in
    let p : Holding → _ = λ h. not (is_holding c.args.object c.args.mode c.args.session h) in
    let some : 0 < length w.items = not_none (length w.items) (sym c.is_empty.ensures ∙ c.if-is_empty.false) in
    kept_with es _ c.args.object (Some w) c.requires (c.get_mut.follows.holds w).4
    (subst (IsKept c.args.object) (sym c.take_off.ensures) (kept_less c.args.object p v.items (kept_at es c.args.object v c.requires c.in-Some.ensures.value) (subst (λ (xs : List Holding). 0 < length xs) c.take_off.ensures some)))
    ((c.get_mut.follows.holds w).3 (sym (ap is_some c.in-Some.ensures.value))).0
