-- How often all owners together hold locks, after a change.
use Rattle.std.proofs.lemmas.Bool.Decides.{nat_tests}
use Rattle.lock_local.proofs.Base.{[], acquired, All, ap, arith, Bool, cond, counted_down, counted_up, false, filter, get_or, has_owner, is_lock, length, List, Lock, lock_total, lt-ltb, map, Mode, nat_lt, new_lock, owner_count, owner_total, OwnerCount, passed, passed_lock, refl, released, same_lock, set, StandsAt, sum_by, sum_by-cons, sum_by-set, sym, total, true≢false, whole_of, WholeLess, WholeOneLess, WholeOneMore, WholeStays, without, ℕ, ◌+◌, ◌<◌, ◌∙◌, ◌∷◌, ◌≡◌}
use Rattle.lock_local.proofs.OwnerLemmas.{Counted, counts, counts-added, counts-lowered, counts-others}
use Rattle.lock_local.proofs.ChangeLemmas.{by_passing}
use Rattle.lock_local.proofs.CountLemmas.{where_so, same_as}

-- sums over locks
module _ (f : Lock → ℕ) where
  pub sum_kept : ((l : Lock) → has_owner l ≡ false → f l ≡ 0) → (xs : List Lock) → sum_by f (filter has_owner xs) ≡ sum_by f xs
  sum_kept none [] = refl
  sum_kept none (x ∷ xs) = grind (arith, nat_tests, sum_kept none xs, sum_by-cons f x (filter has_owner xs), sum_by-cons f x xs)

  pub sum_same : (g : Lock → Lock) → ((l : Lock) → f (g l) ≡ f l) → (xs : List Lock) → sum_by f (map g xs) ≡ sum_by f xs
  sum_same g same [] = refl
  sum_same g same (x ∷ xs) = omega (arith, same x, sum_same g same xs, sum_by-cons f (g x) (map g xs), sum_by-cons f x xs)

  pub sum_less : (g : Lock → Lock) (h : Lock → ℕ) → ((l : Lock) → f (g l) + h l ≡ f l) → (xs : List Lock) → sum_by f (map g xs) + sum_by h xs ≡ sum_by f xs
  sum_less g h less [] = refl
  sum_less g h less (x ∷ xs) = omega (arith, less x, sum_less g h less xs, sum_by-cons f (g x) (map g xs), sum_by-cons f x xs, sum_by-cons h x xs)

-- a lock that nobody holds
nobody : (xs : List OwnerCount) → nat_lt 0 (length xs) ≡ false → counts xs ≡ 0
nobody [] e = refl
nobody (x ∷ xs) e = absurd (true≢false (sym (lt-ltb 0 (length (x ∷ xs)) (omega arith)) ∙ e))

pub no_total : (l : Lock) → has_owner l ≡ false → lock_total l ≡ 0
no_total l e = nobody l.owners e

-- what all owners hold of one lock
abbrev pub whole_one : ℕ → Mode → Lock → ℕ
whole_one o m l = cond (is_lock o m l) (lock_total l) 0

so_zero : (b : Bool) (n : ℕ) → n ≡ 0 → where_so b n ≡ 0
so_zero v0 n e = grind (arith, nat_tests)

pub no_whole : (o : ℕ) (m : Mode) (l : Lock) → has_owner l ≡ false → whole_one o m l ≡ 0
no_whole o m l e = so_zero (is_lock o m l) (lock_total l) (no_total l e)

pub total_without : (w : ℕ) (l : Lock) → lock_total (without w l) + owner_count w l ≡ lock_total l
total_without w l = counts-others w l.owners

pub total_passed : (from to : ℕ) (l : Lock) → lock_total (passed_lock from to l) ≡ lock_total l
total_passed from to l = by_passing (λ k. lock_total k ≡ lock_total l) from to l refl (λ _. omega (arith, counts-added to (owner_count from l) (without from l).owners, counts-others from l.owners))

so_less : (b : Bool) (p q r : ℕ) → p + q ≡ r → where_so b p + where_so b q ≡ where_so b r
so_less v0 p q r e = grind (arith, nat_tests)

pub whole_without : (w o : ℕ) (m : Mode) (l : Lock) → whole_one o m (without w l) + cond (is_lock o m l) (owner_count w l) 0 ≡ whole_one o m l
whole_without w o m l = so_less (is_lock o m l) (lock_total (without w l)) (owner_count w l) (lock_total l) (total_without w l)

pub whole_passed : (from to o : ℕ) (m : Mode) (l : Lock) → whole_one o m (passed_lock from to l) ≡ whole_one o m l
whole_passed from to o m l = grind (arith, nat_tests, by_passing (λ k. whole_one o m k ≡ where_so (is_lock o m l) (lock_total k)) from to l refl (λ _. refl), total_passed from to l)

-- all that an owner holds goes
pub wholes_released : (w : ℕ) (xs ys : List Lock) → ys ≡ released w xs → WholeLess xs ys w
wholes_released w xs ys e o m = grind (arith, nat_tests, no_whole o m, sum_kept (whole_one o m) (no_whole o m) (map (without w) xs), whole_without w o m, sum_less (whole_one o m) (without w) (λ l. cond (is_lock o m l) (owner_count w l) 0) (whole_without w o m) xs)

pub totals_released : (w : ℕ) (xs ys : List Lock) → ys ≡ released w xs → total ys + owner_total w xs ≡ total xs
totals_released w xs ys e = grind (arith, nat_tests, sum_kept lock_total no_total (map (without w) xs), total_without w, sum_less lock_total (without w) (owner_count w) (total_without w) xs)

-- all that an owner holds is passed
pub wholes_passed : (from to : ℕ) (xs ys : List Lock) → ys ≡ passed from to xs → WholeStays xs ys
wholes_passed from to xs ys e o m = ap (λ (zs : List Lock). whole_of zs o m) e ∙ sum_same (whole_one o m) (passed_lock from to) (whole_passed from to o m) xs

pub totals_passed : (from to : ℕ) (xs ys : List Lock) → ys ≡ passed from to xs → total ys ≡ total xs
totals_passed from to xs ys e = ap total e ∙ sum_same lock_total (passed_lock from to) (total_passed from to) xs

-- a lock is held once more
total_up : (owner : ℕ) (l : Lock) → lock_total (counted_up owner l) ≡ lock_total l + 1
total_up owner l = counts-added owner 1 l.owners

total_new : (owner o : ℕ) (m : Mode) → lock_total (new_lock o m owner) ≡ 1
total_new owner o m = omega (arith, sum_by-cons (λ (c : OwnerCount). c.count) (record { owner = owner; count = 1 }) [])

pub whole-acquired : (owner o : ℕ) (m : Mode) (o' : ℕ) (m' : Mode) (xs : List Lock) → whole_of (acquired owner o m xs) o' m' ≡ whole_of xs o' m' + where_so (same_lock o m o' m') 1
whole-acquired owner o m o' m' [] = omega (arith, sum_by-cons (whole_one o' m') (new_lock o m owner) [], ap (where_so (same_lock o m o' m')) (total_new owner o m))
whole-acquired owner o m o' m' (x ∷ xs) = grind (arith, nat_tests, whole-acquired owner o m o' m' xs, total_up owner x, sum_by-cons (whole_one o' m') x xs, sum_by-cons (whole_one o' m') (new_lock o m owner) (x ∷ xs), total_new owner o m, sum_by-cons (whole_one o' m') x (acquired owner o m xs))

pub wholes_more : (owner o : ℕ) (m : Mode) (xs ys : List Lock) → ys ≡ acquired owner o m xs → WholeOneMore xs ys o m
wholes_more owner o m xs ys e o' m' = ap (λ (zs : List Lock). whole_of zs o' m') e ∙ whole-acquired owner o m o' m' xs

-- a lock is held once less
pub total_down : (owner : ℕ) (l : Lock) → All Counted l.owners → 0 < owner_count owner l → lock_total (counted_down owner l) + 1 ≡ lock_total l
total_down owner l h n = counts-lowered owner l.owners h n

pub totals_lowered : (owner : ℕ) (xs mid ys : List Lock) (i : ℕ) (d y : Lock) → i < length xs → y ≡ counted_down owner (get_or xs i d) → All Counted (get_or xs i d).owners → 0 < owner_count owner (get_or xs i d) → mid ≡ set xs i y → ys ≡ filter has_owner mid → total ys + 1 ≡ total xs
totals_lowered owner xs mid ys i d y l e h n f g = grind (arith, nat_tests, sum_kept lock_total no_total mid, sum_by-set lock_total xs i y d l, total_down owner (get_or xs i d) h n)

pub wholes_lowered : (owner o : ℕ) (m : Mode) (xs mid ys : List Lock) (i : ℕ) (d y : Lock) → StandsAt o m xs i d → y ≡ counted_down owner (get_or xs i d) → All Counted (get_or xs i d).owners → 0 < owner_count owner (get_or xs i d) → mid ≡ set xs i y → ys ≡ filter has_owner mid → WholeOneLess xs ys o m
wholes_lowered owner o m xs mid ys i d y st e h n f g o' m' = grind (arith, nat_tests, so_less, total_down, same_as, st.here, sum_kept, no_whole o' m', sum_by-set, st.within)
