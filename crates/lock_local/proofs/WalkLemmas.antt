-- Steps of walks over a session's locks.
use Rattle.std.proofs.lemmas.Bool.Decides.{nat_tests}
use Rattle.lock_local.proofs.Base.{[], and_from, and_parts, ap, arith, Bool, cases_Bool, cond, drop, eqb-true, false, flat_map, flat_map-append, get_or, has_owner, Holding, holds, is_held, is_lock, IsInOrder, length, List, list_any_at, Lock, lt-ltb, ltb-true, map, MatchBool, Mode, mode_number, nat_eq, OthersStay, refl, same_lock, set, Sets, suc, sym, take, take_more, true, without, zero, ℕ, ◌++◌, ◌+◌, ◌<◌, ◌∙◌, ◌∷◌, ◌≡◌}
use Rattle.lock_local.proofs.OwnerLemmas.{others, others_le}
use Rattle.lock_local.proofs.OrderLemmas.{is_held-set, none_behind, held_test, all_behind, drop_more}

-- what the front of a list gave, and one more
pub flat_map_step : {X A : Type 0} (f : X → List A) (xs : List X) (i : ℕ) (d : X) → i < length xs → flat_map f (take i xs) ++ f (get_or xs i d) ≡ flat_map f (take (i + 1) xs)
flat_map_step {X} {A} f xs i d l =
    sym (ap (flat_map f) (take_more xs i d l) ∙ flat_map-append f (take i xs) (get_or xs i d ∷ []) ∙ ap (λ (zs : List A). flat_map f (take i xs) ++ zs) (nothing_behind (f (get_or xs i d))))
  where
    nothing_behind : (zs : List A) → zs ++ [] ≡ zs
    nothing_behind [] = refl
    nothing_behind (z ∷ zs) = ap (λ ws. z ∷ ws) (nothing_behind zs)

-- the element at the seam is still the one that stood there
pub seam : {X : Type 0} (f : X → X) (xs ys : List X) (i : ℕ) (d : X) → ys ≡ map f (take i xs) ++ drop i xs → i < length xs → get_or ys i d ≡ get_or xs i d
seam {X} f xs ys i d e l = ap (λ (zs : List X). get_or zs i d) e ∙ at_seam xs i l
  where
    at_seam : (xs : List X) (i : ℕ) → i < length xs → get_or (map f (take i xs) ++ drop i xs) i d ≡ get_or xs i d
    at_seam [] i l = absurd (omega (arith, l))
    at_seam (x ∷ xs) zero l = refl
    at_seam (x ∷ xs) (suc i) l = at_seam xs i (omega (arith, l))

-- what holds of a lock holds by the numbers of its object and mode
pub holds_same : (xs : List Holding) (o : ℕ) (m : Mode) (o' : ℕ) (m' : Mode) (s : ℕ) → same_lock o m o' m' ≡ true → holds xs o m s ≡ holds xs o' m' s
holds_same xs o m o' m' s e = grind (arith, nat_tests, and_parts (nat_eq o o') (nat_eq (mode_number m) (mode_number m')) e, eqb-true o o' (and_parts (nat_eq o o') (nat_eq (mode_number m) (mode_number m')) e).0, eqb-true (mode_number m) (mode_number m') (and_parts (nat_eq o o') (nat_eq (mode_number m) (mode_number m')) e).1)

pub same_back : (o : ℕ) (m : Mode) (o' : ℕ) (m' : Mode) → same_lock o m o' m' ≡ true → same_lock o' m' o m ≡ true
same_back o m o' m' e = grind (arith, nat_tests, and_from)

-- what a session holds after one holding of it was set
pub holds_after : (old new : List Holding) (o : ℕ) (m : Mode) (s : ℕ) (b : Bool) → Sets old new o m s b → (o' : ℕ) (m' : Mode) → holds new o' m' s ≡ cond (same_lock o m o' m') b (holds old o' m' s)
holds_after old new o m s b h o' m' = grind (arith, nat_tests, cases_Bool (same_lock o' m' o m))

-- a lock is written over, and what is shared follows: it is freed where no owner is left
pub freed_agrees : (xs : List Lock) (i : ℕ) (d x y : Lock) (s : ℕ) (old new : List Holding) → IsInOrder xs → i < length xs → x ≡ get_or xs i d → y.object ≡ x.object → y.mode ≡ x.mode → (has_owner y ≡ true → has_owner x ≡ true) → MatchBool (has_owner y) (new ≡ old) (Sets old new x.object x.mode s false) → ((o : ℕ) (m : Mode) → holds old o m s ≡ is_held xs o m) → (o : ℕ) (m : Mode) → holds new o m s ≡ is_held (set xs i y) o m
freed_agrees xs i d x y s old new h l e a b had told agrees o m = by_owner (has_owner y) refl told (is_lock o m x) refl ∙ sym written
  where
    written : is_held (set xs i y) o m ≡ cond (is_lock o m x) (has_owner y) (is_held xs o m)
    written =
        is_held-set xs i d y o m h l (a ∙ ap (λ (z : Lock). z.object) e) (b ∙ ap (λ (z : Lock). z.mode) e)
        ∙ ap (λ (z : Lock). cond (is_lock o m z) (has_owner y) (is_held xs o m)) (sym e)

    by_owner : (t : Bool) → has_owner y ≡ t → MatchBool t (new ≡ old) (Sets old new x.object x.mode s false) → (u : Bool) → is_lock o m x ≡ u → holds new o m s ≡ cond (is_lock o m x) (has_owner y) (is_held xs o m)
    by_owner true f same true u =
        let test : held_test o m (get_or xs i d) ≡ true = ap (λ (z : Lock). held_test o m z) (sym e) ∙ and_from (is_lock o m x) (has_owner x) u (had f) in
        ap (λ (zs : List Holding). holds zs o m s) same ∙ agrees o m ∙ list_any_at (held_test o m) xs i d l test ∙ sym (ap (λ t. cond t (has_owner y) (is_held xs o m)) u ∙ f)
    by_owner true f same false u =
        ap (λ (zs : List Holding). holds zs o m s) same ∙ agrees o m ∙ sym (ap (λ t. cond t (has_owner y) (is_held xs o m)) u)
    by_owner false f sets true u =
        holds_after old new x.object x.mode s false sets o m ∙ ap (λ t. cond t false (holds old o m s)) u ∙ sym (ap (λ t. cond t (has_owner y) (is_held xs o m)) u ∙ f)
    by_owner false f sets false u =
        holds_after old new x.object x.mode s false sets o m ∙ ap (λ t. cond t false (holds old o m s)) u ∙ agrees o m ∙ sym (ap (λ t. cond t (has_owner y) (is_held xs o m)) u)

pub freed_others : (b : Bool) (o : ℕ) (m : Mode) (s : ℕ) (old new : List Holding) → MatchBool b (new ≡ old) (Sets old new o m s false) → OthersStay s old new
freed_others v0 o m s old new h o' m' s' other = grind (arith, nat_tests)

pub others_more : (s : ℕ) (a b c : List Holding) → OthersStay s a b → OthersStay s b c → OthersStay s a c
others_more s a b c p q o m s' other = q o m s' other ∙ p o m s' other

pub had_owner : (owner : ℕ) (x y : Lock) → y ≡ without owner x → has_owner y ≡ true → has_owner x ≡ true
had_owner owner x y e h = grind (arith, nat_tests, others_le owner x.owners, ltb-true 0 (length (others owner x.owners)) (sym (ap has_owner e) ∙ h), lt-ltb 0 (length x.owners) (omega (arith, (others_le owner x.owners), (ltb-true 0 (length (others owner x.owners)) (sym (ap has_owner e) ∙ h)))))

-- all before a place is gone, and the lock at that place goes
pub rest_agrees : (xs : List Lock) (i : ℕ) (d x : Lock) (s : ℕ) (old new : List Holding) → IsInOrder xs → i < length xs → x ≡ get_or xs i d → Sets old new x.object x.mode s false → ((o : ℕ) (m : Mode) → holds old o m s ≡ is_held (drop i xs) o m) → (o : ℕ) (m : Mode) → holds new o m s ≡ is_held (drop (i + 1) xs) o m
rest_agrees xs i d x s old new h l e sets agrees o m = grind (arith, nat_tests, drop_more xs i d l, all_behind xs i d h l, holds_after, none_behind)

-- one more lock of a walk that writes each over
pub flat_map_at : {X A : Type 0} (f : X → List A) (g : X → X) (xs ys : List X) (i : ℕ) (d : X) → ys ≡ map g (take i xs) ++ drop i xs → i < length xs → flat_map f (take i xs) ++ f (get_or ys i d) ≡ flat_map f (take (i + 1) xs)
flat_map_at {X} {A} f g xs ys i d e l = ap (λ (z : X). flat_map f (take i xs) ++ f z) (seam g xs ys i d e l) ∙ flat_map_step f xs i d l

-- a holding may be named by any mode of that number
pub sets_like : (old new : List Holding) (o : ℕ) (m : Mode) (o' : ℕ) (m' : Mode) (s : ℕ) (b : Bool) → same_lock o m o' m' ≡ true → Sets old new o m s b → Sets old new o' m' s b
sets_like old new o m o' m' s b e h = grind (arith, nat_tests, holds_same new o m o' m' s e)
