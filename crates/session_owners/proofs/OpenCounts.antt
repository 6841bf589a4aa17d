-- A file is open where it is counted.
use Rattle.session_owners.proofs.Base.{nat_tests, ◌≡◌, ◌↔◌, ℕ, suc, zero, ◌<◌, Bool, true, false, ◌||◌, cond, List, [], ◌∷◌, Result, Err, IfErr, refl, sym, ap, ◌∙◌, arith, ◌==◌, nat_lt, count_by, list_any, lt-ltb, sum_by-cons}
use Rattle.session_owners.proofs.Words.{is_among, FileError, NoFile, Files, opens}

-- an element passes a test where some do
pub any_counts : {A : Type 0} (test : A → Bool) (xs : List A) → list_any test xs ≡ nat_lt 0 (count_by test xs)
any_counts test [] = refl
any_counts test (x ∷ xs) = go (any_counts test xs) (test x) refl
  where
    go : list_any test xs ≡ nat_lt 0 (count_by test xs) → (b : Bool) → test x ≡ b → (b || list_any test xs) ≡ nat_lt 0 (count_by test (x ∷ xs))
    go rest true e =
        let one : cond (test x) (suc zero) zero ≡ suc zero = ap (λ b. cond b (suc zero) zero) e in
        sym (lt-ltb 0 (count_by test (x ∷ xs)) (omega (arith, sum_by-cons (λ other. cond (test other) 1 0) x xs, one)))
    go rest false e =
        let none : cond (test x) (suc zero) zero ≡ zero = ap (λ b. cond b (suc zero) zero) e in
        let same : count_by test xs ≡ count_by test (x ∷ xs) = omega (arith, sum_by-cons (λ other. cond (test other) 1 0) x xs, none) in
        rest ∙ ap (nat_lt 0) same

-- a file that is open isn't missed
pub is_there : (files : Files) (file : ℕ) → 0 < opens files file → is_among file files.opened ≡ true
is_there files file some = any_counts (λ other. file == other) files.opened ∙ lt-ltb 0 (opens files file) some

pub closes : (files : Files) (file : ℕ) (r : Result (Unit {0}) FileError) (e : FileError) → r ≡ Err e → IfErr r (λ error. error ≡ NoFile) → (r ≡ Err NoFile) ↔ (is_among file files.opened ≡ false) → 0 < opens files file → ⊥
closes files file x2 e is other missing some = grind (arith, nat_tests, files.opened, missing.0, is_there files file some)
