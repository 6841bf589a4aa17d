-- What is found is one of the open files.
use Rattle.std.proofs.Common.{◌≡◌, ℕ, true, false, cond, nat_eq, List, [], ◌∷◌, ◌++◌, length, refl, arith}
use Rattle.std.specs.Prelude.{Result, Ok, Err, OnOk, IsOk}
use Rattle.std.specs.Cmp.{nat_eq_equiv}
use Rattle.std.specs.List.{IsDistinct as AreDistinct}
use Rattle.std.specs.Set.{is_member}
use Rattle.std.proofs.lemmas.Bool.Decides.{nat_tests}
use Rattle.std.proofs.lemmas.Map.Made.{length-from_same_keys}
use Rattle.file_table.specs.Descriptors.{is_among, without}
use Rattle.file_table.specs.Files.{IsDistinct}
use Rattle.file_table.specs.Kept.{IsKept}
use Rattle.file_table.proofs.FileCounts.{distinct}
use Rattle.file_table.proofs.FileLists.{distinct_push, distinct_without, without_itself, kept_without, not_among_without}

-- no file is kept
pub kept_none : (found files : List ℕ) → found ≡ [] → files ≡ [] → IsKept found files
kept_none found files none nothing = rw (none, nothing) (record { different = tt; same = λ q. refl })

among-push : (f q : ℕ) (xs : List ℕ) → is_among q (xs ++ f ∷ []) ≡ cond (nat_eq f q) true (is_among q xs)
among-push f q [] = grind (arith, nat_tests)
among-push f q (x ∷ xs) = grind (arith, nat_tests, among-push f q xs)

among-without : (f q : ℕ) (xs : List ℕ) → IsDistinct xs → is_among q (without f xs) ≡ cond (nat_eq f q) false (is_among q xs)
among-without f q xs different = grind (arith, nat_tests, without f xs, without_itself, kept_without, not_among_without)

-- a file was opened
pub kept_opened : (found found' files : List ℕ) (f : ℕ) → IsKept found files → is_among f files ≡ false → ((q : ℕ) → is_member nat_eq found' q ≡ cond (nat_eq f q) true (is_member nat_eq found q)) → IsKept found' (files ++ f ∷ [])
kept_opened found found' files f kept new update = grind (arith, nat_tests, distinct_push, kept.different, kept.same, among-push)

-- a file was closed
pub kept_closed : (found found' files : List ℕ) (f : ℕ) → IsKept found files → ((q : ℕ) → is_member nat_eq found' q ≡ cond (nat_eq f q) false (is_member nat_eq found q)) → IsKept found' (without f files)
kept_closed found found' files f kept update = grind (arith, nat_tests, distinct_without, kept.different, kept.same, among-without)

-- as many are found as are open
pub kept_length : (found files : List ℕ) → IsKept found files → AreDistinct nat_eq found → length found ≡ length files
kept_length found files kept different = length-from_same_keys nat_eq_equiv found files different (distinct files kept.different) kept.same

-- what follows of a success follows where it succeeded
pub on_ok : {A E P : Type 0} (r : Result A E) → IsOk r → OnOk r P → P
on_ok {A} {E} {P} (Ok a) ok p = p
on_ok {A} {E} {P} (Err e) ok p = absurd (cc)
