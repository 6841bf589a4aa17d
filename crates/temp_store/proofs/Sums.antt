-- Lemmas on what files hold together.
use Rattle.std.proofs.Common.{◌≡◌, ◌≢◌, ℕ, zero, suc, ◌+◌, ◌<◌, ◌≤◌, List, [], ◌∷◌, length, get_or, set, Option, Some, None, sum_by, refl, ap, arith}
use Rattle.std.proofs.lemmas.List.Sums.{sum_by-cons, get_or-le-sum_by}
use Rattle.std.proofs.lemmas.List.{get_or_past, get_or-set_same, get_or-set_other}
use Rattle.temp_store.specs.Temp.{Temp, Changes, file_at, bytes_of, size_of, held, IsSound}

module _ {X : Type 0} (f : Option X → ℕ) (nothing : f None ≡ 0) where
  -- lists that agree everywhere but at one place have sums that differ by what stands there
  pub sum_by-changed : (xs ys : List (Option X)) (n : ℕ) → ((k : ℕ) → k ≢ n → get_or ys k None ≡ get_or xs k None) → sum_by f ys + f (get_or xs n None) ≡ sum_by f xs + f (get_or ys n None)
  sum_by-changed [] [] n same = refl
  sum_by-changed (x ∷ xs) [] zero same =
      omega (arith, nothing, sum_by-cons f x xs, ap f (same 1 (omega arith)), sum_by-changed xs [] 0 (λ k h. same (suc k) (omega arith)))
  sum_by-changed [] (y ∷ ys) zero same =
      omega (arith, nothing, sum_by-cons f y ys, ap f (same 1 (omega arith)), sum_by-changed [] ys 0 (λ k h. same (suc k) (omega arith)))
  sum_by-changed (x ∷ xs) (y ∷ ys) zero same =
      omega (arith, sum_by-cons f x xs, sum_by-cons f y ys, ap f (same 1 (omega arith)), sum_by-changed xs ys 0 (λ k h. same (suc k) (omega arith)))
  sum_by-changed (x ∷ xs) [] (suc n) same =
      omega (arith, nothing, sum_by-cons f x xs, ap f (same 0 (omega arith)), sum_by-changed xs [] n (λ k h. same (suc k) (omega (arith, h))))
  sum_by-changed [] (y ∷ ys) (suc n) same =
      omega (arith, nothing, sum_by-cons f y ys, ap f (same 0 (omega arith)), sum_by-changed [] ys n (λ k h. same (suc k) (omega (arith, h))))
  sum_by-changed (x ∷ xs) (y ∷ ys) (suc n) same =
      omega (arith, sum_by-cons f x xs, sum_by-cons f y ys, ap f (same 0 (omega arith)), sum_by-changed xs ys n (λ k h. same (suc k) (omega (arith, h))))

-- nothing has no bytes
pub size_of-none : size_of None ≡ 0
unfolding size_of
size_of-none = refl

-- a file has as many as its bytes are
pub size_of-file : (file : Option (List ℕ)) → size_of file ≡ length (bytes_of file)
unfolding size_of
size_of-file file = refl

-- what all files have together changes by what one of them has
pub held-Changes : (old new : Temp) (number : ℕ) (file : Option (List ℕ)) → Changes old new number file → held new + length (bytes_of (file_at old number)) ≡ held old + length (bytes_of file)
unfolding held
held-Changes old new number file change =
    omega (arith, sum_by-changed size_of size_of-none old.files new.files number change.others, ap size_of change.changed, size_of-file file, size_of-file (file_at old number))

-- where a file goes, what it had
pub held-dropped : (old new : Temp) (number : ℕ) → Changes old new number None → held new + length (bytes_of (file_at old number)) ≡ held old
held-dropped old new number change = omega (arith, held-Changes old new number None change)

-- a number with a file is a place of the list
pub place-within : (files : List (Option (List ℕ))) (n : ℕ) (bytes : List ℕ) → get_or files n None ≡ Some bytes → n < length files
place-within files n bytes found = grind (arith, get_or_past)

-- a file is not larger than all together
pub length-le-held : (files : List (Option (List ℕ))) (n : ℕ) (bytes : List ℕ) → get_or files n None ≡ Some bytes → length bytes ≤ sum_by size_of files
length-le-held files n bytes found =
    omega (arith, get_or-le-sum_by size_of files n None (place-within files n bytes found), ap size_of found, size_of-file (Some bytes))

-- the insides stay sound where a file comes that is empty
pub IsSound-added : (xs ys : List (Option (List ℕ))) (n held limit : ℕ) → get_or xs n None ≡ None → get_or ys n None ≡ Some [] → ((k : ℕ) → k ≢ n → get_or ys k None ≡ get_or xs k None) → IsSound xs held limit → IsSound ys held limit
IsSound-added xs ys n held limit was now others sound = record {
  total = omega (arith, sound.total, sum_by-changed size_of size_of-none xs ys n others, ap size_of was, ap size_of now, size_of-none, size_of-file (Some []));
  within = sound.within;
}

-- and where one file changes, and what all hold with it
pub IsSound-set : (files : List (Option (List ℕ))) (n : ℕ) (bytes : List ℕ) → get_or files n None ≡ Some bytes → (file : Option (List ℕ)) (held total limit : ℕ) → IsSound files held limit
    → total + length bytes ≡ held + length (bytes_of file) → total ≤ limit → IsSound (set files n file) total limit
IsSound-set files n bytes found file held total limit sound moved within =
    let here : get_or (set files n file) n None ≡ file = get_or-set_same files n file None (place-within files n bytes found) in
    record {
      total = omega (arith, moved, sound.total, sum_by-changed size_of size_of-none files (set files n file) n (λ k differs. get_or-set_other files n k file None differs), ap size_of here, ap size_of found, size_of-file (Some bytes), size_of-file file);
      within = within;
    }
