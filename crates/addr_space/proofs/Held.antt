-- Lemmas on what the regions of an account have together.
use Rattle.std.proofs.Common.{◌≡◌, ◌≢◌, ℕ, zero, suc, ◌+◌, ◌<◌, ◌≤◌, List, [], ◌∷◌, length, get_or, set, map, Option, Some, None, sum_by, refl, sym, ap, ◌∙◌, arith, ◌==◌, if◌then◌else◌}
use Rattle.std.proofs.lemmas.List.Sums.{sum_by-cons, get_or-le-sum_by}
use Rattle.std.proofs.lemmas.List.{length-set, get_or-set_same, get_or-set_other, length-replicate, get_or-map, map-set, get_or_past, set-get_or}
use Rattle.std.proofs.lemmas.Bool.Decides.{nat_tests}
use Rattle.addr_space.specs.Space.{Region, Space, share, held, region_at, Changes, unwritten, raised, risen}
use Rattle.addr_space.specs.Sound.{IsSound, account_at, no_account}
use Rattle.addr_space.specs.declared.Account.{Account}
use Rattle.addr_space.proofs.Asked.{raised-set}

module _ {X : Type 0} (f : Option X → ℕ) (nothing : f None ≡ 0) where
  -- lists that agree everywhere but at one place have sums that differ by what stands there
  pub sum_by-changed : (xs ys : List (Option X)) (n : ℕ) → ((k : ℕ) → k ≢ n → get_or ys k None ≡ get_or xs k None) → sum_by f ys + f (get_or xs n None) ≡ sum_by f xs + f (get_or ys n None)
  sum_by-changed [] [] n same = refl
  sum_by-changed (x ∷ xs) [] zero same =
      omega (arith, nothing, sum_by-cons f x xs, ap f (same 1 (omega arith)), sum_by-changed xs [] 0 (λ k h. same (suc k) (omega arith)))
  sum_by-changed [] (y ∷ ys) zero same =
      omega (arith, nothing, sum_by-cons f y ys, ap f (same 1 (omega arith)), sum_by-changed [] ys 0 (λ k h. same (suc k) (omega arith)))
  sum_by-changed (x ∷ xs) (y ∷ ys) zero same =
      omega (arith, sum_by-cons f x xs, sum_by-cons f y ys, ap f (same 1 (omega arith)), sum_by-changed xs ys 0 (λ k h. same (suc k) (omega arith)))
  sum_by-changed (x ∷ xs) [] (suc n) same =
      omega (arith, nothing, sum_by-cons f x xs, ap f (same 0 (omega arith)), sum_by-changed xs [] n (λ k h. same (suc k) (omega (arith, h))))
  sum_by-changed [] (y ∷ ys) (suc n) same =
      omega (arith, nothing, sum_by-cons f y ys, ap f (same 0 (omega arith)), sum_by-changed [] ys n (λ k h. same (suc k) (omega (arith, h))))
  sum_by-changed (x ∷ xs) (y ∷ ys) (suc n) same =
      omega (arith, sum_by-cons f x xs, sum_by-cons f y ys, ap f (same 0 (omega arith)), sum_by-changed xs ys n (λ k h. same (suc k) (omega (arith, h))))

-- what an account holds changes by what one region counts for it
pub held-changed : (old new : Space) (n account : ℕ) → ((k : ℕ) → k ≢ n → get_or new.regions k None ≡ get_or old.regions k None) → held new account + share account (get_or old.regions n None) ≡ held old account + share account (get_or new.regions n None)
unfolding held share
held-changed old new n account others = sum_by-changed (share account) refl old.regions new.regions n others

-- the same, by what a contract says
pub held-Changes : (old new : Space) (number : ℕ) (region : Option Region) (account : ℕ) → Changes old new number region → held new account + share account (region_at old number) ≡ held old account + share account region
held-Changes old new number region account change = grind (arith, nat_tests, held-changed old new number account change.others, change.others, change.changed)

-- nothing counts nothing
pub share-none : (account : ℕ) → share account None ≡ 0
unfolding share
share-none account = refl

-- what an account holds after a region was given back
pub held-given : (old new : Space) (number account : ℕ) → Changes old new number None → held new account + share account (region_at old number) ≡ held old account
held-given old new number account change = omega (arith, held-Changes old new number None account change, share-none account)

-- what an account holds after a region was taken
pub held-taken : (old new : Space) (number account n other : ℕ) → region_at old number ≡ None → Changes old new number (Some (unwritten account n)) → held new other ≡ held old other + (if account == other then n else 0)
unfolding share
held-taken old new number account n other was change =
    let counts : share other (Some (unwritten account n)) ≡ (if account == other then n else 0) = rw length-replicate refl in
    omega (arith, held-Changes old new number (Some (unwritten account n)) other change, ap (share other) was, counts)

-- a region, if there is one, counts for this account
abbrev pub CountsFor : ℕ → Option Region → Type 0
CountsFor account slot = (region : Region) → slot ≡ Some region → region.account ≡ account

pub counts-for : (slot : Option Region) (region : Region) (account : ℕ) → slot ≡ Some region → region.account ≡ account → CountsFor account slot
counts-for slot region account is same r found = cc

-- what counts for one account counts nothing for another
share-other : (slot : Option Region) (account other : ℕ) → CountsFor account slot → other ≢ account → share other slot ≡ 0
unfolding share
share-other x0 account other counts differs = grind (arith, nat_tests)

-- a region counts its length for its account
pub share-own : (region : Region) (account : ℕ) → region.account ≡ account → share account (Some region) ≡ length region.bytes
unfolding share
share-own region account same = grind (arith, nat_tests)

-- the insides stay sound where one region changes and its account with it
pub IsSound-changed : (xs ys : List (Option Region)) (n : ℕ) (accounts : List Account) (a : ℕ) (entry : Account) → IsSound xs accounts → a < length accounts → ((k : ℕ) → k ≢ n → get_or ys k None ≡ get_or xs k None) → CountsFor a (get_or xs n None) → CountsFor a (get_or ys n None)
    → entry.held + share a (get_or xs n None) ≡ sum_by (share a) xs + share a (get_or ys n None) → IsSound ys (set accounts a entry)
IsSound-changed xs ys n accounts a entry sound below others was now moved =
    let sums = λ (b : ℕ). sum_by-changed (share b) (share-none b) xs ys n others in
    record {
      few = rw length-set sound.few;
      counted = λ k region found. rw length-set (grind (arith, now region, others k, sound.counted k region));
      held = λ b within.
          let same = get_or-set_same accounts a entry no_account below in
          grind (arith, length-set, sums b, get_or-set_other accounts a b entry no_account, sound.held b, share-other (get_or xs n None) a b was, share-other (get_or ys n None) a b now);
    }

-- the counts of what was taken, where one account took more
pub map-taken : (accounts : List Account) (account more : ℕ) (entry : Account) → entry.taken ≡ risen (get_or (map (λ (a : Account). a.taken) accounts) account 0) more → map (λ (a : Account). a.taken) (set accounts account entry) ≡ raised (map (λ (a : Account). a.taken) accounts) account more
map-taken accounts account more entry count =
    map-set (λ (a : Account). a.taken) accounts account entry ∙ ap (set (map (λ (a : Account). a.taken) accounts) account) count ∙ raised-set (map (λ (a : Account). a.taken) accounts) account more

-- a number with a region is a place of the list
pub place-within : (xs : List (Option Region)) (n : ℕ) (region : Region) → get_or xs n None ≡ Some region → n < length xs
place-within xs n region found = grind (arith, get_or_past)

-- a region is not larger than what its account holds
pub length-le-held : (xs : List (Option Region)) (n : ℕ) (region : Region) → get_or xs n None ≡ Some region → length region.bytes ≤ sum_by (share region.account) xs
length-le-held xs n region found = grind (arith, nat_tests, get_or-le-sum_by (share region.account) xs n None (place-within xs n region found), region.account, place-within xs n region found, share-own region region.account refl)

-- the insides stay sound where the region at a number, and what its account holds, change together
pub IsSound-set : (xs : List (Option Region)) (n : ℕ) (region : Region) → get_or xs n None ≡ Some region → (slot : Option Region) (accounts : List Account) → IsSound xs accounts
    → (a : ℕ) → a ≡ region.account → CountsFor a slot → (entry : Account) → entry.held + length region.bytes ≡ sum_by (share a) xs + share a slot → IsSound (set xs n slot) (set accounts a entry)
IsSound-set xs n region found slot accounts sound a account counts entry moved =
    let here : get_or (set xs n slot) n None ≡ slot = get_or-set_same xs n slot None (place-within xs n region found) in
    IsSound-changed xs (set xs n slot) n accounts a entry sound (omega (arith, account, sound.counted n region found)) (λ k differs. get_or-set_other xs n k slot None differs) (λ r is. cc) (λ r is. counts r (sym here ∙ is))
    (omega (arith, moved, ap (share a) here, ap (share a) found, share-own region a (sym account)))

-- the counts of what was taken stay where an account's own stays
pub map-taken_same : (accounts : List Account) (account : ℕ) (entry : Account) → account < length accounts → entry.taken ≡ (account_at accounts account).taken → map (λ (a : Account). a.taken) (set accounts account entry) ≡ map (λ (a : Account). a.taken) accounts
map-taken_same accounts account entry below count =
    rw (map-set (λ (a : Account). a.taken) accounts account entry, count, ← get_or-map (λ (a : Account). a.taken) accounts account no_account 0 below, set-get_or) refl
