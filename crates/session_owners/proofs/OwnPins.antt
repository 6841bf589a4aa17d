-- The buffers that a session pins by its own counts are those that its owners pin.
use Rattle.session_owners.proofs.Base.{nat_tests, ◌≡◌, ◌≢◌, ℕ, ◌+◌, ◌-◌, ◌≤◌, Bool, false, ◌||◌, List, ◌++◌, ◌∷◌, [], refl, sym, ap, ◌∙◌, arith, nat_lt, if◌then◌else◌, slice_index, list_any, ne_eqb}
use Rattle.session_owners.proofs.Words.{Item, Empty, Node, is_of, OwnerTree, held, remembered, buffer_pin, all_items, for_buffers, pinned_beside, pinned_once, PinsBalance, once_in}
use Rattle.session_owners.proofs.OpenFiles.{held_all}
use Rattle.session_owners.proofs.OpenCounts.{any_counts}

-- one where a number is more than none
once : ℕ → ℕ
once n = if nat_lt 0 n then 1 else 0

-- owners pin a buffer where they hold it
once_held : (owners : OwnerTree) (buffer : ℕ) → pinned_once buffer owners ≡ once (held buffer_pin buffer owners)
unfolding once
once_held owners buffer = grind (arith, nat_tests, any_counts (is_of buffer_pin buffer) (all_items owners), held_all buffer_pin buffer owners)

pub pinned_same : (a b : OwnerTree) (buffer : ℕ) → held buffer_pin buffer b ≡ held buffer_pin buffer a → pinned_once buffer b ≡ pinned_once buffer a
pinned_same a b buffer same = once_held b buffer ∙ ap once same ∙ sym (once_held a buffer)

-- an item that is no pin, taken by an owner
any_both : {A : Type 0} (test : A → Bool) (xs ys : List A) → list_any test (xs ++ ys) ≡ (list_any test xs || list_any test ys)
any_both test [] ys = refl
any_both test (x ∷ xs) ys = grind (arith, any_both test xs ys)

any_remembered : (test : Item → Bool) (n : ℕ) (item : Item) (t : OwnerTree) → test item ≡ false → list_any test (all_items (remembered n item t)) ≡ list_any test (all_items t)
any_remembered test n item Empty not_it = refl
any_remembered test n item (Node k owner below beside) not_it = grind (arith, nat_tests, any_both test owner.items (all_items (remembered n item below) ++ all_items (remembered n item beside)), any_both test (all_items (remembered n item below)) (all_items (remembered n item beside)), any_both test owner.items (all_items below ++ all_items beside), any_both test (all_items below) (all_items beside), any_remembered test n item below not_it, any_remembered test n item beside not_it)

pub pinned_remembered : (n : ℕ) (item : Item) (t : OwnerTree) (buffer : ℕ) → item.kind.0 ≢ 1 → pinned_once buffer (remembered n item t) ≡ pinned_once buffer t
pinned_remembered n item t buffer other = grind (arith, nat_tests, any_remembered (is_of buffer_pin buffer) n item t, ne_eqb item.kind.0 1 other)

-- and their session counts it so
pub pinned_own : (pins : List ℕ) (owners : OwnerTree) (buffer : ℕ) → slice_index pins buffer ≡ held buffer_pin buffer owners → once_in pins buffer ≡ pinned_once buffer owners
unfolding once
pinned_own pins owners buffer same = ap once same ∙ sym (once_held owners buffer)

-- what is in balance with a session's own counts is in balance with its owners
pub pins_balance : (a b c d : List ℕ) (old new : OwnerTree) → ((buffer : ℕ) → slice_index a buffer ≡ held buffer_pin buffer old) → ((buffer : ℕ) → slice_index b buffer ≡ held buffer_pin buffer new) → PinsBalance a b c d
    → (buffer : ℕ) → slice_index d buffer + pinned_once buffer old ≡ slice_index c buffer + pinned_once buffer new
pins_balance a b c d old new before behind balance buffer = rw (← pinned_own a old buffer (before buffer), ← pinned_own b new buffer (behind buffer)) (balance buffer)

-- once at most
pub at_most_once : (buffer : ℕ) (owners : OwnerTree) → pinned_once buffer owners ≤ 1
at_most_once buffer owners = grind arith

-- as many others pin each buffer where these owners pin the same ones, and where the balance is kept
pub beside_still : (s t : OwnerTree) (ps : List ℕ) → ((buffer : ℕ) → pinned_once buffer t ≡ pinned_once buffer s) → pinned_beside s ps ≡ pinned_beside t ps
beside_still s t ps same = ap for_buffers (λ i buffer. left buffer i)
  where
    left : (buffer : ℕ) → slice_index ps buffer - pinned_once buffer s ≡ slice_index ps buffer - pinned_once buffer t
    left buffer = ap (λ (n : ℕ). slice_index ps buffer - n) (sym (same buffer))

pub beside_same : (s t : OwnerTree) (ps qs : List ℕ) → ((buffer : ℕ) → slice_index qs buffer + pinned_once buffer s ≡ slice_index ps buffer + pinned_once buffer t) → pinned_beside s ps ≡ pinned_beside t qs
beside_same s t ps qs balance = ap for_buffers (λ i buffer. left buffer i)
  where
    left : (buffer : ℕ) → slice_index ps buffer - pinned_once buffer s ≡ slice_index qs buffer - pinned_once buffer t
    left buffer = omega (arith, balance buffer, at_most_once buffer s, at_most_once buffer t)
