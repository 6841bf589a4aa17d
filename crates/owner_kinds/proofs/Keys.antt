-- Lemmas on keys in rising order, and on how often a key stands among them.
use Rattle.std.proofs.Common.{◌≡◌, ℕ, ◌+◌, ◌<◌, ◌≤◌, zero, suc, List, [], ◌∷◌, ◌++◌, length, get_or, ◌==◌, cond, refl, sym, ◌∙◌, ap, arith, false, inl, inr, Some, None, position}
use Rattle.std.specs.List.{remove, position_or_len}
use Rattle.std.proofs.lemmas.List.Sums.{fails_before_first}
use Rattle.std.proofs.lemmas.List.Quantifiers.{position-Some}
use Rattle.std.proofs.lemmas.Bool.{cases_order}
use Rattle.std.proofs.lemmas.Bool.Decides.{nat_tests}
use Rattle.owner_kinds.specs.Kind.{times, with_key, without_key, keys_in_order}

pub length-with_key : (key : ℕ) (ks : List ℕ) → length (with_key key ks) ≡ length ks + 1
length-with_key key [] = refl
length-with_key key (k ∷ ks) = grind (arith, length-with_key key ks)

pub length-keys_in_order : (ks : List ℕ) → length (keys_in_order ks) ≡ length ks
length-keys_in_order [] = refl
length-keys_in_order (k ∷ ks) = grind (arith, length-keys_in_order ks, length-with_key k (keys_in_order ks))

-- a key that was put in is the one that is taken out
pub without_key-with_key : (key : ℕ) (ks : List ℕ) → without_key key (with_key key ks) ≡ ks
without_key-with_key key [] = grind (arith, nat_tests)
without_key-with_key key (k ∷ ks) = grind (arith, nat_tests, without_key-with_key key ks)

with_key-swap_below : (a b : ℕ) (ks : List ℕ) → a < b → with_key a (with_key b ks) ≡ with_key b (with_key a ks)
with_key-swap_below a b [] below = grind (arith, nat_tests)
with_key-swap_below a b (k ∷ ks) below = grind (arith, nat_tests, with_key-swap_below a b ks below)

-- two keys may be put in in either order
pub with_key-swap : (a b : ℕ) (ks : List ℕ) → with_key a (with_key b ks) ≡ with_key b (with_key a ks)
with_key-swap a b ks =
    elim (cases_order a b) as (λ _. with_key a (with_key b ks) ≡ with_key b (with_key a ks)) [
      | inl same ↦ rw same refl
      | inr other ↦
          elim other as (λ _. with_key a (with_key b ks) ≡ with_key b (with_key a ks)) [
            | inl below ↦ with_key-swap_below a b ks below
            | inr above ↦ sym (with_key-swap_below b a ks above)
          ]
    ]

-- a key behind is put in as well as one in front
pub keys_in_order-push : (ks : List ℕ) (key : ℕ) → keys_in_order (ks ++ key ∷ []) ≡ with_key key (keys_in_order ks)
keys_in_order-push [] key = refl
keys_in_order-push (k ∷ ks) key =
    ap (with_key k) (keys_in_order-push ks key) ∙ with_key-swap k key (keys_in_order ks)

keys_in_order-take_out :
    (ks : List ℕ) (i key : ℕ) → i < length ks → get_or ks i 0 ≡ key → keys_in_order ks ≡ with_key key (keys_in_order (remove ks i))
keys_in_order-take_out [] i key within is = absurd (omega arith)
keys_in_order-take_out (k ∷ ks) zero key within is = ap (λ z. with_key z (keys_in_order ks)) is
keys_in_order-take_out (k ∷ ks) (suc i) key within is =
    ap (with_key k) (keys_in_order-take_out ks i key (omega arith) is) ∙ with_key-swap k key (keys_in_order (remove ks i))

-- a key of the list taken out
pub keys_in_order-remove :
    (ks : List ℕ) (i key : ℕ) → i < length ks → get_or ks i 0 ≡ key → keys_in_order (remove ks i) ≡ without_key key (keys_in_order ks)
keys_in_order-remove ks i key within is =
    sym (without_key-with_key key (keys_in_order (remove ks i))) ∙ ap (without_key key) (sym (keys_in_order-take_out ks i key within is))

pub times-with_key : (q key : ℕ) (ks : List ℕ) → times q (with_key key ks) ≡ times q ks + cond (q == key) 1 0
times-with_key q key [] = grind (arith, nat_tests)
times-with_key q key (k ∷ ks) = grind (arith, nat_tests, times-with_key q key ks)

pub times-without_key : (q key : ℕ) (ks : List ℕ) → 1 ≤ times key ks → times q (without_key key ks) + cond (q == key) 1 0 ≡ times q ks
times-without_key q key [] held = absurd (omega arith)
times-without_key q key (k ∷ ks) held = grind (arith, nat_tests, times-without_key q key ks)

pub times-keys_in_order : (q : ℕ) (ks : List ℕ) → times q (keys_in_order ks) ≡ times q ks
times-keys_in_order q [] = refl
times-keys_in_order q (k ∷ ks) = grind (arith, nat_tests, times-keys_in_order q ks, times-with_key q k (keys_in_order ks))

-- a key that stands among the keys has a place
nowhere : (key : ℕ) (ks : List ℕ) → ((k : ℕ) → k < length ks → (get_or ks k 0 == key) ≡ false) → times key ks ≡ 0
nowhere key [] none = refl
nowhere key (k ∷ ks) none =
    let first : (k == key) ≡ false = none 0 (omega arith) in
    let rest : times key ks ≡ 0 = nowhere key ks (λ i within. none (suc i) (omega arith)) in
    grind (arith, first, rest)

no_place : (key : ℕ) (ks : List ℕ) → position (λ z. z == key) ks ≡ None → length ks ≤ position_or_len (λ z. z == key) ks
no_place key ks none = grind (arith, nat_tests, none)

pub none_held : (key : ℕ) (ks : List ℕ) → position (λ z. z == key) ks ≡ None → times key ks ≡ 0
none_held key ks none =
    let past : length ks ≤ position_or_len (λ z. z == key) ks = no_place key ks none in
    nowhere key ks (λ k within. fails_before_first (λ z. z == key) ks k 0 (omega arith))

pub place_held :
    (key : ℕ) (ks : List ℕ) (i : ℕ) → position (λ z. z == key) ks ≡ Some i →
    keys_in_order (remove ks i) ≡ without_key key (keys_in_order ks)
place_held key ks i found =
    let facts = position-Some (λ z. z == key) ks i 0 found in
    let is : get_or ks i 0 ≡ key = grind (arith, nat_tests, facts.1) in
    keys_in_order-remove ks i key facts.0 is
