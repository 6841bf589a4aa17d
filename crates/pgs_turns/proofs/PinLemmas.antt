-- How many sessions pin each buffer, when what one of them pins changes, and what each sees of the others.
use Rattle.pgs_turns.proofs.Base.{nat_tests, ◌≡◌, ℕ, zero, suc, ◌+◌, ◌-◌, ◌^◌, ◌≤◌, List, [], ◌∷◌, length, Some, refl, sym, ap, ◌∙◌, arith, replicate, slice_get, slice_index, slice_index_or, slice_set, sum_by, get_or-le-sum_by, sum_by-cons, sum_by-set, get_or_from_slice_get, slice_get_within}
use Rattle.pgs_turns.proofs.Words.{Empty, Space, for_buffers, others, pinning_among, Balances, CommonState, PinsServe, pinned_beside, pinned_once, owners_of, StoreState, session_of, PinsFit, sessions_in}
use Rattle.session_rules.proofs.Pinned as rules
use Rattle.session_rules.proofs.Pinned.{pinned_is}
use Rattle.session_owners.proofs.OwnPins.{at_most_once}

-- 1 for a session that pins a buffer
abbrev once_by : ℕ → StoreState → ℕ
once_by buffer store = pinned_once buffer (owners_of store.owners)

-- what counts each of a list once at most counts no more than its length
sum_by-le-length : {X : Type 0} (f : X → ℕ) → ((x : X) → f x ≤ 1) → (xs : List X) → sum_by f xs ≤ length xs
sum_by-le-length f one [] = omega arith
sum_by-le-length f one (x ∷ xs) = omega (arith, sum_by-cons f x xs, one x, sum_by-le-length f one xs)

-- what sessions have pinned serves each of them
pub pins_serve : (stores : List StoreState) (pins : List ℕ) → PinsFit stores pins → length stores ≤ 2 ^ 31 → (place : ℕ) (store : StoreState) → slice_get stores place ≡ Some store → PinsServe (owners_of store.owners) pins
pins_serve stores pins fit few place store there = record {
  own = λ buffer.
      let is : slice_index_or stores place store ≡ store = get_or_from_slice_get stores place store store there in
      omega (arith, fit.counted buffer, ap (once_by buffer) is, get_or-le-sum_by (once_by buffer) stores place store (slice_get_within stores place store there));
  few = λ buffer. omega (arith, fit.counted buffer, few, sum_by-le-length (once_by buffer) (λ s. at_most_once buffer (owners_of s.owners)) stores);
}

-- one session's part changed
pub pins_behind : (stores : List StoreState) (place : ℕ) (store left : StoreState) (c d : CommonState) → slice_get stores place ≡ Some store → Balances store.owners left.owners c d → PinsFit stores c.pins
    → PinsFit (slice_set stores place left) d.pins
pins_behind stores place store left c d there balances fit = record {
  counted = λ buffer.
      let is : slice_index_or stores place store ≡ store = get_or_from_slice_get stores place store store there in
      omega (
        arith,
        fit.counted buffer,
        balances.pins buffer,
        ap (once_by buffer) is,
        sum_by-set (once_by buffer) stores place left store (slice_get_within stores place store there),
      );
}

-- sessions without owners pin no buffer
none_pinned : (buffer : ℕ) (stores : List StoreState) → ((place : ℕ) (store : StoreState) → slice_get stores place ≡ Some store → owners_of store.owners ≡ Empty) → sum_by (once_by buffer) stores ≡ 0
none_pinned buffer [] none = refl
none_pinned buffer (store ∷ stores) none =
    let own : once_by buffer store ≡ 0 = ap (pinned_once buffer) (none 0 store refl) in
    omega (arith, own, sum_by-cons (once_by buffer) store stores, none_pinned buffer stores (λ place other there. none (suc place) other there))

zero_at : (n buffer : ℕ) → slice_index (replicate n 0) buffer ≡ 0
zero_at zero buffer = refl
zero_at (suc n) zero = refl
zero_at (suc n) (suc buffer) = zero_at n buffer

pub no_pins : (buffer : ℕ) → slice_index (replicate 1024 0) buffer ≡ 0
no_pins buffer = zero_at 1024 buffer

pub pins_opened : (stores : List StoreState) (pins : List ℕ) → ((place : ℕ) (store : StoreState) → slice_get stores place ≡ Some store → owners_of store.owners ≡ Empty) → pins ≡ replicate 1024 0 → PinsFit stores pins
pins_opened stores pins none unpinned = record {
  counted = λ buffer. ap (λ (xs : List ℕ). slice_index xs buffer) unpinned ∙ no_pins buffer ∙ sym (none_pinned buffer stores none);
}

-- what a session sees of the pins of the others
in_sessions : (buffer : ℕ) (s : Space) (stores : List StoreState) → sum_by (once_by buffer) stores ≡ sum_by (rules.pinned_once buffer) (sessions_in stores s)
unfolding session_of
in_sessions buffer s [] = refl
in_sessions buffer s (store ∷ stores) = grind (arith, nat_tests, sum_by-cons (once_by buffer) store stores, in_sessions buffer s stores, sum_by-cons (rules.pinned_once buffer) (session_of store s) (sessions_in stores s))

seen_beside : (store : StoreState) (s : Space) (pins : List ℕ) → for_buffers (λ buffer. slice_index pins buffer - rules.pinned_once buffer (session_of store s)) ≡ pinned_beside (owners_of store.owners) pins
unfolding session_of
seen_beside store s pins = refl

pub others_pinned : (stores : List StoreState) (s : Space) (pins : List ℕ) (place : ℕ) (store : StoreState) → slice_get (sessions_in stores s) place ≡ Some (session_of store s) → PinsFit stores pins → (n : ℕ) → n ≡ place + 1
    → for_buffers (pinning_among (others n 1 (sessions_in stores s))) ≡ pinned_beside (owners_of store.owners) pins
others_pinned stores s pins place store there fit n is =
    pinned_is n place (session_of store s) (sessions_in stores s) pins is there (λ buffer. fit.counted buffer ∙ in_sessions buffer s stores) ∙ seen_beside store s pins
