-- How many sessions of a run pin each buffer: a session sees of it how many others do.
use Rattle.session_rules.proofs.Base.{◌≡◌, ℕ, zero, suc, ◌+◌, ◌-◌, ◌<◌, Bool, true, false, cond, nat_eq, Some, List, [], ◌∷◌, map, refl, sym, ap, ◌∙◌, arith, if◌then◌else◌, slice_get, slice_index, sum_by, range_with_len, eqb-true, eqb-false, sum_by-cons, get_or-map-range_with_len}
use Rattle.session_rules.proofs.Rules.{SessionState, buffer_pin, holds, Numbered, for_buffers, others, pinning_among}

-- 1 for a session that pins a buffer
abbrev pub pinned_once : ℕ → SessionState → ℕ
pinned_once buffer session = if holds buffer_pin buffer session then 1 else 0

-- as many of the others as of all, less the one
module _ (buffer : ℕ) where
  abbrev counted : Numbered → ℕ
  counted other = if holds buffer_pin buffer other.state then 1 else 0

  all_behind : (n k : ℕ) (ss : List SessionState) → n < k → pinning_among (others n k ss) buffer ≡ sum_by (pinned_once buffer) ss
  all_behind n k [] less = refl
  all_behind n k (s ∷ ss) less = by_test (nat_eq k n) refl (all_behind n (k + 1) ss (omega (arith, less)))
    where
      by_test : (t : Bool) → nat_eq k n ≡ t → sum_by counted (others n (k + 1) ss) ≡ sum_by (pinned_once buffer) ss
          → sum_by counted (cond t (others n (k + 1) ss) (record { number = k; state = s } ∷ others n (k + 1) ss)) ≡ sum_by (pinned_once buffer) (s ∷ ss)
      by_test true e rest = absurd (omega (arith, eqb-true k n e, less))
      by_test false e rest =
          sum_by-cons counted (record { number = k; state = s }) (others n (k + 1) ss)
          ∙ ap (λ (m : ℕ). pinned_once buffer s + m) rest
          ∙ sym (sum_by-cons (pinned_once buffer) s ss)

  added : (a b c d : ℕ) → b + c ≡ d → a + b + c ≡ a + d
  added a b c d e = omega (arith, e)

  all_but_one : (n k place : ℕ) (s : SessionState) (ss : List SessionState) → n ≡ k + place → slice_get ss place ≡ Some s
      → pinning_among (others n k ss) buffer + pinned_once buffer s ≡ sum_by (pinned_once buffer) ss
  all_but_one n k place s [] is there = absurd (cc there)
  all_but_one n k zero s (t ∷ ss) is there =
      by_test (nat_eq k n) refl (all_behind n (k + 1) ss (omega (arith, is))) ∙ sym (sum_by-cons (pinned_once buffer) t ss)
    where
      by_test : (b : Bool) → nat_eq k n ≡ b → sum_by counted (others n (k + 1) ss) ≡ sum_by (pinned_once buffer) ss
          → sum_by counted (cond b (others n (k + 1) ss) (record { number = k; state = t } ∷ others n (k + 1) ss)) + pinned_once buffer s ≡ pinned_once buffer t + sum_by (pinned_once buffer) ss
      by_test true e rest = let same : s ≡ t = cc there in rw (rest, same) (omega arith)
      by_test false e rest = absurd (eqb-false k n e (omega (arith, is)))
  all_but_one n k (suc place) s (t ∷ ss) is there =
      by_test (nat_eq k n) refl (all_but_one n (k + 1) place s ss (omega (arith, is)) there)
    where
      by_test : (b : Bool) → nat_eq k n ≡ b → sum_by counted (others n (k + 1) ss) + pinned_once buffer s ≡ sum_by (pinned_once buffer) ss
          → sum_by counted (cond b (others n (k + 1) ss) (record { number = k; state = t } ∷ others n (k + 1) ss)) + pinned_once buffer s ≡ sum_by (pinned_once buffer) (t ∷ ss)
      by_test true e rest = absurd (omega (arith, eqb-true k n e, is))
      by_test false e rest =
          ap (λ (m : ℕ). m + pinned_once buffer s) (sum_by-cons counted (record { number = k; state = t }) (others n (k + 1) ss))
          ∙ added (pinned_once buffer t) (sum_by counted (others n (k + 1) ss)) (pinned_once buffer s) (sum_by (pinned_once buffer) ss) rest
          ∙ sym (sum_by-cons (pinned_once buffer) t ss)

-- the numbers of all buffers, where those of each are the same
same_map : (f g : ℕ → ℕ) (ns : List ℕ) → ((b : ℕ) → f b ≡ g b) → map f ns ≡ map g ns
same_map f g [] same = refl
same_map f g (n ∷ ns) same = ap (λ (m : ℕ). m ∷ map f ns) (same n) ∙ ap (λ (ms : List ℕ). g n ∷ ms) (same_map f g ns same)

pub same_for_buffers : (f g : ℕ → ℕ) → ((b : ℕ) → f b ≡ g b) → for_buffers f ≡ for_buffers g
same_for_buffers f g same = same_map f g (range_with_len 0 1024) same

-- the number of one buffer
pub at_buffer : (f : ℕ → ℕ) (buffer : ℕ) → buffer < 1024 → slice_index (for_buffers f) buffer ≡ f buffer
at_buffer f buffer small = get_or-map-range_with_len f 0 1024 buffer buffer 0 small (omega arith)

-- What a session sees of the pins of the others: of each buffer as many sessions pin it as do in all, less the session itself.
pub pinned_is : (n place : ℕ) (s : SessionState) (ss : List SessionState) (pins : List ℕ) → n ≡ place + 1 → slice_get ss place ≡ Some s → ((buffer : ℕ) → slice_index pins buffer ≡ sum_by (pinned_once buffer) ss)
    → for_buffers (pinning_among (others n 1 ss)) ≡ for_buffers (λ buffer. slice_index pins buffer - pinned_once buffer s)
pinned_is n place s ss pins is there all =
    same_for_buffers (pinning_among (others n 1 ss)) (λ buffer. slice_index pins buffer - pinned_once buffer s)
    (λ buffer. less (pinning_among (others n 1 ss) buffer) (pinned_once buffer s) (slice_index pins buffer) (all_but_one buffer n 1 place s ss (omega (arith, is)) there ∙ sym (all buffer)))
  where
    less : (a b c : ℕ) → a + b ≡ c → a ≡ c - b
    less a b c e = omega (arith, e)
