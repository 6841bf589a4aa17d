-- Pieces of eight bytes.
use Rattle.std.proofs.Common.{◌≡◌, ◌≢◌, ℕ, ◌<◌, ◌+◌, Bool, ◌||◌, not, nat_eq, List, length, take, drop, get_or, sym, subst, arith}
use Rattle.std.specs.Prelude.{All, IsTrue}
use Rattle.std.proofs.Math.Seq.{take-add}
use Rattle.std.proofs.lemmas.Bool.Decides.{nat_tests}
use Rattle.std.proofs.lemmas.List.Elements.{All-get_or, All-from_get_or, All-append}

-- what holds at each of eight places holds at each place below eight
pub below_eight : (P : ℕ → Type 0) → P 0 → P 1 → P 2 → P 3 → P 4 → P 5 → P 6 → P 7 → (k : ℕ) → k < 8 → P k
below_eight P a b c d e f g h x9 less = grind (arith, nat_tests)

not_left : (a b : Bool) → IsTrue (not (a || b)) → IsTrue (not a)
not_left x0 b h = grind (arith, nat_tests)

not_right : (a b : Bool) → IsTrue (not (a || b)) → IsTrue (not b)
not_right x0 x1 h = grind (arith, nat_tests)

not_either : (a b : Bool) → IsTrue (not a) → IsTrue (not b) → IsTrue (not (a || b))
not_either x0 b g h = grind (arith, nat_tests)

is_other : (x byte : ℕ) → IsTrue (not (nat_eq x byte)) → x ≢ byte
is_other x byte h = grind (arith, nat_tests)

tests_other : (x byte : ℕ) → x ≢ byte → IsTrue (not (nat_eq x byte))
tests_other x byte n = grind (arith, nat_tests)

abbrev pub is_met : List ℕ → ℕ → ℕ → Bool
is_met piece byte k = nat_eq (get_or piece k 0) byte

-- no test of the eight is met
abbrev pub none_met : List ℕ → ℕ → Bool
none_met piece byte =
    not ((((is_met piece byte 0 || is_met piece byte 1) || is_met piece byte 2) || is_met piece byte 3)
    || (((is_met piece byte 4 || is_met piece byte 5) || is_met piece byte 6) || is_met piece byte 7))

-- where no test is met, all eight are others
pub All-none_met : (piece : List ℕ) (byte : ℕ) → length piece ≡ 8 → IsTrue (none_met piece byte) → All (λ b. b ≢ byte) piece
All-none_met piece byte eight h =
    let m = is_met piece byte in
    let first : IsTrue (not (((m 0 || m 1) || m 2) || m 3)) = not_left (((m 0 || m 1) || m 2) || m 3) (((m 4 || m 5) || m 6) || m 7) h in
    let last : IsTrue (not (((m 4 || m 5) || m 6) || m 7)) = not_right (((m 0 || m 1) || m 2) || m 3) (((m 4 || m 5) || m 6) || m 7) h in
    let first_three : IsTrue (not ((m 0 || m 1) || m 2)) = not_left ((m 0 || m 1) || m 2) (m 3) first in
    let last_three : IsTrue (not ((m 4 || m 5) || m 6)) = not_left ((m 4 || m 5) || m 6) (m 7) last in
    let first_two : IsTrue (not (m 0 || m 1)) = not_left (m 0 || m 1) (m 2) first_three in
    let last_two : IsTrue (not (m 4 || m 5)) = not_left (m 4 || m 5) (m 6) last_three in
    let other = λ (k : ℕ). is_other (get_or piece k 0) byte in
    All-from_get_or (λ b. b ≢ byte) piece 0
    (λ k less. below_eight (λ i. get_or piece i 0 ≢ byte)
    (other 0 (not_left (m 0) (m 1) first_two))
    (other 1 (not_right (m 0) (m 1) first_two))
    (other 2 (not_right (m 0 || m 1) (m 2) first_three))
    (other 3 (not_right ((m 0 || m 1) || m 2) (m 3) first))
    (other 4 (not_left (m 4) (m 5) last_two))
    (other 5 (not_right (m 4) (m 5) last_two))
    (other 6 (not_right (m 4 || m 5) (m 6) last_three))
    (other 7 (not_right ((m 4 || m 5) || m 6) (m 7) last))
    k (omega arith))

-- where all eight are others, no test is met
pub none_met-All : (piece : List ℕ) (byte : ℕ) → length piece ≡ 8 → All (λ b. b ≢ byte) piece → IsTrue (none_met piece byte)
none_met-All piece byte eight all = grind (arith, nat_tests, tests_other, All-get_or, not_either)

-- bytes that are others, and behind them a piece of such
pub All-piece : (xs : List ℕ) (at n size byte : ℕ) → n ≡ size → All (λ b. b ≢ byte) (take at xs) → All (λ b. b ≢ byte) (take n (drop at xs)) → All (λ b. b ≢ byte) (take (at + size) xs)
All-piece xs at n size byte e before here =
    subst (λ k. All (λ b. b ≢ byte) (take (at + k) xs)) e
    (subst (All (λ b. b ≢ byte)) (sym (take-add at n xs)) (All-append (λ b. b ≢ byte) (take at xs) (take n (drop at xs)) before here))
