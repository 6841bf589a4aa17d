-- The first place of a byte.
use Rattle.std.proofs.Common.{◌≡◌, ◌≢◌, ℕ, ◌<◌, ◌≤◌, ◌==◌, true, false, List, length, take, get_or, Some, None, subst, arith}
use Rattle.std.specs.Prelude.{All, position}
use Rattle.std.specs.List.{position_or_len}
use Rattle.std.proofs.lemmas.Bool.Decides.{nat_tests}
use Rattle.std.proofs.lemmas.List.{get_or-take}
use Rattle.std.proofs.lemmas.List.Elements.{All-get_or}
use Rattle.std.proofs.lemmas.List.Sums.{position_or_len_is}
use Rattle.std.proofs.Common.{length-take-le}

is_byte : (x byte : ℕ) → x ≡ byte → (x == byte) ≡ true
is_byte x byte e = grind (arith, nat_tests)

no_byte : (x byte : ℕ) → x ≢ byte → (x == byte) ≡ false
no_byte x byte n = grind (arith, nat_tests)

no_byte_before : (xs : List ℕ) (i byte k : ℕ) → i ≤ length xs → All (λ b. b ≢ byte) (take i xs) → k < i → (get_or xs k 0 == byte) ≡ false
no_byte_before xs i byte k bound all less =
    no_byte (get_or xs k 0) byte
    (subst (λ b. b ≢ byte) (get_or-take i xs k 0 less)
    (All-get_or (λ b. b ≢ byte) (take i xs) k 0 (omega (arith, length-take-le i xs bound)) all))

-- behind bytes that are others, a byte is the first one
pub position_is : (xs : List ℕ) (i byte : ℕ) → i < length xs → All (λ b. b ≢ byte) (take i xs) → get_or xs i 0 ≡ byte → Some i ≡ position (λ b. b == byte) xs
position_is xs i byte less all e =
    let n : position_or_len (λ b. b == byte) xs ≡ i =
    position_or_len_is (λ b. b == byte) xs i 0 (omega arith) (λ k h. no_byte_before xs i byte k (omega arith) all h) (λ _. is_byte (get_or xs i 0) byte e) in
    grind (arith, nat_tests)

-- where all bytes are others, it has no place
pub position_none : (xs : List ℕ) (byte : ℕ) → All (λ b. b ≢ byte) xs → None ≡ position (λ b. b == byte) xs
position_none xs byte all =
    let n : position_or_len (λ b. b == byte) xs ≡ length xs =
    position_or_len_is (λ b. b == byte) xs (length xs) 0 (omega arith) (λ k h. no_byte (get_or xs k 0) byte (All-get_or (λ b. b ≢ byte) xs k 0 h all)) (λ h. absurd (omega arith)) in
    grind (arith, nat_tests)
