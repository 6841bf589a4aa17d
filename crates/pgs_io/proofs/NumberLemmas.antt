-- Lemmas on the text of a number.
use Rattle.std.proofs.Common.{◌≡◌, ◌<◌, ◌≤◌, ◌+◌, ◌*◌, ◌^◌, ℕ, List, length, get_or, take, zero, suc, sym, ◌∙◌, ap, subst, arith}
use Rattle.std.proofs.lemmas.Bool.Decides.{nat_tests}
use Rattle.std.proofs.lemmas.Int.Digits.{digits_value_more}
use Rattle.std.proofs.lemmas.Str.Parse.{IsNumeralModel, numerals_by_value, tells_digits, digits_value-take-le, digit_at}
use Rattle.std.proofs.lemmas.Fmt.{decimal_is_IsNumeral, decimal_digit, decimal_nonempty, first_decimal, decimal-digits_value}
use Rattle.std.specs.Char.{digit_value}
use Rattle.std.specs.Fmt.{decimal}
use Rattle.std.specs.Int.{IsInRange}
use Rattle.std.specs.Str.Parse.{AllDigits, digits_value}

own : IsNumeralModel (AllDigits 10) (digits_value 10)
own = numerals_by_value (AllDigits 10) tells_digits

digit_value-small : (c : ℕ) → IsInRange 48 57 c → digit_value c < 10
digit_value-small c h = grind (arith, nat_tests)

-- no number writes an empty word
pub decimal-not_empty : (word : List ℕ) (n : ℕ) → n < 2 ^ 64 → word ≡ decimal n → 0 < length word
decimal-not_empty word n small e = subst (λ w. 0 < length w) (sym e) (decimal_nonempty n small)

-- nor a longer word with a zero in front
pub decimal-no_zero : (word : List ℕ) (n : ℕ) → n < 2 ^ 64 → word ≡ decimal n → get_or word 0 0 ≡ 48 → length word ≤ 1
decimal-no_zero word zero small e first = subst (λ w. length w ≤ 1) (sym (e ∙ decimal_digit 0 (omega arith))) (omega arith)
decimal-no_zero word (suc n) small e zero' = grind (arith, nat_tests, first_decimal (suc n) (omega arith) small)

-- the front of a number's text writes no greater number
pub decimal-front : (word : List ℕ) (i n : ℕ) → n < 2 ^ 64 → word ≡ decimal n → digits_value 10 (take i word) ≤ n
decimal-front word i n small e =
    let numeral : digits_value 10 (decimal n) ≡ n = (decimal_is_IsNumeral n small).1 in
    let whole : digits_value 10 word ≡ n = ap (digits_value 10) e ∙ numeral in
    let front : digits_value 10 (take i word) ≤ digits_value 10 word = digits_value-take-le 10 word i (omega arith) in
    omega arith

-- each byte of it is a digit that goes on with a number that fits
pub decimal-goes_on : (word : List ℕ) (i n : ℕ) → n < 2 ^ 64 → word ≡ decimal n → i < length word
    → (digit_value (get_or word i 0) < 10) × (digits_value 10 (take i word) * 10 + digit_value (get_or word i 0) < 2 ^ 64)
decimal-goes_on word i n small e at =
    let all : AllDigits 10 word = subst (AllDigits 10) (sym e) (decimal_is_IsNumeral n small).0.1 in
    let digit : digit_value (get_or word i 0) < 10 = digit_value-small (get_or word i 0) (digit_at word i all at) in
    let more : digits_value 10 (take (i + 1) word) ≡ digits_value 10 (take i word) * 10 + digit_value (get_or word i 0) = digits_value_more 10 word i at in
    let front : digits_value 10 (take (i + 1) word) ≤ n = decimal-front word (i + 1) n small e in
    (digit, omega arith)

-- digits without a leading zero are the text of what they write
pub decimal-of_digits : (word : List ℕ) → AllDigits 10 word → 0 < length word → (get_or word 0 0 ≡ 48 → length word ≡ 1) → digits_value 10 word < 2 ^ 64
    → word ≡ decimal (digits_value 10 word)
decimal-of_digits word all some lead small = sym (decimal-digits_value own word all some lead small)
