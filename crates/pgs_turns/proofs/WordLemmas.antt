-- Numbers among the words of a line.
use Rattle.pgs_turns.proofs.Base.{◌≡◌, ℕ, ◌<◌, ◌≤◌, ◌^◌, true, false, List, [], ◌∷◌, ◌++◌, length, Some, refl, sym, arith, All, ◌==◌, decimal, list_all, nat_tests, All-nil, All-cons}
use Rattle.pgs_turns.proofs.Words.{IsName, is_name_byte, words_of, name_of, number_between}
use Rattle.std.specs.Char.{digit_value}
use Rattle.std.specs.Str.Parse.{AllDigits}
use Rattle.std.proofs.lemmas.Fmt.{decimal_is_IsNumeral, length-decimal-le}
use Rattle.std.proofs.lemmas.List.Splits.{slice_split_at, slice_split_none}
use Rattle.pgs_command.proofs.ValueLemmas.{name_of-is, number_between-some}

-- a digit is no space
digit_no_space : (c : ℕ) → digit_value c < 10 → (c == 32) ≡ false
digit_no_space c h = grind (arith, nat_tests)

digits_no_space : (ds : List ℕ) → AllDigits 10 ds → All (λ b. (b == 32) ≡ false) ds
digits_no_space [] h = All-nil (λ b. (b == 32) ≡ false)
digits_no_space (c ∷ cs) h = All-cons (λ b. (b == 32) ≡ false) c cs (digit_no_space c h.0) (digits_no_space cs h.1)

-- and it is a byte of a name
digit_named : (c : ℕ) → digit_value c < 10 → is_name_byte c ≡ true
digit_named c h = grind (arith, nat_tests)

digits_named : (ds : List ℕ) → AllDigits 10 ds → list_all is_name_byte ds ≡ true
digits_named [] h = refl
digits_named (c ∷ cs) h = rw (digit_named c h.0) (digits_named cs h.1)

all_digits : (n : ℕ) → n < 2 ^ 64 → AllDigits 10 (decimal n)
all_digits n small = (decimal_is_IsNumeral n small).0.1

-- the text of a number is one word, the last of its text or before a space
pub number_last : (n : ℕ) → n < 2 ^ 64 → words_of (decimal n) ≡ decimal n ∷ []
unfolding words_of
number_last n small = slice_split_none (λ b. b == 32) (decimal n) (digits_no_space (decimal n) (all_digits n small))

pub number_first : (n : ℕ) (rest : List ℕ) → n < 2 ^ 64 → words_of (decimal n ++ (32 ∷ rest)) ≡ decimal n ∷ words_of rest
unfolding words_of
number_first n rest small = slice_split_at (λ b. b == 32) (decimal n) 32 rest (digits_no_space (decimal n) (all_digits n small)) refl

pub short_number : (n : ℕ) → n < 2 ^ 32 → length (decimal n) ≤ 10
short_number n small = length-decimal-le 10 n (omega arith) (omega arith) (omega arith)

-- a letter and a number behind it are a name
pub is_numbered_name : (letter n : ℕ) → is_name_byte letter ≡ true → n < 2 ^ 32 → IsName (letter ∷ decimal n)
is_numbered_name letter n named small = grind (arith, nat_tests, short_number n small, digits_named (decimal n) (all_digits n (omega arith)), all_digits n (omega arith))

pub name_of-name : (word : List ℕ) → IsName word → name_of word ≡ Some word
name_of-name word h = sym (name_of-is word (Some word) ((λ _. h), λ _. refl) refl)

pub number_of-number : (most n : ℕ) → n ≤ most → n < 2 ^ 64 → number_between 0 most (decimal n) ≡ Some n
number_of-number most n within small = number_between-some 0 most (decimal n) n refl (omega arith) within small
