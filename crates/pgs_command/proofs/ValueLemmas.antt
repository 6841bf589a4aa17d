-- What a word stands for.
use Rattle.std.proofs.Common.{◌≡◌, ℕ, ◌<◌, ◌≤◌, ◌^◌, Bool, true, false, List, length, Option, Some, None, IsSome, refl, sym, ◌∙◌, ap, subst, get_or, arith}
use Rattle.std.specs.Prelude.{nat_le, ◌&&◌, if◌then◌else◌, IfSome, ◌↔◌}
use Rattle.std.specs.List.{list_all}
use Rattle.std.proofs.lemmas.Bool.{false_from_ne_true}
use Rattle.std.proofs.lemmas.Bool.Decides.{nat_tests}
use Rattle.std.proofs.lemmas.Str.Parse.{IsNumeralModel, numerals_by_value, tells_digits, digit_at}
use Rattle.std.proofs.lemmas.Fmt.{digits_value-decimal, decimal_is_IsNumeral}
use Rattle.std.specs.Int.{IsInRange}
use Rattle.std.proofs.lemmas.List.Folds.{list_all_at}
use Rattle.std.specs.Fmt.{decimal}
use Rattle.std.specs.Str.Parse.{AllDigits, digits_value}
use lib.Pointwise.{bytes_decides}
use Rattle.pgs_step.specs.Name.{IsName, is_name_byte}
use Rattle.pgs_command.specs.Words.{is_text}
use Rattle.pgs_step.specs.declared.lock_modes.Mode.{Mode}
use Rattle.pgs_step.specs.declared.lock_modes.Mode.TheVariants.{AccessShareLock, RowShareLock, RowExclusiveLock, ShareUpdateExclusiveLock, ShareLock, ShareRowExclusiveLock, ExclusiveLock, AccessExclusiveLock}
use Rattle.pgs_step.specs.Mode.{mode_name}
use Rattle.pgs_command.specs.Values.{mode_of, name_of, number_between}

-- ---- texts

pub is_text-same : (word : List ℕ) → is_text word word ≡ true
is_text-same word = (bytes_decides word word).1 refl

pub is_text-means : (a b : List ℕ) → is_text a b ≡ true → a ≡ b
is_text-means a b h = (bytes_decides a b).0 h

-- ---- names

abbrev test : List ℕ → Bool
test word = nat_le 1 (length word) && (nat_le (length word) 32 && list_all is_name_byte word)

tested : (word : List ℕ) → test word ≡ true → IsName word
tested word h = grind (arith, nat_tests)

tests : (word : List ℕ) → IsName word → test word ≡ true
tests word h = grind (arith, nat_tests, h.not_empty, h.short, h.letters)

named : (word : List ℕ) (b : Bool) (r : Option (List ℕ)) → (IsSome r → b ≡ true) → (b ≡ true → IsSome r) → IfSome r (λ name. name ≡ word) → r ≡ (if b then Some word else None)
named word x1 x2 some only v = grind (arith, nat_tests)

-- what `Name::new` answers
pub name_of-is : (word : List ℕ) (r : Option (List ℕ)) → (IsSome r ↔ IsName word) → IfSome r (λ name. name ≡ word) → r ≡ name_of word
unfolding name_of
name_of-is word r s v = named word (test word) r (λ h. tests word (s.0 h)) (λ h. s.1 (tested word h)) v

-- a name has no space
pub name_of-space : (word : List ℕ) (i : ℕ) → i < length word → get_or word i 0 ≡ 32 → name_of word ≡ None
unfolding name_of
name_of-space word i at e = grind (arith, nat_tests, list_all_at)

-- ---- modes

mode_is_name : (mode : Mode) → name_of (mode_name mode) ≡ Some (mode_name mode)
unfolding name_of
mode_is_name x0 = grind (arith, nat_tests)

-- what is no name is no mode
no_mode : (word : List ℕ) → name_of word ≡ None → (mode : Mode) → is_text word (mode_name mode) ≡ false
no_mode word none mode = false_from_ne_true (is_text word (mode_name mode)) (λ same.
    let is : word ≡ mode_name mode = is_text-means word (mode_name mode) same in
    let some : None ≡ Some (mode_name mode) = sym none ∙ ap name_of is ∙ mode_is_name mode in cc)

-- a mode has no space
pub mode_of-space : (word : List ℕ) (i : ℕ) → i < length word → get_or word i 0 ≡ 32 → mode_of word ≡ None
unfolding mode_of
mode_of-space word i at e =
    let no = no_mode word (name_of-space word i at e) in
    rw (no AccessShareLock, no RowShareLock, no RowExclusiveLock, no ShareUpdateExclusiveLock, no ShareLock, no ShareRowExclusiveLock, no ExclusiveLock, no AccessExclusiveLock) refl

-- ---- numbers

model : IsNumeralModel (AllDigits 10) (digits_value 10)
model = numerals_by_value (AllDigits 10) tells_digits

chosen : (text low high : Bool) (n : ℕ) → text ≡ true → low ≡ true → high ≡ true → (if text && (low && high) then Some n else None) ≡ Some n
chosen text low high n t l h = rw t (rw l (rw h refl))

not_chosen : (text low high : Bool) (n : ℕ) → ((text ≡ true) → (low ≡ true) → (high ≡ true) → ⊥) → (if text && (low && high) then Some n else None) ≡ None
not_chosen x0 x1 x2 n h = grind (arith, nat_tests)

-- the number that a word writes is read where it is in the range
pub number_between-some : (least most : ℕ) (word : List ℕ) (n : ℕ) → word ≡ decimal n → least ≤ n → n ≤ most → n < 2 ^ 64 → number_between least most word ≡ Some n
unfolding number_between
number_between-some least most word n e low high small = grind (arith, nat_tests, digits_value-decimal model n small, model, is_text-same word, chosen)

-- a word that writes no number of the range is none
pub number_between-none : (least most : ℕ) (word : List ℕ) → ((n : ℕ) → least ≤ n → n ≤ most → word ≡ decimal n → ⊥) → number_between least most word ≡ None
unfolding number_between
number_between-none least most word h = grind (arith, nat_tests, not_chosen, is_text-means)

-- a number has no space
digit_bytes : (b : ℕ) → IsInRange 48 57 b → b ≡ 32 → ⊥
digit_bytes b h e = grind (arith, nat_tests)

pub number_between-space : (least most : ℕ) (word : List ℕ) → most < 2 ^ 64 → (i : ℕ) → i < length word → get_or word i 0 ≡ 32 → number_between least most word ≡ None
number_between-space least most word small i at e =
    number_between-none least most word (λ n low high written.
    let all : AllDigits 10 word = subst (AllDigits 10) (sym written) (decimal_is_IsNumeral n (omega arith)).0.1 in
    digit_bytes (get_or word i 0) (digit_at word i all at) e)

-- a number below the range is none
pub number_between-low : (least most : ℕ) (word : List ℕ) (n : ℕ) → word ≡ decimal n → n < least → n < 2 ^ 64 → number_between least most word ≡ None
unfolding number_between
number_between-low least most word n e low small = grind (arith, nat_tests, digits_value-decimal model n small, model, not_chosen)

-- ---- bytes
