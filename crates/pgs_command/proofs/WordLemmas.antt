-- The first word of a text, and the words behind it.
use Rattle.std.proofs.Common.{◌≡◌, ◌≢◌, ℕ, ◌<◌, ◌≤◌, ◌==◌, Bool, true, false, List, [], ◌∷◌, length, refl, sym, ◌∙◌, ap, subst, arith}
use Rattle.std.specs.Prelude.{All, min}
use Rattle.std.specs.List.{before_first, after_first, slice_split, position_or_len, onto_first}
use Rattle.std.proofs.lemmas.Bool.Decides.{nat_tests}
use Rattle.std.proofs.lemmas.List.{length-take, take_all}
use Rattle.std.proofs.lemmas.List.Elements.{All-weaker, All-from_get_or}
use Rattle.std.proofs.lemmas.List.Splits.{slice_split_first, slice_split_none}
use Rattle.std.proofs.Common.{Option, None, cond, get_or}
use native.Mathlib.Decide.{dec_lt}
use Rattle.std.specs.Option.{option_and_then}
use Rattle.std.proofs.lemmas.List.Sums.{passes_at_first, fails_before_first}
use Rattle.pgs_command.specs.Words.{words_of, alone, only}

abbrev is_space : ℕ → Bool
is_space b = b == 32

not_space : (b : ℕ) → b ≢ 32 → is_space b ≡ false
not_space b h = grind (arith, nat_tests)

space_is : (b : ℕ) → is_space b ≡ true → b ≡ 32
space_is b h = grind (arith, nat_tests)

-- a word that ends before its text does is followed by the words behind the space
pub words_of-first : (text word rest : List ℕ) → word ≡ before_first (λ b. b == 32) text → rest ≡ after_first (λ b. b == 32) text → length word < length text
    → words_of text ≡ word ∷ words_of rest
unfolding words_of
words_of-first text word rest w r short =
    let n = position_or_len is_space text in
    let cut : length word ≡ min n (length text) = ap length w ∙ length-take n text in
    slice_split_first is_space text 0 (omega arith) ∙ rw (w, r) refl

-- a word that is the whole text is the only one
pub words_of-last : (text word : List ℕ) → word ≡ before_first (λ b. b == 32) text → All (λ b. b ≢ 32) word → length text ≤ length word → words_of text ≡ word ∷ []
unfolding words_of
words_of-last text word w none long =
    let n = position_or_len is_space text in
    let cut : length word ≡ min n (length text) = ap length w ∙ length-take n text in
    let whole : word ≡ text = w ∙ take_all n text (omega arith) in
    let clear : All (λ b. is_space b ≡ false) word = All-weaker (λ b. b ≢ 32) (λ b. is_space b ≡ false) not_space word none in
    slice_split_none is_space text (subst (All (λ b. is_space b ≡ false)) whole clear) ∙ ap (λ z. z ∷ []) (sym whole)

-- a text has a word
parts_some : {A : Type 0} (value : A) (parts : List (List ℕ)) (x : ℕ) → None ≡ alone value (onto_first x parts)
parts_some value x1 x = grind (arith, nat_tests)

cut_some : {A : Type 0} (value : A) (cut : Bool) (xs : List (List ℕ)) (x : ℕ) → None ≡ alone value (cond cut ([] ∷ xs) (onto_first x xs))
cut_some value x1 xs x = grind (arith, nat_tests, parts_some)

pub alone-words_of : {A : Type 0} (value : A) (text : List ℕ) → None ≡ alone value (words_of text)
unfolding words_of
alone-words_of value [] = refl
alone-words_of value (b ∷ bs) = cut_some value (is_space b) (slice_split is_space bs) b

-- ---- a text that is to be one word

one_word : {A : Type 0} (o : Option A) → o ≡ option_and_then (λ value. alone value []) o
one_word x0 = grind (arith, nat_tests)

no_words_more : {A : Type 0} (o : Option A) (rest : List ℕ) → None ≡ option_and_then (λ value. alone value (words_of rest)) o
no_words_more x0 rest = grind (arith, nat_tests, alone-words_of)

-- what reads no text with a space reads a text as its only word
pub only-text : {A : Type 0} (read : List ℕ → Option A) (text : List ℕ) → ((i : ℕ) → i < length text → get_or text i 0 ≡ 32 → read text ≡ None) → read text ≡ only read (words_of text)
unfolding words_of
only-text read text none = elim (dec_lt (position_or_len is_space text) (length text)) [
  | yes short ↦
      let n = position_or_len is_space text in
      let space : get_or text n 0 ≡ 32 = space_is (get_or text n 0) (passes_at_first is_space text 0 short) in
      none n short space
      ∙ no_words_more (read (before_first is_space text)) (after_first is_space text)
      ∙ ap (only read) (sym (slice_split_first is_space text 0 short))
  | no long ↦
      let clear : All (λ b. is_space b ≡ false) text =
      All-from_get_or (λ b. is_space b ≡ false) text 0 (λ k h. fails_before_first is_space text k 0 (omega (arith, long))) in
      one_word (read text) ∙ ap (only read) (sym (slice_split_none is_space text clear))
]
