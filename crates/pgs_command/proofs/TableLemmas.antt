-- Rows that are tried one behind another.
use Rattle.std.proofs.Common.{◌≡◌, ℕ, Bool, true, false, nat_eq, List, [], ◌∷◌, ◌++◌, length, Option, None, refl, sym, ◌∙◌, ap, subst, take, cond, arith}
use Rattle.std.proofs.lemmas.List.{take_all}
use Rattle.std.specs.List.{list_any, list_all}
use Rattle.std.proofs.lemmas.Bool.{and_parts}
use Rattle.std.specs.Option.{option_or, is_some}
use Rattle.pgs_command.specs.Words.{is_text, words_of}
use Rattle.pgs_command.specs.Table.{Row, look_up, table, command_of, transaction_rows, item_rows, context_rows, chunk_rows, lock_rows, snapshot_rows, plan_rows, portal_rows, tell_rows}
use Rattle.pgs_command.proofs.ValueLemmas.{is_text-means}
use Rattle.pgs_command.specs.declared.commands.Command.{Command}
use Rattle.std.proofs.lemmas.Bool.Decides.{nat_tests}

or_first : {A : Type 0} (o p : Option A) → is_some o ≡ true → o ≡ option_or o p
or_first x0 p e = grind (arith, nat_tests)

is_none : {A : Type 0} (o : Option A) → is_some o ≡ false → None ≡ o
is_none x0 e = grind (arith, nat_tests)

or_assoc : {A : Type 0} (o p q : Option A) → option_or (option_or o p) q ≡ option_or o (option_or p q)
or_assoc x0 p q = grind (arith, nat_tests)

pub look_up-append : (a b : List Row) (word : List ℕ) (words : List (List ℕ)) → look_up (a ++ b) word words ≡ option_or (look_up a word words) (look_up b word words)
look_up-append [] b word words = refl
look_up-append (r ∷ a) b word words = grind (arith, nat_tests, r.word, r.reads words, look_up-append a b word words, or_assoc)

-- a part of the table that the line isn't in, and then those behind it
pub past : (a b : List Row) (word : List ℕ) (words : List (List ℕ)) (r : Option Command) → false ≡ is_some (look_up a word words) → r ≡ look_up b word words → r ≡ look_up (a ++ b) word words
past a b word words r missing e = e ∙ ap (λ p. option_or p (look_up b word words)) (is_none (look_up a word words) (sym missing)) ∙ sym (look_up-append a b word words)

-- the part of the table that the line is in
pub within : (a b : List Row) (word : List ℕ) (words : List (List ℕ)) (r : Option Command) → true ≡ is_some (look_up a word words) → r ≡ look_up a word words → r ≡ look_up (a ++ b) word words
within a b word words r there here = here ∙ or_first (look_up a word words) (look_up b word words) (sym there) ∙ sym (look_up-append a b word words)

-- the last part of the table, where the line isn't in it either
pub nowhere : (a : List Row) (word : List ℕ) (words : List (List ℕ)) → false ≡ is_some (look_up a word words) → None ≡ look_up a word words
nowhere a word words missing = is_none (look_up a word words) (sym missing)

pub command_of-table : (text word : List ℕ) (words : List (List ℕ)) (r : Option Command) → words_of text ≡ word ∷ words → r ≡ look_up table word words → r ≡ command_of (words_of text)
unfolding command_of
command_of-table text word words r e h = h ∙ ap command_of (sym e)

-- whether a word has one of the lengths
abbrev has_length : List ℕ → List ℕ → Bool
has_length lengths word = list_any (λ n. nat_eq (length word) n) lengths

unread : (b : Bool) (o : Option Command) → (b ≡ true → false ≡ true) → cond b o None ≡ None
unread x0 o h = grind (arith, nat_tests)

without : (rows : List Row) (lengths word : List ℕ) (words : List (List ℕ)) → has_length lengths word ≡ false → list_all (λ (r : Row). has_length lengths r.word) rows ≡ true → look_up rows word words ≡ None
without [] lengths word words none all = refl
without (r ∷ rows) lengths word words none all =
    let parts = and_parts _ _ all in
    ap (λ o. option_or o (look_up rows word words)) (unread (is_text word r.word) (r.reads words) (λ same. sym none ∙ ap (has_length lengths) (is_text-means word r.word same) ∙ parts.0))
    ∙ without rows lengths word words none parts.1

-- a word of no length that a row's word has
pub of_no_length : (word : List ℕ) (words : List (List ℕ)) → has_length (3 ∷ 4 ∷ 5 ∷ 6 ∷ 7 ∷ 8 ∷ 9 ∷ 10 ∷ 14 ∷ []) word ≡ false → None ≡ look_up table word words
unfolding transaction_rows item_rows context_rows chunk_rows lock_rows snapshot_rows plan_rows portal_rows tell_rows
of_no_length word words none = sym (without table (3 ∷ 4 ∷ 5 ∷ 6 ∷ 7 ∷ 8 ∷ 9 ∷ 10 ∷ 14 ∷ []) word words none refl)

-- a word that is taken whole
pub of_whole : (n : ℕ) (word : List ℕ) (words : List (List ℕ)) (r : Option Command) → length word ≡ n → r ≡ look_up table (take n word) words → r ≡ look_up table word words
of_whole n word words r e h = subst (λ w. r ≡ look_up table w words) (take_all n word (omega arith)) h
