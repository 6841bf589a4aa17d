-- What the options say in rows.
use Rattle.pgs_world.proofs.Base.{nat_tests, zero, suc, ℕ, ◌≡◌, ◌⊎◌, ◌<◌, ◌≤◌, ◌^◌, ◌∙◌, ap, sym, refl, subst, arith, Bool, true, false, ◌||◌, List, [], length, codes, Option, Some, None, Result, slice_index, slice_index_or, option_map, unwrap_or, ◌==◌, if◌then◌else◌, bytes_eq, ParsesUnsigned, digits_value, without_leading_plus, bytes_eq-Decides}
use Rattle.pgs_world.proofs.Words.{App, Row, Text, IsAmong, fault_of, found_of, is_simple, is_simple_and_free, matches_of, HasMatchesOf, one_text, rows_of, ReadsOne, args_of, IsParsedFrom, Arg, Command, ValueParser, ArgMatches, clap_on_literals, flag_in, is_true, number_in, options_of, the_app, where_fitting, HasOptions, IsOption}
use Rattle.clap.proofs.WalkLemmas.{one_text-rows}
use Rattle.clap.specs.declared.error.kind.ErrorKind.{ErrorKind}
use Rattle.clap.specs.declared.builder.value_parser.ValueParser.TheVariants as parser
use Rattle.clap.specs.declared.parser.matches.Found.{Found}
use Rattle.pgs_world.proofs.Reading.{IsListed, WasRead, option_read}

-- nothing is no number
none_some : (n : ℕ) → None ≡ Some n → ⊥
none_some n e = cc

-- what a text gives as a number of so many bits
abbrev pub GivesNumber : {E : Type 0} → ℕ → (Text → Result ℕ E → Type 0) → Type 0
GivesNumber {E} bits gives = (t : Text) (r : Result ℕ E) → gives t r → ParsesUnsigned bits 10 t r

-- a number that an option has is told, and it is in the range
pub record Told (low high : ℕ) (id : Text) (rows : List Row) (r : Option ℕ) : Type 0 where
  pub told : r ≡ number_in id rows
  pub within : (n : ℕ) → r ≡ Some n → (low ≤ n) × (n ≤ high)

module _ {E : Type 0} (bits : ℕ) (gives : Text → Result ℕ E → Type 0) (number : GivesNumber bits gives) (low high : ℕ) (fits : high < 2 ^ bits) where
  of_text : (ignore_case : Bool) (t : Text) (r : Option ℕ) → WasRead (parser.Unsigned low high) ignore_case t → ReadsOne gives t r
      → (n : ℕ) × (r ≡ Some n) × (n ≡ digits_value 10 (without_leading_plus t)) × (low ≤ n) × (n ≤ high)
  of_text ignore_case t (Some n) was reads = grind (arith, nat_tests, was.read, was.accepted)
  of_text ignore_case t None was reads = grind (arith, nat_tests, was.read, was.accepted, reads.0, reads.1)

  pub told_by : (f : Found) (id : Text) (ignore_case : Bool) (r : Option ℕ) → (one_text f id ≡ None → r ≡ None) → ((t : Text) → one_text f id ≡ Some t → ReadsOne gives t r)
      → ((t : Text) → one_text f id ≡ Some t → WasRead (parser.Unsigned low high) ignore_case t) → Told low high id (rows_of f) r
  told_by f id ignore_case r none some was = go (one_text f id) refl
    where
      go : (o : Option Text) → one_text f id ≡ o → Told low high id (rows_of f) r
      go None e = record {
        told = none e ∙ ap (option_map (λ t. digits_value 10 (without_leading_plus t))) (sym e ∙ one_text-rows f id);
        within = λ n is. absurd (none_some n (sym (none e) ∙ is));
      }
      go (Some t) e =
          let got = of_text ignore_case t r (was t e) (some t e) in
          record {
            told = got.1 ∙ ap (λ (n : ℕ). Some n) got.2 ∙ ap (option_map (λ t. digits_value 10 (without_leading_plus t))) (sym e ∙ one_text-rows f id);
            within = grind (arith, nat_tests, got.0, got.1, got.3, got.4);
          }

-- two texts that begin with different bytes are different
differ : (t u : Text) (a b : ℕ) → slice_index t 0 ≡ a → slice_index u 0 ≡ b → (a ≡ b → ⊥) → t ≡ u → ⊥
differ t u a b first second apart e = apart (sym first ∙ ap (λ (w : Text). slice_index w 0) e ∙ second)

-- an option whose name begins with another letter than "help" and "version"
not_auto : (t : Text) (a : ℕ) → slice_index t 0 ≡ a → (a ≡ 104 → ⊥) → (a ≡ 118 → ⊥) → (t ≡ codes "help") ⊎ (t ≡ codes "version") → ⊥
not_auto t a first help version x5 = grind (arith, nat_tests, differ)

first_byte : (t u : Text) → t ≡ u → slice_index t 0 ≡ slice_index u 0
first_byte t u e = ap (λ (w : Text). slice_index w 0) e

-- the options by their places: the name of each, and how its value is read
abbrev name_at : ℕ → Text
name_at zero = codes "space"
name_at (suc zero) = codes "sessions"
name_at (suc (suc zero)) = codes "descriptors"
name_at (suc (suc (suc zero))) = codes "fail"
name_at (suc (suc (suc (suc zero)))) = codes "generate"
name_at (suc (suc (suc (suc (suc k))))) = codes "sweep"

abbrev least_at : ℕ → ℕ
least_at zero = 131072
least_at (suc zero) = 1
least_at (suc (suc zero)) = 8
least_at (suc (suc (suc k))) = 0

abbrev most_at : ℕ → ℕ
most_at zero = 1073741824
most_at (suc zero) = 64
most_at (suc (suc zero)) = 64
most_at (suc (suc (suc zero))) = 4294967295
most_at (suc (suc (suc (suc k)))) = 10000

abbrev parser_at : ℕ → ValueParser
parser_at zero = parser.Unsigned 131072 1073741824
parser_at (suc zero) = parser.Unsigned 1 64
parser_at (suc (suc zero)) = parser.Unsigned 8 64
parser_at (suc (suc (suc zero))) = parser.Unsigned 0 4294967295
parser_at (suc (suc (suc (suc zero)))) = parser.Unsigned 0 10000
parser_at (suc (suc (suc (suc (suc k))))) = parser.Bool

number_at : (k : ℕ) → k < 5 → parser_at k ≡ parser.Unsigned (least_at k) (most_at k)
number_at x0 lt = grind (arith, nat_tests)

-- names are told apart by their lengths, and those of one length by their first two letters
place_of : Text → ℕ
place_of t = if length t == 5 then (if slice_index t 1 == 112 then 0 else 5) else (if length t == 11 then 2 else (if length t == 4 then 3 else (if slice_index t 0 == 115 then 1 else 4)))

placed : (k : ℕ) → k < 6 → place_of (name_at k) ≡ k
unfolding place_of
placed x0 lt = grind (arith, nat_tests)

-- no name is that of an option that the command makes itself, or empty
not_own : (k : ℕ) (t : Text) → t ≡ name_at k → (t ≡ codes "help") ⊎ (t ≡ codes "version") → ⊥
not_own x0 t e = grind (arith, nat_tests, not_auto, first_byte)

is_named : (k : ℕ) → name_at k ≡ [] → ⊥
is_named x0 e = grind (arith, nat_tests, differ (codes "space"), differ)

-- a flag says yes where the text of its value does
flag_read : (t : Text) (r : Bool) → (bytes_eq t (codes "true") || bytes_eq t (codes "false")) ≡ true → (t ≡ codes "true" → r ≡ true) → (t ≡ codes "false" → r ≡ false) → r ≡ bytes_eq t (codes "true")
flag_read t r one on off = grind (arith, nat_tests, bytes_eq-Decides)

module _ (c : Command) (h : HasOptions c) where
  abbrev arg_at : ℕ → Arg
  arg_at zero = h.space
  arg_at (suc zero) = h.sessions
  arg_at (suc (suc zero)) = h.descriptors
  arg_at (suc (suc (suc zero))) = h.fail
  arg_at (suc (suc (suc (suc zero)))) = h.generate
  arg_at (suc (suc (suc (suc (suc k))))) = h.sweep

  six : length (args_of c) ≡ 6
  six = ap (λ (xs : List Arg). length xs) h.args

  is_at : (k : ℕ) (d : Arg) → k < 6 → slice_index_or (args_of c) k d ≡ arg_at k
  is_at zero d lt = ap (λ (xs : List Arg). slice_index_or xs 0 d) h.args
  is_at (suc zero) d lt = ap (λ (xs : List Arg). slice_index_or xs 1 d) h.args
  is_at (suc (suc zero)) d lt = ap (λ (xs : List Arg). slice_index_or xs 2 d) h.args
  is_at (suc (suc (suc zero))) d lt = ap (λ (xs : List Arg). slice_index_or xs 3 d) h.args
  is_at (suc (suc (suc (suc zero)))) d lt = ap (λ (xs : List Arg). slice_index_or xs 4 d) h.args
  is_at (suc (suc (suc (suc (suc zero))))) d lt = ap (λ (xs : List Arg). slice_index_or xs 5 d) h.args
  is_at (suc (suc (suc (suc (suc (suc k)))))) d lt = absurd (omega (arith, lt))

  takes_at : (k : ℕ) → IsOption (name_at k) (parser_at k) (arg_at k)
  takes_at zero = h.takes_space
  takes_at (suc zero) = h.takes_sessions
  takes_at (suc (suc zero)) = h.takes_descriptors
  takes_at (suc (suc (suc zero))) = h.takes_fail
  takes_at (suc (suc (suc (suc zero)))) = h.takes_generate
  takes_at (suc (suc (suc (suc (suc k))))) = h.takes_sweep

  id_at : (k : ℕ) (d : Arg) → k < 6 → (slice_index_or (args_of c) k d).id.now ≡ name_at k
  id_at k d lt = ap (λ (a : Arg). a.id.now) (is_at k d lt) ∙ (takes_at k).id

  -- no two options have one name
  only_at : (k : ℕ) (d : Arg) → k < 6 → (j : ℕ) (e : Arg) → j < length (args_of c)
      → bytes_eq (slice_index_or (args_of c) j e).id.now (slice_index_or (args_of c) k d).id.now ≡ true → j ≡ k
  only_at k d lt j e less same = grind (arith, nat_tests, six, placed, place_of, id_at, bytes_eq-Decides (slice_index_or (args_of c) j e).id.now (slice_index_or (args_of c) k d).id.now, id_at k d lt, placed k lt)

  option_at : (k : ℕ) → k < 6 → IsListed c k (arg_at k) (parser_at k)
  option_at k lt = grind (arith, nat_tests, six, only_at k (arg_at k) lt, not_own k (slice_index_or (args_of c) k (arg_at k)).id.now (id_at k (arg_at k) lt), id_at k (arg_at k) lt, is_named, is_at k (arg_at k) lt, takes_at k)

  -- a text of an option was let through by its parser
  read_at : (m : ArgMatches) (p : IsParsedFrom c m) (k : ℕ) → k < 6 → (t : Text) → one_text (found_of m) (name_at k) ≡ Some t → WasRead (parser_at k) (slice_index_or (args_of c) k (arg_at k)).ignore_case t
  read_at m p k lt t e =
      option_read c m p k (arg_at k) (parser_at k) (option_at k lt) h.plain (h.parsed m p) t
      (subst (λ (w : Text). one_text (found_of m) w ≡ Some t) (sym (id_at k (arg_at k) lt)) e)

  pub sweep_told : (m : ArgMatches) (p : IsParsedFrom c m) (r : Bool) → (one_text (found_of m) (codes "sweep") ≡ None → r ≡ false) → (one_text (found_of m) (codes "sweep") ≡ Some (codes "true") → r ≡ true)
      → (one_text (found_of m) (codes "sweep") ≡ Some (codes "false") → r ≡ false) → r ≡ flag_in (codes "sweep") (rows_of (found_of m))
  sweep_told m p r none on off = go (one_text (found_of m) (codes "sweep")) refl ∙ ap is_true (one_text-rows (found_of m) (codes "sweep"))
    where
      go : (o : Option Text) → one_text (found_of m) (codes "sweep") ≡ o → r ≡ is_true (one_text (found_of m) (codes "sweep"))
      go None e = none e ∙ ap is_true (sym e)
      go (Some t) e =
          let was : WasRead parser.Bool (slice_index_or (args_of c) 5 (arg_at 5)).ignore_case t = read_at m p 5 (omega arith) t e in
          flag_read t r (subst (λ (w : Text). (bytes_eq w (codes "true") || bytes_eq w (codes "false")) ≡ true) (sym was.read) was.accepted)
          (λ is. on (e ∙ ap (λ (w : Text). Some w) is)) (λ is. off (e ∙ ap (λ (w : Text). Some w) is)) ∙ ap is_true (sym e)

  -- what is read of an option is what the rows say
  module _ {E : Type 0} (bits : ℕ) (gives : Text → Result ℕ E → Type 0) (number : GivesNumber bits gives) (m : ArgMatches) (p : IsParsedFrom c m) where
    told_at : (k : ℕ) → k < 5 → most_at k < 2 ^ bits → (r : Option ℕ) → (one_text (found_of m) (name_at k) ≡ None → r ≡ None)
        → ((t : Text) → one_text (found_of m) (name_at k) ≡ Some t → ReadsOne gives t r)
        → Told (least_at k) (most_at k) (name_at k) (rows_of (found_of m)) r
    told_at k lt fits r none some =
        told_by bits gives number (least_at k) (most_at k) fits (found_of m) (name_at k) (slice_index_or (args_of c) k (arg_at k)).ignore_case r none some
        (λ t e. subst (λ (q : ValueParser). WasRead q (slice_index_or (args_of c) k (arg_at k)).ignore_case t) (number_at k lt) (read_at m p k (omega (arith, lt)) t e))

  module _ {E : Type 0} (gives : Text → Result ℕ E → Type 0) (number : GivesNumber 32 gives) (m : ArgMatches) (p : IsParsedFrom c m) where
    pub space_told : (r : Option ℕ) → (one_text (found_of m) (codes "space") ≡ None → r ≡ None) → ((t : Text) → one_text (found_of m) (codes "space") ≡ Some t → ReadsOne gives t r)
        → Told 131072 1073741824 (codes "space") (rows_of (found_of m)) r
    space_told r none some = told_at 32 gives number m p 0 (omega arith) (omega arith) r none some

    pub fail_told : (r : Option ℕ) → (one_text (found_of m) (codes "fail") ≡ None → r ≡ None) → ((t : Text) → one_text (found_of m) (codes "fail") ≡ Some t → ReadsOne gives t r)
        → Told 0 4294967295 (codes "fail") (rows_of (found_of m)) r
    fail_told r none some = told_at 32 gives number m p 3 (omega arith) (omega arith) r none some

  module _ {E : Type 0} (gives : Text → Result ℕ E → Type 0) (number : GivesNumber 8 gives) (m : ArgMatches) (p : IsParsedFrom c m) where
    pub sessions_told : (r : Option ℕ) → (one_text (found_of m) (codes "sessions") ≡ None → r ≡ None) → ((t : Text) → one_text (found_of m) (codes "sessions") ≡ Some t → ReadsOne gives t r)
        → Told 1 64 (codes "sessions") (rows_of (found_of m)) r
    sessions_told r none some = told_at 8 gives number m p 1 (omega arith) (omega arith) r none some

    pub descriptors_told : (r : Option ℕ) → (one_text (found_of m) (codes "descriptors") ≡ None → r ≡ None) → ((t : Text) → one_text (found_of m) (codes "descriptors") ≡ Some t → ReadsOne gives t r)
        → Told 8 64 (codes "descriptors") (rows_of (found_of m)) r
    descriptors_told r none some = told_at 8 gives number m p 2 (omega arith) (omega arith) r none some

  module _ {E : Type 0} (gives : Text → Result ℕ E → Type 0) (number : GivesNumber 16 gives) (m : ArgMatches) (p : IsParsedFrom c m) where
    pub generate_told : (r : Option ℕ) → (one_text (found_of m) (codes "generate") ≡ None → r ≡ None) → ((t : Text) → one_text (found_of m) (codes "generate") ≡ Some t → ReadsOne gives t r)
        → Told 0 10000 (codes "generate") (rows_of (found_of m)) r
    generate_told r none some = told_at 16 gives number m p 4 (omega arith) (omega arith) r none some

-- the command line is one whose matches and faults are known
simple : is_simple the_app ≡ true
unfolding clap_on_literals
simple = refl

pub free : (a : App) → a ≡ the_app → is_simple_and_free a ≡ true
unfolding clap_on_literals
free a e = ap is_simple_and_free e

pub rows_told : (a : App) (words : List Text) (m : ArgMatches) → a ≡ the_app → HasMatchesOf a words m → rows_of (found_of m) ≡ matches_of the_app words
rows_told a words m e has = (subst (λ (x : App). HasMatchesOf x words m) e has simple).0

pub no_faults : (a : App) (words : List Text) → a ≡ the_app → fault_of a words ≡ [] → fault_of the_app words ≡ []
no_faults a words e none = ap (λ (x : App). fault_of x words) (sym e) ∙ none

-- what the options are where there is no fault
pub options_told : (words : List Text) (rows : List Row) (a b c d e : Option ℕ) (f : Bool) → fault_of the_app words ≡ [] → rows ≡ matches_of the_app words
    → Told 131072 1073741824 (codes "space") rows a → Told 1 64 (codes "sessions") rows b → Told 8 64 (codes "descriptors") rows c → Told 0 4294967295 (codes "fail") rows d → Told 0 10000 (codes "generate") rows e → f ≡ flag_in (codes "sweep") rows
    → options_of words ≡ where_fitting (record { space = unwrap_or a 16777216; sessions = unwrap_or b 1; descriptors = unwrap_or c 16; fail = unwrap_or d 0; generate = unwrap_or e 0; sweep = f })
options_told words rows a b c d e f none is space sessions descriptors fail generate sweep = grind (arith, nat_tests, space.told, sessions.told, descriptors.told, fail.told, generate.told)

-- an option that isn't given has its default, which is in the range
pub within : (low high default : ℕ) (id : Text) (rows : List Row) (r : Option ℕ) → low ≤ default → default ≤ high → Told low high id rows r → (low ≤ unwrap_or r default) × (unwrap_or r default ≤ high)
within low high default id rows x5 least most t = grind (arith, nat_tests, t.within)

-- where the command found a fault, the words ask for nothing
pub nothing_asked : (a : App) (words : List Text) (kind : ErrorKind) → a ≡ the_app → IsAmong kind (fault_of a words) → options_of words ≡ None
nothing_asked a words kind e among = grind (arith, nat_tests)
