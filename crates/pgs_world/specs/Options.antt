-- The options of a command line, as the library for command lines reads one simple command.
use Rattle.std.specs.Prelude.{ℕ, ◌*◌, ◌^◌, ◌&&◌, ◌||◌, not, nat_le, nat_lt, if◌then◌else◌, Bool, List, [], ◌∷◌, true, false, codes, Option, Some, None, unwrap_or}
use Rattle.std.specs.Str.{bytes_eq}
use Rattle.std.specs.Option.{option_map}
use Rattle.std.specs.Str.Parse.{digits_value, without_leading_plus}
use Rattle.clap.specs.Words.{App, Row, Rule, Text, matches_of, new_rule, new_app, one_of, fault_of, Kinds, with_rule}
use Rattle.clap.specs.Simple.{on_top}
use Rattle.clap.specs.declared.builder.action.ArgAction.TheVariants.{Set, SetTrue}
use Rattle.clap.specs.declared.builder.value_parser.ValueParser.TheVariants as parser
use Rattle.pgs_world.specs.declared.options.Options.{Options}

-- an option with a number from the least on up to the most
abbrev pub number_rule : Text → ℕ → ℕ → Rule
number_rule id least most = record (new_rule id) { long = Some id; action = Some Set; parser = Some (parser.Unsigned least most) }

-- an option without a value
abbrev pub flag_rule : Text → Rule
flag_rule id = record (new_rule id) { long = Some id; action = Some SetTrue; parser = Some parser.Bool }

-- a command without options: no help flag, no version flag, and no program's name before the words
abbrev pub bare_app : App
bare_app = on_top (λ s. record s { no_binary_name = true; disable_help_flag = true; disable_version_flag = true }) (new_app (codes "pgscript"))

-- the program's command line: with the first option, with the second one besides, and so on
abbrev pub with_space : App
with_space = with_rule bare_app (number_rule (codes "space") 131072 1073741824)

abbrev pub with_sessions : App
with_sessions = with_rule with_space (number_rule (codes "sessions") 1 64)

abbrev pub with_descriptors : App
with_descriptors = with_rule with_sessions (number_rule (codes "descriptors") 8 64)

abbrev pub with_fail : App
with_fail = with_rule with_descriptors (number_rule (codes "fail") 0 4294967295)

abbrev pub with_generate : App
with_generate = with_rule with_fail (number_rule (codes "generate") 0 10000)

abbrev pub the_app : App
the_app = with_rule with_generate (flag_rule (codes "sweep"))

-- the number that an option is given, if it is
abbrev pub number_in : Text → List Row → Option ℕ
number_in id rows = option_map (λ t. digits_value 10 (without_leading_plus t)) (one_of id rows)

-- whether an option without a value is given
abbrev pub is_true : Option Text → Bool
is_true None = false
is_true (Some t) = bytes_eq t (codes "true")

abbrev pub flag_in : Text → List Row → Bool
flag_in id rows = is_true (one_of id rows)

-- what the options are in these rows
abbrev pub options_in : List Row → Options
options_in rows = record {
  space = unwrap_or (number_in (codes "space") rows) 16777216;
  sessions = unwrap_or (number_in (codes "sessions") rows) 1;
  descriptors = unwrap_or (number_in (codes "descriptors") rows) 16;
  fail = unwrap_or (number_in (codes "fail") rows) 0;
  generate = unwrap_or (number_in (codes "generate") rows) 0;
  sweep = flag_in (codes "sweep") rows;
}

-- the most bytes that the contexts of all sessions together may hold
abbrev pub most_held : ℕ
most_held = 2 ^ 31

-- a sweep that is to have another call fail, or a script that is made
abbrev pub sweeps_more : Options → Bool
sweeps_more options = options.sweep && (nat_lt 0 options.fail || nat_lt 0 options.generate)

-- options, where the sessions' shares of the space are no more than that together, and a sweep is one of a script that is read
abbrev pub where_fitting : Options → Option Options
where_fitting options = if nat_le (options.sessions * options.space) most_held then (if sweeps_more options then None else Some options) else None

-- what words ask for, where the command finds these faults in them
abbrev pub where_no_fault : Kinds → List Row → Option Options
where_no_fault [] rows = where_fitting (options_in rows)
where_no_fault (fault ∷ faults) rows = None

-- what words ask for
abbrev pub options_of : List Text → Option Options
options_of words = where_no_fault (fault_of the_app words) (matches_of the_app words)
