-- The command line in its parts.
use Rattle.std.specs.Prelude.{◌≡◌, false, [], ◌∷◌, codes, Some}
use Rattle.clap.specs.Words.{Text, app_of, new_rule, rule_of}
use Rattle.clap.specs.Matches.{found_of, has_subcommand}
use Rattle.clap.specs.Facts.{args_of, IsParsed}
use Rattle.clap.specs.Built.{IsPlain, IsPlainArg, IsParsedFrom}
use Rattle.clap.specs.declared.builder.action.ArgAction.{ArgAction}
use Rattle.clap.specs.declared.builder.arg.Arg.{Arg}
use Rattle.clap.specs.declared.builder.command.Command.{Command}
use Rattle.clap.specs.declared.parser.matches.ArgMatches.{ArgMatches}
use Rattle.clap.specs.declared.builder.value_parser.ValueParser.{ValueParser}
use Rattle.clap.specs.declared.builder.value_parser.ValueParser.TheVariants as parser
use Rattle.pgs_world.specs.Options.{the_app}

-- an option of this name with this action that takes what the parser lets through
pub record Takes (name : Text) (action : ArgAction) (parser : ValueParser) (arg : Arg) : Type 0 where
  pub id : arg.id.now ≡ name
  pub rule : rule_of arg ≡ record (new_rule name) { long = Some name; action = Some action; parser = Some parser }
  pub plain : IsPlainArg arg
  pub own : arg.global ≡ false
  pub by : arg.value_parser ≡ Some parser

-- an option as a command has it
pub record IsOption (name : Text) (parser : ValueParser) (arg : Arg) : Type 0 where
  pub id : arg.id.now ≡ name
  pub by : arg.value_parser ≡ Some parser

-- the command has its six options, and no other, and nothing in it excludes anything
pub record HasOptions (c : Command) : Type 0 where
  pub app : app_of c ≡ the_app
  pub space : Arg
  pub takes_space : IsOption (codes "space") (parser.Unsigned 131072 1073741824) space
  pub sessions : Arg
  pub takes_sessions : IsOption (codes "sessions") (parser.Unsigned 1 64) sessions
  pub descriptors : Arg
  pub takes_descriptors : IsOption (codes "descriptors") (parser.Unsigned 8 64) descriptors
  pub fail : Arg
  pub takes_fail : IsOption (codes "fail") (parser.Unsigned 0 4294967295) fail
  pub generate : Arg
  pub takes_generate : IsOption (codes "generate") (parser.Unsigned 0 10000) generate
  pub sweep : Arg
  pub takes_sweep : IsOption (codes "sweep") parser.Bool sweep
  pub args : args_of c ≡ space ∷ sessions ∷ descriptors ∷ fail ∷ generate ∷ sweep ∷ []
  pub plain : IsPlain c
  pub parsed : (m : ArgMatches) (p : IsParsedFrom c m) → IsParsed p.built (found_of m) (has_subcommand m)
