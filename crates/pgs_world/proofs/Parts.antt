-- The command line in its parts.
use Rattle.pgs_world.proofs.Base.{arith, nat_tests, ℕ, ◌≡◌, ◌∙◌, ap, sym, false, [], ◌∷◌, ◌++◌, codes, List, Result, IfOk, All-nil, All, subst}
use Rattle.pgs_world.proofs.Words.{App, Rule, app_of, rule_of, with_rule, has_subcommand, args_of, groups_of, IsParsed, AddsArg, IsParsedFrom, IsPlainArg, added_plain, Arg, Command, ValueParser, ArgMatches, bare_app, flag_rule, number_rule, with_descriptors, with_fail, with_generate, with_sessions, with_space, HasOptions, IsOption, Takes}
use Rattle.clap.specs.Matches.{found_of}
use Rattle.clap.specs.declared.builder.value_parser.ValueParser.TheVariants as parser
use Rattle.clap.specs.declared.builder.action.ArgAction.{ArgAction}
use Rattle.clap.specs.declared.builder.action.ArgAction.TheVariants.{Set, SetTrue}

-- where what was answered is so, it is so, too
pub if_ok : {A E : Type 0} (P Q : A → Type 0) (r : Result A E) → ((a : A) → P a → Q a) → IfOk r P → IfOk r Q
if_ok P Q x2 f h = grind (arith, nat_tests)

-- an option that was added has its name and its parser
added : (old new : Command) (arg : Arg) (name : List ℕ) (action : ArgAction) (by : ValueParser) (a : AddsArg old arg new) → Takes name action by arg → IsOption name by a.arg
added old new arg name action by a t = grind (arith, nat_tests, a.rules.id, t.id, a.rules.parser, t.by)

module _ (bare with_1 with_2 with_3 with_4 with_5 c : Command) (space sessions descriptors fail generate sweep : Arg) (app : app_of bare ≡ bare_app) (args : args_of bare ≡ []) (groups : groups_of bare ≡ [])
    (takes_space : Takes (codes "space") Set (parser.Unsigned 131072 1073741824) space) (takes_sessions : Takes (codes "sessions") Set (parser.Unsigned 1 64) sessions)
    (takes_descriptors : Takes (codes "descriptors") Set (parser.Unsigned 8 64) descriptors) (takes_fail : Takes (codes "fail") Set (parser.Unsigned 0 4294967295) fail)
    (takes_generate : Takes (codes "generate") Set (parser.Unsigned 0 10000) generate) (takes_sweep : Takes (codes "sweep") SetTrue parser.Bool sweep)
    (first : AddsArg bare space with_1) (second : AddsArg with_1 sessions with_2) (third : AddsArg with_2 descriptors with_3) (fourth : AddsArg with_3 fail with_4) (fifth : AddsArg with_4 generate with_5) (sixth : AddsArg with_5 sweep c) where
  -- one option more
  more : (old new : Command) (arg : Arg) (before : App) (rule : Rule) → AddsArg old arg new → arg.global ≡ false → app_of old ≡ before → rule_of arg ≡ rule → app_of new ≡ with_rule before rule
  more old new arg before rule a own is by = a.shape own ∙ ap (λ x. with_rule x (rule_of arg)) is ∙ ap (with_rule before) by

  pub has_options : ((m : ArgMatches) (p : IsParsedFrom c m) → IsParsed p.built (found_of m) (has_subcommand m)) → HasOptions c
  has_options parsed = record {
    app = grind (arith, nat_tests, more with_5 c sweep with_generate (flag_rule (codes "sweep")) sixth takes_sweep.own (more with_4 with_5 generate with_fail (number_rule (codes "generate") 0 10000) fifth takes_generate.own (more with_3 with_4 fail with_descriptors (number_rule (codes "fail") 0 4294967295) fourth takes_fail.own (more with_2 with_3 descriptors with_sessions (number_rule (codes "descriptors") 8 64) third takes_descriptors.own (more with_1 with_2 sessions with_space (number_rule (codes "sessions") 1 64) second takes_sessions.own (more bare with_1 space bare_app (number_rule (codes "space") 131072 1073741824) first takes_space.own app takes_space.rule) takes_sessions.rule) takes_descriptors.rule) takes_fail.rule) takes_generate.rule) takes_sweep.rule, more with_4 with_5 generate with_fail (number_rule (codes "generate") 0 10000) fifth takes_generate.own (more with_3 with_4 fail with_descriptors (number_rule (codes "fail") 0 4294967295) fourth takes_fail.own (more with_2 with_3 descriptors with_sessions (number_rule (codes "descriptors") 8 64) third takes_descriptors.own (more with_1 with_2 sessions with_space (number_rule (codes "sessions") 1 64) second takes_sessions.own (more bare with_1 space bare_app (number_rule (codes "space") 131072 1073741824) first takes_space.own app takes_space.rule) takes_sessions.rule) takes_descriptors.rule) takes_fail.rule) takes_generate.rule, more with_3 with_4 fail with_descriptors (number_rule (codes "fail") 0 4294967295) fourth takes_fail.own (more with_2 with_3 descriptors with_sessions (number_rule (codes "descriptors") 8 64) third takes_descriptors.own (more with_1 with_2 sessions with_space (number_rule (codes "sessions") 1 64) second takes_sessions.own (more bare with_1 space bare_app (number_rule (codes "space") 131072 1073741824) first takes_space.own app takes_space.rule) takes_sessions.rule) takes_descriptors.rule) takes_fail.rule, more with_2 with_3 descriptors with_sessions (number_rule (codes "descriptors") 8 64) third takes_descriptors.own (more with_1 with_2 sessions with_space (number_rule (codes "sessions") 1 64) second takes_sessions.own (more bare with_1 space bare_app (number_rule (codes "space") 131072 1073741824) first takes_space.own app takes_space.rule) takes_sessions.rule) takes_descriptors.rule, more with_1 with_2 sessions with_space (number_rule (codes "sessions") 1 64) second takes_sessions.own (more bare with_1 space bare_app (number_rule (codes "space") 131072 1073741824) first takes_space.own app takes_space.rule) takes_sessions.rule, more bare with_1 space bare_app (number_rule (codes "space") 131072 1073741824) first takes_space.own app takes_space.rule);
    space = first.arg;
    takes_space = added bare with_1 space (codes "space") _ _ first takes_space;
    sessions = second.arg;
    takes_sessions = added with_1 with_2 sessions (codes "sessions") _ _ second takes_sessions;
    descriptors = third.arg;
    takes_descriptors = added with_2 with_3 descriptors (codes "descriptors") _ _ third takes_descriptors;
    fail = fourth.arg;
    takes_fail = added with_3 with_4 fail (codes "fail") _ _ fourth takes_fail;
    generate = fifth.arg;
    takes_generate = added with_4 with_5 generate (codes "generate") _ _ fifth takes_generate;
    sweep = sixth.arg;
    takes_sweep = added with_5 c sweep (codes "sweep") _ _ sixth takes_sweep;
    args = sixth.args ∙ ap (λ xs. xs ++ sixth.arg ∷ []) (fifth.args ∙ ap (λ xs. xs ++ fifth.arg ∷ []) (fourth.args ∙ ap (λ xs. xs ++ fourth.arg ∷ []) (third.args ∙ ap (λ xs. xs ++ third.arg ∷ []) (second.args ∙ ap (λ xs. xs ++ second.arg ∷ []) (first.args ∙ ap (λ xs. xs ++ first.arg ∷ []) args)))));
    plain = added_plain with_5 c sweep sixth
        (added_plain with_4 with_5 generate fifth
        (added_plain with_3 with_4 fail fourth
        (added_plain with_2 with_3 descriptors third
        (added_plain with_1 with_2 sessions second (added_plain bare with_1 space first (subst (All IsPlainArg) (sym args) (All-nil IsPlainArg), groups) takes_space.plain) takes_sessions.plain) takes_descriptors.plain) takes_fail.plain) takes_generate.plain) takes_sweep.plain;
    parsed = parsed;
  }
