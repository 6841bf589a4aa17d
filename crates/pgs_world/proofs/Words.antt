-- The words and lemmas of the crates below, and the definitions of specs/, that these proofs take.
pub use Rattle.addr_space.specs.Space.{Space, accounts, held, risen, taken}
pub use Rattle.clap.proofs.CallerLemmas.{added_plain, entry_by_id, same_rules_by_id}
unfoldable pub use Rattle.clap.proofs.OnLiterals.{clap_on_literals}
pub use Rattle.clap.specs.Built.{AddsArg, IsAuto, IsParsedFrom, IsPlain, IsPlainArg}
pub use Rattle.clap.specs.Facts.{Entry, EntryPasses, HasReading, IsParsed, PassesArg, args_of, groups_of, parser_of, parser_of_value}
pub use Rattle.clap.specs.Matches.{has_subcommand, matched_of}
pub use Rattle.clap.specs.Words.{Accepts, App, HasMatchesOf, IsAmong, ReadsOne, Row, Rule, Text, app_of, fault_of, found_of, is_simple, is_simple_and_free, kind_of, matches_of, one_text, read_as, reading_of, rows_of, rule_of, with_rule}
pub use Rattle.clap.specs.declared.builder.arg.Arg.{Arg}
pub use Rattle.clap.specs.declared.builder.command.Command.{Command}
pub use Rattle.clap.specs.declared.builder.value_parser.ValueParser.{ValueParser}
pub use Rattle.clap.specs.declared.parser.matches.ArgMatches.{ArgMatches}
pub use Rattle.owner_kinds.specs.Kind.{Kind}
pub use Rattle.pgs_command.specs.Lines.{read_line}
pub use Rattle.pgs_io.specs.Faults.{HasRisen}
pub use Rattle.pgs_io.specs.LineLaws.{HasFed-ahead, HasFed-few, HasFed-first, lines_of-long}
pub use Rattle.pgs_io.specs.Lines.{IsKept, ended_lines, lines_of, newline, onto_ended, onto_first}
pub use Rattle.pgs_step.specs.Text.{text_of}
pub use Rattle.pgs_step.specs.declared.events.Event.{Event}
pub use Rattle.pgs_turns.proofs.CourseLemmas.{course_of-snoc, course_of-stopped, fits_later, line_behind}
pub use Rattle.pgs_turns.proofs.ErrorLemmas.{few_errors}
pub use Rattle.pgs_turns.proofs.OverLemmas.{fit_of, kinds-stopped, run_over, shelf-stopped, transcript-stopped}
pub use Rattle.pgs_turns.proofs.SessionLemmas.{opened_run, opened_standing}
pub use Rattle.pgs_turns.proofs.StartLemmas.{limited_held, started_setting}
pub use Rattle.pgs_turns.specs.Courses.{HasPerformed, IsOver, TakesLines}
pub use Rattle.pgs_turns.specs.Generating.{IsFront, Tells}
pub use Rattle.pgs_turns.specs.Script.{said_in}
pub use Rattle.pgs_turns.specs.Sweeping.{LeaveRuns, LeavesRun, course_in, events_of_runs, run_numbers, runs_in, setting_for_run, setting_in, told_in}
unfoldable pub use Rattle.pgs_turns.specs.Sweeping.{told_of_runs}
pub use Rattle.pgs_turns.specs.Transcript.{EndsAt, Setting, names_of, text_in}
unfoldable pub use Rattle.pgs_turns.specs.Transcript.{course_of, transcript}
pub use Rattle.pgs_turns.specs.Turns.{Fits, HaveRoom, TakesTurn}
pub use Rattle.pgs_turns.specs.World.{AreKept, AreStanding, HaveDescriptors, IsOpening, Run, run_of, setting_at, setting_of}
pub use Rattle.pgs_world.specs.Ending.{IsPlayed, generated_outcome, outcome_of, status_of}
pub use Rattle.pgs_world.specs.Lawful.{AreLawful, AreMadeOnce, KeepLaws, RunsKeepLaws}
pub use Rattle.pgs_world.specs.Loop.{AreFront, EndIs, EndsInTime, IsLineEnd, Meets, OnNoSourceFault, OnSourceFault, OnUnwritten, Performs, is_wanted}
pub use Rattle.pgs_world.specs.Options.{bare_app, flag_in, flag_rule, is_true, number_in, number_rule, options_of, the_app, where_fitting, with_descriptors, with_fail, with_generate, with_sessions, with_space}
pub use Rattle.pgs_world.specs.Outcome.{AreWhole, AskFor, HasGiven, IsCutOff, IsLittleMore, IsSharedOut, IsTooLong, IsUnwritten, IsWanted, IsWhole, TakesAsked, TakesGiven, most_bytes, refused_call, setting_for}
pub use Rattle.pgs_world.specs.Parts.{HasOptions, IsOption, Takes}
pub use Rattle.pgs_world.specs.Plays.{Ends, EndsMade, Generates, Leaves, Outside, Performed, Plays, outside}
pub use Rattle.pgs_world.specs.PrinterLaws.{ShowsEvents-both, ShowsEvents-flush, ShowsEvents-joined, ShowsEvents-none, ShowsEvents-still, ShowsEvents-turn, TakesBytes-more}
pub use Rattle.pgs_world.specs.PrinterView.{IsGoing, ShowsEvents, ShowsInTime, TakesBytes, seen}
pub use Rattle.pgs_world.specs.Sweep.{IsRead, IsSweepStatus, Sweeps, most_swept}
pub use Rattle.pgs_world.specs.SweepSteps.{EndsRun, GivesMore, HasRun, IsUnplayed, RunsOnce, Stands, last_known}
pub use Rattle.pgs_world.specs.declared.options.Options.{Options, Options as Asked}
pub use Rattle.pgs_world.specs.declared.performing.End.{End}
pub use Rattle.pgs_world.specs.declared.printer.TheConstants.{GATHERED}
pub use Rattle.pgs_world.specs.declared.program.Outcome.{Outcome}
pub use Rattle.pgs_world.specs.declared.sweeping.Ran.{Ran}
pub use Rattle.reset_callbacks.specs.Hook.{AreDistinct}
pub use Rattle.reset_callbacks.specs.ShelfState.{ShelfState}
pub use Rattle.session_rules.specs.Modes.{made_script, most_failing}
pub use Rattle.session_rules.specs.Transcript.{Course, ended, errors_in, text_of_transcript}
unfoldable pub use Rattle.session_rules.specs.Transcript.{transcript_by}
pub use Rattle.session_store.specs.State.{StoreState}
