-- How scripts are run here, and what is computed of them: the text of their transcripts, and that these keep the laws of lifetimes.
use Rattle.std.specs.Prelude.{ℕ, Bool, ◌&&◌, List, [], ◌∷◌, Option, None, codes}
use Rattle.std.specs.Fmt.{digits}
use Rattle.hex.specs.Hex.{decode_pairs, encode_with}
use Rattle.pgs_step.specs.Text.{kind_name, error_text, text_of, what_text}
use Rattle.pgs_command.specs.Lines.{read_line}
use Rattle.pgs_command.specs.Table.{command_of, transaction_rows, context_rows, chunk_rows, item_rows, lock_rows, snapshot_rows, plan_rows, portal_rows, tell_rows}
use Rattle.pgs_command.specs.Words.{words_of}
use Rattle.pgs_command.specs.Values.{number_between, name_of, kind_of, class_of, mode_of, bytes_of}
use Rattle.owner_kinds.specs.KindTable.{row_of}
use Rattle.owner_kinds.specs.KindShelf.{table_of}
use Rattle.lock_shared.specs.ModeTable.{conflicts}
use Rattle.chunk_header.specs.Growth.{up8, granted, grown, doubled}
use Rattle.any_ctx.specs.SetLedger as set
use Rattle.any_ctx.specs.SlabLedger as slab
use Rattle.any_ctx.specs.GenerationLedger as generation
use Rattle.any_ctx.specs.BumpLedger as bump
use Rattle.context_rules.specs.Names.{is_reserved}
use Rattle.session_rules.specs.State.{opening}
use Rattle.session_rules.specs.World.{Options}
use Rattle.session_rules.specs.Commands.{elements_of}
use Rattle.session_rules.specs.Does.{does, does_all}
use Rattle.session_rules.specs.Ends.{recovered, exited}
use Rattle.session_rules.specs.Transcript.{turn, course_by, transcript_by, transcript, text_of_transcript}
use Rattle.session_rules.specs.Asked.{asked, asked_all, asked_by, asked_by_turn}
use Rattle.session_rules.specs.Modes.{generated, swept, whole_run, made_script}
use Rattle.session_rules.proofs.Setting.{kinds, hooks}
use Rattle.lifetime_laws.specs.Laws.{is_lawful}
use Rattle.lifetime_laws.specs.Made.{makes_once}

-- whether the transcript of a script keeps all laws, where a fallible call, if any, is refused for want of memory
abbrev pub keeps_laws_wanting : Option ℕ → Options → List (List ℕ) → Bool
keeps_laws_wanting w options script =
    let events = transcript w options kinds hooks script in
    is_lawful (table_of kinds) options.sessions events && makes_once options.sessions events

abbrev pub keeps_laws : Options → List (List ℕ) → Bool
keeps_laws options script = keeps_laws_wanting None options script

-- the text of the transcript of a script, where a fallible call, if any, is refused for want of memory
abbrev pub told_wanting : Option ℕ → Options → List (List ℕ) → List ℕ
told_wanting w options script = text_of_transcript (codes "conn" ∷ codes "handle" ∷ []) (transcript w options kinds hooks script)

abbrev pub told : Options → List (List ℕ) → List ℕ
told options script = told_wanting None options script

-- the last lines of a session that has no other contexts by then
abbrev pub gone : List ℕ
gone = codes "1 delete c5\n1 delete c4\n1 delete c3\n1 delete c2\n1 delete c1\n1 exit\n"

-- a row that unfolds this name unfolds all that a transcript is computed by
unfoldable pub all_rules : ℕ
unfolding text_of what_text kind_name error_text digits decode_pairs encode_with read_line command_of transaction_rows context_rows chunk_rows item_rows lock_rows snapshot_rows plan_rows portal_rows tell_rows words_of number_between opening elements_of does does_all recovered exited turn course_by transcript_by name_of kind_of is_reserved class_of mode_of bytes_of conflicts row_of up8 granted grown doubled set.created set.stats set.take set.take_class set.take_own set.chunk_limit set.limit_class set.class_of set.class_up_to set.cut_off set.reused set.from_new set.block_size set.halved set.halved_by set.renewed set.cut_up set.cut_rest set.with_own set.give set.without_own set.resize set.resize_class set.resize_block slab.created slab.free_chunks slab.per_block slab.serve slab.stats slab.stride slab.take generation.chosen generation.created generation.cut generation.cut_off generation.emptied generation.freed_shared generation.give generation.lessened generation.stats generation.take generation.take_cut generation.take_from bump.created bump.cut_off bump.stats bump.take bump.take_cut asked asked_all asked_by asked_by_turn generated swept whole_run made_script
all_rules = 0
