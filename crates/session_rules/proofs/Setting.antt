-- How scripts are run where they are computed.
use Rattle.session_rules.proofs.Base.{ℕ, List, [], ◌∷◌, map, codes}
use Rattle.session_rules.proofs.Below.{BeforeLocks, AfterLocks, Kind, ShelfState, row_of, conflicts, up8, granted, grown, doubled, is_reserved}
use Rattle.session_rules.proofs.Rules.{Options, opening, elements_of, does, does_all, recovered, exited, turn, course_by, transcript_by}
use Rattle.std.specs.Fmt.{digits}
use Rattle.hex.specs.Hex.{decode_pairs, encode_with}
use Rattle.pgs_step.specs.Text.{kind_name, error_text}
use Rattle.pgs_command.specs.Lines.{read_line}
use Rattle.pgs_command.specs.Table.{command_of, transaction_rows, context_rows, chunk_rows, item_rows, lock_rows, snapshot_rows, plan_rows, portal_rows, tell_rows}
use Rattle.pgs_command.specs.Values.{number_between, name_of, kind_of, class_of, mode_of, bytes_of}
use Rattle.pgs_command.specs.Words.{words_of}
use Rattle.any_ctx.specs.SetLedger as set
use Rattle.any_ctx.specs.SlabLedger as slab
use Rattle.any_ctx.specs.GenerationLedger as generation
use Rattle.any_ctx.specs.BumpLedger as bump

-- one session, with as much space and as many descriptors as a run has by default
abbrev pub options : Options
options = record { sessions = 1; space = 16777216; descriptors = 16; fail = 0 }

-- the extension kinds of the program
abbrev pub kinds : List Kind
kinds =
    record { name = codes "conn"; phase = BeforeLocks; priority = 350; limit = 4; held = [] }
    ∷ record { name = codes "handle"; phase = AfterLocks; priority = 250; limit = 8; held = [] } ∷ []

-- eight hooks that have not run
abbrev pub hooks : ShelfState
hooks = record { fresh = map (λ word. record { word = word; runs = 0 }) (1 ∷ 2 ∷ 3 ∷ 4 ∷ 5 ∷ 6 ∷ 7 ∷ 8 ∷ []); spent = []; out = 0 }

-- a row that unfolds this name unfolds all that a script is computed by
unfoldable pub all_rules : ℕ
unfolding kind_name error_text digits decode_pairs encode_with read_line command_of transaction_rows context_rows chunk_rows item_rows lock_rows snapshot_rows plan_rows portal_rows tell_rows words_of number_between opening elements_of does does_all recovered exited turn course_by transcript_by name_of kind_of is_reserved class_of mode_of bytes_of conflicts row_of up8 granted grown doubled set.created set.stats set.take set.take_class set.take_own set.chunk_limit set.limit_class set.class_of set.class_up_to set.cut_off set.reused set.from_new set.block_size set.halved set.halved_by set.renewed set.cut_up set.cut_rest set.with_own set.give set.without_own set.resize set.resize_class set.resize_block slab.created slab.free_chunks slab.per_block slab.serve slab.stats slab.stride slab.take generation.chosen generation.created generation.cut generation.cut_off generation.emptied generation.freed_shared generation.give generation.lessened generation.stats generation.take generation.take_cut generation.take_from bump.created bump.cut_off bump.stats bump.take bump.take_cut
all_rules = 0
