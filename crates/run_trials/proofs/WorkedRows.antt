-- Scripts and their transcripts, computed from the definitions.
use Rattle.std.proofs.Common.{◌≡◌, [], ◌∷◌, ℕ, List, None, refl}
use Rattle.std.specs.Prelude.{codes}
use Rattle.std.specs.Fmt.{digits}
use Rattle.pgs_step.specs.declared.ids.Phase.TheVariants.{BeforeLocks, AfterLocks}
use Rattle.pgs_step.specs.Text.{text_of, what_text, kind_name, error_text}
use Rattle.pgs_command.specs.Lines.{read_line}
use Rattle.pgs_command.specs.Table as table
use Rattle.pgs_command.specs.Words.{words_of}
use Rattle.pgs_command.specs.Values.{class_of, number_between, mode_of, name_of, kind_of}
use Rattle.chunk_header.specs.Growth.{up8, grown, doubled}
use Rattle.alloc_set.specs.Ledger as set
use Rattle.context_rules.specs.Names.{is_reserved}
use Rattle.owner_kinds.specs.KindTable.{row_of}
use Rattle.session_rules.specs.State.{opening}
use Rattle.session_rules.specs.Commands.{elements_of}
use Rattle.session_rules.specs.Does.{does, does_all}
use Rattle.session_rules.specs.Ends.{recovered, exited}
use Rattle.session_rules.specs.Transcript.{turn, course_by, transcript_by}
use Rattle.pgs_turns.specs.Transcript.{Setting, transcript, text_in}

-- a run of so many sessions with 16 MiB for each of them, two hooks and two extension kinds, of which this call fails; 0 is none
abbrev setting : ℕ → ℕ → Setting
setting sessions fail = record {
  options = record { sessions = sessions; space = 16777216; descriptors = 16; fail = fail };
  shelf = record { fresh = record { word = 1; runs = 0 } ∷ record { word = 2; runs = 0 } ∷ []; spent = []; out = 0 };
  kinds = record { name = codes "conn"; phase = BeforeLocks; priority = 350; limit = 4; held = [] }
      ∷ record { name = codes "handle"; phase = AfterLocks; priority = 250; limit = 8; held = [] }
      ∷ [];
}

abbrev told : ℕ → List (List ℕ) → List ℕ
told fail lines = text_in (setting 1 fail) (transcript (setting 1 fail) None lines)

abbrev told_of_two : List (List ℕ) → List ℕ
told_of_two lines = text_in (setting 2 0) (transcript (setting 2 0) None lines)

pub committed : told 0 (codes "begin" ∷ codes "pin 7" ∷ codes "commit" ∷ [])
    ≡ codes "1 begin level 1\n1 create c6 TopTransactionContext in c1\n1 owner o1\n1 ok\n1 acquire buffer pin 7 #1 o1\n1 ok\n1 commit level 1\n1 warning resource was not closed: buffer pin 7 #1 o1\n1 release buffer pin 7 #1 o1\n1 owner o1 gone\n1 delete c6\n1 ok\n1 delete c5\n1 delete c4\n1 delete c3\n1 delete c2\n1 delete c1\n1 exit\n"
unfolding text_of what_text kind_name error_text digits read_line table.command_of table.transaction_rows table.context_rows table.chunk_rows table.item_rows table.lock_rows table.snapshot_rows table.plan_rows table.portal_rows table.tell_rows words_of number_between mode_of name_of kind_of is_reserved row_of opening elements_of does does_all recovered exited turn course_by transcript_by transcript set.created set.stats set.take set.take_class set.take_own set.chunk_limit set.limit_class set.class_of set.class_up_to set.cut_off set.reused set.from_new set.block_size set.halved set.halved_by set.renewed set.cut_up set.cut_rest set.with_own up8 grown doubled
committed = refl

pub rolled_back : told 0 (codes "begin" ∷ codes "pin 7" ∷ codes "# a comment" ∷ codes "rollback" ∷ [])
    ≡ codes "1 begin level 1\n1 create c6 TopTransactionContext in c1\n1 owner o1\n1 ok\n1 acquire buffer pin 7 #1 o1\n1 ok\n1 abort level 1\n1 release buffer pin 7 #1 o1\n1 cleanup level 1\n1 owner o1 gone\n1 delete c6\n1 ok\n1 delete c5\n1 delete c4\n1 delete c3\n1 delete c2\n1 delete c1\n1 exit\n"
unfolding text_of what_text kind_name error_text digits read_line table.command_of table.transaction_rows table.context_rows table.chunk_rows table.item_rows table.lock_rows table.snapshot_rows table.plan_rows table.portal_rows table.tell_rows words_of number_between mode_of name_of kind_of is_reserved row_of opening elements_of does does_all recovered exited turn course_by transcript_by transcript set.created set.stats set.take set.take_class set.take_own set.chunk_limit set.limit_class set.class_of set.class_up_to set.cut_off set.reused set.from_new set.block_size set.halved set.halved_by set.renewed set.cut_up set.cut_rest set.with_own up8 grown doubled
rolled_back = refl

pub no_such_buffer : told 0 (codes "begin" ∷ codes "pin 1024" ∷ codes "pin 1" ∷ [])
    ≡ codes "1 begin level 1\n1 create c6 TopTransactionContext in c1\n1 owner o1\n1 ok\n1 ERROR 22023 no such buffer\n1 abort level 1\n1 ERROR 25P02 transaction is aborted\n1 cleanup level 1\n1 owner o1 gone\n1 delete c6\n1 delete c5\n1 delete c4\n1 delete c3\n1 delete c2\n1 delete c1\n1 exit\n"
unfolding text_of what_text kind_name error_text digits read_line table.command_of table.transaction_rows table.context_rows table.chunk_rows table.item_rows table.lock_rows table.snapshot_rows table.plan_rows table.portal_rows table.tell_rows words_of number_between mode_of name_of kind_of is_reserved row_of opening elements_of does does_all recovered exited turn course_by transcript_by transcript set.created set.stats set.take set.take_class set.take_own set.chunk_limit set.limit_class set.class_of set.class_up_to set.cut_off set.reused set.from_new set.block_size set.halved set.halved_by set.renewed set.cut_up set.cut_rest set.with_own up8 grown doubled
no_such_buffer = refl

-- lines that aren't performed yet, and a line with a prefix
pub bad_lines : told 0 (codes "begin" ∷ codes "portal p" ∷ codes "fetch p 0" ∷ codes "pin 1" ∷ codes "@1 rollback" ∷ codes "rollback" ∷ [])
    ≡ codes "1 begin level 1\n1 create c6 TopTransactionContext in c1\n1 owner o1\n1 ok\n1 ERROR 42601 syntax error\n1 abort level 1\n1 ERROR 42601 syntax error\n1 ERROR 25P02 transaction is aborted\n1 cleanup level 1\n1 owner o1 gone\n1 delete c6\n1 ok\n1 warning there is no transaction in progress\n1 ok\n1 delete c5\n1 delete c4\n1 delete c3\n1 delete c2\n1 delete c1\n1 exit\n"
unfolding text_of what_text kind_name error_text digits read_line table.command_of table.transaction_rows table.context_rows table.chunk_rows table.item_rows table.lock_rows table.snapshot_rows table.plan_rows table.portal_rows table.tell_rows words_of number_between mode_of name_of kind_of is_reserved row_of opening elements_of does does_all recovered exited turn course_by transcript_by transcript set.created set.stats set.take set.take_class set.take_own set.chunk_limit set.limit_class set.class_of set.class_up_to set.cut_off set.reused set.from_new set.block_size set.halved set.halved_by set.renewed set.cut_up set.cut_rest set.with_own up8 grown doubled
bad_lines = refl

-- a context with two callbacks, the newest first, and an error behind it
pub callbacks : told 0 (codes "begin" ∷ codes "context p CurTransactionContext default" ∷ codes "onreset p" ∷ codes "onreset p" ∷ codes "delete p" ∷ codes "raise" ∷ [])
    ≡ codes "1 begin level 1\n1 create c6 TopTransactionContext in c1\n1 owner o1\n1 ok\n1 create c7 p in c6\n1 ok\n1 hook 1 c7\n1 ok\n1 hook 2 c7\n1 ok\n1 callback 2 c7\n1 callback 1 c7\n1 delete c7\n1 ok\n1 ERROR P0001 raised\n1 abort level 1\n1 cleanup level 1\n1 owner o1 gone\n1 delete c6\n1 delete c5\n1 delete c4\n1 delete c3\n1 delete c2\n1 delete c1\n1 exit\n"
unfolding text_of what_text kind_name error_text digits read_line table.command_of table.transaction_rows table.context_rows table.chunk_rows table.item_rows table.lock_rows table.snapshot_rows table.plan_rows table.portal_rows table.tell_rows words_of number_between mode_of name_of kind_of is_reserved row_of opening elements_of does does_all recovered exited turn course_by transcript_by transcript set.created set.stats set.take set.take_class set.take_own set.chunk_limit set.limit_class set.class_of set.class_up_to set.cut_off set.reused set.from_new set.block_size set.halved set.halved_by set.renewed set.cut_up set.cut_rest set.with_own up8 grown doubled
callbacks = refl

-- the fifth fallible call fails
pub a_call_fails : told 5 (codes "begin" ∷ codes "pin 7" ∷ codes "alloc a 100" ∷ [])
    ≡ codes "1 begin level 1\n1 create c6 TopTransactionContext in c1\n1 owner o1\n1 ok\n1 ERROR 53200 out of memory at call 5\n1 abort level 1\n1 ERROR 25P02 transaction is aborted\n1 cleanup level 1\n1 owner o1 gone\n1 delete c6\n1 delete c5\n1 delete c4\n1 delete c3\n1 delete c2\n1 delete c1\n1 exit\n"
unfolding text_of what_text kind_name error_text digits read_line table.command_of table.transaction_rows table.context_rows table.chunk_rows table.item_rows table.lock_rows table.snapshot_rows table.plan_rows table.portal_rows table.tell_rows words_of number_between mode_of name_of kind_of is_reserved row_of opening elements_of does does_all recovered exited turn course_by transcript_by transcript set.created set.stats set.take set.take_class set.take_own set.chunk_limit set.limit_class set.class_of set.class_up_to set.cut_off set.reused set.from_new set.block_size set.halved set.halved_by set.renewed set.cut_up set.cut_rest set.with_own up8 grown doubled
a_call_fails = refl

-- two sessions in turn, and a line for one that isn't there
pub two_sessions : told_of_two (codes "begin" ∷ codes "@2 pin 7" ∷ codes "@2 begin" ∷ codes "rollback" ∷ codes "@3 pin 1" ∷ [])
    ≡ codes "1 begin level 1\n1 create c6 TopTransactionContext in c1\n1 owner o1\n1 ok\n2 begin level 1\n2 create c6 TopTransactionContext in c1\n2 owner o1\n2 acquire buffer pin 7 #1 o1\n2 commit level 1\n2 warning resource was not closed: buffer pin 7 #1 o1\n2 release buffer pin 7 #1 o1\n2 owner o1 gone\n2 delete c6\n2 ok\n2 begin level 1\n2 create c7 TopTransactionContext in c1\n2 owner o2\n2 ok\n1 abort level 1\n1 cleanup level 1\n1 owner o1 gone\n1 delete c6\n1 ok\n3 ERROR 08003 no such session\n1 delete c5\n1 delete c4\n1 delete c3\n1 delete c2\n1 delete c1\n1 exit\n2 abort level 1\n2 cleanup level 1\n2 owner o2 gone\n2 delete c7\n2 delete c5\n2 delete c4\n2 delete c3\n2 delete c2\n2 delete c1\n2 exit\n"
unfolding text_of what_text kind_name error_text digits read_line table.command_of table.transaction_rows table.context_rows table.chunk_rows table.item_rows table.lock_rows table.snapshot_rows table.plan_rows table.portal_rows table.tell_rows words_of number_between mode_of name_of kind_of is_reserved row_of opening elements_of does does_all recovered exited turn course_by transcript_by transcript set.created set.stats set.take set.take_class set.take_own set.chunk_limit set.limit_class set.class_of set.class_up_to set.cut_off set.reused set.from_new set.block_size set.halved set.halved_by set.renewed set.cut_up set.cut_rest set.with_own up8 grown doubled
two_sessions = refl

-- an item of an extension kind: remembered, and rolled back
pub acquired : told 0 (codes "begin" ∷ codes "acquire conn 5" ∷ codes "rollback" ∷ [])
    ≡ codes "1 begin level 1\n1 create c6 TopTransactionContext in c1\n1 owner o1\n1 ok\n1 acquire conn 5 #1 o1\n1 ok\n1 abort level 1\n1 release conn 5 #1 o1\n1 cleanup level 1\n1 owner o1 gone\n1 delete c6\n1 ok\n1 delete c5\n1 delete c4\n1 delete c3\n1 delete c2\n1 delete c1\n1 exit\n"
unfolding text_of what_text kind_name error_text digits read_line table.command_of table.transaction_rows table.context_rows table.chunk_rows table.item_rows table.lock_rows table.snapshot_rows table.plan_rows table.portal_rows table.tell_rows words_of number_between mode_of name_of kind_of is_reserved row_of opening elements_of does does_all recovered exited turn course_by transcript_by transcript set.created set.stats set.take set.take_class set.take_own set.chunk_limit set.limit_class set.class_of set.class_up_to set.cut_off set.reused set.from_new set.block_size set.halved set.halved_by set.renewed set.cut_up set.cut_rest set.with_own up8 grown doubled
acquired = refl

-- items of both kinds at commit: one is released before the locks and behind the pins, the other behind them
pub kinds_at_commit : told 0 (codes "begin" ∷ codes "acquire handle 9" ∷ codes "acquire conn 5" ∷ codes "pin 7" ∷ codes "drop conn 5" ∷ codes "acquire conn 6" ∷ codes "commit" ∷ [])
    ≡ codes "1 begin level 1\n1 create c6 TopTransactionContext in c1\n1 owner o1\n1 ok\n1 acquire handle 9 #1 o1\n1 ok\n1 acquire conn 5 #2 o1\n1 ok\n1 acquire buffer pin 7 #3 o1\n1 ok\n1 release conn 5 #2 o1\n1 ok\n1 acquire conn 6 #4 o1\n1 ok\n1 commit level 1\n1 warning resource was not closed: buffer pin 7 #3 o1\n1 release buffer pin 7 #3 o1\n1 warning resource was not closed: conn 6 #4 o1\n1 release conn 6 #4 o1\n1 warning resource was not closed: handle 9 #1 o1\n1 release handle 9 #1 o1\n1 owner o1 gone\n1 delete c6\n1 ok\n1 delete c5\n1 delete c4\n1 delete c3\n1 delete c2\n1 delete c1\n1 exit\n"
unfolding text_of what_text kind_name error_text digits read_line table.command_of table.transaction_rows table.context_rows table.chunk_rows table.item_rows table.lock_rows table.snapshot_rows table.plan_rows table.portal_rows table.tell_rows words_of number_between mode_of name_of kind_of is_reserved row_of opening elements_of does does_all recovered exited turn course_by transcript_by transcript set.created set.stats set.take set.take_class set.take_own set.chunk_limit set.limit_class set.class_of set.class_up_to set.cut_off set.reused set.from_new set.block_size set.halved set.halved_by set.renewed set.cut_up set.cut_rest set.with_own up8 grown doubled
kinds_at_commit = refl

-- the fifth key of a kind that holds at most four
pub a_kind_is_full : told 0 (codes "begin" ∷ codes "acquire conn 1" ∷ codes "acquire conn 1" ∷ codes "acquire conn 1" ∷ codes "acquire conn 1" ∷ codes "acquire conn 1" ∷ [])
    ≡ codes "1 begin level 1\n1 create c6 TopTransactionContext in c1\n1 owner o1\n1 ok\n1 acquire conn 1 #1 o1\n1 ok\n1 acquire conn 1 #2 o1\n1 ok\n1 acquire conn 1 #3 o1\n1 ok\n1 acquire conn 1 #4 o1\n1 ok\n1 ERROR 53400 limit of the kind is reached\n1 abort level 1\n1 release conn 1 #4 o1\n1 release conn 1 #3 o1\n1 release conn 1 #2 o1\n1 release conn 1 #1 o1\n1 cleanup level 1\n1 owner o1 gone\n1 delete c6\n1 delete c5\n1 delete c4\n1 delete c3\n1 delete c2\n1 delete c1\n1 exit\n"
unfolding text_of what_text kind_name error_text digits read_line table.command_of table.transaction_rows table.context_rows table.chunk_rows table.item_rows table.lock_rows table.snapshot_rows table.plan_rows table.portal_rows table.tell_rows words_of number_between mode_of name_of kind_of is_reserved row_of opening elements_of does does_all recovered exited turn course_by transcript_by transcript set.created set.stats set.take set.take_class set.take_own set.chunk_limit set.limit_class set.class_of set.class_up_to set.cut_off set.reused set.from_new set.block_size set.halved set.halved_by set.renewed set.cut_up set.cut_rest set.with_own up8 grown doubled
a_kind_is_full = refl

-- a snapshot that is registered twice
pub registered : told 0 (codes "begin" ∷ codes "snapshot 3" ∷ codes "snapshot 3" ∷ codes "unsnapshot 3" ∷ codes "unsnapshot 4" ∷ [])
    ≡ codes "1 begin level 1\n1 create c6 TopTransactionContext in c1\n1 owner o1\n1 ok\n1 acquire snapshot reference 3 #1 o1\n1 ok\n1 acquire snapshot reference 3 #2 o1\n1 ok\n1 release snapshot reference 3 #2 o1\n1 ok\n1 ERROR 55000 not held by this owner\n1 abort level 1\n1 release snapshot reference 3 #1 o1\n1 cleanup level 1\n1 owner o1 gone\n1 delete c6\n1 delete c5\n1 delete c4\n1 delete c3\n1 delete c2\n1 delete c1\n1 exit\n"
unfolding text_of what_text kind_name error_text digits read_line table.command_of table.transaction_rows table.context_rows table.chunk_rows table.item_rows table.lock_rows table.snapshot_rows table.plan_rows table.portal_rows table.tell_rows words_of number_between mode_of name_of kind_of is_reserved row_of opening elements_of does does_all recovered exited turn course_by transcript_by transcript set.created set.stats set.take set.take_class set.take_own set.chunk_limit set.limit_class set.class_of set.class_up_to set.cut_off set.reused set.from_new set.block_size set.halved set.halved_by set.renewed set.cut_up set.cut_rest set.with_own up8 grown doubled
registered = refl

-- two sessions pin a buffer, one of them twice
pub pinned_by_two : told_of_two (codes "begin" ∷ codes "pin 7" ∷ codes "pin 7" ∷ codes "@2 begin" ∷ codes "@2 pin 7" ∷ codes "buffer 7" ∷ [])
    ≡ codes "1 begin level 1\n1 create c6 TopTransactionContext in c1\n1 owner o1\n1 ok\n1 acquire buffer pin 7 #1 o1\n1 ok\n1 acquire buffer pin 7 #2 o1\n1 ok\n2 begin level 1\n2 create c6 TopTransactionContext in c1\n2 owner o1\n2 ok\n2 acquire buffer pin 7 #1 o1\n2 ok\n1 buffer 7 pinned by 2\n1 ok\n1 abort level 1\n1 release buffer pin 7 #2 o1\n1 release buffer pin 7 #1 o1\n1 cleanup level 1\n1 owner o1 gone\n1 delete c6\n1 delete c5\n1 delete c4\n1 delete c3\n1 delete c2\n1 delete c1\n1 exit\n2 abort level 1\n2 release buffer pin 7 #1 o1\n2 cleanup level 1\n2 owner o1 gone\n2 delete c6\n2 delete c5\n2 delete c4\n2 delete c3\n2 delete c2\n2 delete c1\n2 exit\n"
unfolding text_of what_text kind_name error_text digits read_line table.command_of table.transaction_rows table.context_rows table.chunk_rows table.item_rows table.lock_rows table.snapshot_rows table.plan_rows table.portal_rows table.tell_rows words_of number_between mode_of name_of kind_of is_reserved row_of opening elements_of does does_all recovered exited turn course_by transcript_by transcript set.created set.stats set.take set.take_class set.take_own set.chunk_limit set.limit_class set.class_of set.class_up_to set.cut_off set.reused set.from_new set.block_size set.halved set.halved_by set.renewed set.cut_up set.cut_rest set.with_own up8 grown doubled
pinned_by_two = refl

-- active snapshots: those of a level that commits belong to the one above
pub pushed : told 0 (codes "begin" ∷ codes "push 4" ∷ codes "savepoint s" ∷ codes "push 5" ∷ codes "release s" ∷ codes "pop" ∷ codes "ref tupdesc 6" ∷ codes "stat" ∷ [])
    ≡ codes "1 begin level 1\n1 create c6 TopTransactionContext in c1\n1 owner o1\n1 ok\n1 push 4\n1 ok\n1 begin level 2\n1 create c7 CurTransactionContext in c6\n1 owner o2 in o1\n1 ok\n1 push 5\n1 ok\n1 commit level 2\n1 owner o2 gone\n1 delete c7\n1 ok\n1 pop 5\n1 ok\n1 acquire tuple descriptor reference 6 #1 o1\n1 ok\n1 stat pins 0 files 0 descriptors 0 locks 0 snapshots 1 plans 0 refs 1 owners 1 contexts 6\n1 ok\n1 abort level 1\n1 release tuple descriptor reference 6 #1 o1\n1 pop 4\n1 cleanup level 1\n1 owner o1 gone\n1 delete c6\n1 delete c5\n1 delete c4\n1 delete c3\n1 delete c2\n1 delete c1\n1 exit\n"
unfolding text_of what_text kind_name error_text digits read_line table.command_of table.transaction_rows table.context_rows table.chunk_rows table.item_rows table.lock_rows table.snapshot_rows table.plan_rows table.portal_rows table.tell_rows words_of number_between mode_of class_of name_of kind_of is_reserved row_of opening elements_of does does_all recovered exited turn course_by transcript_by transcript set.created set.stats set.take set.take_class set.take_own set.chunk_limit set.limit_class set.class_of set.class_up_to set.cut_off set.reused set.from_new set.block_size set.halved set.halved_by set.renewed set.cut_up set.cut_rest set.with_own up8 grown doubled
pushed = refl

-- a plan that is dropped goes with the last reference to it, in the midst of a release
pub dropped : told 0 (codes "begin" ∷ codes "plan 2" ∷ codes "planref 2" ∷ codes "plandrop 2" ∷ codes "rollback" ∷ [])
    ≡ codes "1 begin level 1\n1 create c6 TopTransactionContext in c1\n1 owner o1\n1 ok\n1 create c7 CachedPlan in c3\n1 ok\n1 acquire plan reference 2 #1 o1\n1 ok\n1 ok\n1 abort level 1\n1 release plan reference 2 #1 o1\n1 delete c7\n1 cleanup level 1\n1 owner o1 gone\n1 delete c6\n1 ok\n1 delete c5\n1 delete c4\n1 delete c3\n1 delete c2\n1 delete c1\n1 exit\n"
unfolding text_of what_text kind_name error_text digits read_line table.command_of table.transaction_rows table.context_rows table.chunk_rows table.item_rows table.lock_rows table.snapshot_rows table.plan_rows table.portal_rows table.tell_rows words_of number_between mode_of name_of kind_of is_reserved row_of opening elements_of does does_all recovered exited turn course_by transcript_by transcript set.created set.stats set.take set.take_class set.take_own set.chunk_limit set.limit_class set.class_of set.class_up_to set.cut_off set.reused set.from_new set.block_size set.halved set.halved_by set.renewed set.cut_up set.cut_rest set.with_own up8 grown doubled
dropped = refl
