use Rattle.std.proofs.Common.{◌≡◌, ◌⊎◌, ◌∙◌, ap, sym}
use Rattle.pgscript_cli.proofs.ProgramLemmas.{none_held, nothing_played}
use Rattle.pgscript_cli.proofs.play.Goals as goal

-- without memory for the words, the space, the hooks or the kinds nothing is read or written
pub returns-in_default-clause-played : goal.returns-in_default-clause-played
returns-in_default-clause-played g c = rw c.in-Ok.is (record { status = 5; call = 0; errors = 0; lines = 0 }, c.no_memory.ensures, nothing_played _ _ _ _ _)

pub returns-in_default-new-clause-played : goal.returns-in_default-new-clause-played
returns-in_default-new-clause-played g c = rw c.in-Ok.is (record { status = 5; call = 0; errors = 0; lines = 0 }, c.no_memory-in_default-new.ensures, nothing_played _ _ _ _ _)

pub returns-in_default-all_hooks-clause-played : goal.returns-in_default-all_hooks-clause-played
returns-in_default-all_hooks-clause-played g c = rw c.in-Ok.is (record { status = 5; call = 0; errors = 0; lines = 0 }, c.no_memory-in_default-all_hooks.ensures, nothing_played _ _ _ _ _)

pub returns-in_default-both_kinds-clause-played : goal.returns-in_default-both_kinds-clause-played
returns-in_default-both_kinds-clause-played g c = rw c.in-Ok.is (record { status = 5; call = 0; errors = 0; lines = 0 }, c.no_memory-in_default-both_kinds.ensures, nothing_played _ _ _ _ _)

pub run-outcome-requires-clause-empty : goal.run-outcome-requires-clause-empty
run-outcome-requires-clause-empty g c = none_held _ c.in-Ok-new.ensures.regions

-- the words that were gathered are handed to the run, and its status is the program's
pub returns-clause-played : goal.returns-clause-played
returns-clause-played g c =
    rw (c.in-Ok.is, ← c.deref.ensures.value ∙ c.in-Ok-words_of.ensures) (
      c.run-outcome.result,
      c.from.ensures,
      record {
        whole = λ o asked none once h. (c.run-outcome.new.shelf, c.run-outcome.new.kinds, rw (← c.in-Ok-all_hooks.ensures.shelf, ← c.in-Ok-both_kinds.ensures) (c.run-outcome.ensures.whole o asked none once h));
        usage = c.run-outcome.ensures.usage;
        usage_words = c.run-outcome.ensures.usage_words;
        refused = c.run-outcome.ensures.refused;
        refused_counts = c.run-outcome.ensures.refused_counts;
        source_fault = c.run-outcome.ensures.source_fault;
        cut_off = λ o asked none once h. (c.run-outcome.new.shelf, c.run-outcome.new.kinds, rw (← c.in-Ok-all_hooks.ensures.shelf, ← c.in-Ok-both_kinds.ensures) (c.run-outcome.ensures.cut_off o asked none once h));
        too_long = λ o asked none once h. (c.run-outcome.new.shelf, c.run-outcome.new.kinds, rw (← c.in-Ok-all_hooks.ensures.shelf, ← c.in-Ok-both_kinds.ensures) (c.run-outcome.ensures.too_long o asked none once h));
        sink_fault = c.run-outcome.ensures.sink_fault;
        unwritten = λ o asked none once h. (c.run-outcome.new.shelf, c.run-outcome.new.kinds, rw (← c.in-Ok-all_hooks.ensures.shelf, ← c.in-Ok-both_kinds.ensures) (c.run-outcome.ensures.unwritten o asked none once h));
        usage_unwritten = c.run-outcome.ensures.usage_unwritten;
        wanted = λ o asked none once h k. (c.run-outcome.new.shelf, c.run-outcome.new.kinds, rw (← c.in-Ok-all_hooks.ensures.shelf, ← c.in-Ok-both_kinds.ensures) (c.run-outcome.ensures.wanted o asked none once h k));
        generated = λ o asked some h. (c.run-outcome.new.shelf, c.run-outcome.new.kinds, rw (← c.in-Ok-all_hooks.ensures.shelf, ← c.in-Ok-both_kinds.ensures) (c.run-outcome.ensures.generated o asked some h));
        generated_untold = λ o asked some h. (c.run-outcome.new.shelf, c.run-outcome.new.kinds, rw (← c.in-Ok-all_hooks.ensures.shelf, ← c.in-Ok-both_kinds.ensures) (c.run-outcome.ensures.generated_untold o asked some h));
        generated_stopped = λ o asked some h k. (c.run-outcome.new.shelf, c.run-outcome.new.kinds, rw (← c.in-Ok-all_hooks.ensures.shelf, ← c.in-Ok-both_kinds.ensures) (c.run-outcome.ensures.generated_stopped o asked some h k));
        generated_unread = λ o asked some. let same = c.run-outcome.ensures.generated_unread o asked some in (ap g.S.Source.left same, ap g.S.Source.faults same);
        generated_call = c.run-outcome.ensures.generated_call;
        generated_statuses = c.run-outcome.ensures.generated_statuses;
        swept = λ o asked is. (c.run-outcome.new.shelf, c.run-outcome.new.kinds, c.in-Ok-new.space, c.run-outcome.new.space, rw (← c.in-Ok-all_hooks.ensures.shelf, ← c.in-Ok-both_kinds.ensures) (c.run-outcome.ensures.swept o asked is));
        lawful = λ o asked once h. rw (← c.in-Ok-all_hooks.ensures.shelf, ← c.in-Ok-both_kinds.ensures) (c.run-outcome.ensures.lawful o asked once h);
        generated_lawful = λ o asked some h. rw (← c.in-Ok-all_hooks.ensures.shelf, ← c.in-Ok-both_kinds.ensures) (c.run-outcome.ensures.generated_lawful o asked some h);
        made_once = λ o asked once h. rw (← c.in-Ok-all_hooks.ensures.shelf, ← c.in-Ok-both_kinds.ensures) (c.run-outcome.ensures.made_once o asked once h);
        not_started = λ once h k. let left = c.run-outcome.ensures.not_started once h k in (left.lines, left.errors, left.unread, left.unwritten);
        source_grew = c.run-outcome.ensures.source_grew;
        sink_grew = c.run-outcome.ensures.sink_grew;
        statuses = c.run-outcome.ensures.statuses;
        call = c.run-outcome.ensures.call;
        complete = c.run-outcome.ensures.complete;
      },
    )
