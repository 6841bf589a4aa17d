-- How hooks are counted, computed from the definitions.
use Rattle.std.proofs.Common.{◌≡◌, [], ◌∷◌, None, Some, refl}
use Rattle.std.specs.Prelude.{codes}
use Rattle.pgs_command.specs.declared.commands.Command.{Command}
use Rattle.pgs_command.specs.declared.commands.Work.{Work}
use Rattle.pgs_command.specs.declared.commands.ContextCommand.{ContextCommand}
use Rattle.any_ctx.specs.SetLedger.{created, stats}
use Rattle.session_rules.specs.State.{opening}
use Rattle.session_rules.specs.World.{Moment}
use Rattle.session_rules.specs.Commands.{elements_of}
use Rattle.session_rules.specs.Does.{does, does_all}
use Rattle.session_rules.specs.Ends.{exited, recovered}
use Rattle.session_rules.specs.Transcript.{Turn, turn}
use Rattle.session_rules.specs.HookCounts.{all_hooks, callbacks_of, hooks_of, registered_of, runs_of, used_hooks}

-- a session as it opens, where a shelf has two hooks: one of word 7 that has never run, and one of word 9 that ran 4 times
at_first : Moment
unfolding opening
at_first = record {
  scene = record {
    session = opening;
    around = record {
      kinds = [];
      shelf = record { fresh = record { word = 7; runs = 0 } ∷ record { word = 9; runs = 4 } ∷ []; spent = []; out = 0 };
      pinned = [];
      locked = [];
      space = 1000000;
      descriptors = 10;
    };
  };
  calls = 0;
  fail = 0;
}

-- A hook of the context of a command of its own runs when the command ends.
alone : Turn
unfolding opening at_first turn elements_of does does_all recovered created stats
alone = turn None (Some (Command.Work (Work.Contexts (ContextCommand.OnReset (codes "CurTransactionContext"))))) at_first

alone_counts : (callbacks_of 7 alone.events ≡ 1) × (registered_of 7 alone.events ≡ 1) × (runs_of 7 (all_hooks alone.moment.scene) ≡ 1) × (hooks_of 7 (used_hooks alone.moment.scene) ≡ 1)
unfolding opening at_first turn elements_of does does_all recovered alone created stats
alone_counts = (refl, refl, refl, refl)

-- A hook of the topmost context waits, and runs when the session ends.
waits : Turn
unfolding opening at_first turn elements_of does does_all recovered alone created stats
waits = turn None (Some (Command.Work (Work.Contexts (ContextCommand.OnReset (codes "TopMemoryContext"))))) alone.moment

waits_counts : (callbacks_of 9 waits.events ≡ 0) × (registered_of 9 waits.events ≡ 1) × (runs_of 9 (all_hooks waits.moment.scene) ≡ 4) × (hooks_of 9 (used_hooks waits.moment.scene) ≡ 1)
unfolding opening at_first turn elements_of does does_all recovered alone waits created stats
waits_counts = (refl, refl, refl, refl)

ends_counts : (callbacks_of 9 (exited waits.moment.scene).events ≡ 1) × (runs_of 9 (all_hooks (exited waits.moment.scene).scene) ≡ 5) × (runs_of 7 (all_hooks (exited waits.moment.scene).scene) ≡ 1)
unfolding opening at_first turn elements_of does does_all recovered alone waits exited created stats
ends_counts = (refl, refl, refl)
