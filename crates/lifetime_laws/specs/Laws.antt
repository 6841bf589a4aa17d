-- The laws of lifetimes together.
use Rattle.std.specs.Prelude.{ℕ, Bool, ◌&&◌, List}
use Rattle.pgs_step.specs.declared.events.Event.{Event}
use Rattle.owner_kinds.specs.KindTable.{KindTable}
use Rattle.lifetime_laws.specs.Once.{ReleasesOnce, releases_once}
use Rattle.lifetime_laws.specs.Order.{ReleasesInOrder, releases_in_order}
use Rattle.lifetime_laws.specs.Inside.{StaysInside, stays_inside}
use Rattle.lifetime_laws.specs.Called.{CallsBack, calls_back}

-- What the events of a run of so many sessions owe: each resource that is acquired is released exactly once; the end of a level releases
-- descendants first, by phase and priority; that of a level that aborts touches nothing outside the level; and each callback runs once,
-- before its memory goes.
pub record IsLawful (kinds : KindTable) (sessions : ℕ) (events : List Event) : Type 0 where
  pub released_once : ReleasesOnce sessions events
  pub released_in_order : ReleasesInOrder kinds events
  pub stays_inside : StaysInside events
  pub called_back : CallsBack events

-- whether the events are lawful
abbrev pub is_lawful : KindTable → ℕ → List Event → Bool
is_lawful kinds sessions events = releases_once sessions events && (releases_in_order kinds events && (stays_inside events && calls_back events))
