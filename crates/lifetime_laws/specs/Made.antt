-- Nothing is made twice, and nothing goes that was not made.
use Rattle.std.specs.Prelude.{ℕ, ◌≤◌, Bool, true, not, ◌&&◌, List}
use Rattle.std.specs.List.{list_all, range_with_len}
use Rattle.pgs_step.specs.declared.events.Event.{Event}
use Rattle.pgs_step.specs.declared.events.What.{What}
use Rattle.pgs_step.specs.declared.events.What.TheVariants as what
use Rattle.lifetime_laws.specs.Reading.{events_of}
use Rattle.lifetime_laws.specs.Balance.{Covers, covers}
use Rattle.lifetime_laws.specs.Once.{deletes, discards, is_first_context, makes_context, makes_owner, nothing, one_where}

-- What the events of one session owe: each context and each owner is made at most once, where those that the session begins with count as made; and none
-- goes that was not made before, nor again.
pub record IsMadeOnce (events : List What) : Type 0 where
  pub contexts : (context : ℕ) → Covers nothing (makes_context context) (one_where (not (is_first_context context))) events
  pub contexts_go : (context : ℕ) → Covers (makes_context context) (deletes context) (one_where (is_first_context context)) events
  pub owners : (owner : ℕ) → Covers nothing (makes_owner owner) 1 events
  pub owners_go : (owner : ℕ) → Covers (makes_owner owner) (discards owner) 0 events

-- In each session of the run nothing is made twice, and nothing goes but what was made or was there at first.
abbrev pub MakesOnce : ℕ → List Event → Type 0
MakesOnce sessions events = (n : ℕ) → 1 ≤ n → n ≤ sessions → IsMadeOnce (events_of n events)

abbrev pub context_made_once : ℕ → List What → Bool
context_made_once context events =
    covers nothing (makes_context context) (one_where (not (is_first_context context))) events
    && covers (makes_context context) (deletes context) (one_where (is_first_context context)) events

abbrev pub owner_made_once : ℕ → List What → Bool
owner_made_once owner events = covers nothing (makes_owner owner) 1 events && covers (makes_owner owner) (discards owner) 0 events

-- whether what this event makes, or what goes by it, is made once among these events, and before it goes
abbrev pub is_made_well : List What → What → Bool
is_made_well events (what.Create context name parent) = context_made_once context events
is_made_well events (what.Delete context) = context_made_once context events
is_made_well events (what.Owner owner) = owner_made_once owner events
is_made_well events (what.OwnerIn owner parent) = owner_made_once owner events
is_made_well events (what.OwnerGone owner) = owner_made_once owner events
is_made_well events other = true

-- whether this holds of each session of the run
abbrev pub makes_once : ℕ → List Event → Bool
makes_once sessions events = list_all (λ n. let own = events_of n events in list_all (is_made_well own) own) (range_with_len 1 sessions)
