-- Events read one by one.
use Rattle.std.specs.Prelude.{ℕ, ◌==◌, Bool, true, ◌&&◌, if◌then◌else◌, List, [], ◌∷◌}
use Rattle.std.specs.List.{list_any}
use Rattle.pgs_step.specs.declared.events.What.{What}
use Rattle.pgs_step.specs.declared.events.Event.{Event}

-- a reader of events: what it has seen once the next event is behind it, and whether that event may come
pub record Reader (Seen : Type 0) : Type 0 where
  pub next : What → Seen → Seen
  pub allows : What → Seen → Bool

-- what a reader has seen behind these events
abbrev pub seen_after : {Seen : Type 0} → Reader Seen → Seen → List What → Seen
seen_after reader seen [] = seen
seen_after reader seen (event ∷ events) = seen_after reader (reader.next event seen) events

-- whether a reader allows each of these events, by what it has seen before it
abbrev pub allows_all : {Seen : Type 0} → Reader Seen → Seen → List What → Bool
allows_all reader seen [] = true
allows_all reader seen (event ∷ events) = reader.allows event seen && allows_all reader (reader.next event seen) events

-- the events of one session, in order
abbrev pub events_of : ℕ → List Event → List What
events_of n [] = []
events_of n (event ∷ events) = (if event.session == n then event.what ∷ events_of n events else events_of n events)

-- whether a number is one of a list
abbrev pub is_one_of : ℕ → List ℕ → Bool
is_one_of n numbers = list_any (λ other. other == n) numbers

abbrev pub with_session : ℕ → List ℕ → List ℕ
with_session n numbers = (if is_one_of n numbers then numbers else n ∷ numbers)

-- the sessions that the events are of, each once
abbrev pub sessions_of : List Event → List ℕ
sessions_of [] = []
sessions_of (event ∷ events) = with_session event.session (sessions_of events)
