-- Each callback runs once, before its context's memory goes.
use Rattle.std.specs.Prelude.{ℕ, ◌==◌, Bool, true, false, not, ◌&&◌, if◌then◌else◌, IsTrue, List, [], ◌∷◌, filter_map, Option, Some, None}
use Rattle.std.specs.List.{list_all, list_any}
use Rattle.pgs_step.specs.declared.events.Event.{Event}
use Rattle.pgs_step.specs.declared.events.What.{What}
use Rattle.pgs_step.specs.declared.events.What.TheVariants as what
use Rattle.lifetime_laws.specs.Reading.{Reader, allows_all, seen_after, events_of, is_one_of, sessions_of}
use Rattle.lifetime_laws.specs.Once.{none_left}

-- a callback that waits: its word, and the context whose memory it waits for
pub record Waiting : Type 0 where
  pub word : ℕ
  pub context : ℕ

-- whether a callback waits on this context
abbrev pub is_awaited : ℕ → List Waiting → Bool
is_awaited context hooks = list_any (λ hook. hook.context == context) hooks

-- whether the newest that waits on this context has this word
abbrev pub is_next : ℕ → ℕ → List Waiting → Bool
is_next word context [] = false
is_next word context (hook ∷ hooks) = (if hook.context == context then hook.word == word else is_next word context hooks)

-- the others, without the newest that waits on this context
abbrev pub without_next : ℕ → List Waiting → List Waiting
without_next context [] = []
without_next context (hook ∷ hooks) = (if hook.context == context then hooks else hook ∷ without_next context hooks)

-- The reader that sees which callbacks wait, the newest first: of a context the newest is called, and its memory goes only when none waits.
abbrev pub calling : Reader (List Waiting)
calling = record { next = next; allows = allows }
  where
    next : What → List Waiting → List Waiting
    next (what.Hook word context) hooks = record { word = word; context = context } ∷ hooks
    next (what.Callback word context) hooks = without_next context hooks
    next other hooks = hooks

    allows : What → List Waiting → Bool
    allows (what.Callback word context) hooks = is_next word context hooks
    allows (what.Reset context) hooks = not (is_awaited context hooks)
    allows (what.Delete context) hooks = not (is_awaited context hooks)
    allows other hooks = true

-- Whether the events of one session call each callback once, the newest of a context first, and before the context is reset or deleted.
abbrev pub is_called : List What → Bool
is_called events = allows_all calling [] events && none_left (seen_after calling [] events)

-- the word of the callback that an event registers
abbrev pub word_in : Event → Option ℕ
word_in event = word_of event.what
  where
    word_of : What → Option ℕ
    word_of (what.Hook word context) = Some word
    word_of other = None

abbrev pub words_in : List Event → List ℕ
words_in events = filter_map word_in events

-- whether the numbers all differ
abbrev pub all_differ : List ℕ → Bool
all_differ [] = true
all_differ (n ∷ numbers) = not (is_one_of n numbers) && all_differ numbers

-- Each callback that is registered runs once, in its session, the newest of a context first, before the context is reset or deleted; none runs
-- that was not registered, and no two have one word, in all sessions.
pub record CallsBack (events : List Event) : Type 0 where
  pub called : (n : ℕ) → IsTrue (is_called (events_of n events))
  pub words : IsTrue (all_differ (words_in events))

-- whether this holds
abbrev pub calls_back : List Event → Bool
calls_back events = list_all (λ n. is_called (events_of n events)) (sessions_of events) && all_differ (words_in events)
