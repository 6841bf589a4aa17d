-- What goes and what is reset, with the callbacks.
use Rattle.std.specs.Prelude.{ℕ, ◌-◌, false, if◌then◌else◌, List, [], ◌∷◌, ◌++◌, length, map}
use Rattle.std.specs.Option.{option_map_or}
use Rattle.pgs_step.specs.declared.events.What.{What}
use Rattle.pgs_step.specs.declared.events.What.TheVariants.{Reset, Delete, Callback}
use Rattle.forest.specs.Forest.{Empty, Node, at, children, changed, removed, subtree, with_children}
use Rattle.reset_callbacks.specs.Hook.{Hook, ran}
use Rattle.reset_callbacks.specs.ShelfState.{ShelfState}
use Rattle.any_ctx.specs.Ledgers as ledgers
use Rattle.context_rules.specs.Contexts.{Context, Contexts}

-- the hooks that wait in a forest, in the order in which they run when all of it goes: below a context before its
-- own, the newest child's first, and of one context the newest first
abbrev pub waiting : Contexts → List Hook
waiting Empty = []
waiting (Node n c below beside) = waiting below ++ (c.hooks ++ waiting beside)

-- what is said of a context's hooks when they run, the newest first
abbrev pub callbacks : ℕ → List Hook → List What
callbacks n hooks = map (λ hook. Callback hook.word n) hooks

-- what is said when all contexts of a forest go: each behind all that is below it, the newest child first, and its
-- callbacks directly before it
abbrev pub gone_events : Contexts → List What
gone_events Empty = []
gone_events (Node n c below beside) = gone_events below ++ (callbacks n c.hooks ++ (Delete n ∷ gone_events beside))

-- what becomes of contexts when some of them go or are reset: the contexts then, what is said, and the hooks that
-- run, in order
pub record Ended : Type 0 where
  pub contexts : Contexts
  pub events : List What
  pub hooks : List Hook

-- one after the other
abbrev pub and_then : Ended → Ended → Ended
and_then a b = record { contexts = b.contexts; events = a.events ++ b.events; hooks = a.hooks ++ b.hooks }

-- nothing happens
abbrev pub unchanged : Contexts → Ended
unchanged contexts = record { contexts = contexts; events = []; hooks = [] }

-- A context goes, with all below it.
abbrev pub gone : ℕ → Contexts → Ended
gone n contexts = record {
  contexts = removed n contexts;
  events = gone_events (subtree n contexts);
  hooks = waiting (subtree n contexts);
}

-- All below a context goes.
abbrev pub children_gone : ℕ → Contexts → Ended
children_gone n contexts = record {
  contexts = with_children n Empty contexts;
  events = gone_events (children n contexts);
  hooks = waiting (children n contexts);
}

-- a context that was reset
abbrev pub emptied : Context → Context
emptied c = record c { ledger = ledgers.reset c.ledger; used = false; chunks = []; hooks = [] }

-- A context is reset, where it was used since it was made or reset.
abbrev pub reset_of : ℕ → Contexts → Context → Ended
reset_of n contexts c =
    if c.used then record {
      contexts = changed n emptied contexts;
      events = callbacks n c.hooks ++ (Reset n ∷ []);
      hooks = c.hooks;
    } else unchanged contexts

abbrev pub cleared_alone : ℕ → Contexts → Ended
cleared_alone n contexts = option_map_or (reset_of n contexts) (at n contexts) (unchanged contexts)

-- The same, once all below it is gone.
abbrev pub cleared : ℕ → Contexts → Ended
cleared n contexts = and_then (children_gone n contexts) (cleared_alone n (children_gone n contexts).contexts)

-- the shelf once these hooks ran and were handed in
abbrev pub handed_in : List Hook → ShelfState → ShelfState
handed_in hooks shelf = record shelf { spent = shelf.spent ++ map ran hooks; out = shelf.out - length hooks }
