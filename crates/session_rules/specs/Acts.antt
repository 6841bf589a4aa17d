-- What can't fail, in parts: each is a function from a scene to the scene behind it and the events in order.
use Rattle.std.specs.Prelude.{ℕ, Bool, true, false, List, [], ◌∷◌, ◌++◌, Option, Some, None}
use Rattle.pgs_step.specs.declared.events.What.{What}
use Rattle.context_rules.specs.Ends as contexts
use Rattle.context_rules.specs.Ends.{gone, cleared, cleared_alone, handed_in}
use Rattle.session_rules.specs.State.{OpenPortal, SessionState}
use Rattle.session_rules.specs.World.{Scene}
use Rattle.session_rules.specs.Lookup.{portal_changed, portals_but}

-- the scene behind an act, and its events in order
pub record Ended : Type 0 where
  pub scene : Scene
  pub events : List What

-- some events, and then what ended
abbrev pub behind : List What → Ended → Ended
behind events ended = record { scene = ended.scene; events = events ++ ended.events }

-- one act and then another
abbrev pub and_then : Ended → (Scene → Ended) → Ended
and_then first act = behind first.events (act first.scene)

-- acts in order
abbrev pub in_order : List (Scene → Ended) → Scene → Ended
in_order [] scene = record { scene = scene; events = [] }
in_order (act ∷ acts) scene = let first = act scene in behind first.events (in_order acts first.scene)

-- nothing happens
abbrev pub nothing : Scene → Ended
nothing scene = record { scene = scene; events = [] }

-- something is said
abbrev pub say : What → Scene → Ended
say event scene = record { scene = scene; events = event ∷ [] }

-- the session changes, and nothing is said
abbrev pub changes : (SessionState → SessionState) → Scene → Ended
changes change scene = record { scene = record scene { session = change scene.session }; events = [] }

-- an act on what is there
abbrev pub where_there : {A : Type 0} → Option A → (A → Scene → Ended) → Scene → Ended
where_there None act scene = nothing scene
where_there (Some x) act scene = act x scene

-- an act, where something is so
abbrev pub where_so : Bool → (Scene → Ended) → Scene → Ended
where_so false act scene = nothing scene
where_so true act scene = act scene

-- an act for each of a list, in order
abbrev pub for_each : {A : Type 0} → (A → Scene → Ended) → List A → Scene → Ended
for_each act [] scene = nothing scene
for_each act (x ∷ xs) scene = let first = act x scene in behind first.events (for_each act xs first.scene)

-- what became of the contexts, and the hooks that ran then are handed in
abbrev pub of_contexts : contexts.Ended → Scene → Ended
of_contexts ended scene = record {
  scene = record {
    session = record scene.session { contexts = ended.contexts };
    around = record scene.around { shelf = handed_in ended.hooks scene.around.shelf };
  };
  events = ended.events;
}

-- a context goes with all below it; all below it goes; it is reset; it is reset and all below it goes
abbrev pub context_gone : ℕ → Scene → Ended
context_gone n scene = of_contexts (gone n scene.session.contexts) scene

abbrev pub children_gone : ℕ → Scene → Ended
children_gone n scene = of_contexts (contexts.children_gone n scene.session.contexts) scene

abbrev pub context_cleared_alone : ℕ → Scene → Ended
context_cleared_alone n scene = of_contexts (cleared_alone n scene.session.contexts) scene

abbrev pub context_cleared : ℕ → Scene → Ended
context_cleared n scene = of_contexts (cleared n scene.session.contexts) scene

-- the portal of this name changes, or is there no more
abbrev pub portal_becomes : List ℕ → (OpenPortal → OpenPortal) → Scene → Ended
portal_becomes name change scene = changes (λ session. record session { portals = portal_changed name change session.portals }) scene

abbrev pub portal_gone : List ℕ → Scene → Ended
portal_gone name scene = changes (λ session. record session { portals = portals_but name session.portals }) scene

-- the current context is another one
abbrev pub switched : ℕ → Scene → Ended
switched n scene = changes (λ session. record session { current = n }) scene
