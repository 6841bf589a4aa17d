-- What a session has of contexts beside its tables, with the hooks of the run.
use Rattle.std.specs.Prelude.{◌≡◌}
pub use Rattle.context_rules.specs.Contexts.{Contexts}
use Rattle.reset_callbacks.specs.ShelfState.{ShelfState}
use Rattle.session_rules.specs.World.{Scene}

-- what a session has of contexts, and the hooks of the run
pub record Hosting : Type 0 where
  pub contexts : Contexts
  pub shelf : ShelfState

abbrev pub hosting_of : Contexts → ShelfState → Hosting
hosting_of contexts shelf = record { contexts = contexts; shelf = shelf }

-- a scene has these contexts and these hooks
pub record HostsFit (hosting : Hosting) (scene : Scene) : Type 0 where
  pub contexts : scene.session.contexts ≡ hosting.contexts
  pub shelf : scene.around.shelf ≡ hosting.shelf

-- the scene with these contexts and these hooks
abbrev pub with_hosting : Hosting → Scene → Scene
with_hosting hosting scene = record scene {
  session = record scene.session { contexts = hosting.contexts };
  around = record scene.around { shelf = hosting.shelf };
}
