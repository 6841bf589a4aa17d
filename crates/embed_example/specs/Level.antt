-- What is said of a tree in which a context is made and deleted.
use Rattle.std.specs.Prelude.{ℕ, List, [], ◌∷◌, ◌++◌, codes}
use Rattle.pgs_step.specs.declared.events.What.{What}
use Rattle.pgs_step.specs.declared.events.What.TheVariants.{Create, Callback, Delete}

-- the context is made, the hook of this word runs, and the context goes
abbrev pub level_said : ℕ → List What
level_said word = Create 6 (codes "Level") 1 ∷ Callback word 6 ∷ Delete 6 ∷ []

-- and then the contexts that the tree began with go, the newest first and the topmost one last
abbrev pub tree_said : ℕ → List What
tree_said word = level_said word ++ Delete 5 ∷ Delete 4 ∷ Delete 3 ∷ Delete 2 ∷ Delete 1 ∷ []
