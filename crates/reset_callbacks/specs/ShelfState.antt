-- What a shelf stands for, and what each call makes of it.
use Rattle.std.specs.Prelude.{ℕ, ◌+◌, ◌-◌, List, [], ◌∷◌, ◌++◌, drop}
use Rattle.reset_callbacks.specs.Hook.{Hook, in_order}

-- the hooks that may be taken, in rising order of their words, those that were finished, in the
-- order in which they were, and how many were taken and are neither finished nor put back
pub record ShelfState : Type 0 where
  pub fresh : List Hook
  pub spent : List Hook
  pub out : ℕ

-- the hooks that the shelf holds
abbrev pub held : ShelfState → List Hook
held s = s.fresh ++ s.spent

-- after the first fresh hook is taken
abbrev pub taken : ShelfState → ShelfState
taken s = record s { fresh = drop 1 s.fresh; out = s.out + 1 }

-- after a hook is handed in as spent
abbrev pub finished : Hook → ShelfState → ShelfState
finished h s = record s { spent = s.spent ++ h ∷ []; out = s.out - 1 }

-- after a hook is handed back fresh
abbrev pub returned : Hook → ShelfState → ShelfState
returned h s = record s { fresh = h ∷ s.fresh; out = s.out - 1 }

-- after all spent hooks are made fresh
abbrev pub renewed : ShelfState → ShelfState
renewed s = record s { fresh = in_order (s.fresh ++ s.spent); spent = [] }
