-- What scripts ask of the space, computed from the definitions.
use Rattle.std.proofs.Common.{◌≡◌, ℕ, ◌+◌, List, [], ◌∷◌, Some, refl}
use Rattle.std.specs.Prelude.{Option, None, codes}
use Rattle.session_rules.specs.State.{opening}
use Rattle.session_rules.specs.World.{Options}
use Rattle.session_rules.specs.Making.{held}
use Rattle.pgs_command.specs.Lines.{read_line}
use Rattle.session_rules.specs.Asked.{asked_by}
use Rattle.session_rules.specs.Limits.{asked_at_opening}
use Rattle.session_rules.proofs.Setting.{options, kinds, hooks}
use Rattle.lifetime_rows.proofs.Setting.{all_rules}

-- what the lines of a script ask for the session of a number
abbrev pub asked_for : Option ℕ → ℕ → Options → List (List ℕ) → ℕ
asked_for w n options script = asked_by read_line w options kinds hooks script n

pub record AskingRows : Type 0 where
  -- what a session asks as it opens is what its contexts hold then
  pub opening_holds : held opening ≡ asked_at_opening
  -- the context of the level, and an own block: both given back at the rollback
  pub an_own_block : asked_for None 1 options (codes "begin" ∷ codes "alloc a 8193" ∷ codes "rollback" ∷ []) ≡ 8192 + 8248
  -- an own block that is given back is asked again; a free chunk is not
  pub asked_again : asked_for None 1 options (codes "begin" ∷ codes "alloc a 8193" ∷ codes "free a" ∷ codes "alloc b 8193" ∷ codes "alloc c 100" ∷ codes "free c" ∷ codes "alloc d 100" ∷ []) ≡ 8192 + 8248 + 8248
  -- a small context, and its second block
  pub a_second_block : asked_for None 1 options (codes "begin" ∷ codes "context w TopMemoryContext small" ∷ codes "switch w" ∷ codes "alloc a 1024" ∷ []) ≡ 8192 + 1024 + 2048
  -- an own block asks what it grows by
  pub a_growth : asked_for None 1 options (codes "begin" ∷ codes "alloc a 9000" ∷ codes "realloc a 20000" ∷ codes "realloc a 9000" ∷ []) ≡ 8192 + 9048 + 11000
  -- what is refused asks nothing
  pub over_the_share : asked_for None 1 (record options { space = 131072 }) (codes "begin" ∷ codes "alloc a 57296" ∷ codes "alloc b 8193" ∷ codes "rollback" ∷ codes "begin" ∷ []) ≡ 8192 + 57344 + 8192
  -- nor does anything behind a want of memory
  pub behind_a_want : asked_for (Some 4) 1 options (codes "begin" ∷ codes "alloc a 8193" ∷ codes "rollback" ∷ codes "begin" ∷ []) ≡ 8192
  -- a plan asks for its context, and a level that is begun for one command alone for its own
  pub a_plan : asked_for None 1 options (codes "plan 1" ∷ codes "pin 7" ∷ []) ≡ 8192 + 1024 + 8192
  -- each session asks for itself, and a line of none asks nothing
  pub two_ask : asked_for None 2 (record options { sessions = 2 }) (codes "@2 begin" ∷ codes "begin" ∷ codes "@3 begin" ∷ codes "@2 alloc a 8193" ∷ []) ≡ 8192 + 8248
  pub the_first_asks : asked_for None 1 (record options { sessions = 2 }) (codes "@2 begin" ∷ codes "begin" ∷ codes "@3 begin" ∷ codes "@2 alloc a 8193" ∷ []) ≡ 8192
  pub none_asks : asked_for None 3 (record options { sessions = 2 }) (codes "@2 begin" ∷ codes "begin" ∷ codes "@3 begin" ∷ codes "@2 alloc a 8193" ∷ []) ≡ 0

pub asking_rows : AskingRows
unfolding all_rules
asking_rows = record { opening_holds = refl; an_own_block = refl; asked_again = refl; a_second_block = refl; a_growth = refl; over_the_share = refl; behind_a_want = refl; a_plan = refl; two_ask = refl; the_first_asks = refl; none_asks = refl }
