-- The transcripts of a run keep the laws of lifetimes.
use Rattle.pgs_world.proofs.Base.{arith, nat_tests, ℕ, List}
use Rattle.pgs_world.proofs.Words.{read_line, AreDistinct, Setting, transcript, Kind, ShelfState, Asked, AskFor, setting_for, AreLawful, AreMadeOnce}
use Rattle.owner_kinds.specs.KindTable.{IsSound}
use Rattle.owner_kinds.specs.KindShelf.{table_of}
use Rattle.reset_callbacks.specs.ShelfState.{held}
use Rattle.session_laws.proofs.Lawful.{transcript_is_lawful, transcript_makes_once}

pub run_is_lawful : (setting : Setting) → AreDistinct (held setting.shelf) → IsSound (table_of setting.kinds) → AreLawful setting
unfolding transcript
run_is_lawful setting differ sound = λ lines w. transcript_is_lawful read_line w setting.options setting.kinds setting.shelf lines differ sound

pub run_makes_once : (setting : Setting) → AreDistinct (held setting.shelf) → IsSound (table_of setting.kinds) → AreMadeOnce setting
unfolding transcript
run_makes_once setting differ sound = λ lines w. transcript_makes_once read_line w setting.options setting.kinds setting.shelf lines differ sound

-- the same for what words ask for
pub asked_is_lawful : (words : List (List ℕ)) (a b : Asked) (shelf : ShelfState) (kinds : List Kind) → AskFor words a → AskFor words b → AreLawful (setting_for a shelf kinds) → AreLawful (setting_for b shelf kinds)
asked_is_lawful words a b shelf kinds one other h = grind (arith, nat_tests)

pub asked_makes_once : (words : List (List ℕ)) (a b : Asked) (shelf : ShelfState) (kinds : List Kind) → AskFor words a → AskFor words b → AreMadeOnce (setting_for a shelf kinds) → AreMadeOnce (setting_for b shelf kinds)
asked_makes_once words a b shelf kinds one other h = grind (arith, nat_tests)
