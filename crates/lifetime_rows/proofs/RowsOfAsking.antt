-- Scripts that ask for space: their transcripts keep the laws.
use Rattle.std.proofs.Common.{◌≡◌, true, [], ◌∷◌, Some, refl}
use Rattle.std.specs.Prelude.{codes}
use Rattle.session_rules.proofs.Setting.{options}
use Rattle.lifetime_rows.proofs.Setting.{keeps_laws, keeps_laws_wanting, all_rules}

pub an_own_block : keeps_laws options (codes "begin" ∷ codes "alloc a 8193" ∷ codes "rollback" ∷ []) ≡ true
unfolding all_rules
an_own_block = refl

pub asked_again : keeps_laws options (codes "begin" ∷ codes "alloc a 8193" ∷ codes "free a" ∷ codes "alloc b 8193" ∷ codes "alloc c 100" ∷ codes "free c" ∷ codes "alloc d 100" ∷ []) ≡ true
unfolding all_rules
asked_again = refl

pub a_second_block : keeps_laws options (codes "begin" ∷ codes "context w TopMemoryContext small" ∷ codes "switch w" ∷ codes "alloc a 1024" ∷ []) ≡ true
unfolding all_rules
a_second_block = refl

pub a_growth : keeps_laws options (codes "begin" ∷ codes "alloc a 9000" ∷ codes "realloc a 20000" ∷ codes "realloc a 9000" ∷ []) ≡ true
unfolding all_rules
a_growth = refl

pub over_the_share : keeps_laws (record options { space = 131072 }) (codes "begin" ∷ codes "alloc a 57296" ∷ codes "alloc b 8193" ∷ codes "rollback" ∷ codes "begin" ∷ []) ≡ true
unfolding all_rules
over_the_share = refl

pub behind_a_want : keeps_laws_wanting (Some 4) options (codes "begin" ∷ codes "alloc a 8193" ∷ codes "rollback" ∷ codes "begin" ∷ []) ≡ true
unfolding all_rules
behind_a_want = refl

pub a_plan : keeps_laws options (codes "plan 1" ∷ codes "pin 7" ∷ []) ≡ true
unfolding all_rules
a_plan = refl

pub two_ask : keeps_laws (record options { sessions = 2 }) (codes "@2 begin" ∷ codes "begin" ∷ codes "@3 begin" ∷ codes "@2 alloc a 8193" ∷ []) ≡ true
unfolding all_rules
two_ask = refl
