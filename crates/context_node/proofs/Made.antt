-- A context that was just made.
use Rattle.context_node.proofs.Words.{ℕ, arith, Space, Kept, IsSoundContext}
use Rattle.context_node.specs.declared.making.NewContext.{NewContext}
use Rattle.context_node.specs.Making.{Made}
use Rattle.std.proofs.lemmas.Bool.Decides.{nat_tests}

-- what a context that was just made is like
pub sound_made : (new : NewContext) (k : Kept) (account slot : ℕ) (s t : Space) → Made new k account slot s t → IsSoundContext k
sound_made new k account slot s t made = grind (arith, nat_tests, made.now, made.total)
