-- The extension kinds that the program makes.
use Rattle.std.proofs.Common.{◌≡◌, List, [], ◌∷◌, IfOk, Result, Ok, Err, refl, ◌∙◌}
use Rattle.std.specs.Prelude.{codes}
use Rattle.std.specs.declared.alloc.AllocError.{AllocError}
use Rattle.pgs_step.specs.declared.ids.Phase.TheVariants.{BeforeLocks, AfterLocks}
use Rattle.owner_kinds.specs.Kind.{Kind}
use Rattle.pgscript_cli.specs.Program.{the_kinds}

-- the two kinds, in their order
pub both_are : (conn handle : Kind) → conn ≡ record { name = codes "conn"; phase = BeforeLocks; priority = 350; limit = 4; held = [] }
    → handle ≡ record { name = codes "handle"; phase = AfterLocks; priority = 250; limit = 8; held = [] } → conn ∷ handle ∷ [] ≡ the_kinds
unfolding the_kinds
both_are conn handle c h = rw (c, h) refl

-- the kinds of a shelf that is made of these
pub kinds_are : (r : Result (List Kind) AllocError) (kinds : List Kind) → IfOk r (λ s. s ≡ kinds) → kinds ≡ the_kinds → IfOk r (λ s. s ≡ the_kinds)
kinds_are (Ok s) kinds is all = is ∙ all
kinds_are (Err error) kinds is all = tt
