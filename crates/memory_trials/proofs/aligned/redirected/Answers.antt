use Rattle.std.proofs.Common.{◌≡◌, ℕ, Option, Some, None, refl, arith}
use Rattle.std.proofs.lemmas.List.{length-replicate}
use Rattle.addr_space.specs.Space.{region_at, unwritten}
use Rattle.aligned_ctx.specs.Aligned.{rounded_up}
use Rattle.memory_trials.proofs.aligned.redirected.Goals as goal

pub set_redirect-requires-clause-reaches : goal.set_redirect-requires-clause-reaches
unfolding rounded_up
set_redirect-requires-clause-reaches c =
    let is : region_at c.take.new.self c.in_ok-region.field-0.region ≡ Some (unwritten 0 1024) = c.in_ok-region.ensures.changes.changed in
    record { live = rw is refl; end_in_region = rw (is, length-replicate {A = Option ℕ} 1024 None) (omega arith) }
