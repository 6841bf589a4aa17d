use Rattle.context_node.proofs.Words.{◌≡◌, ℕ, ◌+◌, ◌≤◌, ◌∙◌, length, replicate, take, arith, ap, take-replicate, region_at, bytes_of}
use Rattle.context_node.proofs.Lemmas.{zeros_more}
use Rattle.addr_space.proofs.Copied.{some_region}
use Rattle.context_node.proofs.zeros.write_zeros.Goals as goal

short_of : (n m : ℕ) → n ≤ m → take n (replicate m 0) ≡ replicate {A = ℕ} n 0
short_of n m below = take-replicate n m 0 below

pub loop-done-preserved : goal.loop-done-preserved
loop-done-preserved c =
    let target = some_region (region_at c.args.space.now c.args.at.region) c.requires.inside.live in
    let bound : c.args.at.offset + c.loop-done.done ≤ length target.0.bytes = omega (arith, c.requires.inside.end_in_region, ap (λ r. length (bytes_of r)) target.1, c.loop-done.invariant.within) in
    record {
      within = omega (arith, c.min-step.ensures);
      taken = c.write.ensures.taken ∙ c.loop-done.invariant.taken;
      changes = zeros_more c.args.space.now c.loop-done.space c.write.new.self c.args.at c.loop-done.done c.min-step.result (take c.min-step.result (replicate 256 0)) target.0 target.1 bound c.loop-done.invariant.changes c.write.ensures.changes (short_of c.min-step.result 256 (omega (arith, c.min-step.ensures)));
    }
