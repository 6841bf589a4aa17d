use Rattle.std.proofs.Common.{◌≤◌, length, rules}
use Rattle.pgs_step.proofs.KeptLemmas.{kept_front}
use Rattle.pgs_step.proofs.chunk_bytes.ChunkBytes.new.Goals as goal

pub invariant_of-result : goal.invariant_of-result
invariant_of-result c =
    let short : length c.args.bytes.now ≤ 128 = search rules in
    kept_front 128 c.args.bytes.now _ (search rules) short
