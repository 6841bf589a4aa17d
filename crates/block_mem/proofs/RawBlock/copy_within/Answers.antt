use Rattle.std.proofs.Common.{◌≡◌, ◌+◌, ◌≤◌, length, ap, ◌∙◌, arith, rules}
use Rattle.std.proofs.lemmas.List.{places}
use Rattle.block_mem.specs.Block.{part, overwritten}
use Rattle.block_mem.proofs.Bytes.{copied-within}
use Rattle.block_mem.proofs.Cells.{Holds-more, Holds-carried}
use Rattle.block_mem.proofs.RawBlock.copy_within.Goals as goal

pub invariant_of-self : goal.invariant_of-self
invariant_of-self c =
    let old = c.self.inside.known.entries in
    let n = c.args.n in
    let cells = c.reach.new.cells.items in
    let len : length old ≡ length c.args.self.now = ap length c.self.view_is in
    let inside : c.args.from + n ≤ length old = omega (arith, len, c.requires.from) in
    let room : c.args.to + n ≤ length old = omega (arith, len, c.requires.to) in
    let reached : c.args.from + n ≤ length cells = omega (arith, c.reach.ensures.reached, c.max.ensures) in
    let wide : c.args.to + n ≤ length cells = omega (arith, c.reach.ensures.reached, c.max.ensures) in
    let more = Holds-more c.self.inside.cells.items old c.self.invariant.2 cells c.reach.ensures.kept in
    let holds = Holds-carried cells old more c.args.from c.args.to n inside room reached wide in
    let same : length (overwritten old c.args.to (part old c.args.from n)) ≡ length old = search (rules, places) in
    let items : c.copy_within.new.self.items ≡ overwritten cells c.args.to (part cells c.args.from n) = c.copy_within.ensures.items ∙ copied-within cells c.args.from c.args.to n reached in (
      ap length c.carried-self-inside.ensures ∙ same ∙ c.self.invariant.0,
      omega (arith, c.self.invariant.1, c.reach.ensures.room, c.copy_within.ensures.capacity),
      rw (c.carried-self-inside.ensures, items) holds,
    )
