use Rattle.std.proofs.Common.{◌≡◌, ◌+◌, ◌≤◌, length, map, Some, ap, ◌∙◌, arith, rules}
use Rattle.std.proofs.lemmas.List.{places, length-map}
use Rattle.block_mem.specs.Block.{overwritten}
use Rattle.block_mem.proofs.Cells.{Holds-more, Holds-written}
use Rattle.block_mem.proofs.RawBlock.write.Goals as goal

pub invariant_of-self : goal.invariant_of-self
invariant_of-self c =
    let old = c.self.inside.known.entries in
    let inside : c.args.at + length c.args.bytes.now ≤ length old = omega (arith, ap length c.self.view_is, c.requires) in
    let more = Holds-more c.self.inside.cells.items old c.self.invariant.2 c.reach.new.cells.items c.reach.ensures.kept in
    let holds = Holds-written c.reach.new.cells.items old more c.args.at c.args.bytes.now inside c.reach.ensures.reached in
    let same : length (overwritten old c.args.at (map Some c.args.bytes.now)) ≡ length old = search (rules, places, length-map) in (
      ap length c.written-self-inside.ensures ∙ same ∙ c.self.invariant.0,
      omega (arith, c.self.invariant.1, c.reach.ensures.room, c.store.ensures.room),
      rw (c.written-self-inside.ensures, c.store.ensures.items) holds,
    )
