use Rattle.std.proofs.Common.{◌≡◌, ◌+◌, ◌-◌, refl, length, map, Some, ap, ◌∙◌, arith}
use Rattle.block_mem.specs.Block.{part}
use Rattle.block_mem.proofs.Cells.{Holds-read}
use Rattle.block_mem.proofs.RawBlock.read.Goals as goal

pub returns : goal.returns
returns c =
    let n = length c.args.out.now in
    let block = c.self.inside.known.entries in
    let len = ap length c.self.view_is in
    let read = Holds-read c.self.inside.cells.items block c.self.invariant.2 c.args.at n (omega (arith, len, c.requires.inside)) (rw c.self.view_is c.requires.known) (omega (arith, c.if-out-eq0.false)) in
    let gap : c.args.at + n - c.args.at ≡ n = omega arith in
    let out : c.copy_from_slice.new.self ≡ part c.self.inside.cells.items c.args.at n = c.copy_from_slice.ensures.after ∙ rw (gap, c.deref.ensures.value) refl in
    ap (map Some) out ∙ read.1 ∙ ap (λ b. part b c.args.at n) c.self.view_is
