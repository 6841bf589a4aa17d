use Rattle.std.proofs.Common.{◌≡◌, length, take, refl, arith, rules}
use Rattle.std.proofs.lemmas.List.{places}
use Rattle.block_mem.specs.Block.{resized}
use Rattle.block_mem.proofs.Cells.{Holds-resized}
use Rattle.block_mem.proofs.RawBlock.resize.Goals.{then-n-self, else-n-self+in_ok-reserve_exact}
use Rattle.block_mem.proofs.RawBlock.resize.Goals as goal

pub invariant_of-self-2 : goal.invariant_of-self-2
invariant_of-self-2 c =
    let block = c.self.inside.known.entries in
    let n = c.args.len in
    let kept = Holds-resized c.self.inside.cells.items block c.self.invariant.2 n in
    let long : length (resized block n) ≡ n = search (rules, places) in
    elim c.if-n-self.branch [
      | then-n-self w ↦
          let told : c.resized-self-inside.result.entries ≡ resized block n = rw w.self-inside-is at c.resized-self-inside.ensures in
          rw (w.self-inside-is, told, w.shrink_to.ensures.items, w.truncate.ensures.items) (long, omega (arith, w.if-n-self.true, c.self.invariant.1, w.shrink_to.ensures.lower_bound, w.truncate.ensures.capacity), kept (take n c.self.inside.cells.items) (λ k short below. search (rules, places)))
      | else-n-self+in_ok-reserve_exact w ↦
          let does = w.in_ok-reserve_exact.ensures in
          let told : c.resized-self-inside.result.entries ≡ resized block n = rw w.self-inside-is at c.resized-self-inside.ensures in
          rw (w.self-inside-is, told, does.items) (long, omega (arith, does.ok, does.len, w.len.ensures, w.saturating_sub.ensures), kept c.self.inside.cells.items (λ k short below. (below, refl)))
    ]
