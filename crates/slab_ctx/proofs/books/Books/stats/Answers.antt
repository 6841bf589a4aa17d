use Rattle.slab_ctx.proofs.Words.{refl, ◌≡◌, ◌+◌, ◌-◌, ◌*◌, length, ap, sym, ◌∙◌, arith, length-map, stats, free_in, numbered_of, others, blocks_of}
use Rattle.slab_ctx.proofs.Lemmas.{sums_are, free-is, bytes-small, length_blocks}
use Rattle.slab_ctx.specs.Ledger.{per_block, free_chunks}
use Rattle.slab_ctx.proofs.books.Books.stats.Goals as goal

pub overflow_mul-result : goal.overflow_mul-result
overflow_mul-result c =
    let is = ap (λ n. n * c.args.self.now.free) (c.from.ensures ∙ c.stride.ensures.value) in
    omega (arith, is, bytes-small c.args.self.now 0 c.requires)

pub returns : goal.returns
unfolding stats free_chunks
returns c =
    let b = c.args.self.now in
    let l = b.slots.blocks in
    let total : c.total.result ≡ 200 + 8192 * length (blocks_of l) = omega (arith, c.total.ensures.total, c.requires.bytes, length_blocks l) in
    let count : c.len.result - 1 ≡ length (blocks_of l) = omega (arith, c.len.ensures, ap length c.requires.listed.shape, length-map (others l.blocks) numbered_of) in
    rw (total, count, c.from.ensures, c.stride.ensures.value, free-is b 0 c.requires ∙ sym (sums_are (free_in (per_block b.slots.size)) (others l.blocks))) refl
