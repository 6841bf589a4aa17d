use Rattle.slab_ctx.proofs.Words.{◌≡◌, ◌+◌, ◌<◌, ◌==◌, length, sym, ◌∙◌, arith, Found-position}
use Rattle.slab_ctx.proofs.Lemmas.{entry-removed}
use Rattle.slab_ctx.proofs.ranks.Ranks.remove.Goals as goal

pub returns-clause-ranked : goal.returns-clause-ranked
returns-clause-ranked c =
    let r = c.settle.new.self in
    let ranked = c.settle.ensures.ranked in
    let es = r.entries.entries in
    let fs = c.swap_remove_full.new.self.entries in
    let place = c.in-Some.place in
    let last = c.len-last.result in
    let long : length fs + 1 ≡ length es = c.in-Some.ensures.len in
    let is_last : last ≡ length fs = c.len-last.ensures.len in
    let found = sym c.in-Some.ensures.index in
    let inside = (Found-position (λ n. c.args.key == n) es place found).within in
    let under : last < r.tree.places = omega (arith, long, is_last, ranked.few) in
    record {
      tree = c.close.ensures.tree;
      few = omega (arith, long, c.close.ensures.places, ranked.few);
      leaf = λ p within.
          c.close.ensures.leaves p
          ∙ rw (ranked.leaf last under, ranked.leaf p (omega (arith, within, c.close.ensures.places)), c.settle.ensures.none, is_last) (entry-removed es fs (λ n. c.args.key == n) place found c.in-Some.ensures.entries long (omega (arith, inside, long)) p);
      current = rw c.settle.ensures.none tt;
      distinct = c.swap_remove_full.ensures.unique;
    }
