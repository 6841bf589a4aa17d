use Rattle.std.proofs.Common.{Some, None, slice_set, sym, ap, ◌∙◌}
use Rattle.std.proofs.lemmas.Option.{slice_get-get_or}
use Rattle.addr_space.specs.Live.{PutsLive}
use Rattle.any_ctx.specs.Contexts.{footprint}
use Rattle.core_bench.specs.Held.{AreLive}
use Rattle.core_bench.proofs.Held.{on_map, held-turned}
use Rattle.core_bench.proofs.chunks.Plan.turn.Goals as goal

pub returns-clause-held : goal.returns-clause-held
returns-clause-held c =
    let f = footprint c.args.context.now in
    let g = footprint c.alloc.new.self in
    let h = footprint c.free.new.self in
    let size = c.args.self.size in
    let chunks = c.args.chunks.now.items in
    let index = c.args.index in
    let at = c.in_ok-at.at in
    let old = c.index-oldest.result.now in
    let here = slice_get-get_or chunks index old c.requires.within ∙ ap Some (sym c.index-oldest.ensures) in
    on_map c.free.result (PutsLive g h old None) (AreLive h size (slice_set chunks index at))
    (λ gives. held-turned f g h size index chunks at old c.requires.held here c.in_ok-at.ensures.fresh c.in_ok-at.ensures.live gives) c.free.ensures.live
