use Rattle.std.proofs.Common.{◌≡◌, ◌+◌, ◌∙◌, subst, arith}
use Rattle.addr_space.specs.Space.{held}
use Rattle.bump_ctx.specs.State.{footprint as footprint_of}
use Rattle.held_groups.specs.Held.{Held}
use Rattle.held_groups.proofs.Asked.{held_by, total_of}
use Rattle.held_groups.proofs.held.HeldGroups.reset.Goals as goal

pub returns-clause-held : goal.returns-clause-held
returns-clause-held c =
    let old = c.self.inside.context in
    let new = c.reset.new.self in
    let s = c.args.space.now in
    let t = c.reset.new.space in
    subst (λ (h : Held). held t h.state.layout.account + h.state.ledger.total ≡ held s h.state.layout.account + new.ledger.total) c.self.view_is
    (omega (arith, held_by (footprint_of old) (footprint_of new) s t c.reset.ensures.moves, c.counted.ensures ∙ total_of old.ledger, c.counted-2.ensures ∙ total_of new.ledger))
