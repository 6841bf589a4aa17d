use Rattle.slab_ctx.proofs.Words.{◌≡◌, ◌==◌, Some, sym, ap, ◌∙◌, arith, items_of}
use Rattle.std.proofs.lemmas.Map.Made.{lookup_key_passes}
use Rattle.slab_ctx.proofs.slots.seek.Goals as goal

pub returns : goal.returns
returns c =
    let stack = c.in-Some.field-0-2.now in
    let passes = lookup_key_passes (λ n. c.args.number == n) c.args.stacks.now.entries c.in-Some.field-0-1.now (sym c.in-Some.ensures.key) in
    let key : c.in-Some.field-0-1.now ≡ c.args.number = grind (arith, passes) in
    (stack, c.in-Some.ensures.entry ∙ ap (λ n. Some (n, stack)) key, ap items_of (sym c.in-Some.ensures.value))
