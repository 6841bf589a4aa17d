use Rattle.slab_ctx.proofs.Words.{◌≡◌, Some, sym, ap, ◌∙◌, arith, items_of, stack_at}
use Rattle.slab_ctx.proofs.slots.is_at.Goals as goal

pub returns-in-Some : goal.returns-in-Some
returns-in-Some c = λ is.
    (let stack = c.in-Some.field-0-1.now in
    let key : c.in-Some.other.now ≡ c.args.number = grind (arith, is) in
    (stack, sym c.in-Some.ensures.entry ∙ ap (λ n. Some (n, stack)) key, ap (stack_at c.args.stacks.now.entries) (sym key) ∙ ap items_of c.in-Some.ensures.value))
