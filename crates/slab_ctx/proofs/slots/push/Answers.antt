use Rattle.slab_ctx.proofs.Words.{◌∙◌, ap, option_map, ◌≡◌, ℕ, ◌==◌, if◌then◌else◌, List, Some, slice_get, sym, arith, with_item, nat_eq_equiv, updates-with_value_at, items_of, stack_at, slice_set, Vec, lookup, values_of, slice_get-map, one_value}
use Rattle.slab_ctx.proofs.slots.push.Goals as goal

-- an offset is written in the stack at a place
stack-set : (es : List (ℕ × Vec ℕ)) (place number depth offset other : ℕ) (was stack : Vec ℕ) → slice_get es place ≡ Some (number, was) → stack_at es number ≡ was.items → Some stack ≡ slice_get (values_of es) place
    → items_of (if number == other then Some (with_item stack depth offset) else lookup (λ n. other == n) es) ≡ (if number == other then slice_set (stack_at es number) depth offset else stack_at es other)
stack-set es place number depth offset other was stack at items found =
    let same : stack ≡ was = one_value (slice_get (values_of es) place) stack was (sym found) (slice_get-map (λ e. e.1) es place ∙ ap (option_map (λ e. e.1)) at) in
    let here : stack.items ≡ stack_at es number = ap (λ (v : Vec ℕ). v.items) same ∙ sym items in
    rw (← here) (grind arith)

pub returns : goal.returns
returns c = λ other.
    (let m = c.args.stacks.now in
    let was = c.requires.place.0 in
    let at = c.requires.place.1 in
    let stack = c.in-Some.stack.now in
    let updates = updates-with_value_at m c.args.place (with_item stack c.args.depth c.args.offset) nat_eq_equiv c.get_index_mut.ensures.unique c.args.number was at in
    ap items_of (updates.0 other) ∙ stack-set m.entries c.args.place c.args.number c.args.depth c.args.offset other was stack at c.requires.place.2 c.in-Some.ensures.value)
