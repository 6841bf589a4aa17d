use Rattle.std.proofs.Common.{◌≡◌, ◌≤◌, ◌+◌, ◌-◌, ◌^◌, Some, None, ap, ◌∙◌, arith}
use Rattle.std.specs.Ordering.{nat_cmp}
use Rattle.std.specs.BTreeMap.{is_at}
use Rattle.std.specs.Map.{lookup}
use Rattle.counts.specs.Counts.{count_of, total}
use Rattle.pin_table.proofs.PartLemmas.{looked_up, count_here, count_behind, positive, parts_set, less_set, total_less_set, parts_free, less_free, total_less_free, parts_behind, less_behind, total-merged}
use Rattle.pin_table.proofs.private.PrivateCounts.lower.Goals as goal

pub returns-in_err-left-clause-left : goal.returns-in_err-left-clause-left
returns-in_err-left-clause-left c =
    let none : lookup (is_at (nat_cmp c.args.buffer)) c.self.inside.few.items ≡ None = looked_up c.args.buffer _ _ _ _ c.count_among.ensures c.as_slice.ensures.value c.in_default.is in
    rw (c.from_residual.ensures, ← c.self.view_is) (count_behind c.self.inside.few.items c.self.inside.rest c.args.buffer none ∙ c.in_err-left.ensures.left)

pub returns-in_default-clause-left : goal.returns-in_default-clause-left
returns-in_default-clause-left c =
    let none : lookup (is_at (nat_cmp c.args.buffer)) c.self.inside.few.items ≡ None = looked_up c.args.buffer _ _ _ _ c.count_among.ensures c.as_slice.ensures.value c.in_default.is in
    rw (← c.self.view_is) (count_behind c.self.inside.few.items c.self.inside.rest c.args.buffer none ∙ c.in_ok-left.ensures.left)

pub returns-in_default-clause-counts : goal.returns-in_default-clause-counts
returns-in_default-clause-counts c q =
    let none : lookup (is_at (nat_cmp c.args.buffer)) c.self.inside.few.items ≡ None = looked_up c.args.buffer _ _ _ _ c.count_among.ensures c.as_slice.ensures.value c.in_default.is in
    let here : count_of nat_cmp c.lower.new.self c.args.buffer + 1 ≡ count_of nat_cmp c.self.inside.rest c.args.buffer = omega (arith, c.in_ok-left.ensures.left, c.in_ok-left.ensures.counted) in
    rw (← c.self.view_is) (less_behind c.self.inside.few.items c.self.inside.rest c.args.buffer none c.lower.new.self c.in_ok-left.ensures.others here q)

pub returns-in_default-clause-total : goal.returns-in_default-clause-total
returns-in_default-clause-total c =
    let none : lookup (is_at (nat_cmp c.args.buffer)) c.self.inside.few.items ≡ None = looked_up c.args.buffer _ _ _ _ c.count_among.ensures c.as_slice.ensures.value c.in_default.is in
    let fits : total c.lower.new.self ≤ 2 ^ 62 = omega (arith, c.in_ok-left.ensures.total, c.self.invariant.room) in
    let parts = parts_behind c.self.inside.few.items c.self.inside.rest c.lower.new.self c.args.buffer c.self.invariant none c.laws.ensures.counts c.in_ok-left.ensures.others fits in
    omega (arith, c.in_ok-left.ensures.total, ap total c.self.view_is, total-merged c.self.inside.few.items c.self.inside.rest c.self.invariant, total-merged c.self.inside.few.items c.lower.new.self parts)

pub invariant_of-self-then-count-eq1 : goal.invariant_of-self-then-count-eq1
invariant_of-self-then-count-eq1 c = rw c.free_place.ensures (parts_free c.self.inside.few.items c.self.inside.rest c.args.buffer c.self.invariant)

pub returns-then-count-eq1-clause-left : goal.returns-then-count-eq1-clause-left
returns-then-count-eq1-clause-left c =
    let found : lookup (is_at (nat_cmp c.args.buffer)) c.self.inside.few.items ≡ Some c.in-Some.count = looked_up c.args.buffer _ _ _ _ c.count_among.ensures c.as_slice.ensures.value c.in-Some.is in
    rw (← c.self.view_is) (omega (arith, count_here c.self.inside.few.items c.self.inside.rest c.args.buffer c.in-Some.count found, c.if-count-eq1.true))

pub returns-then-count-eq1-clause-counts : goal.returns-then-count-eq1-clause-counts
returns-then-count-eq1-clause-counts c q =
    let found : lookup (is_at (nat_cmp c.args.buffer)) c.self.inside.few.items ≡ Some c.in-Some.count = looked_up c.args.buffer _ _ _ _ c.count_among.ensures c.as_slice.ensures.value c.in-Some.is in
    rw (c.free_place.ensures, ← c.self.view_is) (less_free c.self.inside.few.items c.self.inside.rest c.args.buffer c.in-Some.count found c.self.invariant (omega (arith, c.if-count-eq1.true)) q)

pub returns-then-count-eq1-clause-total : goal.returns-then-count-eq1-clause-total
returns-then-count-eq1-clause-total c =
    let found : lookup (is_at (nat_cmp c.args.buffer)) c.self.inside.few.items ≡ Some c.in-Some.count = looked_up c.args.buffer _ _ _ _ c.count_among.ensures c.as_slice.ensures.value c.in-Some.is in
    rw (c.free_place.ensures, ← c.self.view_is) (total_less_free c.self.inside.few.items c.self.inside.rest c.args.buffer c.in-Some.count found c.self.invariant (omega (arith, c.if-count-eq1.true)))

pub overflow_sub-count : goal.overflow_sub-count
overflow_sub-count c =
    let found : lookup (is_at (nat_cmp c.args.buffer)) c.self.inside.few.items ≡ Some c.in-Some.count = looked_up c.args.buffer _ _ _ _ c.count_among.ensures c.as_slice.ensures.value c.in-Some.is in
    let some : 1 ≤ c.in-Some.count = positive c.self.inside.few.items c.self.inside.rest c.args.buffer c.in-Some.count c.self.invariant found in
    some

pub overflow_sub-result : goal.overflow_sub-result
overflow_sub-result c =
    let found : lookup (is_at (nat_cmp c.args.buffer)) c.self.inside.few.items ≡ Some c.in-Some.count = looked_up c.args.buffer _ _ _ _ c.count_among.ensures c.as_slice.ensures.value c.in-Some.is in
    let some : 1 ≤ c.in-Some.count = positive c.self.inside.few.items c.self.inside.rest c.args.buffer c.in-Some.count c.self.invariant found in
    some

pub invariant_of-self-2 : goal.invariant_of-self-2
invariant_of-self-2 c =
    let found : lookup (is_at (nat_cmp c.args.buffer)) c.self.inside.few.items ≡ Some c.in-Some.count = looked_up c.args.buffer _ _ _ _ c.count_among.ensures c.as_slice.ensures.value c.in-Some.is in
    let some : 1 ≤ c.in-Some.count = positive c.self.inside.few.items c.self.inside.rest c.args.buffer c.in-Some.count c.self.invariant found in
    let left : 1 ≤ c.in-Some.count - 1 = omega (arith, some, c.if-count-eq1.false) in
    rw c.write_count.ensures (parts_set c.self.inside.few.items c.self.inside.rest c.args.buffer (c.in-Some.count - 1) c.self.invariant left)

pub returns-clause-left : goal.returns-clause-left
returns-clause-left c =
    let found : lookup (is_at (nat_cmp c.args.buffer)) c.self.inside.few.items ≡ Some c.in-Some.count = looked_up c.args.buffer _ _ _ _ c.count_among.ensures c.as_slice.ensures.value c.in-Some.is in
    let some : 1 ≤ c.in-Some.count = positive c.self.inside.few.items c.self.inside.rest c.args.buffer c.in-Some.count c.self.invariant found in
    rw (← c.self.view_is) (omega (arith, some, count_here c.self.inside.few.items c.self.inside.rest c.args.buffer c.in-Some.count found))

pub returns-clause-counts : goal.returns-clause-counts
returns-clause-counts c q =
    let found : lookup (is_at (nat_cmp c.args.buffer)) c.self.inside.few.items ≡ Some c.in-Some.count = looked_up c.args.buffer _ _ _ _ c.count_among.ensures c.as_slice.ensures.value c.in-Some.is in
    let some : 1 ≤ c.in-Some.count = positive c.self.inside.few.items c.self.inside.rest c.args.buffer c.in-Some.count c.self.invariant found in
    rw (c.write_count.ensures, ← c.self.view_is) (less_set c.self.inside.few.items c.self.inside.rest c.args.buffer c.in-Some.count found some q)

pub returns-clause-total : goal.returns-clause-total
returns-clause-total c =
    let found : lookup (is_at (nat_cmp c.args.buffer)) c.self.inside.few.items ≡ Some c.in-Some.count = looked_up c.args.buffer _ _ _ _ c.count_among.ensures c.as_slice.ensures.value c.in-Some.is in
    let some : 1 ≤ c.in-Some.count = positive c.self.inside.few.items c.self.inside.rest c.args.buffer c.in-Some.count c.self.invariant found in
    let more : 2 ≤ c.in-Some.count = omega (arith, some, c.if-count-eq1.false) in
    rw (c.write_count.ensures, ← c.self.view_is) (total_less_set c.self.inside.few.items c.self.inside.rest c.args.buffer c.in-Some.count found c.self.invariant more)
