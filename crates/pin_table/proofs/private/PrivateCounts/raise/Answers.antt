use Rattle.std.proofs.Common.{◌≡◌, ◌≤◌, ◌^◌, Some, None, ap, arith}
use Rattle.std.specs.Ordering.{nat_cmp}
use Rattle.std.specs.BTreeMap.{is_at}
use Rattle.std.specs.Map.{lookup}
use Rattle.counts.specs.Counts.{count_of, total}
use Rattle.pin_table.proofs.PartLemmas.{looked_up, count_here, count_le_total, parts_set, more_set, total_more_set, parts_push, more_push, total_push, parts_behind, more_behind, total-merged}
use Rattle.pin_table.proofs.private.PrivateCounts.raise.Goals as goal

pub overflow_add-count : goal.overflow_add-count
overflow_add-count c =
    let found : lookup (is_at (nat_cmp c.args.buffer)) c.self.inside.few.items ≡ Some c.in-Some.count = looked_up c.args.buffer _ _ _ _ c.count_among.ensures c.as_slice.ensures.value c.in-Some.is in
    omega (arith, c.requires.room, ap total c.self.view_is, count_here c.self.inside.few.items c.self.inside.rest c.args.buffer c.in-Some.count found, count_le_total c.self.inside.few.items c.self.inside.rest c.args.buffer)

pub invariant_of-self : goal.invariant_of-self
invariant_of-self c = rw c.write_count.ensures (parts_set c.self.inside.few.items c.self.inside.rest c.args.buffer _ c.self.invariant (omega arith))

pub returns-in-Some-clause-counts : goal.returns-in-Some-clause-counts
returns-in-Some-clause-counts c q =
    let found : lookup (is_at (nat_cmp c.args.buffer)) c.self.inside.few.items ≡ Some c.in-Some.count = looked_up c.args.buffer _ _ _ _ c.count_among.ensures c.as_slice.ensures.value c.in-Some.is in
    rw (c.write_count.ensures, ← c.self.view_is) (more_set c.self.inside.few.items c.self.inside.rest c.args.buffer c.in-Some.count found q)

pub returns-in-Some-clause-total : goal.returns-in-Some-clause-total
returns-in-Some-clause-total c =
    let found : lookup (is_at (nat_cmp c.args.buffer)) c.self.inside.few.items ≡ Some c.in-Some.count = looked_up c.args.buffer _ _ _ _ c.count_among.ensures c.as_slice.ensures.value c.in-Some.is in
    rw (c.write_count.ensures, ← c.self.view_is) (total_more_set c.self.inside.few.items c.self.inside.rest c.args.buffer c.in-Some.count found c.self.invariant)

pub invariant_of-self-then-not-is_full : goal.invariant_of-self-then-not-is_full
invariant_of-self-then-not-is_full c =
    let none : lookup (is_at (nat_cmp c.args.buffer)) c.self.inside.few.items ≡ None = looked_up c.args.buffer _ _ _ _ c.count_among.ensures c.as_slice.ensures.value c.in_default.is in
    let zeros : count_of nat_cmp c.self.inside.rest c.args.buffer ≡ 0 = omega (arith, c.count.ensures.count, c.if-count-eq0.true) in
    rw c.push.ensures.items (parts_push c.self.inside.few.items c.self.inside.rest c.args.buffer c.self.invariant none zeros)

pub returns-then-not-is_full-clause-counts : goal.returns-then-not-is_full-clause-counts
returns-then-not-is_full-clause-counts c q =
    let none : lookup (is_at (nat_cmp c.args.buffer)) c.self.inside.few.items ≡ None = looked_up c.args.buffer _ _ _ _ c.count_among.ensures c.as_slice.ensures.value c.in_default.is in
    let zeros : count_of nat_cmp c.self.inside.rest c.args.buffer ≡ 0 = omega (arith, c.count.ensures.count, c.if-count-eq0.true) in
    rw (c.push.ensures.items, ← c.self.view_is) (more_push c.self.inside.few.items c.self.inside.rest c.args.buffer none zeros q)

pub returns-then-not-is_full-clause-total : goal.returns-then-not-is_full-clause-total
returns-then-not-is_full-clause-total c =
    let none : lookup (is_at (nat_cmp c.args.buffer)) c.self.inside.few.items ≡ None = looked_up c.args.buffer _ _ _ _ c.count_among.ensures c.as_slice.ensures.value c.in_default.is in
    let zeros : count_of nat_cmp c.self.inside.rest c.args.buffer ≡ 0 = omega (arith, c.count.ensures.count, c.if-count-eq0.true) in
    rw (c.push.ensures.items, ← c.self.view_is) (total_push c.self.inside.few.items c.self.inside.rest c.args.buffer c.self.invariant none zeros)

pub invariant_of-self-2 : goal.invariant_of-self-2
invariant_of-self-2 c =
    let none : lookup (is_at (nat_cmp c.args.buffer)) c.self.inside.few.items ≡ None = looked_up c.args.buffer _ _ _ _ c.count_among.ensures c.as_slice.ensures.value c.in_default.is in
    let fits : total c.raise.new.self ≤ 2 ^ 62 = omega (arith, c.in_ok-raise.ensures.total, c.requires.room, ap total c.self.view_is, total-merged c.self.inside.few.items c.self.inside.rest c.self.invariant) in
    parts_behind c.self.inside.few.items c.self.inside.rest c.raise.new.self c.args.buffer c.self.invariant none c.laws.ensures.counts c.in_ok-raise.ensures.others fits

pub returns-clause-counts : goal.returns-clause-counts
returns-clause-counts c q =
    let none : lookup (is_at (nat_cmp c.args.buffer)) c.self.inside.few.items ≡ None = looked_up c.args.buffer _ _ _ _ c.count_among.ensures c.as_slice.ensures.value c.in_default.is in
    rw (← c.self.view_is) (more_behind c.self.inside.few.items c.self.inside.rest c.args.buffer none c.raise.new.self c.in_ok-raise.ensures.others c.in_ok-raise.ensures.counted q)

pub returns-clause-total : goal.returns-clause-total
returns-clause-total c =
    let none : lookup (is_at (nat_cmp c.args.buffer)) c.self.inside.few.items ≡ None = looked_up c.args.buffer _ _ _ _ c.count_among.ensures c.as_slice.ensures.value c.in_default.is in
    let fits : total c.raise.new.self ≤ 2 ^ 62 = omega (arith, c.in_ok-raise.ensures.total, c.requires.room, ap total c.self.view_is, total-merged c.self.inside.few.items c.self.inside.rest c.self.invariant) in
    let parts = parts_behind c.self.inside.few.items c.self.inside.rest c.raise.new.self c.args.buffer c.self.invariant none c.laws.ensures.counts c.in_ok-raise.ensures.others fits in
    omega (arith, c.in_ok-raise.ensures.total, ap total c.self.view_is, total-merged c.self.inside.few.items c.self.inside.rest c.self.invariant, total-merged c.self.inside.few.items c.raise.new.self parts)
