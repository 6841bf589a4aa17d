use Rattle.std.proofs.Common.{◌≡◌, ◌≤◌, ℕ, Some, None, sym, subst, ◌∙◌}
use Rattle.std.specs.Ordering.{nat_cmp}
use Rattle.std.specs.BTreeMap.{is_at}
use Rattle.std.specs.Map.{lookup}
use Rattle.counts.specs.Counts.{total}
use Rattle.pin_table.specs.Parts.{merged}
use Rattle.pin_table.proofs.PartLemmas.{looked_up, count_here, count_behind, count_le_total}
use Rattle.pin_table.proofs.private.PrivateCounts.count.Goals as goal

pub returns-in-Some-clause-count : goal.returns-in-Some-clause-count
returns-in-Some-clause-count c =
    let found : lookup (is_at (nat_cmp c.args.buffer)) c.self.inside.few.items ≡ Some c.in-Some.count = looked_up c.args.buffer _ _ _ _ c.count_among.ensures c.as_slice.ensures.value c.in-Some.is in
    rw (← c.self.view_is) (sym (count_here c.self.inside.few.items c.self.inside.rest c.args.buffer c.in-Some.count found))

pub returns-in-Some-clause-within : goal.returns-in-Some-clause-within
returns-in-Some-clause-within c =
    let found : lookup (is_at (nat_cmp c.args.buffer)) c.self.inside.few.items ≡ Some c.in-Some.count = looked_up c.args.buffer _ _ _ _ c.count_among.ensures c.as_slice.ensures.value c.in-Some.is in
    rw (← c.self.view_is) (subst (λ (n : ℕ). n ≤ total (merged c.self.inside.few.items c.self.inside.rest)) (count_here c.self.inside.few.items c.self.inside.rest c.args.buffer c.in-Some.count found) (count_le_total c.self.inside.few.items c.self.inside.rest c.args.buffer))

pub returns-in-None-clause-count : goal.returns-in-None-clause-count
returns-in-None-clause-count c =
    let none : lookup (is_at (nat_cmp c.args.buffer)) c.self.inside.few.items ≡ None = looked_up c.args.buffer _ _ _ _ c.count_among.ensures c.as_slice.ensures.value c.in-None.is in
    rw (← c.self.view_is) (c.count.ensures.count ∙ sym (count_behind c.self.inside.few.items c.self.inside.rest c.args.buffer none))

pub returns-in-None-clause-within : goal.returns-in-None-clause-within
returns-in-None-clause-within c =
    let none : lookup (is_at (nat_cmp c.args.buffer)) c.self.inside.few.items ≡ None = looked_up c.args.buffer _ _ _ _ c.count_among.ensures c.as_slice.ensures.value c.in-None.is in
    rw (← c.self.view_is) (subst (λ (n : ℕ). n ≤ total (merged c.self.inside.few.items c.self.inside.rest)) (count_behind c.self.inside.few.items c.self.inside.rest c.args.buffer none ∙ sym c.count.ensures.count) (count_le_total c.self.inside.few.items c.self.inside.rest c.args.buffer))
