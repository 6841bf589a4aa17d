use Rattle.std.proofs.Common.{◌≡◌, ℕ, List, ◌-◌, subst, filter, map, reverse, take, drop, length, count_by, ap, ◌∙◌, ltb}
use Rattle.std.specs.Ordering.{nat_cmp}
use Rattle.std.specs.BTreeMap.{is_at}
use Rattle.std.proofs.lemmas.List.{take_rest}
use Rattle.std.proofs.lemmas.List.Kept.{IsNonDecreasingBy-filter}
use Rattle.counts.specs.Counts.{count_of}
use Rattle.pgs_step.specs.declared.events.What.TheVariants.{Pop}
use Rattle.snap_table.specs.declared.active.Active.{Active}
use Rattle.snap_table.specs.Snapshots.{Snapshots, snapshots_of, is_deep, kept_below, AreBelow}
use Rattle.snap_table.proofs.SnapLemmas.{both-kept}
use Rattle.snap_table.proofs.StackLemmas.{deep_above, deep_reversed}
use Rattle.snap_table.proofs.table.SnapTable.pop_deep.Goals as goal

pub invariant_of-self : goal.invariant_of-self
invariant_of-self g c =
    let below : AreBelow c.args.level (take c.lowest_of-from.result c.self.inside.stack.items) = subst (λ (xs : List Active). AreBelow c.args.level (take c.lowest_of-from.result xs)) c.as_slice.ensures.value c.lowest_of-from.ensures.below in
    let deep : filter (is_deep c.args.level) (take (length c.deref-2.result.now - c.lowest_of-from.result) (drop c.lowest_of-from.result c.deref-2.result.now)) ≡ filter (is_deep c.args.level) c.self.inside.stack.items = ap (filter (is_deep c.args.level)) (take_rest c.deref-2.result.now c.lowest_of-from.result ∙ ap (drop c.lowest_of-from.result) c.deref-2.ensures.value) ∙ deep_above c.args.level c.lowest_of-from.result c.self.inside.stack.items below in
    let less : (q : ℕ) → count_of nat_cmp c.lower_deep.new.held q ≡ count_of nat_cmp c.self.inside.held q - count_by (is_at (nat_cmp q)) (snapshots_of (filter (is_deep c.args.level) c.self.inside.stack.items)) = λ q. c.lower_deep.ensures q ∙ ap (λ (xs : List Active). count_of nat_cmp c.self.inside.held q - count_by (is_at (nat_cmp q)) (snapshots_of xs)) deep in
    rw c.keep_below.ensures (
      both-kept c.self.inside.held c.lower_deep.new.held c.self.inside.registered c.self.inside.stack.items c.args.level c.self.invariant.0 less,
      λ known. IsNonDecreasingBy-filter (λ (e : Active). e.level) (λ (e : Active). ltb e.level c.args.level) c.self.inside.stack.items (c.self.invariant.1 known),
    )

pub returns-clause-kept : goal.returns-clause-kept
returns-clause-kept g c =
    ap (λ (xs : List Active). let v : Snapshots = record { registered = c.self.inside.registered; stack = xs } in v) c.keep_below.ensures
    ∙ ap (λ (v : Snapshots). record v { stack = kept_below c.args.level v.stack }) c.self.view_is

pub returns-clause-emitted : goal.returns-clause-emitted
returns-clause-emitted g c =
    let below : AreBelow c.args.level (take c.lowest_of-from.result c.self.inside.stack.items) = subst (λ (xs : List Active). AreBelow c.args.level (take c.lowest_of-from.result xs)) c.as_slice.ensures.value c.lowest_of-from.ensures.below in
    let deep : filter (is_deep c.args.level) (reverse (take (length c.deref.result.now - c.lowest_of-from.result) (drop c.lowest_of-from.result c.deref.result.now))) ≡ filter (is_deep c.args.level) (reverse c.args.self.now.stack) = ap (λ (xs : List Active). filter (is_deep c.args.level) (reverse xs)) (take_rest c.deref.result.now c.lowest_of-from.result ∙ ap (drop c.lowest_of-from.result) c.deref.ensures.value) ∙ deep_reversed c.args.level c.lowest_of-from.result c.self.inside.stack.items below ∙ ap (λ (v : Snapshots). filter (is_deep c.args.level) (reverse v.stack)) c.self.view_is in
    subst (λ (xs : List Active). g.E.Emit.emits c.args.out.now (map (λ (e : Active). Pop e.snapshot) xs) c.emit_pops.new.out) deep c.emit_pops.ensures
