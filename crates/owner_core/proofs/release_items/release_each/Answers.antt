-- Each turn adds the steps of an item's release to those that were done.
use Rattle.std.proofs.Common.{◌≡◌, ◌+◌, [], ◌∷◌, ◌++◌, All, arith, refl, ◌∙◌, subst}
use Rattle.owner_kinds.specs.KindTable.{KindTable, IsKind}
use Rattle.owner_kinds.specs.KindShelf.{table_of}
use Rattle.owner_items.specs.Next.{release_order, items_left}
use Rattle.owner_core.specs.Steps.{release_of}
use Rattle.owner_core.proofs.ItemLemmas.{uses_taken, uses_own, left_all, releases_more}
use Rattle.owner_core.proofs.release_items.release_each.Goals as goal
use Rattle.owner_core.proofs.release_items.release_each.Given as given
use Rattle.std.proofs.lemmas.Bool.Decides.{nat_tests}

pub loop-item-init : goal.loop-item-init
loop-item-init g c = record {
  fit = c.requires.fit;
  same = refl;
  kinds = c.requires.kinds;
  left = refl;
  counted = λ kind key. refl;
  done = ([], [], g.met.R.Release.does_nothing _, g.met.E.Emit.emits_none _, refl);
}

pub release_item-requires-clause-counted : goal.release_item-requires-clause-counted
release_item-requires-clause-counted g c = grind (arith, nat_tests, uses_taken c.in-Some.item.kind c.in-Some.item.key (table_of c.kinds.result.now) c.args.phase c.loop-item.items.items c.take_next.new.self.items c.in-Some.item c.in-Some.ensures.order c.in-Some.ensures.left, uses_own c.in-Some.item, c.in-Some.ensures.order, c.in-Some.ensures.left, c.loop-item.invariant.counted, c.requires.counted)

same_table : (g : given.Over) (c : goal.After-release_item g) → table_of c.kinds.result.now ≡ g.R.Release.kind_table c.args.table.now
same_table g c = c.kinds.ensures ∙ c.loop-item.invariant.same

pub loop-item-preserved : goal.loop-item-preserved
loop-item-preserved g c =
    let item = c.in-Some.item in
    let tbl = g.R.Release.kind_table c.args.table.now in
    let before = c.loop-item.items.items in
    let rest = c.take_next.new.self.items in
    let so_far = c.loop-item.invariant.done in
    let did = c.release_item.ensures.steps in
    let order : release_order tbl c.args.phase before ≡ item ∷ release_order tbl c.args.phase rest =
    subst (λ (t : KindTable). release_order t c.args.phase before ≡ item ∷ release_order t c.args.phase rest) (same_table g c) c.in-Some.ensures.order in
    let left : items_left tbl c.args.phase rest ≡ items_left tbl c.args.phase before =
    subst (λ (t : KindTable). items_left t c.args.phase rest ≡ items_left t c.args.phase before) (same_table g c) c.in-Some.ensures.left in
    record {
      fit = c.release_item.ensures.fit;
      same = c.release_item.ensures.kinds ∙ c.loop-item.invariant.same;
      kinds = subst (λ (t : KindTable). All (λ i. IsKind t i.kind) rest) (same_table g c) c.in-Some.ensures.kinds;
      left = left ∙ c.loop-item.invariant.left;
      counted = λ kind key. omega (arith, c.loop-item.invariant.counted kind key, uses_taken kind key tbl c.args.phase before rest item order left, c.release_item.ensures.counted kind key);
      done = (
        so_far.0 ++ release_of c.args.commit c.args.owner item,
        so_far.1 ++ did.0,
        g.met.R.Release.does_more _ _ _ _ _ _ _ _ _ so_far.2 did.1 refl refl,
        g.met.E.Emit.emits_more _ _ _ _ _ _ so_far.3 did.2 refl,
        releases_more c.args.commit c.args.owner (release_order tbl c.args.phase before) (release_order tbl c.args.phase rest) (release_order tbl c.args.phase c.args.items.now.items) item so_far.0 order so_far.4,
      );
    }

pub loop-item-smaller : goal.loop-item-smaller
loop-item-smaller g c = grind (arith, nat_tests, same_table g c, c.in-Some.ensures.order)

pub returns-clause-items : goal.returns-clause-items
returns-clause-items g c = grind (arith, nat_tests, left_all (g.R.Release.kind_table c.args.table.now) c.args.phase c.loop-item.items.items, c.kinds.ensures, c.loop-item.invariant.same, c.loop-item.invariant.left)
