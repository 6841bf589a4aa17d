-- The owner at the node changes, and no other.
use Rattle.std.proofs.Common.{◌≡◌, Some, refl, ap, sym, ◌∙◌, ◌+◌, arith}
use Rattle.std.specs.Option.{option_map}
use Rattle.forest.proofs.Trees.{once_changed}
use Rattle.forest.proofs.Mapped.{mapped-at, mapped-changed}
use Rattle.owner_items.specs.ItemList.{uses}
use Rattle.owner_core.specs.Owners.{Owner, Roomy}
use Rattle.owner_core.specs.Released.{own_released}
use Rattle.owner_core.proofs.release_tree.release_one.Goals as goal
use Rattle.std.proofs.lemmas.Bool.Decides.{nat_tests}

pub release_own-requires-clause-kinds : goal.release_own-requires-clause-kinds
release_own-requires-clause-kinds g c = grind (arith, nat_tests, mapped-at, c.requires.kinds, c.get_mut-node.ensures.value)

pub release_own-requires-clause-counted : goal.release_own-requires-clause-counted
release_own-requires-clause-counted g c =
    c.requires.counted c.get_mut-node.result.now.owner
    (mapped-at (λ (r : Roomy). r.owner) c.args.id.number c.args.nodes.now.forest ∙ ap (option_map (λ (r : Roomy). r.owner)) c.get_mut-node.ensures.value)

pub returns : goal.returns
returns g c =
    let forest = c.args.nodes.now.forest in
    let room = c.get_mut-node.result.now in
    let new = c.release_own.new.node in
    let tbl = g.R.Release.kind_table c.args.table.now in
    let f = own_released tbl c.args.how.phase in
    record {
      owners = mapped-changed (λ (r : Roomy). r.owner) c.args.id.number (λ _. new) f forest
          (λ a q.
          let e : Some c.get_mut-node.result.now ≡ Some a = sym c.get_mut-node.ensures.value ∙ q in
          let same : c.get_mut-node.result.now ≡ a = cc in
          c.release_own.ensures.owner ∙ ap (λ (r : Roomy). f r.owner) same)
          c.requires.once;
      places = refl;
      once = once_changed c.args.id.number (λ _. new) forest c.requires.once;
      was = (
        room.owner,
        mapped-at (λ (r : Roomy). r.owner) c.args.id.number forest ∙ ap (option_map (λ (r : Roomy). r.owner)) c.get_mut-node.ensures.value,
        (λ kind key. c.release_own.ensures.counted kind key ∙ ap (λ (o : Owner). g.R.Release.counted c.args.table.now kind key + uses kind key o.items) c.release_own.ensures.owner),
        c.release_own.ensures.steps,
      );
      fit = c.release_own.ensures.fit;
      kinds = c.release_own.ensures.kinds;
    }
