-- Each turn adds what happens at a node of the walk to what was done.
use Rattle.std.proofs.Common.{◌≡◌, ◌≤◌, [], ◌++◌, List, Option, true, ℕ, arith, ap, refl, sym, ◌∙◌, subst, inl, inr, append_assoc, All}
use Rattle.std.specs.List.{flat_map}
use Rattle.forest.specs.Forest.{Once, has, children, parent_of, changed}
use Rattle.forest.specs.Walk.{todo}
use Rattle.forest.proofs.Mapped.{mapped-has}
use Rattle.forest.proofs.Trees.{at_some}
use Rattle.std.proofs.lemmas.List.{append-nil}
use Rattle.owner_kinds.specs.KindTable.{KindTable, IsKind}
use Rattle.owner_core.specs.Owners.{Owner, OwnerTree, Roomy, tree_of, held}
use Rattle.owner_core.specs.Locks.{steps_of_locks, locks_below}
use Rattle.owner_core.specs.Released.{own_released}
use Rattle.owner_core.specs.Steps.{Step, own_steps, top_locks}
use Rattle.owner_core.proofs.Lists.{Each}
use Rattle.owner_core.proofs.Walking.{Visit, walked, walk_tree, walked_at, tree_swept}
use Rattle.owner_core.proofs.Releasing.{visit_steps, visit_uses, uses_first, uses_all, each_all, steps_all, steps_at, steps_top, held_changed, Turn, turn, start, finish, lead_tree, follows_tree, inside_tree, inside_changed, enough_here, kinds_here, enough_end, kinds_end, parent_tree, once_tree}
use Rattle.owner_core.proofs.release_tree.release_tree.Goals as goal
use Rattle.owner_core.proofs.release_tree.release_tree.Given as given
use Rattle.std.proofs.lemmas.Bool.Decides.{nat_tests}

pub loop-current-init : goal.loop-current-init
loop-current-init g c =
    let tbl = g.R.Release.kind_table c.args.table.now in
    let f = own_released tbl c.args.how.phase in
    let n0 = c.args.owner.number in
    let rooms = c.args.nodes.now.forest in
    let t = tree_of rooms in
    let stands : has n0 t ≡ true = mapped-has (λ (r : Roomy). r.owner) n0 rooms ∙ c.first_leaf-current.ensures.stands in
    let s = start f n0 c.first_leaf-current.result.number t (once_tree rooms c.first_leaf-current.ensures.once) stands (c.first_leaf-current.ensures.number ∙ lead_tree n0 rooms) in
    record {
      once = c.first_leaf-current.ensures.once;
      places = refl;
      placed = c.first_leaf-current.ensures.placed;
      stands = stands;
      place = s.place;
      fit = c.requires.fit;
      same = refl;
      kinds = subst (λ (vs : List (Visit Owner)). Each (λ v. All (λ item. IsKind tbl item.kind) v.value.items) vs) (sym s.rest)
          (each_all (λ (o : Owner). All (λ item. IsKind tbl item.kind) o.items) n0 s.owner t s.lies c.requires.kinds);
      enough = λ kind key. subst (λ (n : ℕ). n ≤ g.R.Release.counted c.args.table.now kind key)
          (sym (ap (visit_uses kind key) s.rest ∙ uses_all kind key n0 s.owner t s.lies)) (c.requires.counted kind key);
      counted = λ kind key. refl;
      tree = ap (λ (ns : List ℕ). walk_tree f ns t) s.list;
      done = (
        [],
        [],
        g.met.R.Release.does_nothing _,
        g.met.E.Emit.emits_none _,
        ap (λ (ns : List ℕ). flat_map (visit_steps tbl c.args.how.phase c.args.how.commit c.args.how.top n0) (walked f ns t)) s.list,
      );
    }

pub release_one-requires-clause-kinds : goal.release_one-requires-clause-kinds
release_one-requires-clause-kinds g c owner h = grind (arith, nat_tests, kinds_here, once_tree c.loop-current.nodes.forest c.loop-current.invariant.once, c.loop-current.invariant, c.loop-current.invariant.place, c.loop-current.invariant.same, c.loop-current.invariant.once, c.loop-current.invariant.stands, c.loop-current.invariant.kinds)

pub release_one-requires-clause-counted : goal.release_one-requires-clause-counted
release_one-requires-clause-counted g c owner h kind key = grind (arith, nat_tests, enough_here kind key (own_released (g.R.Release.kind_table c.args.table.now) c.args.how.phase) c.args.owner.number c.loop-current.current.number owner (tree_of c.loop-current.nodes.forest), once_tree c.loop-current.nodes.forest c.loop-current.invariant.once, c.loop-current.invariant, c.loop-current.invariant.place, c.loop-current.invariant.once, c.loop-current.invariant.stands, c.loop-current.invariant.enough)

pub following-current-requires-clause-below : goal.following-current-requires-clause-below
following-current-requires-clause-below g c = grind (arith, nat_tests, inside_tree c.args.owner.number c.loop-current.current.number c.release_one.new.nodes.forest, inside_changed (own_released (g.R.Release.kind_table c.loop-current.table) c.args.how.phase) c.args.owner.number c.loop-current.current.number c.loop-current.current.number (tree_of c.loop-current.nodes.forest), c.loop-current.invariant, c.loop-current.invariant.place, c.release_one.ensures.owners)

turn_of : (g : given.Over) (c : goal.After-following-current g)
    → Turn (own_released (g.R.Release.kind_table c.args.table.now) c.args.how.phase) c.args.owner.number c.loop-current.current.number c.release_one.ensures.was.0
    (tree_of c.loop-current.nodes.forest) c.following-current.result.number (tree_of c.release_one.new.nodes.forest)
turn_of g c =
    let inv = c.loop-current.invariant in
    let t = tree_of c.loop-current.nodes.forest in
    let n0 = c.args.owner.number in
    let cur = c.loop-current.current.number in
    let inside : has cur (children n0 t) ≡ true = elim inv.place [ inl e ↦ absurd (omega arith) | inr i ↦ i ] in
    turn (own_released (g.R.Release.kind_table c.args.table.now) c.args.how.phase) n0 cur c.release_one.ensures.was.0 t c.following-current.result.number (tree_of c.release_one.new.nodes.forest)
    (once_tree c.loop-current.nodes.forest inv.once) inv.stands inside c.release_one.ensures.was.1
    (c.release_one.ensures.owners ∙ ap (λ (k : KindTable). changed cur (own_released k c.args.how.phase) t) inv.same)
    (c.following-current.ensures.number ∙ follows_tree n0 cur c.release_one.new.nodes.forest)

pub loop-current-smaller : goal.loop-current-smaller
loop-current-smaller g c = let w = turn_of g c in omega (arith, w.shorter)

pub loop-current-preserved : goal.loop-current-preserved
loop-current-preserved g c =
    let inv = c.loop-current.invariant in
    let w = turn_of g c in
    let tbl = g.R.Release.kind_table c.args.table.now in
    let own = own_released (g.R.Release.kind_table c.loop-current.table) c.args.how.phase in
    let n0 = c.args.owner.number in
    let cur = c.loop-current.current.number in
    let rooms = c.loop-current.nodes.forest in
    let t = tree_of rooms in
    let was = c.release_one.ensures.was in
    let a = was.0 in
    let did = was.3 in
    let so_far = inv.done in
    let vs = visit_steps tbl c.args.how.phase c.args.how.commit c.args.how.top n0 in
    let v : Visit Owner = record { number = cur; parent = parent_of cur t; value = a } in
    let once : Once t = once_tree rooms inv.once in
    let new : OwnerTree = tree_of c.release_one.new.nodes.forest in
    let rest : List (Visit Owner) = walked (own_released tbl c.args.how.phase) (todo n0 c.following-current.result.number (children n0 new)) new in
    let step : own_steps (g.R.Release.kind_table c.loop-current.table) c.args.how.phase c.args.how.commit cur a (steps_of_locks c.locks_of_below-locks.result) ≡ vs v =
    ap (λ (k : KindTable). own_steps k c.args.how.phase c.args.how.commit cur a (steps_of_locks c.locks_of_below-locks.result)) inv.same
    ∙ ap (λ (ls : List Step). own_steps tbl c.args.how.phase c.args.how.commit cur a ls)
    (c.locks_of_below-locks.ensures ∙ ap (λ (p : Option ℕ). locks_below c.args.how.top c.args.how.commit cur p) (sym (parent_tree cur rooms)))
    ∙ sym (steps_at tbl c.args.how.phase c.args.how.commit c.args.how.top n0 cur a (parent_of cur t) (λ e. omega arith)) in
    record {
      once = c.release_one.ensures.once;
      places = c.release_one.ensures.places ∙ inv.places;
      placed = c.following-current.ensures.placed;
      stands = w.stands;
      place = w.place;
      fit = c.release_one.ensures.fit;
      same = c.release_one.ensures.kinds ∙ inv.same;
      kinds = (subst (λ (xs : List (Visit Owner)). Each (λ x. All (λ item. IsKind tbl item.kind) x.value.items) xs) w.rest inv.kinds).1;
      enough = λ kind key. omega (arith, inv.enough kind key, ap (visit_uses kind key) w.rest, uses_first kind key v rest, was.2 kind key);
      counted = λ kind key. omega (arith, inv.counted kind key, was.2 kind key, held_changed kind key cur own a t once was.1, ap (held kind key) c.release_one.ensures.owners);
      tree = sym w.tree ∙ inv.tree;
      done = (
        so_far.0 ++ vs v,
        so_far.1 ++ did.0,
        g.met.R.Release.does_more _ _ _ _ _ _ _ _ _ so_far.2 did.1 (ap (λ (xs : List Step). so_far.0 ++ xs) step) refl,
        g.met.E.Emit.emits_more _ _ _ _ _ _ so_far.3 did.2 refl,
        append_assoc so_far.0 (vs v) (flat_map vs rest) ∙ ap (λ (xs : List (Visit Owner)). so_far.0 ++ flat_map vs xs) (sym w.rest) ∙ so_far.4,
      );
    }

pub release_one-requires-2-clause-kinds : goal.release_one-requires-2-clause-kinds
release_one-requires-2-clause-kinds g c owner h = grind (arith, nat_tests, kinds_end, c.loop-current.invariant, c.loop-current.invariant.same, c.loop-current.invariant.kinds)

pub release_one-requires-2-clause-counted : goal.release_one-requires-2-clause-counted
release_one-requires-2-clause-counted g c owner h kind key = grind (arith, nat_tests, enough_end kind key (own_released (g.R.Release.kind_table c.args.table.now) c.args.how.phase) c.args.owner.number c.loop-current.current.number owner (tree_of c.loop-current.nodes.forest), c.loop-current.invariant, c.loop-current.invariant.enough)

pub returns-clause-owners : goal.returns-clause-owners
returns-clause-owners g c =
    let inv = c.loop-current.invariant in
    let f = own_released (g.R.Release.kind_table c.args.table.now) c.args.how.phase in
    let n0 = c.args.owner.number in
    let rooms0 = c.args.nodes.now.forest in
    let t = tree_of c.loop-current.nodes.forest in
    let e : c.loop-current.current.number ≡ n0 = omega arith in
    let was = c.release_one-2.ensures.was in
    let fin = finish f n0 c.loop-current.current.number was.0 t e was.1 in
    c.release_one-2.ensures.owners
    ∙ ap (λ (k : KindTable). changed n0 (own_released k c.args.how.phase) t) inv.same
    ∙ sym fin.tree ∙ inv.tree
    ∙ tree_swept f n0 (tree_of rooms0) (once_tree rooms0 c.first_leaf-current.ensures.once)
    (mapped-has (λ (r : Roomy). r.owner) n0 rooms0 ∙ c.first_leaf-current.ensures.stands)

pub returns-clause-steps : goal.returns-clause-steps
returns-clause-steps g c =
    let inv = c.loop-current.invariant in
    let tbl = g.R.Release.kind_table c.args.table.now in
    let f = own_released tbl c.args.how.phase in
    let n0 = c.args.owner.number in
    let rooms0 = c.args.nodes.now.forest in
    let t0 = tree_of rooms0 in
    let rooms = c.loop-current.nodes.forest in
    let t = tree_of rooms in
    let e : c.loop-current.current.number ≡ n0 = omega arith in
    let was = c.release_one-2.ensures.was in
    let a = was.0 in
    let did = was.3 in
    let so_far = inv.done in
    let vs = visit_steps tbl c.args.how.phase c.args.how.commit c.args.how.top n0 in
    let v : Visit Owner = record { number = n0; parent = parent_of n0 t; value = a } in
    let fin = finish f n0 c.loop-current.current.number a t e was.1 in
    let once0 : Once t0 = once_tree rooms0 c.first_leaf-current.ensures.once in
    let first = at_some n0 t0 (mapped-has (λ (r : Roomy). r.owner) n0 rooms0 ∙ c.first_leaf-current.ensures.stands) in
    let step : own_steps (g.R.Release.kind_table c.loop-current.table) c.args.how.phase c.args.how.commit n0 a (steps_of_locks c.locks_of_top-locks.result) ≡ vs v =
    ap (λ (k : KindTable). own_steps k c.args.how.phase c.args.how.commit n0 a (steps_of_locks c.locks_of_top-locks.result)) inv.same
    ∙ ap (λ (ls : List Step). own_steps tbl c.args.how.phase c.args.how.commit n0 a ls)
    (c.locks_of_top-locks.ensures ∙ ap (λ (p : Option ℕ). top_locks c.args.how.top c.args.how.commit n0 p) (sym (parent_tree n0 rooms)))
    ∙ sym (steps_top tbl c.args.how.phase c.args.how.commit c.args.how.top n0 a (parent_of n0 t)) in (
      so_far.1 ++ did.0,
      g.met.R.Release.does_more _ _ _ _ _ _ _ _ _ so_far.2 did.1
          (ap (λ (xs : List Step). so_far.0 ++ xs) (step ∙ sym (append-nil (vs v)))
          ∙ ap (λ (xs : List (Visit Owner)). so_far.0 ++ flat_map vs xs) (sym fin.rest) ∙ so_far.4
          ∙ ap (λ (xs : List (Visit Owner)). flat_map vs xs) (walked_at f n0 first.0 t0 once0 first.1)
          ∙ steps_all tbl c.args.how.phase c.args.how.commit c.args.how.top n0 first.0 t0 once0 first.1)
          refl,
      g.met.E.Emit.emits_more _ _ _ _ _ _ so_far.3 did.2 refl,
    )

pub returns-clause-counted : goal.returns-clause-counted
returns-clause-counted g c kind key = grind (arith, nat_tests, held_changed kind key c.args.owner.number (own_released (g.R.Release.kind_table c.loop-current.table) c.args.how.phase) c.release_one-2.ensures.was.0 (tree_of c.loop-current.nodes.forest) (once_tree c.loop-current.nodes.forest c.loop-current.invariant.once) c.release_one-2.ensures.was.1, once_tree c.loop-current.nodes.forest c.loop-current.invariant.once, c.loop-current.invariant, c.release_one-2.ensures.was, c.loop-current.invariant.counted, c.release_one-2.ensures.was.2, c.release_one-2.ensures.was.0, c.loop-current.invariant.once, c.release_one-2.ensures.was.1, c.release_one-2.ensures.owners)
