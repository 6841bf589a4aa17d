use Rattle.context_tree.proofs.Base.{◌≡◌, ℕ, Some, ap, ◌∙◌, subst, arith, nat_tests}
use Rattle.context_tree.proofs.Words.{Forest, Empty, at, children, size, has_at, size_removed, Kept, Moves, bare}
use Rattle.context_tree.proofs.Lemmas.{tree_more, leaf_bare, none_first, one_back, each_left}
use Rattle.context_tree.proofs.making.give_all_back.Goals as goal

pub loop-root-init : goal.loop-root-init
loop-root-init g c = grind (arith, nat_tests, c.requires.agrees, c.requires.each)

pub remove-node-requires-clause-leaf : goal.remove-node-requires-clause-leaf
remove-node-requires-clause-leaf g c =
    ap (λ (n : ℕ). children n c.loop-root.nodes.forest) c.first_leaf-leaf.ensures.number
    ∙ leaf_bare c.in-Some.root.number c.loop-root.nodes.forest c.first_leaf-leaf.ensures.once c.first_leaf-leaf.ensures.stands

pub give_back-requires : goal.give_back-requires
give_back-requires g c = c.loop-root.invariant.agrees.1.each c.first_leaf-leaf.result.number c.remove-node.result c.remove-node.ensures.value

pub loop-root-preserved : goal.loop-root-preserved
loop-root-preserved g c =
    let n = c.first_leaf-leaf.result.number in
    let k : Kept = c.remove-node.result in
    let f : Forest Kept = c.loop-root.nodes.forest in
    let h : Forest Kept = c.remove-node.new.self.forest in
    let s = c.loop-root.space in
    let t = c.give_back.new.space in
    let once = c.first_leaf-leaf.ensures.once in
    let here : at n f ≡ Some k = c.remove-node.ensures.value in
    let leaf : children n f ≡ Empty =
    ap (λ (i : ℕ). children i f) c.first_leaf-leaf.ensures.number ∙ leaf_bare c.in-Some.root.number f once c.first_leaf-leaf.ensures.stands in
    let inv = c.loop-root.invariant in
    record {
      agrees = (inv.agrees.0, (one_back inv.agrees.0 n k f h s t inv.agrees.1 once inv.each here leaf c.remove-node.ensures.forest c.give_back.ensures.moves).agrees);
      each = each_left inv.agrees.0 n k f h s t inv.agrees.1 once inv.each here leaf c.remove-node.ensures.forest c.give_back.ensures.moves;
      asked = λ account. c.give_back.ensures.asked ∙ inv.asked account;
      moves = λ account agrees.
          let before = inv.moves account agrees in
          tree_more (bare account c.args.nodes.now.forest) (bare account f) (bare account h) c.args.space.now s t before
          (one_back account n k f h s t before.agrees once inv.each here leaf c.remove-node.ensures.forest c.give_back.ensures.moves);
    }

pub loop-root-smaller : goal.loop-root-smaller
loop-root-smaller g c =
    let n = c.first_leaf-leaf.result.number in
    let f : Forest Kept = c.loop-root.nodes.forest in
    omega (
      arith,
      ap (λ (x : Forest Kept). size x) c.remove-node.ensures.forest,
      size_removed n f c.first_leaf-leaf.ensures.once (has_at n f c.remove-node.result c.remove-node.ensures.value),
    )

pub returns-clause-moves : goal.returns-clause-moves
returns-clause-moves g c account agrees =
    subst (λ (x : Forest Kept). Moves (bare account c.args.nodes.now.forest) (bare account x) c.args.space.now c.loop-root.space) (none_first c.loop-root.nodes.forest c.in_default.ensures)
    (c.loop-root.invariant.moves account agrees)

pub returns-clause-asked : goal.returns-clause-asked
returns-clause-asked g c account = c.loop-root.invariant.asked account
