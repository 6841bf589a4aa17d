use Rattle.alloc_set.proofs.Base.{add-zero, ap, arith, Block, Books, class_bytes, cut_rest, cut_up, div-eq_of_lt, div-eq_of_lt-le, footprint, get_or, Keeps-more, List, mod-eq-sub-mod, mod-eq_of_lt, Moves-more, nat_tests, pow-succ', same_stays, set-get_or, SetLedger, state_of, subst, suc, sym, with_free, ℕ, ◌*◌, ◌+◌, ◌-◌, ◌<◌, ◌∙◌, ◌≡◌, ◌≤◌}
use Rattle.alloc_set.proofs.Lemmas.{LeavesLive-more}
use Rattle.alloc_set.proofs.books.Books.cut_up.Goals as goal

class_bytes-suc : (class : ℕ) → class_bytes (suc class) + 8 ≡ 2 * class_bytes class
class_bytes-suc class = omega (arith, pow-succ' 2 class)

-- a chunk of the class fits
cut-in : (class room : ℕ) (free : List ℕ) → class_bytes class ≤ room → room < class_bytes (suc class)
    → (cut_rest (suc class) room ≡ cut_rest class (room - class_bytes class)) × (cut_up (suc class) room free ≡ cut_up class (room - class_bytes class) (with_free free class 1))
unfolding cut_rest cut_up
cut-in class room free fits little = grind (arith, class_bytes-suc, mod-eq-sub-mod, mod-eq_of_lt, div-eq_of_lt-le)

-- none fits
cut-out : (class room : ℕ) (free : List ℕ) → room < class_bytes class → (cut_rest (suc class) room ≡ cut_rest class room) × (cut_up (suc class) room free ≡ cut_up class room free)
unfolding cut_rest cut_up
cut-out class room free little = grind (arith, nat_tests, add-zero (get_or free class 0), set-get_or free class 0, mod-eq_of_lt little, div-eq_of_lt little)

pub loop-class-preserved-then-self-class_size : goal.loop-class-preserved-then-self-class_size
loop-class-preserved-then-self-class_size c =
    let b = c.args.self.now in
    let m = c.loop-class.self in
    let n = c.cut_free.new.self in
    let kept = c.loop-class.invariant in
    let class : ℕ = c.loop-class.class - 1 in
    let up : suc class ≡ c.loop-class.class = omega (arith, c.loop-class-test.true) in
    let fits : class_bytes class ≤ m.active.room = omega (arith, c.class_size.ensures.value, c.if-self-class_size.true) in
    let little : m.active.room < class_bytes (suc class) = subst (λ k. m.active.room < class_bytes k) (sym up) kept.little in
    let room : n.active.room ≡ m.active.room - class_bytes class = ap (λ (l : SetLedger). l.room) c.cut_free.ensures.ledger in
    let free : (state_of n).ledger.free ≡ with_free (state_of m).ledger.free class 1 = ap (λ (l : SetLedger). l.free) c.cut_free.ensures.ledger in
    let active : m.active ≡ record b.active { room = m.active.room } = kept.cut.active in
    record {
      last = omega (arith, kept.last);
      cut = record {
        kept = c.cut_free.ensures.kept;
        rest = c.cut_free.ensures.rest ∙ ap (λ (x : Books). record x { active = n.active; chunks = n.chunks; shelves = n.shelves }) kept.cut.rest;
        active = c.cut_free.ensures.active ∙ ap (λ (x : Block). record x { room = n.active.room }) active;
        less = omega (arith, room, kept.cut.less);
        others = λ at differs. c.cut_free.ensures.others at (λ e. differs (e ∙ ap (λ (x : Block). x.region) active)) ∙ kept.cut.others at differs;
        sums = omega (arith, c.cut_free.ensures.sums, room, fits, kept.cut.sums);
        live = λ at. c.cut_free.ensures.live at ∙ kept.cut.live at;
        stays = LeavesLive-more (state_of b) (state_of m) (state_of n) kept.cut.stays c.cut_free.ensures.stays;
      };
      little = omega (arith, room, little, class_bytes-suc class);
      room = ap (cut_rest class) room ∙ sym (cut-in class m.active.room (state_of m).ledger.free fits little).0 ∙ ap (λ k. cut_rest k m.active.room) up ∙ kept.room;
      free = ap (λ r. cut_up class r (state_of n).ledger.free) room ∙ ap (cut_up class (m.active.room - class_bytes class)) free ∙ sym (cut-in class m.active.room (state_of m).ledger.free fits little).1 ∙ ap (λ k. cut_up k m.active.room (state_of m).ledger.free) up ∙ kept.free;
      moves = Moves-more _ _ _ _ _ _ kept.moves c.cut_free.ensures.moves;
      keeps = Keeps-more (footprint (state_of b)) (footprint (state_of m)) (footprint (state_of n)) c.args.space.now c.loop-class.space c.cut_free.new.space (same_stays (footprint (state_of b)) (footprint (state_of m)) kept.cut.live) kept.keeps c.cut_free.ensures.keeps;
      asked = c.cut_free.ensures.asked ∙ kept.asked;
    }

pub loop-class-preserved : goal.loop-class-preserved
loop-class-preserved c = grind (arith, cut-out, c.loop-class.invariant, c.loop-class-test.true, c.class_size.ensures.value, c.if-self-class_size.false, c.loop-class.invariant.last, c.loop-class.invariant.cut, c.loop-class.invariant.room, c.loop-class.invariant.free, c.loop-class.invariant.moves, c.loop-class.invariant.keeps, c.loop-class.invariant.asked)
