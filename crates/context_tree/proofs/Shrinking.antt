-- A context less in a tree: what that makes of the tree, and of what it stands for.
use Rattle.context_tree.proofs.Base.{nat_tests, ◌≡◌, ◌≢◌, ℕ, ◌+◌, ◌<◌, Some, IsSome, refl, sym, ap, ◌∙◌, subst, inl, inr, arith, option_map, cases_eq}
use Rattle.context_tree.proofs.Words.{Space, IsKnown, Footprint, AreDisjoint, nothing, Agrees-other, Keeps-other, counted-own, counted-other, counted-nothing, Forest, Empty, Node, either, at, children, removed, Once, mapped, Apart, apart_of, Here, Below, Beside, where_is, has_at, at_absent, at_some, removed_absent, at_removed, once_removed, mapped-removed, mapped-once, mapped-at, mapped-children, stats, footprint, Context, Contexts, Entry, Kept, IsSoundContext, context_of, TreeState, stands_for, Agrees, total_of, Moves, context_stays, other_than_removed}
use Rattle.addr_space.specs.Footprint as foot
use Rattle.context_tree.proofs.Growing.{mapped_same}

module _ {A : Type 0} (n : ℕ) (t : Forest A) (once : Once t) (leaf : children n t ≡ Empty) where
  -- what is left where a node without children goes
  pub left_at : (m : ℕ) (j : A) → at m (removed n t) ≡ Some j → (m ≢ n) × (at m t ≡ Some j)
  left_at m j h = grind (arith, nat_tests, other_than_removed m n t (has_at m (removed n t) j h), has_at m (removed n t) j h, removed n t, at_removed)

  pub still_at : (m : ℕ) (j : A) → m ≢ n → at m t ≡ Some j → at m (removed n t) ≡ Some j
  still_at m j ne h = at_removed m n t once ne leaf ∙ h

-- what the others have together
pub total_removed : (n : ℕ) (c : Context) (t : Contexts) → Once t → at n t ≡ Some c → children n t ≡ Empty → total_of (removed n t) + (stats c.ledger).total ≡ total_of t
total_removed n c Empty o h leaf = absurd (cc)
total_removed n c (Node k b below beside) o h leaf =
    let apart : Apart k below beside = apart_of k b below beside o in
    elim (where_is n k b below beside o (has_at n (Node k b below beside) c h)) [
      | Here e y u v ↦
          let same : b ≡ c = let w : Some b ≡ Some c = rw y at h in cc in
          let empty : below ≡ Empty = rw y at leaf in
          rw (y, removed_absent n beside v, empty, same) (omega arith)
      | Below ne y u v ↦
          let w = at_some n below u in
          let r : at n below ≡ Some c = let z : either (at n below) (at n beside) ≡ Some c = rw y at h in w.1 ∙ (rw w.1 at z) in
          let none : children n below ≡ Empty = rw (y, u) at leaf in
          rw (y, removed_absent n beside v) (omega (arith, total_removed n c below apart.once_below r none))
      | Beside ne y u v ↦
          let r : at n beside ≡ Some c = rw (y, at_absent n below u) at h in
          let none : children n beside ≡ Empty = rw (y, u) at leaf in
          rw (y, removed_absent n below u) (omega (arith, total_removed n c beside apart.once_beside r none))
    ]

-- the tree has a context less, which had no child, and it has nothing in the space
pub record Shrunk (a b : TreeState) (s t : Space) (n : ℕ) (k : Kept) : Type 0 where
  pub here : at n a.kept ≡ Some k
  pub leaf : children n a.kept ≡ Empty
  pub now : b.kept ≡ removed n a.kept
  pub account : b.account ≡ a.account
  pub moves : foot.Moves (footprint k.memory) (nothing (footprint k.memory).account (footprint k.memory).context) s t

module _ (a b : TreeState) (s t : Space) (n : ℕ) (k : Kept) (agrees : Agrees a s) (once : Once a.kept) (each : (m : ℕ) (j : Kept) → at m a.kept ≡ Some j → IsSoundContext j)
    (shrunk : Shrunk a b s t n k) where
  abbrev gone : Footprint
  gone = nothing (footprint k.memory).account (footprint k.memory).context

  was : (m : ℕ) (j : Kept) → at m b.kept ≡ Some j → (m ≢ n) × (at m a.kept ≡ Some j)
  was m j h = left_at n a.kept once shrunk.leaf m j (ap (at m) (sym shrunk.now) ∙ h)

  stays : (m : ℕ) (j : Kept) → m ≢ n → at m a.kept ≡ Some j → at m b.kept ≡ Some j
  stays m j ne h = ap (at m) shrunk.now ∙ still_at n a.kept once shrunk.leaf m j ne h

  disjoint : (m : ℕ) (j : Kept) → m ≢ n → at m a.kept ≡ Some j → AreDisjoint (footprint k.memory) (footprint j.memory)
  disjoint m j ne h = agrees.apart n m k j (λ e. ne (sym e)) shrunk.here h

  known_other : (m c : ℕ) (j : Kept) (e : Entry) → m ≢ n → at m a.kept ≡ Some j → at c j.chunks ≡ Some e → IsKnown t e.at e.known
  known_other m c j e ne h q i below =
      let fit : i < e.size = omega (arith, below, (each m j h).known c e q) in
      let keeps = Keeps-other (footprint k.memory) gone (footprint j.memory) s t shrunk.moves (disjoint m j ne h) (agrees.each m j h)
      e.at e.size e.size i ((each m j h).live c e q) ((each m j h).live c e q) fit fit in
      subst IsSome (sym keeps) (agrees.known m c j e h q i below)

  pub agrees_shrunk : Agrees b t
  agrees_shrunk = record {
    account = omega (arith, agrees.account, shrunk.account, shrunk.moves.accounts);
    each = λ m j h. let it = was m j h in Agrees-other (footprint k.memory) gone (footprint j.memory) s t shrunk.moves (disjoint m j it.0 it.1) (agrees.each m j it.1);
    owned = λ m j h. agrees.owned m j (was m j h).1 ∙ sym shrunk.account;
    apart = λ m i j l differ h h2. agrees.apart m i j l differ (was m j h).1 (was i l h2).1;
    known = λ m c j e h q. let it = was m j h in known_other m c j e it.0 it.1 q;
  }

  pub stood : at n (stands_for a s) ≡ Some (context_of s k)
  unfolding stands_for
  stood = mapped-at (context_of s) n a.kept ∙ ap (option_map (context_of s)) shrunk.here

  pub once_stands : Once (stands_for a s)
  unfolding stands_for
  once_stands = mapped-once (context_of s) a.kept once

  pub leaf_stands : children n (stands_for a s) ≡ Empty
  unfolding stands_for
  leaf_stands = sym (mapped-children (context_of s) n a.kept) ∙ ap (mapped (context_of s)) shrunk.leaf

  pub stands_shrunk : stands_for b t ≡ removed n (stands_for a s)
  unfolding stands_for
  stands_shrunk =
      ap (mapped (context_of t)) shrunk.now
      ∙ mapped_same (context_of s) (context_of t) (removed n a.kept) (once_removed n a.kept once (has_at n a.kept k shrunk.here)) (λ m j h.
      let it = left_at n a.kept once shrunk.leaf m j h in
      context_stays (footprint k.memory) gone s t j shrunk.moves (disjoint m j it.0 it.1) (agrees.each m j it.1) (each m j it.1))
      ∙ mapped-removed (context_of s) n a.kept

  mine : (footprint k.memory).account ≡ a.account
  mine = agrees.owned n k shrunk.here

  pub moves_shrunk : Moves a b s t
  moves_shrunk = record {
    agrees = agrees_shrunk;
    account = shrunk.account;
    outside = λ number region. (
      λ out.
          let now = (shrunk.moves.outside number region).0 (out.0, out.1 n k shrunk.here) in
          (now.0, λ m j h. out.1 m j (was m j h).1),
      λ out.
          let before = (shrunk.moves.outside number region).1 (out.0, refl) in (
            before.0,
            λ m j h. elim (cases_eq m n) [
              | inl same ↦
                  let it : Some j ≡ Some k = sym h ∙ ap (λ (i : ℕ). at i a.kept) same ∙ shrunk.here in
                  let one : j ≡ k = cc in
                  rw one before.1
              | inr ne ↦ out.1 m j (stays m j ne h)
            ],
          ),
    );
    accounts = shrunk.moves.accounts;
    limit = shrunk.moves.limit;
    own =
        omega (
          arith,
          total_removed n (context_of s k) (stands_for a s) once_stands stood leaf_stands,
          ap total_of stands_shrunk,
          shrunk.moves.held a.account,
          counted-own (footprint k.memory) a.account mine,
          counted-nothing (footprint k.memory).account (footprint k.memory).context a.account,
          (each n k shrunk.here).total,
        );
    others = grind (arith, nat_tests, counted-other, mine, counted-nothing);
  }
