-- A tree whose contexts are given back one after the other, each without children, and one step after another.
use Rattle.context_tree.proofs.Base.{◌≡◌, ◌≢◌, ℕ, ◌+◌, ◌<◌, true, Some, None, IsSome, refl, sym, ap, ◌∙◌, subst, inl, inr, arith, option_map, cases_eq, nat_tests}
use Rattle.context_tree.proofs.Words.{Space, held, AreDisjoint, nothing, Agrees-other, Keeps-other, counted-own, counted-other, counted-nothing, Forest, Empty, Node, either, at, first, has, Once, children, removed, mapped, lead, lead_in, lead_end, lead_leaf, children_in, once_children, Apart, apart_of, Here, Below, Beside, where_is, has_at, at_some, at_absent, removed_absent, once_removed, first_child_other, left_apart, at_removed, mapped-removed, mapped-children, mapped-once, mapped-at, stats, footprint, ledger, Context, Contexts, Kept, IsSoundContext, context_of, TreeState, stands_for, Agrees, total_of, Moves, bare, context_stays}
use Rattle.addr_space.specs.Footprint as foot
use Rattle.context_tree.proofs.Growing.{mapped_same}

-- one step after another
pub tree_more : (a b c : TreeState) (s t u : Space) → Moves a b s t → Moves b c t u → Moves a c s u
tree_more a b c s t u first second = record {
  agrees = second.agrees;
  account = second.account ∙ first.account;
  outside = λ number region. (
    λ out. (second.outside number region).0 ((first.outside number region).0 out),
    λ out. (first.outside number region).1 ((second.outside number region).1 out),
  );
  accounts = second.accounts ∙ first.accounts;
  limit = second.limit ∙ first.limit;
  own = grind (arith, nat_tests, first.own, second.own, held, first.account);
  others = λ account differ. second.others account (λ e. differ (e ∙ first.account)) ∙ first.others account differ;
}

-- what all have together without one that has no child
pub total_without : (n : ℕ) (c : Context) (t : Contexts) → Once t → at n t ≡ Some c → children n t ≡ Empty → total_of (removed n t) + (stats c.ledger).total ≡ total_of t
total_without n c Empty o h leaf = absurd (cc)
total_without n c (Node k b below beside) o h leaf =
    let apart : Apart k below beside = apart_of k b below beside o in
    elim (where_is n k b below beside o (has_at n (Node k b below beside) c h)) [
      | Here e y u v ↦
          let same : b ≡ c = let w : Some b ≡ Some c = rw y at h in cc in
          let none : below ≡ Empty = rw y at leaf in
          rw (y, removed_absent n beside v, none, same) (omega arith)
      | Below ne y u v ↦
          let w = at_some n below u in
          let r : at n below ≡ Some c = let z : either (at n below) (at n beside) ≡ Some c = rw y at h in w.1 ∙ (rw w.1 at z) in
          let low : children n below ≡ Empty = rw (y, u) at leaf in
          rw (y, removed_absent n beside v) (omega (arith, total_without n c below apart.once_below r low))
      | Beside ne y u v ↦
          let r : at n beside ≡ Some c = rw (y, at_absent n below u) at h in
          let side : children n beside ≡ Empty = rw (y, u) at leaf in
          rw (y, removed_absent n below u) (omega (arith, total_without n c beside apart.once_beside r side))
    ]

-- a context without children went, with all that it had
pub record Gone (a b : TreeState) (s t : Space) (n : ℕ) (k : Kept) (context : ℕ) : Type 0 where
  pub here : at n a.kept ≡ Some k
  pub leaf : children n a.kept ≡ Empty
  pub now : b.kept ≡ removed n a.kept
  pub account : b.account ≡ a.account
  pub moves : foot.Moves (footprint k.memory) (nothing a.account context) s t

module _ (a b : TreeState) (s t : Space) (n : ℕ) (k : Kept) (context : ℕ) (agrees : Agrees a s) (once : Once a.kept) (each : (m : ℕ) (j : Kept) → at m a.kept ≡ Some j → IsSoundContext j)
    (gone : Gone a b s t n k context) where
  -- what is left was there
  pub was_there : (m : ℕ) (j : Kept) → at m b.kept ≡ Some j → (m ≢ n) × (at m a.kept ≡ Some j)
  was_there m j h =
      let there : at m (removed n a.kept) ≡ Some j = ap (at m) (sym gone.now) ∙ h in
      let out = left_apart m n a.kept once (has_at n a.kept k gone.here) (has_at m (removed n a.kept) j there) in
      (out.0, sym (at_removed m n a.kept once out.0 gone.leaf) ∙ there)

  still_there : (m : ℕ) (j : Kept) → m ≢ n → at m a.kept ≡ Some j → at m b.kept ≡ Some j
  still_there m j ne h = ap (at m) gone.now ∙ at_removed m n a.kept once ne gone.leaf ∙ h

  disjoint : (m : ℕ) (j : Kept) → m ≢ n → at m a.kept ≡ Some j → AreDisjoint (footprint k.memory) (footprint j.memory)
  disjoint m j ne h = agrees.apart n m k j (λ e. ne (sym e)) gone.here h

  agrees_gone : Agrees b t
  agrees_gone = record {
    account = omega (arith, agrees.account, gone.account, gone.moves.accounts);
    each = λ m j h.
        let was = was_there m j h in
        Agrees-other (footprint k.memory) (nothing a.account context) (footprint j.memory) s t gone.moves (disjoint m j was.0 was.1) (agrees.each m j was.1);
    owned = λ m j h. agrees.owned m j (was_there m j h).1 ∙ sym gone.account;
    apart = λ m i j j2 differ h h2. agrees.apart m i j j2 differ (was_there m j h).1 (was_there i j2 h2).1;
    known = λ m c j e h q i below.
        let was = was_there m j h in
        let fit : i < e.size = omega (arith, below, (each m j was.1).known c e q) in
        let keeps = Keeps-other (footprint k.memory) (nothing a.account context) (footprint j.memory) s t gone.moves (disjoint m j was.0 was.1) (agrees.each m j was.1)
        e.at e.size e.size i ((each m j was.1).live c e q) ((each m j was.1).live c e q) fit fit in
        subst IsSome (sym keeps) (agrees.known m c j e was.1 q i below);
  }

  once_left : Once (removed n a.kept)
  once_left = once_removed n a.kept once (has_at n a.kept k gone.here)

  pub stands_gone : stands_for b t ≡ removed n (stands_for a s)
  unfolding stands_for
  stands_gone =
      ap (mapped (context_of t)) gone.now
      ∙ mapped_same (context_of s) (context_of t) (removed n a.kept) once_left (λ m j h.
      let was = was_there m j (ap (at m) gone.now ∙ h) in
      context_stays (footprint k.memory) (nothing a.account context) s t j gone.moves (disjoint m j was.0 was.1) (agrees.each m j was.1) (each m j was.1))
      ∙ mapped-removed (context_of s) n a.kept

  total_gone : total_of (stands_for b t) + (stats (ledger k.memory)).total ≡ total_of (stands_for a s)
  unfolding stands_for
  total_gone = grind (arith, nat_tests, total_of, stands_gone, total_without n (context_of s k) (mapped (context_of s) a.kept) (mapped-once (context_of s) a.kept once) (mapped-at (context_of s) n a.kept ∙ ap (option_map (context_of s)) gone.here) (sym (mapped-children (context_of s) n a.kept) ∙ ap (mapped (context_of s)) gone.leaf), mapped (context_of s) a.kept, mapped-once (context_of s) a.kept once, mapped-at (context_of s) n a.kept, mapped-children (context_of s) n a.kept, mapped (context_of s))

  pub moves_gone : Moves a b s t
  moves_gone = record {
    agrees = agrees_gone;
    account = gone.account;
    outside = λ number region. (
      λ out.
          let now = (gone.moves.outside number region).0 (out.0, out.1 n k gone.here) in
          (now.0, λ m j h. out.1 m j (was_there m j h).1),
      λ out.
          let was = (gone.moves.outside number region).1 (out.0, refl) in (
            was.0,
            λ m j h. elim (cases_eq m n) [
              | inl same ↦
                  let it : Some j ≡ Some k = sym h ∙ ap (λ (i : ℕ). at i a.kept) same ∙ gone.here in
                  let one : j ≡ k = cc in
                  rw one was.1
              | inr ne ↦ out.1 m j (still_there m j ne h)
            ],
          ),
    );
    accounts = gone.moves.accounts;
    limit = gone.moves.limit;
    own =
        let mine : (footprint k.memory).account ≡ a.account = agrees.owned n k gone.here in
        omega (
          arith,
          total_gone,
          gone.moves.held a.account,
          counted-own (footprint k.memory) a.account mine,
          counted-nothing a.account context a.account,
          (each n k gone.here).total,
        );
    others = grind (arith, nat_tests, counted-other, counted-nothing);
  }

-- a walk's first leaf has no child
pub leaf_bare : {A : Type 0} (root : ℕ) (t : Forest A) → Once t → has root t ≡ true → children (lead root (children root t)) t ≡ Empty
leaf_bare root t once stands = grind (arith, nat_tests, lead_in root (children root t), lead_end, first_child_other root t once stands, children_in, lead_leaf, once_children root t once)

pub none_first : {A : Type 0} (t : Forest A) → first t ≡ None → t ≡ Empty
none_first x0 none = grind (arith, nat_tests)

-- a context less, of a tree of which only its contexts are known
module _ (account n : ℕ) (k : Kept) (f g : Forest Kept) (s t : Space) (agrees : Agrees (bare account f) s) (once : Once f) (each : (m : ℕ) (j : Kept) → at m f ≡ Some j → IsSoundContext j) (here : at n f ≡ Some k)
    (leaf : children n f ≡ Empty) (now : g ≡ removed n f) (gives : foot.Moves (footprint k.memory) (nothing (footprint k.memory).account (footprint k.memory).context) s t) where
  one_gone : Gone (bare account f) (bare account g) s t n k (footprint k.memory).context
  one_gone = grind (arith, nat_tests, agrees.owned n k here)

  pub one_back : Moves (bare account f) (bare account g) s t
  one_back = moves_gone (bare account f) (bare account g) s t n k (footprint k.memory).context agrees once each one_gone

  pub each_left : (m : ℕ) (j : Kept) → at m g ≡ Some j → IsSoundContext j
  each_left m j h = each m j (was_there (bare account f) (bare account g) s t n k (footprint k.memory).context agrees once each one_gone m j h).1

-- a tree agrees with a space, and moves, by its contexts and their account alone
pub agrees_bare : (a : TreeState) (s : Space) → Agrees a s → Agrees (bare a.account a.kept) s
agrees_bare a s agrees = grind (arith, nat_tests, agrees.account, agrees.each, agrees.owned, agrees.apart, agrees.known)

pub moves_bare : (a b : TreeState) (s t : Space) → Moves (bare a.account a.kept) b s t → Moves a b s t
unfolding stands_for
moves_bare a b s t moves = grind (arith, nat_tests, moves.agrees, moves.account, moves.outside, moves.accounts, moves.limit, moves.own, moves.others)
