-- One context of a tree moves: what that makes of the tree, and of what it stands for.
use Rattle.context_tree.proofs.Base.{nat_tests, ◌≡◌, ◌≢◌, ◌⊎◌, ℕ, ◌+◌, ◌<◌, Some, IsSome, refl, sym, ap, ◌∙◌, subst, inl, inr, arith, option_map, cases_eq, eq-eqb, ne_eqb}
use Rattle.context_tree.proofs.Words.{Space, IsKnown, AreDisjoint, Agrees-other, Keeps-other, AreDisjoint-other, AreDisjoint-sym, counted-own, counted-other, Forest, Empty, Node, either, at, Once, changed, mapped, Apart, apart_of, Here, Below, Beside, where_is, has_at, at_absent, at_some, changed_absent, at_changed, at_changed_other, mapped-at, mapped-once, stats, footprint, ledger, Context, Contexts, Entry, Kept, IsSoundContext, context_of, TreeState, stands_for, Agrees, total_of, Moves, at_here, at_below, at_beside, context_stays}
use Rattle.addr_space.specs.Footprint as foot

module _ {A B : Type 0} (f g : A → B) (n : ℕ) (l : A) where
  -- where one node changes, and of all others two functions say the same
  pub mapped_step : (t : Forest A) → Once t → ((m : ℕ) (j : A) → m ≢ n → at m t ≡ Some j → g j ≡ f j) → mapped g (changed n (λ _. l) t) ≡ changed n (λ _. g l) (mapped f t)
  mapped_step Empty o same = refl
  mapped_step (Node m j below beside) o same =
      let apart : Apart m below beside = apart_of m j below beside o in
      let low : mapped g (changed n (λ _. l) below) ≡ changed n (λ _. g l) (mapped f below) =
      mapped_step below apart.once_below (λ i k ne h. same i k ne (at_below m i j k below beside o h)) in
      let side : mapped g (changed n (λ _. l) beside) ≡ changed n (λ _. g l) (mapped f beside) =
      mapped_step beside apart.once_beside (λ i k ne h. same i k ne (at_beside m i j k below beside o h)) in
      elim (cases_eq m n) [
        | inl e ↦ rw (eq-eqb m n e, low, side) refl
        | inr ne ↦ rw (ne_eqb m n ne, same m j ne (at_here m j below beside), low, side) refl
      ]

-- what all have together, where one changes
pub total_changed : (n : ℕ) (g : Context → Context) (c : Context) (t : Contexts) → Once t → at n t ≡ Some c → total_of (changed n g t) + (stats c.ledger).total ≡ total_of t + (stats (g c).ledger).total
total_changed n g c Empty o h = absurd (cc)
total_changed n g c (Node k b below beside) o h =
    let apart : Apart k below beside = apart_of k b below beside o in
    elim (where_is n k b below beside o (has_at n (Node k b below beside) c h)) [
      | Here e y u v ↦
          let same : b ≡ c = let w : Some b ≡ Some c = rw y at h in cc in
          rw (y, changed_absent n g below u, changed_absent n g beside v, same) (omega arith)
      | Below ne y u v ↦
          let w = at_some n below u in
          let r : at n below ≡ Some c = let z : either (at n below) (at n beside) ≡ Some c = rw y at h in w.1 ∙ (rw w.1 at z) in
          rw (y, changed_absent n g beside v) (omega (arith, total_changed n g c below apart.once_below r))
      | Beside ne y u v ↦
          let r : at n beside ≡ Some c = rw (y, at_absent n below u) at h in
          rw (y, changed_absent n g below u) (omega (arith, total_changed n g c beside apart.once_beside r))
    ]

-- a change of one node by two functions that say the same of it
pub changed_same : {A : Type 0} (n : ℕ) (f g : A → A) (a : A) (t : Forest A) → Once t → at n t ≡ Some a → f a ≡ g a → changed n f t ≡ changed n g t
changed_same n f g a Empty o h e = refl
changed_same n f g a (Node k b below beside) o h e =
    let apart : Apart k below beside = apart_of k b below beside o in
    elim (where_is n k b below beside o (has_at n (Node k b below beside) a h)) [
      | Here z y u v ↦
          let same : b ≡ a = let w : Some b ≡ Some a = rw y at h in cc in
          rw (y, changed_absent n f below u, changed_absent n f beside v, changed_absent n g below u, changed_absent n g beside v, same, e) refl
      | Below ne y u v ↦
          let w = at_some n below u in
          let r : at n below ≡ Some a = let z : either (at n below) (at n beside) ≡ Some a = rw y at h in w.1 ∙ (rw w.1 at z) in
          rw (y, changed_absent n f beside v, changed_absent n g beside v, changed_same n f g a below apart.once_below r e) refl
      | Beside ne y u v ↦
          let r : at n beside ≡ Some a = rw (y, at_absent n below u) at h in
          rw (y, changed_absent n f below u, changed_absent n g below u, changed_same n f g a beside apart.once_beside r e) refl
    ]

-- the context of one number became another one, in the tree and in the space, and nothing else happened
pub record Stepped (a b : TreeState) (s t : Space) (n : ℕ) (k l : Kept) : Type 0 where
  pub here : at n a.kept ≡ Some k
  pub changed : b.kept ≡ changed n (λ _. l) a.kept
  pub account : b.account ≡ a.account
  pub moves : foot.Moves (footprint k.memory) (footprint l.memory) s t
  pub known : (c : ℕ) (e : Entry) → at c l.chunks ≡ Some e → IsKnown t e.at e.known
  pub total : (footprint l.memory).total ≡ (stats (ledger l.memory)).total

module _ (a b : TreeState) (s t : Space) (n : ℕ) (k l : Kept) (agrees : Agrees a s) (once : Once a.kept) (each : (m : ℕ) (j : Kept) → at m a.kept ≡ Some j → IsSoundContext j)
    (step : Stepped a b s t n k l) where
  -- the context of a number then
  stepped_at : (m : ℕ) (j : Kept) → at m b.kept ≡ Some j → ((m ≡ n) × (j ≡ l)) ⊎ ((m ≢ n) × (at m a.kept ≡ Some j))
  stepped_at m j h = grind (arith, nat_tests, at, changed, at_changed, at_changed_other)

  pub stepped_here : at n b.kept ≡ Some l
  stepped_here = ap (at n) step.changed ∙ at_changed n (λ _. l) a.kept k step.here

  stepped_other : (m : ℕ) (j : Kept) → m ≢ n → at m a.kept ≡ Some j → at m b.kept ≡ Some j
  stepped_other m j ne h = ap (at m) step.changed ∙ at_changed_other m n (λ _. l) a.kept ne ∙ h

  disjoint : (m : ℕ) (j : Kept) → m ≢ n → at m a.kept ≡ Some j → AreDisjoint (footprint k.memory) (footprint j.memory)
  disjoint m j ne h = agrees.apart n m k j (λ e. ne (sym e)) step.here h

  beside : (m : ℕ) (j : Kept) → m ≢ n → at m a.kept ≡ Some j → AreDisjoint (footprint l.memory) (footprint j.memory)
  beside m j ne h = grind (arith, nat_tests, AreDisjoint-other (footprint k.memory) (footprint l.memory) (footprint j.memory) s t step.moves (disjoint m j ne h) (agrees.each m j h), j.memory, disjoint m j ne h)

  known_other : (m c : ℕ) (j : Kept) (e : Entry) → m ≢ n → at m a.kept ≡ Some j → at c j.chunks ≡ Some e → IsKnown t e.at e.known
  known_other m c j e ne h q i below =
      let fit : i < e.size = omega (arith, below, (each m j h).known c e q) in
      let keeps = Keeps-other (footprint k.memory) (footprint l.memory) (footprint j.memory) s t step.moves (disjoint m j ne h) (agrees.each m j h)
      e.at e.size e.size i ((each m j h).live c e q) ((each m j h).live c e q) fit fit in
      subst IsSome (sym keeps) (agrees.known m c j e h q i below)

  pub agrees_stepped : Agrees b t
  agrees_stepped = record {
    account = omega (arith, agrees.account, step.account, step.moves.accounts);
    each = λ m j h. elim (stepped_at m j h) [
      | inl it ↦ rw it.1 step.moves.agrees
      | inr it ↦ Agrees-other (footprint k.memory) (footprint l.memory) (footprint j.memory) s t step.moves (disjoint m j it.0 it.1) (agrees.each m j it.1)
    ];
    owned = λ m j h. elim (stepped_at m j h) [
      | inl it ↦ rw it.1 (step.moves.account ∙ agrees.owned n k step.here ∙ sym step.account)
      | inr it ↦ agrees.owned m j it.1 ∙ sym step.account
    ];
    apart = λ m i j j2 differ h h2. elim (stepped_at m j h) [
      | inl it ↦ elim (stepped_at i j2 h2) [
        | inl that ↦ absurd (differ (it.0 ∙ sym that.0))
        | inr that ↦ rw it.1 (beside i j2 that.0 that.1)
      ]
      | inr it ↦ elim (stepped_at i j2 h2) [
        | inl that ↦ rw that.1 (AreDisjoint-sym (footprint l.memory) (footprint j.memory) (beside m j it.0 it.1))
        | inr that ↦ agrees.apart m i j j2 differ it.1 that.1
      ]
    ];
    known = λ m c j e h q. elim (stepped_at m j h) [
      | inl it ↦ step.known c e (ap (λ (x : Kept). at c x.chunks) (sym it.1) ∙ q)
      | inr it ↦ known_other m c j e it.0 it.1 q
    ];
  }

  pub stands_stepped : stands_for b t ≡ changed n (λ _. context_of t l) (stands_for a s)
  unfolding stands_for
  stands_stepped =
      ap (mapped (context_of t)) step.changed
      ∙ mapped_step (context_of s) (context_of t) n l a.kept once (λ m j ne h.
      context_stays (footprint k.memory) (footprint l.memory) s t j step.moves (disjoint m j ne h) (agrees.each m j h) (each m j h))

  pub stood : at n (stands_for a s) ≡ Some (context_of s k)
  unfolding stands_for
  stood = mapped-at (context_of s) n a.kept ∙ ap (option_map (context_of s)) step.here

  once_stands : Once (stands_for a s)
  unfolding stands_for
  once_stands = mapped-once (context_of s) a.kept once

  -- the same, by any function that makes this of the context
  pub stands_by : (f : Context → Context) → f (context_of s k) ≡ context_of t l → stands_for b t ≡ changed n f (stands_for a s)
  stands_by f is = grind (arith, nat_tests, stands_stepped, changed_same, once_stands, stood)

  pub moves_stepped : Moves a b s t
  moves_stepped = record {
    agrees = agrees_stepped;
    account = step.account;
    outside = λ number region. (
      λ out.
          let now = (step.moves.outside number region).0 (out.0, out.1 n k step.here) in
          (now.0, λ m j h. elim (stepped_at m j h) [ inl it ↦ rw it.1 now.1 | inr it ↦ out.1 m j it.1 ]),
      λ out.
          let was = (step.moves.outside number region).1 (out.0, out.1 n l stepped_here) in (
            was.0,
            λ m j h. elim (cases_eq m n) [
              | inl same ↦
                  let it : Some j ≡ Some k = sym h ∙ ap (λ (i : ℕ). at i a.kept) same ∙ step.here in
                  let one : j ≡ k = cc in
                  rw one was.1
              | inr ne ↦ out.1 m j (stepped_other m j ne h)
            ],
          ),
    );
    accounts = step.moves.accounts;
    limit = step.moves.limit;
    own =
        let mine : (footprint k.memory).account ≡ a.account = agrees.owned n k step.here in
        let sum = total_changed n (λ _. context_of t l) (context_of s k) (stands_for a s) once_stands stood in
        omega (
          arith,
          sum,
          ap total_of stands_stepped,
          step.moves.held a.account,
          counted-own (footprint k.memory) a.account mine,
          counted-own (footprint l.memory) a.account (step.moves.account ∙ mine),
          step.total,
          (each n k step.here).total,
        );
    others = grind (arith, nat_tests, counted-other);
  }
