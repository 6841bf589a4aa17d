-- What the calls on contexts keep of them.
use Rattle.session_rules.proofs.Base.{◌≡◌, ◌≢◌, ℕ, ◌+◌, ◌≤◌, ◌<◌, Bool, true, false, Option, Some, List, refl, ap, ◌∙◌, arith, ◌==◌, option_map_or, cases_eq, both_ways, false_from_ne_true, or_parts, nat_tests}
use Rattle.session_rules.proofs.Below.{Empty, has, times, Once, at, children, parent_of, is_above, removed, changed, moved, with_children, times_some, has_some, at_some, has_of_removed, Moves, once_put, once_changed, times_moved, has_changed, above_by_parent, above_none, at_moved, parent_changed, at_changed, at_changed_other, CtxKind, Context, Contexts, new_context, is_protected, is_empty, created, reparented, emptied, is_within}
use Rattle.session_rules.proofs.Rules.{abort_context, top_context, IsFresh, IsOfSession, AreContexts, AreGuarded}
use Rattle.context_rules.specs.Ends as ends
use Rattle.session_rules.proofs.Forests.{parent_left, at_left, once_left, times_emptied, once_emptied, at_emptied, parent_emptied, has_put_other, at_put_other, parent_put_other, at_put, children_put, parent_put}
use Rattle.session_rules.proofs.Guarded.{all_removed, all_emptied, all_put, all_changed, all_moved, guarded_removed, guarded_emptied, guarded_put, guarded_put_own, guarded_changed, guarded_moved, own_apart, own_has, rooted_removed, rooted_emptied, rooted_put, rooted_changed, rooted_moved, top_own, top_parent, all_gone}

-- whether a context is one of the session's own
abbrev pub own : Context → Bool
own c = c.protected

-- a protected context stands as it stood
pub record IsSame (m : ℕ) (t u : Contexts) : Type 0 where
  pub protected : is_protected m u ≡ true
  pub parent : parent_of m u ≡ parent_of m t

-- each protected context does
abbrev pub Stay : Contexts → Contexts → Type 0
Stay t u = (m : ℕ) → is_protected m t ≡ true → IsSame m t u

pub stay_same : (t : Contexts) → Stay t t
stay_same t m prot = record { protected = prot; parent = refl }

pub stay_on : (t u v : Contexts) → Stay t u → Stay u v → Stay t v
stay_on t u v a b m prot = grind (arith, nat_tests)

-- the session's own contexts do
pub own_stay : (t u : Contexts) → ((m : ℕ) → 1 < m → m ≤ abort_context → IsOfSession m t) → Stay t u → (m : ℕ) → 1 < m → m ≤ abort_context → IsOfSession m u
own_stay t u h stay m l b = grind (arith, nat_tests)

-- two forests that have the same at a number
pub same_own : (m : ℕ) (t u : Contexts) → at m u ≡ at m t → is_protected m t ≡ true → is_protected m u ≡ true
same_own m t u e prot = ap (λ (o : Option Context). option_map_or own o false) e ∙ prot

pub protected_has : (m : ℕ) (t : Contexts) → is_protected m t ≡ true → has m t ≡ true
protected_has m t prot = own_has own m t prot

-- what holds of contexts, and of them with one emptied, holds where that is reset alone
pub by_alone : (P : Contexts → Type 0) (n : ℕ) (t : Contexts) → P t → P (changed n emptied t) → P (ends.cleared_alone n t).contexts
by_alone P n t same reset = grind (arith, nat_tests)

-- so with one moved
pub by_reparented : (P : Contexts → Type 0) (n p : ℕ) (t : Contexts) → P t → P (moved n p t) → P (reparented n p t)
by_reparented P n p t same moves = grind (arith, nat_tests)

module _ (t : Contexts) (next : ℕ) (h : AreContexts t next) where
  pub top_protected : is_protected top_context t ≡ true
  top_protected = top_own own top_context t h.rooted

  pub is_unused : has next t ≡ false
  is_unused = false_from_ne_true (has next t) (λ e. omega (arith, h.below next e))

  -- a protected context isn't an unprotected one, nor below it
  pub apart : (m n : ℕ) → is_protected n t ≡ false → is_protected m t ≡ true → (m ≢ n) × (has m (children n t) ≡ false)
  apart m n free prot = own_apart own m n t h.once h.guarded free prot

  -- contexts 1 to 5 aren't below a context of a greater number
  pub own_outside : (m n : ℕ) → 1 < m → m ≤ abort_context → abort_context < n → (m ≢ n) × (has m (children n t) ≡ false)
  own_outside m n l b g = (
    λ e. omega (arith, e, b, g),
    above_by_parent m top_context n t h.once (h.own m l b).parent (λ e. omega (arith, e, g)) ∙ above_none top_context n t h.once (top_parent own top_context t h.once h.rooted),
  )

  -- what is right below one of the session's own isn't below any newer context
  pub off_outside : (m b n : ℕ) → 1 < b → b ≤ abort_context → abort_context < n → parent_of m t ≡ Some b → has m (children n t) ≡ false
  off_outside m b n low high big p =
      let out = own_outside b n low high big in
      above_by_parent m b n t h.once p out.0 ∙ out.1

  pub same_removed : (m n : ℕ) → (m ≢ n) × (has m (children n t) ≡ false) → is_protected m t ≡ true → IsSame m t (removed n t)
  same_removed m n w prot =
      grind (arith, nat_tests, same_own m t (removed n t) (at_left m n t h.once w.0 w.1) prot, at_left m n t h.once w.0 w.1, parent_left m n t h.once w.0 w.1)

  pub contexts_removed : (n : ℕ) → n ≢ top_context → ((m : ℕ) → 1 < m → m ≤ abort_context → (m ≢ n) × (has m (children n t) ≡ false)) → AreContexts (removed n t) next
  contexts_removed n ne out = record {
    rooted = rooted_removed own top_context n t ne h.rooted;
    guarded = guarded_removed own n t h.guarded;
    once = once_left n t h.once;
    below = λ m u. h.below m (has_of_removed m n t u);
    room = h.room;
    own = λ m l b.
        let x : IsOfSession m t = h.own m l b in
        let y : IsSame m t (removed n t) = same_removed m n (out m l b) x.protected in
        record { protected = y.protected; parent = y.parent ∙ x.parent };
    fresh = all_removed IsFresh n t h.fresh;
  }

  -- an unprotected context goes
  pub stay_gone : (n : ℕ) → is_protected n t ≡ false → Stay t (removed n t)
  stay_gone n free m prot = same_removed m n (apart m n free prot) prot

  pub contexts_gone : (n : ℕ) → is_protected n t ≡ false → AreContexts (removed n t) next
  contexts_gone n free = grind (arith, nat_tests, contexts_removed n, both_ways, top_protected, apart)

  -- the context of a level goes
  pub contexts_level_gone : (n : ℕ) → abort_context < n → AreContexts (removed n t) next
  contexts_level_gone n g = contexts_removed n (λ e. omega (arith, e, g)) (λ m l b. own_outside m n l b g)

  -- all below a newer context goes
  pub same_emptied : (m n : ℕ) → has m (children n t) ≡ false → is_protected m t ≡ true → IsSame m t (with_children n Empty t)
  same_emptied m n out prot = record {
    protected = same_own m t (with_children n Empty t) (at_emptied m n t h.once out) prot;
    parent = parent_emptied m n t h.once out;
  }

  contexts_below_gone : (n : ℕ) → ((m : ℕ) → 1 < m → m ≤ abort_context → has m (children n t) ≡ false) → AreContexts (with_children n Empty t) next
  contexts_below_gone n out = record {
    rooted = rooted_emptied own top_context n t h.rooted;
    guarded = guarded_emptied own n t h.guarded;
    once = once_emptied n t h.once;
    below = λ m u. h.below m (has_some m t (omega (arith, times_emptied m n t h.once, times_some m (with_children n Empty t) u)));
    room = h.room;
    own = λ m l b.
        let x : IsOfSession m t = h.own m l b in
        let y : IsSame m t (with_children n Empty t) = same_emptied m n (out m l b) x.protected in
        record { protected = y.protected; parent = y.parent ∙ x.parent };
    fresh = all_emptied IsFresh n t h.fresh;
  }

  pub contexts_emptied : (n : ℕ) → abort_context < n → AreContexts (with_children n Empty t) next
  contexts_emptied n g = contexts_below_gone n (λ m l b. (own_outside m n l b g).1)

  -- all below an unprotected context goes
  pub stay_children_gone : (n : ℕ) → is_protected n t ≡ false → Stay t (with_children n Empty t)
  stay_children_gone n free m prot = same_emptied m n (apart m n free prot).1 prot

  pub contexts_children_gone : (n : ℕ) → is_protected n t ≡ false → AreContexts (with_children n Empty t) next
  contexts_children_gone n free = contexts_below_gone n (λ m l b. (apart m n free (h.own m l b).protected).1)

  -- the data of a context changes
  pub stay_changed : (n : ℕ) (f : Context → Context) → ((c : Context) → (f c).protected ≡ c.protected) → Stay t (changed n f t)
  stay_changed n f keeps m prot = grind (arith, nat_tests, cases_eq, protected_has, at_changed, same_own, at_changed_other, parent_changed)

  pub contexts_changed : (n : ℕ) (f : Context → Context) → ((c : Context) → (f c).protected ≡ c.protected) → ((c : Context) → IsFresh c → IsFresh (f c)) → AreContexts (changed n f t) next
  contexts_changed n f keeps fresh =
      grind (arith, nat_tests, rooted_changed own top_context n f t keeps h.rooted, guarded_changed own n f t keeps h.guarded, once_changed n f t h.once, has_changed, own_stay t (changed n f t) h.own (stay_changed n f keeps), stay_changed n f keeps, all_changed IsFresh n f t fresh h.fresh)

  -- a context is reset alone
  pub stay_alone : (n : ℕ) → Stay t (ends.cleared_alone n t).contexts
  stay_alone n = by_alone (Stay t) n t (stay_same t) (stay_changed n emptied (λ c. refl))

  pub contexts_alone : (n : ℕ) → AreContexts (ends.cleared_alone n t).contexts next
  contexts_alone n = by_alone (λ u. AreContexts u next) n t h (contexts_changed n emptied (λ c. refl) (λ c _ _. (refl, refl)))

  pub has_alone : (m n : ℕ) → has m (ends.cleared_alone n t).contexts ≡ has m t
  has_alone m n = by_alone (λ u. has m u ≡ has m t) n t refl (has_changed m n emptied t)

  -- a context is made
  pub stay_created : (p : ℕ) (name : List ℕ) (kind : CtxKind) (b : Bool) → Stay t (created p next name kind b t)
  stay_created p name kind b m prot =
      let ne : m ≢ next = λ e. omega (arith, e, h.below m (protected_has m t prot)) in
      grind (arith, nat_tests, protected_has m t prot, same_own m t (created p next name kind b t) (at_put_other m p next (new_context name kind b) Empty t ne refl) prot, at_put_other m p next (new_context name kind b) Empty t ne refl, parent_put_other m p next (new_context name kind b) Empty t ne refl)

  pub guarded_created : (p : ℕ) (name : List ℕ) (kind : CtxKind) (b : Bool) → (b ≡ true → is_protected p t ≡ true) → AreGuarded own (created p next name kind b t)
  guarded_created p name kind b needs = grind (arith, nat_tests, guarded_put_own, guarded_put)

  pub contexts_created : (p : ℕ) (name : List ℕ) (kind : CtxKind) (b : Bool) → has p t ≡ true → (b ≡ true → is_protected p t ≡ true) → AreContexts (created p next name kind b t) (next + 1)
  contexts_created p name kind b there needs = record {
    rooted = rooted_put own top_context p next (new_context name kind b) Empty t h.rooted;
    guarded = guarded_created p name kind b needs;
    once = once_put p next (new_context name kind b) t h.once there is_unused;
    below = grind (arith, nat_tests, cases_eq, has_put_other);
    room = omega (arith, h.room);
    own = own_stay t (created p next name kind b t) h.own (stay_created p name kind b);
    fresh = all_put IsFresh p next (new_context name kind b) Empty t (λ _. (refl, refl)) tt h.fresh;
  }

  pub has_created : (m p : ℕ) (name : List ℕ) (kind : CtxKind) (b : Bool) → has m t ≡ true → has m (created p next name kind b t) ≡ true
  has_created m p name kind b there =
      has_put_other m p next (new_context name kind b) Empty t (λ e. omega (arith, e, h.below m there)) refl ∙ there

  -- the one that is made
  pub new_protected : (p : ℕ) (name : List ℕ) (kind : CtxKind) → has p t ≡ true → is_protected next (created p next name kind true t) ≡ true
  new_protected p name kind there = ap (λ (o : Option Context). option_map_or own o false) (at_put p next (new_context name kind true) Empty t h.once there is_unused)

  pub new_parent : (p : ℕ) (name : List ℕ) (kind : CtxKind) (b : Bool) → has p t ≡ true → parent_of next (created p next name kind b t) ≡ Some p
  new_parent p name kind b there = parent_put p next (new_context name kind b) Empty t h.once there is_unused

  pub new_empty : (p : ℕ) (name : List ℕ) (kind : CtxKind) (b : Bool) → has p t ≡ true → is_empty next (created p next name kind b t) ≡ true
  new_empty p name kind b there =
      rw (at_put p next (new_context name kind b) Empty t h.once there is_unused, children_put p next (new_context name kind b) Empty t h.once there is_unused) refl

  -- an unprotected context moves
  pub moves_by : (n p : ℕ) → has n t ≡ true → has p t ≡ true → is_within n p t ≡ false → Moves n p t
  moves_by n p node there out = grind (arith, nat_tests, or_parts (p == n) (is_above n p t) out, is_above n p t, apart)

  pub stay_swapped : (n p : ℕ) → Moves n p t → is_protected n t ≡ false → Stay t (moved n p t)
  stay_swapped n p w free m prot = grind (arith, nat_tests, apart, same_own, at_moved, parent_put_other, parent_left)

  pub has_swapped : (m n p : ℕ) → Moves n p t → times m (moved n p t) ≡ times m t
  has_swapped m n p w = let a = at_some n t w.node in rw a.1 (times_moved m n p a.0 t h.once w)

  pub once_swapped : (n p : ℕ) → Moves n p t → Once (moved n p t)
  once_swapped n p w = record { once = λ m. omega (arith, has_swapped m n p w, h.once.once m) }

  pub contexts_swapped : (n p : ℕ) → Moves n p t → is_protected n t ≡ false → AreContexts (moved n p t) next
  contexts_swapped n p w free = grind (arith, nat_tests, rooted_moved, top_protected, guarded_moved, once_swapped n p w, has_some, has_swapped, times_some, own_stay, stay_swapped n p w free, all_moved IsFresh n p)

  pub stay_reparented : (n p : ℕ) → has n t ≡ true → has p t ≡ true → is_protected n t ≡ false → is_within n p t ≡ false → Stay t (reparented n p t)
  stay_reparented n p node there free out = by_reparented (Stay t) n p t (stay_same t) (stay_swapped n p (moves_by n p node there out) free)

  pub contexts_reparented : (n p : ℕ) → has n t ≡ true → has p t ≡ true → is_protected n t ≡ false → is_within n p t ≡ false → AreContexts (reparented n p t) next
  contexts_reparented n p node there free out = by_reparented (λ u. AreContexts u next) n p t h (contexts_swapped n p (moves_by n p node there out) free)

  pub has_reparented : (m n p : ℕ) → has n t ≡ true → has p t ≡ true → is_within n p t ≡ false → has m t ≡ true → has m (reparented n p t) ≡ true
  has_reparented m n p node there out prot =
      by_reparented (λ u. has m u ≡ true) n p t prot (has_some m (moved n p t) (omega (arith, has_swapped m n p (moves_by n p node there out), times_some m t prot)))

  -- nothing is left without the topmost context
  pub nothing_left : removed top_context t ≡ Empty
  nothing_left = all_gone own top_context t h.rooted
