-- The contexts and owners of portals among those of levels, and what portals keep where others change.
use Rattle.session_rules.proofs.Base.{◌≡◌, ◌≢◌, ℕ, ◌≤◌, ◌<◌, true, false, Option, Some, None, List, [], ◌∷◌, refl, sym, ◌∙◌, subst, inl, arith, All, option_map_or, both_ways, eq-eqb, All-weaker, nat_tests}
use Rattle.session_rules.proofs.Below.{Empty, Once, has, at, children, parent_of, put, removed, changed, with_children, Context, Contexts, is_protected, OwnerTree, at_children, children_changed, children_in, parent_in}
use Rattle.session_rules.proofs.Rules.{LevelState, OpenPortal, StandingPlan, abort_context, cache_context, first_of, portals_context, top_context, level_parent, AreContexts, AreLevels, AreOuter, ArePortals, IsAttached, IsOwner, IsPlace, IsPlan, IsPortal, IsRow, owner_at}
use Rattle.session_rules.proofs.Guarded.{top_parent}
use Rattle.session_rules.proofs.ContextsKept.{IsSame, own}
use Rattle.session_rules.proofs.LevelsKept.{IsContext, no_value}
use Rattle.session_rules.proofs.Lone.{children_emptied, children_left, children_put_other}
use Rattle.session_rules.proofs.Settling.{Besides, IsApart, Spares}

-- the context of one row
pub record IsRowOf (e c : ℕ) (t : Contexts) : Type 0 where
  pub there : has e (children c t) ≡ true
  pub parent : parent_of e t ≡ Some c
  pub protected : is_protected e t ≡ true
  pub lone : children e t ≡ Empty

pub row_of : (e c : ℕ) (t : Contexts) (current : ℕ) → Once t → IsPlace c (Some e) t current → IsRowOf e c t
row_of e c t current once h = grind (arith, nat_tests, eq-eqb e e refl, parent_in e c t once, at_children e c t once, children_in e c t once)

-- a level's context isn't below one of the session's own but the topmost one
pub off_above : (levels : List LevelState) (t : Contexts) (x : OwnerTree) → AreLevels levels t x → (b : ℕ) → 1 < b → b ≤ abort_context → level_parent (first_of levels) ≢ b
off_above [] t x l b low high = λ z. absurd (omega (arith, z))
off_above (level ∷ levels) t x l b low high = grind (arith, λ (n : ℕ) (e : level.context ≡ Some n). (l.0.context n e).own)

pub some_is : (a b : ℕ) → Some a ≡ Some b → a ≡ b
some_is a b e = cc e

pub off_levels : (levels : List LevelState) (t : Contexts) (x : OwnerTree) → AreLevels levels t x → (n : ℕ) → IsContext n levels → (m b : ℕ) → 1 < b → b ≤ abort_context → parent_of m t ≡ Some b → n ≢ m
off_levels [] t x l n i m b low high p = absurd i
off_levels (level ∷ levels) t x l n i m b low high p = grind (arith, nat_tests, off_above levels t x l.1 b low high, some_is (level_parent (first_of levels)) b, off_levels levels t x l.1 n)

-- the parent of a level's context isn't a portal's
pub levels_up : (levels : List LevelState) (t : Contexts) (x : OwnerTree) → AreLevels levels t x → (c : ℕ) → abort_context < c → parent_of c t ≡ Some portals_context → level_parent (first_of levels) ≢ c
levels_up [] t x l c own p = λ z. absurd (omega (arith, z, own))
levels_up (level ∷ levels) t x l c own p = go level.context refl
  where
    go : (o : Option ℕ) → level.context ≡ o → option_map_or (λ n. n) o top_context ≢ c
    go None e = λ z. absurd (omega (arith, z, own))
    go (Some n) e = off_levels (level ∷ levels) t x l n (inl e) c portals_context (omega arith) (omega arith) p

-- a level's context isn't that of one row
pub off_rows : (levels : List LevelState) (t : Contexts) (x : OwnerTree) → AreLevels levels t x → (n : ℕ) → IsContext n levels → (e c : ℕ) → abort_context < c → parent_of c t ≡ Some portals_context → parent_of e t ≡ Some c → n ≢ e
off_rows [] t x l n i e c own up p = absurd i
off_rows (level ∷ levels) t x l n i e c own up p = grind (arith, nat_tests, levels_up levels t x l.1 c own up, some_is (level_parent (first_of levels)) c, off_rows levels t x l.1 n)

-- nor is one of the session's own
pub own_rows : (t : Contexts) (next : ℕ) → AreContexts t next → (n : ℕ) → 1 ≤ n → n ≤ abort_context → (e c : ℕ) → abort_context < c → parent_of e t ≡ Some c → n ≢ e
own_rows t next h n low small e c own_c p = grind (arith, nat_tests, no_value (parent_of e t) c, top_parent own top_context t h.once h.rooted, some_is top_context c)

-- each portal is as it was
pub portals_by : (ps : List OpenPortal) (ls ms : List LevelState) (t u : Contexts) (x y : OwnerTree) (a b : ℕ) → ((p : OpenPortal) → IsPortal p ls t x a → IsPortal p ms u y b) → ArePortals ps ls t x a → ArePortals ps ms u y b
portals_by ps ls ms t u x y a b each h = search (All-weaker (λ p. IsPortal p ls t x a) (λ p. IsPortal p ms u y b) each ps h.each)

-- What holds of portals where contexts change: each place is as it was, and of its row is left what was.
pub portals_moved : (ps : List OpenPortal) (levels : List LevelState) (t u : Contexts) (x : OwnerTree) (a b : ℕ) → ((n : ℕ) (expr : Option ℕ) → IsPlace n expr t a → IsPlace n expr u b) → ArePortals ps levels t x a → ArePortals ps levels u x b
portals_moved ps levels t u x a b stay h =
    portals_by ps levels levels t u x x a b (λ p i. record { place = λ n e. stay n p.expr (i.place n e); made = i.made; owner = i.owner; stage = i.stage }) h

pub place_same : (n : ℕ) (expr : Option ℕ) (t u : Contexts) (current : ℕ) → IsSame n t u → IsRow expr (children n u) → IsPlace n expr t current → IsPlace n expr u current
place_same n expr t u current s row h = search (s.parent ∙ h.parent)

-- rows behind changes elsewhere
module _ (t : Contexts) (once : Once t) (n : ℕ) (expr : Option ℕ) (current : ℕ) (h : IsPlace n expr t current) where
  pub row_changed : (k : ℕ) (f : Context → Context) → ((c : Context) → (f c).protected ≡ c.protected) → IsRow expr (children n (changed k f t))
  row_changed k f keeps = grind (arith, nat_tests, children_changed n k f t)

  pub row_left : (k : ℕ) → n ≢ k → has n (children k t) ≡ false → ((e : ℕ) → expr ≡ Some e → e ≢ k) → IsRow expr (children n (removed k t))
  row_left k ne out other = grind (arith, nat_tests, children_left n k t once ne out)

  pub row_emptied : (k : ℕ) → n ≢ k → has n (children k t) ≡ false → IsRow expr (children n (with_children k Empty t))
  row_emptied k ne out = grind (arith, nat_tests, children_emptied n k t once ne out)

  pub row_put : (q m : ℕ) (a : Context) (sub : Contexts) → n ≢ q → n ≢ m → has n sub ≡ false → ((e : ℕ) → expr ≡ Some e → e ≢ q) → IsRow expr (children n (put q m a sub t))
  row_put q m a sub ne new out other = grind (arith, nat_tests, children_put_other n q m a sub t once ne new out)

-- a portal's context isn't a plan's
pub place_plans : (n : ℕ) (expr : Option ℕ) (t : Contexts) (current : ℕ) (plans : List StandingPlan) → IsPlace n expr t current → (a : ℕ) → All (λ plan. IsPlan plan t a) plans → IsApart n plans
place_plans n expr t current plans h a each = grind (arith, nat_tests, some_is portals_context cache_context)

-- portals where only contexts of plans go
pub place_spared : (x y : Besides) (a : ℕ) → Spares x y → All (λ plan. IsPlan plan x.contexts a) x.plans → (n : ℕ) (expr : Option ℕ) (current : ℕ) → IsPlace n expr x.contexts current → IsPlace n expr y.contexts current
place_spared x y a spares each n expr current h = grind (arith, nat_tests, place_plans n expr x.contexts current x.plans h a each, place_same n expr x.contexts y.contexts current)

-- another context is the current one
pub place_current : (n : ℕ) (expr : Option ℕ) (t : Contexts) (a b : ℕ) → b ≢ n → ((e : ℕ) → expr ≡ Some e → b ≢ e) → IsPlace n expr t a → IsPlace n expr t b
place_current n expr t a b ne off h = search (λ (z : expr ≡ Some b). off b z refl)

-- one of the session's own is
pub place_own : (t : Contexts) (next : ℕ) → AreContexts t next → (b : ℕ) → 1 ≤ b → b ≤ abort_context → (n : ℕ) (expr : Option ℕ) (a : ℕ) → IsPlace n expr t a → IsPlace n expr t b
place_own t next contexts b low small n expr a h =
    place_current n expr t a b (λ z. absurd (omega (arith, z, small, h.own)))
    (λ e q.
    let r : IsRowOf e n t = row_of e n t a contexts.once (subst (λ (o : Option ℕ). IsPlace n o t a) q h) in own_rows t next contexts b low small e n h.own r.parent) h

-- the context of a level is
pub place_level : (levels : List LevelState) (t : Contexts) (x : OwnerTree) → Once t → AreLevels levels t x → (b : ℕ) → IsContext b levels → (n : ℕ) (expr : Option ℕ) (a : ℕ) → IsPlace n expr t a → IsPlace n expr t b
place_level levels t x once l b i n expr a h =
    place_current n expr t a b (off_levels levels t x l b i n portals_context (omega arith) (omega arith) h.parent)
    (λ e q.
    let r : IsRowOf e n t = row_of e n t a once (subst (λ (o : Option ℕ). IsPlace n o t a) q h) in off_rows levels t x l b i e n h.own h.parent r.parent) h

-- a portal's owner where owners change and stay where they are
pub attached_by : (n number : ℕ) (ls ms : List LevelState) (x y : OwnerTree) → (has n x ≡ true → has n y ≡ true) → (parent_of n y ≡ parent_of n x) → (children n x ≡ Empty → children n y ≡ Empty) → owner_at number ms ≡ owner_at number ls → (IsOwner n ms → IsOwner n ls)
    → IsAttached n number ls x → IsAttached n number ms y
attached_by n number ls ms x y there parent lone at own h = search (there h.there, parent ∙ h.parent ∙ sym at, lone h.lone, λ (i : IsOwner n ms). h.other (own i))

-- the parent of a new context of a level is neither a portal's context nor that of one row
pub off_parent : (levels : List LevelState) (t : Contexts) (x : OwnerTree) → AreLevels levels t x → AreOuter levels → (m : ℕ) → parent_of m t ≡ Some portals_context → abort_context < m → level_parent (first_of levels) ≢ m
off_parent levels t x l o m p own = levels_up levels t x l m own p

pub row_parent_off : (levels : List LevelState) (t : Contexts) (x : OwnerTree) (next : ℕ) → AreContexts t next → AreLevels levels t x → (e c : ℕ) → abort_context < c → parent_of c t ≡ Some portals_context → parent_of e t ≡ Some c → level_parent (first_of levels) ≢ e
row_parent_off levels t x next h l e c own up p = grind (arith, nat_tests, own_rows t next h top_context, off_rows)

-- an unprotected context isn't that of one row
pub row_free : (t : Contexts) → Once t → (k : ℕ) → is_protected k t ≡ false → (n : ℕ) (expr : Option ℕ) (current : ℕ) → IsPlace n expr t current → (e : ℕ) → expr ≡ Some e → e ≢ k
row_free t once k free n expr current h e q z = grind (arith, nat_tests, row_of e n t current once, both_ways (is_protected k t) free)
