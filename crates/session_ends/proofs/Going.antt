-- Contexts of plans go: what that leaves of a tree, of its space, and of what a store names.
use Rattle.session_ends.proofs.Base.{◌≡◌, ◌≢◌, ℕ, List, [], ◌∷◌, map, All, Result, OnErr, ap, All-cons, All-head, All-nil, All-tail, All-weaker, arith, nat_tests}
use Rattle.session_ends.proofs.Words.{Space, Once, has, removed, has_of_removed, CtxId, ShelfState, Contexts, gone, Did, TreeState, Agrees, HooksFit, stands_for, Plan, ResourceState, owners_of, plan_state, plans_of, AreLeft, PlansFit, contexts_of, CommonState, AreApart, IsPlan, Stands, protected_has, has_left, once_left, lone_left, StoreState, contexts_in, scene_of, session_of, IsPlaced, Lies, Keeps, Refused, StandsIn, has_kept, nowhere, OwnersGo, CanGo, HaveGone, IsSpare, PlansMayGo}
use Rattle.session_store.proofs.Kept.{Goes}

module _ (a b : TreeState) (s t : Space) (x y : ShelfState) (gone_id : CtxId) (did : Did (gone gone_id.number (stands_for a s)) a b s t x y) where
  -- another context can go as before
  pub others_go : CanGo a s x gone_id → (other : CtxId) → other.number ≢ gone_id.number → CanGo a s x other → CanGo b t y other
  others_go can other differ k = grind (arith, nat_tests, other.number, can.lone, has_left, can.once, k.there, once_left, k.live, lone_left, k.lone)

  pub have_gone : HaveGone a b s t
  have_gone = grind (arith, nat_tests, removed gone_id.number (stands_for a s), has_kept, has_of_removed)

-- contexts of plans can go where the session's contexts, hooks and plans are in order
each_spare : (t : Contexts) (current : ℕ) (x : ShelfState) → HooksFit t x → Once t → (standing : List (ℕ × Plan)) → All (λ plan. IsPlan plan t current) (map plan_state standing) → All (IsSpare t current x) (contexts_of standing)
each_spare t current x hooks once [] are = All-nil (IsSpare t current x)
each_spare t current x hooks once (plan ∷ plans) are =
    let is = All-head (λ p. IsPlan p t current) (plan_state plan) (map plan_state plans) are in
    grind (arith, nat_tests, All-cons (IsSpare t current x) plan.1.context (contexts_of plans) (record { hooks = hooks; once = once; there = protected_has plan.1.context.number t is.protected; lone = is.lone; other = is.other }) (each_spare t current x hooks once plans (All-tail (λ p. IsPlan p t current) (plan_state plan) (map plan_state plans) are)))

pub may_go : (a : StoreState) (s : Space) (x : ShelfState) → HooksFit (contexts_in a s) x → Once (contexts_in a s) → All (λ plan. IsPlan plan (contexts_in a s) a.tree.current.number) (plans_of a.owners) → AreApart (plans_of a.owners) → PlansMayGo a s x
may_go a s x hooks once are apart = record { each = each_spare (contexts_in a s) a.tree.current.number x hooks once a.owners.plans.standing are; apart = apart }

pub may_stand : (a : StoreState) (s : Space) (x : ShelfState) (commons : CommonState) → StandsIn a s x commons → PlansMayGo a s x
unfolding session_of
may_stand a s x commons stands =
    let h : Stands (scene_of a s x commons nowhere) = stands nowhere in
    may_go a s x (record { out = h.hooks.out; words = h.hooks.words }) h.contexts.once h.plans.each h.plans.apart

-- they lie where their ids say
each_can : (a : TreeState) (s : Space) (x : ShelfState) → Agrees a s → (ids : List CtxId) → All (IsSpare (stands_for a s) a.current.number x) ids → All (Lies a) ids → All (CanGo a s x) ids
each_can a s x agrees x4 are lie = grind (arith, nat_tests, All-head, a.current.number, All-cons, has_kept, All-tail)

pub plans_can : (a : StoreState) (s : Space) (x : ShelfState) → Keeps a s → PlansMayGo a s x → IsPlaced a.tree a.owners a.levels a.portals → PlansFit (CanGo a.tree s x) a.owners.plans.standing
unfolding session_of
plans_can a s x keeps may placed = record { each = each_can a.tree s x keeps.agrees (contexts_of a.owners.plans.standing) may.each placed.plans; apart = may.apart }

pub plans_fit : (a : StoreState) (s : Space) (x : ShelfState) (commons : CommonState) → Keeps a s → StandsIn a s x commons → IsPlaced a.tree a.owners a.levels a.portals → PlansFit (CanGo a.tree s x) a.owners.plans.standing
plans_fit a s x commons keeps stands placed = plans_can a s x keeps (may_stand a s x commons stands) placed

-- and can go still
pub plans_spare : (a : StoreState) (s : Space) (x : ShelfState) → PlansFit (CanGo a.tree s x) a.owners.plans.standing → PlansMayGo a s x
unfolding session_of
plans_spare a s x fit = grind (arith, nat_tests, All-weaker (CanGo a.tree s x) (IsSpare (stands_for a.tree s) a.tree.current.number x) (λ id can. record { hooks = can.hooks; once = can.once; there = can.there; lone = can.lone; other = can.other }) (contexts_of a.owners.plans.standing) fit.each, fit.apart)

-- what the store names lies where it lay
pub goes_of : (a b : TreeState) (s t : Space) → HaveGone a b s t → Goes a b s t
goes_of a b s t g = record { moves = g.moves; stays = λ n was now. g.stays n now; current = g.current }

-- an owner was released
pub go_by : (a b : ResourceState) → ((n : ℕ) → has n (owners_of b) ≡ has n (owners_of a)) → b.places ≡ a.places → AreLeft a.plans.standing b.plans.standing → OwnersGo a b
go_by a b same places left = grind (arith, nat_tests)

-- only plans changed
pub go_plans : (a b : ResourceState) → b ≡ record a { plans = b.plans } → AreLeft a.plans.standing b.plans.standing → OwnersGo a b
go_plans a b is left = go_by a b (λ n. ap (λ (q : ResourceState). has n (owners_of q)) is) (ap (λ (q : ResourceState). q.places) is) left

-- nothing changed
pub refused_still : (a : StoreState) (b : TreeState) (q : ResourceState) (s t : Space) (x y : ShelfState) (c d : CommonState) → b ≡ a.tree → q ≡ a.owners → t ≡ s → y ≡ x → d ≡ c → Refused a (record a { tree = b; owners = q }) s t x y c d
refused_still a b q s t x y c d tree owners space shelf commons = grind (arith, nat_tests)

pub err_three : {A E P Q R S : Type 0} (r : Result A E) → (P → Q → R → S) → OnErr r P → OnErr r Q → OnErr r R → OnErr r S
err_three x0 all first second third = grind (arith, nat_tests)
