-- What the making of a plan makes of a store.
use Rattle.session_store.proofs.Words.{◌≡◌, ◌↔◌, ◌≤◌, ℕ, ◌+◌, true, false, List, [], ◌∷◌, ◌++◌, All, Option, None, Result, Ok, Err, refl, sym, ap, ◌∙◌, subst, codes, map-append, All-push, All-weaker, Space, at, has, CtxId, What, ShelfState, Contexts, created, created_events, TreeState, IsLive, SameRegions, stands_for, stands_still, plan_of, Plan, create_refusal, plan_at, plan_refusal, ResourceState, owners_of, plan_state, plans_of, contexts_of, Balances, CommonState, seen_by, StandingPlan, cache_context, Around, Scene, plan_made, Level, Portal, StoreState, levels_of, portals_of, session_of, IsPlaced, LevelLies, Lies, PortalLies, Acted, BothAlone, Keeps, Unmade}
use Rattle.any_ctx.specs.declared.any.CtxKind.TheVariants as kind
use Rattle.plan_store.specs.declared.plan.PlanError.{PlanError}
use Rattle.plan_store.specs.declared.plan.PlanError.TheVariants.{TooMany}
use Rattle.session_owners.proofs.PlanLemmas.{at_found}
use Rattle.session_store.proofs.Kept.{Goes, has_kept}
use Rattle.session_store.proofs.Owned.{keeps_owners}
use Rattle.session_store.proofs.Sums.{keeps_on}
use Rattle.std.proofs.lemmas.Bool.Decides.{nat_tests}
use Rattle.std.proofs.Common.{arith}

-- contexts and owners changed
pub both_alone : (a : StoreState) (b : TreeState) (q : ResourceState) (s t : Space) (c d : CommonState) → Keeps a s → Goes a.tree b s t → ((n : ℕ) → has n (owners_of q) ≡ true → at n q.places ≡ at n a.owners.places) → Balances a.owners q c d
    → BothAlone a (record a { tree = b; owners = q }) s t c d
unfolding session_of
both_alone a b q s t c d keeps goes stay balances = record {
  keeps = keeps_owners (record a { tree = b }) q t (keeps_on a b s t keeps goes.moves);
  moves = goes.moves;
  balances = balances;
  levels = refl;
  portals = refl;
  stays = λ id live was now. goes.stays id.number (sym (has_kept id.number a.tree s) ∙ was) (sym (has_kept id.number b t) ∙ now) ∙ live;
  owner_stays = λ id live now. stay id.number now ∙ live;
}

-- a plan that nothing refers to, and the owners with it
abbrev pub new_plan : ℕ → CtxId → ℕ × Plan
new_plan plan id = (plan, record { context = id; discarded = false; references = 0 })

abbrev pub with_plan : ℕ → CtxId → ResourceState → ResourceState
with_plan plan id owners = record owners { plans = record { standing = owners.plans.standing ++ new_plan plan id ∷ []; reserved = None } }

abbrev pub with_room : Option ℕ → ResourceState → ResourceState
with_room plan owners = record owners { plans = record owners.plans { reserved = plan } }

-- a scene by what the making of a plan changes
abbrev scene_planned : StoreState → ShelfState → CommonState → Around → Contexts → ℕ → ℕ → List StandingPlan → ℕ → Scene
scene_planned a x commons around contexts current next plans limit = record {
  session = record {
    contexts = contexts;
    current = current;
    next_context = next;
    owners = owners_of a.owners;
    next_owner = a.owners.next_owner;
    next_serial = a.owners.next_serial;
    locks = a.owners.locks;
    levels = levels_of a.levels;
    portals = portals_of a.portals;
    snapshots = a.owners.stack;
    plans = plans;
    recent = a.owners.recent;
  };
  around = record (seen_by a.owners commons around) { shelf = x; space = limit; descriptors = a.owners.descriptors };
}

planned_same : (a : StoreState) (x : ShelfState) (commons : CommonState) (around : Around) (c d : Contexts) (i j m n : ℕ) (p q : List StandingPlan) (k l : ℕ) → c ≡ d → i ≡ j → m ≡ n → p ≡ q → k ≡ l → scene_planned a x commons around c i m p k ≡ scene_planned a x commons around d j n q l
planned_same a x commons around c d i j m n p q k l e f g h u = grind (arith, nat_tests)

pub planned_acted : (a : StoreState) (b : TreeState) (q : ResourceState) (s t : Space) (plan : ℕ) (id : CtxId) (cache : ℕ) (Said : List What → Type 0) (x : ShelfState) (commons : CommonState) → t.limit ≡ s.limit → cache ≡ cache_context → id.number ≡ a.tree.next
    → stands_for b t ≡ created cache a.tree.next (codes "CachedPlan") kind.Small true (stands_for a.tree s) → b.current ≡ a.tree.current → b.next ≡ a.tree.next + 1 → q ≡ with_plan plan id a.owners → Said (created_events cache a.tree.next (codes "CachedPlan"))
    → Balances a.owners q commons commons → Acted (plan_made plan) a (record a { tree = b; owners = q }) s t x x commons commons Said
unfolding session_of
planned_acted a b q s t plan id cache Said x commons limit third number is current next made says balances =
    let plans : List StandingPlan = plans_of a.owners ++ record { number = plan; context = a.tree.next; discarded = false; references = 0 } ∷ [] in
    let same : plans ≡ plans_of (with_plan plan id a.owners) =
    ap (λ (n : ℕ). plans_of a.owners ++ record { number = plan; context = n; discarded = false; references = 0 } ∷ []) (sym number)
    ∙ sym (map-append plan_state a.owners.plans.standing (new_plan plan id ∷ [])) in
    let contexts : created cache_context a.tree.next (codes "CachedPlan") kind.Small true (stands_for a.tree s) ≡ stands_for b t =
    ap (λ (n : ℕ). created n a.tree.next (codes "CachedPlan") kind.Small true (stands_for a.tree s)) (sym third) ∙ sym is in
    subst (λ (r : ResourceState). Acted (plan_made plan) a (record a { tree = b; owners = r }) s t x x commons commons Said) (sym made)
    (record {
      leads = λ around.
          planned_same a x commons around (created cache_context a.tree.next (codes "CachedPlan") kind.Small true (stands_for a.tree s)) (stands_for b t) a.tree.current.number b.current.number (a.tree.next + 1) b.next
          plans (plans_of (with_plan plan id a.owners)) s.limit t.limit contexts (ap (λ (i : CtxId). i.number) (sym current)) (sym next) same (sym limit);
      says = grind (arith, nat_tests, a.tree.next);
      balances = subst (λ (r : ResourceState). Balances a.owners r commons commons) made balances;
    })

-- the new plan's context lies where its id says
pub planned_placed : (b : TreeState) (owners q : ResourceState) (levels : List Level) (portals : List Portal) (plan : ℕ) (id : CtxId) → q ≡ with_plan plan id owners → IsPlaced b owners levels portals → IsLive b id → IsPlaced b q levels portals
planned_placed b owners q levels portals plan id made placed live =
    let now : ResourceState = with_plan plan id owners in
    subst (λ (r : ResourceState). IsPlaced b r levels portals) (sym made)
    (record {
      current = placed.current;
      levels = All-weaker (LevelLies b owners) (LevelLies b now) (λ l lies. record { context = lies.context; owner = lies.owner }) levels placed.levels;
      plans =
          subst (All (Lies b)) (sym (map-append (λ (p : ℕ × Plan). p.1.context) owners.plans.standing (new_plan plan id ∷ [])))
          (All-push (Lies b) (contexts_of owners.plans.standing) id placed.plans (λ there. live));
      portals = All-weaker (PortalLies b owners) (PortalLies b now) (λ p lies. record { context = lies.context; expr = lies.expr; owner = lies.owner; scan = lies.scan }) portals placed.portals;
    })

pub unmade_context : (a : StoreState) (b : TreeState) (q : ResourceState) (s t : Space) (x : ShelfState) (commons : CommonState) (plan : Option ℕ) → q ≡ with_room plan a.owners → b ≡ a.tree → SameRegions s t → Unmade a (record a { tree = b; owners = q }) s t x x commons commons
unfolding session_of
unmade_context a b q s t x commons plan room same regions =
    subst (λ (r : ResourceState). Unmade a (record a { tree = b; owners = r }) s t x x commons commons) (sym room)
    (record {
      store = ap (λ (z : TreeState). record a { tree = z; owners = with_room plan a.owners }) same;
      shelf = refl;
      commons = refl;
      session = ap (λ (z : TreeState). session_of (record a { tree = z; owners = with_room plan a.owners }) t) same ∙ ap (λ (z : Contexts). record (session_of a s) { contexts = z }) (stands_still s t regions a.tree);
      limit = regions.limit;
    })

-- no plan stands of a number that the session has none of
pub is_unused : (owners : ResourceState) (plan : ℕ) → plan_at plan (plans_of owners) ≡ None → plan_of owners.plans plan ≡ None
is_unused owners plan none = grind (arith, nat_tests, owners.plans, at_found plan owners.plans.standing, owners.plans.standing)

-- where room was reserved the context alone decides
pub room_left : (r : Result (Unit {0}) PlanError) (standing left : ℕ) (contexts : Contexts) (u : Unit {0}) → r ≡ Ok u → (r ≡ Err TooMany) ↔ (1024 ≤ standing) → plan_refusal standing left contexts ≡ create_refusal left (codes "CachedPlan") kind.Small true contexts
room_left r standing left contexts u is many = grind (arith, nat_tests, many.1)
