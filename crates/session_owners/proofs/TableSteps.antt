-- What the tables of a session's items do in a release: the steps of the rules.
use Rattle.session_owners.proofs.Base.{nat_tests, ◌≡◌, ℕ, ◌≤◌, true, false, List, [], ◌∷◌, append-nil, refl, ap, ◌∙◌, subst, arith, zero, suc, ◌<◌, ◌==◌, ◌-◌, if◌then◌else◌, map, Contains, eqb-true, ne_eqb}
use Rattle.session_owners.proofs.Words.{total, What, Item, KindId, Kind, changed_at, closed, opened, Step, GivesBack, Lock, is_among, without, closed_file, closing_events, without_missing, Contexts, ShelfState, Plans, references, Scene, Ended, Keeper, ThePlans, TheDescriptors, TheKind, keeper_of, left_to, plan_left, step_done, extension_keeps, HostsFit, hosting_of, AreLeft, PlansDo, contexts_of, Held, Lending, TablesDo, TablesFit, lending_of, with_lending, lending_is}

-- a pin is no file, and no reference to a plan
pub pin_is_other : (kind : ℕ) → (kind == 1) ≡ true → (kind == 8) ≡ false
pin_is_other kind y = ne_eqb kind 8 (λ e. omega (arith, e, eqb-true kind 1 y))

pub pin_is_none : (kind : ℕ) → (kind == 1) ≡ true → (kind == 5) ≡ false
pin_is_none kind y = ne_eqb kind 5 (λ e. omega (arith, e, eqb-true kind 1 y))

-- one step, by what it does
one_step : (a b : Lending) (step : Step) (events : List What) → ((scene : Scene) → TablesFit a scene → step_done step scene ≡ record { scene = with_lending b scene; events = events })
    → b.held.files.descriptors ≡ a.held.files.descriptors → b.held.snapshots.stack ≡ a.held.snapshots.stack → total b.held.references ≤ total a.held.references
    → references b.held.plans ≤ references a.held.plans → AreLeft a.held.plans.standing b.held.plans.standing → map (λ k. k.limit) b.kinds ≡ map (λ k. k.limit) a.kinds
    → TablesDo a (step ∷ []) events b
one_step a b step events does descriptors stack fewer fewer_plans left limits = record {
  leads = λ scene fit. ap (λ (z : Ended). z.scene) (does scene fit);
  says = λ scene fit. append-nil (step_done step scene).events ∙ ap (λ (z : Ended). z.events) (does scene fit);
  descriptors = descriptors;
  stack = stack;
  fewer = fewer;
  fewer_plans = fewer_plans;
  left = left;
  limits = limits;
}

-- What keeps count of an item that is built in and neither a file nor a plan's reference has none.
left_still : (keeper : Keeper) (key : ℕ) (scene : Scene) → (keeper ≡ ThePlans → ⊥) → (keeper ≡ TheDescriptors → ⊥) → ((place : ℕ) → keeper ≡ TheKind place → ⊥) → left_to keeper key scene ≡ record { scene = scene; events = [] }
left_still x0 key scene no_plan no_file no_kind = grind arith

no_plan : (kind : KindId) → (kind.0 == 5) ≡ false → keeper_of kind ≡ ThePlans → ⊥
no_plan kind other = grind (arith, nat_tests, kind.0)

no_file : (kind : KindId) → (kind.0 == 8) ≡ false → keeper_of kind ≡ TheDescriptors → ⊥
no_file kind other = grind (arith, nat_tests, kind.0)

no_kind : (kind : KindId) → kind.0 < 16 → (place : ℕ) → keeper_of kind ≡ TheKind place → ⊥
no_kind kind low place = grind (arith, nat_tests, kind.0)

left_same : (a b : Plans) → b ≡ a → AreLeft a.standing b.standing
left_same a b same id here = subst (λ (p : Plans). Contains (contexts_of p.standing) id) same here

pub does_give : (a b : Held) (kinds : List Kind) (ls : List Lock) (cs : Contexts) (xs : ShelfState) (item : Item) → item.kind.0 < 16 → (item.kind.0 == 8) ≡ false → (item.kind.0 == 5) ≡ false → b.files ≡ a.files → b.snapshots.stack ≡ a.snapshots.stack → b.plans ≡ a.plans
    → total b.references ≤ total a.references → TablesDo (lending_of a kinds ls cs xs) (GivesBack item ∷ []) [] (lending_of b kinds ls cs xs)
does_give a b kinds ls cs xs item low other no_reference files stack plans fewer = grind (arith, nat_tests, one_step (lending_of a kinds ls cs xs) (lending_of b kinds ls cs xs) (GivesBack item) [], left_still (keeper_of item.kind) item.key, left_same a.plans b.plans plans)

-- what never changes of kinds
limits_kept : (kinds : List Kind) (i : ℕ) (change : Kind → Kind) → ((k : Kind) → (change k).limit ≡ k.limit) → map (λ k. k.limit) (changed_at i change kinds) ≡ map (λ k. k.limit) kinds
limits_kept [] i change same = refl
limits_kept (k ∷ ks) zero change same = ap (λ (n : ℕ). n ∷ map (λ k. k.limit) ks) (same k)
limits_kept (k ∷ ks) (suc i) change same = ap (λ (ns : List ℕ). k.limit ∷ ns) (limits_kept ks i change same)

pub limits_opened : (kinds : List Kind) (i key : ℕ) → map (λ k. k.limit) (changed_at i (opened key) kinds) ≡ map (λ k. k.limit) kinds
limits_opened kinds i key = limits_kept kinds i (opened key) (λ k. refl)

limits_closed : (kinds : List Kind) (i key : ℕ) → map (λ k. k.limit) (changed_at i (closed key) kinds) ≡ map (λ k. k.limit) kinds
limits_closed kinds i key = limits_kept kinds i (closed key) (λ k. refl)

-- An extension kind holds a key once less.
pub does_leave : (a : Held) (kinds after : List Kind) (ls : List Lock) (cs : Contexts) (xs : ShelfState) (item : Item) → 16 ≤ item.kind.0 → after ≡ changed_at (item.kind.0 - 16) (closed item.key) kinds
    → TablesDo (lending_of a kinds ls cs xs) (GivesBack item ∷ []) [] (lending_of a after ls cs xs)
does_leave a kinds after ls cs xs item high is = grind (arith, one_step (lending_of a kinds ls cs xs) (lending_of a after ls cs xs) (GivesBack item) [], extension_keeps item.kind high, limits_closed kinds (item.kind.0 - 16) item.key)

-- A file is closed.
descriptor_left : (file : ℕ) (scene : Scene) → left_to TheDescriptors file scene
    ≡ record { scene = record scene { session = record scene.session { recent = without file scene.session.recent } }; events = if is_among file scene.session.recent then What.DescriptorClosed file ∷ [] else [] }
descriptor_left file scene = grind (arith, without_missing file scene.session.recent)

is_file : (kind : KindId) → kind.0 ≡ 8 → keeper_of kind ≡ TheDescriptors
is_file kind is = ap (λ (k : ℕ). keeper_of (record { 0 = k })) is

pub does_close : (a b : Held) (kinds : List Kind) (ls : List Lock) (cs : Contexts) (xs : ShelfState) (item : Item) → item.kind.0 ≡ 8 → b ≡ record a { files = closed_file item.key a.files }
    → TablesDo (lending_of a kinds ls cs xs) (GivesBack item ∷ []) (closing_events item.key a.files) (lending_of b kinds ls cs xs)
does_close a b kinds ls cs xs item is new = grind (arith, one_step (lending_of a kinds ls cs xs) (lending_of b kinds ls cs xs) (GivesBack item) (closing_events item.key a.files), is_file item.kind is, descriptor_left item.key, left_same a.plans b.plans)

-- A reference to a plan is given back.
is_plan : (kind : KindId) → kind.0 ≡ 5 → keeper_of kind ≡ ThePlans
is_plan kind is = ap (λ (k : ℕ). keeper_of (record { 0 = k })) is

pub does_refer_less : (a b : Held) (kinds : List Kind) (ls : List Lock) (cs ds : Contexts) (xs ys : ShelfState) (item : Item) (events : List What) → item.kind.0 ≡ 5 → b ≡ record a { plans = b.plans }
    → PlansDo (plan_left item.key) events a.plans.standing b.plans.standing (hosting_of cs xs) (hosting_of ds ys) → references b.plans ≤ references a.plans → AreLeft a.plans.standing b.plans.standing
    → TablesDo (lending_of a kinds ls cs xs) (GivesBack item ∷ []) events (lending_of b kinds ls ds ys)
does_refer_less a b kinds ls cs ds xs ys item events is new does fewer left = record {
  leads = grind (arith, nat_tests, is_plan item.kind is, hosts, lending_is);
  says = grind (arith, nat_tests, append-nil, is_plan item.kind is, hosts);
  descriptors = ap (λ (h : Held). h.files.descriptors) new;
  stack = ap (λ (h : Held). h.snapshots.stack) new;
  fewer = let same : total b.references ≡ total a.references = ap (λ (h : Held). total h.references) new in omega (arith, same);
  fewer_plans = fewer;
  left = left;
  limits = refl;
}
  where
    hosts : (scene : Scene) → TablesFit (lending_of a kinds ls cs xs) scene → HostsFit (hosting_of cs xs) scene
    hosts scene fit = record { contexts = fit.contexts; shelf = fit.shelf }
