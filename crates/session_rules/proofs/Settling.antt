-- What a release leaves of plans, contexts and tables: each plan counts the references that owners still hold, and one that has to go
-- is gone with its context.
use Rattle.session_rules.proofs.Base.{◌≡◌, ◌≢◌, ℕ, ◌+◌, ◌-◌, ◌≤◌, ◌<◌, Bool, true, false, Option, Some, None, List, [], ◌∷◌, ◌++◌, refl, sym, ap, ◌∙◌, subst, arith, ◌==◌, ◌&&◌, nat_lt, if◌then◌else◌, All, option_map_or, eq-eqb, eqb-true, eqb-false, ne_eqb, nat_tests}
use Rattle.session_rules.proofs.Below.{Item, Phase, BeforeLocks, Locks, AfterLocks, Once, has, children, parent_of, removed, ShelfState, Contexts, is_protected, gone, handed_in, KindTable, table_of, is_of, OwnerTree, released, IsSound, Step, Said, GivesBack, ReleasesLocks, PassesLocks, ReleasesAllLocks, release_steps, once_of, sound_released, Lock, removed_absent, Kind, table-closed}
use Rattle.session_rules.proofs.Rules.{StandingPlan, abort_context, cache_context, plan_reference, Scene, plan_at, plan_changed, plans_but, for_each, where_there, NoOne, ThePlans, TheDescriptors, TheKind, given_back, left_to, owner_released, phase_released, plan_becomes, plan_left, plan_settled, plan_stays, step_done, AreContexts, AreHooks, ArePlans, IsPlan, referred, references_of}
use Rattle.lock_local.specs.Changes as locks
use Rattle.session_rules.proofs.ContextsKept.{IsSame, contexts_level_gone, off_outside, same_removed}
use Rattle.session_rules.proofs.Lone.{children_left}
use Rattle.session_rules.proofs.Forests.{has_left}
use Rattle.session_rules.proofs.HeldItems.{given, gives, gives_phase}
use Rattle.session_rules.proofs.HooksKept.{hooks_ended}
use Rattle.session_rules.proofs.HookSums.{parts_gone}
use Rattle.session_rules.proofs.PlansKept.{Split, all_middle, all_replaced, all_without, but_is, changed_is, plans_replaced, plans_without, split}
use Rattle.session_rules.proofs.Releasing.{HasSwept, released_swept, with_owners}

-- what a release changes besides owners
pub record Besides : Type 0 where
  pub locks : List Lock
  pub recent : List ℕ
  pub kinds : List Kind
  pub plans : List StandingPlan
  pub contexts : Contexts
  pub shelf : ShelfState

abbrev pub with_besides : Besides → Scene → Scene
with_besides x scene = record {
  session = record scene.session { locks = x.locks; recent = x.recent; plans = x.plans; contexts = x.contexts };
  around = record scene.around { kinds = x.kinds; shelf = x.shelf };
}

abbrev pub besides_of : Scene → Besides
besides_of scene = record {
  locks = scene.session.locks;
  recent = scene.session.recent;
  kinds = scene.around.kinds;
  plans = scene.session.plans;
  contexts = scene.session.contexts;
  shelf = scene.around.shelf;
}

-- contexts, hooks and plans stand, where each number of a plan is referred to so often
pub record Fits (next current : ℕ) (times : ℕ → ℕ) (x : Besides) : Type 0 where
  pub contexts : AreContexts x.contexts next
  pub hooks : AreHooks x.contexts x.shelf
  pub plans : ArePlans x.plans x.contexts current times

-- a context isn't that of a plan
abbrev pub IsApart : ℕ → List StandingPlan → Type 0
IsApart m plans = All (λ plan. m ≢ plan.context) plans

-- Only contexts of plans go, and no plan comes.
pub record Spares (x y : Besides) : Type 0 where
  pub there : (m : ℕ) → IsApart m x.plans → has m x.contexts ≡ true → has m y.contexts ≡ true
  pub same : (m : ℕ) → IsApart m x.plans → is_protected m x.contexts ≡ true → IsSame m x.contexts y.contexts
  pub kids : (m : ℕ) → abort_context < m → IsApart m x.plans → children m y.contexts ≡ children m x.contexts
  pub fewer : (m : ℕ) → IsApart m x.plans → IsApart m y.plans

pub spares_same : (x y : Besides) → y.contexts ≡ x.contexts → y.plans ≡ x.plans → Spares x y
spares_same x y c p = grind (arith, nat_tests)

pub spares_both : (x y z : Besides) → Spares x y → Spares y z → Spares x z
spares_both x y z a b = grind (arith, nat_tests)

-- a scene changed in nothing but that, and what it is then fits these numbers of references
pub record Settles (times : ℕ → ℕ) (s t : Scene) : Type 0 where
  pub besides : Besides
  pub same : table_of besides.kinds ≡ table_of s.around.kinds
  pub is : t ≡ with_besides besides s
  pub fits : Fits s.session.next_context s.session.current times besides
  pub spares : Spares (besides_of s) besides

pub settles_both : (c d : ℕ → ℕ) (s t z : Scene) → Settles c s t → ((x : Besides) → t ≡ with_besides x s → Fits s.session.next_context s.session.current c x → Settles d (with_besides x s) z) → Settles d s z
settles_both c d s t z a next = grind (arith, nat_tests, spares_both)

module _ (s : Scene) (c d : ℕ → ℕ) (h : Fits s.session.next_context s.session.current c (besides_of s)) where
  -- a plan stands, with one reference less
  pub stays : (n : ℕ) (p q : StandingPlan) (w : Split n p s.session.plans) → q.number ≡ p.number → q.context ≡ p.context → (q.discarded ≡ true → 1 ≤ q.references) → d n ≡ q.references → ((m : ℕ) → n ≢ m → d m ≡ c m)
      → Settles d s (plan_stays q s).scene
  stays n p q w number context kept now others =
      let plans : List StandingPlan = plan_changed q.number (λ old. q) s.session.plans in
      let is : plans ≡ w.front ++ (q ∷ w.back) = grind (arith, nat_tests, changed_is n) in
      record {
        besides = record (besides_of s) { plans = plans };
        same = refl;
        is = refl;
        fits = grind (arith, nat_tests, plans_replaced s.session.plans s.session.contexts s.session.current c d n p q h.plans w number context kept now others);
        spares = record {
          there = λ m a u. u;
          same = λ m a prot. record { protected = prot; parent = refl };
          kids = λ m big a. refl;
          fewer = λ m a.
              subst (IsApart m) (sym is)
              (all_replaced (λ plan. m ≢ plan.context) p q w.front w.back (λ ne z. ne (z ∙ context)) (subst (IsApart m) w.is a));
        };
      }

  -- a plan goes, with its context
  pub goes : (n : ℕ) (p q : StandingPlan) (w : Split n p s.session.plans) → q.number ≡ p.number → q.context ≡ p.context → d n ≡ 0 → ((m : ℕ) → n ≢ m → d m ≡ c m) → Settles d s (plan_settled q s).scene
  goes n p q w number context none others =
      let t : Contexts = s.session.contexts in
      let k : ℕ = q.context in
      let plans : List StandingPlan = plans_but q.number s.session.plans in
      let is : plans ≡ w.front ++ w.back =
      ap (λ (k : ℕ). plans_but k s.session.plans) (number ∙ w.number) ∙ ap (plans_but n) w.is ∙ but_is n p w.front w.back w.number w.before w.behind in
      let own : IsPlan p t s.session.current = all_middle (λ x. IsPlan x t s.session.current) p w.front w.back (subst (λ (x : List StandingPlan). All (λ plan. IsPlan plan t s.session.current) x) w.is h.plans.each) in
      let out : (m : ℕ) → has m (children k t) ≡ false = λ m. ap (λ (j : ℕ). has m (children j t)) context ∙ ap (has m) own.lone in
      let other : (m : ℕ) → IsApart m s.session.plans → m ≢ k = λ m a z. all_middle (λ plan. m ≢ plan.context) p w.front w.back (subst (IsApart m) w.is a) (z ∙ context) in
      record {
        besides = record (besides_of s) { plans = plans; contexts = removed k t; shelf = handed_in (gone k t).hooks s.around.shelf };
        same = refl;
        is = refl;
        fits = grind (arith, nat_tests, contexts_level_gone t s.session.next_context h.contexts k, hooks_ended t (gone k t) s.around.shelf (parts_gone k t h.contexts.once) h.hooks, parts_gone k t h.contexts.once, plans_without s.session.plans t s.session.next_context s.session.current c d n p h.contexts h.plans w none others);
        spares = record {
          there = λ m a u. has_left m k t h.contexts.once (other m a) (out m) ∙ u;
          same = λ m a prot. same_removed t s.session.next_context h.contexts m k (other m a, out m) prot;
          kids = λ m big a.
              children_left m k t h.contexts.once (other m a) (out m)
              ∙ removed_absent k (children m t)
              (off_outside t s.session.next_context h.contexts k cache_context m (omega arith) (omega arith) big (ap (λ (j : ℕ). parent_of j t) context ∙ own.parent));
          fewer = λ m a. subst (IsApart m) (sym is) (all_without (λ plan. m ≢ plan.context) p w.front w.back (subst (IsApart m) w.is a));
        };
      }

  -- a plan is as it is given
  pub becomes : (n : ℕ) (p q : StandingPlan) → plan_at n s.session.plans ≡ Some p → q.number ≡ p.number → q.context ≡ p.context → d n ≡ q.references → ((m : ℕ) → n ≢ m → d m ≡ c m) → Settles d s (plan_becomes q s).scene
  becomes n p q there number context now others = grind (arith, nat_tests, split n p, eqb-true q.references 0, eqb-false q.references 0, goes n p q, stays n p q)

  -- a reference to a plan is given back
  pub leaves : (n : ℕ) → ((m : ℕ) → c m ≡ (if n == m then 1 else 0) + d m) → Settles d s (plan_left n s).scene
  leaves n one = go (plan_at n s.session.plans) refl
    where
      here : c n ≡ 1 + d n
      here = one n ∙ ap (λ (b : Bool). (if b then 1 else 0) + d n) (eq-eqb n n refl)

      others : (m : ℕ) → n ≢ m → d m ≡ c m
      others m ne = let z : c m ≡ 0 + d m = one m ∙ ap (λ (b : Bool). (if b then 1 else 0) + d m) (ne_eqb n m ne) in omega (arith, z)

      go : (o : Option StandingPlan) → plan_at n s.session.plans ≡ o → Settles d s (where_there o (λ plan. plan_becomes (record plan { references = plan.references - 1 })) s).scene
      go None e =
          let none : references_of n s.session.plans ≡ 0 = ap (λ (o : Option StandingPlan). option_map_or (λ plan. plan.references) o 0) e in
          absurd (omega (arith, none, h.plans.counted n, here))
      go (Some p) e =
          let have : references_of n s.session.plans ≡ p.references = ap (λ (o : Option StandingPlan). option_map_or (λ plan. plan.references) o 0) e in
          becomes n p (record p { references = p.references - 1 }) e refl refl (omega (arith, have, h.plans.counted n, here)) others

-- other tables don't matter
module _ (s : Scene) (d : ℕ → ℕ) (h : Fits s.session.next_context s.session.current d (besides_of s)) where
  pub settles_nothing : Settles d s s
  settles_nothing = record { besides = besides_of s; same = refl; is = refl; fits = h; spares = spares_same (besides_of s) (besides_of s) refl refl }

  pub settles_tables : (ls : List Lock) (recent : List ℕ) (kinds : List Kind) → table_of kinds ≡ table_of s.around.kinds
      → Settles d s (with_besides (record (besides_of s) { locks = ls; recent = recent; kinds = kinds }) s)
  settles_tables ls recent kinds same = record {
    besides = record (besides_of s) { locks = ls; recent = recent; kinds = kinds };
    same = same;
    is = refl;
    fits = record { contexts = h.contexts; hooks = h.hooks; plans = h.plans };
    spares = spares_same (besides_of s) (record (besides_of s) { locks = ls; recent = recent; kinds = kinds }) refl refl;
  }

  pub closes : (key : ℕ) → Settles d s (left_to TheDescriptors key s).scene
  closes key = grind (arith, nat_tests, settles_tables, settles_nothing)

  -- an item that isn't a reference to a plan
  pub other_left : (a b : Bool) (place key : ℕ) → Settles d s (left_to (if a then TheDescriptors else (if b then NoOne else TheKind place)) key s).scene
  other_left a b place key = grind (arith, nat_tests, closes key, settles_nothing, settles_tables, table-closed)

pub fewer : (s : Scene) (c d : ℕ → ℕ) → ((m : ℕ) → c m ≡ d m) → Fits s.session.next_context s.session.current c (besides_of s) → Fits s.session.next_context s.session.current d (besides_of s)
fewer s c d same h = grind (arith, nat_tests)

-- an item is given back
pub item_settles : (item : Item) (s : Scene) (c d : ℕ → ℕ) → ((m : ℕ) → c m ≡ (if is_of plan_reference m item then 1 else 0) + d m) → Fits s.session.next_context s.session.current c (besides_of s) → Settles d s (given_back item s).scene
item_settles item s c d one h = go (item.kind.0 == 5) one
  where
    go : (b : Bool) → ((m : ℕ) → c m ≡ (if b && (item.key == m) then 1 else 0) + d m)
        → Settles d s (left_to (if b then ThePlans else (if item.kind.0 == 8 then TheDescriptors else (if nat_lt item.kind.0 16 then NoOne else TheKind (item.kind.0 - 16)))) item.key s).scene
    go true one = leaves s c d h item.key one
    go false one = other_left s d (fewer s c d (λ m. let z = one m in omega (arith, z)) h) (item.kind.0 == 8) (nat_lt item.kind.0 16) (item.kind.0 - 16) item.key

-- a step of a release, and steps in order
pub step_settles : (step : Step) (s : Scene) (d : ℕ → ℕ) → Fits s.session.next_context s.session.current (λ m. given plan_reference m step + d m) (besides_of s) → Settles d s (step_done step s).scene
step_settles (Said event) s d h = settles_nothing s d (fewer s (λ m. 0 + d m) d (λ m. omega arith) h)
step_settles (GivesBack item) s d h = item_settles item s (λ m. (if is_of plan_reference m item then 1 else 0) + d m) d (λ m. refl) h
step_settles (ReleasesLocks owner) s d h = settles_tables s d (fewer s (λ m. 0 + d m) d (λ m. omega arith) h) (locks.released owner s.session.locks) s.session.recent s.around.kinds refl
step_settles (PassesLocks from to) s d h = settles_tables s d (fewer s (λ m. 0 + d m) d (λ m. omega arith) h) (locks.passed from to s.session.locks) s.session.recent s.around.kinds refl
step_settles (ReleasesAllLocks top) s d h = settles_tables s d (fewer s (λ m. 0 + d m) d (λ m. omega arith) h) [] s.session.recent s.around.kinds refl

pub steps_settle : (steps : List Step) (s : Scene) (d : ℕ → ℕ) → Fits s.session.next_context s.session.current (λ m. gives plan_reference m steps + d m) (besides_of s) → Settles d s (for_each step_done steps s).scene
steps_settle [] s d h = settles_nothing s d (fewer s (λ m. 0 + d m) d (λ m. omega arith) h)
steps_settle (step ∷ steps) s d h =
    let rest : ℕ → ℕ = λ m. gives plan_reference m steps + d m in
    let one : Settles rest s (step_done step s).scene =
    step_settles step s rest (fewer s (λ m. given plan_reference m step + gives plan_reference m steps + d m) (λ m. given plan_reference m step + rest m) (λ m. omega arith) h) in
    settles_both rest d s (step_done step s).scene (for_each step_done steps (step_done step s).scene).scene one
    (λ x is fits. subst (λ (z : Scene). Settles d (with_besides x s) (for_each step_done steps z).scene) (sym is) (steps_settle steps (with_besides x s) d fits))

-- one phase, by the kinds of the scene
pub record HasPhase (kinds : KindTable) (owner : ℕ) (phase : Phase) (s t : Scene) : Type 0 where
  besides : Besides
  same : table_of besides.kinds ≡ table_of s.around.kinds
  is : t ≡ with_owners (released kinds phase owner s.session.owners) (with_besides besides s)
  fits : Fits s.session.next_context s.session.current (referred (released kinds phase owner s.session.owners)) besides
  spares : Spares (besides_of s) besides

pub phase_settles : (kinds : KindTable) (commit top : Bool) (owner : ℕ) (phase : Phase) (s : Scene) → Once s.session.owners → Fits s.session.next_context s.session.current (referred s.session.owners) (besides_of s) → table_of s.around.kinds ≡ kinds
    → HasPhase kinds owner phase s (phase_released commit top owner phase s).scene
phase_settles kinds commit top owner phase s once h e = grind (arith, nat_tests, gives plan_reference, fewer s (referred s.session.owners), gives_phase plan_reference, steps_settle (release_steps (table_of s.around.kinds) phase commit top owner s.session.owners) s (referred (released (table_of s.around.kinds) phase owner s.session.owners)))

-- an owner is released
pub record HasSettled (p : ℕ) (s t : Scene) : Type 0 where
  pub besides : Besides
  pub same : table_of besides.kinds ≡ table_of s.around.kinds
  pub owners : OwnerTree
  pub swept : HasSwept (table_of s.around.kinds) p s.session.owners owners
  pub is : t ≡ with_owners owners (with_besides besides s)
  pub fits : Fits s.session.next_context s.session.current (referred owners) besides
  pub spares : Spares (besides_of s) besides

-- A release keeps plans and contexts.
pub release_settles : (commit top : Bool) (p : ℕ) (s : Scene) (next_serial : ℕ) → IsSound s.session.owners s.session.next_owner next_serial → Fits s.session.next_context s.session.current (referred s.session.owners) (besides_of s)
    → HasSettled p s (owner_released commit top p s).scene
release_settles commit top p s serial sound h =
    let kinds : KindTable = table_of s.around.kinds in
    let no : ℕ = s.session.next_owner in
    let x : OwnerTree = s.session.owners in
    let y : OwnerTree = released kinds BeforeLocks p x in
    let v : OwnerTree = released kinds Locks p y in
    let sound2 : IsSound y no serial = sound_released kinds BeforeLocks p x no serial sound in
    let sound3 : IsSound v no serial = sound_released kinds Locks p y no serial sound2 in
    let one : HasPhase kinds p BeforeLocks s (phase_released commit top p BeforeLocks s).scene = phase_settles kinds commit top p BeforeLocks s (once_of x no serial sound) h refl in
    let a : Scene = with_owners y (with_besides one.besides s) in
    let two : HasPhase kinds p Locks a (phase_released commit top p Locks a).scene = phase_settles kinds commit top p Locks a (once_of y no serial sound2) one.fits one.same in
    let b : Scene = with_owners v (with_besides two.besides a) in
    let three : HasPhase kinds p AfterLocks b (phase_released commit top p AfterLocks b).scene = phase_settles kinds commit top p AfterLocks b (once_of v no serial sound3) two.fits (two.same ∙ one.same) in
    let c : Scene = with_owners (released kinds AfterLocks p v) (with_besides three.besides b) in
    let first : (phase_released commit top p BeforeLocks s).scene ≡ a = one.is in
    let second : (phase_released commit top p Locks (phase_released commit top p BeforeLocks s).scene).scene ≡ b =
    ap (λ (z : Scene). (phase_released commit top p Locks z).scene) first ∙ two.is in
    let third : (owner_released commit top p s).scene ≡ c =
    ap (λ (z : Scene). (phase_released commit top p AfterLocks z).scene) second ∙ three.is in
    record {
      besides = three.besides;
      same = three.same ∙ two.same ∙ one.same;
      owners = c.session.owners;
      swept = record { is = released_swept kinds p s.session.owners; phases = refl };
      is = third;
      fits = three.fits;
      spares = spares_both (besides_of s) one.besides three.besides one.spares (spares_both one.besides two.besides three.besides two.spares three.spares);
    }
