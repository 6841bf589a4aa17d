-- What becomes of plans where one of them is referred to once less, or is discarded, and what their contexts are then.
use Rattle.session_owners.proofs.Base.{◌≡◌, ◌≢◌, ℕ, ◌-◌, ◌<◌, Bool, true, false, nat_eq, List, [], ◌∷◌, ◌++◌, map, append-nil, Option, Some, None, refl, sym, ap, ◌∙◌, subst, inl, inr, arith, ◌==◌, ◌&&◌, if◌then◌else◌, All, Contains, IfNone, IfSome, OnSome, is_some, not, option_map, option_map_or, AllByRecursion, IsDistinct, keys_of, lookup, set_value, remove_entry, map-append, both_ways, cases_Bool, eqb-true, eq-eqb, nat_tests, All-nil, All-cons, All-head, All-tail, All-contains, All-contains_itself, IsDistinct-head, IsDistinct-tail}
use Rattle.session_owners.proofs.Words.{CtxId, Contexts, gone, handed_in, ShelfState, Plan, StandingPlan, Scene, plan_at, plan_changed, plans_but, Ended, where_there, plan_becomes, plan_left, plan_settled, plan_stays, AreApart, Differ, IsOther, but_is, changed_is, Hosting, plan_state, AreLeft, PlansDo, PlansFit, contexts_of, plan_dropped}

-- the first entry of a number
flip : (m n : ℕ) → (m == n) ≡ nat_eq n m
flip m n = grind (arith, nat_tests)

pub at_found : (n : ℕ) (standing : List (ℕ × Plan)) → plan_at n (map plan_state standing) ≡ option_map (λ (plan : Plan). plan_state (n, plan)) (lookup (nat_eq n) standing)
at_found n [] = refl
at_found n (e ∷ es) = grind (arith, nat_tests, flip e.0 n, eqb-true n e.0, at_found n es)

pub some_state : (n : ℕ) (o : Option Plan) → is_some (option_map (λ (plan : Plan). plan_state (n, plan)) o) ≡ is_some o
some_state n x1 = grind (arith, nat_tests)

pub usable_state : (n : ℕ) (o : Option Plan)
    → option_map_or (λ (p : StandingPlan). not p.discarded) (option_map (λ (plan : Plan). plan_state (n, plan)) o) false ≡ option_map_or (λ (plan : Plan). not plan.discarded) o false
usable_state n x1 = grind (arith, nat_tests)

-- a plan that references are held to, and one that isn't discarded
pub is_referred : (o : Option Plan) → 0 < option_map_or (λ (plan : Plan). plan.references) o 0 → (kept : Plan) × (o ≡ Some kept) × (0 < kept.references)
is_referred x0 h = grind (arith, nat_tests)

pub is_kept : (o : Option Plan) → option_map_or (λ (plan : Plan). not plan.discarded) o false ≡ true → (kept : Plan) × (o ≡ Some kept) × (kept.discarded ≡ false)
is_kept x0 h = grind (arith, nat_tests)

-- of the entry, and of those before and behind it
pub record Parted (n : ℕ) (kept : Plan) (standing : List (ℕ × Plan)) : Type 0 where
  pub front : List (ℕ × Plan)
  pub back : List (ℕ × Plan)
  pub is : standing ≡ front ++ ((n, kept) ∷ back)
  pub before : All (IsOther n) (map plan_state front)
  pub behind : All (IsOther n) (map plan_state back)
  pub set : (other : Plan) → set_value (nat_eq n) standing other ≡ front ++ ((n, other) ∷ back)
  pub removed : remove_entry (nat_eq n) standing ≡ front ++ back

others : (n : ℕ) (es : List (ℕ × Plan)) → AllByRecursion (λ m. nat_eq n m ≡ false) (keys_of es) → All (IsOther n) (map plan_state es)
others n [] h = All-nil (IsOther n)
others n (e ∷ es) h = All-cons (IsOther n) (plan_state e) (map plan_state es) (λ z. both_ways (nat_eq n e.0) h.0 (eq-eqb n e.0 (sym z))) (others n es h.1)

pub parted : (n : ℕ) (standing : List (ℕ × Plan)) (kept : Plan) → IsDistinct nat_eq (keys_of standing) → lookup (nat_eq n) standing ≡ Some kept → Parted n kept standing
parted n [] kept different e = absurd (cc e)
parted n (x ∷ xs) kept different e = elim (cases_Bool (nat_eq n x.0)) [
  | inl y ↦
      let found : Some x.1 ≡ Some kept = rw y at e in
      let same : x.1 ≡ kept = cc found in
      let number : x.0 ≡ n = sym (eqb-true n x.0 y) in
      record {
        front = [];
        back = xs;
        is = ap (λ (m : ℕ). (m, x.1) ∷ xs) number ∙ ap (λ (p : Plan). (n, p) ∷ xs) same;
        before = All-nil (IsOther n);
        behind = others n xs (subst (λ (m : ℕ). AllByRecursion (λ k. nat_eq m k ≡ false) (keys_of xs)) number (IsDistinct-head nat_eq x.0 (keys_of xs) different));
        set = λ other. rw y (ap (λ (m : ℕ). (m, other) ∷ xs) number);
        removed = rw y refl;
      }
  | inr y ↦
      let w : Parted n kept xs = parted n xs kept (IsDistinct-tail nat_eq x.0 (keys_of xs) different) (rw y at e) in
      record {
        front = x ∷ w.front;
        back = w.back;
        is = ap (λ (es : List (ℕ × Plan)). x ∷ es) w.is;
        before = All-cons (IsOther n) (plan_state x) (map plan_state w.front) (λ z. both_ways (nat_eq n x.0) y (eq-eqb n x.0 (sym z))) w.before;
        behind = w.behind;
        set = λ other. rw y (ap (λ (es : List (ℕ × Plan)). x ∷ es) (w.set other));
        removed = rw y (ap (λ (es : List (ℕ × Plan)). x ∷ es) w.removed);
      }
]

-- the plans as the rules have them, where one of them changes, or goes
module _ (n : ℕ) (kept : Plan) (standing : List (ℕ × Plan)) (w : Parted n kept standing) where
  whole : map plan_state standing ≡ map plan_state w.front ++ (plan_state (n, kept) ∷ map plan_state w.back)
  whole = ap (map plan_state) w.is ∙ map-append plan_state w.front ((n, kept) ∷ w.back)

  pub states_set : (change : StandingPlan → StandingPlan) (other : Plan) → change (plan_state (n, kept)) ≡ plan_state (n, other)
      → plan_changed n change (map plan_state standing) ≡ map plan_state (set_value (nat_eq n) standing other)
  states_set change other is = grind (arith, nat_tests, changed_is n change (plan_state (n, kept)) (map plan_state w.front) (map plan_state w.back) refl w.before w.behind, map-append plan_state w.front ((n, other) ∷ w.back), whole)

  states_removed : plans_but n (map plan_state standing) ≡ map plan_state (remove_entry (nat_eq n) standing)
  states_removed = grind (arith, nat_tests, but_is n (plan_state (n, kept)) (map plan_state w.front) (map plan_state w.back) refl w.before w.behind, map-append plan_state w.front w.back, whole)

-- a scene with these plans, contexts and hooks
placed_in : List StandingPlan → Contexts → ShelfState → Scene → Scene
placed_in plans contexts shelf scene = record scene { session = record scene.session { plans = plans; contexts = contexts }; around = record scene.around { shelf = shelf } }

placed_same : (ps qs : List StandingPlan) (cs ds : Contexts) (xs ys : ShelfState) (scene : Scene) → ps ≡ qs → cs ≡ ds → xs ≡ ys → placed_in ps cs xs scene ≡ placed_in qs ds ys scene
placed_same ps qs cs ds xs ys scene e f g = rw (e, f, g) refl

-- a plan becomes what a change makes of it
module _ (n : ℕ) (kept : Plan) (old new : List (ℕ × Plan)) (w : Parted n kept old) (found : lookup (nat_eq n) old ≡ Some kept) (change : StandingPlan → StandingPlan) (number : (change (plan_state (n, kept))).number ≡ n) where
  act : Scene → Ended
  act scene = where_there (plan_at n scene.session.plans) (λ plan. plan_becomes (change plan)) scene

  becomes : (scene : Scene) → scene.session.plans ≡ map plan_state old → act scene ≡ plan_becomes (change (plan_state (n, kept))) scene
  unfolding act
  becomes scene plans = grind (arith, nat_tests, at_found n old)

  goes : (scene : Scene) → (((change (plan_state (n, kept))).discarded && ((change (plan_state (n, kept))).references == 0)) ≡ true) → plan_becomes (change (plan_state (n, kept))) scene ≡ plan_settled (change (plan_state (n, kept))) scene
  goes scene test = rw (test, plan_becomes) refl

  remains : (scene : Scene) → (((change (plan_state (n, kept))).discarded && ((change (plan_state (n, kept))).references == 0)) ≡ false) → plan_becomes (change (plan_state (n, kept))) scene ≡ plan_stays (change (plan_state (n, kept))) scene
  remains scene test = rw (test, plan_becomes) refl

  pub does_go : (h k : Hosting) → (change (plan_state (n, kept))).context ≡ kept.context.number → (((change (plan_state (n, kept))).discarded && ((change (plan_state (n, kept))).references == 0)) ≡ true) → new ≡ remove_entry (nat_eq n) old
      → k.contexts ≡ (gone kept.context.number h.contexts).contexts → k.shelf ≡ handed_in (gone kept.context.number h.contexts).hooks h.shelf
      → PlansDo (λ scene. where_there (plan_at n scene.session.plans) (λ plan. plan_becomes (change plan)) scene) (gone kept.context.number h.contexts).events old new h k
  unfolding act placed_in
  does_go h k context test is contexts shelf = record {
    leads = grind (arith, nat_tests, becomes, goes, placed_same, states_removed n kept old w);
    says = grind (arith, nat_tests, becomes, goes, append-nil, change (plan_state (n, kept)));
  }

  pub does_stay : (h : Hosting) (other : Plan) → change (plan_state (n, kept)) ≡ plan_state (n, other) → (((change (plan_state (n, kept))).discarded && ((change (plan_state (n, kept))).references == 0)) ≡ false) → new ≡ set_value (nat_eq n) old other
      → PlansDo (λ scene. where_there (plan_at n scene.session.plans) (λ plan. plan_becomes (change plan)) scene) [] old new h h
  unfolding act placed_in
  does_stay h other same test is = grind (arith, nat_tests, states_set n kept old w, becomes, remains, placed_same)

-- what the store answers is the context of a plan that has to go
pub picks : (b : Bool) (x y : CtxId) → Some x ≡ (if b then Some y else None) → (b ≡ true) × (x ≡ y)
picks x0 x y e = grind (arith, nat_tests)

pub picks_none : (b : Bool) (y : CtxId) → None ≡ (if b then Some y else None) → b ≡ false
picks_none x0 y e = grind (arith, nat_tests)

pub last_one : (b : Bool) (r : ℕ) → 0 < r → (b && ((r - 1) == 0)) ≡ (b && (r == 1))
last_one b r some = grind (arith, nat_tests)

-- what holds of each context holds of that of a plan, and of what is left
module _ (P : CtxId → Type 0) (n : ℕ) where
  pub of_plan : (standing : List (ℕ × Plan)) (kept : Plan) → lookup (nat_eq n) standing ≡ Some kept → All P (contexts_of standing) → P kept.context
  of_plan [] kept e all = absurd (cc e)
  of_plan (x ∷ xs) kept e all = elim (cases_Bool (nat_eq n x.0)) [
    | inl y ↦ let found : Some x.1 ≡ Some kept = rw y at e in let same : x.1 ≡ kept = cc found in subst (λ (p : Plan). P p.context) same (All-head P x.1.context (contexts_of xs) all)
    | inr y ↦ of_plan xs kept (rw y at e) (All-tail P x.1.context (contexts_of xs) all)
  ]

  pub of_left : (standing : List (ℕ × Plan)) → All P (contexts_of standing) → All P (contexts_of (remove_entry (nat_eq n) standing))
  of_left [] all = all
  of_left (x ∷ xs) all = grind (arith, nat_tests, x.0, All-tail P x.1.context (contexts_of xs) all, x.1.context, All-cons P x.1.context (contexts_of (remove_entry (nat_eq n) xs)) (All-head P x.1.context (contexts_of xs) all) (of_left xs (All-tail P x.1.context (contexts_of xs) all)), All-head P x.1.context (contexts_of xs) all, of_left xs (All-tail P x.1.context (contexts_of xs) all))

pub left_gone : (n : ℕ) (old new : List (ℕ × Plan)) → new ≡ remove_entry (nat_eq n) old → AreLeft old new
left_gone n old new is id here =
    let all : All (Contains (contexts_of old)) (contexts_of (remove_entry (nat_eq n) old)) = of_left (Contains (contexts_of old)) n old (All-contains_itself (contexts_of old)) in
    All-contains (Contains (contexts_of old)) (contexts_of (remove_entry (nat_eq n) old)) id all (subst (λ (es : List (ℕ × Plan)). Contains (contexts_of es) id) is here)

-- a plan that changes keeps its context
pub contexts_set : (n : ℕ) (standing : List (ℕ × Plan)) (kept other : Plan) → lookup (nat_eq n) standing ≡ Some kept → other.context ≡ kept.context → contexts_of (set_value (nat_eq n) standing other) ≡ contexts_of standing
contexts_set n [] kept other e same = absurd (cc e)
contexts_set n (x ∷ xs) kept other e same = grind (arith, nat_tests, contexts_set n xs kept other)

pub left_set : (n : ℕ) (old new : List (ℕ × Plan)) (kept other : Plan) → lookup (nat_eq n) old ≡ Some kept → other.context ≡ kept.context → new ≡ set_value (nat_eq n) old other → AreLeft old new
left_set n old new kept other found same is id here = grind (arith, nat_tests, contexts_set n old kept other found same)

-- The plans stay apart.
module _ (P : StandingPlan → Type 0) (n : ℕ) where
  states_left : (standing : List (ℕ × Plan)) → All P (map plan_state standing) → All P (map plan_state (remove_entry (nat_eq n) standing))
  states_left [] all = all
  states_left (x ∷ xs) all = grind (arith, nat_tests, x.0, All-tail P (plan_state x) (map plan_state xs) all, All-cons P (plan_state x) (map plan_state (remove_entry (nat_eq n) xs)) (All-head P (plan_state x) (map plan_state xs) all) (states_left xs (All-tail P (plan_state x) (map plan_state xs) all)), All-head P (plan_state x) (map plan_state xs) all, states_left xs (All-tail P (plan_state x) (map plan_state xs) all))

  states_changed : (standing : List (ℕ × Plan)) (kept other : Plan) → lookup (nat_eq n) standing ≡ Some kept → ((m : ℕ) → P (plan_state (m, kept)) → P (plan_state (m, other))) → All P (map plan_state standing) → All P (map plan_state (set_value (nat_eq n) standing other))
  states_changed [] kept other e so all = absurd (cc e)
  states_changed (x ∷ xs) kept other e so all = elim (cases_Bool (nat_eq n x.0)) [
    | inl y ↦
        let found : Some x.1 ≡ Some kept = rw y at e in
        let is : x.1 ≡ kept = cc found in
        let head : P (plan_state (x.0, kept)) = subst (λ (p : Plan). P (plan_state (x.0, p))) is (All-head P (plan_state x) (map plan_state xs) all) in
        rw y (All-cons P (plan_state (x.0, other)) (map plan_state xs) (so x.0 head) (All-tail P (plan_state x) (map plan_state xs) all))
    | inr y ↦
        rw y (All-cons P (plan_state x) (map plan_state (set_value (nat_eq n) xs other)) (All-head P (plan_state x) (map plan_state xs) all) (states_changed xs kept other (rw y at e) so (All-tail P (plan_state x) (map plan_state xs) all)))
  ]

  state_found : (standing : List (ℕ × Plan)) (kept : Plan) → lookup (nat_eq n) standing ≡ Some kept → All P (map plan_state standing) → (m : ℕ) × P (plan_state (m, kept))
  state_found [] kept e all = absurd (cc e)
  state_found (x ∷ xs) kept e all = elim (cases_Bool (nat_eq n x.0)) [
    | inl y ↦
        let found : Some x.1 ≡ Some kept = rw y at e in
        let is : x.1 ≡ kept = cc found in
        (x.0, subst (λ (p : Plan). P (plan_state (x.0, p))) is (All-head P (plan_state x) (map plan_state xs) all))
    | inr y ↦ state_found xs kept (rw y at e) (All-tail P (plan_state x) (map plan_state xs) all)
  ]

apart_left : (n : ℕ) (standing : List (ℕ × Plan)) → AreApart (map plan_state standing) → AreApart (map plan_state (remove_entry (nat_eq n) standing))
apart_left n [] apart = apart
apart_left n (x ∷ xs) apart = grind (arith, nat_tests, states_left (Differ (plan_state x)) n xs apart.0, apart_left n xs apart.1)

apart_changed : (n : ℕ) (standing : List (ℕ × Plan)) (kept other : Plan) → lookup (nat_eq n) standing ≡ Some kept → other.context ≡ kept.context → AreApart (map plan_state standing) → AreApart (map plan_state (set_value (nat_eq n) standing other))
apart_changed n [] kept other e same apart = absurd (cc e)
apart_changed n (x ∷ xs) kept other e same apart = grind (arith, nat_tests, states_changed (Differ (plan_state x)) n xs kept other, apart_changed n xs kept other)

-- the context of a plan went, and those of the others may still go
module _ (May Now : CtxId → Type 0) (at : CtxId) (stay : (other : CtxId) → other.number ≢ at.number → May other → Now other) where
  others_stay : (x : ℕ × Plan) (es : List (ℕ × Plan)) → x.1.context.number ≡ at.number → All (Differ (plan_state x)) (map plan_state es) → All May (contexts_of es) → All Now (contexts_of es)
  others_stay x [] e apart may = All-nil Now
  others_stay x (y ∷ ys) e apart may = grind (arith, nat_tests, All-head (Differ (plan_state x)) (plan_state y) (map plan_state ys) apart, All-cons, y.1.context, All-head May y.1.context (contexts_of ys) may, others_stay x ys e (All-tail (Differ (plan_state x)) (plan_state y) (map plan_state ys) apart) (All-tail May y.1.context (contexts_of ys) may), All-tail (Differ (plan_state x)) (plan_state y) (map plan_state ys) apart, All-tail May y.1.context (contexts_of ys) may)

  may_left : (n : ℕ) (standing : List (ℕ × Plan)) (kept : Plan) → lookup (nat_eq n) standing ≡ Some kept → kept.context.number ≡ at.number → AreApart (map plan_state standing) → All May (contexts_of standing) → All Now (contexts_of (remove_entry (nat_eq n) standing))
  may_left n [] kept e is apart may = absurd (cc e)
  may_left n (x ∷ xs) kept e is apart may = elim (cases_Bool (nat_eq n x.0)) [
    | inl y ↦
        let found : Some x.1 ≡ Some kept = rw y at e in
        let same : x.1 ≡ kept = cc found in
        rw y (others_stay x xs (ap (λ (p : Plan). p.context.number) same ∙ is) apart.0 (All-tail May x.1.context (contexts_of xs) may))
    | inr y ↦
        let w = state_found (Differ (plan_state x)) n xs kept (rw y at e) apart.0 in
        rw y (All-cons Now x.1.context (contexts_of (remove_entry (nat_eq n) xs)) (stay x.1.context (λ z. w.1.context (is ∙ sym z)) (All-head May x.1.context (contexts_of xs) may))
        (may_left n xs kept (rw y at e) is apart.1 (All-tail May x.1.context (contexts_of xs) may)))
  ]

  pub fit_gone : (n : ℕ) (old new : List (ℕ × Plan)) (kept : Plan) → lookup (nat_eq n) old ≡ Some kept → kept.context.number ≡ at.number → new ≡ remove_entry (nat_eq n) old → PlansFit May old → PlansFit Now new
  fit_gone n old new kept found is removed fit = grind (arith, nat_tests, may_left n old kept found is fit.apart fit.each, apart_left n old fit.apart)

pub fit_set : (May : CtxId → Type 0) (n : ℕ) (old new : List (ℕ × Plan)) (kept other : Plan) → lookup (nat_eq n) old ≡ Some kept → other.context ≡ kept.context → new ≡ set_value (nat_eq n) old other → PlansFit May old → PlansFit May new
fit_set May n old new kept other found same is fit = grind (arith, nat_tests, contexts_set n old kept other found same, apart_changed n old kept other found same fit.apart)

-- what is so of a plan where there is one is so of that which was found
pub in_some : (o : Option Plan) (kept : Plan) (P : Plan → Type 0) → o ≡ Some kept → IfSome o P → P kept
in_some o kept P e h = subst (λ (x : Option Plan). IfSome x P) e h

pub on_some : (o : Option CtxId) (at : CtxId) (Q : Type 0) → o ≡ Some at → OnSome o Q → Q
on_some o at Q e h = subst (λ (x : Option CtxId). OnSome x Q) e h

pub on_none : (o : Option CtxId) (Q : Type 0) → o ≡ None → IfNone o Q → Q
on_none o Q e h = subst (λ (x : Option CtxId). IfNone x Q) e h

-- a plan's reference is given back
pub leave_goes : (n : ℕ) (kept : Plan) (old new : List (ℕ × Plan)) (at : CtxId) (h k : Hosting) → IsDistinct nat_eq (keys_of old) → lookup (nat_eq n) old ≡ Some kept → 0 < kept.references
    → Some at ≡ (if kept.discarded && (kept.references == 1) then Some kept.context else None) → new ≡ remove_entry (nat_eq n) old
    → k.contexts ≡ (gone at.number h.contexts).contexts → k.shelf ≡ handed_in (gone at.number h.contexts).hooks h.shelf → PlansDo (plan_left n) (gone at.number h.contexts).events old new h k
leave_goes n kept old new at h k different found some picked is contexts shelf =
    let p = picks (kept.discarded && (kept.references == 1)) at kept.context picked in
    let number : kept.context.number ≡ at.number = ap (λ (i : CtxId). i.number) (sym p.1) in
    subst (λ (m : ℕ). PlansDo (plan_left n) (gone m h.contexts).events old new h k) number
    (does_go n kept old new (parted n old kept different found) found (λ plan. record plan { references = plan.references - 1 }) refl h k refl (last_one kept.discarded kept.references some ∙ p.0) is
    (contexts ∙ ap (λ (m : ℕ). (gone m h.contexts).contexts) (sym number)) (shelf ∙ ap (λ (m : ℕ). handed_in (gone m h.contexts).hooks h.shelf) (sym number)))

pub leave_stays : (n : ℕ) (kept : Plan) (old new : List (ℕ × Plan)) (h : Hosting) → IsDistinct nat_eq (keys_of old) → lookup (nat_eq n) old ≡ Some kept → 0 < kept.references
    → None ≡ (if kept.discarded && (kept.references == 1) then Some kept.context else None) → new ≡ set_value (nat_eq n) old (record kept { references = kept.references - 1 }) → PlansDo (plan_left n) [] old new h h
leave_stays n kept old new h different found some picked is =
    does_stay n kept old new (parted n old kept different found) found (λ plan. record plan { references = plan.references - 1 }) refl h (record kept { references = kept.references - 1 }) refl
    (last_one kept.discarded kept.references some ∙ picks_none (kept.discarded && (kept.references == 1)) kept.context picked) is

-- a plan is discarded
pub discard_goes : (n : ℕ) (kept : Plan) (old new : List (ℕ × Plan)) (at : CtxId) (h k : Hosting) → IsDistinct nat_eq (keys_of old) → lookup (nat_eq n) old ≡ Some kept
    → Some at ≡ (if kept.references == 0 then Some kept.context else None) → new ≡ remove_entry (nat_eq n) old
    → k.contexts ≡ (gone at.number h.contexts).contexts → k.shelf ≡ handed_in (gone at.number h.contexts).hooks h.shelf → PlansDo (plan_dropped n) (gone at.number h.contexts).events old new h k
discard_goes n kept old new at h k different found picked is contexts shelf =
    let p = picks (kept.references == 0) at kept.context picked in
    let number : kept.context.number ≡ at.number = ap (λ (i : CtxId). i.number) (sym p.1) in
    subst (λ (m : ℕ). PlansDo (plan_dropped n) (gone m h.contexts).events old new h k) number
    (does_go n kept old new (parted n old kept different found) found (λ plan. record plan { discarded = true }) refl h k refl p.0 is
    (contexts ∙ ap (λ (m : ℕ). (gone m h.contexts).contexts) (sym number)) (shelf ∙ ap (λ (m : ℕ). handed_in (gone m h.contexts).hooks h.shelf) (sym number)))

pub discard_stays : (n : ℕ) (kept : Plan) (old new : List (ℕ × Plan)) (h : Hosting) → IsDistinct nat_eq (keys_of old) → lookup (nat_eq n) old ≡ Some kept
    → None ≡ (if kept.references == 0 then Some kept.context else None) → new ≡ set_value (nat_eq n) old (record kept { discarded = true }) → PlansDo (plan_dropped n) [] old new h h
discard_stays n kept old new h different found picked is =
    does_stay n kept old new (parted n old kept different found) found (λ plan. record plan { discarded = true }) refl h (record kept { discarded = true }) refl (picks_none (kept.references == 0) kept.context picked) is
