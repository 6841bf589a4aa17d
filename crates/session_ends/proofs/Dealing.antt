-- One portal is dealt with where the deepest level ends.
use Rattle.session_ends.proofs.Base.{nat_tests, ◌≡◌, ◌≢◌, ℕ, ◌+◌, ◌-◌, ◌≤◌, Bool, true, false, Option, Some, None, List, [], ◌∷◌, ◌++◌, length, All, IfSome, zero, suc, refl, sym, ap, ◌∙◌, subst, arith, inl, inr, if◌then◌else◌, slice_get, slice_set, option_map, false_from_ne_true, length-map, map-append}
use Rattle.session_ends.proofs.Words.{Space, Empty, Once, children, has, is_above, mapped-has, CtxId, OwnerId, What, ShelfState, Contexts, is_within, TreeState, HooksFit, IsLive, stands_for, OwnerTree, has_begun, once_of, Portal, without, owners_of, CommonState, balances_none, Level, LevelState, OpenPortal, Around, Scene, portal_changed, portals_but, Ended, nothing, portal_becomes, portal_gone, where_so, executor_ended, is_ready, AreContexts, AreDifferent, AreLevels, IsAttached, IsOwner, IsPlace, IsPortal, Ending, protected_has, depth_still, but_one, changed_one, Leads, below_place, executor_goes, first_of_rest, StoreState, contexts_in, levels_of, portal_state, portals_of, scene_of, session_of, PortalLies, Acted, IsSilent, PortalsAlone, if_some, levels_long, has_kept, nowhere, acted_as, EndsSo, IsEnding, PlansMayGo, executor_at, number_in, owner_to, LevelEnd, Merges, Aborts, Goes, above_owner}
use Rattle.session_owners.specs.ResourceState as owners
use Rattle.session_rules.proofs.Ending as ending
use Rattle.session_ends.proofs.Going.{may_go}
use Rattle.session_ends.proofs.Lasts.{IsSplit, get_split, length_split, others_in, set_split, splits, without_split}
use Rattle.session_ends.proofs.Out.{is_alone, some_is}

-- the context of a portal isn't the current one, nor above it
pub place_apart : (t : Contexts) (next current n : ℕ) (expr : Option ℕ) → AreContexts t next → IsPlace n expr t current → is_within n current t ≡ false
place_apart t next current n expr h place = grind (arith, nat_tests, below_place, place.apart, place.other)

pub place_above_none : (t : Contexts) (next current n : ℕ) (expr : Option ℕ) → AreContexts t next → IsPlace n expr t current → is_above n current t ≡ false
place_above_none t next current n expr h place = below_place t next h n expr current place current (λ e q z. place.apart (q ∙ ap Some (sym z)))

-- only the portals of a store are others
pub portals_acted : (act : Scene → Ended) (a b : StoreState) (qs : List OpenPortal) (s : Space) (x : ShelfState) (c : CommonState) → PortalsAlone a b → portals_of b.portals ≡ qs
    → ((around : Around) → act (scene_of a s x c around) ≡ record { scene = record (scene_of a s x c around) { session = record (scene_of a s x c around).session { portals = qs } }; events = [] }) → Acted act a b s s x x c c IsSilent
unfolding session_of
portals_acted act a b qs s x c alone are leads =
    subst (λ (v : StoreState). Acted act a v s s x x c c IsSilent) (sym (is_alone a b alone))
    (record {
      leads = λ around. ap (λ (z : Ended). z.scene) (leads around) ∙ ap (λ (ps : List OpenPortal). record (scene_of a s x c around) { session = record (scene_of a s x c around).session { portals = ps } }) (sym are);
      says = λ around. ap (λ (z : Ended). z.events) (leads around);
      balances = balances_none a.owners c;
    })

-- A portal of a store that is in front of those that are left.
module _ (a b : StoreState) (p : Portal) (front back : List OpenPortal) (alone : PortalsAlone a b) (are : portals_of a.portals ≡ front ++ (portal_state p ∷ back)) (different : AreDifferent (front ++ (portal_state p ∷ back))) where
  split : IsSplit a.portals front (portal_state p) back
  split = splits a.portals front (portal_state p) back are

  joined : (x : Portal) → portals_of (split.before ++ (x ∷ split.behind)) ≡ front ++ (portal_state x ∷ back)
  joined x =
      map-append portal_state split.before (x ∷ split.behind)
      ∙ ap (λ (xs : List OpenPortal). xs ++ (portal_state x ∷ portals_of split.behind)) split.before_is
      ∙ ap (λ (xs : List OpenPortal). front ++ (portal_state x ∷ xs)) split.behind_is

  left_out : portals_of (split.before ++ split.behind) ≡ front ++ back
  left_out =
      map-append portal_state split.before split.behind
      ∙ ap (λ (xs : List OpenPortal). xs ++ portals_of split.behind) split.before_is
      ∙ ap (λ (xs : List OpenPortal). front ++ xs) split.behind_is

  same_name : split.this.name ≡ p.name
  same_name = ap (λ (q : OpenPortal). q.name) split.this_is

  differ : AreDifferent (portals_of split.before ++ (portal_state split.this ∷ portals_of split.behind))
  differ = subst AreDifferent (sym are ∙ ap portals_of split.is ∙ map-append portal_state split.before (split.this ∷ split.behind)) different

  others : All (λ (q : Portal). split.this.name ≢ q.name) split.before
  others = others_in split.this split.before split.behind differ

  pub gone_acted : (s : Space) (x : ShelfState) (c : CommonState) → b.portals ≡ without p.name a.portals → Acted (portal_gone p.name) a b s s x x c c IsSilent
  unfolding session_of
  gone_acted s x c is =
      let now : portals_of b.portals ≡ front ++ back =
      ap portals_of (is ∙ ap (λ (n : List ℕ). without n a.portals) (sym same_name) ∙ ap (without split.this.name) split.is ∙ without_split split.this split.before split.behind others) ∙ left_out in
      portals_acted (portal_gone p.name) a b (front ++ back) s x c alone now
      (λ around. ap (λ (ps : List OpenPortal). record { scene = record (scene_of a s x c around) { session = record (scene_of a s x c around).session { portals = ps } }; events = [] })
      (ap (portals_but p.name) are ∙ but_one (portal_state p) front back different))

  -- it has become another one
  module _ (q : Portal) (f : OpenPortal → OpenPortal) (to : f (portal_state p) ≡ portal_state q) where
    become : (s : Space) (x : ShelfState) (c : CommonState) → b.portals ≡ split.before ++ (q ∷ split.behind) → Acted (portal_becomes p.name f) a b s s x x c c IsSilent
    unfolding session_of
    become s x c is =
        portals_acted (portal_becomes p.name f) a b (front ++ (portal_state q ∷ back)) s x c alone (ap portals_of is ∙ joined q)
        (λ around. ap (λ (ps : List OpenPortal). record { scene = record (scene_of a s x c around) { session = record (scene_of a s x c around).session { portals = ps } }; events = [] })
        (ap (portal_changed p.name f) are ∙ changed_one (portal_state p) f front back different ∙ ap (λ (r : OpenPortal). front ++ (r ∷ back)) to))

  -- by its place
  placed : (left : ℕ) → length back + 1 ≡ left → length a.portals - left ≡ length split.before
  placed left long =
      let all : length a.portals ≡ length split.before + (length split.behind + 1) = ap length split.is ∙ length_split split.before split.behind split.this in
      let behind_long : length split.behind ≡ length back = sym (length-map split.behind portal_state) ∙ ap length split.behind_is in
      omega (arith, all, behind_long, long)

  pub set_acted : (q : Portal) (f : OpenPortal → OpenPortal) (left : ℕ) → f (portal_state p) ≡ portal_state q → length back + 1 ≡ left → b.portals ≡ slice_set a.portals (length a.portals - left) q
      → (s : Space) (x : ShelfState) (c : CommonState) → Acted (portal_becomes p.name f) a b s s x x c c IsSilent
  set_acted q f left to long is s x c =
      become q f to s x c
      (is ∙ ap (λ (i : ℕ). slice_set a.portals i q) (placed left long) ∙ ap (λ (ps : List Portal). slice_set ps (length split.before) q) split.is ∙ set_split split.before split.behind split.this q)

  -- it is as it was
  pub same_acted : (left : ℕ) → length back + 1 ≡ left → slice_get a.portals (length a.portals - left) ≡ Some p → b.portals ≡ slice_set a.portals (length a.portals - left) p → (s : Space) (x : ShelfState) (c : CommonState) → Acted nothing a b s s x x c c IsSilent
  unfolding session_of
  same_acted left long got is s x c =
      portals_acted nothing a b (portals_of a.portals) s x c alone
      (ap portals_of
      (is ∙ ap (λ (i : ℕ). slice_set a.portals i p) (placed left long) ∙ ap (λ (ps : List Portal). slice_set ps (length split.before) p) split.is ∙ set_split split.before split.behind split.this p)
      ∙ joined p ∙ sym are)
      (λ around. refl)

-- the portal that comes next
pub comes_next : (ps : List Portal) (front back : List OpenPortal) (left : ℕ) (p : Portal) → portals_of ps ≡ front ++ back → length back ≡ left → slice_get ps (length ps - left) ≡ Some p → (rest : List OpenPortal) × (back ≡ portal_state p ∷ rest)
comes_next ps front [] left p are long is =
    absurd (none ps (length ps - left) (omega (arith, long)) is)
  where
    none : (xs : List Portal) (n : ℕ) → length xs ≤ n → slice_get xs n ≡ Some p → ⊥
    none [] n w e = cc e
    none (x ∷ xs) zero w e = omega (arith, w)
    none (x ∷ xs) (suc n) w e = none xs n (omega (arith, w)) e
comes_next ps front (q ∷ rest) left p are long is =
    let r : IsSplit ps front q rest = splits ps front q rest are in
    let all : length ps ≡ length r.before + (length r.behind + 1) = ap length r.is ∙ length_split r.before r.behind r.this in
    let behind_long : length r.behind ≡ length rest = sym (length-map r.behind portal_state) ∙ ap length r.behind_is in
    let long' : length rest + 1 ≡ left = omega (arith, long) in
    let place : length ps - left ≡ length r.before = omega (arith, all, behind_long, long') in
    let got : slice_get ps (length ps - left) ≡ Some r.this =
    ap (slice_get ps) place ∙ ap (λ (xs : List Portal). slice_get xs (length r.before)) r.is ∙ get_split r.before r.behind r.this in
    let same : r.this ≡ p = (let e : Some r.this ≡ Some p = sym got ∙ is in cc e) in
    (rest, ap (λ (z : OpenPortal). z ∷ rest) (sym r.this_is ∙ ap portal_state same))

pub none_next : (ps : List Portal) (front back : List OpenPortal) (left : ℕ) → portals_of ps ≡ front ++ back → length back ≡ left → slice_get ps (length ps - left) ≡ None → back ≡ []
none_next ps front [] left are long is = refl
none_next ps front (q ∷ rest) left are long is =
    let r : IsSplit ps front q rest = splits ps front q rest are in
    let all : length ps ≡ length r.before + (length r.behind + 1) = ap length r.is ∙ length_split r.before r.behind r.this in
    let behind_long : length r.behind ≡ length rest = sym (length-map r.behind portal_state) ∙ ap length r.behind_is in
    let long' : length rest + 1 ≡ left = omega (arith, long) in
    let place : length ps - left ≡ length r.before = omega (arith, all, behind_long, long') in
    let got : slice_get ps (length ps - left) ≡ Some r.this =
    ap (slice_get ps) place ∙ ap (λ (xs : List Portal). slice_get xs (length r.before)) r.is ∙ get_split r.before r.behind r.this in
    absurd (let e : Some r.this ≡ None = sym got ∙ is in cc e)

-- what holds of an option's value, where it is taken
pub if_taken : {A : Type 0} (P : A → Type 0) (b : Bool) (o : Option A) → (b ≡ true → IfSome o P) → IfSome (if b then o else None) P
if_taken P x1 o h = grind (arith, nat_tests)

-- the owner of a level is there
level_owner_there : (ls : List LevelState) (t : Contexts) (x : OwnerTree) → AreLevels ls t x → (q : ℕ) → IsOwner q ls → has q x ≡ true
level_owner_there [] t x l q i = absurd i
level_owner_there (level ∷ levels) t x l q i = elim i [ inl e ↦ (l.0.owner q e).there | inr j ↦ level_owner_there levels t x l.1 q j ]

pub is_to : (end : LevelEnd) (level : LevelState) (above : List LevelState) → EndsSo end (level ∷ above) → (q : ℕ) → number_in (owner_to end) ≡ Some q → IsOwner q (level ∷ above)
is_to (Merges to) level above so q e = inr (above_owner level above so.0 q (sym so.1 ∙ e))
is_to (Aborts to) level above so q e = inl (sym so ∙ e)
is_to Goes level above so q e = absurd (cc e)

-- only the portals of a store are others: the contexts are as they were
module _ (a b : StoreState) (alone : PortalsAlone a b) where
  pub alone_hooks : (s : Space) (x : ShelfState) → HooksFit (contexts_in a s) x → HooksFit (contexts_in b s) x
  unfolding session_of
  alone_hooks s x h = subst (λ (t : TreeState). HooksFit (stands_for t s) x) (sym alone.tree) h

  pub alone_once : (s : Space) → Once (contexts_in a s) → Once (contexts_in b s)
  unfolding session_of
  alone_once s h = subst (λ (t : TreeState). Once (stands_for t s)) (sym alone.tree) h

  pub alone_live : (context : Option CtxId) → IfSome context (IsLive a.tree) → IfSome context (IsLive b.tree)
  alone_live context h = subst (λ (t : TreeState). IfSome context (IsLive t)) (sym alone.tree) h

  pub alone_above : (s : Space) (context : Option CtxId) → IfSome context (λ id. is_above id.number a.tree.current.number (contexts_in a s) ≡ false) → IfSome context (λ id. is_above id.number b.tree.current.number (contexts_in b s) ≡ false)
  unfolding session_of
  alone_above s context h = subst (λ (t : TreeState). IfSome context (λ (id : CtxId). is_above id.number t.current.number (stands_for t s) ≡ false)) (sym alone.tree) h

-- the deepest level ends, and this portal is the first of those that are left
module _ (done : LevelState → List LevelState → List LevelState) (a : StoreState) (s : Space) (x : ShelfState) (c : CommonState) (p : Portal) (rest : List OpenPortal) (e : IsEnding done a s x c (portal_state p ∷ rest)) where
  pub ending_first : IsPortal (portal_state p) (e.level ∷ e.above) (contexts_in a s) (owners_of a.owners) a.tree.current.number
  unfolding session_of
  ending_first = first_of_rest e.level e.above (done e.level e.above) (portal_state p) e.front rest (scene_of a s x c nowhere) e.ending

  pub ending_are : portals_of a.portals ≡ e.front ++ (portal_state p ∷ rest)
  unfolding session_of
  ending_are = e.ending.are

  pub ending_contexts : AreContexts (contexts_in a s) a.tree.next
  unfolding session_of
  ending_contexts = e.ending.contexts

  pub ending_hooks : HooksFit (contexts_in a s) x
  unfolding session_of
  ending_hooks = record { out = e.ending.hooks.out; words = e.ending.hooks.words }

  pub ending_once : Once (contexts_in a s)
  ending_once = let h = ending_contexts in h.once

  pub ending_plans : PlansMayGo a s x
  unfolding session_of
  ending_plans = may_go a s x ending_hooks ending_once e.ending.plans.each e.ending.plans.apart

  pub owners_once : Once (owners_of a.owners)
  unfolding session_of
  owners_once = once_of (owners_of a.owners) a.owners.next_owner a.owners.next_serial e.ending.owners.sound

  attached : (id : OwnerId) → p.owner ≡ Some id → IsAttached id.number p.created (e.level ∷ e.above) (owners_of a.owners)
  attached id f = let i = ending_first in i.owner id.number (ap number_in f)

  pub owner_there : IfSome p.owner (λ o. has o.number (owners_of a.owners) ≡ true)
  owner_there = if_some p.owner (λ id f. let k = attached id f in k.there)

  pub owner_lone : IfSome p.owner (λ o. children o.number (owners_of a.owners) ≡ Empty)
  owner_lone = if_some p.owner (λ id f. let k = attached id f in k.lone)

  place : (id : CtxId) → p.context ≡ Some id → IsPlace id.number (option_map (λ (c : CtxId). c.number) p.expr) (contexts_in a s) a.tree.current.number
  place id f = let i = ending_first in i.place id.number (ap (option_map (λ (c : CtxId). c.number)) f)

  pub context_apart : IfSome p.context (λ id. is_within id.number a.tree.current.number (contexts_in a s) ≡ false)
  context_apart = if_some p.context (λ id f. place_apart (contexts_in a s) a.tree.next a.tree.current.number id.number (option_map (λ (c : CtxId). c.number) p.expr) ending_contexts (place id f))

  pub context_above_none : IfSome p.context (λ id. is_above id.number a.tree.current.number (contexts_in a s) ≡ false)
  context_above_none = if_some p.context (λ id f. place_above_none (contexts_in a s) a.tree.next a.tree.current.number id.number (option_map (λ (c : CtxId). c.number) p.expr) ending_contexts (place id f))

  pub owner_live : PortalLies a.tree a.owners p → IfSome p.owner (owners.IsLive a.owners)
  owner_live lies = grind (arith, nat_tests, if_some, some_is, lies.owner, mapped-has, owner_there)

  pub context_live : PortalLies a.tree a.owners p → IfSome p.context (IsLive a.tree)
  unfolding session_of
  context_live lies = grind (arith, nat_tests, if_some, some_is, lies.context, has_kept, place, protected_has)

  -- it isn't the owner of a level
  pub owner_other : (to : Option OwnerId) → ((q : ℕ) → number_in to ≡ Some q → IsOwner q (e.level ∷ e.above)) → IfSome p.owner (λ o. IfSome to (λ t. t.number ≢ o.number))
  owner_other to is =
      if_some p.owner (λ id f.
      if_some to (λ t h.
      let k = attached id f in
      λ z. k.other (subst (λ (n : ℕ). IsOwner n (e.level ∷ e.above)) z (is t.number (ap number_in h)))))

  pub to_there : (to : Option OwnerId) → ((q : ℕ) → number_in to ≡ Some q → IsOwner q (e.level ∷ e.above)) → IfSome to (λ t. has t.number (owners_of a.owners) ≡ true)
  unfolding session_of
  to_there to is = if_some to (λ t h. level_owner_there (e.level ∷ e.above) (contexts_in a s) (owners_of a.owners) e.ending.all t.number (is t.number (ap number_in h)))

  pub within_active : p.created ≤ p.active
  within_active = let i = ending_first in elim i.stage [ inl l ↦ l.within | inr d ↦ d.within ]

  -- nothing of a level in which a portal is ready is released
  pub owner_unbegun : e.above ≡ [] → is_ready p.state ≡ true → IfSome p.owner (λ o. has_begun o.number (owners_of a.owners) ≡ false)
  unfolding session_of
  owner_unbegun one ready = grind (arith, nat_tests, if_some, false_from_ne_true, ending_first, depth_still)

-- only one level
pub one_level : (levels : List Level) (level : LevelState) (above : List LevelState) → levels_of levels ≡ level ∷ above → length levels ≡ 1 → above ≡ []
one_level levels level [] e one = refl
one_level levels level (l ∷ ls) e one = absurd (omega (arith, one, levels_long levels, ap length e))

-- what an act leads to, at a store
pub ending_next : (level : LevelState) (levels done : List LevelState) (front back : List OpenPortal) (z w : Scene) (b : StoreState) (t : Space) (y : ShelfState) (d : CommonState) → ending.Goes level levels done front back z w → w ≡ scene_of b t y d nowhere
    → Ending level levels done front back (scene_of b t y d nowhere)
ending_next level levels done front back z w b t y d g is = subst (Ending level levels done front back) (sym g.is ∙ is) g.ending

-- the next portals are left
pub ending_step : (done : LevelState → List LevelState → List LevelState) (act : OpenPortal → Scene → Ended) (a b : StoreState) (s t : Space) (x y : ShelfState) (c d : CommonState) (p : OpenPortal) (rest : List OpenPortal) (Said : List What → Type 0) (e : IsEnding done a s x c (p ∷ rest))
    → Leads e.level e.above (done e.level e.above) rest (scene_of a s x c nowhere) (act p (scene_of a s x c nowhere)).scene → Acted (act p) a b s t x y c d Said → b.levels ≡ a.levels → IsEnding done b t y d rest
ending_step done act a b s t x y c d p rest Said e leads acted same = record {
  level = e.level;
  above = e.above;
  are = ap levels_of same ∙ e.are;
  made = e.made;
  front = leads.front;
  ending = ending_next e.level e.above (done e.level e.above) leads.front rest (scene_of a s x c nowhere) (act p (scene_of a s x c nowhere)).scene b t y d leads.goes (acted.leads nowhere);
}

-- the executor of a portal that is ready
pub executor_is : (p : Portal) (o : Option OwnerId) (z : Scene) → o ≡ (if is_ready p.state then p.owner else None) → executor_at (number_in o) p.scan z ≡ where_so (is_ready p.state) (executor_ended (portal_state p)) z
executor_is p o z e = grind (arith, nat_tests, p.scan, p.state, p.owner)

pub executor_acted : (a b : StoreState) (s t : Space) (x y : ShelfState) (c d : CommonState) (Said : List What → Type 0) (p : Portal) (o : Option OwnerId) → o ≡ (if is_ready p.state then p.owner else None) → Acted (executor_at (number_in o) p.scan) a b s t x y c d Said
    → Acted (where_so (is_ready p.state) (executor_ended (portal_state p))) a b s t x y c d Said
executor_acted a b s t x y c d Said p o is h =
    acted_as (executor_at (number_in o) p.scan) (where_so (is_ready p.state) (executor_ended (portal_state p))) a b s t x y c d Said (λ around. executor_is p o (scene_of a s x c around) is) h

-- behind that it is still the first of those that are left
pub ending_executed : (done : LevelState → List LevelState → List LevelState) (a b : StoreState) (s t : Space) (x y : ShelfState) (c d : CommonState) (Said : List What → Type 0) (p : Portal) (rest : List OpenPortal) → IsEnding done a s x c (portal_state p ∷ rest)
    → Acted (where_so (is_ready p.state) (executor_ended (portal_state p))) a b s t x y c d Said → b.levels ≡ a.levels → IsEnding done b t y d (portal_state p ∷ rest)
ending_executed done a b s t x y c d Said p rest e acted same = record {
  level = e.level;
  above = e.above;
  are = ap levels_of same ∙ e.are;
  made = e.made;
  front = e.front;
  ending = ending_next e.level e.above (done e.level e.above) e.front (portal_state p ∷ rest) (scene_of a s x c nowhere) (where_so (is_ready p.state) (executor_ended (portal_state p)) (scene_of a s x c nowhere)).scene b t y d
      (executor_goes e.level e.above (done e.level e.above) (portal_state p) e.front rest (scene_of a s x c nowhere) e.ending) (acted.leads nowhere);
}
