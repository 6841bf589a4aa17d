-- The steps by which the deepest level's owner takes an item and gives one back lead from a session that stands to one that stands.
use Rattle.session_rules.proofs.Base.{◌≡◌, ◌≢◌, ℕ, ◌+◌, ◌-◌, ◌<◌, ◌≤◌, ◌++◌, find, length, Bool, true, Option, Some, None, List, [], ◌∷◌, refl, sym, ap, ◌∙◌, subst, inl, arith, ◌==◌, if◌then◌else◌, option_map_or, option_and_then, eq-eqb, ne_eqb, nat_tests, All-cons, All-weaker, false, All, codes, is_none, not, length-map, All-nil, All-head, All-tail, All-push}
use Rattle.session_rules.proofs.Below.{Once, has, changed, at_some, has_changed, parent_changed, Item, KindId, Mode, Contexts, table_of, is_of, without_newest, Owner, OwnerTree, forgotten, remembered, IsSound, Empty, Error, created, is_protected, new_context, What, ReferenceClass, class_kind, Kind, changed_at, opened, KindTable, IsExtension, row, IsSoundTable, table-opened, All-without, once_of, sound_forgotten, sound_remembered, acquired, CtxKind}
use Rattle.session_rules.proofs.Rules.{LevelState, StandingPlan, buffer_pin, file_kind, first_of, level_owner, plan_reference, snapshot_reference, Scene, Moment, OfLevel, Text, changes, in_order, say, where_there, Keeper, NoOne, TheKind, given_back, keeper_of, descriptor_given, item_taken, lock_taken, remembers, taken_by, at_kind, at_owner, does, AreLevels, ArePlans, HasItems, IsItem, IsPlan, IsWorking, Stands, references_of, referred, cache_context, plan_at, unless, plan_becomes, plan_made, AreApart, Differ, IsPlace, Element, kind_from, kind_named, newest, plan_changed, owner_in, OwnerRole}
use Rattle.session_rules.proofs.Kept.{all_changed, levels_stay, no_value, held_forgotten, held_remembered, Split, all_replaced, changed_is, counted_at, plans_replaced, split, IsOther, levels_apart, plans_counted, attached_by, place_spared, portals_by, IsRowOf, own_rows, row_of, row_put, lone_changed, lone_put, Besides, Fits, IsApart, Settles, Spares, besides_of, item_settles, spares_same, with_besides, becomes, Tables, tabled, tables_of, children_put, Stay, contexts_created, has_created, is_unused, new_parent, new_protected, protected_has, stay_created, hooks_put}
use Rattle.session_rules.proofs.Ending.{begun_changed}
use Rattle.session_rules.proofs.EndsStand.{stands_tabled}
use Rattle.session_rules.proofs.StepsStand.{Works, fallible_keeps, fit_working, not_released, nothing_works, besides_step, contexts_step, still_planned, still_portals, Beside, beside_by, nothing_beside}
use Rattle.session_rules.proofs.NamesStand.{at_name}

-- The items of one owner change, and each is of a known kind; plans, their contexts and tables change with them.
pub items_step : (s : Scene) (n serial : ℕ) (f : Owner → Owner) (x : Besides) → Stands s → IsWorking s.session.levels → ((o : Owner) → (f o).begun ≡ o.begun) → ((o : Owner) → HasItems (table_of s.around.kinds) o → HasItems (table_of s.around.kinds) (f o))
    → IsSound (changed n f s.session.owners) s.session.next_owner serial → table_of x.kinds ≡ table_of s.around.kinds
    → Fits s.session.next_context s.session.current (referred (changed n f s.session.owners)) x → Spares (besides_of s) x
    → Stands (with_besides x (record s { session = record s.session { owners = changed n f s.session.owners; next_serial = serial } }))
items_step s n serial f x h working begun known sound same fits spares =
    let o : OwnerTree = s.session.owners in
    let y : OwnerTree = changed n f o in
    let t : Contexts = s.session.contexts in
    record {
      contexts = fits.contexts;
      current = spares.there s.session.current (All-weaker (λ plan. IsPlan plan t s.session.current) (λ plan. s.session.current ≢ plan.context) (λ plan i. i.other) s.session.plans h.plans.each) h.current;
      hooks = fits.hooks;
      levels =
          levels_stay s.session.levels t x.contexts o y
          (λ m i prot. spares.same m (levels_apart s.session.levels t o s.session.plans s.session.current h.levels h.plans.each m i) prot)
          (λ m i u. record { there = has_changed m n f o ∙ u; parent = parent_changed m n f o }) h.levels;
      fit = fit_working s.session.levels t x.contexts o y s.session.current s.session.current working h.fit;
      owners = grind (arith, nat_tests, has_changed, not_released s.session.levels, begun_changed, all_changed (HasItems (table_of s.around.kinds)) n f o known h.owners.items);
      kinds = subst (λ (kinds : KindTable). IsSoundTable kinds) (sym same) h.kinds;
      portals = portals_by s.session.portals s.session.levels s.session.levels t x.contexts o y s.session.current s.session.current
          (λ p i. record {
            place = λ m e. place_spared (besides_of s) x s.session.current spares h.plans.each m p.expr s.session.current (i.place m e);
            made = i.made;
            owner = λ m e. attached_by m p.created s.session.levels s.session.levels o y (λ u. has_changed m n f o ∙ u) (parent_changed m n f o) (lone_changed m n f o) refl (λ j. j) (i.owner m e);
            stage = i.stage;
          }) h.portals;
      plans = fits.plans;
      snapshots = h.snapshots;
    }

-- the numbers of an owner that is there
pub once_now : (s : Scene) → Stands s → Once s.session.owners
once_now s h = once_of s.session.owners s.session.next_owner s.session.next_serial h.owners.sound

-- An item is remembered by an owner that is there.
pub take_step : (s : Scene) (n : ℕ) (kind : KindId) (key : ℕ) (x : Besides) → Stands s → IsWorking s.session.levels → has n s.session.owners ≡ true → ((serial : ℕ) → IsItem (table_of s.around.kinds) (record { kind = kind; key = key; serial = serial }))
    → table_of x.kinds ≡ table_of s.around.kinds → Fits s.session.next_context s.session.current (referred (remembered n (record { kind = kind; key = key; serial = s.session.next_serial }) s.session.owners)) x → Spares (besides_of s) x
    → Stands (remembers n kind key (with_besides x s)).scene
take_step s n kind key x h working there is same fits spares =
    let item : Item = record { kind = kind; key = key; serial = s.session.next_serial } in
    let a = at_some n s.session.owners there in
    items_step s n (s.session.next_serial + 1) (λ owner. record owner { items = item ∷ owner.items }) x h working (λ o. refl) (λ o k. All-cons (IsItem (table_of s.around.kinds)) item o.items (is s.session.next_serial) k)
    (sound_remembered n a.0 item s.session.owners s.session.next_owner s.session.next_serial h.owners.sound a.1 refl) same fits spares

-- an item that isn't a reference to a plan
abbrev pub refers : ℕ → Item → ℕ
refers m item = if is_of plan_reference m item then 1 else 0

pub not_referred : (item : Item) (m : ℕ) → item.kind.0 ≢ 5 → refers m item ≡ 0
not_referred item m ne = rw (ne_eqb item.kind.0 5 ne) refl

pub other_taken : (s : Scene) (n : ℕ) (kind : KindId) (key : ℕ) → Stands s → has n s.session.owners ≡ true → kind.0 ≢ 5
    → ArePlans s.session.plans s.session.contexts s.session.current (referred (remembered n (record { kind = kind; key = key; serial = s.session.next_serial }) s.session.owners))
other_taken s n kind key h there ne =
    let item : Item = record { kind = kind; key = key; serial = s.session.next_serial } in
    let o : OwnerTree = s.session.owners in
    let a = at_some n o there in
    plans_counted s.session.plans s.session.contexts s.session.current (referred o) (referred (remembered n item o))
    (λ m. omega (arith, held_remembered plan_reference m n item a.0 o (once_now s h) a.1, not_referred item m ne)) h.plans

-- It takes one that isn't a reference to a plan, and tables change.
pub other_step : (s : Scene) (n : ℕ) (kind : KindId) (key : ℕ) (x : Tables) → Stands s → IsWorking s.session.levels → has n s.session.owners ≡ true → kind.0 ≢ 5
    → ((serial : ℕ) → IsItem (table_of s.around.kinds) (record { kind = kind; key = key; serial = serial })) → table_of x.kinds ≡ table_of s.around.kinds → Stands (remembers n kind key (tabled x s)).scene
other_step s n kind key x h working there ne is same =
    let y : Besides = record (besides_of s) { locks = x.locks; recent = x.recent; kinds = x.kinds } in
    take_step s n kind key y h working there is same (record { contexts = h.contexts; hooks = h.hooks; plans = other_taken s n kind key h there ne }) (spares_same (besides_of s) y refl refl)

-- It takes a reference to a plan that stands.
pub plan_step : (s : Scene) (n key : ℕ) (p : StandingPlan) → Stands s → IsWorking s.session.levels → has n s.session.owners ≡ true → plan_at key s.session.plans ≡ Some p
    → Stands (item_taken n plan_reference key s).scene
plan_step s n key p h working there stands =
    let item : Item = record { kind = plan_reference; key = key; serial = s.session.next_serial } in
    let o : OwnerTree = s.session.owners in
    let a = at_some n o there in
    let now : OwnerTree = remembered n item o in
    let change : StandingPlan → StandingPlan = λ plan. record plan { references = plan.references + 1 } in
    let w : Split key p s.session.plans = split key p s.session.plans h.plans.apart stands in
    let plans : List StandingPlan = plan_changed key change s.session.plans in
    let is : plans ≡ w.front ++ (change p ∷ w.back) = ap (plan_changed key change) w.is ∙ changed_is key change p w.front w.back w.number w.before w.behind in
    let more : (m : ℕ) → referred now m ≡ referred o m + (if key == m then 1 else 0) = λ m. held_remembered plan_reference m n item a.0 o (once_now s h) a.1 in
    let have : referred o key ≡ p.references =
    sym (h.plans.counted key) ∙ ap (references_of key) w.is ∙ counted_at key p w.front w.back w.number w.before in
    let one : referred now key ≡ referred o key + 1 = more key ∙ ap (λ (b : Bool). referred o key + (if b then 1 else 0)) (eq-eqb key key refl) in
    let others : (m : ℕ) → key ≢ m → referred now m ≡ referred o m = λ m ne. more m ∙ ap (λ (b : Bool). referred o m + (if b then 1 else 0)) (ne_eqb key m ne) ∙ omega arith in
    let x : Besides = record (besides_of s) { plans = plans } in
    take_step s n plan_reference key x h working there
    (λ serial. record { kind = inl (record { from = omega arith; to = omega arith }); buffer = λ e. absurd (omega (arith, e)) })
    refl
    (record {
      contexts = h.contexts;
      hooks = h.hooks;
      plans = subst (λ (ps : List StandingPlan). ArePlans ps s.session.contexts s.session.current (referred now)) (sym is)
          (plans_replaced s.session.plans s.session.contexts s.session.current (referred o) (referred now) key p (change p) h.plans w refl refl (λ _. omega arith) (omega (arith, one, have)) others);
    })
    (record {
      there = λ m a u. u;
      same = λ m a prot. record { protected = prot; parent = refl };
      kids = λ m big a. refl;
      fewer = λ m a. subst (IsApart m) (sym is) (all_replaced (λ plan. m ≢ plan.context) p (change p) w.front w.back (λ ne. ne) (subst (IsApart m) w.is a));
    })

-- It gives its newest item of a kind and key back.
pub give_step : (s : Scene) (n : ℕ) (kind : KindId) (key : ℕ) → Stands s → IsWorking s.session.levels → has n s.session.owners ≡ true → (o : Option Item) → newest n kind key s.session ≡ o
    → Works s (where_there o
    (λ item. in_order (changes (λ session. record session { owners = forgotten n kind key session.owners }) ∷ say (What.Release item n) ∷ given_back item ∷ [])) s).scene
give_step s n kind key h working there None e = nothing_works s h
give_step s n kind key h working there (Some item) e =
    let o : OwnerTree = s.session.owners in
    let y : OwnerTree = forgotten n kind key o in
    let a = at_some n o there in
    let t : Scene = record s { session = record s.session { owners = y } } in
    let found : find (is_of kind key) a.0.items ≡ Some item = ap (λ (z : Option Owner). find (is_of kind key) (option_map_or (λ owner. owner.items) z [])) (sym a.1) ∙ e in
    let one : (m : ℕ) → referred o m ≡ (if is_of plan_reference m item then 1 else 0) + referred y m = λ m. omega (arith, held_forgotten plan_reference m n kind key item a.0 o (once_now s h) a.1 found) in
    let fits : Fits s.session.next_context s.session.current (referred o) (besides_of t) = record { contexts = h.contexts; hooks = h.hooks; plans = h.plans } in
    let g : Settles (referred y) t (given_back item t).scene = item_settles item t (referred o) (referred y) one fits in
    let now : Stands (with_besides g.besides t) =
    items_step s n s.session.next_serial (λ owner. record owner { items = without_newest (is_of kind key) owner.items }) g.besides h working (λ o. refl) (λ o k. All-without (IsItem (table_of s.around.kinds)) (is_of kind key) o.items k)
    (sound_forgotten n a.0 (is_of kind key) s.session.owners s.session.next_owner s.session.next_serial h.owners.sound a.1) g.same g.fits g.spares in
    subst (Works s) (sym g.is) (record { stands = now; levels = refl; at_rest = λ r. r })

-- the owner of the deepest level is there
pub owner_there : (levels : List LevelState) (t : Contexts) (x : OwnerTree) (n : ℕ) → AreLevels levels t x → option_and_then (λ (level : LevelState). level.owner) (first_of levels) ≡ Some n → has n x ≡ true
owner_there [] t x n l e = absurd (no_value None n refl e)
owner_there (level ∷ levels) t x n l e = (l.0.owner n e).there

-- a reference is an item of a known kind that nothing but owners keeps count of
pub class_unkept : (class : ReferenceClass) → keeper_of (class_kind class) ≡ NoOne
class_unkept class = grind (arith, nat_tests)

pub class_other : (class : ReferenceClass) → (class_kind class).0 ≢ 5
class_other class = grind (arith, nat_tests)

pub class_item : (kinds : KindTable) (class : ReferenceClass) (key serial : ℕ) → IsItem kinds (record { kind = class_kind class; key = key; serial = serial })
class_item kinds class key serial = grind (arith, nat_tests)

-- so are a registered snapshot and a file
pub snapshot_item : (kinds : KindTable) (snapshot serial : ℕ) → IsItem kinds (record { kind = snapshot_reference; key = snapshot; serial = serial })
snapshot_item kinds snapshot serial = record { kind = inl (record { from = omega arith; to = omega arith }); buffer = λ e. absurd (omega (arith, e)) }

pub file_item : (kinds : KindTable) (file serial : ℕ) → IsItem kinds (record { kind = file_kind; key = file; serial = serial })
file_item kinds file serial = record { kind = inl (record { from = omega arith; to = omega arith }); buffer = λ e. absurd (omega (arith, e)) }

-- the kind of a name is one of the extension kinds
pub kind_from_is : (n : ℕ) (name : Text) (kinds : List Kind) (kind : KindId) → kind_from n name kinds ≡ Some kind → (n ≤ kind.0) × (kind.0 < n + length kinds)
kind_from_is n name [] kind e = absurd (cc e)
kind_from_is n name (k ∷ ks) kind e = grind (arith, nat_tests, kind_from_is (n + 1) name ks kind)

pub named_extension : (name : Text) (kinds : List Kind) (kind : KindId) → kind_named name kinds ≡ Some kind → IsExtension (table_of kinds) kind
named_extension name kinds kind e =
    let is = kind_from_is 16 name kinds kind e in
    record {
      from = is.0;
      named = omega (arith, length-map kinds (λ (k : Kind). k.name));
      placed = omega (arith, length-map kinds (λ (k : Kind). row k.phase k.priority));
    }

-- an extension kind keeps its own keys
pub extension_keeps : (kind : KindId) → 16 ≤ kind.0 → keeper_of kind ≡ TheKind (kind.0 - 16)
extension_keeps kind high = grind (arith, nat_tests)

-- Each element on items of the deepest level's owner.
module _ (w : Option ℕ) (moment : Moment) (h : Stands moment.scene) (working : IsWorking moment.scene.session.levels) where
  pub there : (n : ℕ) → level_owner moment.scene.session ≡ Some n → has n moment.scene.session.owners ≡ true
  there n e = owner_there moment.scene.session.levels moment.scene.session.contexts moment.scene.session.owners n h.levels e

  -- an item that nothing but owners keeps count of, and a lock
  module _ (role : OwnerRole) (held : (n : ℕ) → owner_in role moment.scene.session ≡ Some n → has n moment.scene.session.owners ≡ true) where
    pub take_beside : (kind : KindId) (key : ℕ) → keeper_of kind ≡ NoOne → kind.0 ≢ 5 → ((serial : ℕ) → IsItem (table_of moment.scene.around.kinds) (record { kind = kind; key = key; serial = serial }))
        → Beside moment.scene (does w (Element.Take role kind key) moment).moment.scene
    unfolding does
    take_beside kind key unkept ne is =
        fallible_keeps (Beside moment.scene) w moment _ (at_owner role (λ owner. item_taken owner kind key)) (nothing_beside moment.scene h)
        (λ _. at_name (Beside moment.scene) (owner_in role moment.scene.session) (λ owner. item_taken owner kind key) moment.scene (nothing_beside moment.scene h)
        (λ n e. subst (Beside moment.scene) (sym (ap (λ (k : Keeper). (in_order (taken_by k key ∷ remembers n kind key ∷ []) moment.scene).scene) unkept))
        (beside_by moment.scene _ refl refl (other_step moment.scene n kind key (tables_of moment.scene) h working (held n e) ne is refl))))

    pub lock_beside : (object : ℕ) (mode : Mode) → Beside moment.scene (does w (Element.TakeLock role object mode) moment).moment.scene
    unfolding does
    lock_beside object mode =
        fallible_keeps (Beside moment.scene) w moment _ (at_owner role (lock_taken object mode)) (nothing_beside moment.scene h)
        (λ _. at_name (Beside moment.scene) (owner_in role moment.scene.session) (lock_taken object mode) moment.scene (nothing_beside moment.scene h)
        (λ n e. beside_by moment.scene _ refl refl (stands_tabled (record (tables_of moment.scene) { locks = acquired n object mode moment.scene.session.locks }) moment.scene refl h)))

  pub take_works : (kind : KindId) (key : ℕ) → keeper_of kind ≡ NoOne → kind.0 ≢ 5 → ((serial : ℕ) → IsItem (table_of moment.scene.around.kinds) (record { kind = kind; key = key; serial = serial }))
      → Works moment.scene (does w (Element.Take OfLevel kind key) moment).moment.scene
  take_works kind key unkept ne is = (take_beside OfLevel there kind key unkept ne is).works

  pub pin_works : (key : ℕ) → key < 1024 → Works moment.scene (does w (Element.Take OfLevel buffer_pin key) moment).moment.scene
  pin_works key small = take_works buffer_pin key refl (λ z. absurd (omega (arith, z))) (λ serial. record { kind = inl (record { from = omega arith; to = omega arith }); buffer = λ _. small })

  -- the owner takes a reference to a plan that stands
  pub take_plan_works : (key : ℕ) (p : StandingPlan) → plan_at key moment.scene.session.plans ≡ Some p → Works moment.scene (does w (Element.Take OfLevel plan_reference key) moment).moment.scene
  unfolding does
  take_plan_works key p stands =
      fallible_keeps (Works moment.scene) w moment _ (at_owner OfLevel (λ owner. item_taken owner plan_reference key)) (nothing_works moment.scene h)
      (λ _. at_name (Works moment.scene) (level_owner moment.scene.session) (λ owner. item_taken owner plan_reference key) moment.scene (nothing_works moment.scene h)
      (λ n e. record { stands = plan_step moment.scene n key p h working (there n e) stands; levels = refl; at_rest = λ r. r }))

  -- a file gets a descriptor
  pub touch_works : (file : ℕ) → Works moment.scene (does w (Element.Touch file) moment).moment.scene
  unfolding does
  touch_works file = grind (arith, nat_tests, fallible_keeps, nothing_works, stands_tabled)

  -- the owner takes a file
  pub file_works : (file : ℕ) → Works moment.scene (does w (Element.Take OfLevel file_kind file) moment).moment.scene
  unfolding does
  file_works file =
      let x : Tables = tables_of (descriptor_given file moment.scene).scene in
      fallible_keeps (Works moment.scene) w moment _ (at_owner OfLevel (λ owner. item_taken owner file_kind file)) (nothing_works moment.scene h)
      (λ _. at_name (Works moment.scene) (level_owner moment.scene.session) (λ owner. item_taken owner file_kind file) moment.scene (nothing_works moment.scene h)
      (λ n e. record { stands = other_step moment.scene n file_kind file x h working (there n e) (λ z. absurd (omega (arith, z))) (file_item (table_of moment.scene.around.kinds) file) refl; levels = refl; at_rest = λ r. r }))

  pub give_back_works : (kind : KindId) (key : ℕ) → Works moment.scene (does w (Element.GiveBack kind key) moment).moment.scene
  unfolding does
  give_back_works kind key = grind (arith, nat_tests, at_name, nothing_works, give_step, there)

  -- the owner takes an item of an extension kind
  pub extension_works : (kind : KindId) (key n : ℕ) → IsExtension (table_of moment.scene.around.kinds) kind → level_owner moment.scene.session ≡ Some n
      → Works moment.scene (item_taken n kind key moment.scene).scene
  extension_works kind key n extension e =
      let x : Tables = record (tables_of moment.scene) { kinds = changed_at (kind.0 - 16) (opened key) moment.scene.around.kinds } in
      let same : table_of x.kinds ≡ table_of moment.scene.around.kinds = table-opened moment.scene.around.kinds (kind.0 - 16) key in
      let is : (serial : ℕ) → IsItem (table_of moment.scene.around.kinds) (record { kind = kind; key = key; serial = serial }) = grind (arith, nat_tests) in
      subst (Works moment.scene)
      (sym (ap (λ (k : Keeper). (in_order (taken_by k key ∷ remembers n kind key ∷ []) moment.scene).scene) (extension_keeps kind extension.from)))
      (record { stands = other_step moment.scene n kind key x h working (there n e) (λ z. absurd (omega (arith, z, extension.from))) is same; levels = refl; at_rest = λ r. r })

  pub take_named_works : (name : Text) (key : ℕ) → Works moment.scene (does w (Element.TakeNamed name key) moment).moment.scene
  unfolding does
  take_named_works name key =
      fallible_keeps (Works moment.scene) w moment _ (at_kind name (λ kind. at_owner OfLevel (λ owner. item_taken owner kind key))) (nothing_works moment.scene h)
      (λ _. at_name (Works moment.scene) (kind_named name moment.scene.around.kinds) (λ kind. at_owner OfLevel (λ owner. item_taken owner kind key)) moment.scene (nothing_works moment.scene h)
      (λ kind named. at_name (Works moment.scene) (level_owner moment.scene.session) (λ owner. item_taken owner kind key) moment.scene (nothing_works moment.scene h)
      (λ n e. extension_works kind key n (named_extension name moment.scene.around.kinds kind named) e)))

  -- it gives its newest item of an extension kind back
  pub give_back_named_works : (name : Text) (key : ℕ) → Works moment.scene (does w (Element.GiveBackNamed name key) moment).moment.scene
  unfolding does
  give_back_named_works name key = grind (arith, nat_tests, at_name, nothing_works, give_step, there)

  -- the owner gives a lock back
  pub unlock_works : (object : ℕ) (mode : Mode) → Works moment.scene (does w (Element.Unlock object mode) moment).moment.scene
  unfolding does
  unlock_works object mode = grind (arith, nat_tests, at_name, nothing_works, stands_tabled)

-- a plan more
pub pushed_apart : (plans : List StandingPlan) (new : StandingPlan) → All (λ plan. Differ plan new) plans → AreApart plans → AreApart (plans ++ (new ∷ []))
pushed_apart [] new d h = (All-nil (Differ new), tt)
pushed_apart (plan ∷ plans) new d h = (
  All-push (Differ plan) plans new h.0 (All-head (λ plan. Differ plan new) plan plans d),
  pushed_apart plans new (All-tail (λ plan. Differ plan new) plan plans d) h.1,
)

pub pushed_counted : (plans : List StandingPlan) (new : StandingPlan) (m : ℕ) → new.references ≡ 0 → references_of m (plans ++ (new ∷ [])) ≡ references_of m plans
pushed_counted [] new m none = grind (arith, nat_tests)
pushed_counted (plan ∷ plans) new m none = grind (arith, nat_tests, pushed_counted plans new m none)

-- no plan has a number that isn't found
pub none_found : (n : ℕ) (plans : List StandingPlan) → plan_at n plans ≡ None → All (IsOther n) plans
none_found n [] e = All-nil (IsOther n)
none_found n (plan ∷ plans) e = grind (arith, nat_tests, none_found n plans)

-- A plan of a new number is made.
pub made_step : (s : Scene) (n : ℕ) → Stands s → IsWorking s.session.levels → plan_at n s.session.plans ≡ None → Stands (plan_made n s).scene
made_step s n h working free =
    let t : Contexts = s.session.contexts in
    let next : ℕ = s.session.next_context in
    let name : Text = codes "CachedPlan" in
    let new : StandingPlan = record { number = n; context = next; discarded = false; references = 0 } in
    let guarded : is_protected cache_context t ≡ true = (h.contexts.own cache_context (omega arith) (omega arith)).protected in
    let there : has cache_context t ≡ true = protected_has cache_context t guarded in
    let u : Contexts = created cache_context next name CtxKind.Small true t in
    let stay : Stay t u = stay_created t next h.contexts cache_context name CtxKind.Small true in
    let newer : (m : ℕ) → has m t ≡ true → m ≢ next = λ m have z. omega (arith, z, h.contexts.below m have) in
    let still : ArePlans s.session.plans u s.session.current (referred s.session.owners) =
    still_planned s u h stay
    (λ m k. lone_put m cache_context next (new_context name CtxKind.Small true) Empty t (λ z. omega (arith, z, k.own)) (newer m (protected_has m t k.protected)) refl k.lone) in
    let own : IsPlan new u s.session.current = record {
      protected = new_protected t next h.contexts cache_context name CtxKind.Small there;
      parent = new_parent t next h.contexts cache_context name CtxKind.Small true there;
      own = h.contexts.room;
      lone = children_put cache_context next (new_context name CtxKind.Small true) Empty t h.contexts.once there (is_unused t next h.contexts);
      other = newer s.session.current h.current;
      kept = λ e. absurd (cc e);
    } in
    let numbers : All (IsOther n) s.session.plans = none_found n s.session.plans free in
    let differ : All (λ plan. Differ plan new) s.session.plans =
    λ k d below.
    let i = h.plans.each k d below in
    let ne = numbers k d below in
    record { number = λ z. ne (sym z); context = λ z. newer _ (protected_has _ t i.protected) (sym z) } in
    contexts_step s h working u (next + 1) s.session.current s.around.shelf (s.session.plans ++ (new ∷ []))
    (contexts_created t next h.contexts cache_context name CtxKind.Small true there (λ _. guarded))
    stay
    (has_created t next h.contexts s.session.current cache_context name CtxKind.Small true h.current)
    (hooks_put cache_context next (new_context name CtxKind.Small true) t s.around.shelf h.contexts.once refl h.hooks)
    (record {
      each = All-push (λ plan. IsPlan plan u s.session.current) s.session.plans new still.each own;
      apart = pushed_apart s.session.plans new differ still.apart;
      counted = λ m. pushed_counted s.session.plans new m refl ∙ still.counted m;
    })
    (still_portals s u h stay
    (λ m expr k. row_put t h.contexts.once m expr s.session.current k cache_context next (new_context name CtxKind.Small true) Empty (λ z. omega (arith, z, k.own)) (newer m (protected_has m t k.protected)) refl
    (λ e q z.
    let r : IsRowOf e m t = row_of e m t s.session.current h.contexts.once (subst (λ (o : Option ℕ). IsPlace m o t s.session.current) q k) in
    own_rows t next h.contexts cache_context (omega arith) (omega arith) e m k.own r.parent (sym z))))

-- A plan is discarded.
pub dropped_step : (s : Scene) (n : ℕ) (p : StandingPlan) → Stands s → IsWorking s.session.levels → plan_at n s.session.plans ≡ Some p → Works s (plan_becomes (record p { discarded = true }) s).scene
dropped_step s n p h working stands =
    let times : ℕ → ℕ = referred s.session.owners in
    let fits : Fits s.session.next_context s.session.current times (besides_of s) = record { contexts = h.contexts; hooks = h.hooks; plans = h.plans } in
    let have : references_of n s.session.plans ≡ p.references = ap (λ (o : Option StandingPlan). option_map_or (λ plan. plan.references) o 0) stands in
    let g : Settles times s (plan_becomes (record p { discarded = true }) s).scene =
    becomes s times times fits n p (record p { discarded = true }) stands refl refl (sym (h.plans.counted n) ∙ have) (λ m ne. refl) in
    subst (Works s) (sym g.is) (record { stands = besides_step s g.besides h working g.same g.fits g.spares; levels = refl; at_rest = λ r. r })

-- what the checks say
pub is_new : (o : Option StandingPlan) (error : Error) → unless (is_none o) error ≡ None → o ≡ None
is_new o error e = grind (arith, nat_tests)

pub is_standing : (o : Option StandingPlan) (error : Error) → unless (option_map_or (λ p. not p.discarded) o false) error ≡ None → (p : StandingPlan) × (o ≡ Some p)
is_standing o error e = grind (arith, nat_tests)

module _ (w : Option ℕ) (moment : Moment) (h : Stands moment.scene) (working : IsWorking moment.scene.session.levels) where
  pub make_plan_works : (n : ℕ) → plan_at n moment.scene.session.plans ≡ None → Works moment.scene (does w (Element.MakePlan n) moment).moment.scene
  unfolding does
  make_plan_works n free = grind (arith, nat_tests, fallible_keeps, nothing_works, made_step)

  pub drop_plan_works : (n : ℕ) → Works moment.scene (does w (Element.DropPlan n) moment).moment.scene
  unfolding does
  drop_plan_works n = grind (arith, nat_tests, nothing_works, dropped_step)
