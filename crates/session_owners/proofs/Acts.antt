-- The acts of a session's rules on its owners.
use Rattle.session_owners.proofs.Base.{◌≡◌, ℕ, ◌+◌, ◌-◌, ◌≤◌, Bool, false, find, Option, None, Some, List, [], ◌∷◌, ◌++◌, append-nil, length, map, reverse, take, refl, sym, ap, ◌∙◌, subst, arith, slice_index, map-append}
use Rattle.session_owners.proofs.Words.{What, Item, KindId, Phase, BeforeLocks, Locks, AfterLocks, moved, removed, Kind, changed_at, opened, table_of, is_of, OwnerTable, released, GivesBack, gone_events, made_event, release_steps, Holding, beside, beside_stays, Lock, SessionLocks, Active, kept_below, lowered, pops, Plans, Plan, StandingPlan, buffer_pin, file_kind, last_of, plan_reference, plan_changed, stack_lowered, stack_popped, snapshot_popped, Scene, Ended, and_then, changes, for_each, in_order, nothing, say, where_there, owner_made, extension_keeps, descriptor_given, item_taken, pushed_at, remembers, taken_by, Keeper, NoOne, TheKind, item_released, keeper_of, owner_gone, owner_moved, owner_released, phase_released, Files, touch_events, touched_file, OwnerTree, ResourceState, created, files_of, forgotten, items_of, locks_of, owners_of, plan_state, plans_of, remembered, CommonState, LocksBalance, pinned_beside, pinned_once, Lending, TablesDo, TablesFit, PlansDo, plan_added, with_plans, Acted, ActedOn, Hosting, HostsFit, OwnersFit, hosting_of, with_hosting, with_owners}
use Rattle.session_rules.specs.Releases.{given_back}
use Rattle.session_owners.proofs.Counts.{held_created}
use Rattle.session_owners.proofs.OwnPins.{beside_same, beside_still, pinned_remembered, pinned_same}
use Rattle.session_owners.proofs.Stack.{last_newest, take_others}

-- a scene with these owners, files, locks, active snapshots and plans, these kinds, what others have locked, and how many pin each buffer
parts_in : Scene → OwnerTree → ℕ → ℕ → List ℕ → ℕ → List Kind → List Lock → List Holding → List ℕ → List Active → List StandingPlan → Scene
parts_in scene owners next_owner next_serial recent descriptors kinds ls hs pinned stack plans = record scene {
  session = record scene.session { owners = owners; next_owner = next_owner; next_serial = next_serial; recent = recent; locks = ls; snapshots = stack; plans = plans };
  around = record scene.around { kinds = kinds; locked = hs; pinned = pinned; descriptors = descriptors };
}

owners_same : (scene : Scene) (ks js : List Kind) {o p : OwnerTree} {m n s t : ℕ} {fs gs : List ℕ} {d e : ℕ} {ls ms : List Lock} {hs is : List Holding} {us vs : List ℕ} {xs ys : List Active} {ps qs : List StandingPlan}
    → o ≡ p → m ≡ n → s ≡ t → fs ≡ gs → d ≡ e → ks ≡ js → ls ≡ ms → hs ≡ is → us ≡ vs → xs ≡ ys → ps ≡ qs → parts_in scene o m s fs d ks ls hs us xs ps ≡ parts_in scene p n t gs e js ms is vs ys qs
owners_same scene ks js f g h i j k l q u x y = rw (f, g, h, i, j, k, l, q, u, x, y) refl

pub fit_is : (a : ResourceState) (c : CommonState) (scene : Scene) → OwnersFit a c scene → scene ≡ with_owners a c scene
unfolding parts_in
fit_is a c scene fit = grind (arith, owners_same)

-- owners, files, locks, active snapshots and plans as a session's resources
abbrev pub state_of : OwnerTable → Files → SessionLocks → List Active → Plans → ResourceState
state_of table files locks stack plans = record {
  rooms = table.rooms;
  places = table.places;
  next_owner = table.next_owner;
  next_serial = table.next_serial;
  recent = files.recent;
  descriptors = files.descriptors;
  session = locks.session;
  locks = locks.locks;
  stack = stack;
  plans = plans;
}

-- no act, and one act behind another
pub acted_nothing : (a : ResourceState) (c : CommonState) (Says : List What → Type 0) → Says [] → Acted nothing a a c c Says
acted_nothing a c Says none = record { leads = fit_is a c; says = λ scene fit. none }

-- a scene that owners and files fit, with its parts
bare : ResourceState → CommonState → Scene → Scene
bare a c scene = parts_in scene (owners_of a) a.next_owner a.next_serial a.recent a.descriptors c.kinds a.locks (beside a.session c.locks) (pinned_beside (owners_of a) c.pins) a.stack (plans_of a)

is_bare : (a : ResourceState) (c : CommonState) (scene : Scene) → OwnersFit a c scene → scene ≡ bare a c scene
unfolding bare parts_in
is_bare a c scene fit = grind (arith, owners_same)

-- an act that leads so from each such scene
acted_bare : (act : Scene → Ended) (a b : ResourceState) (c d : CommonState) (Says : List What → Type 0)
    → ((scene : Scene) → (act (bare a c scene)).scene ≡ with_owners b d (bare a c scene)) → ((scene : Scene) → Says (act (bare a c scene)).events)
    → Acted act a b c d Says
acted_bare act a b c d Says leads says = record {
  leads = λ scene fit. let e = is_bare a c scene fit in ap (λ (s : Scene). (act s).scene) e ∙ leads scene ∙ ap (with_owners b d) (sym e);
  says = λ scene fit. subst (λ (s : Scene). Says (act s).events) (sym (is_bare a c scene fit)) (says scene);
}

-- the same files have a descriptor
pub record SameFiles (a b : ResourceState) : Type 0 where
  pub recent : b.recent ≡ a.recent
  pub descriptors : b.descriptors ≡ a.descriptors

-- the locks are the same, under the same number, and so are the active snapshots and the plans
pub record SameLocks (a b : ResourceState) : Type 0 where
  pub session : b.session ≡ a.session
  pub locks : b.locks ≡ a.locks
  pub stack : b.stack ≡ a.stack
  pub plans : b.plans ≡ a.plans

plans_same : (a b : ResourceState) → b.plans ≡ a.plans → plans_of a ≡ plans_of b
plans_same a b same = sym (ap (λ (p : Plans). map plan_state p.standing) same)

seen_same : (a b : ResourceState) (c d : CommonState) → SameLocks a b → d.locks ≡ c.locks → beside a.session c.locks ≡ beside b.session d.locks
seen_same a b c d same held = ap (λ (n : ℕ). beside n c.locks) (sym same.session) ∙ ap (beside b.session) (sym held)

pub acted_made : (parent : Option ℕ) (a b : ResourceState) (c : CommonState) (Says : List What → Type 0) → owners_of b ≡ created parent a.next_owner (owners_of a)
    → b.next_owner ≡ a.next_owner + 1 → b.next_serial ≡ a.next_serial → SameFiles a b → SameLocks a b → Says (made_event parent a.next_owner ∷ []) → Acted (owner_made parent) a b c c Says
unfolding bare parts_in
acted_made parent a b c Says e f g files same says =
    acted_bare (owner_made parent) a b c c Says
    (λ scene. owners_same (bare a c scene) c.kinds c.kinds
    (sym e) (sym f) (sym g) (sym files.recent) (sym files.descriptors) refl (sym same.locks) (seen_same a b c c same refl) (beside_still (owners_of a) (owners_of b) c.pins (λ buffer. ap (pinned_once buffer) e ∙ pinned_same (owners_of a) (created parent a.next_owner (owners_of a)) buffer (held_created buffer_pin buffer parent a.next_owner (owners_of a)))) (sym same.stack) (plans_same a b same.plans))
    (λ scene. says)

pub acted_taken : (n : ℕ) (kind : KindId) (key : ℕ) (a b : ResourceState) (c : CommonState) (Says : List What → Type 0) → keeper_of kind ≡ NoOne → 2 ≤ kind.0
    → owners_of b ≡ remembered n (record { kind = kind; key = key; serial = a.next_serial }) (owners_of a)
    → b.next_owner ≡ a.next_owner → b.next_serial ≡ a.next_serial + 1 → SameFiles a b → SameLocks a b
    → Says (What.Acquire (record { kind = kind; key = key; serial = a.next_serial }) n ∷ []) → Acted (item_taken n kind key) a b c c Says
unfolding bare parts_in
acted_taken n kind key a b c Says unkept from e f g files same says =
    acted_bare (item_taken n kind key) a b c c Says
    (λ scene. ap (λ (k : Keeper). (in_order (taken_by k key ∷ remembers n kind key ∷ []) (bare a c scene)).scene) unkept
    ∙ owners_same (bare a c scene) c.kinds c.kinds
    (sym e) (sym f) (sym g) (sym files.recent) (sym files.descriptors) refl (sym same.locks) (seen_same a b c c same refl) (beside_still (owners_of a) (owners_of b) c.pins (λ buffer. ap (pinned_once buffer) e ∙ pinned_remembered n (record { kind = kind; key = key; serial = a.next_serial }) (owners_of a) buffer (λ z. omega (arith, z, from)))) (sym same.stack) (plans_same a b same.plans))
    (λ scene. subst (λ (k : Keeper). Says (in_order (taken_by k key ∷ remembers n kind key ∷ []) (bare a c scene)).events) (sym unkept) says)

pub acted_pinned : (n buffer : ℕ) (a b : ResourceState) (c d : CommonState) (Says : List What → Type 0)
    → owners_of b ≡ remembered n (record { kind = record { 0 = 1 }; key = buffer; serial = a.next_serial }) (owners_of a)
    → b.next_owner ≡ a.next_owner → b.next_serial ≡ a.next_serial + 1 → SameFiles a b → SameLocks a b → d.kinds ≡ c.kinds → d.locks ≡ c.locks
    → ((q : ℕ) → slice_index d.pins q + pinned_once q (owners_of a) ≡ slice_index c.pins q + pinned_once q (owners_of b))
    → Says (What.Acquire (record { kind = record { 0 = 1 }; key = buffer; serial = a.next_serial }) n ∷ []) → Acted (item_taken n buffer_pin buffer) a b c d Says
unfolding bare parts_in
acted_pinned n buffer a b c d Says e f g files same kinds held pins says =
    acted_bare (item_taken n buffer_pin buffer) a b c d Says
    (λ scene. owners_same (bare a c scene) c.kinds d.kinds
    (sym e) (sym f) (sym g) (sym files.recent) (sym files.descriptors) (sym kinds) (sym same.locks) (seen_same a b c d same held) (beside_same (owners_of a) (owners_of b) c.pins d.pins pins) (sym same.stack) (plans_same a b same.plans))
    (λ scene. says)

-- a key of an extension kind is taken
pub acted_extension : (n : ℕ) (kind : KindId) (key : ℕ) (a b : ResourceState) (c d : CommonState) (Says : List What → Type 0) → 16 ≤ kind.0
    → owners_of b ≡ remembered n (record { kind = kind; key = key; serial = a.next_serial }) (owners_of a)
    → b.next_owner ≡ a.next_owner → b.next_serial ≡ a.next_serial + 1 → SameFiles a b → SameLocks a b → d.kinds ≡ changed_at (kind.0 - 16) (opened key) c.kinds → d.locks ≡ c.locks → d.pins ≡ c.pins
    → Says (What.Acquire (record { kind = kind; key = key; serial = a.next_serial }) n ∷ []) → Acted (item_taken n kind key) a b c d Says
unfolding bare parts_in
acted_extension n kind key a b c d Says high e f g files same kinds held counted says =
    let kept : keeper_of kind ≡ TheKind (kind.0 - 16) = extension_keeps kind high in
    acted_bare (item_taken n kind key) a b c d Says
    (λ scene. ap (λ (k : Keeper). (in_order (taken_by k key ∷ remembers n kind key ∷ []) (bare a c scene)).scene) kept
    ∙ owners_same (bare a c scene) (changed_at (kind.0 - 16) (opened key) c.kinds) d.kinds
    (sym e) (sym f) (sym g) (sym files.recent) (sym files.descriptors) (sym kinds) (sym same.locks) (seen_same a b c d same held) (beside_still (owners_of a) (owners_of b) c.pins (λ buffer. ap (pinned_once buffer) e ∙ pinned_remembered n (record { kind = kind; key = key; serial = a.next_serial }) (owners_of a) buffer (λ z. omega (arith, z, high))) ∙ ap (pinned_beside (owners_of b)) (sym counted)) (sym same.stack) (plans_same a b same.plans))
    (λ scene. subst (λ (k : Keeper). Says (in_order (taken_by k key ∷ remembers n kind key ∷ []) (bare a c scene)).events) (sym kept) says)

-- a file gets a descriptor
pub acted_touched : (file : ℕ) (a b : ResourceState) (c : CommonState) (Says : List What → Type 0) → owners_of b ≡ owners_of a → b.next_owner ≡ a.next_owner → b.next_serial ≡ a.next_serial
    → b.recent ≡ (touched_file file (files_of a)).recent → b.descriptors ≡ a.descriptors → SameLocks a b → Says (touch_events file (files_of a)) → Acted (descriptor_given file) a b c c Says
unfolding bare parts_in
acted_touched file a b c Says e f g recent descriptors same says =
    acted_bare (descriptor_given file) a b c c Says
    (λ scene. owners_same (bare a c scene) c.kinds c.kinds
    (sym e) (sym f) (sym g) (sym recent) (sym descriptors) refl (sym same.locks) (seen_same a b c c same refl) (beside_still (owners_of a) (owners_of b) c.pins (λ buffer. ap (pinned_once buffer) e)) (sym same.stack) (plans_same a b same.plans))
    (λ scene. says)

-- a file is opened
pub acted_opened : (n file : ℕ) (a b : ResourceState) (c : CommonState) (Says : List What → Type 0)
    → owners_of b ≡ remembered n (record { kind = file_kind; key = file; serial = a.next_serial }) (owners_of a)
    → b.next_owner ≡ a.next_owner → b.next_serial ≡ a.next_serial + 1 → b.recent ≡ (touched_file file (files_of a)).recent → b.descriptors ≡ a.descriptors → SameLocks a b
    → Says (touch_events file (files_of a) ++ (What.Acquire (record { kind = file_kind; key = file; serial = a.next_serial }) n ∷ [])) → Acted (item_taken n file_kind file) a b c c Says
unfolding bare parts_in
acted_opened n file a b c Says e f g recent descriptors same says =
    acted_bare (item_taken n file_kind file) a b c c Says
    (λ scene. owners_same (bare a c scene) c.kinds c.kinds
    (sym e) (sym f) (sym g) (sym recent) (sym descriptors) refl (sym same.locks) (seen_same a b c c same refl) (beside_still (owners_of a) (owners_of b) c.pins (λ buffer. ap (pinned_once buffer) e ∙ pinned_remembered n (record { kind = file_kind; key = file; serial = a.next_serial }) (owners_of a) buffer (λ z. omega (arith, z)))) (sym same.stack) (plans_same a b same.plans))
    (λ scene. says)

pub acted_gone : (n : ℕ) (a b : ResourceState) (c : CommonState) (Says : List What → Type 0) → owners_of b ≡ removed n (owners_of a)
    → b.next_owner ≡ a.next_owner → b.next_serial ≡ a.next_serial → SameFiles a b → SameLocks a b → ((q : ℕ) → slice_index c.pins q + pinned_once q (owners_of a) ≡ slice_index c.pins q + pinned_once q (owners_of b)) → Says (gone_events n (owners_of a)) → Acted (owner_gone n) a b c c Says
unfolding bare parts_in
acted_gone n a b c Says e f g files same pins says =
    acted_bare (owner_gone n) a b c c Says
    (λ scene. owners_same (bare a c scene) c.kinds c.kinds
    (sym e) (sym f) (sym g) (sym files.recent) (sym files.descriptors) refl (sym same.locks) (seen_same a b c c same refl) (beside_same (owners_of a) (owners_of b) c.pins c.pins pins) (sym same.stack) (plans_same a b same.plans))
    (λ scene. says)

pub acted_moved : (n p : ℕ) (a b : ResourceState) (c : CommonState) (Says : List What → Type 0) → owners_of b ≡ moved n p (owners_of a)
    → b.next_owner ≡ a.next_owner → b.next_serial ≡ a.next_serial → SameFiles a b → SameLocks a b → ((q : ℕ) → slice_index c.pins q + pinned_once q (owners_of a) ≡ slice_index c.pins q + pinned_once q (owners_of b)) → Says (What.MoveOwner n p ∷ []) → Acted (owner_moved n p) a b c c Says
unfolding bare parts_in
acted_moved n p a b c Says e f g files same pins says =
    acted_bare (owner_moved n p) a b c c Says
    (λ scene. owners_same (bare a c scene) c.kinds c.kinds
    (sym e) (sym f) (sym g) (sym files.recent) (sym files.descriptors) refl (sym same.locks) (seen_same a b c c same refl) (beside_same (owners_of a) (owners_of b) c.pins c.pins pins) (sym same.stack) (plans_same a b same.plans))
    (λ scene. says)

-- The stack of active snapshots becomes another one.
stack_leads : (a b : ResourceState) (c : CommonState) (scene : Scene) (stack : List Active) → OwnersFit a c scene → b ≡ record a { stack = stack } → record scene { session = record scene.session { snapshots = stack } } ≡ with_owners b c scene
stack_leads a b c scene stack fit is =
    ap (λ (s : Scene). record s { session = record s.session { snapshots = stack } }) (fit_is a c scene fit) ∙ ap (λ (r : ResourceState). with_owners r c scene) (sym is)

pub acted_pushed : (level snapshot : ℕ) (a b : ResourceState) (c : CommonState) (Says : List What → Type 0) → b ≡ record a { stack = a.stack ++ record { snapshot = snapshot; level = level } ∷ [] } → Says (What.Push snapshot ∷ [])
    → Acted (pushed_at level snapshot) a b c c Says
acted_pushed level snapshot a b c Says is says = record {
  leads = λ scene fit.
      ap (λ (xs : List Active). record scene { session = record scene.session { snapshots = xs ++ record { snapshot = snapshot; level = level } ∷ [] } }) fit.snapshots
      ∙ stack_leads a b c scene (a.stack ++ record { snapshot = snapshot; level = level } ∷ []) fit is;
  says = λ scene fit. says;
}

pub acted_popped : (entry : Active) (a b : ResourceState) (c : CommonState) (Says : List What → Type 0) → a.stack ≡ b.stack ++ entry ∷ [] → b ≡ record a { stack = b.stack } → Says (What.Pop entry.snapshot ∷ []) → Acted snapshot_popped a b c c Says
acted_popped entry a b c Says ends is says = record {
  leads = λ scene fit.
      cc (newest scene fit, fit.snapshots, take_others b.stack entry, stack_leads a b c scene b.stack fit is);
  says = λ scene fit. subst (λ (o : Option Active). Says (act o scene).events) (sym (newest scene fit)) says;
}
  where
    act : Option Active → Scene → Ended
    act o scene = where_there o
        (λ entry. in_order (changes (λ session. record session { snapshots = take (length session.snapshots - 1) session.snapshots }) ∷ say (What.Pop entry.snapshot) ∷ [])) scene

    newest : (scene : Scene) → OwnersFit a c scene → last_of scene.session.snapshots ≡ Some entry
    newest scene fit = ap last_of (fit.snapshots ∙ ends) ∙ last_newest b.stack entry

pub acted_popped_from : (level : ℕ) (a b : ResourceState) (c : CommonState) (Says : List What → Type 0) → b ≡ record a { stack = kept_below level a.stack } → Says (pops level (reverse a.stack)) → Acted (stack_popped level) a b c c Says
acted_popped_from level a b c Says is says = record {
  leads = λ scene fit.
      ap (λ (xs : List Active). record scene { session = record scene.session { snapshots = kept_below level xs } }) fit.snapshots ∙ stack_leads a b c scene (kept_below level a.stack) fit is;
  says = λ scene fit. subst (λ (xs : List Active). Says (pops level (reverse xs))) (sym fit.snapshots) says;
}

pub acted_lowered : (level : ℕ) (a b : ResourceState) (c : CommonState) (Says : List What → Type 0) → b ≡ record a { stack = map (lowered level) a.stack } → Says [] → Acted (stack_lowered level) a b c c Says
acted_lowered level a b c Says is says = record {
  leads = λ scene fit.
      ap (λ (xs : List Active). record scene { session = record scene.session { snapshots = map (lowered level) xs } }) fit.snapshots ∙ stack_leads a b c scene (map (lowered level) a.stack) fit is;
  says = λ scene fit. says;
}

-- a plan is reserved, so that nothing happens that the rules tell, or comes, or is referred to
pub acted_silent : (a b : ResourceState) (c : CommonState) (reserved : Option ℕ) (Says : List What → Type 0) → b ≡ record a { plans = record a.plans { reserved = reserved } } → Says [] → Acted nothing a b c c Says
acted_silent a b c reserved Says is says = record {
  leads = λ scene fit. fit_is a c scene fit ∙ ap (λ (r : ResourceState). with_owners r c scene) (sym is);
  says = λ scene fit. says;
}

-- The plans become others.
plans_lead : (a b : ResourceState) (c : CommonState) (scene : Scene) (plans : Plans) → OwnersFit a c scene → b ≡ record a { plans = plans } → record scene { session = record scene.session { plans = map plan_state plans.standing } } ≡ with_owners b c scene
plans_lead a b c scene plans fit is =
    ap (λ (s : Scene). record s { session = record s.session { plans = map plan_state plans.standing } }) (fit_is a c scene fit) ∙ ap (λ (r : ResourceState). with_owners r c scene) (sym is)

pub acted_added : (n : ℕ) (plan : Plan) (a b : ResourceState) (c : CommonState) (Says : List What → Type 0) → plan.discarded ≡ false → plan.references ≡ 0
    → b ≡ record a { plans = record { standing = a.plans.standing ++ (n, plan) ∷ []; reserved = None } } → Says [] → Acted (plan_added n plan.context.number) a b c c Says
acted_added n plan a b c Says fresh none is says = record {
  leads = λ scene fit.
      cc (map-append plan_state a.plans.standing ((n, plan) ∷ []), plans_lead a b c scene (record { standing = a.plans.standing ++ (n, plan) ∷ []; reserved = None }) fit is);
  says = λ scene fit. says;
}

pub acted_referred : (n plan : ℕ) (a b : ResourceState) (c : CommonState) (Says : List What → Type 0)
    → owners_of b ≡ remembered n (record { kind = plan_reference; key = plan; serial = a.next_serial }) (owners_of a)
    → b.next_owner ≡ a.next_owner → b.next_serial ≡ a.next_serial + 1 → SameFiles a b → b.session ≡ a.session → b.locks ≡ a.locks → b.stack ≡ a.stack
    → plans_of b ≡ plan_changed plan (λ p. record p { references = p.references + 1 }) (plans_of a)
    → Says (What.Acquire (record { kind = plan_reference; key = plan; serial = a.next_serial }) n ∷ []) → Acted (item_taken n plan_reference plan) a b c c Says
unfolding bare parts_in
acted_referred n plan a b c Says e f g files session held stack plans says =
    acted_bare (item_taken n plan_reference plan) a b c c Says
    (λ scene. owners_same (bare a c scene) c.kinds c.kinds
    (sym e) (sym f) (sym g) (sym files.recent) (sym files.descriptors) refl (sym held) (ap (λ (m : ℕ). beside m c.locks) (sym session)) (beside_still (owners_of a) (owners_of b) c.pins (λ buffer. ap (pinned_once buffer) e ∙ pinned_remembered n (record { kind = plan_reference; key = plan; serial = a.next_serial }) (owners_of a) buffer (λ z. omega (arith, z)))) (sym stack) (sym plans))
    (λ scene. says)

-- A scene that owners and files fit, and contexts and hooks besides, with its parts.
hosted : ResourceState → CommonState → Hosting → Scene → Scene
hosted a c h scene = with_hosting h (bare a c scene)

is_hosted : (a : ResourceState) (c : CommonState) (h : Hosting) (scene : Scene) → OwnersFit a c scene → HostsFit h scene → scene ≡ hosted a c h scene
unfolding hosted bare parts_in
is_hosted a c h scene fit hosts = grind (arith, is_bare a c scene fit)

-- an act that leads so from each such scene
acted_hosted : (act : Scene → Ended) (a b : ResourceState) (h k : Hosting) (c d : CommonState) (Says : List What → Type 0)
    → ((scene : Scene) → (act (hosted a c h scene)).scene ≡ with_hosting k (with_owners b d (hosted a c h scene))) → ((scene : Scene) → Says (act (hosted a c h scene)).events)
    → ActedOn act a b h k c d Says
acted_hosted act a b h k c d Says leads says = record {
  leads = λ scene fit hosts.
      let e = is_hosted a c h scene fit hosts in
      ap (λ (s : Scene). (act s).scene) e ∙ leads scene ∙ ap (λ (s : Scene). with_hosting k (with_owners b d s)) (sym e);
  says = λ scene fit hosts. subst (λ (s : Scene). Says (act s).events) (sym (is_hosted a c h scene fit hosts)) (says scene);
}

-- The tables do what follows the release of an item, and the steps of a release.
module _ (a b : ResourceState) (c d : CommonState) (old new : Lending) (recent : a.recent ≡ old.held.files.recent) (after : b.recent ≡ new.held.files.recent) (kinds : c.kinds ≡ old.kinds) (left : d.kinds ≡ new.kinds) (descriptors : b.descriptors ≡ a.descriptors)
    (held : a.locks ≡ old.locks) (holds : b.locks ≡ new.locks) (balance : LocksBalance (locks_of a) (locks_of b) c.locks d.locks)
    (pins : pinned_beside (owners_of a) c.pins ≡ pinned_beside (owners_of b) d.pins) (stack : b.stack ≡ a.stack) (planned : a.plans ≡ old.held.plans) (plans : b.plans ≡ new.held.plans) where
  tables_fit : (scene : Scene) → TablesFit old (hosted a c (hosting_of old.contexts old.shelf) scene)
  unfolding hosted bare parts_in
  tables_fit scene = record { recent = recent; kinds = kinds; locks = held; plans = ap (λ (p : Plans). map plan_state p.standing) planned; contexts = refl; shelf = refl }

  seen_on : beside a.session c.locks ≡ beside b.session d.locks
  seen_on = beside_stays a.session c.locks d.locks balance.others ∙ ap (λ (n : ℕ). beside n d.locks) (sym balance.session)

  plans_on : map plan_state new.held.plans.standing ≡ plans_of b
  plans_on = sym (ap (λ (p : Plans). map plan_state p.standing) plans)

  -- an item is given back
  pub acted_given : (n : ℕ) (kind : KindId) (key : ℕ) (item : Item) (events : List What) (Says : List What → Type 0) → find (is_of kind key) (items_of n (owners_of a)) ≡ Some item
      → owners_of b ≡ forgotten n kind key (owners_of a) → b.next_owner ≡ a.next_owner → b.next_serial ≡ a.next_serial → TablesDo old (GivesBack item ∷ []) events new
      → Says (What.Release item n ∷ events) → ActedOn (item_released n kind key) a b (hosting_of old.contexts old.shelf) (hosting_of new.contexts new.shelf) c d Says
  unfolding hosted bare parts_in
  acted_given n kind key item events Says found e f g does says =
      acted_hosted (item_released n kind key) a b (hosting_of old.contexts old.shelf) (hosting_of new.contexts new.shelf) c d Says
      (λ scene. ap (λ (o : Option Item). (act o scene).scene) found ∙ does.leads (forgot scene) (forgot_fits scene)
      ∙ owners_same (hosted a c (hosting_of new.contexts new.shelf) scene) new.kinds d.kinds (sym e) (sym f) (sym g) (sym after) (sym descriptors) (sym left) (sym holds) seen_on pins (sym stack) plans_on)
      (λ scene. subst (λ (o : Option Item). Says (act o scene).events) (sym found)
      (subst (λ (es : List What). Says (What.Release item n ∷ es)) (sym (does.says (forgot scene) (forgot_fits scene))) says))
    where
      at : Scene → Scene
      at scene = hosted a c (hosting_of old.contexts old.shelf) scene

      act : Option Item → Scene → Ended
      act o scene = where_there o
          (λ item. in_order (changes (λ session. record session { owners = forgotten n kind key session.owners }) ∷ say (What.Release item n) ∷ given_back item ∷ [])) (at scene)

      forgot : Scene → Scene
      forgot scene = record (at scene) { session = record (at scene).session { owners = forgotten n kind key (owners_of a) } }

      forgot_fits : (scene : Scene) → TablesFit old (forgot scene)
      forgot_fits scene = record { recent = recent; kinds = kinds; locks = held; plans = ap (λ (p : Plans). map plan_state p.standing) planned; contexts = refl; shelf = refl }

  -- a phase
  pub acted_phase : (commit top : Bool) (n : ℕ) (phase : Phase) (events : List What) (Says : List What → Type 0) → owners_of b ≡ released (table_of c.kinds) phase n (owners_of a)
      → b.next_owner ≡ a.next_owner → b.next_serial ≡ a.next_serial → TablesDo old (release_steps (table_of c.kinds) phase commit top n (owners_of a)) events new → Says events
      → ActedOn (phase_released commit top n phase) a b (hosting_of old.contexts old.shelf) (hosting_of new.contexts new.shelf) c d Says
  unfolding hosted bare parts_in
  acted_phase commit top n phase events Says e f g does says =
      acted_hosted (phase_released commit top n phase) a b (hosting_of old.contexts old.shelf) (hosting_of new.contexts new.shelf) c d Says
      (λ scene. ap (λ (z : Scene). record z { session = record z.session { owners = released (table_of c.kinds) phase n z.session.owners } }) (does.leads (hosted a c (hosting_of old.contexts old.shelf) scene) (tables_fit scene))
      ∙ owners_same (hosted a c (hosting_of new.contexts new.shelf) scene) new.kinds d.kinds (sym e) (sym f) (sym g) (sym after) (sym descriptors) (sym left) (sym holds) seen_on pins (sym stack) plans_on)
      (λ scene. subst Says (sym (append-nil _ ∙ does.says (hosted a c (hosting_of old.contexts old.shelf) scene) (tables_fit scene))) says)

-- no such act, and one behind another
acted_nothing_on : (a : ResourceState) (h : Hosting) (c : CommonState) (Says : List What → Type 0) → Says [] → ActedOn nothing a a h h c c Says
unfolding hosted bare parts_in
acted_nothing_on a h c Says none = acted_hosted nothing a a h h c c Says (λ scene. refl) (λ scene. none)

acted_both_on : (f g : Scene → Ended) (a b z : ResourceState) (h k l : Hosting) (c d e : CommonState) (First Second Both : List What → Type 0)
    → ((xs ys : List What) → First xs → Second ys → Both (xs ++ ys))
    → ActedOn f a b h k c d First → ActedOn g b z k l d e Second → ActedOn (λ scene. and_then (f scene) g) a z h l c e Both
acted_both_on f g a b z h k l c d e First Second Both more p q = record {
  leads = λ scene fit hosts. ap (λ (s : Scene). (g s).scene) (p.leads scene fit hosts) ∙ q.leads (next scene) (fits scene) (record { contexts = refl; shelf = refl });
  says = λ scene fit hosts.
      more (f scene).events (g (f scene).scene).events (p.says scene fit hosts)
      (subst (λ (s : Scene). Second (g s).events) (sym (p.leads scene fit hosts)) (q.says (next scene) (fits scene) (record { contexts = refl; shelf = refl })));
}
  where
    next : Scene → Scene
    next scene = with_hosting k (with_owners b d scene)

    fits : (scene : Scene) → OwnersFit b d (next scene)
    fits scene = record { owners = refl; next_owner = refl; next_serial = refl; recent = refl; descriptors = refl; kinds = refl; locked = refl; pinned = refl; locks = refl; snapshots = refl; plans = refl }

-- the three phases
pub acted_release : (commit top : Bool) (n : ℕ) (a b y z : ResourceState) (h i j k : Hosting) (c d e f : CommonState) (First Second Third Last Rest All : List What → Type 0)
    → Last [] → ((xs ys : List What) → Third xs → Last ys → Third (xs ++ ys))
    → ((xs ys : List What) → Second xs → Third ys → Rest (xs ++ ys)) → ((xs ys : List What) → First xs → Rest ys → All (xs ++ ys))
    → ActedOn (phase_released commit top n BeforeLocks) a b h i c d First → ActedOn (phase_released commit top n Locks) b y i j d e Second → ActedOn (phase_released commit top n AfterLocks) y z j k e f Third
    → ActedOn (owner_released commit top n) a z h k c f All
acted_release commit top n a b y z h i j k c d e f First Second Third Last Rest All last third second first p q r = grind (arith, acted_both_on (phase_released commit top n BeforeLocks) (for_each (phase_released commit top n) (Locks ∷ AfterLocks ∷ [])) a b z h i k c d f First Rest All first p, acted_both_on (phase_released commit top n Locks) (for_each (phase_released commit top n) (AfterLocks ∷ [])) b y z i j k d e f Second Third Rest second q, acted_both_on (phase_released commit top n AfterLocks) (for_each (phase_released commit top n) []) y z z j k k e f f Third Last Third third r (acted_nothing_on z k f Last last), acted_nothing_on z k f Last last)

-- a plan is discarded
pub acted_dropped : (act : Scene → Ended) (events : List What) (a b : ResourceState) (h k : Hosting) (c : CommonState) (Says : List What → Type 0)
    → b ≡ record a { plans = b.plans } → PlansDo act events a.plans.standing b.plans.standing h k → Says events → ActedOn act a b h k c c Says
acted_dropped act events a b h k c Says is does says = record {
  leads = λ scene fit hosts. does.leads scene fit.plans hosts
      ∙ ap (λ (s : Scene). with_plans b.plans.standing k s) (fit_is a c scene fit)
      ∙ ap (λ (r : ResourceState). with_hosting k (with_owners r c scene)) (sym is);
  says = λ scene fit hosts. subst Says (sym (does.says scene fit.plans hosts)) says;
}
