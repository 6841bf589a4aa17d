-- What follows from a law's leaves: each act and each element keeps it, but those that are owed apart.
use Rattle.session_rules.proofs.Base.{◌≡◌, ℕ, ◌+◌, Bool, true, false, List, [], ◌∷◌, codes, Option, Some, None, refl, subst, arith, option_and_then, append-nil, nat_tests}
use Rattle.session_rules.proofs.Below.{Error, What, KindId, CtxKind, ScanStep, PortalState, freed, shown, written}
use Rattle.session_rules.proofs.Rules.{LevelState, OpenPortal, buffer_pin, deepest_changed, depth, first_of, level_above, level_context, level_owner, owner_of, portals_context, Moment, Scene, failure, Ended, changes, children_gone, context_cleared, context_cleared_alone, context_gone, for_each, in_order, nothing, portal_becomes, say, switched, where_so, where_there, item_released, plan_becomes, context_made, level_context_name, level_made, level_parent, new_context_made, new_owner_made, owner_made, plan_made, portal_made, chunk_resized, descriptor_given, hook_registered, hook_waits, lock_taken, memory_taken, snapshot_pushed, does, does_all, failing_turn, then_done, counts, Element, LevelContext, MemoryRole, NewContext, OfLevel, OfPortal, OwnerRole, PortalContext, RowContext, ScriptContext, Text, context_named, kind_named, memory_in, owner_in, plan_at, portal_named, at_context, at_kind, at_owner, at_portal, context_moved, contexts_become, level_stands, lock_given_back, pinning, scan_part, scanned, snapshot_popped, Done, fallible, refused_call, unfailing, unless_refused}
use Rattle.exec_core.specs.Turn.{taken}
use Rattle.session_rules.proofs.Leaves.{Acts, AllKeep, AreSpoken, Follows, IsRun, IsSpoken, Keeps, Law, Leaves, LevelLeaves, MakeLeaves, MoveLeaves, Owes, OwesEnds, OwesMakes, OwesMoves, last, next}

module _ (R : Law) (a : Acts R) where
  -- how acts are put together
  order_so : (acts : List (Scene → Ended)) → AllKeep R acts → (s : Scene) → R s (in_order acts s).scene (in_order acts s).events
  order_so [] last s = a.none s
  order_so (act ∷ acts) (next h hs) s = a.both (h.so s) (order_so acts hs (act s).scene)

  pub by_order : {acts : List (Scene → Ended)} → AllKeep R acts → Keeps R (in_order acts)
  by_order {acts = acts} hs = record { so = order_so acts hs }

  pub by_there : {A : Type 0} (o : Option A) (act : A → Scene → Ended) → ((x : A) → Keeps R (act x)) → Keeps R (where_there o act)
  by_there o act h = grind (arith, nat_tests)

  pub by_so : (b : Bool) (act : Scene → Ended) → Keeps R act → Keeps R (where_so b act)
  by_so b act h = grind (arith, nat_tests)

  each_so : {A : Type 0} (act : A → Scene → Ended) → ((x : A) → Keeps R (act x)) → (xs : List A) (s : Scene) → R s (for_each act xs s).scene (for_each act xs s).events
  each_so act h [] s = a.none s
  each_so act h (x ∷ xs) s = a.both ((h x).so s) (each_so act h xs (act x s).scene)

  pub by_each : {A : Type 0} (act : A → Scene → Ended) → ((x : A) → Keeps R (act x)) → (xs : List A) → Keeps R (for_each act xs)
  by_each act h xs = record { so = each_so act h xs }

  pub by_either : (b : Bool) {s : Scene} (x y : Ended) → R s x.scene x.events → R s y.scene y.events
      → R s (elim b as (λ _. Ended) [ true ↦ x | false ↦ y ]).scene (elim b as (λ _. Ended) [ true ↦ x | false ↦ y ]).events
  by_either b x y h k = grind (arith, nat_tests)

  -- on what is there
  pub by_context : (name : Text) (act : ℕ → Scene → Ended) → ((n : ℕ) → Keeps R (act n)) → Keeps R (at_context name act)
  by_context name act h = record { so = λ s. (by_there (context_named name s.session) act h).so s }

  pub by_owner : (role : OwnerRole) (act : ℕ → Scene → Ended) → ((n : ℕ) → Keeps R (act n)) → Keeps R (at_owner role act)
  by_owner role act h = record { so = λ s. (by_there (owner_in role s.session) act h).so s }

  pub by_portal_named : (name : Text) (act : OpenPortal → Scene → Ended) → ((p : OpenPortal) → Keeps R (act p)) → Keeps R (at_portal name act)
  by_portal_named name act h = record { so = λ s. (by_there (portal_named name s.session.portals) act h).so s }

  pub by_kind : (name : Text) (act : KindId → Scene → Ended) → ((kind : KindId) → Keeps R (act kind)) → Keeps R (at_kind name act)
  by_kind name act h = record { so = λ s. (by_there (kind_named name s.around.kinds) act h).so s }

  -- a portal that stays where it is
  pub by_portal : (name : Text) (change : OpenPortal → OpenPortal) → ((p : OpenPortal) → (change p).context ≡ p.context) → ((p : OpenPortal) → (change p).created ≡ p.created) → Keeps R (portal_becomes name change)
  by_portal name change context created = a.portal name change (record { context = context; created = λ p. let same = created p in omega (arith, same) })

  -- what can fail and what can't
  unless_so : (refusal : Option Error) (m : Moment) (act : Scene → Ended) → R m.scene (act m.scene).scene (act m.scene).events → Follows R m.scene (unless_refused refusal m act)
  unless_so refusal m act h = grind (arith, nat_tests)

  pub fallible_at : (w : Option ℕ) (m : Moment) (own : Option Error) (act : Scene → Ended) → R m.scene (act m.scene).scene (act m.scene).events → Follows R m.scene (fallible w m own act)
  fallible_at w m own act h = grind (arith, nat_tests, unless_so (refused_call w m.fail (m.calls + 1) own))

  pub fallible_so : (w : Option ℕ) (m : Moment) (own : Option Error) (act : Scene → Ended) → Keeps R act → Follows R m.scene (fallible w m own act)
  fallible_so w m own act h = fallible_at w m own act (h.so m.scene)

  pub unfailing_so : (m : Moment) (act : Scene → Ended) → Keeps R act → Follows R m.scene (unfailing m act)
  unfailing_so m act h = record { so = h.so m.scene }

  failing_so : (name : Text) (s : Scene) (done : Done) (refusal : Option Error) → Follows R s done → Follows R s (failing_turn name done refusal)
  failing_so name s done None h = h
  failing_so name s done (Some error) h = record {
    so = subst (λ (events : List What). R s (portal_becomes name (λ p. record p { state = PortalState.Failed }) done.moment.scene).scene events) (append-nil done.events)
        (a.both h.so ((by_portal name (λ p. record p { state = PortalState.Failed }) (λ p. refl) (λ p. refl)).so done.moment.scene));
  }

  pub then_follows : (s : Scene) (done : Done) (refusal : Option Error) (rest : Moment → Done) → Follows R s done → (refusal ≡ None → Follows R done.moment.scene (rest done.moment)) → Follows R s (then_done done refusal rest)
  then_follows s done refusal rest h more = grind (arith, nat_tests)

  -- what is owed for the two elements that change contexts and hooks, where it is kept in any scene
  pub moves_owed : MoveLeaves R → (w : Option ℕ) (x : Element) (m : Moment) → OwesMoves R w x m
  unfolding does
  moves_owed v w (Element.InTurn name x) m = moves_owed v w x m
  moves_owed v w (Element.Register name) m =
      fallible_so w m _ (hook_registered name) (record {
        so = λ s. (by_there (context_named name s.session) _ (λ (n : ℕ). by_there (first_of s.around.shelf.fresh) (hook_waits n) (v.hooked n))).so s;
      })
  moves_owed v w (Element.Reparent name parent) m =
      unfailing_so m (at_context name (λ n. at_context parent (context_moved n))) (by_context name (λ n. at_context parent (context_moved n)) (λ n. by_context parent (context_moved n) (v.shifted n)))
  moves_owed v w other m = tt

module _ (R : Law) (l : Leaves R) where
  abbrev a : Acts R
  a = l.acts

  drops : (plan : ℕ) (s : Scene) → R s (where_there (plan_at plan s.session.plans) (λ p. plan_becomes (record p { discarded = true })) s).scene (where_there (plan_at plan s.session.plans) (λ p. plan_becomes (record p { discarded = true })) s).events
  drops plan s = grind (arith, nat_tests)

  part : (s : ScanStep) (p : OpenPortal) → Keeps R (scan_part s p)
  part ScanStep.Reset p = record { so = (by_there R a p.expr context_cleared_alone l.alone).so }
  part (ScanStep.Unpin page) p = record { so = (by_there R a p.owner _ (λ (owner : ℕ). l.released owner buffer_pin page)).so }
  part (ScanStep.Row row value) p = record { so = (l.word (What.Row p.name row value) refl).so }
  part other p = record { so = a.none }

  scan_goes : (s : ScanStep) (p : OpenPortal) → Keeps R (scanned s p)
  scan_goes s p = record { so = (by_order R a (next (by_portal R a p.name (λ old. record old { scan = taken s old.scan }) (λ p. refl) (λ p. refl)) (next (part s p) last))).so }

  released_at : (key : ℕ) (kind : KindId) → Keeps R (at_owner OfLevel (λ owner. item_released owner kind key))
  released_at key kind = by_owner R a OfLevel (λ owner. item_released owner kind key) (λ owner. l.released owner kind key)

  allocates : (role : MemoryRole) (name : Option Text) (bytes : ℕ) (zeroed : Bool) → Keeps R (λ s. where_there (memory_in role s.session) (memory_taken name bytes zeroed) s)
  allocates role name bytes zeroed = record { so = λ s. (by_there R a (memory_in role s.session) (memory_taken name bytes zeroed) (l.allocated name bytes zeroed)).so s }

  -- An element keeps the law where what is owed for it holds.
  pub element_follows : (usual : Bool) (w : Option ℕ) (x : Element) (m : Moment) → IsSpoken usual x → Owes R w x m → Follows R m.scene (does w x m)
  unfolding does
  element_follows u w (Element.Checks x) m h owed = unless_so R a (failure x m.scene) m nothing (a.none m.scene)
  element_follows u w (Element.Says x) m h owed = unfailing_so R a m (say x) (l.word x h)
  element_follows u w (Element.Enlarge x) m h owed = fallible_at R a w m _ nothing (a.none m.scene)
  element_follows u w (Element.Alloc x b c d) m h owed = fallible_so R a w m _ (λ s. where_there (memory_in x s.session) (memory_taken b c d) s) (allocates x b c d)
  element_follows u w (Element.Realloc x b) m h owed = fallible_so R a w m _ (chunk_resized x b) (l.fitted x b)
  element_follows u w (Element.MakePortal x b c d) m h owed = fallible_so R a w m _ (portal_made x b c d) (l.portal_new x b c d)
  element_follows u w (Element.Switch x) m h owed = unfailing_so R a m (at_context x switched) (by_context R a x switched l.switch)
  element_follows u w (Element.Reset x) m h owed = unfailing_so R a m (at_context x context_cleared) (by_context R a x context_cleared l.cleared)
  element_follows u w (Element.ResetOnly x) m h owed = unfailing_so R a m (at_context x context_cleared_alone) (by_context R a x context_cleared_alone l.alone)
  element_follows u w (Element.Delete x) m h owed = unfailing_so R a m (at_context x context_gone) (by_context R a x context_gone a.gone)
  element_follows u w (Element.DeleteChildren x) m h owed = unfailing_so R a m (at_context x children_gone) (by_context R a x children_gone a.children)
  element_follows u w (Element.FreeChunk x) m h owed = unfailing_so R a m (contexts_become (freed x)) (l.given x)
  element_follows u w (Element.Put x b c) m h owed = unfailing_so R a m (contexts_become (written x b c)) (l.put x b c)
  element_follows u w (Element.Show x b c) m h owed = record { so = (l.word (What.Bytes x b (shown x b c m.scene.session.contexts)) refl).so m.scene }
  element_follows u w Element.Report m h owed = record { so = l.reported.so m.scene }
  element_follows u w Element.Stat m h owed = record { so = (l.word (What.Stat (counts m.scene.session)) refl).so m.scene }
  element_follows u w (Element.TellBuffer x) m h owed = record { so = (l.word (What.Buffer x (pinning x m.scene)) refl).so m.scene }
  element_follows u w (Element.GiveBack x b) m h owed = unfailing_so R a m (at_owner OfLevel (λ owner. item_released owner x b)) (released_at b x)
  element_follows u w (Element.GiveBackNamed x b) m h owed =
      unfailing_so R a m (at_kind x (λ kind. at_owner OfLevel (λ owner. item_released owner kind b))) (by_kind R a x (λ kind. at_owner OfLevel (λ owner. item_released owner kind b)) (released_at b))
  element_follows u w (Element.DropPlan x) m h owed = record { so = drops x m.scene }
  element_follows u w (Element.PortalReady x) m h owed = unfailing_so R a m (portal_becomes x (λ p. record p { state = PortalState.Ready })) (by_portal R a x (λ p. record p { state = PortalState.Ready }) (λ p. refl) (λ p. refl))
  element_follows u w (Element.FetchBegins x) m h owed = record { so = (by_portal R a x (λ p. record p { active = depth m.scene.session }) (λ p. refl) (λ p. refl)).so m.scene }
  element_follows u w (Element.Scans x b) m h owed = unfailing_so R a m (at_portal x (scanned b)) (by_portal_named R a x (scanned b) (scan_goes b))
  element_follows u w (Element.InTurn x b) m h owed = failing_so R a x m.scene (does w b m) (does w b m).refusal (element_follows u w b m h owed)
  element_follows u w other m h owed = owed

  -- Elements in order keep it where what is owed for each holds wherever a run of them meets it.
  pub run_follows : (usual : Bool) (P : Element → Scene → Type 0) (w : Option ℕ) (xs : List Element) (m : Moment) → AreSpoken usual xs → IsRun P w xs m
      → ((x : Element) (n : Moment) → P x n.scene → Owes R w x n) → Follows R m.scene (does_all w xs m)
  unfolding does_all
  run_follows u P w [] m h run owed = record { so = a.none m.scene }
  run_follows u P w (x ∷ xs) m h run owed = grind (arith, nat_tests, then_follows R, element_follows u w x m h.0 (owed x m run.0), run_follows u P w xs (does w x m).moment h.1)

-- Where a law is kept whatever becomes of levels and active snapshots, what makes and starts levels and what pops a snapshot keeps it.
module _ (R : Law) (l : LevelLeaves R) where
  abbrev acts : Acts R
  acts = l.leaves.acts

  pub by_levels : (change : List LevelState → List LevelState) → Keeps R (changes (λ session. record session { levels = change session.levels }))
  by_levels change = record { so = λ s. l.levels (change s.session.levels) s }

  level_is_made : (name : Option Text) (implicit : Bool) → Keeps R (level_made name implicit)
  level_is_made name implicit = record {
    so = λ s. (by_order R acts
        (next (by_levels (λ levels. record { name = name; context = None; owner = None; implicit = implicit; aborted = false; starting = true } ∷ levels)) (next (l.level_word (What.BeginLevel (depth s.session + 1)) refl) last))).so s;
  }

  level_is_there : Keeps R level_stands
  level_is_there = record {
    so = λ s. (by_order R acts (next (by_there R acts (level_context s.session) switched l.leaves.switch) (next (by_levels (deepest_changed (λ level. record level { starting = false }))) last))).so s;
  }

  pub levels_owed : (w : Option ℕ) (x : Element) (m : Moment) → OwesEnds R w x m → Owes R w x m
  unfolding does
  levels_owed w (Element.InTurn name x) m owed = levels_owed w x m owed
  levels_owed w (Element.MakeLevel name implicit) m owed = fallible_so R acts w m _ (level_made name implicit) (level_is_made name implicit)
  levels_owed w Element.LevelStands m owed = unfailing_so R acts m level_stands level_is_there
  levels_owed w Element.PopSnapshot m owed = unfailing_so R acts m snapshot_popped l.popped
  levels_owed w other m owed = owed

  -- what is made
  module _ (made : (parent : ℕ) (name : Text) (protected : Bool) (kind : CtxKind) → Keeps R (context_made parent name protected kind)) (placed : (name : Text) (n : ℕ) → Keeps R (portal_becomes name (λ p. record p { context = Some n }))) where
    pub context_is_made : (new : NewContext) → Keeps R (new_context_made new)
    context_is_made LevelContext = record {
      so = λ s. (by_order R acts
          (next (made (level_parent (level_above s.session)) (level_context_name (level_above s.session)) true CtxKind.Default)
          (next (by_levels (deepest_changed (λ level. record level { context = Some s.session.next_context }))) last))).so s;
    }
    context_is_made (PortalContext name) = record {
      so = λ s. (by_order R acts (next (made portals_context (codes "PortalContext") true CtxKind.Small) (next (placed name s.session.next_context) last))).so s;
    }
    context_is_made (RowContext name) = record {
      so = λ s. (by_there R acts (option_and_then (λ p. p.context) (portal_named name s.session.portals)) _
          (λ (parent : ℕ). by_order R acts (next (made parent (codes "ExprContext") true CtxKind.Small) (next (by_portal R acts name (λ p. record p { expr = Some s.session.next_context }) (λ p. refl) (λ p. refl)) last)))).so s;
    }
    context_is_made (ScriptContext name parent kind) = record { so = λ s. (by_there R acts (context_named parent s.session) _ (λ (n : ℕ). made n name false kind)).so s }

  pub owner_is_made : ((parent : Option ℕ) → Keeps R (owner_made parent)) → (role : OwnerRole) → Keeps R (new_owner_made role)
  owner_is_made owner OfLevel = record {
    so = λ s. (by_order R acts (next (owner (owner_of (level_above s.session))) (next (by_levels (deepest_changed (λ level. record level { owner = Some s.session.next_owner }))) last))).so s;
  }
  owner_is_made owner (OfPortal name) = record {
    so = λ s. (by_order R acts (next (owner (level_owner s.session)) (next (by_portal R acts name (λ p. record p { owner = Some s.session.next_owner }) (λ p. refl) (λ p. refl)) last))).so s;
  }

  pub makes_owed : MakeLeaves R → (w : Option ℕ) (x : Element) (m : Moment) → OwesMoves R w x m → OwesMakes R w x m
  unfolding does
  makes_owed v w (Element.InTurn name x) m owed = makes_owed v w x m owed
  makes_owed v w (Element.MakeContext new) m owed = fallible_so R acts w m _ (new_context_made new) (context_is_made v.made v.placed new)
  makes_owed v w (Element.MakeOwner role) m owed = fallible_so R acts w m _ (new_owner_made role) (owner_is_made v.owner role)
  makes_owed v w (Element.MakePlan plan) m owed = fallible_so R acts w m _ (plan_made plan) (v.planned plan)
  makes_owed v w (Element.TakeLock role object mode) m owed = fallible_so R acts w m _ (at_owner role (lock_taken object mode)) (by_owner R acts role (lock_taken object mode) (v.locked object mode))
  makes_owed v w (Element.Unlock object mode) m owed = unfailing_so R acts m (at_owner OfLevel (lock_given_back object mode)) (by_owner R acts OfLevel (lock_given_back object mode) (v.unlocked object mode))
  makes_owed v w (Element.Touch file) m owed = fallible_so R acts w m _ (descriptor_given file) (v.used file)
  makes_owed v w (Element.PushSnapshot snapshot) m owed = fallible_so R acts w m _ (snapshot_pushed snapshot) (v.pushed snapshot)
  makes_owed v w other m owed = owed
