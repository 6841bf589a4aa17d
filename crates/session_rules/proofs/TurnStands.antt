-- Commands lead from a session between two lines to one between two lines.
use Rattle.session_rules.proofs.Base.{◌≡◌, ℕ, ◌+◌, ◌≤◌, ◌<◌, Bool, true, false, Option, Some, None, List, [], ◌∷◌, ◌++◌, refl, sym, ap, ◌∙◌, subst, inl, arith, All, zero, suc, ◌-◌, ◌&&◌, ◌==◌, not, length, map, codes, is_none, is_some, replicate, nat_lt, if◌then◌else◌, option_and_then, option_map_or, le-ltb, ltb-true, flat_map, nat_tests}
use Rattle.session_rules.proofs.Below.{Error, What, size, ReferenceClass, Scan, ScanStep, table_of, Command, is_text-same, TransactionCommand, Work, PortalCommand, class_kind, is_bad, is_tenth, new_scan, page_of, page_steps, row_step, row_steps, unpinned, turn as scan_turn, PortalState, AccessShareLock, Relcache, CtxKind}
use Rattle.session_rules.proofs.Rules.{LevelState, OpenPortal, SessionState, buffer_pin, file_kind, is_aborted, level_owner, plan_reference, relcache_reference, snapshot_reference, Scene, Moment, Check, Element, InCurrent, InPortal, InRow, LevelContext, OfLevel, OfPortal, PortalContext, RowContext, Text, Ended, in_order, nothing, portal_becomes, where_there, failure, unless, Done, fallible, unless_refused, context_made, level_made, new_context_made, new_owner_made, portal_made, does, does_all, then_done, line_elements, turn, AreOpen, AreOuter, IsActive, IsAtRest, IsFetched, IsOpen, IsWorking, Stands, StandsBetweenLines, plan_at, portal_named, at_savepoint, begin, commit, committed_to, elements_of, ends_aborted, in_transaction, is_end, refused, rollback, rolled_back_to, save, savepoint, start, then_ok, transaction_of, unaborted, after_turn, portal_steps, fallible_part, fetch_steps, portal_row, row_of, work_of}
use Rattle.session_rules.specs.Elements.{ScriptContext}
use Rattle.session_rules.proofs.Kept.{is_there, RestsBeside, beside_becomes, beside_rests, rests_beside}
use Rattle.session_rules.proofs.PortalsStand.{context_portal, made_portal, named_changed, named_in, owner_portal, row_portal}
use Rattle.session_rules.proofs.PortalWorks.{Beside, Turned, Turns, begins_fetched, begins_works, beside_turns, check_beside, portal_allocates, portal_enlarges, portal_locks, portal_takes, ready_works, row_allocates, scan_turns, turned}
use Rattle.session_rules.proofs.PortalEnds.{end_portal_works}
use Rattle.session_rules.proofs.Leaves.{IsRun}
use Rattle.session_rules.proofs.EndsStand.{Leaves, outer_open, recovered_stands}
use Rattle.session_rules.proofs.StepsStand.{Works, abort_stands, below_limit, cleanup_stands, commit_stands, enlarge_works, free_works, level_context_stands, level_made_stands, level_owner_stands, level_stands_stands, merge_stands, nothing_works, own_refusal, pop_works, push_works, put_works, realloc_works, settled_as, alloc_beside}
use Rattle.session_rules.proofs.ItemsStand.{class_item, class_other, class_unkept, file_works, give_back_named_works, give_back_works, pin_works, snapshot_item, take_named_works, take_plan_works, take_works, touch_works, unlock_works, drop_plan_works, is_new, is_standing, make_plan_works, lock_beside, there}
use Rattle.session_rules.proofs.NamesStand.{delete_children_works, delete_works, make_script_context_works, register_works, reparent_works, reset_only_works, reset_works, switch_works}

-- What some elements led to: whatever refused them the session stands, and where nothing did, more is known of it.
pub record Leads (Q : Scene → Type 0) (done : Done) : Type 0 where
  pub stands : Stands done.moment.scene
  pub passed : done.refusal ≡ None → Q done.moment.scene

-- What is known of the scene that an element meets, besides that it stands, where the element needs it.
abbrev pub Asks : Element → Scene → Type 0
Asks (Element.InTurn name x) s = Asks x s
Asks (Element.Take role kind key) s = IsWorking s.session.levels
Asks (Element.TakeNamed name key) s = IsWorking s.session.levels
Asks (Element.Reparent name parent) s = failure (Check.MayMove name parent) s ≡ None
Asks (Element.EndPortal name) s = IsWorking s.session.levels × All IsAtRest s.session.portals
Asks Element.CommitTop s = (level : LevelState) × (s.session.levels ≡ level ∷ [])
Asks Element.Subcommit s = (levels : LevelState × List LevelState) × (s.session.levels ≡ levels.0 ∷ levels.1) × (1 ≤ length levels.1) × All IsAtRest s.session.portals
Asks Element.Abort s = (levels : LevelState × List LevelState) × (s.session.levels ≡ levels.0 ∷ levels.1) × (levels.0.aborted ≡ false) × IsOpen levels.0
Asks Element.Cleanup s = (levels : LevelState × List LevelState) × (s.session.levels ≡ levels.0 ∷ levels.1) × (levels.0.aborted ≡ true)
Asks other s = Unit {0}

pub record Meets (x : Element) (s : Scene) : Type 0 where
  pub stands : Stands s
  pub asks : Asks x s

-- What elements in order led to; and each of them met a scene that stands.
pub record Runs (w : Option ℕ) (Q : Scene → Type 0) (xs : List Element) (moment : Moment) : Type 0 where
  pub stands : Stands (does_all w xs moment).moment.scene
  pub passed : (does_all w xs moment).refusal ≡ None → Q (does_all w xs moment).moment.scene
  pub run : IsRun Meets w xs moment

module _ (w : Option ℕ) where
  -- one element, and then others behind it
  leads_then : (Q : Scene → Type 0) (x : Element) (xs : List Element) (moment : Moment) → ((r : Error) → (does w x moment).refusal ≡ Some r → Stands (does w x moment).moment.scene)
      → ((does w x moment).refusal ≡ None → Leads Q (does_all w xs (does w x moment).moment)) → Leads Q (does_all w (x ∷ xs) moment)
  unfolding does_all
  leads_then Q x xs moment stopped next = grind (arith, nat_tests)

  runs_then : (Q : Scene → Type 0) (x : Element) (xs : List Element) (moment : Moment) → Meets x moment.scene → ((r : Error) → (does w x moment).refusal ≡ Some r → Stands (does w x moment).moment.scene)
      → ((does w x moment).refusal ≡ None → Runs w Q xs (does w x moment).moment) → Runs w Q (x ∷ xs) moment
  runs_then Q x xs moment meets stopped next =
      let all : Leads Q (does_all w (x ∷ xs) moment) = leads_then Q x xs moment stopped (λ none. let k : Runs w Q xs (does w x moment).moment = next none in record { stands = k.stands; passed = k.passed }) in
      record { stands = all.stands; passed = all.passed; run = (meets, λ none. (next none).run) }

  -- elements in order
  pub leads_on : (P Q : Scene → Type 0) (x : Element) (xs : List Element) (moment : Moment) → Leads P (does w x moment) → ((m : Moment) → P m.scene → Leads Q (does_all w xs m)) → Leads Q (does_all w (x ∷ xs) moment)
  leads_on P Q x xs moment first next = leads_then Q x xs moment (λ r e. first.stands) (λ none. next (does w x moment).moment (first.passed none))

  pub runs_on : (P Q : Scene → Type 0) (x : Element) (xs : List Element) (moment : Moment) → Meets x moment.scene → Leads P (does w x moment) → ((m : Moment) → P m.scene → Runs w Q xs m) → Runs w Q (x ∷ xs) moment
  runs_on P Q x xs moment meets first next = runs_then Q x xs moment meets (λ r e. first.stands) (λ none. next (does w x moment).moment (first.passed none))

  pub runs_both : (P Q : Scene → Type 0) (xs ys : List Element) (moment : Moment) → Runs w P xs moment → ((m : Moment) → P m.scene → Runs w Q ys m) → Runs w Q (xs ++ ys) moment
  unfolding does_all
  runs_both P Q [] ys moment first next = next moment (first.passed refl)
  runs_both P Q (x ∷ xs) ys moment first next =
      let all : Leads P (then_done (does w x moment) (does w x moment).refusal (does_all w xs)) = record { stands = first.stands; passed = first.passed } in
      runs_then Q x (xs ++ ys) moment first.run.0 (λ r e. stopped (does w x moment).refusal all r e)
      (λ none.
      let k : Leads P (does_all w xs (does w x moment).moment) = went_on (does w x moment).refusal all none in
      runs_both P Q xs ys (does w x moment).moment (record { stands = k.stands; passed = k.passed; run = first.run.1 none }) next)
    where
      stopped : (r : Option Error) → Leads P (then_done (does w x moment) r (does_all w xs)) → (n : Error) → r ≡ Some n → Stands (does w x moment).moment.scene
      stopped None k n e = absurd (cc e)
      stopped (Some r) k n e = k.stands

      went_on : (r : Option Error) → Leads P (then_done (does w x moment) r (does_all w xs)) → r ≡ None → Leads P (does_all w xs (does w x moment).moment)
      went_on None k e = record { stands = k.stands; passed = k.passed }
      went_on (Some r) k e = absurd (cc e)

pub leads_nowhere : (w : Option ℕ) (Q : Scene → Type 0) (moment : Moment) → Stands moment.scene → Q moment.scene → Leads Q (does_all w [] moment)
unfolding does_all
leads_nowhere w Q moment h q = record { stands = h; passed = λ _. q }

runs_nowhere : (w : Option ℕ) (Q : Scene → Type 0) (moment : Moment) → Stands moment.scene → Q moment.scene → Runs w Q [] moment
unfolding does_all
runs_nowhere w Q moment h q = record { stands = h; passed = λ _. q; run = tt }

-- A turn.
pub turn_leads : (w : Option ℕ) (command : Option Command) (moment : Moment) → Runs w StandsBetweenLines (line_elements command moment.scene.session) moment → StandsBetweenLines (turn w command moment).moment.scene
unfolding turn
turn_leads w command moment k = grind (arith, nat_tests, recovered_stands)

-- a fallible step
pub fallible_leads : (Q : Scene → Type 0) (w : Option ℕ) (moment : Moment) (own : Option Error) (act : Scene → Ended) → Stands moment.scene → ((z : Scene) → Q z → Stands z) → (own ≡ None → Q (act moment.scene).scene)
    → Leads Q (fallible w moment own act)
fallible_leads Q w moment own act before so behind = grind (arith, nat_tests, own_refusal w moment.fail (moment.calls + 1) own)

-- a session that stands, with these levels, whose portals are at rest
pub record At (levels : List LevelState) (scene : Scene) : Type 0 where
  pub stands : Stands scene
  pub are : scene.session.levels ≡ levels
  pub at_rest : All IsAtRest scene.session.portals

pub working_in : (levels : List LevelState) (scene : Scene) → IsWorking levels → scene.session.levels ≡ levels → IsWorking scene.session.levels
working_in levels scene h are = subst IsWorking (sym are) h

pub working_at : (levels : List LevelState) (scene : Scene) → IsWorking levels → At levels scene → IsWorking scene.session.levels
working_at levels scene h at = working_in levels scene h at.are

module _ (w : Option ℕ) (levels : List LevelState) (Q : Scene → Type 0) where
  -- what a check said holds where an owner got room
  pub behind_room : (check : Check) (xs : List Element) (moment : Moment) → At levels moment.scene → failure check moment.scene ≡ None → ((m : Moment) → At levels m.scene → failure check m.scene ≡ None → Runs w Q xs m)
      → Runs w Q (Element.Enlarge OfLevel ∷ xs) moment
  unfolding does
  behind_room check xs moment at ok next =
      runs_on w (λ z. At levels z × (failure check z ≡ None)) Q (Element.Enlarge OfLevel) xs moment (record { stands = at.stands; asks = tt })
      (fallible_leads (λ z. At levels z × (failure check z ≡ None)) w moment None nothing at.stands (λ z q. q.0.stands) (λ _. (at, ok)))
      (λ m p. next m p.0 p.1)

  pub behind_work : (x : Element) (xs : List Element) (moment : Moment) → At levels moment.scene → Asks x moment.scene → Works moment.scene (does w x moment).moment.scene → ((m : Moment) → At levels m.scene → Runs w Q xs m)
      → Runs w Q (x ∷ xs) moment
  behind_work x xs moment at asks works next =
      runs_on w (At levels) Q x xs moment (record { stands = at.stands; asks = asks }) (record { stands = works.stands; passed = λ _. record { stands = works.stands; are = works.levels ∙ at.are; at_rest = works.at_rest at.at_rest } }) next

pub nothing_more : (w : Option ℕ) (levels : List LevelState) (moment : Moment) → At levels moment.scene → Runs w (At levels) [] moment
nothing_more w levels moment at = runs_nowhere w (At levels) moment at.stands at

pub show_works : (w : Option ℕ) (name : Text) (from n : ℕ) (moment : Moment) → Stands moment.scene → Works moment.scene (does w (Element.Show name from n) moment).moment.scene
unfolding does
show_works w name from n moment h = nothing_works moment.scene h

-- there is a buffer
pub is_buffer : (buffer : ℕ) (b : Bool) (error : Error) → nat_lt buffer 1024 ≡ b → unless b error ≡ None → buffer < 1024
is_buffer buffer true error e h = ltb-true buffer 1024 e
is_buffer buffer false error e h = absurd (cc h)

-- A portal on its way: it has its context and its owner, or hasn't them yet.
pub record IsMaking (context owner : Bool) (depth : ℕ) (p : OpenPortal) : Type 0 where
  has_context : is_some p.context ≡ context
  has_owner : is_some p.owner ≡ owner
  expr : p.expr ≡ None
  created : p.created ≡ depth

-- a session that stands, with these levels, whose portals are at rest but the one of a name
pub record Nears (levels : List LevelState) (name : Text) (scene : Scene) : Type 0 where
  stands : Stands scene
  are : scene.session.levels ≡ levels
  beside : All (RestsBeside name) scene.session.portals

pub record Makes (levels : List LevelState) (name : Text) (context owner : Bool) (scene : Scene) : Type 0 where
  at : Nears levels name scene
  portal : OpenPortal
  named : portal_named name scene.session.portals ≡ Some portal
  is : IsMaking context owner (length levels) portal

pub no_value_of : (o : Option ℕ) → is_some o ≡ false → o ≡ None
no_value_of o e = grind (arith, nat_tests)

module _ (w : Option ℕ) (levels : List LevelState) (active : IsWorking levels) (name : Text) (Q : Scene → Type 0) where
  -- a step that leaves portals as they are
  pub behind_beside : (c o : Bool) (x : Element) (xs : List Element) (moment : Moment) → Makes levels name c o moment.scene → Asks x moment.scene → Beside moment.scene (does w x moment).moment.scene
      → ((m : Moment) → Makes levels name c o m.scene → Runs w Q xs m) → Runs w Q (x ∷ xs) moment
  behind_beside c o x xs moment k asks b next =
      runs_on w (Makes levels name c o) Q x xs moment (record { stands = k.at.stands; asks = asks })
      (record {
        stands = b.works.stands;
        passed = grind (arith, nat_tests);
      }) next

  pub behind_made : (object rows : ℕ) (bad : Option ℕ) (xs : List Element) (moment : Moment) → At levels moment.scene → portal_named name moment.scene.session.portals ≡ None
      → ((m : Moment) → Makes levels name false false m.scene → Runs w Q xs m) → Runs w Q (Element.MakePortal name object rows bad ∷ xs) moment
  unfolding does
  behind_made object rows bad xs moment at free next =
      runs_on w (Makes levels name false false) Q (Element.MakePortal name object rows bad) xs moment (record { stands = at.stands; asks = tt })
      (fallible_leads (Makes levels name false false) w moment _ (portal_made name object rows bad) at.stands (λ z q. q.at.stands)
      (λ _. record {
        at = grind (arith, nat_tests, made_portal moment.scene name object rows bad at.stands (working_at levels moment.scene active at) free, working_at levels moment.scene active, rests_beside name moment.scene.session.portals at.at_rest);
        portal = record { name = name; context = None; expr = None; owner = None; scan = new_scan object rows bad; created = length moment.scene.session.levels; active = length moment.scene.session.levels; state = PortalState.New };
        named = rw (is_text-same name) refl;
        is = record { has_context = refl; has_owner = refl; expr = refl; created = ap length at.are };
      })) next

  pub behind_context : (xs : List Element) (moment : Moment) → Makes levels name false false moment.scene → ((m : Moment) → Makes levels name true false m.scene → Runs w Q xs m)
      → Runs w Q (Element.MakeContext (PortalContext name) ∷ xs) moment
  unfolding does
  behind_context xs moment k next =
      runs_on w (Makes levels name true false) Q (Element.MakeContext (PortalContext name)) xs moment (record { stands = k.at.stands; asks = tt })
      (fallible_leads (Makes levels name true false) w moment _ (new_context_made (PortalContext name)) k.at.stands (λ z q. q.at.stands)
      (λ _. record {
        at = grind (arith, nat_tests, context_portal moment.scene k.at.stands (working_in levels moment.scene active k.at.are) name k.portal (named_in name k.portal moment.scene.session.portals k.named) (no_value_of k.portal.context k.is.has_context), working_in levels moment.scene active k.at.are, named_in name k.portal moment.scene.session.portals k.named, no_value_of k.portal.context k.is.has_context, beside_becomes name);
        portal = record k.portal { context = Some moment.scene.session.next_context };
        named = named_changed name k.portal (λ p. record p { context = Some moment.scene.session.next_context }) moment.scene.session.portals (λ q. refl) k.named;
        is = record { has_context = refl; has_owner = k.is.has_owner; expr = k.is.expr; created = k.is.created };
      })) next

  pub level_owned : (moment : Moment) → Nears levels name moment.scene → (lo : ℕ) × (level_owner moment.scene.session ≡ Some lo)
  level_owned moment at = grind (arith, nat_tests, working_in levels moment.scene active at.are, is_there)

  pub behind_owner : (xs : List Element) (moment : Moment) → Makes levels name true false moment.scene → ((m : Moment) → Makes levels name true true m.scene → Runs w Q xs m)
      → Runs w Q (Element.MakeOwner (OfPortal name) ∷ xs) moment
  unfolding does
  behind_owner xs moment k next =
      let lo = level_owned moment k.at in
      runs_on w (Makes levels name true true) Q (Element.MakeOwner (OfPortal name)) xs moment (record { stands = k.at.stands; asks = tt })
      (fallible_leads (Makes levels name true true) w moment _ (new_owner_made (OfPortal name)) k.at.stands (λ z q. q.at.stands)
      (λ room. record {
        at = grind (arith, nat_tests, owner_portal moment.scene k.at.stands (working_in levels moment.scene active k.at.are) name k.portal (named_in name k.portal moment.scene.session.portals k.named) lo.0 lo.1, working_in levels moment.scene active k.at.are, named_in name k.portal moment.scene.session.portals k.named, no_value_of k.portal.owner k.is.has_owner, below_limit 65536 (size moment.scene.session.owners) room, beside_becomes name);
        portal = record k.portal { owner = Some moment.scene.session.next_owner };
        named = named_changed name k.portal (λ p. record p { owner = Some moment.scene.session.next_owner }) moment.scene.session.portals (λ q. refl) k.named;
        is = record { has_context = k.is.has_context; has_owner = refl; expr = k.is.expr; created = k.is.created };
      })) next

  -- the context of one row, and then the portal is ready
  pub behind_row : (xs : List Element) (moment : Moment) → Makes levels name true true moment.scene → ((m : Moment) → Nears levels name m.scene → Runs w Q xs m)
      → Runs w Q (Element.MakeContext (RowContext name) ∷ xs) moment
  unfolding does
  behind_row xs moment k next =
      runs_on w (Nears levels name) Q (Element.MakeContext (RowContext name)) xs moment (record { stands = k.at.stands; asks = tt })
      (fallible_leads (Nears levels name) w moment _ (new_context_made (RowContext name)) k.at.stands (λ z q. q.stands)
      (λ _. record { stands = row_made k; are = row_levels k; beside = row_beside k })) next
    where
      row_made : (k : Makes levels name true true moment.scene) → Stands (new_context_made (RowContext name) moment.scene).scene
      row_made k =
          let c = is_there k.portal.context k.is.has_context in
          let is : option_and_then (λ (p : OpenPortal). p.context) (portal_named name moment.scene.session.portals) ≡ Some c.0 = ap (option_and_then (λ (p : OpenPortal). p.context)) k.named ∙ c.1 in
          subst (λ (o : Option ℕ).
          Stands (where_there o (λ parent. in_order (context_made parent (codes "ExprContext") true CtxKind.Small ∷ portal_becomes name (λ p. record p { expr = Some moment.scene.session.next_context }) ∷ [])) moment.scene).scene) (sym is)
          (row_portal moment.scene k.at.stands (working_in levels moment.scene active k.at.are) name k.portal (named_in name k.portal moment.scene.session.portals k.named) c.0 c.1 k.is.expr)

      row_levels : (k : Makes levels name true true moment.scene) → (new_context_made (RowContext name) moment.scene).scene.session.levels ≡ levels
      row_levels k = go (option_and_then (λ (p : OpenPortal). p.context) (portal_named name moment.scene.session.portals))
        where
          go : (o : Option ℕ)
              → (where_there o (λ parent. in_order (context_made parent (codes "ExprContext") true CtxKind.Small ∷ portal_becomes name (λ p. record p { expr = Some moment.scene.session.next_context }) ∷ [])) moment.scene).scene.session.levels ≡ levels
          go None = k.at.are
          go (Some c) = k.at.are

      row_beside : (k : Makes levels name true true moment.scene) → All (RestsBeside name) (new_context_made (RowContext name) moment.scene).scene.session.portals
      row_beside k = go (option_and_then (λ (p : OpenPortal). p.context) (portal_named name moment.scene.session.portals))
        where
          go : (o : Option ℕ)
              → All (RestsBeside name) (where_there o (λ parent. in_order (context_made parent (codes "ExprContext") true CtxKind.Small ∷ portal_becomes name (λ p. record p { expr = Some moment.scene.session.next_context }) ∷ [])) moment.scene).scene.session.portals
          go None = k.at.beside
          go (Some c) = beside_becomes name (λ p. record p { expr = Some moment.scene.session.next_context }) moment.scene.session.portals (λ q. refl) k.at.beside

  pub ready_leads : (moment : Moment) → Nears levels name moment.scene → Leads (At levels) (does w (Element.PortalReady name) moment)
  unfolding does
  ready_leads moment k =
      let works : Works moment.scene (does w (Element.PortalReady name) moment).moment.scene = ready_works w moment k.stands (working_in levels moment.scene active k.are) name in
      record {
        stands = works.stands;
        passed = grind (arith, nat_tests, beside_rests name);
      }

-- The portal of a name is fetched from in a session with these levels, whose portals are at rest.
pub record Fetches (levels : List LevelState) (name : Text) (scene : Scene) : Type 0 where
  at : At levels scene
  fetched : IsFetched name scene

-- The elements of a fetch.
abbrev AllFetch : Option ℕ → List LevelState → Text → List Element → Type 0
AllFetch w levels name [] = Unit {0}
AllFetch w levels name (x ∷ xs) = ((m : Moment) → Fetches levels name m.scene → Meets x m.scene × Leads (Fetches levels name) (does w x m)) × AllFetch w levels name xs

pub both_fetch : (w : Option ℕ) (levels : List LevelState) (name : Text) (xs ys : List Element) → AllFetch w levels name xs → AllFetch w levels name ys → AllFetch w levels name (xs ++ ys)
both_fetch w levels name [] ys a b = b
both_fetch w levels name (x ∷ xs) ys a b = (a.0, both_fetch w levels name xs ys a.1 b)

pub all_fetch : (w : Option ℕ) (levels : List LevelState) (name : Text) (xs : List Element) (moment : Moment) → Fetches levels name moment.scene → AllFetch w levels name xs → Runs w (Fetches levels name) xs moment
all_fetch w levels name [] moment k a = runs_nowhere w (Fetches levels name) moment k.at.stands k
all_fetch w levels name (x ∷ xs) moment k a = runs_on w (Fetches levels name) (Fetches levels name) x xs moment (a.0 moment k).0 (a.0 moment k).1 (λ m l. all_fetch w levels name xs m l a.1)

pub fetches_on : (levels : List LevelState) (name : Text) (s z : Scene) → Fetches levels name s → Turns name s z → Fetches levels name z
fetches_on levels name s z k t = grind (arith, nat_tests)

module _ (w : Option ℕ) (levels : List LevelState) (active : IsWorking levels) (name : Text) where
  -- a page that is pinned is one of the buffers
  abbrev IsStep : ScanStep → Type 0
  IsStep (ScanStep.Pin page) = page < 1024
  IsStep other = Unit {0}

  abbrev AreSteps : List ScanStep → Type 0
  AreSteps [] = Unit {0}
  AreSteps (s ∷ ss) = IsStep s × AreSteps ss

  pub both_steps : (xs ys : List ScanStep) → AreSteps xs → AreSteps ys → AreSteps (xs ++ ys)
  both_steps [] ys a b = b
  both_steps (x ∷ xs) ys a b = (a.0, both_steps xs ys a.1 b)

  pub unpinned_steps : (page : Option ℕ) → AreSteps (unpinned page)
  unpinned_steps page = grind (arith, nat_tests)

  pub page_is : (scan : Scan) → page_of scan < 1024
  page_is scan = omega arith

  pub pages : (b : Bool) (scan : Scan) → AreSteps (if b then unpinned scan.page ++ (ScanStep.Pin (page_of scan) ∷ []) else [])
  pages b scan = grind (arith, nat_tests, both_steps (unpinned scan.page) (ScanStep.Pin (page_of scan) ∷ []) (unpinned_steps scan.page) (page_is scan, tt), unpinned_steps scan.page, page_is scan)

  pub rows_are : (b : Bool) (scan : Scan) → AreSteps (if b then ScanStep.Bad scan.at ∷ [] else ScanStep.Alloc ∷ (row_step scan ∷ []))
  rows_are b scan = grind (arith, nat_tests)

  pub turn_is : (b : Bool) (scan : Scan) → AreSteps (if b then unpinned scan.page ++ (ScanStep.End ∷ []) else ScanStep.Reset ∷ (page_steps scan ++ row_steps scan))
  turn_is b scan = grind (arith, nat_tests, both_steps (unpinned scan.page) (ScanStep.End ∷ []) (unpinned_steps scan.page) (tt, tt), both_steps (page_steps scan) (row_steps scan) (pages (is_tenth scan) scan) (rows_are (is_bad scan) scan), unpinned_steps scan.page, pages (is_tenth scan) scan, rows_are (is_bad scan) scan)

  abbrev AllTurn : List Element → Type 0
  AllTurn xs = AllFetch w levels name xs

  -- the elements of a step, each in its turn
  pub in_turn : (x : Element) → ((m : Moment) → At levels m.scene → Asks x m.scene) → ((m : Moment) → At levels m.scene → Turns name m.scene (does w x m).moment.scene) → (m : Moment) → Fetches levels name m.scene
      → Meets (Element.InTurn name x) m.scene × Leads (Fetches levels name) (does w (Element.InTurn name x) m)
  in_turn x asks turns m k =
      let t : Turned name m.scene (does w (Element.InTurn name x) m) = turned w m k.at.stands (working_at levels m.scene active k.at) name x k.fetched (turns m k.at) in (
        record { stands = k.at.stands; asks = asks m k.at },
        record { stands = t.stands; passed = λ none. fetches_on levels name m.scene (does w (Element.InTurn name x) m).moment.scene k (t.passed none) },
      )

  -- and one that leaves the portals as they are
  pub beside_turn : (x : Element) → ((m : Moment) → At levels m.scene → Asks x m.scene) → ((m : Moment) → At levels m.scene → Beside m.scene (does w x m).moment.scene) → (m : Moment) → Fetches levels name m.scene
      → Meets (Element.InTurn name x) m.scene × Leads (Fetches levels name) (does w (Element.InTurn name x) m)
  beside_turn x asks beside = in_turn x asks (λ m k. beside_turns name m.scene (does w x m).moment.scene (beside m k))

  pub says_fetched : (event : What) (m : Moment) → Fetches levels name m.scene → Meets (Element.Says event) m.scene × Leads (Fetches levels name) (does w (Element.Says event) m)
  unfolding does
  says_fetched event m k = (record { stands = k.at.stands; asks = tt }, record { stands = k.at.stands; passed = λ _. k })

  pub step_work : (s : ScanStep) → IsStep s → AllTurn (map (Element.InTurn name) (Element.Scans name s ∷ fallible_part name s))
  step_work s is = (in_turn (Element.Scans name s) (λ m k. tt) (λ m k. scan_turns w m k.stands (working_at levels m.scene active k) name s), parts s is)
    where
      parts : (s : ScanStep) → IsStep s → AllTurn (map (Element.InTurn name) (fallible_part name s))
      parts (ScanStep.Pin page) small = (
        beside_turn (Element.Enlarge (OfPortal name)) (λ m k. tt) (λ m k. portal_enlarges w m k.stands (working_at levels m.scene active k) name),
        (
          beside_turn (Element.Take (OfPortal name) buffer_pin page) (λ m k. working_at levels m.scene active k)
              (λ m k.
              portal_takes w m k.stands (working_at levels m.scene active k) name buffer_pin page refl (λ z. absurd (omega (arith, z))) (λ serial. record { kind = inl (record { from = omega arith; to = omega arith }); buffer = λ _. small })),
          tt,
        ),
      )
      parts (ScanStep.Bad row) is = (beside_turn (Element.Checks (Check.Refuse (Error.BadRow row))) (λ m k. tt) (λ m k. check_beside w m k.stands (working_at levels m.scene active k) name (Check.Refuse (Error.BadRow row))), tt)
      parts ScanStep.Alloc is = (beside_turn (Element.Alloc (InRow name) None 64 false) (λ m k. tt) (λ m k. row_allocates w m k.stands (working_at levels m.scene active k) name None 64), tt)
      parts ScanStep.Reset is = tt
      parts (ScanStep.Unpin page) is = tt
      parts (ScanStep.Row row value) is = tt
      parts ScanStep.End is = tt

  pub steps_work : (ss : List ScanStep) → AreSteps ss → AllTurn (flat_map (λ s. map (Element.InTurn name) (Element.Scans name s ∷ fallible_part name s)) ss)
  steps_work [] a = tt
  steps_work (s ∷ ss) a = both_fetch w levels name (map (Element.InTurn name) (Element.Scans name s ∷ fallible_part name s)) _ (step_work s a.0) (steps_work ss a.1)

  pub fetch_work : (count : ℕ) (scan : Scan) (rows : ℕ) → AllTurn (fetch_steps name count scan rows)
  fetch_work zero scan rows = (says_fetched (What.Fetched name rows), tt)
  fetch_work (suc count) scan rows = grind (arith, nat_tests, both_fetch, steps_work (scan_turn scan) (turn_is (scan.at == scan.rows) scan), turn_is (scan.at == scan.rows) scan, fetch_work count (after_turn scan) (rows + 1), says_fetched)

  pub fetch_all : (count : ℕ) (o : Option OpenPortal) → AllTurn (option_map_or (λ portal. fetch_steps name count portal.scan 0) o [])
  fetch_all count o = grind (arith, nat_tests, fetch_work count)

pub behind_begin : (w : Option ℕ) (levels : List LevelState) → IsWorking levels → (name : Text) (Q : Scene → Type 0) (xs : List Element) (moment : Moment) → At levels moment.scene → ((m : Moment) → Fetches levels name m.scene → Runs w Q xs m)
    → Runs w Q (Element.FetchBegins name ∷ xs) moment
behind_begin w levels active name Q xs moment k next =
    let working = working_at levels moment.scene active k in
    let works : Works moment.scene (does w (Element.FetchBegins name) moment).moment.scene = begins_works w moment k.stands working name in
    runs_on w (Fetches levels name) Q (Element.FetchBegins name) xs moment (record { stands = k.stands; asks = tt })
    (record {
      stands = works.stands;
      passed = grind (arith, nat_tests, begins_fetched w moment k.stands working name);
    }) next

pub is_unnamed : (o : Option OpenPortal) (error : Error) → unless (is_none o) error ≡ None → o ≡ None
is_unnamed o error e = grind (arith, nat_tests)

module _ (w : Option ℕ) (levels : List LevelState) (active : IsWorking levels) where
  pub portal_leads : (name : Text) (object rows : ℕ) (bad : Option ℕ) (moment : Moment) → At levels moment.scene → portal_named name moment.scene.session.portals ≡ None → Runs w (At levels) (portal_steps name object rows bad) moment
  portal_leads name object rows bad moment at free =
      behind_made w levels active name (At levels) object rows bad _ moment at free
      (λ m k. behind_context w levels active name (At levels) _ m k
      (λ m k. behind_owner w levels active name (At levels) _ m k
      (λ m k. behind_beside w levels active name (At levels) true true (Element.TakeLock (OfPortal name) object AccessShareLock) _ m k tt (portal_locks w m k.at.stands (working_in levels m.scene active k.at.are) name object AccessShareLock)
      (λ m k. behind_beside w levels active name (At levels) true true (Element.Enlarge (OfPortal name)) _ m k tt (portal_enlarges w m k.at.stands (working_in levels m.scene active k.at.are) name)
      (λ m k. behind_beside w levels active name (At levels) true true (Element.Take (OfPortal name) relcache_reference object) _ m k (working_in levels m.scene active k.at.are)
      (portal_takes w m k.at.stands (working_in levels m.scene active k.at.are) name relcache_reference object refl (λ z. absurd (omega (arith, z))) (class_item (table_of m.scene.around.kinds) Relcache object))
      (λ m k. behind_beside w levels active name (At levels) true true (Element.Enlarge (OfPortal name)) _ m k tt (portal_enlarges w m k.at.stands (working_in levels m.scene active k.at.are) name)
      (λ m k. behind_beside w levels active name (At levels) true true (Element.Take (OfPortal name) snapshot_reference object) _ m k (working_in levels m.scene active k.at.are)
      (portal_takes w m k.at.stands (working_in levels m.scene active k.at.are) name snapshot_reference object refl (λ z. absurd (omega (arith, z))) (snapshot_item (table_of m.scene.around.kinds) object))
      (λ m k. behind_beside w levels active name (At levels) true true (Element.Alloc (InPortal name) None 200 false) _ m k tt (portal_allocates w m k.at.stands (working_in levels m.scene active k.at.are) name None 200)
      (λ m k. behind_row w levels active name (At levels) _ m k
      (λ m k. runs_on w (At levels) (At levels) (Element.PortalReady name) [] m (record { stands = k.stands; asks = tt }) (ready_leads w levels active name (At levels) m k) (λ m k. nothing_more w levels m k)))))))))))

-- all these checks pass
abbrev pub Pass : (Check → Type 0) → List Check → Type 0
Pass P [] = Unit {0}
Pass P (check ∷ checks) = P check × Pass P checks

abbrev pub PassIn : Scene → Check → Type 0
PassIn scene check = failure check scene ≡ None

-- A row leads on where its steps do behind checks that pass.
pub row_leads : (w : Option ℕ) (Q : Scene → Type 0) (checks : List Check) (steps : List Element) (moment : Moment) → Stands moment.scene
    → (Pass (PassIn moment.scene) checks → Runs w Q steps moment) → Runs w Q (map Element.Checks checks ++ steps) moment
unfolding does
row_leads w Q [] steps moment h next = next tt
row_leads w Q (check ∷ checks) steps moment h next =
    runs_then w Q (Element.Checks check) (map Element.Checks checks ++ steps) moment (record { stands = h; asks = tt }) (λ r e. stopped (failure check moment.scene))
    (λ none. went_on (failure check moment.scene) refl none (λ e. row_leads w Q checks steps moment h (λ passes. next (e, passes))))
  where
    stopped : (r : Option Error) → Stands (unless_refused r moment nothing).moment.scene
    stopped None = h
    stopped (Some error) = h

    went_on : (r : Option Error) → failure check moment.scene ≡ r → (unless_refused r moment nothing).refusal ≡ None → (failure check moment.scene ≡ None → Runs w Q (map Element.Checks checks ++ steps) moment)
        → Runs w Q (map Element.Checks checks ++ steps) (unless_refused r moment nothing).moment
    went_on None e none rest = rest e
    went_on (Some error) e none rest = absurd (cc none)

-- What is known of the steps of a row, where P is known of each of its checks.
module _ (P : Check → Type 0) where
  -- of a step by itself
  abbrev Known : Element → Type 0
  Known (Element.MakeContext (ScriptContext name parent kind)) = Unit {0}
  Known (Element.Switch name) = Unit {0}
  Known (Element.Register name) = Unit {0}
  Known (Element.Reset name) = P (Check.MayReset name)
  Known (Element.ResetOnly name) = Unit {0}
  Known (Element.Delete name) = P (Check.MayDelete name)
  Known (Element.DeleteChildren name) = P (Check.MayReset name)
  Known (Element.Reparent name parent) = P (Check.MayMove name parent)
  Known (Element.Alloc InCurrent (Some name) size zeroed) = Unit {0}
  Known (Element.Realloc name size) = Unit {0}
  Known (Element.FreeChunk name) = Unit {0}
  Known (Element.Put name at bytes) = Unit {0}
  Known (Element.Show name at count) = Unit {0}
  Known (Element.Touch file) = Unit {0}
  Known (Element.GiveBack kind key) = Unit {0}
  Known (Element.GiveBackNamed kind key) = Unit {0}
  Known (Element.TakeLock OfLevel object mode) = Unit {0}
  Known (Element.Unlock object mode) = Unit {0}
  Known (Element.PushSnapshot key) = Unit {0}
  Known Element.PopSnapshot = Unit {0}
  Known (Element.MakePlan number) = P (Check.PlanIsNew number)
  Known (Element.DropPlan number) = Unit {0}
  Known (Element.EndPortal name) = Unit {0}
  Known Element.Report = Unit {0}
  Known Element.Stat = Unit {0}
  Known (Element.TellBuffer buffer) = Unit {0}
  Known other = ⊥

  -- of one that takes an item
  data Takes : Element → Type 0 where
    takes_pin : {buffer : ℕ} → P (Check.IsBuffer buffer) → Takes (Element.Take OfLevel buffer_pin buffer)
    takes_file : {number : ℕ} → Takes (Element.Take OfLevel file_kind number)
    takes_reference : (class : ReferenceClass) {key : ℕ} → Takes (Element.Take OfLevel (class_kind class) key)
    takes_snapshot : {key : ℕ} → Takes (Element.Take OfLevel snapshot_reference key)
    takes_plan : {number : ℕ} → P (Check.IsPlan number) → Takes (Element.Take OfLevel plan_reference number)
    takes_named : {kind : Text} {key : ℕ} → Takes (Element.TakeNamed kind key)

  data Ready : List Element → Type 0 where
    nothing_at_all : Ready []
    by_itself : {x : Element} → Known x → Ready (x ∷ [])
    taking : {x : Element} → Takes x → Ready (Element.Enlarge OfLevel ∷ x ∷ [])
    opens : {name : Text} {object rows : ℕ} {bad : Option ℕ} → P (Check.PortalIsNew name) → Ready (portal_steps name object rows bad)
    fetches : {name : Text} (count : ℕ) (opened : Option OpenPortal) → Ready (Element.FetchBegins name ∷ option_map_or (λ p. fetch_steps name count p.scan 0) opened [])

  portals_ready : (c : PortalCommand) (portals : List OpenPortal) → Pass P (portal_row c portals).checks → Ready (portal_row c portals).steps
  portals_ready (PortalCommand.Open name object rows bad) portals ok = opens ok.0
  portals_ready (PortalCommand.Fetch name count) portals ok = fetches count (portal_named name portals)
  portals_ready (PortalCommand.End name) portals ok = by_itself tt

  -- Each row is one of these.
  row_ready : (c : Work) (portals : List OpenPortal) → Pass P (row_of c portals).checks → Ready (row_of c portals).steps
  row_ready c portals ok = grind (arith, nat_tests, nothing_at_all, by_itself, taking, takes_pin, takes_file, takes_reference, takes_snapshot, takes_plan, takes_named, portals_ready)

-- the steps of a command, behind its checks
module _ (w : Option ℕ) (levels : List LevelState) (active : IsWorking levels) where
  by_step : (x : Element) (m : Moment) → At levels m.scene → Asks x m.scene → Works m.scene (does w x m).moment.scene → Runs w (At levels) (x ∷ []) m
  by_step x m k asks works = behind_work w levels (At levels) x [] m k asks works (λ n l. nothing_more w levels n l)

  by_take : (x : Element) (m : Moment) → At levels m.scene → ((n : Moment) → At levels n.scene → Asks x n.scene) → ((n : Moment) → At levels n.scene → Works n.scene (does w x n).moment.scene) → Runs w (At levels) (Element.Enlarge OfLevel ∷ x ∷ []) m
  by_take x m k asks works = behind_work w levels (At levels) (Element.Enlarge OfLevel) _ m k tt (enlarge_works w m k.stands) (λ n l. by_step x n l (asks n l) (works n l))

  works_in : (m : Moment) → At levels m.scene → IsWorking m.scene.session.levels
  works_in m k = working_at levels m.scene active k

  known_leads : (x : Element) (m : Moment) → At levels m.scene → Known (PassIn m.scene) x → Runs w (At levels) (x ∷ []) m
  unfolding does
  known_leads (Element.MakeContext (ScriptContext name parent kind)) m k ok = by_step _ m k tt (make_script_context_works w m k.stands (works_in m k) name parent kind)
  known_leads (Element.Switch name) m k ok = by_step _ m k tt (switch_works w m k.stands (works_in m k) name)
  known_leads (Element.Register name) m k ok = by_step _ m k tt (register_works w m k.stands (works_in m k) name)
  known_leads (Element.Reset name) m k ok = by_step _ m k tt (reset_works w m k.stands (works_in m k) name ok)
  known_leads (Element.ResetOnly name) m k ok = by_step _ m k tt (reset_only_works w m k.stands (works_in m k) name)
  known_leads (Element.Delete name) m k ok = by_step _ m k tt (delete_works w m k.stands (works_in m k) name ok)
  known_leads (Element.DeleteChildren name) m k ok = by_step _ m k tt (delete_children_works w m k.stands (works_in m k) name ok)
  known_leads (Element.Reparent name parent) m k ok = by_step _ m k ok (reparent_works w m k.stands (works_in m k) name parent ok)
  known_leads (Element.Alloc InCurrent (Some name) size zeroed) m k ok = by_step _ m k tt (alloc_beside w m k.stands (works_in m k) InCurrent (Some name) size zeroed).works
  known_leads (Element.Realloc name size) m k ok = by_step _ m k tt (realloc_works w m k.stands (works_in m k) name size)
  known_leads (Element.FreeChunk name) m k ok = by_step _ m k tt (free_works w m k.stands (works_in m k) name)
  known_leads (Element.Put name at bytes) m k ok = by_step _ m k tt (put_works w m k.stands (works_in m k) name at bytes)
  known_leads (Element.Show name at count) m k ok = by_step _ m k tt (show_works w name at count m k.stands)
  known_leads (Element.Touch file) m k ok = by_step _ m k tt (touch_works w m k.stands (works_in m k) file)
  known_leads (Element.GiveBack kind key) m k ok = by_step _ m k tt (give_back_works w m k.stands (works_in m k) kind key)
  known_leads (Element.GiveBackNamed kind key) m k ok = by_step _ m k tt (give_back_named_works w m k.stands (works_in m k) kind key)
  known_leads (Element.TakeLock OfLevel object mode) m k ok = by_step _ m k tt (lock_beside w m k.stands (works_in m k) OfLevel (there w m k.stands (works_in m k)) object mode).works
  known_leads (Element.Unlock object mode) m k ok = by_step _ m k tt (unlock_works w m k.stands (works_in m k) object mode)
  known_leads (Element.PushSnapshot key) m k ok = by_step _ m k tt (push_works w m k.stands (works_in m k) key)
  known_leads Element.PopSnapshot m k ok = by_step _ m k tt (pop_works w m k.stands)
  known_leads (Element.MakePlan number) m k ok = by_step _ m k tt (make_plan_works w m k.stands (works_in m k) number (is_new (plan_at number m.scene.session.plans) Error.NameTaken ok))
  known_leads (Element.DropPlan number) m k ok = by_step _ m k tt (drop_plan_works w m k.stands (works_in m k) number)
  known_leads (Element.EndPortal name) m k ok = by_step _ m k (works_in m k, k.at_rest) (end_portal_works w m k.stands (works_in m k) k.at_rest name)
  known_leads Element.Report m k ok = by_step _ m k tt (nothing_works m.scene k.stands)
  known_leads Element.Stat m k ok = by_step _ m k tt (nothing_works m.scene k.stands)
  known_leads (Element.TellBuffer buffer) m k ok = by_step _ m k tt (nothing_works m.scene k.stands)
  known_leads other m k ok = absurd ok

  takes_lead : (x : Element) (m : Moment) → At levels m.scene → Takes (PassIn m.scene) x → Runs w (At levels) (Element.Enlarge OfLevel ∷ x ∷ []) m
  takes_lead x m k (takes_pin {buffer = buffer} ok) = by_take x m k works_in (λ n l. pin_works w n l.stands (works_in n l) buffer (is_buffer buffer (nat_lt buffer 1024) Error.NoSuchBuffer refl ok))
  takes_lead x m k (takes_file {number = number}) = by_take x m k works_in (λ n l. file_works w n l.stands (works_in n l) number)
  takes_lead x m k (takes_reference class {key = key}) =
      by_take x m k works_in
      (λ n l. take_works w n l.stands (works_in n l) (class_kind class) key (class_unkept class) (class_other class) (class_item (table_of n.scene.around.kinds) class key))
  takes_lead x m k (takes_snapshot {key = key}) =
      by_take x m k works_in
      (λ n l. take_works w n l.stands (works_in n l) snapshot_reference key refl (λ z. absurd (omega (arith, z))) (snapshot_item (table_of n.scene.around.kinds) key))
  takes_lead x m k (takes_plan {number = number} ok) =
      behind_room w levels (At levels) (Check.IsPlan number) _ m k ok
      (λ n l ok.
      let p = is_standing (plan_at number n.scene.session.plans) Error.NoSuchName ok in
      by_step x n l (works_in n l) (take_plan_works w n l.stands (works_in n l) number p.0 p.1))
  takes_lead x m k (takes_named {kind = kind} {key = key}) = by_take x m k works_in (λ n l. take_named_works w n l.stands (works_in n l) kind key)

  ready_steps_lead : (xs : List Element) (m : Moment) → At levels m.scene → Ready (PassIn m.scene) xs → Runs w (At levels) xs m
  ready_steps_lead xs m k nothing_at_all = nothing_more w levels m k
  ready_steps_lead xs m k (by_itself {x = x} ok) = known_leads x m k ok
  ready_steps_lead xs m k (taking {x = x} ok) = takes_lead x m k ok
  ready_steps_lead xs m k (opens {name = name} {object = object} {rows = rows} {bad = bad} ok) = portal_leads w levels active name object rows bad m k (is_unnamed (portal_named name m.scene.session.portals) Error.PortalTaken ok)
  ready_steps_lead xs m k (fetches {name = name} count opened) =
      behind_begin w levels active name (At levels) _ m k
      (λ n l.
      let f : Runs w (Fetches levels name) (option_map_or (λ p. fetch_steps name count p.scan 0) opened []) n =
      all_fetch w levels name _ n l (fetch_all w levels active name count opened) in
      record { stands = f.stands; passed = λ none. let q = f.passed none in q.at; run = f.run })

  -- What is done within a transaction leads on.
  pub work_runs : (c : Work) (session : SessionState) (moment : Moment) → At levels moment.scene → Runs w (At levels) (work_of c session) moment
  work_runs c session moment at = row_leads w (At levels) (row_of c session.portals).checks (row_of c session.portals).steps moment at.stands (λ ok. ready_steps_lead (row_of c session.portals).steps moment at (row_ready (PassIn moment.scene) c session.portals ok))

  pub work_leads : (c : Work) (session : SessionState) (moment : Moment) → At levels moment.scene → Leads (At levels) (does_all w (work_of c session) moment)
  work_leads c session moment at = let k : Runs w (At levels) (work_of c session) moment = work_runs c session moment at in record { stands = k.stands; passed = k.passed }

-- a level as it is being begun
abbrev pub begun : Option Text → Bool → Option ℕ → Option ℕ → Bool → LevelState
begun name implicit c o starting =
    record { name = name; context = c; owner = o; implicit = implicit; aborted = false; starting = starting }

pub record HasContext (name : Option Text) (implicit : Bool) (outer : List LevelState) (scene : Scene) : Type 0 where
  stands : Stands scene
  at_rest : All IsAtRest scene.session.portals
  context : ℕ
  levels : scene.session.levels ≡ begun name implicit (Some context) None true ∷ outer

pub record HasOwner (name : Option Text) (implicit : Bool) (outer : List LevelState) (scene : Scene) : Type 0 where
  stands : Stands scene
  at_rest : All IsAtRest scene.session.portals
  context : ℕ
  owner : ℕ
  levels : scene.session.levels ≡ begun name implicit (Some context) (Some owner) true ∷ outer

pub record HasBegun (name : Option Text) (implicit : Bool) (outer : List LevelState) (scene : Scene) : Type 0 where
  pub stands : Stands scene
  pub at_rest : All IsAtRest scene.session.portals
  pub context : ℕ
  pub owner : ℕ
  pub levels : scene.session.levels ≡ begun name implicit (Some context) (Some owner) false ∷ outer

module _ (w : Option ℕ) (name : Option Text) (implicit : Bool) (levels : List LevelState) where
  pub level_leads : (moment : Moment) → At levels moment.scene → AreOuter levels → (implicit ≡ true → levels ≡ []) → Leads (At (begun name implicit None None true ∷ levels)) (does w (Element.MakeLevel name implicit) moment)
  unfolding does
  level_leads moment at outer alone =
      fallible_leads (At (begun name implicit None None true ∷ levels)) w moment _ (level_made name implicit) at.stands (λ z q. q.stands)
      (λ _. record {
        stands = level_made_stands name implicit moment.scene at.stands at.at_rest (subst AreOuter (sym at.are) outer) (λ e. at.are ∙ alone e);
        are = ap (λ (ls : List LevelState). begun name implicit None None true ∷ ls) at.are;
        at_rest = at.at_rest;
      })

  pub context_leads : (moment : Moment) → At (begun name implicit None None true ∷ levels) moment.scene → Leads (HasContext name implicit levels) (does w (Element.MakeContext LevelContext) moment)
  unfolding does
  context_leads moment at =
      fallible_leads (HasContext name implicit levels) w moment _ (new_context_made LevelContext) at.stands (λ z q. q.stands)
      (λ _. settled_as (λ (z : Scene). HasContext name implicit levels (new_context_made LevelContext z).scene) moment.scene (begun name implicit None None true ∷ levels) at.stands at.are
      (λ k. record {
        stands = level_context_stands (begun name implicit None None true) levels moment.scene refl refl k;
        at_rest = at.at_rest;
        context = moment.scene.session.next_context;
        levels = refl;
      }))

  pub owner_leads : (moment : Moment) → HasContext name implicit levels moment.scene → Leads (HasOwner name implicit levels) (does w (Element.MakeOwner OfLevel) moment)
  unfolding does
  owner_leads moment at =
      fallible_leads (HasOwner name implicit levels) w moment _ (new_owner_made OfLevel) at.stands (λ z q. q.stands)
      (λ free. settled_as (λ (z : Scene). HasOwner name implicit levels (new_owner_made OfLevel z).scene) moment.scene (begun name implicit (Some at.context) None true ∷ levels) at.stands at.levels
      (λ k. record {
        stands = level_owner_stands (begun name implicit (Some at.context) None true) levels moment.scene refl refl (below_limit 65536 (size moment.scene.session.owners) free) k;
        at_rest = at.at_rest;
        context = at.context;
        owner = moment.scene.session.next_owner;
        levels = refl;
      }))

  pub stands_leads : (moment : Moment) → HasOwner name implicit levels moment.scene → Leads (HasBegun name implicit levels) (does w Element.LevelStands moment)
  unfolding does
  stands_leads moment at = grind (arith, nat_tests, settled_as, level_stands_stands)

  -- a level is begun
  pub start_leads : (moment : Moment) → At levels moment.scene → AreOuter levels → (implicit ≡ true → levels ≡ []) → Runs w (HasBegun name implicit levels) (start name implicit) moment
  start_leads moment at outer alone =
      runs_on w (At (begun name implicit None None true ∷ levels)) (HasBegun name implicit levels) _ _ moment (record { stands = at.stands; asks = tt }) (level_leads moment at outer alone)
      (λ m k. runs_on w (HasContext name implicit levels) (HasBegun name implicit levels) _ _ m (record { stands = k.stands; asks = tt }) (context_leads m k)
      (λ m k. runs_on w (HasOwner name implicit levels) (HasBegun name implicit levels) _ _ m (record { stands = k.stands; asks = tt }) (owner_leads m k)
      (λ m k. runs_on w (HasBegun name implicit levels) (HasBegun name implicit levels) _ _ m (record { stands = k.stands; asks = tt }) (stands_leads m k)
      (λ m k. runs_nowhere w (HasBegun name implicit levels) m k.stands k))))

pub begun_active : (name : Option Text) (implicit : Bool) (c o : ℕ) → IsActive (begun name implicit (Some c) (Some o) false)
begun_active name implicit c o = record { made = record { context = refl; owner = refl }; started = refl; unaborted = refl }

-- a block was begun
pub begun_between : (name : Option Text) (levels : List LevelState) (scene : Scene) → AreOuter levels → HasBegun name false levels scene → StandsBetweenLines scene
begun_between name levels scene outer h = grind (arith, nat_tests, outer_open levels outer)

-- what is known between two lines, and of the levels
pub at_left : (levels : List LevelState) (scene : Scene) → Leaves levels scene → At levels scene
at_left levels scene h = record { stands = h.between.stands; are = h.are; at_rest = h.between.at_rest }

pub outer_of : (scene : Scene) (level : LevelState) (levels : List LevelState) → Stands scene → scene.session.levels ≡ level ∷ levels → AreOuter levels
outer_of scene level levels h is = grind (arith, nat_tests)

pub open_of : (scene : Scene) (level : LevelState) (levels : List LevelState) → StandsBetweenLines scene → scene.session.levels ≡ level ∷ levels → IsOpen level
open_of scene level levels h is = (subst AreOpen is h.open_levels).0

pub active_of : (scene : Scene) (level : LevelState) (levels : List LevelState) → StandsBetweenLines scene → scene.session.levels ≡ level ∷ levels → level.aborted ≡ false → IsActive level
active_of scene level levels h is unaborted = grind (arith, nat_tests, open_of scene level levels h is)

pub only_left : (b : Bool) → (b && true) ≡ false → b ≡ false
only_left b e = grind (arith, nat_tests)

pub says_leads : (w : Option ℕ) (event : What) (moment : Moment) → StandsBetweenLines moment.scene → Leads StandsBetweenLines (does w (Element.Says event) moment)
unfolding does
says_leads w event moment h = record { stands = h.stands; passed = λ _. h }

module _ (w : Option ℕ) where
  abbrev Between : List Element → Moment → Type 0
  Between xs moment = Runs w StandsBetweenLines xs moment

  pub between_says : (event : What) (xs : List Element) (moment : Moment) → StandsBetweenLines moment.scene → ((m : Moment) → StandsBetweenLines m.scene → Between xs m) → Between (Element.Says event ∷ xs) moment
  between_says event xs moment h next = runs_on w StandsBetweenLines StandsBetweenLines (Element.Says event) xs moment (record { stands = h.stands; asks = tt }) (says_leads w event moment h) next

  pub between_nothing : (moment : Moment) → StandsBetweenLines moment.scene → Between [] moment
  between_nothing moment h = runs_nowhere w StandsBetweenLines moment h.stands h

  pub then_ok_leads : (xs : List Element) (moment : Moment) → Between xs moment → Between (then_ok xs) moment
  then_ok_leads xs moment first =
      runs_both w StandsBetweenLines StandsBetweenLines xs _ moment first (λ m k. between_says What.Ok [] m k (λ m k. between_nothing m k))

  pub refused_leads : (Q : Scene → Type 0) (error : Error) (moment : Moment) → Stands moment.scene → Runs w Q (refused error) moment
  refused_leads Q error moment h = row_leads w Q (Check.Refuse error ∷ []) [] moment h (λ passes. absurd (cc passes.0))

  -- what an end leads to
  pub end_leads : (levels : List LevelState) (done : Done) → Leaves levels done.moment.scene → Leads (Leaves levels) done
  end_leads levels done h = record { stands = h.between.stands; passed = λ _. h }

  pub end_nothing : (levels : List LevelState) (moment : Moment) → Leaves levels moment.scene → Runs w (Leaves levels) [] moment
  end_nothing levels moment h = runs_nowhere w (Leaves levels) moment h.between.stands h

  -- a level is rolled back
  pub level_rolled : (level : LevelState) (levels : List LevelState) (moment : Moment) → Leaves (level ∷ levels) moment.scene
      → Runs w (Leaves levels) (if level.aborted then Element.Cleanup ∷ [] else Element.Abort ∷ Element.Cleanup ∷ []) moment
  level_rolled level levels moment h = go level.aborted refl
    where
      cleans : (old : LevelState) (m : Moment) → old.aborted ≡ true → Leaves (old ∷ levels) m.scene → Runs w (Leaves levels) (Element.Cleanup ∷ []) m
      cleans old m gone l =
          runs_on w (Leaves levels) (Leaves levels) Element.Cleanup [] m (record { stands = l.between.stands; asks = ((old, levels), l.are, gone) })
          (end_leads levels (does w Element.Cleanup m) (cleanup_stands w m l.between.stands old levels l.are gone)) (λ m k. end_nothing levels m k)

      go : (b : Bool) → level.aborted ≡ b → Runs w (Leaves levels) (if b then Element.Cleanup ∷ [] else Element.Abort ∷ Element.Cleanup ∷ []) moment
      go true e = cleans level moment e h
      go false e =
          runs_on w (Leaves (record level { aborted = true } ∷ levels)) (Leaves levels) Element.Abort (Element.Cleanup ∷ []) moment (record { stands = h.between.stands; asks = ((level, levels), h.are, e, open_of moment.scene level levels h.between h.are) })
          (end_leads (record level { aborted = true } ∷ levels) (does w Element.Abort moment)
          (abort_stands w moment h.between.stands level levels h.are e (open_of moment.scene level levels h.between h.are)))
          (λ m k. cleans (record level { aborted = true }) m refl k)

  -- Levels are rolled back, and those that are left are outer ones.
  abbrev IsOuter : Scene → Type 0
  IsOuter scene = StandsBetweenLines scene × AreOuter scene.session.levels

  pub outer_rolled : (n : ℕ) (levels : List LevelState) (moment : Moment) → Leaves levels moment.scene → AreOuter levels → Runs w IsOuter (rolled_back_to n levels) moment
  outer_rolled n [] moment h o = runs_nowhere w IsOuter moment h.between.stands (h.between, subst AreOuter (sym h.are) o)
  outer_rolled n (level ∷ levels) moment h o = go (nat_lt (length levels + 1) n) (λ m k. outer_rolled n levels m k o.2)
    where
      go : (b : Bool) → ((m : Moment) → Leaves levels m.scene → Runs w IsOuter (rolled_back_to n levels) m)
          → Runs w IsOuter (if b then [] else (if level.aborted then Element.Cleanup ∷ [] else Element.Abort ∷ Element.Cleanup ∷ []) ++ rolled_back_to n levels) moment
      go true rest = runs_nowhere w IsOuter moment h.between.stands (h.between, subst AreOuter (sym h.are) o)
      go false rest = runs_both w (Leaves levels) IsOuter _ (rolled_back_to n levels) moment (level_rolled level levels moment h) rest

  pub rolled_leads : (n : ℕ) (level : LevelState) (levels : List LevelState) (moment : Moment) → Leaves (level ∷ levels) moment.scene → n ≤ length levels + 1 → Runs w IsOuter (rolled_back_to n (level ∷ levels)) moment
  rolled_leads n level levels moment h small = go (nat_lt (length levels + 1) n) (le-ltb (length levels + 1) n small)
    where
      go : (b : Bool) → b ≡ false → Runs w IsOuter (if b then [] else (if level.aborted then Element.Cleanup ∷ [] else Element.Abort ∷ Element.Cleanup ∷ []) ++ rolled_back_to n levels) moment
      go true e = absurd (cc e)
      go false e =
          runs_both w (Leaves levels) IsOuter _ (rolled_back_to n levels) moment (level_rolled level levels moment h)
          (λ m k. outer_rolled n levels m k (outer_of moment.scene level levels h.between.stands h.are))

  pub all_rolled_leads : (n : ℕ) (level : LevelState) (levels : List LevelState) (moment : Moment) → Leaves (level ∷ levels) moment.scene → n ≤ length levels + 1 → Between (rolled_back_to n (level ∷ levels)) moment
  all_rolled_leads n level levels moment h small = grind (arith, nat_tests, rolled_leads n level levels moment h small)

  -- levels are merged into those above them
  pub record HasMerged (n : ℕ) (scene : Scene) : Type 0 where
    levels : List LevelState
    leaves : Leaves levels scene
    many : length levels ≡ n

  pub merges_leads : (k n : ℕ) (levels : List LevelState) (moment : Moment) → Leaves levels moment.scene → 1 ≤ n → length levels ≡ n + k → Runs w (HasMerged n) (replicate k Element.Subcommit) moment
  merges_leads zero n levels moment h some e = runs_nowhere w (HasMerged n) moment h.between.stands (record { levels = levels; leaves = h; many = omega (arith, e) })
  merges_leads (suc k) n [] moment h some e = absurd (omega (arith, e))
  merges_leads (suc k) n (level ∷ levels) moment h some e =
      runs_on w (Leaves levels) (HasMerged n) Element.Subcommit (replicate k Element.Subcommit) moment (record { stands = h.between.stands; asks = ((level, levels), h.are, omega (arith, e, some), h.between.at_rest) })
      (end_leads levels (does w Element.Subcommit moment) (merge_stands w moment h.between.stands level levels h.are (omega (arith, e, some)) h.between.at_rest))
      (λ m l. merges_leads k n levels m l some (omega (arith, e)))

  -- level 1 commits
  pub top_leads : (moment : Moment) → HasMerged 1 moment.scene → Between (Element.CommitTop ∷ []) moment
  top_leads moment h = go h.levels h.leaves h.many
    where
      go : (levels : List LevelState) → Leaves levels moment.scene → length levels ≡ 1 → Between (Element.CommitTop ∷ []) moment
      go [] l e = absurd (omega (arith, e))
      go (level ∷ []) l e =
          runs_on w (Leaves []) StandsBetweenLines Element.CommitTop [] moment (record { stands = l.between.stands; asks = (level, l.are) }) (end_leads [] (does w Element.CommitTop moment) (commit_stands w moment l.between.stands level l.are))
          (λ m k. between_nothing m k.between)
      go (level ∷ (other ∷ levels)) l e = absurd (omega (arith, e))

  pub commit_leads : (levels : List LevelState) (moment : Moment) → Leaves levels moment.scene → Between (commit levels) moment
  commit_leads [] moment h = between_says What.NotInTransaction [] moment h.between (λ m k. between_nothing m k)
  commit_leads (level ∷ levels) moment h = go level.aborted
    where
      go : (b : Bool) → Between (if b then rolled_back_to 1 (level ∷ levels) else committed_to 2 (level ∷ levels) ++ (Element.CommitTop ∷ [])) moment
      go true = all_rolled_leads 1 level levels moment h (omega arith)
      go false =
          runs_both w (HasMerged 1) StandsBetweenLines (committed_to 2 (level ∷ levels)) (Element.CommitTop ∷ []) moment
          (merges_leads (length (level ∷ levels) + 1 - 2) 1 (level ∷ levels) moment h (omega arith) (omega arith)) top_leads

  pub rollback_leads : (levels : List LevelState) (moment : Moment) → Leaves levels moment.scene → Between (rollback levels) moment
  rollback_leads [] moment h = between_says What.NotInTransaction [] moment h.between (λ m k. between_nothing m k)
  rollback_leads (level ∷ levels) moment h = all_rolled_leads 1 level levels moment h (omega arith)

  -- a savepoint is that of a level that there is
  pub savepoint_bound : (name : Text) (levels : List LevelState) (n : ℕ) → savepoint name levels ≡ Some n → (2 ≤ n) × (n ≤ length levels)
  savepoint_bound name [] n e = absurd (cc e)
  savepoint_bound name (level ∷ levels) n e = grind (arith, nat_tests, savepoint_bound name levels n, ltb-true 0 (length levels))

  pub at_savepoint_leads : (name : Text) (levels : List LevelState) (go_on : ℕ → List Element) (moment : Moment) → Leaves levels moment.scene
      → ((n : ℕ) → 2 ≤ n → n ≤ length levels → Between (go_on n) moment) → Between (at_savepoint name levels go_on) moment
  at_savepoint_leads name [] go_on moment h next = refused_leads StandsBetweenLines Error.NoTransactionBlock moment h.between.stands
  at_savepoint_leads name (level ∷ levels) go_on moment h next = go (savepoint name (level ∷ levels)) refl
    where
      go : (o : Option ℕ) → savepoint name (level ∷ levels) ≡ o → Between (option_map_or go_on o (refused Error.NoSuchSavepoint)) moment
      go None e = refused_leads StandsBetweenLines Error.NoSuchSavepoint moment h.between.stands
      go (Some n) e = let b = savepoint_bound name (level ∷ levels) n e in next n b.0 b.1

  pub release_leads : (n : ℕ) (levels : List LevelState) (moment : Moment) → Leaves levels moment.scene → 2 ≤ n → n ≤ length levels → Between (committed_to n levels) moment
  release_leads n levels moment h low high = grind (arith, nat_tests, merges_leads (length levels + 1 - n) (n - 1) levels moment h)

  -- a block or a savepoint is begun
  pub block_leads : (name : Option Text) (levels : List LevelState) (moment : Moment) → Leaves levels moment.scene → AreOuter levels → Between (start name false) moment
  block_leads name levels moment h outer =
      let k : Runs w (HasBegun name false levels) (start name false) moment = start_leads w name false levels moment (at_left levels moment.scene h) outer (λ e. absurd (cc e)) in
      record { stands = k.stands; passed = λ e. begun_between name levels _ outer (k.passed e); run = k.run }

  pub back_leads : (name : Text) (n : ℕ) (levels : List LevelState) (moment : Moment) → Leaves levels moment.scene → 2 ≤ n → n ≤ length levels → Between (rolled_back_to n levels ++ start (Some name) false) moment
  back_leads name n [] moment h low high = absurd (omega (arith, low, high))
  back_leads name n (level ∷ levels) moment h low high =
      runs_both w IsOuter StandsBetweenLines (rolled_back_to n (level ∷ levels)) (start (Some name) false) moment (rolled_leads n level levels moment h (omega (arith, high)))
      (λ m k. block_leads (Some name) m.scene.session.levels m (record { between = k.0; are = refl }) k.1)

  pub begin_leads : (levels : List LevelState) (moment : Moment) → Leaves levels moment.scene → Between (begin levels) moment
  begin_leads [] moment h = block_leads None [] moment h tt
  begin_leads (level ∷ levels) moment h = between_says What.AlreadyInTransaction [] moment h.between (λ m k. between_nothing m k)

  pub save_leads : (name : Text) (levels : List LevelState) (moment : Moment) → Leaves levels moment.scene → is_aborted levels ≡ false → Between (save name levels) moment
  save_leads name [] moment h active = refused_leads StandsBetweenLines Error.NoTransactionBlock moment h.between.stands
  save_leads name (level ∷ levels) moment h active = grind (arith, nat_tests, block_leads (Some name) (level ∷ levels) moment h, active_of moment.scene level levels h.between h.are active, open_of moment.scene level levels h.between h.are, outer_of moment.scene level levels h.between.stands h.are)

  -- what a command does in a level, and the level that is begun for it alone
  pub work_between : (levels : List LevelState) (work : List Element) (moment : Moment) → Leaves levels moment.scene → is_aborted levels ≡ false
      → ((ls : List LevelState) → IsWorking ls → (m : Moment) → At ls m.scene → Runs w (At ls) work m) → Between (in_transaction levels work) moment
  work_between [] work moment h active does_work =
      runs_both w (HasBegun None true []) StandsBetweenLines (start None true) _ moment
      (start_leads w None true [] moment (at_left [] moment.scene h) tt (λ _. refl))
      (λ m b.
      runs_both w (At (begun None true (Some b.context) (Some b.owner) false ∷ [])) StandsBetweenLines work _ m
      (does_work (begun None true (Some b.context) (Some b.owner) false ∷ []) (begun_active None true b.context b.owner) m (record { stands = b.stands; are = b.levels; at_rest = b.at_rest }))
      (λ m k.
      runs_on w (Leaves []) StandsBetweenLines Element.CommitTop _ m (record { stands = k.stands; asks = (begun None true (Some b.context) (Some b.owner) false, k.are) })
      (end_leads [] (does w Element.CommitTop m) (commit_stands w m k.stands (begun None true (Some b.context) (Some b.owner) false) k.are))
      (λ m l. between_says What.Ok [] m l.between (λ m k. between_nothing m k))))
  work_between (level ∷ levels) work moment h active does_work =
      runs_both w (At (level ∷ levels)) StandsBetweenLines work _ moment
      (does_work (level ∷ levels) (active_of moment.scene level levels h.between h.are active) moment (at_left (level ∷ levels) moment.scene h))
      (λ m k. between_says What.Ok [] m
      (record { stands = k.stands; open_levels = subst AreOpen (sym k.are) (subst AreOpen h.are h.between.open_levels); at_rest = k.at_rest })
      (λ m k. between_nothing m k))

  -- what begins and ends transactions and savepoints
  transaction_leads : (c : TransactionCommand) (moment : Moment) → StandsBetweenLines moment.scene → (is_aborted moment.scene.session.levels && not (ends_aborted c)) ≡ false
      → Between (transaction_of c moment.scene.session.levels) moment
  transaction_leads TransactionCommand.Begin moment h active = begin_leads moment.scene.session.levels moment (record { between = h; are = refl })
  transaction_leads TransactionCommand.Commit moment h active = commit_leads moment.scene.session.levels moment (record { between = h; are = refl })
  transaction_leads TransactionCommand.Rollback moment h active = rollback_leads moment.scene.session.levels moment (record { between = h; are = refl })
  transaction_leads (TransactionCommand.Savepoint name) moment h active =
      save_leads name moment.scene.session.levels moment (record { between = h; are = refl }) (only_left (is_aborted moment.scene.session.levels) active)
  transaction_leads (TransactionCommand.Release name) moment h active =
      at_savepoint_leads name moment.scene.session.levels (λ n. committed_to n moment.scene.session.levels) moment (record { between = h; are = refl })
      (λ n low high. release_leads n moment.scene.session.levels moment (record { between = h; are = refl }) low high)
  transaction_leads (TransactionCommand.RollbackTo name) moment h active =
      at_savepoint_leads name moment.scene.session.levels (λ n. rolled_back_to n moment.scene.session.levels ++ start (Some name) false) moment (record { between = h; are = refl })
      (λ n low high. back_leads name n moment.scene.session.levels moment (record { between = h; are = refl }) low high)

  -- each command in a transaction that isn't aborted, and each end in one that is
  pub unaborted_leads : (c : Command) (moment : Moment) → StandsBetweenLines moment.scene → (is_aborted moment.scene.session.levels && not (is_end c)) ≡ false
      → Between (unaborted c moment.scene.session) moment
  unaborted_leads Command.Nothing moment h active = between_nothing moment h
  unaborted_leads (Command.Transaction c) moment h active = then_ok_leads _ moment (transaction_leads c moment h active)
  unaborted_leads (Command.Work c) moment h active =
      work_between moment.scene.session.levels (work_of c moment.scene.session) moment (record { between = h; are = refl }) (only_left (is_aborted moment.scene.session.levels) active)
      (λ ls working m k. work_runs w ls working c moment.scene.session m k)

  pub command_leads : (c : Command) (moment : Moment) → StandsBetweenLines moment.scene → Between (elements_of c moment.scene.session) moment
  unfolding elements_of
  command_leads c moment h = grind (arith, nat_tests, refused_leads StandsBetweenLines Error.TransactionAborted moment h.stands, unaborted_leads c moment h)

  line_leads : (line : Option Command) (moment : Moment) → StandsBetweenLines moment.scene → Between (line_elements line moment.scene.session) moment
  line_leads None moment h = refused_leads StandsBetweenLines Error.SyntaxError moment h.stands
  line_leads (Some c) moment h = command_leads c moment h

  -- Each element of a line meets a scene that stands.
  pub line_runs : (line : Option Command) (moment : Moment) → StandsBetweenLines moment.scene → IsRun Meets w (line_elements line moment.scene.session) moment
  line_runs line moment h = let k : Between (line_elements line moment.scene.session) moment = line_leads line moment h in k.run

  -- A line leads from a session between two lines to one between two lines, whatever it says and whatever is refused.
  pub turn_stands : (line : Option Command) (moment : Moment) → StandsBetweenLines moment.scene → StandsBetweenLines (turn w line moment).moment.scene
  turn_stands line moment h = turn_leads w line moment (line_leads line moment h)
