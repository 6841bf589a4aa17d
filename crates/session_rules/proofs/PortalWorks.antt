-- The elements of portals lead from a session that stands to one that stands, with its levels as they were.
use Rattle.session_rules.proofs.Base.{◌≡◌, ◌≢◌, ℕ, true, false, Option, Some, None, List, [], ◌∷◌, length, refl, sym, ap, ◌∙◌, subst, inl, inr, option_and_then, arith, nat_tests}
use Rattle.session_rules.proofs.Below.{has, Error, KindId, Mode, ScanStep, table_of, PortalState}
use Rattle.session_rules.proofs.Rules.{OpenPortal, Scene, Moment, Check, Element, InPortal, InRow, OfPortal, Text, newest, portal_changed, portal_named, in_order, nothing, portal_becomes, where_there, Done, Keeper, NoOne, item_released, keeper_of, left_to, scan_part, scanned, does, failing_turn, IsAtRest, IsFetched, IsItem, IsWorking, Stands}
use Rattle.session_rules.proofs.Kept.{rests_becomes}
use Rattle.exec_core.specs.Turn.{taken}
use Rattle.session_rules.proofs.ItemsStand.{give_step, lock_beside, take_beside}
use Rattle.session_rules.proofs.NamesStand.{alone_step}
use Rattle.session_rules.proofs.StepsStand.{Works, fallible_keeps, nothing_works, alloc_beside, beside_by}
use Rattle.session_rules.proofs.PortalsStand.{Named, active_portal, named_changed, named_in, scan_portal, state_portal, this_portal}
pub use Rattle.session_rules.proofs.StepsStand.{Beside, nothing_beside}

-- what is given back leaves the portals
pub given_portals : (keeper : Keeper) (key : ℕ) (s : Scene) → (left_to keeper key s).scene.session.portals ≡ s.session.portals
given_portals keeper key s = grind (arith, nat_tests)

-- an owner gives an item back
pub item_beside : (s : Scene) (o : ℕ) (kind : KindId) (key : ℕ) → Stands s → IsWorking s.session.levels → has o s.session.owners ≡ true → Beside s (item_released o kind key s).scene
item_beside s o kind key h working there = grind (arith, nat_tests, give_step s o kind key h working there (newest o kind key s.session) refl, given_portals)

pub then_beside : (a b c : Scene) → Beside a b → Beside b c → Beside a c
then_beside a b c x y = record { works = record { stands = y.works.stands; levels = y.works.levels ∙ x.works.levels; at_rest = λ r. y.works.at_rest (x.works.at_rest r) }; portals = y.portals ∙ x.portals }

-- without a portal of the name nothing changes
pub none_changed : (name : Text) (f : OpenPortal → OpenPortal) (ps : List OpenPortal) → portal_named name ps ≡ None → portal_changed name f ps ≡ ps
none_changed name f [] e = refl
none_changed name f (p ∷ ps) e = grind (arith, nat_tests, none_changed name f ps)

-- a portal changes, where one has the name
pub becomes_works : (s : Scene) (name : Text) (f : OpenPortal → OpenPortal) → Stands s → ((p : OpenPortal) → IsAtRest p → IsAtRest (f p)) → ((p : OpenPortal) → portal_named name s.session.portals ≡ Some p → Stands (portal_becomes name f s).scene) → Works s (portal_becomes name f s).scene
becomes_works s name f h rests named = grind (arith, nat_tests, none_changed name f s.session.portals, nothing_works s h, rests_becomes name f s.session.portals rests)

-- a step of a turn of the portal of a name
pub record Turns (name : Text) (s z : Scene) : Type 0 where
  pub works : Works s z
  pub fetched : IsFetched name s → IsFetched name z

pub beside_turns : (name : Text) (s z : Scene) → Beside s z → Turns name s z
beside_turns name s z b = grind (arith, nat_tests)

pub becomes_fetched : (s : Scene) (name : Text) (f : OpenPortal → OpenPortal) → ((p : OpenPortal) → (f p).name ≡ p.name) → ((p : OpenPortal) → portal_named name s.session.portals ≡ Some p → (f p).active ≡ length s.session.levels)
    → IsFetched name (portal_becomes name f s).scene
becomes_fetched s name f keeps active q e = grind (arith, nat_tests, none_changed name f s.session.portals, named_changed name)

-- where it fails, its line is at work on it
pub failed_stands : (s : Scene) (name : Text) → Stands s → IsWorking s.session.levels → IsFetched name s → Stands (portal_becomes name (λ p. record p { state = PortalState.Failed }) s).scene
failed_stands s name h working fetched = go (portal_named name s.session.portals) refl
  where
    go : (o : Option OpenPortal) → portal_named name s.session.portals ≡ o → Stands (portal_becomes name (λ p. record p { state = PortalState.Failed }) s).scene
    go None e =
        subst (λ (ps : List OpenPortal). Stands (record s { session = record s.session { portals = ps } })) (sym (none_changed name (λ p. record p { state = PortalState.Failed }) s.session.portals e)) h
    go (Some p) e = state_portal s h working name p (named_in name p s.session.portals e) PortalState.Failed (inr (fetched p e, λ z. absurd (cc z)))

-- what a step of a turn led to
pub record Turned (name : Text) (s : Scene) (done : Done) : Type 0 where
  pub stands : Stands done.moment.scene
  pub passed : done.refusal ≡ None → Turns name s done.moment.scene

module _ (w : Option ℕ) (moment : Moment) (h : Stands moment.scene) (working : IsWorking moment.scene.session.levels) (name : Text) where
  -- the owner of the portal of a name is there
  pub there : (p : OpenPortal) → portal_named name moment.scene.session.portals ≡ Some p → (o : ℕ) → p.owner ≡ Some o → has o moment.scene.session.owners ≡ true
  there p e o q = ((this_portal moment.scene h working name p (named_in name p moment.scene.session.portals e)).owner o q).there

  pub owner_named : (o : ℕ) → option_and_then (λ (p : OpenPortal). p.owner) (portal_named name moment.scene.session.portals) ≡ Some o → has o moment.scene.session.owners ≡ true
  owner_named o e = grind (arith, nat_tests, there)

  pub portal_enlarges : Beside moment.scene (does w (Element.Enlarge (OfPortal name)) moment).moment.scene
  unfolding does
  portal_enlarges = fallible_keeps (Beside moment.scene) w moment None nothing (nothing_beside moment.scene h) (λ _. nothing_beside moment.scene h)

  pub portal_locks : (object : ℕ) (mode : Mode) → Beside moment.scene (does w (Element.TakeLock (OfPortal name) object mode) moment).moment.scene
  unfolding does
  portal_locks object mode = lock_beside w moment h working (OfPortal name) owner_named object mode

  pub portal_takes : (kind : KindId) (key : ℕ) → keeper_of kind ≡ NoOne → kind.0 ≢ 5 → ((serial : ℕ) → IsItem (table_of moment.scene.around.kinds) (record { kind = kind; key = key; serial = serial }))
      → Beside moment.scene (does w (Element.Take (OfPortal name) kind key) moment).moment.scene
  unfolding does
  portal_takes kind key unkept ne is = take_beside w moment h working (OfPortal name) owner_named kind key unkept ne is

  pub portal_allocates : (title : Option Text) (bytes : ℕ) → Beside moment.scene (does w (Element.Alloc (InPortal name) title bytes false) moment).moment.scene
  unfolding does
  portal_allocates title bytes = alloc_beside w moment h working (InPortal name) title bytes false

  pub row_allocates : (title : Option Text) (bytes : ℕ) → Beside moment.scene (does w (Element.Alloc (InRow name) title bytes false) moment).moment.scene
  unfolding does
  row_allocates title bytes = alloc_beside w moment h working (InRow name) title bytes false

  pub check_beside : (check : Check) → Beside moment.scene (does w (Element.Checks check) moment).moment.scene
  unfolding does
  check_beside check = grind (arith, nat_tests)

  pub begins_works : Works moment.scene (does w (Element.FetchBegins name) moment).moment.scene
  unfolding does
  begins_works =
      becomes_works moment.scene name (λ p. record p { active = length moment.scene.session.levels }) h (λ p r. r)
      (λ p e. active_portal moment.scene h working name p (named_in name p moment.scene.session.portals e))

  pub begins_fetched : IsFetched name (does w (Element.FetchBegins name) moment).moment.scene
  unfolding does
  begins_fetched = becomes_fetched moment.scene name (λ p. record p { active = length moment.scene.session.levels }) (λ p. refl) (λ p e. refl)

  pub ready_works : Works moment.scene (does w (Element.PortalReady name) moment).moment.scene
  unfolding does
  ready_works =
      becomes_works moment.scene name (λ p. record p { state = PortalState.Ready }) h (λ p r unready. absurd (cc unready))
      (λ p e. state_portal moment.scene h working name p (named_in name p moment.scene.session.portals e) PortalState.Ready (inl (λ unready. absurd (cc unready))))

  -- what a step of a scan does by itself
  pub part_beside : (s : Scene) (st : ScanStep) (p : OpenPortal) → Stands s → IsWorking s.session.levels → ((o : ℕ) → p.owner ≡ Some o → has o s.session.owners ≡ true) → Beside s (scan_part st p s).scene
  part_beside s st p k work own = grind (arith, nat_tests, nothing_beside s k, beside_by s, alone_step s, item_beside s)

  pub scan_turns : (st : ScanStep) → Turns name moment.scene (does w (Element.Scans name st) moment).moment.scene
  unfolding does
  scan_turns st = go (portal_named name moment.scene.session.portals) refl
    where
      at_part : (p : OpenPortal) → portal_named name moment.scene.session.portals ≡ Some p → (z : Scene) → Stands z → z.session.levels ≡ moment.scene.session.levels → z.session.owners ≡ moment.scene.session.owners → Turns name moment.scene z
          → Turns name moment.scene (scan_part st p z).scene
      at_part p e z k same owners turns =
          let b : Beside z (scan_part st p z).scene = part_beside z st p k (subst IsWorking (sym same) working) (λ o q. ap (has o) owners ∙ there p e o q) in
          let r : Turns name z (scan_part st p z).scene = beside_turns name z (scan_part st p z).scene b in
          record {
            works = record { stands = r.works.stands; levels = r.works.levels ∙ turns.works.levels; at_rest = λ a. r.works.at_rest (turns.works.at_rest a) };
            fetched = λ f. r.fetched (turns.fetched f);
          }

      go : (o : Option OpenPortal) → portal_named name moment.scene.session.portals ≡ o → Turns name moment.scene (where_there o (scanned st) moment.scene).scene
      go None e = beside_turns name moment.scene moment.scene (nothing_beside moment.scene h)
      go (Some p) e =
          let n : Named name p moment.scene.session.portals = named_in name p moment.scene.session.portals e in
          let z : Scene = (portal_becomes name (λ old. record old { scan = taken st old.scan }) moment.scene).scene in
          let k : Stands z = scan_portal moment.scene h working name p n (taken st) in
          let f : OpenPortal → OpenPortal = λ old. record old { scan = taken st old.scan } in
          subst (λ (t : Text). Turns name moment.scene (in_order (portal_becomes t (λ old. record old { scan = taken st old.scan }) ∷ scan_part st p ∷ []) moment.scene).scene) (sym n.titled)
          (at_part p e z k refl refl (record {
            works = record { stands = k; levels = refl; at_rest = rests_becomes name f moment.scene.session.portals (λ q r. r) };
            fetched = λ fetched. becomes_fetched moment.scene name f (λ q. refl) fetched;
          }))

  -- an element of a turn
  pub turned : (x : Element) → IsFetched name moment.scene → Turns name moment.scene (does w x moment).moment.scene → Turned name moment.scene (does w (Element.InTurn name x) moment)
  unfolding does
  turned x fetched turns = go (does w x moment).refusal refl
    where
      go : (r : Option Error) → (does w x moment).refusal ≡ r → Turned name moment.scene (failing_turn name (does w x moment) r)
      go None e = record { stands = turns.works.stands; passed = λ _. turns }
      go (Some error) e = record {
        stands = failed_stands (does w x moment).moment.scene name turns.works.stands (subst IsWorking (sym turns.works.levels) working) (turns.fetched fetched);
        passed = λ none. let z : Some error ≡ None = sym e ∙ none in absurd (cc z);
      }
