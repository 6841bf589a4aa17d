-- A portal that is fetched from stands behind each step of a turn.
use Rattle.portal_commands.proofs.Base.{nat_tests, ◌≡◌, ℕ, Bool, true, false, List, [], ◌∷◌, Option, Some, None, IsSome, IfSome, find, refl, sym, ◌∙◌, ap, subst, inl, arith, append-nil, option_and_then, option_map}
use Rattle.portal_commands.proofs.Words.{Asks, Moves, TreeState, has, Scan, ScanStep, rest, taken, Error, What, Item, OwnerId, coming, Portal, is_of, forgotten, items_of, owners_of, balances_more, balances_none, serves_still, LevelState, OpenPortal, buffer_pin, depth, Around, Moment, Scene, Ended, changes, context_cleared_alone, in_order, nothing, portal_becomes, say, where_there, unfailing, Element, Check, InRow, OfPortal, Text, does, does_all, then_done, memory_in, owner_in, portal_named, at_portal, scan_part, scanned, given_back, item_released, IsFetched, IsWorking, Stands, fallible_part, Named, active_portal, named_changed, named_in, scan_portal, Beside, becomes_fetched, beside_turns, check_beside, nothing_beside, owner_named, part_beside, portal_enlarges, portal_takes, row_allocates, then_beside, Acted, BothAlone, ContextsAlone, IsSilent, Keeps, PortalsAlone, Refused, StoreState, levels_of, session_of, at_calls, wants, IsOwnerOf, IsBetweenSteps, Now, Performed, scene_in, Calls, numbers, moves_nothing, performed_end, performed_none, same_scene_in, fails, keeps_rises, empty_around, fitting, fitting_fits, grown, Follows, IsAt, IsFetching, IsPage, cost_of, part_of, scan_named}
use Rattle.portal_store.specs.Portals as list
use Rattle.portal_commands.proofs.Listed.{keeps_alone, named_as}
use Rattle.portal_commands.proofs.Places.{at_same}
use Rattle.portal_commands.proofs.TurnLists.{is_bad_step}

-- the scan of the portal of a name, as the rules see it
abbrev scan_in : Text → Scene → Option Scan
scan_in name s = option_map (λ (p : OpenPortal). p.scan) (portal_named name s.session.portals)

-- a session that stands, with these levels, whose portal of a name has this scan and is active in the deepest level
pub record Runs (name : Text) (scan : Scan) (levels : List LevelState) (s : Scene) : Type 0 where
  pub stands : Stands s
  pub are : s.session.levels ≡ levels
  pub fetched : IsFetched name s
  pub is : scan_in name s ≡ Some scan

pub runs_in : (name : Text) (scan : Scan) (n : Now) (around : Around) → IsFetching name scan n → Runs name scan (levels_of n.store.levels) (scene_in n around)
unfolding session_of
runs_in name scan n around h = record { stands = h.between.stands around; are = refl; fetched = h.fetched around; is = h.is }

-- the portal itself
pub found : (name : Text) (scan : Scan) (o : Option OpenPortal) → option_map (λ (p : OpenPortal). p.scan) o ≡ Some scan → (p : OpenPortal) × (o ≡ Some p) × (p.scan ≡ scan)
found name scan None e = absurd (cc e)
found name scan (Some p) e = (p, refl, cc e)

pub runs_beside : (name : Text) (scan : Scan) (levels : List LevelState) (s z : Scene) → Runs name scan levels s → Beside s z → Runs name scan levels z
runs_beside name scan levels s z h b = grind (arith, nat_tests, b.works.stands, b.works.levels, h.are, beside_turns name s z b, h.fetched, b.portals, h.is)

-- its scan takes a step
pub runs_step : (name : Text) (scan : Scan) (levels : List LevelState) (s : Scene) (st : ScanStep) → IsWorking levels → Runs name scan levels s → Runs name (taken st scan) levels (portal_becomes name (λ old. record old { scan = taken st old.scan }) s).scene
runs_step name scan levels s st active h =
    let p = found name scan (portal_named name s.session.portals) h.is in
    record {
      stands = scan_portal s h.stands (subst IsWorking (sym h.are) active) name p.0 (named_in name p.0 s.session.portals p.1) (taken st);
      are = h.are;
      fetched = becomes_fetched s name (λ old. record old { scan = taken st old.scan }) (λ q. refl) h.fetched;
      is = ap (option_map (λ (q : OpenPortal). q.scan)) (named_changed name p.0 (λ old. record old { scan = taken st old.scan }) s.session.portals (λ q. refl) p.1) ∙ ap (λ (c : Scan). Some (taken st c)) p.2;
    }

-- it is fetched from
pub runs_begin : (name : Text) (scan : Scan) (levels : List LevelState) (s : Scene) → IsWorking levels → Stands s → s.session.levels ≡ levels → scan_in name s ≡ Some scan
    → Runs name scan levels (portal_becomes name (λ p. record p { active = depth s.session }) s).scene
runs_begin name scan levels s active stands are is =
    let p = found name scan (portal_named name s.session.portals) is in
    record {
      stands = active_portal s stands (subst IsWorking (sym are) active) name p.0 (named_in name p.0 s.session.portals p.1);
      are = are;
      fetched = becomes_fetched s name (λ q. record q { active = depth s.session }) (λ q. refl) (λ q e. refl);
      is = ap (option_map (λ (q : OpenPortal). q.scan)) (named_changed name p.0 (λ q. record q { active = depth s.session }) s.session.portals (λ q. refl) p.1) ∙ ap Some p.2;
    }

-- the same of sessions
pub fetching_of : (name : Text) (scan : Scan) (levels : List LevelState) (n : Now) → IsBetweenSteps n → IsWorking levels → ((around : Around) → Runs name scan levels (scene_in n around)) → IsFetching name scan n
unfolding session_of
fetching_of name scan levels n between active h = record {
  between = between;
  working = subst IsWorking (sym (let r = h empty_around in r.are)) active;
  fetched = λ around. let r = h around in r.fetched;
  is = let r = h empty_around in r.is;
}

-- portals change alone
pub fetching_alone : (name : Text) (scan : Scan) (a : Now) (st : StoreState) (act : Scene → Ended) → IsBetweenSteps a → IsWorking (levels_of a.store.levels)
    → Acted act a.store st a.space a.space a.shelf a.shelf a.commons a.commons IsSilent → PortalsAlone a.store st → ((around : Around) → Runs name scan (levels_of a.store.levels) (act (scene_in a around)).scene)
    → IsFetching name scan (record a { store = st })
fetching_alone name scan a st act between active acted alone runs =
    let all : (around : Around) → Runs name scan (levels_of a.store.levels) (scene_in (record a { store = st }) around) = λ around. subst (Runs name scan (levels_of a.store.levels)) (acted.leads around) (runs around) in
    fetching_of name scan (levels_of a.store.levels) (record a { store = st }) (record {
      keeps = keeps_alone a.store st a.space alone between.keeps;
      serves = serves_still _ _ _ _ between.serves acted.balances;
      stands = λ around. let r = all around in r.stands;
    }) active all

pub fetching_step : (name : Text) (scan : Scan) (a : Now) (st : StoreState) (s : ScanStep) → IsFetching name scan a
    → Acted (portal_becomes name (λ old. record old { scan = taken s old.scan })) a.store st a.space a.space a.shelf a.shelf a.commons a.commons IsSilent → PortalsAlone a.store st → IsFetching name (taken s scan) (record a { store = st })
fetching_step name scan a st s h acted alone =
    fetching_alone name (taken s scan) a st (portal_becomes name (λ old. record old { scan = taken s old.scan })) h.between h.working acted alone
    (λ around. runs_step name scan (levels_of a.store.levels) (scene_in a around) s h.working (runs_in name scan a around h))

pub fetching_begins : (name : Text) (scan : Scan) (a : Now) (st : StoreState) → IsBetweenSteps a → IsWorking (levels_of a.store.levels) → scan_named name a.store ≡ Some scan
    → Acted (λ scene. portal_becomes name (λ p. record p { active = depth scene.session }) scene) a.store st a.space a.space a.shelf a.shelf a.commons a.commons IsSilent → PortalsAlone a.store st → IsFetching name scan (record a { store = st })
unfolding session_of
fetching_begins name scan a st between active is acted alone =
    fetching_alone name scan a st (λ scene. portal_becomes name (λ p. record p { active = depth scene.session }) scene) between active acted alone
    (λ around. runs_begin name scan (levels_of a.store.levels) (scene_in a around) active (between.stands around) refl is)

-- elements that leave the portals as they are
pub fetching_on : (name : Text) (scan : Scan) (k : ℕ) (es : List Element) (a b : Now) (P : List What → Type 0) (r : Option Error) → IsFetching name scan a → Performed k es a b P r
    → ((w : Option ℕ) (m : Moment) → Stands m.scene → IsWorking m.scene.session.levels → Beside m.scene (does_all w es m).moment.scene) → IsFetching name scan b
unfolding session_of
fetching_on name scan k es a b P r h done beside =
    fetching_of name scan (levels_of a.store.levels) b (record {
      keeps = done.keeps;
      serves = serves_still _ _ _ _ h.between.serves done.balances;
      stands = λ around. let q = all around in q.stands;
    }) h.working all
  where
    all : (around : Around) → Runs name scan (levels_of a.store.levels) (scene_in b around)
    all around =
        runs_beside name scan (levels_of a.store.levels) (scene_in a around) (scene_in b around) (runs_in name scan a around h)
        (subst (λ (m : Moment). Beside (scene_in a around) m.scene) (done.answers.moment around (fitting (wants r) b.calls.count) (fitting_fits (wants r) b.calls.count))
        (beside (fitting (wants r) b.calls.count) (at_calls (scene_in a) a.calls.count a.calls.fail around) (h.between.stands around) h.working))

-- nor is the portal at another place behind them
pub at_on : (name : Text) (place : ℕ) (scan : Scan) (k : ℕ) (es : List Element) (a b : Now) (P : List What → Type 0) (r : Option Error) → IsFetching name scan a → Performed k es a b P r
    → ((w : Option ℕ) (m : Moment) → Stands m.scene → IsWorking m.scene.session.levels → Beside m.scene (does_all w es m).moment.scene) → IsAt name place a.store → IsAt name place b.store
unfolding session_of
at_on name place scan k es a b P r h done beside at = at_same name place a.store b.store whole.portals at
  where
    whole : Beside (scene_in a empty_around) (scene_in b empty_around)
    whole =
        subst (λ (m : Moment). Beside (scene_in a empty_around) m.scene) (done.answers.moment empty_around (fitting (wants r) b.calls.count) (fitting_fits (wants r) b.calls.count))
        (beside (fitting (wants r) b.calls.count) (at_calls (scene_in a) a.calls.count a.calls.fail empty_around) (h.between.stands empty_around) h.working)

-- what a step does by itself is what the rules say of the portal
part_is : (name : Text) (st : ScanStep) (s : Scene) (p : OpenPortal) → portal_named name s.session.portals ≡ Some p → p.name ≡ name → part_of name st s ≡ scan_part st p s
part_is name st s p e n = grind arith

same_part : (st : ScanStep) (p : OpenPortal) (c : Scan) (s : Scene) → scan_part st (record p { scan = c }) s ≡ scan_part st p s
same_part st p c s = grind arith

-- and leaves the portals as they are
part_besides : (name : Text) (scan : Scan) (levels : List LevelState) (st : ScanStep) (s : Scene) → IsWorking levels → Runs name scan levels s → Beside s (part_of name st s).scene
part_besides name scan levels st s active h =
    let p = found name scan (portal_named name s.session.portals) h.is in
    let n : Named name p.0 s.session.portals = named_in name p.0 s.session.portals p.1 in
    let working : IsWorking s.session.levels = subst IsWorking (sym h.are) active in
    subst (λ (e : Ended). Beside s e.scene) (sym (part_is name st s p.0 p.1 n.titled))
    (part_beside None (record { scene = s; calls = 0; fail = 0 }) h.stands working name s st p.0 h.stands working
    (λ o q. owner_named None (record { scene = s; calls = 0; fail = 0 }) h.stands working name o (ap (option_and_then (λ (r : OpenPortal). r.owner)) p.1 ∙ q)))

pub fetching_follows : (name : Text) (scan : Scan) (st : ScanStep) (a b : Now) (P : List What → Type 0) → IsFetching name scan a → Follows (part_of name st) a b P → IsFetching name scan b
fetching_follows name scan st a b P h f =
    let all : (around : Around) → Runs name scan (levels_of a.store.levels) (scene_in b around) = λ around.
    runs_beside name scan (levels_of a.store.levels) (scene_in a around) (scene_in b around) (runs_in name scan a around h)
    (subst (Beside (scene_in a around)) (f.acted.leads around) (part_besides name scan (levels_of a.store.levels) st (scene_in a around) h.working (runs_in name scan a around h))) in
    fetching_of name scan (levels_of a.store.levels) b (record {
      keeps = f.keeps;
      serves = serves_still _ _ _ _ h.between.serves f.acted.balances;
      stands = λ around. let r = all around in r.stands;
    }) h.working all

pub at_follows : (name : Text) (place : ℕ) (scan : Scan) (st : ScanStep) (a b : Now) (P : List What → Type 0) → IsFetching name scan a → Follows (part_of name st) a b P → IsAt name place a.store → IsAt name place b.store
unfolding session_of
at_follows name place scan st a b P h f at = at_same name place a.store b.store whole.portals at
  where
    whole : Beside (scene_in a empty_around) (scene_in b empty_around)
    whole = subst (Beside (scene_in a empty_around)) (f.acted.leads empty_around) (part_besides name scan (levels_of a.store.levels) st (scene_in a empty_around) h.working (runs_in name scan a empty_around h))

does_scan : (name : Text) (st : ScanStep) (w : Option ℕ) (m : Moment) → does w (Element.Scans name st) m ≡ unfailing m (at_portal name (scanned st))
unfolding does
does_scan name st w m = refl

scan_keeps : (name : Text) (st : ScanStep) (s : Scene) → numbers (at_portal name (scanned st) s).scene ≡ numbers s
scan_keeps name st s = grind (arith, nat_tests, taken)

-- the scan has taken a step, and what that does by itself was done
module _ (name : Text) (scan : Scan) (st : ScanStep) (a c : Now) (store : StoreState) (P : List What → Type 0) (h : IsFetching name scan a)
    (acted : Acted (portal_becomes name (λ old. record old { scan = taken st old.scan })) a.store store a.space a.space a.shelf a.shelf a.commons a.commons IsSilent) (alone : PortalsAlone a.store store)
    (f : Follows (part_of name st) (record a { store = store }) c P) where
  b : Now
  b = record a { store = store }

  abbrev f_of : OpenPortal → OpenPortal
  f_of old = record old { scan = taken st old.scan }

  -- by what the portal is
  module _ (around : Around) where
    p : (q : OpenPortal) × (portal_named name (scene_in a around).session.portals ≡ Some q) × (q.scan ≡ scan)
    p = let r = runs_in name scan a around h in found name scan (portal_named name (scene_in a around).session.portals) r.is

    titled : p.0.name ≡ name
    titled = let n : Named name p.0 (scene_in a around).session.portals = named_in name p.0 (scene_in a around).session.portals p.1 in n.titled

    there : portal_named name (portal_becomes name f_of (scene_in a around)).scene.session.portals ≡ Some (f_of p.0)
    there = named_changed name p.0 f_of (scene_in a around).session.portals (λ q. refl) p.1

    behind : scan_part st p.0 (portal_becomes name f_of (scene_in a around)).scene ≡ part_of name st (scene_in (record a { store = store }) around)
    behind =
        sym (same_part st p.0 (taken st p.0.scan) (portal_becomes name f_of (scene_in a around)).scene)
        ∙ sym (part_is name st (portal_becomes name f_of (scene_in a around)).scene (f_of p.0) there titled)
        ∙ ap (part_of name st) (acted.leads around)

    scene_is : (at_portal name (scanned st) (scene_in a around)).scene ≡ scene_in c around
    scene_is =
        ap (λ (o : Option OpenPortal). (where_there o (scanned st) (scene_in a around)).scene) p.1
        ∙ ap (λ (t : Text). (scan_part st p.0 (portal_becomes t f_of (scene_in a around)).scene).scene) titled
        ∙ ap (λ (e : Ended). e.scene) behind
        ∙ f.acted.leads around

    said : P (at_portal name (scanned st) (scene_in a around)).events
    said =
        subst (λ (o : Option OpenPortal). P (where_there o (scanned st) (scene_in a around)).events) (sym p.1)
        (subst P (sym (append-nil (scan_part st p.0 (portal_becomes p.0.name f_of (scene_in a around)).scene).events))
        (subst (λ (t : Text). P (scan_part st p.0 (portal_becomes t f_of (scene_in a around)).scene).events) (sym titled)
        (subst (λ (e : Ended). P e.events) (sym behind) (f.acted.says around))))

  whole : Acted (at_portal name (scanned st)) a.store c.store a.space c.space a.shelf c.shelf a.commons c.commons P
  whole = record { leads = scene_is; says = said; balances = balances_more _ _ _ _ _ _ acted.balances f.acted.balances }

  pub scan_done : Performed 0 (Element.Scans name st ∷ []) a c P None
  scan_done =
      performed_end 0 (Element.Scans name st) (at_portal name (scanned st)) a c P (does_scan name st) whole f.keeps (subst (λ (t : TreeState). Moves t c.store.tree a.space c.space) alone.tree f.moves)
      (grown 0 (at_portal name (scanned st)) a c P (λ s. keeps_rises s (at_portal name (scanned st) s).scene (scan_keeps name st s)) whole (omega (arith, ap (λ (k : Calls). k.count) f.calls))) f.calls
      (λ around. subst (λ (t : TreeState). Asks t.account 0 a.space c.space) alone.tree f.asks)

-- elements that all leave the portals as they are
abbrev AllBeside : Option ℕ → List Element → Type 0
AllBeside w [] = Unit {0}
AllBeside w (x ∷ xs) = ((m : Moment) → Stands m.scene → IsWorking m.scene.session.levels → Beside m.scene (does w x m).moment.scene) × AllBeside w xs

all_beside : (w : Option ℕ) (xs : List Element) (m : Moment) → Stands m.scene → IsWorking m.scene.session.levels → AllBeside w xs → Beside m.scene (does_all w xs m).moment.scene
unfolding does_all
all_beside w [] m h working a = nothing_beside m.scene h
all_beside w (x ∷ xs) m h working a =
    go (does w x m).refusal (a.0 m h working)
    (λ b. all_beside w xs (does w x m).moment b.works.stands (subst IsWorking (sym b.works.levels) working) a.1)
  where
    go : (r : Option Error) → Beside m.scene (does w x m).moment.scene → (Beside m.scene (does w x m).moment.scene → Beside (does w x m).moment.scene (does_all w xs (does w x m).moment).moment.scene)
        → Beside m.scene (then_done (does w x m) r (does_all w xs)).moment.scene
    go None b rest = then_beside m.scene (does w x m).moment.scene (does_all w xs (does w x m).moment).moment.scene b (rest b)
    go (Some e) b rest = b

-- what a step needs besides leaves the portals as they are
pub serves_beside : (name : Text) (st : ScanStep) → IsPage st → (w : Option ℕ) (m : Moment) → Stands m.scene → IsWorking m.scene.session.levels → Beside m.scene (does_all w (fallible_part name st) m).moment.scene
serves_beside name (ScanStep.Pin page) small w m h working =
    all_beside w (Element.Enlarge (OfPortal name) ∷ Element.Take (OfPortal name) buffer_pin page ∷ []) m h working (
      λ n k v. portal_enlarges w n k v name,
      (λ n k v. portal_takes w n k v name buffer_pin page refl (λ z. absurd (omega (arith, z))) (λ serial. record { kind = inl (record { from = omega arith; to = omega arith }); buffer = λ _. small }), tt),
    )
serves_beside name (ScanStep.Bad row) small w m h working =
    all_beside w (Element.Checks (Check.Refuse (Error.BadRow row)) ∷ []) m h working (λ n k v. check_beside w n k v name (Check.Refuse (Error.BadRow row)), tt)
serves_beside name ScanStep.Alloc small w m h working = all_beside w (Element.Alloc (InRow name) None 64 false ∷ []) m h working (λ n k v. row_allocates w n k v name None 64, tt)
serves_beside name other small w m h working = all_beside w [] m h working tt

-- the owner of a portal is there
pub fetched_owner : (name : Text) (scan : Scan) (a : Now) (owner : OwnerId) → IsFetching name scan a → IsOwnerOf (OfPortal name) a.store owner → has owner.number (owners_of a.store.owners) ≡ true
unfolding session_of
fetched_owner name scan a owner h is = owner_named None (at_calls (scene_in a) 0 0 empty_around) (h.between.stands empty_around) h.working name owner.number (is a.space)

-- the portal as the store has it
store_found : (name : Text) (scan : Scan) (a : Now) → IsFetching name scan a → (p : Portal) × (list.portal_named name a.store.portals ≡ Some p) × (p.scan ≡ scan)
store_found name scan a h = grind (arith, nat_tests, found, a.store.portals, h.is, named_as name a.store.portals)

pub there_scan : (name : Text) (scan : Scan) (a : Now) → IsFetching name scan a → IsSome (list.portal_named name a.store.portals)
there_scan name scan a h = let p = store_found name scan a h in subst IsSome (sym p.1) refl

pub step_named : (name : Text) (begins : Bool) (scan : Scan) (a : Now) (s : ScanStep) → IsFetching name scan a → IfSome (list.portal_named name a.store.portals) (λ p. coming begins p.scan ≡ s ∷ rest s (taken s p.scan)) → coming begins scan ≡ s ∷ rest s (taken s scan)
step_named name begins scan a s h step = grind (arith, nat_tests, store_found name scan a h, rest, taken)

-- nothing happened
pub follows_nothing : (act : Scene → Ended) (a : Now) (P : List What → Type 0) → ((around : Around) → act (scene_in a around) ≡ nothing (scene_in a around)) → Keeps a.store a.space → P [] → Follows act a a P
follows_nothing act a P none keeps silent = record {
  acted = record {
    leads = λ around. ap (λ (e : Ended). e.scene) (none around);
    says = λ around. subst (λ (e : Ended). P e.events) (sym (none around)) silent;
    balances = balances_none a.store.owners a.commons;
  };
  keeps = keeps;
  moves = moves_nothing a.store.tree a.space keeps.agrees;
  asks = refl;
  calls = refl;
}

-- a row was told
pub row_told : (name : Text) (row value : ℕ) (a : Now) (P : List What → Type 0) → Keeps a.store a.space → P (What.Row name row value ∷ []) → Follows (part_of name (ScanStep.Row row value)) a a P
row_told name row value a P keeps told = record {
  acted = record { leads = λ around. refl; says = λ around. told; balances = balances_none a.store.owners a.commons };
  keeps = keeps;
  moves = moves_nothing a.store.tree a.space keeps.agrees;
  asks = refl;
  calls = refl;
}

module _ (name : Text) (a b : Now) (P : List What → Type 0) (calls : b.calls ≡ a.calls) (asks : Asks a.store.tree.account 0 a.space b.space) where
  -- the memory of one row was reset
  pub row_reset : (n : ℕ) → memory_in (InRow name) (session_of a.store a.space) ≡ Some n → Acted (context_cleared_alone n) a.store b.store a.space b.space a.shelf b.shelf a.commons b.commons P
      → ContextsAlone a.store b.store a.space b.space a.commons b.commons → Follows (part_of name ScanStep.Reset) a b P
  row_reset n is acted alone = record {
    acted = record {
      leads = λ around. ap (λ (o : Option ℕ). (where_there o context_cleared_alone (scene_in a around)).scene) is ∙ acted.leads around;
      says = λ around. subst (λ (o : Option ℕ). P (where_there o context_cleared_alone (scene_in a around)).events) (sym is) (acted.says around);
      balances = acted.balances;
    };
    keeps = alone.keeps;
    moves = alone.moves;
    asks = asks;
    calls = calls;
  }

  -- the page was given back, or the owner hasn't it
  module _ (page : ℕ) (owner : OwnerId) (is : IsOwnerOf (OfPortal name) a.store owner) where
    pub page_unpinned : Acted (item_released owner.number buffer_pin page) a.store b.store a.space b.space a.shelf b.shelf a.commons b.commons P → BothAlone a.store b.store a.space b.space a.commons b.commons
        → Follows (part_of name (ScanStep.Unpin page)) a b P
    page_unpinned acted alone = record {
      acted = record {
        leads = λ around. ap (λ (o : Option ℕ). (where_there o (λ n. item_released n buffer_pin page) (scene_in a around)).scene) (is a.space) ∙ acted.leads around;
        says = λ around. subst (λ (o : Option ℕ). P (where_there o (λ n. item_released n buffer_pin page) (scene_in a around)).events) (sym (is a.space)) (acted.says around);
        balances = acted.balances;
      };
      keeps = alone.keeps;
      moves = alone.moves;
      asks = asks;
      calls = calls;
    }

    pub page_not_held : find (is_of buffer_pin page) (items_of owner.number (owners_of a.store.owners)) ≡ None → Refused a.store b.store a.space b.space a.shelf b.shelf a.commons b.commons
        → BothAlone a.store b.store a.space b.space a.commons b.commons → P [] → Follows (part_of name (ScanStep.Unpin page)) a b P
    unfolding session_of
    page_not_held missing same alone silent = record {
      acted = record {
        leads = λ around. ap (λ (e : Ended). e.scene) (none around) ∙ same_scene_in a b same around;
        says = λ around. subst (λ (e : Ended). P e.events) (sym (none around)) silent;
        balances = alone.balances;
      };
      keeps = alone.keeps;
      moves = alone.moves;
      asks = asks;
      calls = calls;
    }
      where
        released : (s : Scene) (o : Option Item) → o ≡ None
            → where_there o (λ (item : Item). in_order (changes (λ session. record session { owners = forgotten owner.number buffer_pin page session.owners }) ∷ say (What.Release item owner.number) ∷ given_back item ∷ [])) s ≡ nothing s
        released s None e = refl
        released s (Some item) e = absurd (cc e)

        none : (around : Around) → part_of name (ScanStep.Unpin page) (scene_in a around) ≡ nothing (scene_in a around)
        none around =
            ap (λ (o : Option ℕ). where_there o (λ n. item_released n buffer_pin page) (scene_in a around)) (is a.space)
            ∙ released (scene_in a around) (find (is_of buffer_pin page) (items_of owner.number (owners_of a.store.owners))) missing

-- without an owner nothing is given back
pub no_owner : (name : Text) (page : ℕ) (a : Now) → owner_in (OfPortal name) (session_of a.store a.space) ≡ None → (around : Around) → part_of name (ScanStep.Unpin page) (scene_in a around) ≡ nothing (scene_in a around)
no_owner name page a none around = ap (λ (o : Option ℕ). where_there o (λ n. item_released n buffer_pin page) (scene_in a around)) none

pub no_row : (name : Text) (a : Now) → memory_in (InRow name) (session_of a.store a.space) ≡ None → (around : Around) → part_of name ScanStep.Reset (scene_in a around) ≡ nothing (scene_in a around)
no_row name a none around = ap (λ (o : Option ℕ). where_there o context_cleared_alone (scene_in a around)) none

-- a step by another name
pub serves_as : (name : Text) (x y : ScanStep) (a b : Now) (P : List What → Type 0) (r : Option Error) → x ≡ y → Performed (cost_of y) (fallible_part name y) a b P r → Performed (cost_of x) (fallible_part name x) a b P r
serves_as name x y a b P r is h = subst (λ (z : ScanStep). Performed (cost_of z) (fallible_part name z) a b P r) (sym is) h

-- a row that can't be made
pub bad_performed : (name : Text) (row : ℕ) (a : Now) (P : List What → Type 0) → Keeps a.store a.space → P [] → Performed (cost_of (ScanStep.Bad row)) (fallible_part name (ScanStep.Bad row)) a a P (Some (Error.BadRow row))
bad_performed name row a P keeps silent = fails 0 (Check.Refuse (Error.BadRow row)) [] a P (Error.BadRow row) keeps silent refl (λ around. refl)

-- a step that needs nothing besides
abbrev pub NeedsNothing : ScanStep → Type 0
NeedsNothing (ScanStep.Pin page) = ⊥
NeedsNothing (ScanStep.Bad row) = ⊥
NeedsNothing ScanStep.Alloc = ⊥
NeedsNothing other = Unit {0}

pub other_performed : (name : Text) (s : ScanStep) (a : Now) (P : List What → Type 0) → NeedsNothing s → Keeps a.store a.space → P [] → Performed (cost_of s) (fallible_part name s) a a P None
other_performed name (ScanStep.Pin page) a P h keeps silent = absurd h
other_performed name (ScanStep.Bad row) a P h keeps silent = absurd h
other_performed name ScanStep.Alloc a P h keeps silent = absurd h
other_performed name other a P h keeps silent = performed_none a P keeps silent

pub follows_as : (name : Text) (x y : ScanStep) (a b : Now) (P : List What → Type 0) → x ≡ y → Follows (part_of name y) a b P → Follows (part_of name x) a b P
follows_as name x y a b P is h = subst (λ (z : ScanStep). Follows (part_of name z) a b P) (sym is) h

-- the steps that are left
pub needs_nothing : (s : ScanStep) → ((page : ℕ) → s ≡ ScanStep.Pin page → ⊥) → ((row : ℕ) → s ≡ ScanStep.Bad row → ⊥) → (s ≡ ScanStep.Alloc → ⊥) → NeedsNothing s
needs_nothing s p b a = grind arith

pub other_part : (name : Text) (st : ScanStep) (s : Scene) → (st ≡ ScanStep.Reset → ⊥) → ((page : ℕ) → st ≡ ScanStep.Unpin page → ⊥) → ((row value : ℕ) → st ≡ ScanStep.Row row value → ⊥) → part_of name st s ≡ nothing s
other_part name st s r u w = grind arith

-- a step that was served has no bad row
pub served_good : (name : Text) (s : ScanStep) (k : ℕ) (a b : Now) (P : List What → Type 0) → Performed k (fallible_part name s) a b P None → is_bad_step s ≡ false
unfolding does does_all
served_good name x1 k a b P h = grind (arith, nat_tests, h.answers.answer empty_around None tt)
