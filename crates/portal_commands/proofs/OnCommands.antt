-- The commands on portals.
use Rattle.portal_commands.proofs.Base.{nat_tests, ◌≡◌, ℕ, ◌+◌, ◌*◌, ◌≤◌, List, [], ◌∷◌, ◌++◌, Option, Some, None, is_some, refl, sym, ◌∙◌, ap, subst, arith, false, true, is_none, Bor, option_copied, option_map, option_map_or}
use Rattle.portal_commands.proofs.Words.{Asks, Moves, PortalCommand, Error, What, Portal, PortalState, OpenPortal, depth, Around, Moment, portal_becomes, say, unfailing, failure, has_failed, unless, does, Element, Check, Text, portal_named, at_portal, portal_ended, elements, fetch_steps, portal_row, portal_steps, Acted, Keeps, portal_state, portals_of, session_of, Grows, Now, Performed, most_work, scene_in, fails, passes, grows_nothing, moves_nothing, performed_both, performed_end, performed_more, balances_none, silent_then, scan_named}
use Rattle.portal_store.specs.Portals as list
use Rattle.portal_commands.proofs.Listed.{named_as}

-- what portal has the name
module _ (name : Text) (a : Now) where
  named : (o : Option Portal) → list.portal_named name a.store.portals ≡ o → (around : Around) → portal_named name (scene_in a around).session.portals ≡ option_map portal_state o
  unfolding session_of
  named o is around = sym (named_as name a.store.portals) ∙ ap (option_map portal_state) is

  pub is_new : list.portal_named name a.store.portals ≡ None → (around : Around) → failure (Check.PortalIsNew name) (scene_in a around) ≡ None
  is_new none around = ap (λ (o : Option OpenPortal). unless (is_none o) Error.PortalTaken) (named None none around)

  pub is_taken : (p : Portal) → list.portal_named name a.store.portals ≡ Some p → (around : Around) → failure (Check.PortalIsNew name) (scene_in a around) ≡ Some Error.PortalTaken
  is_taken p is around = ap (λ (o : Option OpenPortal). unless (is_none o) Error.PortalTaken) (named (Some p) is around)

  pub is_there : (p : Portal) → list.portal_named name a.store.portals ≡ Some p → (around : Around) → failure (Check.IsPortal name) (scene_in a around) ≡ None
  is_there p is around = ap (λ (o : Option OpenPortal). unless (is_some o) Error.NoSuchPortal) (named (Some p) is around)

  pub is_missing : list.portal_named name a.store.portals ≡ None → (around : Around) → failure (Check.IsPortal name) (scene_in a around) ≡ Some Error.NoSuchPortal
  is_missing none around = ap (λ (o : Option OpenPortal). unless (is_some o) Error.NoSuchPortal) (named None none around)

  pub may_be_fetched : (p : Portal) → list.portal_named name a.store.portals ≡ Some p → has_failed p.state ≡ false → (around : Around) → failure (Check.HasNotFailed name) (scene_in a around) ≡ None
  may_be_fetched p is well around = grind (arith, nat_tests, named (Some p) is around)

  pub has_gone_bad : (p : Portal) → list.portal_named name a.store.portals ≡ Some p → has_failed p.state ≡ true → (around : Around) → failure (Check.HasNotFailed name) (scene_in a around) ≡ Some Error.PortalFailed
  has_gone_bad p is bad around = grind (arith, nat_tests, named (Some p) is around)

-- what an option is, by whether it is there
pub some_of : {A : Type 0} (o : Option A) → is_some o ≡ true → (x : A) × (o ≡ Some x)
some_of x0 e = grind (arith, nat_tests)

pub none_of : {A : Type 0} (o : Option A) → is_some o ≡ false → o ≡ None
none_of x0 e = grind (arith, nat_tests)

-- a reference is there where what it points to is
pub copied_some : {A : Type 0} (o : Option (Bor A)) → is_some (option_copied o) ≡ is_some o
copied_some x0 = grind (arith, nat_tests)

pub not_failed : (s : PortalState) → (s ≡ PortalState.Failed → ⊥) → has_failed s ≡ false
not_failed s h = grind arith

pub does_ready : (name : Text) (w : Option ℕ) (m : Moment) → does w (Element.PortalReady name) m ≡ unfailing m (portal_becomes name (λ p. record p { state = PortalState.Ready }))
unfolding does
does_ready name w m = refl

pub does_begin : (name : Text) (w : Option ℕ) (m : Moment) → does w (Element.FetchBegins name) m ≡ unfailing m (λ scene. portal_becomes name (λ p. record p { active = depth scene.session }) scene)
unfolding does
does_begin name w m = refl

does_say : (event : What) (w : Option ℕ) (m : Moment) → does w (Element.Says event) m ≡ unfailing m (say event)
unfolding does
does_say event w m = refl

does_end : (name : Text) (w : Option ℕ) (m : Moment) → does w (Element.EndPortal name) m ≡ unfailing m (at_portal name portal_ended)
unfolding does
does_end name w m = refl

-- something is told
pub told : (event : What) (a : Now) (P : List What → Type 0) → Keeps a.store a.space → P (event ∷ []) → Performed 0 (Element.Says event ∷ []) a a P None
told event a P keeps said =
    performed_end 0 (Element.Says event) (say event) a a P (does_say event) (record { leads = λ around. refl; says = λ around. said; balances = balances_none a.store.owners a.commons }) keeps
    (moves_nothing a.store.tree a.space keeps.agrees) (grows_nothing 0 a) refl (λ around. refl)

-- `portal`
module _ (name : Text) (object rows : ℕ) (bad : Option ℕ) (a : Now) (P : List What → Type 0) (keeps : Keeps a.store a.space) where
  pub portal_taken : (p : Portal) → list.portal_named name a.store.portals ≡ Some p → P [] → Performed most_work (elements (portal_row (PortalCommand.Open name object rows bad) (portals_of a.store.portals))) a a P (Some Error.PortalTaken)
  portal_taken p is silent = fails most_work (Check.PortalIsNew name) _ a P Error.PortalTaken keeps silent refl (is_taken name a p is)

  pub portal_opened : (b : Now) (r : Option Error) → list.portal_named name a.store.portals ≡ None → Performed 10 (portal_steps name object rows bad) a b P r → Performed most_work (elements (portal_row (PortalCommand.Open name object rows bad) (portals_of a.store.portals))) a b P r
  portal_opened b r none x = passes most_work (Check.PortalIsNew name) (portal_steps name object rows bad) a b P r keeps (is_new name a none) (performed_more 10 most_work (portal_steps name object rows bad) a b P r (omega arith) x)

-- `fetch`
module _ (name : Text) (count : ℕ) (a : Now) (R : List What → Type 0) (keeps : Keeps a.store a.space) where
  pub fetch_of_none : list.portal_named name a.store.portals ≡ None → R [] → Performed most_work (elements (portal_row (PortalCommand.Fetch name count) (portals_of a.store.portals))) a a R (Some Error.NoSuchPortal)
  fetch_of_none none silent =
      fails most_work (Check.IsPortal name) _ a R Error.NoSuchPortal keeps silent refl (is_missing name a none)

  module _ (p : Portal) (is : list.portal_named name a.store.portals ≡ Some p) where
    pub fetch_of_failed : has_failed p.state ≡ true → R [] → Performed most_work (elements (portal_row (PortalCommand.Fetch name count) (portals_of a.store.portals))) a a R (Some Error.PortalFailed)
    fetch_of_failed bad silent =
        passes most_work (Check.IsPortal name) _ a a R (Some Error.PortalFailed) keeps (is_there name a p is)
        (fails most_work (Check.HasNotFailed name) _ a R Error.PortalFailed keeps silent refl (has_gone_bad name a p is bad))

    -- its scan
    pub scan_of_it : scan_named name a.store ≡ Some p.scan
    scan_of_it = ap (option_map (λ (q : OpenPortal). q.scan)) (sym (named_as name a.store.portals) ∙ ap (option_map portal_state) is)

    steps_are : option_map_or (λ (q : OpenPortal). fetch_steps name count q.scan 0) (portal_named name (portals_of a.store.portals)) [] ≡ fetch_steps name count p.scan 0
    steps_are = ap (λ (o : Option OpenPortal). option_map_or (λ q. fetch_steps name count q.scan 0) o []) (sym (named_as name a.store.portals) ∙ ap (option_map portal_state) is)

    module _ (well : has_failed p.state ≡ false) (small : count ≤ 1000000) (b d : Now) (begun : Performed 0 (Element.FetchBegins name ∷ []) a b (λ events. events ≡ []) None) where
      fetch_by : (k : ℕ) (r : Option Error) → k ≤ most_work → Performed k (fetch_steps name count p.scan 0) b d R r → Performed most_work (elements (portal_row (PortalCommand.Fetch name count) (portals_of a.store.portals))) a d R r
      fetch_by k r le x =
          passes most_work (Check.IsPortal name) _ a d R r keeps (is_there name a p is)
          (passes most_work (Check.HasNotFailed name) _ a d R r keeps (may_be_fetched name a p is well)
          (performed_more (0 + k) most_work _ a d R r (omega (arith, le))
          (silent_then 0 k (Element.FetchBegins name ∷ []) _ a b d R r begun (subst (λ (es : List Element). Performed k es b d R r) (sym steps_are) x))))

      pub fetch_refused : (e : Error) → Performed (3 * count) (fetch_steps name count p.scan 0) b d R (Some e) → Performed most_work (elements (portal_row (PortalCommand.Fetch name count) (portals_of a.store.portals))) a d R (Some e)
      fetch_refused e x = fetch_by (3 * count) (Some e) (omega (arith, small)) x

      pub fetch_done : (rows : ℕ) (Q S : List What → Type 0) (done : List Element) → fetch_steps name count p.scan 0 ≡ done ++ (Element.Says (What.Fetched name rows) ∷ []) → Performed (3 * count) done b d Q None → Keeps d.store d.space
          → S (What.Fetched name rows ∷ []) → ((us vs : List What) → Q us → S vs → R (us ++ vs)) → Performed most_work (elements (portal_row (PortalCommand.Fetch name count) (portals_of a.store.portals))) a d R None
      fetch_done rows Q S done all x after said joins =
          fetch_by (3 * count + 0) None (omega (arith, small))
          (subst (λ (es : List Element). Performed (3 * count + 0) es b d R None) (sym all)
          (performed_both (3 * count) 0 done (Element.Says (What.Fetched name rows) ∷ []) b d d Q S R None x (told (What.Fetched name rows) d S after said) joins))

-- `endportal`
module _ (name : Text) (a : Now) (P : List What → Type 0) (keeps : Keeps a.store a.space) where
  pub end_of_none : list.portal_named name a.store.portals ≡ None → P [] → Performed most_work (elements (portal_row (PortalCommand.End name) (portals_of a.store.portals))) a a P (Some Error.NoSuchPortal)
  end_of_none none silent = fails most_work (Check.IsPortal name) _ a P Error.NoSuchPortal keeps silent refl (is_missing name a none)

  pub portal_ends : (b : Now) (p : Portal) → list.portal_named name a.store.portals ≡ Some p → Acted (at_portal name portal_ended) a.store b.store a.space b.space a.shelf b.shelf a.commons b.commons P → Keeps b.store b.space
      → Moves a.store.tree b.store.tree a.space b.space → Grows 0 a b → b.calls ≡ a.calls → Asks a.store.tree.account 0 a.space b.space → Performed most_work (elements (portal_row (PortalCommand.End name) (portals_of a.store.portals))) a b P None
  portal_ends b p is acted after moves grows calls asks =
      passes most_work (Check.IsPortal name) (Element.EndPortal name ∷ []) a b P None keeps (is_there name a p is)
      (performed_more 0 most_work _ a b P None (omega arith)
      (performed_end 0 (Element.EndPortal name) (at_portal name portal_ended) a b P (does_end name) acted after moves grows calls (λ around. asks)))
