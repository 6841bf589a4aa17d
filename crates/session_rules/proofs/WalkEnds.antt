-- What follows from a law's leaves where it is kept in any scene: what takes items and the ends of portals, levels and sessions keep it too.
use Rattle.session_rules.proofs.Base.{ℕ, ◌-◌, Bool, true, false, not, if◌then◌else◌, List, [], ◌∷◌, Option, None, refl, arith, ◌==◌, drop, unwrap_or, nat_tests}
use Rattle.session_rules.proofs.Below.{Error, KindId, Phase, BeforeLocks, Locks, AfterLocks, level_lowered, is_empty, What, PortalState}
use Rattle.session_rules.proofs.Rules.{Moment, Scene, Element, has_failed, changes, children_gone, context_gone, for_each, in_order, portal_becomes, portal_gone, say, switched, where_so, where_there, item_released, owner_gone, owner_moved, owner_released, phase_released, executor_ended, is_ready, portal_aborted, portal_closed, portal_ended, portal_failed, portal_passed, portal_withdrawn, item_taken, at_owner, at_portal, does, LevelState, OpenPortal, abort_context, buffer_pin, context_of, deepest_changed, depth, first_of, is_aborted, level_above, level_context, level_owner, owner_of, relcache_reference, snapshot_reference, top_context, aborted, cleaned_up, committed, empty_context_gone, exited, given_up, level_context_gone, level_owner_gone, level_popped, level_released, level_rolled_back, recovered, stack_popped, subcommitted, switched_up}
use Rattle.session_rules.proofs.Leaves.{Acts, EndLeaves, Keeps, Law, Leaves, LevelLeaves, MakeLeaves, Owes, OwesEnds, OwesMakes, OwesMoves, last, next}
use Rattle.session_rules.proofs.Walk.{by_each, by_either, by_kind, by_levels, by_order, by_owner, by_portal, by_portal_named, by_so, by_there, fallible_so, levels_owed, makes_owed, unfailing_so}

-- the acts that the ends of portals are made of
module _ (R : Law) (a : Acts R) where
  pub context_goes : (o : Option ℕ) → Keeps R (where_there o context_gone)
  context_goes o = by_there R a o context_gone a.gone

  pub portal_fails : (p : OpenPortal) → Keeps R (portal_failed p)
  portal_fails p = by_order R a (next (by_portal R a p.name (λ old. record old { state = PortalState.Failed; owner = None; expr = None }) (λ p. refl) (λ p. refl)) (next (by_there R a p.context children_gone a.children) last))

  pub portal_cleans : (level : ℕ) (p : OpenPortal) → Keeps R (where_so (p.created == level) (in_order (where_there p.context context_gone ∷ portal_gone p.name ∷ [])))
  portal_cleans level p =
      by_so R a (p.created == level) (in_order (where_there p.context context_gone ∷ portal_gone p.name ∷ [])) (by_order R a (next (context_goes p.context) (next (a.portal_goes p.name) last)))

  -- a portal is of the level above then, and one that is withdrawn is active there
  pub portal_lowers : (level : ℕ) (p : OpenPortal) → Keeps R (portal_becomes p.name (λ old. record old { created = level_lowered level old.created; active = level_lowered level old.active }))
  portal_lowers level p = grind (arith, nat_tests)

  pub portal_returns : (level : ℕ) (p : OpenPortal) → Keeps R (portal_becomes p.name (λ old. record old { active = level - 1; owner = if has_failed old.state then None else old.owner }))
  portal_returns level p = by_portal R a p.name (λ old. record old { active = level - 1; owner = if has_failed old.state then None else old.owner }) (λ p. refl) (λ p. refl)

  pub level_context_goes : Keeps R level_context_gone
  level_context_goes = record { so = λ s. (context_goes (level_context s.session)).so s }

  pub empty_context_goes : Keeps R empty_context_gone
  empty_context_goes = record { so = λ s. (by_there R a (level_context s.session) _ (λ (n : ℕ). by_so R a (is_empty n s.session.contexts) (context_gone n) (a.gone n))).so s }

  module _ (release : (owner : ℕ) (kind : KindId) (key : ℕ) → Keeps R (item_released owner kind key)) where
    pub executor_ends : (p : OpenPortal) → Keeps R (executor_ended p)
    executor_ends p = record {
      so = (by_there R a p.owner _
          (λ (owner : ℕ). by_order R a
          (next (by_there R a p.scan.page (item_released owner buffer_pin) (release owner buffer_pin))
          (next (release owner relcache_reference p.scan.object)
          (next (release owner snapshot_reference p.scan.object) last))))).so;
    }

    pub portal_closes : (p : OpenPortal) → Keeps R (portal_closed p)
    portal_closes p = by_order R a (next (by_so R a (is_ready p.state) (executor_ended p) (executor_ends p)) (next (context_goes p.context) (next (a.portal_goes p.name) last)))

  module _ (moves : (n parent : ℕ) → Keeps R (owner_moved n parent)) where
    -- the owner of a portal, where it has one, moves to that of a level, where this has one
    owner_passes : (own above : Option ℕ) → Keeps R (where_there own (λ owner. where_there above (owner_moved owner)))
    owner_passes own above = by_there R a own _ (λ (owner : ℕ). by_there R a above (owner_moved owner) (moves owner))

    pub portal_passes : (level : ℕ) (above : Option ℕ) (p : OpenPortal) → Keeps R (portal_passed level above p)
    portal_passes level above p = by_order R a (next (by_so R a (p.created == level) _ (owner_passes p.owner above)) (next (portal_lowers level p) last))

    pub portal_aborts : (level : ℕ) (own : Option ℕ) (p : OpenPortal) → Keeps R (portal_aborted level own p)
    portal_aborts level own p = record {
      so = λ s. by_either R a (p.created == level) (portal_failed p s) (where_so (p.active == level) (portal_withdrawn level own p) s) ((portal_fails p).so s)
          ((by_so R a (p.active == level) (portal_withdrawn level own p) (by_order R a (next (by_so R a (has_failed p.state) _ (owner_passes p.owner own)) (next (portal_returns level p) last)))).so s);
    }

  module _ (phase : (commit top : Bool) (n : ℕ) (phase : Phase) → Keeps R (phase_released commit top n phase)) where
    pub owner_releases : (commit top : Bool) (owner : ℕ) → Keeps R (owner_released commit top owner)
    owner_releases commit top owner = record { so = (by_each R a (phase_released commit top owner) (phase commit top owner) (BeforeLocks ∷ Locks ∷ AfterLocks ∷ [])).so }

    pub level_releases : (commit top : Bool) → Keeps R (level_released commit top)
    level_releases commit top = record { so = λ s. (by_there R a (level_owner s.session) (owner_released commit top) (owner_releases commit top)).so s }

    -- the end of a portal that isn't that of its transaction
    module _ (release : (owner : ℕ) (kind : KindId) (key : ℕ) → Keeps R (item_released owner kind key)) (discarded : (n : ℕ) → Keeps R (owner_gone n)) where
      pub portal_ends : (p : OpenPortal) → Keeps R (portal_ended p)
      portal_ends p =
          by_order R a
          (next (by_so R a (is_ready p.state) _ (by_order R a (next (executor_ends release p) (next (owner_ends p.owner) last))))
          (next (context_goes p.context)
          (next (a.portal_goes p.name) last)))
        where
          owner_ends : (o : Option ℕ) → Keeps R (where_there o (λ owner. in_order (owner_released true false owner ∷ owner_gone owner ∷ [])))
          owner_ends o = by_there R a o _ (λ (owner : ℕ). by_order R a (next (owner_releases true false owner) (next (discarded owner) last)))

-- the acts that behind the release of a level's owner end it
module _ (R : Law) (l : LevelLeaves R) where
  pub level_pops : Keeps R level_popped
  level_pops = record { so = (by_levels R l (λ levels. drop 1 levels)).so }

  pub level_marks : Keeps R (changes (λ session. record session { levels = deepest_changed (λ old. record old { aborted = true }) session.levels }))
  level_marks = by_levels R l (deepest_changed (λ old. record old { aborted = true }))

  pub switches_up : Keeps R switched_up
  switches_up = record { so = λ s. (l.leaves.switch (unwrap_or (context_of (level_above s.session)) top_context)).so s }

module _ (R : Law) (h : EndLeaves R) where
  abbrev v : LevelLeaves R
  v = h.levels

  abbrev l : Leaves R
  l = v.leaves

  abbrev acts : Acts R
  acts = l.acts

  pub level_owner_goes : Keeps R level_owner_gone
  level_owner_goes = record { so = λ s. (by_there R acts (level_owner s.session) owner_gone h.discarded).so s }

  -- the ends of the deepest level
  pub behind_commit : Keeps R (in_order (stack_popped 1 ∷ level_owner_gone ∷ switched top_context ∷ level_context_gone ∷ level_popped ∷ []))
  behind_commit = by_order R acts (next (v.stack_gone 1) (next level_owner_goes (next (l.switch top_context) (next (level_context_goes R acts) (next (level_pops R v) last)))))

  pub commits : Keeps R committed
  commits = record {
    so = λ s. (by_order R acts
        (next (v.level_word (What.CommitLevel 1) refl)
        (next (by_each R acts portal_closed (portal_closes R acts l.released) s.session.portals)
        (next (level_releases R acts h.phase true true)
        (next (v.stack_gone 1) (next level_owner_goes (next (l.switch top_context) (next (level_context_goes R acts) (next (level_pops R v) last))))))))).so s;
  }

  pub subcommits : Keeps R subcommitted
  subcommits = record {
    so = λ s. (by_order R acts
        (next (v.level_word (What.CommitLevel (depth s.session)) refl)
        (next (by_each R acts (portal_passed (depth s.session) (owner_of (level_above s.session))) (portal_passes R acts h.moved (depth s.session) (owner_of (level_above s.session))) s.session.portals)
        (next (level_releases R acts h.phase true false)
        (next (v.stack_passed (depth s.session)) (next level_owner_goes (next (switches_up R v) (next (empty_context_goes R acts) (next (level_pops R v) last))))))))).so s;
  }

  pub aborts : Keeps R aborted
  aborts = record {
    so = λ s. (by_order R acts
        (next (v.level_word (What.AbortLevel (depth s.session)) refl)
        (next (l.switch abort_context)
        (next (by_each R acts (portal_aborted (depth s.session) (level_owner s.session)) (portal_aborts R acts h.moved (depth s.session) (level_owner s.session)) s.session.portals)
        (next (level_releases R acts h.phase false (depth s.session == 1))
        (next (v.stack_gone (depth s.session))
        (next (level_marks R v) last))))))).so s;
  }

  pub cleans_up : Keeps R cleaned_up
  cleans_up = record {
    so = λ s. (by_order R acts
        (next (v.level_word (What.CleanupLevel (depth s.session)) refl)
        (next (by_each R acts _ (portal_cleans R acts (depth s.session)) s.session.portals)
        (next level_owner_goes (next (switches_up R v) (next (level_context_goes R acts) (next (level_pops R v) last))))))).so s;
  }

  pub rolls_back : (level : LevelState) → Keeps R (level_rolled_back level)
  rolls_back level = record { so = (by_order R acts (next (by_so R acts (not level.aborted) aborted aborts) (next cleans_up last))).so }

  -- what comes behind the word of an error
  gives_up : (levels : List LevelState) → Keeps R (given_up levels)
  gives_up [] = record { so = acts.none }
  gives_up (level ∷ levels) = grind (arith, nat_tests, by_either R acts level.starting, by_either R acts level.implicit, by_order R acts, rolls_back level, by_there R acts (first_of levels), aborts)

  pub recovery_follows : (s : Scene) → R s (in_order (where_so (not (is_aborted s.session.levels)) (given_up s.session.levels) ∷ []) s).scene
      (in_order (where_so (not (is_aborted s.session.levels)) (given_up s.session.levels) ∷ []) s).events
  recovery_follows s = (by_order R acts (next (by_so R acts (not (is_aborted s.session.levels)) (given_up s.session.levels) (gives_up s.session.levels)) last)).so s

  pub recovers : (error : Error) → Keeps R (say (What.Error error)) → Keeps R (recovered error)
  unfolding recovered
  recovers error said = record { so = λ s. acts.both (said.so s) (recovery_follows s) }

  -- the end of a session, up to its last word
  pub levels_follow : (s : Scene) → R s (for_each level_rolled_back s.session.levels s).scene (for_each level_rolled_back s.session.levels s).events
  levels_follow s = (by_each R acts level_rolled_back rolls_back s.session.levels).so s

  pub exit_follows : Keeps R (say What.Exit) → (s : Scene) → R s (exited s).scene (exited s).events
  unfolding exited
  exit_follows said s = acts.both (levels_follow s) ((by_order R acts (next (l.switch top_context) (next (acts.gone top_context) (next said last)))).so _)

  -- So each element is owed, but what makes or uses something.
  pub ends_owed : (w : Option ℕ) (x : Element) (m : Moment) → OwesMakes R w x m → OwesEnds R w x m
  unfolding does
  ends_owed w (Element.InTurn name x) m owed = ends_owed w x m owed
  ends_owed w (Element.Take role kind key) m owed = fallible_so R acts w m _ (at_owner role (λ owner. item_taken owner kind key)) (by_owner R acts role (λ owner. item_taken owner kind key) (λ owner. h.taken owner kind key))
  ends_owed w (Element.TakeNamed name key) m owed = grind (arith, nat_tests, fallible_so R, by_kind R, by_owner R)
  ends_owed w (Element.EndPortal name) m owed = unfailing_so R acts m (at_portal name portal_ended) (by_portal_named R acts name portal_ended (portal_ends R acts h.phase l.released h.discarded))
  ends_owed w Element.CommitTop m owed = unfailing_so R acts m committed commits
  ends_owed w Element.Subcommit m owed = unfailing_so R acts m subcommitted subcommits
  ends_owed w Element.Abort m owed = unfailing_so R acts m aborted aborts
  ends_owed w Element.Cleanup m owed = unfailing_so R acts m cleaned_up cleans_up
  ends_owed w other m owed = owed

  -- and, where it is kept in any scene what is made and used, but what registers a hook or moves a context
  pub all_owed : MakeLeaves R → (w : Option ℕ) (x : Element) (m : Moment) → OwesMoves R w x m → Owes R w x m
  all_owed k w x m owed = levels_owed R v w x m (ends_owed w x m (makes_owed R v k w x m owed))
