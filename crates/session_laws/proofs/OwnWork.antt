-- Where a line stands between its elements. While the deepest level is aborted a line says nothing until it cleans that level up: an
-- element is a check then, or a word at the line's end, or the cleanup.
use Rattle.session_laws.proofs.Words.{◌≡◌, ℕ, zero, suc, ◌≤◌, Bool, true, false, if◌then◌else◌, List, [], ◌∷◌, ◌++◌, map, length, replicate, Option, Some, refl, sym, subst, arith, append_assoc, codes, le-ltb, option_and_then, nat_tests}
use Rattle.session_laws.proofs.Scenes.{What, Command, LevelState, OpenPortal, SessionState, is_aborted, level_owner, Check, Element, LevelContext, NewContext, OfLevel, OwnerRole, Text, portal_named, context_named, Scene, Moment, AreOuter, Stands, line_elements, KindId, Phase, Mode, CtxKind, owner_gone, phase_released, portal_ended, at_owner, at_portal, lock_given_back, snapshot_popped, context_made, new_context_made, new_owner_made, owner_made, plan_made, descriptor_given, item_taken, lock_taken, snapshot_pushed, does, Work, Scan, after_turn, fetch_steps, work_of, elements_of, rolled_back_to, savepoint}
use Rattle.session_rules.specs.Works.{row_of}
use Rattle.session_laws.proofs.Rules.{Acts, Follows, IsSpoken, Keeps, Law, Leaves, MoveLeaves, Owes, is_word, last, next, by_kind, by_order, by_owner, by_portal, by_portal_named, by_there, element_follows, fallible_at, fallible_so, moves_owed, unfailing_so, portal_ends}
use Rattle.pgs_step.specs.declared.events.What.TheVariants as what
use Rattle.session_rules.specs.Elements as e
use Rattle.any_ctx.specs.declared.any.CtxKind.TheVariants as kind

-- where a line stands: in an active session or in none; behind a level that was pushed, whose context is made next; behind that, where
-- its owner is made next; and where the deepest level is aborted
pub data Stage : Type 0 where
  Working : Stage
  ContextNext : Stage
  OwnerNext : Stage
  Hushed : Stage

-- what is made for a level
abbrev pub IsOwnContext : NewContext → Type 0
IsOwnContext LevelContext = ⊥
IsOwnContext other = Unit {0}

abbrev pub IsOwnOwner : OwnerRole → Type 0
IsOwnOwner OfLevel = ⊥
IsOwnOwner other = Unit {0}

-- what elements say by themselves
abbrev pub IsSaid : What → Type 0
IsSaid (what.Fetched name rows) = Unit {0}
IsSaid what.AlreadyInTransaction = Unit {0}
IsSaid what.NotInTransaction = Unit {0}
IsSaid what.Ok = Unit {0}
IsSaid other = ⊥

-- an element that neither makes nor ends a level, nor anything for one
abbrev pub IsOwnWork : Element → Type 0
IsOwnWork (e.Says event) = IsSaid event
IsOwnWork (e.MakeLevel name implicit) = ⊥
IsOwnWork (e.MakeContext new) = IsOwnContext new
IsOwnWork (e.MakeOwner role) = IsOwnOwner role
IsOwnWork e.LevelStands = ⊥
IsOwnWork (e.InTurn name x) = IsOwnWork x
IsOwnWork e.CommitTop = ⊥
IsOwnWork e.Subcommit = ⊥
IsOwnWork e.Abort = ⊥
IsOwnWork e.Cleanup = ⊥
IsOwnWork other = Unit {0}

-- an element of an active session
abbrev pub IsLively : Element → Type 0
IsLively (e.Says event) = IsSaid event
IsLively (e.MakeContext new) = IsOwnContext new
IsLively (e.MakeOwner role) = IsOwnOwner role
IsLively (e.InTurn name x) = IsOwnWork x
IsLively e.Cleanup = ⊥
IsLively other = Unit {0}

-- an element of a session whose deepest level is aborted
abbrev pub IsHushed : Element → Type 0
IsHushed (e.Checks check) = Unit {0}
IsHushed (e.Says event) = IsSaid event
IsHushed e.Cleanup = Unit {0}
IsHushed other = ⊥

abbrev pub IsLevelContext : Element → Type 0
IsLevelContext (e.MakeContext LevelContext) = Unit {0}
IsLevelContext other = ⊥

abbrev pub IsLevelOwner : Element → Type 0
IsLevelOwner (e.MakeOwner OfLevel) = Unit {0}
IsLevelOwner other = ⊥

-- an element that may come where the line stands so
abbrev pub IsDue : Stage → Element → Type 0
IsDue Working x = IsLively x
IsDue ContextNext x = IsLevelContext x
IsDue OwnerNext x = IsLevelOwner x
IsDue Hushed x = IsHushed x

abbrev pub working_next : Element → Stage
working_next (e.MakeLevel name implicit) = ContextNext
working_next e.Abort = Hushed
working_next other = Working

abbrev pub hushed_next : Element → Stage
hushed_next e.Cleanup = Working
hushed_next other = Hushed

-- where the line stands behind an element that was not refused
abbrev pub stage_next : Stage → Element → Stage
stage_next Working x = working_next x
stage_next ContextNext x = OwnerNext
stage_next OwnerNext x = Working
stage_next Hushed x = hushed_next x

-- a line doesn't end while a level is being made
abbrev pub IsRest : Stage → Type 0
IsRest ContextNext = ⊥
IsRest OwnerNext = ⊥
IsRest other = Unit {0}

-- elements of which each may come where the line stands by then
abbrev pub AreDue : Stage → List Element → Type 0
AreDue stage [] = IsRest stage
AreDue stage (x ∷ xs) = IsDue stage x × AreDue (stage_next stage x) xs

-- where a line stands that begins with these levels
abbrev pub stage_of : List LevelState → Stage
stage_of levels = if is_aborted levels then Hushed else Working

-- the levels above the deepest are active
abbrev pub AreAbove : List LevelState → Type 0
AreAbove [] = Unit {0}
AreAbove (level ∷ levels) = AreOuter levels

-- elements that neither make nor end levels
abbrev pub AreWork : List Element → Type 0
AreWork [] = Unit {0}
AreWork (x ∷ xs) = IsOwnWork x × AreWork xs

both_work : (xs ys : List Element) → AreWork xs → AreWork ys → AreWork (xs ++ ys)
both_work [] ys h k = k
both_work (x ∷ xs) ys h k = (h.0, both_work xs ys h.1 k)

checks_work : (checks : List Check) → AreWork (map e.Checks checks)
checks_work [] = tt
checks_work (check ∷ checks) = (tt, checks_work checks)

-- of a scan

last_or_more : (b : Bool) (xs ys : List Element) → AreWork xs → AreWork ys → AreWork (elim b as (λ _. List Element) [ true ↦ xs | false ↦ ys ])
last_or_more b xs ys h k = grind (arith, nat_tests)

fetch_work : (name : Text) (count : ℕ) (scan : Scan) (rows : ℕ) → AreWork (fetch_steps name count scan rows)
fetch_work name zero scan rows = (tt, tt)
fetch_work name (suc count) scan rows = grind (arith, nat_tests, fetch_work name count (after_turn scan), both_work, last_or_more)

-- of what is done within a transaction
steps_work : (w : Work) (portals : List OpenPortal) → AreWork (row_of w portals).steps
steps_work w portals = grind (arith, nat_tests, fetch_work)

work_is_work : (w : Work) (session : SessionState) → AreWork (work_of w session)
work_is_work w s = both_work (map e.Checks (row_of w s.portals).checks) (row_of w s.portals).steps (checks_work (row_of w s.portals).checks) (steps_work w s.portals)

-- such work may come in an active session, and leaves it active
work_due : (xs ys : List Element) → AreWork xs → AreDue Working ys → AreDue Working (xs ++ ys)
work_due [] ys h k = k
work_due (x ∷ xs) ys h k = grind (arith, nat_tests, work_due xs ys h.1 k)

commits_due : (n : ℕ) (ys : List Element) → AreDue Working ys → AreDue Working (replicate n e.Subcommit ++ ys)
commits_due zero ys k = k
commits_due (suc n) ys k = (tt, commits_due n ys k)

-- levels that are rolled back, of which none is aborted
rolled_outer : (n : ℕ) (levels : List LevelState) (ys : List Element) → AreOuter levels → AreDue Working ys → AreDue Working (rolled_back_to n levels ++ ys)
rolled_outer n [] ys h k = k
rolled_outer n (level ∷ levels) ys h k = grind (arith, nat_tests, rolled_outer n levels ys h.2 k)

-- the level of a savepoint is one of these
savepoint_within : (name : Text) (levels : List LevelState) (n : ℕ) → savepoint name levels ≡ Some n → n ≤ length levels
savepoint_within name [] n is = absurd (cc is)
savepoint_within name (level ∷ levels) n is = grind (arith, nat_tests, savepoint_within name levels n)

-- a stage that is known
active_due : (levels : List LevelState) (xs : List Element) → is_aborted levels ≡ false → AreDue Working xs → AreDue (stage_of levels) xs
active_due levels xs un k = subst (λ (b : Bool). AreDue (if b then Hushed else Working) xs) (sym un) k

elements_due : (c : Command) (session : SessionState) → AreAbove session.levels → AreDue (stage_of session.levels) (elements_of c session)
unfolding elements_of
elements_due c s h = grind (arith, nat_tests, active_due, append_assoc, commits_due, le-ltb, rolled_outer, savepoint_within, work_due, work_is_work)

-- Each element of a line may come where the line stands by then.
pub line_due : (line : Option Command) (session : SessionState) → AreAbove session.levels → AreDue (stage_of session.levels) (line_elements line session)
line_due line s h = grind (arith, nat_tests, elements_due)

pub above_of : (levels : List LevelState) (s : Scene) → Stands s → s.session.levels ≡ levels → AreAbove levels
above_of levels s h is = grind (arith, nat_tests)

-- What an element owes that neither makes nor ends a level, where a law is kept by what it is made of.

pub record WorkLeaves (R : Law) : Type 0 where
  pub leaves : Leaves R
  pub moves : MoveLeaves R
  pub made : (parent : ℕ) (name : Text) (protected : Bool) (kind : CtxKind) → Keeps R (context_made parent name protected kind)
  pub planned : (plan : ℕ) → Keeps R (plan_made plan)
  pub owner : (parent : Option ℕ) → Keeps R (owner_made parent)
  pub taken : (owner : ℕ) (kind : KindId) (key : ℕ) → Keeps R (item_taken owner kind key)
  pub locked : (object : ℕ) (mode : Mode) (n : ℕ) → Keeps R (lock_taken object mode n)
  pub unlocked : (object : ℕ) (mode : Mode) (n : ℕ) → Keeps R (lock_given_back object mode n)
  pub used : (file : ℕ) → Keeps R (descriptor_given file)
  pub pushed : (snapshot : ℕ) → Keeps R (snapshot_pushed snapshot)
  pub popped : Keeps R snapshot_popped
  pub phase : (commit top : Bool) (n : ℕ) (phase : Phase) → Keeps R (phase_released commit top n phase)
  pub discarded : (n : ℕ) → Keeps R (owner_gone n)

module _ (R : Law) (k : WorkLeaves R) where
  abbrev a : Acts R
  a = k.leaves.acts

  -- what a portal gets, and what a script names
  context_is_made : (new : e.NewContext) (s : Scene) → IsOwnContext new → ((name : Text) → R s (new_context_made (e.PortalContext name) s).scene (new_context_made (e.PortalContext name) s).events) → R s (new_context_made new s).scene (new_context_made new s).events
  context_is_made e.LevelContext s own places = elim own [ ]
  context_is_made (e.PortalContext name) s own places = places name
  context_is_made (e.RowContext name) s own places =
      (by_there R a (option_and_then (λ p. p.context) (portal_named name s.session.portals)) _
      (λ (parent : ℕ). by_order R a (next (k.made parent (codes "ExprContext") true kind.Small) (next (by_portal R a name (λ p. record p { expr = Some s.session.next_context }) (λ p. refl) (λ p. refl)) last)))).so s
  context_is_made (e.ScriptContext name parent kind) s own places = (by_there R a (context_named parent s.session) _ (λ (n : ℕ). k.made n name false kind)).so s

  owner_is_made : (role : e.OwnerRole) → IsOwnOwner role → Keeps R (new_owner_made role)
  owner_is_made e.OfLevel own = elim own [ ]
  owner_is_made (e.OfPortal name) own = record {
    so = λ s. (by_order R a (next (k.owner (level_owner s.session)) (next (by_portal R a name (λ p. record p { owner = Some s.session.next_owner }) (λ p. refl) (λ p. refl)) last))).so s;
  }

  pub own_owed : (w : Option ℕ) (x : Element) (m : Moment) → IsOwnWork x → ((name : Text) → R m.scene (new_context_made (e.PortalContext name) m.scene).scene (new_context_made (e.PortalContext name) m.scene).events) → Owes R w x m
  unfolding does
  own_owed w (e.InTurn name x) m own places = own_owed w x m own places
  own_owed w (e.MakeContext new) m own places = fallible_at R a w m _ (new_context_made new) (context_is_made new m.scene own places)
  own_owed w (e.MakeOwner role) m own places = fallible_so R a w m _ (new_owner_made role) (owner_is_made role own)
  own_owed w (e.MakePlan plan) m own places = fallible_so R a w m _ (plan_made plan) (k.planned plan)
  own_owed w (e.Take role kind key) m own places = fallible_so R a w m _ (at_owner role (λ owner. item_taken owner kind key)) (by_owner R a role (λ owner. item_taken owner kind key) (λ owner. k.taken owner kind key))
  own_owed w (e.TakeNamed name key) m own places = grind (arith, nat_tests, fallible_so, by_kind, by_owner)
  own_owed w (e.TakeLock role object mode) m own places = fallible_so R a w m _ (at_owner role (lock_taken object mode)) (by_owner R a role (lock_taken object mode) (k.locked object mode))
  own_owed w (e.Unlock object mode) m own places = unfailing_so R a m (at_owner OfLevel (lock_given_back object mode)) (by_owner R a OfLevel (lock_given_back object mode) (k.unlocked object mode))
  own_owed w (e.Touch file) m own places = fallible_so R a w m _ (descriptor_given file) (k.used file)
  own_owed w (e.PushSnapshot snapshot) m own places = fallible_so R a w m _ (snapshot_pushed snapshot) (k.pushed snapshot)
  own_owed w e.PopSnapshot m own places = unfailing_so R a m snapshot_popped k.popped
  own_owed w (e.EndPortal name) m own places = unfailing_so R a m (at_portal name portal_ended) (by_portal_named R a name portal_ended (portal_ends R a k.phase k.leaves.released k.discarded))
  own_owed w (e.Register name) m own places = moves_owed R a k.moves w (e.Register name) m
  own_owed w (e.Reparent name parent) m own places = moves_owed R a k.moves w (e.Reparent name parent) m
  own_owed w other m own places = grind (arith, nat_tests)

-- such an element says no more than a word by itself
said_word : (event : What) → IsSaid event → is_word event ≡ true
said_word event h = grind (arith, nat_tests)

own_spoken : (x : Element) → IsOwnWork x → IsSpoken false x
own_spoken (e.Says event) h = said_word event h
own_spoken (e.InTurn name x) h = own_spoken x h
own_spoken (e.Register name) h = refl
own_spoken (e.Reparent name parent) h = refl
own_spoken other h = tt

-- So it keeps the law.
pub own_follows : (R : Law) → WorkLeaves R → (w : Option ℕ) (x : Element) (m : Moment) → IsOwnWork x
    → ((name : Text) → R m.scene (new_context_made (e.PortalContext name) m.scene).scene (new_context_made (e.PortalContext name) m.scene).events) → Follows R m.scene (does w x m)
own_follows R k w x m own places = element_follows R k.leaves false w x m (own_spoken x own) (own_owed R k w x m own places)
