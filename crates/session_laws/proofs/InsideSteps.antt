-- What is seen of a level that is being made.
use Rattle.session_laws.proofs.Words.{◌≡◌, ◌≢◌, ℕ, ◌+◌, ◌<◌, Bool, true, false, not, List, [], ◌∷◌, map, length, Option, Some, None, refl, sym, ap, ◌∙◌, subst, inr, arith, ◌==◌, ◌||◌, codes, filter, drop, and_from, eq-eqb, eqb-true, ne_eqb, or_left, nat_tests}
use Rattle.session_laws.proofs.Scenes.{What, LevelState, OpenPortal, deepest_changed, level_above, owner_of, depth, top_context, Scene, Moment, LevelContext, OfLevel, Text, Element, NewContext, OwnerRole, level_context_name, level_made, level_parent, new_context_made, new_owner_made, made_event, Error, failure, Ended, for_each, in_order, nothing, say, switched, level_stands, portal_closed, portal_passed, aborted, cleaned_up, committed, empty_context_gone, level_context_gone, level_owner_gone, level_released, stack_lowered, stack_popped, subcommitted, switched_up, Done, fallible, refused_call, unfailing, unless_refused, does, Stands}
use Rattle.session_laws.proofs.Rules.{allows_all, is_one_of, seen_after, settled, Follows, IsSpoken, Keeps, last, next, Meets, by_each, by_order, element_follows, empty_context_goes, level_context_goes, level_releases, portal_closes, portal_passes, said_none, Awaited, Begun, ItsContext, ItsOwner, Leaving, Neither, awaited_behind, bare_level, ends_behind, is_named, last_changed, level_begun, staying, with_owner, with_portal, Node as Replayed, owners_behind}
use Rattle.session_laws.proofs.InsideWalk.{AreBegun, AreSeen, Grows, Sees, begun_still, grows_either, has_begun, known_still, level_here, level_later, nothing_ends, seen_still, AreLow, Calming, Kept, Lessens, Seen, Works, calm_all, lessens_sees, by_moved, by_said, by_switch, inside_acts, inside_phase, inside_released, inside_stack, unmoved, element_works, low_of}
use Rattle.session_laws.proofs.Lives.{IsRead}
use Rattle.session_laws.proofs.Parents.{FitsContexts, FitsOwners, FitsTree, Growth, growing_owners}
use Rattle.session_laws.proofs.ParentsLife.{KeepsContexts, HasOwners, KeepsOwners, contexts_owed, owners_owed}
use Rattle.session_laws.proofs.OwnWork.{ContextNext, Hushed, IsDue, IsHushed, IsLevelContext, IsLevelOwner, IsLively, IsSaid, OwnerNext, Stage, Working, hushed_next, stage_next, working_next}
use Rattle.session_laws.proofs.InsidePhases.{InEnd, IsOver, Stayed, confined, confined_stays}
use Rattle.session_laws.proofs.InsideHooks.{AreQuiet, KeepsQuiet, quiet_owed}
use Rattle.session_laws.proofs.InsideEnds.{contexts_fit, AbortRead, CleanRead, Halted, IsSoon, MayEnd, aborts_read, cleans_read, level_owner_goes, switches_up}
use Rattle.pgs_step.specs.declared.events.What.TheVariants as what
use Rattle.session_rules.specs.Elements as e

-- what is seen of levels, where none is in its end
pub record Active (leaving : Leaving) (s : Scene) : Type 0 where
  pub sees : Sees leaving s
  pub ends : leaving.ends ≡ []

-- the level that began last is the deepest one, which isn't aborted
pub record IsLast (leaving : Leaving) (s : Scene) : Type 0 where
  pub level : LevelState
  pub levels : List LevelState
  pub are : s.session.levels ≡ level ∷ levels
  pub unaborted : level.aborted ≡ false
  pub first : Begun
  pub rest : List Begun
  pub begun : leaving.begun ≡ first ∷ rest
  pub number : first.level ≡ length levels + 1

-- a level begins
abbrev without_level : ℕ → List Begun → List Begun
without_level n begun = filter (λ other. not (other.level == n)) begun

still_level : (k n : ℕ) (begun : List Begun) → k ≢ n → level_begun k (without_level n begun) ≡ level_begun k begun
still_level k n [] ne = refl
still_level k n (first ∷ rest) ne = grind (arith, nat_tests, still_level k n rest ne, ne_eqb, eqb-true)

still_there : (k n : ℕ) (begun : List Begun) → k ≢ n → has_begun k begun ≡ true → has_begun k (without_level n begun) ≡ true
still_there k n [] ne h = h
still_there k n (first ∷ rest) ne h = grind (arith, nat_tests, still_there k n rest ne, ne_eqb, eqb-true)

abbrev with_new : ℕ → List Begun → List Begun
with_new n begun = bare_level n ∷ without_level n begun

other_level : (k n : ℕ) (begun : List Begun) → k ≢ n → level_begun k (with_new n begun) ≡ level_begun k begun
other_level k n begun ne = level_later k (bare_level n) (without_level n begun) (ne_eqb n k (λ e. ne (sym e))) ∙ still_level k n begun ne

other_there : (k n : ℕ) (begun : List Begun) → k ≢ n → has_begun k begun ≡ true → has_begun k (with_new n begun) ≡ true
other_there k n begun ne h = ap (λ (b : Bool). b || has_begun k (without_level n begun)) (ne_eqb n k (λ e. ne (sym e))) ∙ still_there k n begun ne h

outer_begun : (n : ℕ) (begun : List Begun) (levels : List LevelState) → length levels < n → AreBegun levels begun → AreBegun levels (with_new n begun)
outer_begun n begun [] below h = tt
outer_begun n begun (level ∷ levels) below h = grind (arith, nat_tests, outer_begun n begun levels, other_there, other_level)

outer_seen : (n : ℕ) (begun : List Begun) (ps : List OpenPortal) (most : ℕ) → most < n → AreLow most ps → AreSeen ps begun → AreSeen ps (with_new n begun)
outer_seen n begun [] most below low h = tt
outer_seen n begun (p ∷ ps) most below low h = grind (arith, nat_tests, outer_seen n begun ps most below low.1 h.1, other_level)

-- what is seen behind one event
abbrev pub OneRead : (Leaving → Scene → Type 0) → Leaving → Scene → List What → Type 0
OneRead F = IsRead staying F

-- where a context is awaited, and where an owner is
pub record AwaitsContext (leaving : Leaving) (s : Scene) : Type 0 where
  pub active : Active leaving s
  pub awaited : leaving.awaited ≡ ItsContext
  pub is_last : IsLast leaving s

pub record AwaitsOwner (leaving : Leaving) (s : Scene) : Type 0 where
  pub active : Active leaving s
  pub awaited : leaving.awaited ≡ ItsOwner
  pub is_last : IsLast leaving s

pub record AwaitsNothing (leaving : Leaving) (s : Scene) : Type 0 where
  pub active : Active leaving s
  pub awaited : leaving.awaited ≡ Neither

one_allowed : (event : What) (leaving : Leaving) → leaving.ends ≡ [] → allows_all staying leaving (event ∷ []) ≡ true
one_allowed event leaving e = and_from (staying.allows event leaving) true (nothing_ends event leaving e) refl

pub level_begins : (name : Option Text) (implicit : Bool) (s : Scene) (leaving : Leaving) → AreLow (length s.session.levels) s.session.portals → AwaitsNothing leaving s
    → OneRead AwaitsContext leaving (level_made name implicit s).scene (level_made name implicit s).events
level_begins name implicit s leaving low k = grind (arith, nat_tests, level_here, eq-eqb, one_allowed, or_left, has_begun, outer_begun, outer_seen)

-- the level that began last changes
record Alters (change : Begun → Begun) : Type 0 where
  level : (b : Begun) → (change b).level ≡ b.level
  portals : (b : Begun) → (change b).portals ≡ b.portals

altered_here : (change : Begun → Begun) → Alters change → (n : ℕ) (first : Begun) (rest : List Begun) → first.level ≡ n → level_begun n (change first ∷ rest) ≡ change first
altered_here change a n first rest e = level_here n (change first) rest (eq-eqb (change first).level n (a.level first ∙ e))

altered_there : (change : Begun → Begun) → Alters change → (k : ℕ) (first : Begun) (rest : List Begun) → has_begun k (first ∷ rest) ≡ true → has_begun k (change first ∷ rest) ≡ true
altered_there change a k first rest h = ap (λ (m : ℕ). (m == k) || has_begun k rest) (a.level first) ∙ h

altered_portals : (change : Begun → Begun) → Alters change → (c k n : ℕ) (first : Begun) (rest : List Begun) → first.level ≡ n
    → is_one_of c (level_begun k (first ∷ rest)).portals ≡ true → is_one_of c (level_begun k (change first ∷ rest)).portals ≡ true
altered_portals change a c k n first rest e h = grind (arith, nat_tests, altered_here, level_here, eq-eqb)

altered_outer : (change : Begun → Begun) → Alters change → (n : ℕ) (first : Begun) (rest : List Begun) → first.level ≡ n → (levels : List LevelState) → length levels < n → AreBegun levels (first ∷ rest) → AreBegun levels (change first ∷ rest)
altered_outer change a n first rest e [] below h = tt
altered_outer change a n first rest e (level ∷ levels) below h = grind (arith, nat_tests, altered_outer change a n first rest e levels, altered_there)

altered_seen : (change : Begun → Begun) → Alters change → (n : ℕ) (first : Begun) (rest : List Begun) → first.level ≡ n → (ps : List OpenPortal) → AreSeen ps (first ∷ rest) → AreSeen ps (change first ∷ rest)
altered_seen change a n first rest e [] h = tt
altered_seen change a n first rest e (p ∷ ps) h =
    (record { so = λ c level is low high. altered_portals change a c level n first rest e (h.0.so c level is low high) }, altered_seen change a n first rest e ps h.1)

-- the deepest level gets its context, and then its owner
abbrev gets_context : ℕ → Begun → Begun
gets_context c level = record level { context = Some c }

abbrev gets_owner : ℕ → Begun → Begun
gets_owner o level = record level { owner = Some o }

alters_context : (c : ℕ) → Alters (gets_context c)
alters_context c = record { level = λ b. refl; portals = λ b. refl }

alters_owner : (o : ℕ) → Alters (gets_owner o)
alters_owner o = record { level = λ b. refl; portals = λ b. refl }

-- the head of what began stays the head where contexts of portals are more
portal_head : (b : Bool) (c : ℕ) (n : ℕ) (first : Begun) (rest : List Begun) → first.level ≡ n
    → (x : Begun × List Begun) × (elim b as (λ _. List Begun) [ true ↦ map (λ (level : Begun). record level { portals = c ∷ level.portals }) (first ∷ rest) | false ↦ first ∷ rest ] ≡ x.0 ∷ x.1) × (x.0.level ≡ n)
portal_head true c n first rest e = ((record first { portals = c ∷ first.portals }, map (λ (level : Begun). record level { portals = c ∷ level.portals }) rest), refl, e)
portal_head false c n first rest e = ((first, rest), refl, e)

module _ (s : Scene) (leaving : Leaving) where
  abbrev c : ℕ
  c = s.session.next_context

  context_seen : (name : Text) (parent : ℕ) (l : IsLast leaving s) → Sees leaving s → leaving.ends ≡ [] → (t : Scene) → t.session.levels ≡ record l.level { context = Some c } ∷ l.levels → t.session.portals ≡ s.session.portals → t.session.plans ≡ s.session.plans
      → leaving.awaited ≡ ItsContext → AwaitsOwner (staying.next (what.Create c name parent) leaving) t
  context_seen name parent l k e t levels portals plans aw =
      let n : ℕ = length l.levels + 1 in
      let changed : List Begun = gets_context c l.first ∷ l.rest in
      let behind : List Begun = with_portal name c changed in
      let grows : Grows changed behind = grows_either (is_named name (codes "PortalContext")) c changed in
      let is : (staying.next (what.Create c name parent) leaving).begun ≡ behind = grind (arith, nat_tests) in
      let head = portal_head (is_named name (codes "PortalContext")) c n (gets_context c l.first) l.rest l.number in
      let were : AreBegun (l.level ∷ l.levels) (l.first ∷ l.rest) = subst (AreBegun (l.level ∷ l.levels)) l.begun (subst (λ (ls : List LevelState). AreBegun ls leaving.begun) l.are k.begun) in
      let own : level_begun n changed ≡ gets_context c l.first = altered_here (gets_context c) (alters_context c) n l.first l.rest l.number in
      let was : level_begun n (l.first ∷ l.rest) ≡ l.first = level_here n l.first l.rest (eq-eqb l.first.level n l.number) in
      let now : AreBegun (record l.level { context = Some c } ∷ l.levels) changed = (
        record {
          there = altered_there (gets_context c) (alters_context c) n l.first l.rest were.0.there;
          context = ap (λ (b : Begun). b.context) own;
          owner = ap (λ (b : Begun). b.owner) own ∙ sym (ap (λ (b : Begun). b.owner) was) ∙ were.0.owner;
        },
        altered_outer (gets_context c) (alters_context c) n l.first l.rest l.number l.levels (omega arith) were.1,
      ) in
      let seen : AreSeen s.session.portals changed =
      altered_seen (gets_context c) (alters_context c) n l.first l.rest l.number s.session.portals (subst (AreSeen s.session.portals) l.begun k.portals) in
      grind (arith, nat_tests, next, begun_still, seen_still, known_still)

  pub context_begins : AwaitsContext leaving s → OneRead AwaitsOwner leaving (new_context_made LevelContext s).scene (new_context_made LevelContext s).events
  context_begins k =
      let name : Text = level_context_name (level_above s.session) in
      let parent : ℕ = level_parent (level_above s.session) in
      record {
        allowed = one_allowed (what.Create c name parent) leaving k.active.ends;
        fits = context_seen name parent k.is_last k.active.sees k.active.ends (new_context_made LevelContext s).scene (ap (deepest_changed (λ level. record level { context = Some c })) k.is_last.are) refl refl k.awaited;
      }

  owner_seen : (event : What) (l : IsLast leaving s) (o : ℕ) → Sees leaving s → leaving.ends ≡ [] → (t : Scene) → t.session.levels ≡ record l.level { owner = Some o } ∷ l.levels → t.session.portals ≡ s.session.portals → t.session.plans ≡ s.session.plans
      → (staying.next event leaving).begun ≡ last_changed (gets_owner o) leaving.begun → (staying.next event leaving).awaited ≡ Neither → (staying.next event leaving).plans ≡ leaving.plans → (staying.next event leaving).ends ≡ [] → AwaitsNothing (staying.next event leaving) t
  owner_seen event l o k e t levels portals plans b aw known ends =
      let n : ℕ = length l.levels + 1 in
      let changed : List Begun = gets_owner o l.first ∷ l.rest in
      let is : (staying.next event leaving).begun ≡ changed = b ∙ ap (last_changed (gets_owner o)) l.begun in
      let were : AreBegun (l.level ∷ l.levels) (l.first ∷ l.rest) = subst (AreBegun (l.level ∷ l.levels)) l.begun (subst (λ (ls : List LevelState). AreBegun ls leaving.begun) l.are k.begun) in
      let own : level_begun n changed ≡ gets_owner o l.first = altered_here (gets_owner o) (alters_owner o) n l.first l.rest l.number in
      let was : level_begun n (l.first ∷ l.rest) ≡ l.first = level_here n l.first l.rest (eq-eqb l.first.level n l.number) in
      let now : AreBegun (record l.level { owner = Some o } ∷ l.levels) changed = (
        record {
          there = altered_there (gets_owner o) (alters_owner o) n l.first l.rest were.0.there;
          context = ap (λ (b : Begun). b.context) own ∙ sym (ap (λ (b : Begun). b.context) was) ∙ were.0.context;
          owner = ap (λ (b : Begun). b.owner) own;
        },
        altered_outer (gets_owner o) (alters_owner o) n l.first l.rest l.number l.levels (omega arith) were.1,
      ) in
      let seen : AreSeen s.session.portals changed =
      altered_seen (gets_owner o) (alters_owner o) n l.first l.rest l.number s.session.portals (subst (AreSeen s.session.portals) l.begun k.portals) in
      grind (arith, nat_tests, next)

  pub owner_begins : AwaitsOwner leaving s → OneRead AwaitsNothing leaving (new_owner_made OfLevel s).scene (new_owner_made OfLevel s).events
  owner_begins k = go (owner_of (level_above s.session))
    where
      levels_are : deepest_changed (λ level. record level { owner = Some s.session.next_owner }) s.session.levels ≡ record k.is_last.level { owner = Some s.session.next_owner } ∷ k.is_last.levels
      levels_are = ap (deepest_changed (λ level. record level { owner = Some s.session.next_owner })) k.is_last.are

      go : (parent : Option ℕ) → OneRead AwaitsNothing leaving (new_owner_made OfLevel s).scene (made_event parent s.session.next_owner ∷ [])
      go None = record {
        allowed = one_allowed (what.Owner s.session.next_owner) leaving k.active.ends;
        fits = owner_seen (what.Owner s.session.next_owner) k.is_last s.session.next_owner k.active.sees k.active.ends (new_owner_made OfLevel s).scene levels_are refl refl
            (ap (λ (a : Awaited). with_owner a s.session.next_owner leaving.begun) k.awaited) (ap (awaited_behind (what.Owner s.session.next_owner)) k.awaited) refl
            (ap (ends_behind (what.Owner s.session.next_owner) leaving.begun) k.active.ends);
      }
      go (Some parent) = record {
        allowed = one_allowed (what.OwnerIn s.session.next_owner parent) leaving k.active.ends;
        fits = owner_seen (what.OwnerIn s.session.next_owner parent) k.is_last s.session.next_owner k.active.sees k.active.ends (new_owner_made OfLevel s).scene levels_are refl refl
            (ap (λ (a : Awaited). with_owner a s.session.next_owner leaving.begun) k.awaited) (ap (awaited_behind (what.OwnerIn s.session.next_owner parent)) k.awaited) refl
            (ap (ends_behind (what.OwnerIn s.session.next_owner parent) leaving.begun) k.active.ends);
      }

-- Each element of a line is read, where the line stands by then.

-- the replayed parents, and the hooks of contexts that plans have
pub record Trees (leaving : Leaving) (s : Scene) : Type 0 where
  pub contexts : FitsContexts leaving.parents.contexts s
  pub owners : FitsOwners leaving.parents.owners s
  pub quiet : AreQuiet None s.session.contexts

pub record KeepsTrees (s t : Scene) (events : List What) : Type 0 where
  pub contexts : KeepsContexts s t events
  pub owners : KeepsOwners s t events
  pub quiet : KeepsQuiet s t events

same_nodes : (events : List What) (leaving : Leaving) (growth : Growth) → growth.nodes ≡ leaving.parents.owners → (seen_after growing_owners growth events).nodes ≡ (seen_after staying leaving events).parents.owners
same_nodes [] leaving growth e = e
same_nodes (event ∷ events) leaving growth e = same_nodes events (staying.next event leaving) (growing_owners.next event growth) (ap (owners_behind event) e)

owners_fit : (s t : Scene) (events : List What) (leaving : Leaving) → KeepsOwners s t events → FitsOwners leaving.parents.owners s → FitsOwners (seen_after staying leaving events).parents.owners t
owners_fit s t events leaving law fits =
    let growth : Growth = record { nodes = leaving.parents.owners; next = s.session.next_owner } in
    let read : IsRead growing_owners HasOwners growth t events = law.so growth (record { fits = fits; next = refl }) in
    subst (λ (nodes : List Replayed). FitsOwners nodes t) (same_nodes events leaving growth refl) read.fits.fits

pub trees_behind : (s t : Scene) (events : List What) (leaving : Leaving) → KeepsTrees s t events → Trees leaving s → Trees (seen_after staying leaving events) t
trees_behind s t events leaving law k = record {
  contexts = contexts_fit s t events leaving law.contexts k.contexts;
  owners = owners_fit s t events leaving law.owners k.owners;
  quiet = law.quiet.so k.quiet;
}

pub trees_element : (w : Option ℕ) (x : Element) (m : Moment) → Meets x m.scene → IsSpoken false x → KeepsTrees m.scene (does w x m).moment.scene (does w x m).events
trees_element w x m meets spoken =
    let a : Follows KeepsContexts m.scene (does w x m) = element_follows KeepsContexts contexts_owed.leaves false w x m spoken (contexts_owed.owed w x m meets) in
    let b : Follows KeepsOwners m.scene (does w x m) = element_follows KeepsOwners owners_owed.leaves false w x m spoken (owners_owed.owed w x m meets) in
    let c : Follows KeepsQuiet m.scene (does w x m) = element_follows KeepsQuiet quiet_owed.leaves false w x m spoken (quiet_owed.owed w x m meets) in
    record { contexts = a.so; owners = b.so; quiet = c.so }

-- what is seen where a line stands so
abbrev pub At : Stage → Leaving → Scene → Type 0
At Working leaving s = AwaitsNothing leaving s
At ContextNext leaving s = AwaitsContext leaving s
At OwnerNext leaving s = AwaitsOwner leaving s
At Hushed leaving s = Halted leaving s

-- what an element did is allowed; where nothing refused it the line stands as the second says, else as before
pub record Stepped (F G : Leaving → Scene → Type 0) (leaving : Leaving) (done : Done) : Type 0 where
  pub allowed : allows_all staying leaving done.events ≡ true
  pub passed : done.refusal ≡ None → G (seen_after staying leaving done.events) done.moment.scene
  pub stopped : (error : Error) → done.refusal ≡ Some error → F (seen_after staying leaving done.events) done.moment.scene

unless_step : {F G : Leaving → Scene → Type 0} (refusal : Option Error) (m : Moment) (act : Scene → Ended) (leaving : Leaving) → F leaving m.scene → OneRead G leaving (act m.scene).scene (act m.scene).events
    → Stepped F G leaving (unless_refused refusal m act)
unless_step refusal m act leaving k one = grind (arith, nat_tests)

fallible_step : {F G : Leaving → Scene → Type 0} (w : Option ℕ) (m : Moment) (own : Option Error) (act : Scene → Ended) (leaving : Leaving) → F leaving m.scene → OneRead G leaving (act m.scene).scene (act m.scene).events
    → Stepped F G leaving (fallible w m own act)
fallible_step {F = F} {G = G} w m own act leaving k one = unless_step {F = F} {G = G} (refused_call w m.fail (m.calls + 1) own) (record m { calls = m.calls + 1 }) act leaving k one

unfailing_step : {F G : Leaving → Scene → Type 0} (m : Moment) (act : Scene → Ended) (leaving : Leaving) → OneRead G leaving (act m.scene).scene (act m.scene).events → Stepped F G leaving (unfailing m act)
unfailing_step m act leaving one = record { allowed = one.allowed; passed = λ e. one.fits; stopped = λ error e. absurd (cc e) }

-- work
seen_of : (leaving : Leaving) (s : Scene) → AwaitsNothing leaving s → Seen leaving s
seen_of leaving s k = record { begun = k.active.sees.begun; portals = k.active.sees.portals; plans = k.active.sees.plans; awaited = k.awaited; ends = k.active.ends }

awaits_of : (leaving : Leaving) (s : Scene) → Seen leaving s → AwaitsNothing leaving s
awaits_of leaving s k = record { active = record { sees = record { begun = k.begun; portals = k.portals; plans = k.plans }; ends = k.ends }; awaited = k.awaited }

works_step : (s : Scene) (done : Done) (leaving : Leaving) → Follows Works s done → AwaitsNothing leaving s → Stepped AwaitsNothing AwaitsNothing leaving done
works_step s done leaving f k =
    let read : IsRead staying Seen leaving done.moment.scene done.events = f.so.reads.so leaving (seen_of leaving s k) in
    let behind : AwaitsNothing (seen_after staying leaving done.events) done.moment.scene = awaits_of _ done.moment.scene read.fits in
    record { allowed = read.allowed; passed = λ e. behind; stopped = λ error e. behind }

-- what lessens what is known, and then changes levels
pub lessened : (s t u : Scene) (events : List What) (leaving : Leaving) → Lessens s t events → u.session.portals ≡ t.session.portals → u.session.plans ≡ t.session.plans
    → ((begun : List Begun) → AreBegun s.session.levels begun → AreBegun u.session.levels begun) → AwaitsNothing leaving s → OneRead AwaitsNothing leaving u events
lessened s t u events leaving l portals plans levels k =
    let c : Calming leaving events = calm_all l.calm leaving k.active.ends in
    let now : Leaving = seen_after staying leaving events in
    let kept : Kept now t = lessens_sees s t events leaving l k.active.sees k.awaited in
    grind (arith, nat_tests)

-- the level that was started stands
stands_step : (s : Scene) (leaving : Leaving) → AwaitsNothing leaving s → OneRead AwaitsNothing leaving (level_stands s).scene (level_stands s).events
stands_step s leaving k = grind (arith, nat_tests, lessened, unmoved, said_none, by_switch)

-- the ends of levels that commit
outer : (levels : List LevelState) (begun : List Begun) → AreBegun levels begun → AreBegun (drop 1 levels) begun
outer levels begun h = grind (arith, nat_tests)

commit_step : (s : Scene) (leaving : Leaving) → AwaitsNothing leaving s → OneRead AwaitsNothing leaving (committed s).scene (committed s).events
commit_step s leaving k =
    let parts : Keeps Lessens (in_order (say (what.CommitLevel 1) ∷ for_each portal_closed s.session.portals ∷ level_released true true ∷ stack_popped 1 ∷ level_owner_gone ∷ switched top_context ∷ level_context_gone ∷ [])) =
    by_order Lessens inside_acts
    (next (by_said (what.CommitLevel 1) refl)
    (next (by_each Lessens inside_acts portal_closed (portal_closes Lessens inside_acts inside_released) s.session.portals)
    (next (level_releases Lessens inside_acts inside_phase true true)
    (next (inside_stack.stack_gone 1)
    (next level_owner_goes
    (next (by_switch top_context)
    (next (level_context_goes Lessens inside_acts) last))))))) in
    let l = parts.so s in
    lessened s _ (committed s).scene (committed s).events leaving l refl refl (λ begun h. subst (λ (ls : List LevelState). AreBegun ls begun) (sym (ap (drop 1) l.levels)) (outer s.session.levels begun h)) k

subcommit_step : (s : Scene) (leaving : Leaving) → AwaitsNothing leaving s → OneRead AwaitsNothing leaving (subcommitted s).scene (subcommitted s).events
subcommit_step s leaving k =
    let level : ℕ = depth s.session in
    let above : Option ℕ = owner_of (level_above s.session) in
    let parts : Keeps Lessens (in_order (say (what.CommitLevel level) ∷ for_each (portal_passed level above) s.session.portals ∷ level_released true false ∷ stack_lowered level ∷ level_owner_gone ∷ switched_up ∷ empty_context_gone ∷ [])) =
    by_order Lessens inside_acts
    (next (by_said (what.CommitLevel level) refl)
    (next (by_each Lessens inside_acts (portal_passed level above) (portal_passes Lessens inside_acts by_moved level above) s.session.portals)
    (next (level_releases Lessens inside_acts inside_phase true false)
    (next (inside_stack.stack_passed level)
    (next level_owner_goes
    (next switches_up
    (next (empty_context_goes Lessens inside_acts) last))))))) in
    let l = parts.so s in
    lessened s _ (subcommitted s).scene (subcommitted s).events leaving l refl refl (λ begun h. subst (λ (ls : List LevelState). AreBegun ls begun) (sym (ap (drop 1) l.levels)) (outer s.session.levels begun h)) k

-- a level aborts, in a session that stands
may_end : (leaving : Leaving) (s : Scene) → Trees leaving s → Sees leaving s → MayEnd leaving s
may_end leaving s t k = record { contexts = t.contexts; owners = t.owners.tree; quiet = t.quiet; sees = k }

pub aborts_at : (level : LevelState) (levels : List LevelState) (s : Scene) (leaving : Leaving) → Stands s → s.session.levels ≡ level ∷ levels → Trees leaving s → Active leaving s → IsSoon leaving.awaited → AbortRead leaving s
aborts_at level levels s leaving h are trees k soon =
    let stands : Stands (settled (level ∷ levels) s) = subst (λ (ls : List LevelState). Stands (settled ls s)) are h in
    let may : MayEnd leaving (settled (level ∷ levels) s) = subst (λ (ls : List LevelState). MayEnd leaving (settled ls s)) are (may_end leaving s trees k.sees) in
    subst (λ (ls : List LevelState). AbortRead leaving (settled ls s)) (sym are) (aborts_read level levels s leaving may stands k.ends soon)

-- a level that is in its end is cleaned up
pub cleans_at : (s : Scene) (leaving : Leaving) (k : Halted leaving s) → FitsContexts leaving.parents.contexts s → FitsTree leaving.parents.owners s.session.owners → AreQuiet None s.session.contexts → CleanRead leaving s
cleans_at s leaving k contexts owners quiet =
    let same : length k.levels + 1 ≡ length (k.level ∷ k.levels) = omega arith in
    let now : MayEnd leaving s = record { contexts = contexts; owners = owners; quiet = quiet; sees = k.sees } in
    let may : MayEnd leaving (settled (k.level ∷ k.levels) s) = subst (λ (ls : List LevelState). MayEnd leaving (settled ls s)) k.are now in
    let ends : InEnd (level_begun (length (k.level ∷ k.levels)) leaving.begun) leaving.ends = subst (λ (n : ℕ). InEnd (level_begun n leaving.begun) leaving.ends) same k.ends in
    let over : IsOver (level_begun (length (k.level ∷ k.levels)) leaving.begun) leaving = subst (λ (n : ℕ). IsOver (level_begun n leaving.begun) leaving) same k.over in
    subst (λ (ls : List LevelState). CleanRead leaving (settled ls s)) (sym k.are) (cleans_read k.level k.levels s leaving may ends over k.awaited)

clean_step : (s : Scene) (leaving : Leaving) → Halted leaving s → Trees leaving s → OneRead AwaitsNothing leaving (cleaned_up s).scene (cleaned_up s).events
clean_step s leaving k trees =
    let c : CleanRead leaving s = cleans_at s leaving k trees.contexts trees.owners.tree trees.quiet in
    record { allowed = c.allowed; fits = record { active = record { sees = c.sees; ends = c.ends }; awaited = c.awaited } }

-- a word while a level is in its end
pub word_stays : (event : What) (s : Scene) (leaving : Leaving) → ((entry : Begun) → allows_all (confined entry) leaving (event ∷ []) ≡ true) → Halted leaving s → OneRead Halted leaving s (event ∷ [])
word_stays event s leaving h k =
    let entry : Begun = level_begun (length k.levels + 1) leaving.begun in
    let stayed : Stayed entry leaving (event ∷ []) = confined_stays entry leaving (event ∷ []) k.ends (h entry) in
    let now : Leaving = seen_after staying leaving (event ∷ []) in
    grind (arith, nat_tests)

said_confined : (event : What) → IsSaid event → (leaving : Leaving) (entry : Begun) → allows_all (confined entry) leaving (event ∷ []) ≡ true
said_confined event h leaving entry = grind (arith, nat_tests)

-- an element of an active session
lively_step : (w : Option ℕ) (x : Element) (m : Moment) (leaving : Leaving) → Meets x m.scene → IsLively x → Trees leaving m.scene → AwaitsNothing leaving m.scene → Stepped AwaitsNothing (At (working_next x)) leaving (does w x m)
unfolding does
lively_step w (e.MakeLevel name implicit) m leaving meets own trees k =
    fallible_step {F = AwaitsNothing} {G = AwaitsContext} w m _ (level_made name implicit) leaving k (level_begins name implicit m.scene leaving (low_of m.scene.session.portals m.scene meets.stands.portals.each) k)
lively_step w e.LevelStands m leaving meets own trees k = unfailing_step {F = AwaitsNothing} {G = AwaitsNothing} m level_stands leaving (stands_step m.scene leaving k)
lively_step w e.CommitTop m leaving meets own trees k = unfailing_step {F = AwaitsNothing} {G = AwaitsNothing} m committed leaving (commit_step m.scene leaving k)
lively_step w e.Subcommit m leaving meets own trees k = unfailing_step {F = AwaitsNothing} {G = AwaitsNothing} m subcommitted leaving (subcommit_step m.scene leaving k)
lively_step w e.Abort m leaving meets own trees k =
    let a : AbortRead leaving m.scene = aborts_at meets.asks.0.0 meets.asks.0.1 m.scene leaving meets.stands meets.asks.1 trees k.active (inr k.awaited) in
    unfailing_step {F = AwaitsNothing} {G = Halted} m aborted leaving (record { allowed = a.allowed; fits = a.halted })
lively_step w e.Cleanup m leaving meets own trees k = elim own [ ]
lively_step w other m leaving meets own trees k = works_step m.scene (does w other m) leaving (element_works w other m meets.stands own) k

-- one of a session whose deepest level is aborted
hushed_step : (w : Option ℕ) (x : Element) (m : Moment) (leaving : Leaving) → IsHushed x → Trees leaving m.scene → Halted leaving m.scene → Stepped Halted (At (hushed_next x)) leaving (does w x m)
unfolding does
hushed_step w (e.Checks check) m leaving own trees k = unless_step {F = Halted} {G = Halted} (failure check m.scene) m nothing leaving k (record { allowed = refl; fits = k })
hushed_step w (e.Says event) m leaving own trees k = unfailing_step {F = Halted} {G = Halted} m (say event) leaving (word_stays event m.scene leaving (said_confined event own leaving) k)
hushed_step w e.Cleanup m leaving own trees k = unfailing_step {F = Halted} {G = AwaitsNothing} m cleaned_up leaving (clean_step m.scene leaving k trees)
hushed_step w other m leaving own trees k = elim own [ ]

-- what is made for a level
new_step : (w : Option ℕ) (new : NewContext) (m : Moment) (leaving : Leaving) → IsLevelContext (e.MakeContext new) → AwaitsContext leaving m.scene → Stepped AwaitsContext AwaitsOwner leaving (does w (e.MakeContext new) m)
unfolding does
new_step w new m leaving own k = grind (arith, nat_tests, fallible_step, context_begins)

context_step : (w : Option ℕ) (x : Element) (m : Moment) (leaving : Leaving) → IsLevelContext x → AwaitsContext leaving m.scene → Stepped AwaitsContext AwaitsOwner leaving (does w x m)
context_step w (e.MakeContext new) m leaving own k = new_step w new m leaving own k
context_step w other m leaving own k = elim own [ ]

role_step : (w : Option ℕ) (role : OwnerRole) (m : Moment) (leaving : Leaving) → IsLevelOwner (e.MakeOwner role) → AwaitsOwner leaving m.scene → Stepped AwaitsOwner AwaitsNothing leaving (does w (e.MakeOwner role) m)
unfolding does
role_step w role m leaving own k = grind (arith, nat_tests, fallible_step, owner_begins)

owner_step : (w : Option ℕ) (x : Element) (m : Moment) (leaving : Leaving) → IsLevelOwner x → AwaitsOwner leaving m.scene → Stepped AwaitsOwner AwaitsNothing leaving (does w x m)
owner_step w (e.MakeOwner role) m leaving own k = role_step w role m leaving own k
owner_step w other m leaving own k = elim own [ ]

-- An element of a line is read.
pub step_read : (stage : Stage) (w : Option ℕ) (x : Element) (m : Moment) (leaving : Leaving) → Meets x m.scene → IsDue stage x → Trees leaving m.scene → At stage leaving m.scene
    → Stepped (At stage) (At (stage_next stage x)) leaving (does w x m)
step_read Working w x m leaving meets due trees k = lively_step w x m leaving meets due trees k
step_read ContextNext w x m leaving meets due trees k = context_step w x m leaving due k
step_read OwnerNext w x m leaving meets due trees k = owner_step w x m leaving due k
step_read Hushed w x m leaving meets due trees k = hushed_step w x m leaving due trees k
