-- Only elements that make something say that something is made.
use Rattle.session_laws.proofs.Words.{◌≡◌, ℕ, Bool, true, false, List, Option, refl, ◌+◌, ◌<◌, ◌≤◌, All, [], ◌∷◌, ◌++◌, Some, None, ap, ◌∙◌, subst, inl, inr, arith, ◌≢◌, ◌-◌, IsTrue, sym, drop, ◌==◌, option_and_then, and_from, cases_Bool, and_parts, both_ways, cases_eq, eq-eqb, eqb-true, ne_eqb, or_cases, All-head, All-tail, has, nat_tests, Parents, first_parents, parents_behind, shedding, deletes, discards, happens, has_context, is_first_context, makes_context, makes_owner, nothing, one_where}
use Rattle.session_laws.proofs.Scenes.{Error, What, Moment, Scene, Element, OfLevel, NewContext, OwnerRole, Text, at_owner, lock_given_back, descriptor_given, lock_taken, snapshot_pushed, does, does_all, failing_turn, then_done, exited, recovered, Command, KindTable, LevelState, OpenPortal, cache_context, first_of, portal_named, Ended, level_parent, new_context_made, new_owner_made, plan_made, Done, fallible, refused_call, unless_refused, AreLevels, IsPortal, Stands, StandsBetweenLines, line_elements, turn, turn_of, table_of}
use Rattle.session_laws.proofs.Rules.{Acts, EndLeaves, Follows, IsSpoken, OwesMakes, AreSpoken, IsRun, by_owner, element_follows, fallible_so, levels_owed, moves_owed, unfailing_so, ends_owed, exit_follows, recovers, AreSaid, said_both, said_one, said_more, said_none, Sight, item_comes, no_part, unseen_keys, unseen_owners, line_spoken, Meets, line_runs, Reader, allows_all, seen_after, allows_all-append, BalancesFrom, count, covers, left, is_there-placed_other, is_there-placed_same, is_there-without_other, is_there-without_same, is_there, Node as Kept, placed, placed_where, without, protected_has, named_there, Named, named_in}
use Rattle.session_laws.proofs.Usual.{Usual, is_usual, usual_files, usual_locked, usual_moves, usual_pushed, usual_unlocked, plain_ends}
use Rattle.session_laws.proofs.Lives.{IsLife, IsRead, Reads, read_both, read_none}
use Rattle.session_laws.proofs.ParentsLife.{KeepsContexts, contexts_owed, KeepsOwners, owners_owed, opening_contexts, opening_owners}
use Rattle.session_laws.proofs.MadeOnce.{FitsParents, NoneLeft, shed_reads, shedding_life, HasFollowed, IsFollowed, IsPaired, Pair, followed, pair_reads, paired, first_small, leaf_there, one_allowed, there_moved, there_placed}
use Rattle.session_laws.proofs.Parents.{Growth, growing_contexts, growing_owners}
use Rattle.pgs_step.specs.declared.events.What.TheVariants as what
use Rattle.session_rules.specs.Elements as e

-- an event that doesn't say that a context or an owner is made
abbrev pub is_unmade : What → Bool
is_unmade (what.Create context name parent) = false
is_unmade (what.Owner owner) = false
is_unmade (what.OwnerIn owner parent) = false
is_unmade other = true

usual_unmade : (event : What) → is_usual event ≡ true → is_unmade event ≡ true
usual_unmade event h = grind (arith, nat_tests)

-- the law that all are such ones
record NoneMade (s t : Scene) (events : List What) : Type 0 where
  said : AreSaid is_unmade events

sight : Sight no_part is_unmade NoneMade
sight = record { both = λ h k. record { said = said_both h.said k.said }; aside = λ s t same said. record { said = said } }

usual : Usual no_part is_unmade
usual = assumption usual_unmade

unmade_ends : EndLeaves NoneMade
unmade_ends = search (arith, plain_ends, sight, usual, unseen_keys, unseen_owners, item_comes)

abbrev acts : Acts NoneMade
acts = unmade_ends.levels.leaves.acts

-- whether an element makes a context or an owner
abbrev pub is_making : Element → Bool
is_making (e.MakeContext new) = true
is_making (e.MakeOwner role) = true
is_making (e.MakePlan plan) = true
is_making (e.InTurn name x) = is_making x
is_making other = false

owed : (w : Option ℕ) (x : Element) (m : Moment) → is_making x ≡ false → OwesMakes NoneMade w x m
unfolding does
owed w (e.InTurn name x) m h = owed w x m h
owed w (e.MakeContext new) m h = absurd (cc h)
owed w (e.MakeOwner role) m h = absurd (cc h)
owed w (e.MakePlan plan) m h = absurd (cc h)
owed w (e.TakeLock role object mode) m h =
    fallible_so NoneMade acts w m _ (at_owner role (lock_taken object mode)) (by_owner NoneMade acts role (lock_taken object mode) (usual_locked sight usual refl object mode))
owed w (e.Unlock object mode) m h =
    unfailing_so NoneMade acts m (at_owner OfLevel (lock_given_back object mode)) (by_owner NoneMade acts OfLevel (lock_given_back object mode) (usual_unlocked sight usual refl object mode))
owed w (e.Touch file) m h = fallible_so NoneMade acts w m _ (descriptor_given file) ((usual_files sight usual).used file)
owed w (e.PushSnapshot snapshot) m h = fallible_so NoneMade acts w m _ (snapshot_pushed snapshot) (usual_pushed sight usual snapshot)
owed w (e.Register name) m h = moves_owed NoneMade acts (usual_moves sight usual) w (e.Register name) m
owed w (e.Reparent name parent) m h = moves_owed NoneMade acts (usual_moves sight usual) w (e.Reparent name parent) m
owed w other m h = tt

-- An element that makes nothing says nothing of that kind.
pub element_silent : (w : Option ℕ) (x : Element) (m : Moment) → IsSpoken false x → is_making x ≡ false → AreSaid is_unmade (does w x m).events
element_silent w x m spoken makes =
    let k : Follows NoneMade m.scene (does w x m) = grind (arith, nat_tests, element_follows, unmade_ends, levels_owed, ends_owed, owed) in
    k.so.said

-- nor does a recovery, nor an exit
pub recovers_silent : (error : Error) (s : Scene) → AreSaid is_unmade (recovered error s).events
recovers_silent error s =
    let k : NoneMade s (recovered error s).scene (recovered error s).events = (recovers NoneMade unmade_ends error (record { so = λ z. record { said = said_one (what.Error error) refl } })).so s in
    k.said

pub exits_silent : (s : Scene) → AreSaid is_unmade (exited s).events
exits_silent s = let k : NoneMade s (exited s).scene (exited s).events = exit_follows NoneMade unmade_ends (record { so = λ z. record { said = said_one what.Exit refl } }) s in k.said

-- What is made is made below something that is there.

-- The reader of parents that lets nothing be made but below what is there.
abbrev pub placing : Reader Parents
placing = record { next = parents_behind; allows = allows }
  where
    allows : What → Parents → Bool
    allows (what.Create context name parent) parents = is_there parent parents.contexts
    allows (what.OwnerIn owner parent) parents = is_there parent parents.owners
    allows other parents = true

-- both readers of parents see the same
pub same_seen : (events : List What) (parents : Parents) → seen_after shedding parents events ≡ seen_after placing parents events
same_seen [] parents = refl
same_seen (event ∷ events) parents = same_seen events (parents_behind event parents)

one_placed : (event : What) (parents : Parents) → is_unmade event ≡ true → placing.allows event parents ≡ true
one_placed event parents h = grind (arith, nat_tests)

none_placed : {events : List What} → AreSaid is_unmade events → (parents : Parents) → allows_all placing parents events ≡ true
none_placed said_none parents = refl
none_placed (said_more {event = event} {events = events} h hs) parents =
    and_from (placing.allows event parents) (allows_all placing (parents_behind event parents) events) (one_placed event parents h) (none_placed hs (parents_behind event parents))

-- what is allowed from parents that fit a scene
pub record ArePlaced (s : Scene) (events : List What) : Type 0 where
  pub allowed : (parents : Parents) → FitsParents parents s → allows_all placing parents events ≡ true

pub place_reads : {s t : Scene} {events : List What} → Reads shedding FitsParents s t events → ArePlaced s events → Reads placing FitsParents s t events
place_reads {t = t} {events = events} r h = grind (arith, nat_tests, same_seen)

-- a context or an owner that is made below one that is there
below_context : (n parent : ℕ) (name : Text) (s : Scene) → has parent s.session.contexts ≡ true → ArePlaced s (what.Create n name parent ∷ [])
below_context n parent name s there = record { allowed = λ parents fit. and_from (is_there parent parents.contexts) true (fit.contexts.tree.there parent ∙ there) refl }

-- what is there in a scene that stands
module _ (s : Scene) (h : Stands s) where
  own_there : (n : ℕ) → 1 < n → n ≤ 5 → has n s.session.contexts ≡ true
  own_there n l u = protected_has n s.session.contexts (h.contexts.own n l u).protected

  above_there : (o : Option LevelState) → ((level : LevelState) → o ≡ Some level → (n : ℕ) → level.context ≡ Some n → has n s.session.contexts ≡ true) → has (level_parent o) s.session.contexts ≡ true
  above_there o there = grind (arith, nat_tests)

  second_context : (levels : List LevelState) → AreLevels levels s.session.contexts s.session.owners → (level : LevelState) → first_of (drop 1 levels) ≡ Some level → (n : ℕ) → level.context ≡ Some n → has n s.session.contexts ≡ true
  second_context levels all level is n e = grind (arith, nat_tests, protected_has)

  middle : (p : OpenPortal) (front back : List OpenPortal) → All (λ r. IsPortal r s.session.levels s.session.contexts s.session.owners s.session.current) (front ++ (p ∷ back))
      → IsPortal p s.session.levels s.session.contexts s.session.owners s.session.current
  middle p [] back all = All-head (λ r. IsPortal r s.session.levels s.session.contexts s.session.owners s.session.current) p back all
  middle p (x ∷ front) back all = middle p front back (All-tail (λ r. IsPortal r s.session.levels s.session.contexts s.session.owners s.session.current) x (front ++ (p ∷ back)) all)

  place_there : (name : Text) (o : Option OpenPortal) → portal_named name s.session.portals ≡ o → (n : ℕ) → option_and_then (λ (p : OpenPortal). p.context) o ≡ Some n → has n s.session.contexts ≡ true
  place_there name None is n e = absurd (cc e)
  place_there name (Some p) is n e =
      let m : Named name p s.session.portals = named_in name p s.session.portals is in
      let i = middle p m.front m.back (subst (All (λ r. IsPortal r s.session.levels s.session.contexts s.session.owners s.session.current)) m.is h.portals.each) in
      protected_has n s.session.contexts (i.place n e).protected

  context_placed : (new : NewContext) → ArePlaced s (new_context_made new s).events
  context_placed new = grind (arith, nat_tests, below_context, above_there, second_context, own_there, place_there, named_there)

  new_owner_placed : (role : OwnerRole) → ArePlaced s (new_owner_made role s).events
  new_owner_placed role = grind (arith, nat_tests)

  plan_placed : (plan : ℕ) → ArePlaced s (plan_made plan s).events
  plan_placed plan = below_context s.session.next_context cache_context _ s (own_there cache_context (omega arith) (omega arith))

-- elements that make something
unless_placed : (refusal : Option Error) (m : Moment) (act : Scene → Ended) → ArePlaced m.scene (act m.scene).events → ArePlaced m.scene (unless_refused refusal m act).events
unless_placed refusal m act h = grind (arith, nat_tests)

fallible_placed : (w : Option ℕ) (m : Moment) (own : Option Error) (act : Scene → Ended) → ArePlaced m.scene (act m.scene).events → ArePlaced m.scene (fallible w m own act).events
fallible_placed w m own act h = unless_placed (refused_call w m.fail (m.calls + 1) own) (record m { calls = m.calls + 1 }) act h

failing_placed : (name : Text) (s : Scene) (done : Done) (refusal : Option Error) → ArePlaced s done.events → ArePlaced s (failing_turn name done refusal).events
failing_placed name s done refusal h = grind (arith, nat_tests)

making_placed : (w : Option ℕ) (x : Element) (m : Moment) → Stands m.scene → is_making x ≡ true → ArePlaced m.scene (does w x m).events
unfolding does
making_placed w (e.MakeContext new) m h makes = fallible_placed w m _ (new_context_made new) (context_placed m.scene h new)
making_placed w (e.MakeOwner role) m h makes = fallible_placed w m _ (new_owner_made role) (new_owner_placed m.scene h role)
making_placed w (e.MakePlan plan) m h makes = fallible_placed w m _ (plan_made plan) (plan_placed m.scene h plan)
making_placed w (e.InTurn name x) m h makes = failing_placed name m.scene (does w x m) (does w x m).refusal (making_placed w x m h makes)
making_placed w other m h makes = absurd (cc makes)

element_placed : (w : Option ℕ) (x : Element) (m : Moment) → Stands m.scene → IsSpoken false x → ArePlaced m.scene (does w x m).events
element_placed w x m h spoken = elim (cases_Bool (is_making x)) [
  | inl y ↦ making_placed w x m h y
  | inr z ↦ record { allowed = λ parents fit. none_placed (element_silent w x m spoken z) parents }
]

-- An element reads as it may, where the scene stands.
pub element_reads : (w : Option ℕ) (x : Element) (m : Moment) → Meets x m.scene → IsSpoken false x → Reads placing FitsParents m.scene (does w x m).moment.scene (does w x m).events
element_reads w x m meets spoken =
    let c : Follows KeepsContexts m.scene (does w x m) = element_follows KeepsContexts contexts_owed.leaves false w x m spoken (contexts_owed.owed w x m meets) in
    let o : Follows KeepsOwners m.scene (does w x m) = element_follows KeepsOwners owners_owed.leaves false w x m spoken (owners_owed.owed w x m meets) in
    place_reads (shed_reads c.so o.so) (element_placed w x m meets.stands spoken)

then_reads : (s : Scene) (done : Done) (refusal : Option Error) (rest : Moment → Done) → Reads placing FitsParents s done.moment.scene done.events
    → (refusal ≡ None → Reads placing FitsParents done.moment.scene (rest done.moment).moment.scene (rest done.moment).events) → Reads placing FitsParents s (then_done done refusal rest).moment.scene (then_done done refusal rest).events
then_reads s done refusal rest h more = grind (arith, nat_tests, read_both)

-- So do elements in order, and so a line.
pub run_reads : (w : Option ℕ) (xs : List Element) (m : Moment) → AreSpoken false xs → IsRun Meets w xs m → Reads placing FitsParents m.scene (does_all w xs m).moment.scene (does_all w xs m).events
unfolding does_all
run_reads w [] m spoken run = read_none placing FitsParents m.scene
run_reads w (x ∷ xs) m spoken run =
    then_reads m.scene (does w x m) (does w x m).refusal (does_all w xs) (element_reads w x m run.0 spoken.0) (λ none. run_reads w xs (does w x m).moment spoken.1 (run.1 none))

turn_placed : (s : Scene) (done : Done) (refusal : Option Error) → Reads placing FitsParents s done.moment.scene done.events → ArePlaced s (turn_of done refusal).events
turn_placed s done refusal h = grind (arith, nat_tests, allows_all-append, none_placed, recovers_silent)

line_placed : (w : Option ℕ) (line : Option Command) (m : Moment) → StandsBetweenLines m.scene → ArePlaced m.scene (turn w line m).events
unfolding turn
line_placed w line m h =
    let done : Done = does_all w (line_elements line m.scene.session) m in
    turn_placed m.scene done done.refusal (run_reads w (line_elements line m.scene.session) m (line_spoken false line m.scene.session (λ usual. absurd (cc usual))) (line_runs w line m h))

-- In the life of a session what is made is made below what is there.
pub placing_life : (kinds : KindTable) → IsLife kinds placing FitsParents first_parents NoneLeft
placing_life kinds =
    let life : IsLife kinds shedding FitsParents first_parents NoneLeft = shedding_life kinds in
    grind (arith, nat_tests, place_reads, line_placed, none_placed, exits_silent, same_seen)

-- Each context and each owner of a session goes exactly once.

-- which numbers are there behind a node that moves
there_stays : (b : Bool) (m n : ℕ) (parent : Option ℕ) (nodes : List Kept) → is_there m nodes ≡ true → is_there m (placed_where b n parent nodes) ≡ true
there_stays false m n parent nodes h = h
there_stays true m n parent nodes h = elim (cases_eq m n) [
  | inl e ↦ ap (λ (x : ℕ). is_there x (placed n parent nodes)) e ∙ is_there-placed_same n parent nodes
  | inr ne ↦ is_there-placed_other m n parent nodes ne ∙ h
]

-- A number may still go once: it isn't given yet, or it is there; and so it is where it may go.
pub record IsGoing (m least : ℕ) (nodes : List Kept) (next n : ℕ) : Type 0 where
  pub least_is : least ≤ next
  pub may : is_there m nodes ≡ true → 1 ≤ n
  pub fresh : next ≤ m → 1 ≤ n
  pub below : is_there m nodes ≡ true → m < next
  pub most : n ≤ 1
  pub kept : 1 ≤ n → 1 ≤ m → m < next → is_there m nodes ≡ true

-- how that changes
going_same : (m least : ℕ) (nodes now : List Kept) (next n : ℕ) → (is_there m now ≡ true → is_there m nodes ≡ true) → (is_there m nodes ≡ true → is_there m now ≡ true) → IsGoing m least nodes next n → IsGoing m least now next ((n + 0) - 0)
going_same m least nodes now next n back on h = grind (arith, nat_tests)

going_made : (m least x : ℕ) (nodes now : List Kept) (next n : ℕ) → x ≡ next → is_there x now ≡ true → ((k : ℕ) → k ≢ x → is_there k now ≡ is_there k nodes) → IsGoing m least nodes next n → IsGoing m least now (next + 1) ((n + 0) - 0)
going_made m least x nodes now next n is there others h = grind (arith, nat_tests)

going_gone : (m least x : ℕ) (nodes : List Kept) (next n : ℕ) → is_there x nodes ≡ true → IsGoing m least nodes next n → IsGoing m least (without x nodes) next ((n + 0) - one_where (m == x))
going_gone m least x nodes next n there h = grind (arith, nat_tests, is_there-without_same, eq-eqb, both_ways, ne_eqb, is_there-without_other)

-- what is seen of a number, of the parents, and of how often it may go
pub record Goes (m least : ℕ) (of : Parents → List Kept) (seen : Pair Growth Parents) (n : ℕ) : Type 0 where
  pub same : seen.first.nodes ≡ of seen.second
  pub going : IsGoing m least seen.first.nodes seen.first.next n

context_step : (c : ℕ) (event : What) (seen : Pair Growth Parents) (n : ℕ) → seen.first.nodes ≡ seen.second.contexts → IsGoing c 6 seen.first.nodes seen.first.next n → growing_contexts.allows event seen.first ≡ true → placing.allows event seen.second ≡ true
    → IsGoing c 6 (growing_contexts.next event seen.first).nodes (growing_contexts.next event seen.first).next ((n + nothing event) - deletes c event)
context_step c (what.Create x name parent) seen n same h a b = grind (arith, nat_tests, going_made, eqb-true, there_placed)
context_step c (what.Move x parent) seen n same h a b = grind (arith, nat_tests, going_same, there_moved, there_stays)
context_step c (what.Delete x) seen n same h a b = going_gone c 6 x seen.first.nodes seen.first.next n (leaf_there x seen.first.nodes a) h
context_step c other seen n same h a b = going_same c 6 seen.first.nodes seen.first.nodes seen.first.next n (λ t. t) (λ t. t) h

contexts_going : (c : ℕ) → IsFollowed (paired growing_contexts placing) (count nothing (deletes c)) (Goes c 6 (λ parents. parents.contexts))
contexts_going c = grind (arith, nat_tests, and_parts, context_step, one_allowed, leaf_there)

-- the same of owners
owner_step : (o : ℕ) (event : What) (seen : Pair Growth Parents) (n : ℕ) → seen.first.nodes ≡ seen.second.owners → IsGoing o 1 seen.first.nodes seen.first.next n → growing_owners.allows event seen.first ≡ true → placing.allows event seen.second ≡ true
    → IsGoing o 1 (growing_owners.next event seen.first).nodes (growing_owners.next event seen.first).next ((n + nothing event) - discards o event)
owner_step o (what.Owner x) seen n same h a b =
    let g : Growth = seen.first in
    going_made o 1 x g.nodes (placed x None g.nodes) g.next n (eqb-true x g.next a) (is_there-placed_same x None g.nodes) (λ k ne. is_there-placed_other k x None g.nodes ne) h
owner_step o (what.OwnerIn x parent) seen n same h a b = grind (arith, nat_tests, going_made, eqb-true, there_placed)
owner_step o (what.MoveOwner x parent) seen n same h a b = grind (arith, nat_tests, going_same, there_moved, there_stays)
owner_step o (what.OwnerGone x) seen n same h a b = going_gone o 1 x seen.first.nodes seen.first.next n (leaf_there x seen.first.nodes a) h
owner_step o other seen n same h a b = going_same o 1 seen.first.nodes seen.first.nodes seen.first.next n (λ t. t) (λ t. t) h

owners_going : (o : ℕ) → IsFollowed (paired growing_owners placing) (count nothing (discards o)) (Goes o 1 (λ parents. parents.owners))
owners_going o = grind (arith, nat_tests, and_parts, owner_step, one_allowed, leaf_there)

-- a number that is made is below the next one then
pub record IsGiven (m least next : ℕ) : Type 0 where
  pub least_is : least ≤ m
  pub below : m < next

contexts_rise : (events : List What) (g : Growth) → allows_all growing_contexts g events ≡ true → g.next ≤ (seen_after growing_contexts g events).next
contexts_rise [] g h = omega arith
contexts_rise (event ∷ events) g h = grind (arith, nat_tests, contexts_rise events (growing_contexts.next event g), growing_contexts, and_parts)

context_given : (c : ℕ) (events : List What) (g : Growth) → allows_all growing_contexts g events ≡ true → 6 ≤ g.next → happens (makes_context c) events ≡ true → IsGiven c 6 (seen_after growing_contexts g events).next
context_given c [] g h l made = absurd (cc made)
context_given c (event ∷ events) g h l made = grind (arith, nat_tests, context_given c events (growing_contexts.next event g), growing_contexts, and_parts, contexts_rise, or_cases, eqb-true)

owners_rise : (events : List What) (g : Growth) → allows_all growing_owners g events ≡ true → g.next ≤ (seen_after growing_owners g events).next
owners_rise [] g h = omega arith
owners_rise (event ∷ events) g h = grind (arith, nat_tests, owners_rise events (growing_owners.next event g), growing_owners, and_parts)

owner_given : (o : ℕ) (events : List What) (g : Growth) → allows_all growing_owners g events ≡ true → 1 ≤ g.next → happens (makes_owner o) events ≡ true → IsGiven o 1 (seen_after growing_owners g events).next
owner_given o [] g h l made = absurd (cc made)
owner_given o (event ∷ events) g h l made = grind (arith, nat_tests, owner_given o events (growing_owners.next event g), growing_owners, and_parts, owners_rise, or_cases, eqb-true)

-- the contexts that a session begins with may go once

first_some : (c : ℕ) → is_first_context c ≡ true → 1 ≤ c
first_some c h = grind (arith, nat_tests)

first_going : (c : ℕ) → IsGoing c 6 opening_contexts.nodes 6 1
first_going c = grind (arith, nat_tests, first_small)

no_owner_going : (o : ℕ) → IsGoing o 1 opening_owners.nodes 1 1
no_owner_going o = grind (arith, nat_tests)

-- where nothing is there in the end, what was given has gone
all_gone : (m least : ℕ) (nodes : List Kept) (next n : ℕ) → nodes ≡ [] → 1 ≤ m → m < next → IsGoing m least nodes next n → n ≡ 0
all_gone m least nodes next n none i u h = grind (arith, nat_tests, both_ways)

gone_of : (growing : Reader Growth) (of : Parents → List Kept) (goes : What → ℕ) (m least : ℕ) (start : Growth) → IsFollowed (paired growing placing) (count nothing goes) (Goes m least of) → start.nodes ≡ of first_parents
    → IsGoing m least start.nodes start.next 1 → (events : List What) → allows_all growing start events ≡ true → allows_all placing first_parents events ≡ true → of (seen_after placing first_parents events) ≡ []
    → 1 ≤ m → (least ≤ (seen_after growing start events).next → m < (seen_after growing start events).next) → BalancesFrom 1 nothing goes events
gone_of growing of goes m least start follows same going events h k none i below =
    let seen : Pair Growth Parents = record { first = start; second = first_parents } in
    let both = paired growing placing in
    let p : IsPaired growing placing seen events = pair_reads growing placing events seen h k in
    let f : HasFollowed both (count nothing goes) (Goes m least of) seen 1 events = followed both (count nothing goes) follows events seen 1 (record { same = same; going = going }) p.allowed in
    let next : (seen_after both seen events).first.next ≡ (seen_after growing start events).next = ap (λ (g : Growth). g.next) p.first in
    let nodes : (seen_after both seen events).first.nodes ≡ [] = f.related.same ∙ ap of p.second ∙ none in
    let end : left nothing goes 1 events ≡ 0 =
    all_gone m least _ (seen_after both seen events).first.next _ nodes i (omega (arith, next, below (omega (arith, next, f.related.going.least_is)))) f.related.going in
    and_from (covers nothing goes 1 events) (left nothing goes 1 events == 0) f.allowed (eq-eqb (left nothing goes 1 events) 0 end)

-- Where contexts grow and are placed as they are in a session, each that it has goes exactly once.
pub contexts_gone_of : (events : List What) → allows_all growing_contexts opening_contexts events ≡ true → allows_all placing first_parents events ≡ true → NoneLeft (seen_after placing first_parents events)
    → (context : ℕ) → IsTrue (has_context context events) → BalancesFrom 1 nothing (deletes context) events
contexts_gone_of events h k none c has =
    let gone = gone_of growing_contexts (λ parents. parents.contexts) (deletes c) c 6 opening_contexts (contexts_going c) refl (first_going c) events h k none.contexts in
    elim (or_cases (is_first_context c) (happens (makes_context c) events) has) [
      | inl y ↦ gone (first_some c y) (λ l. omega (arith, first_small c y, l))
      | inr z ↦ let w : IsGiven c 6 _ = context_given c events opening_contexts h (omega arith) z in gone (omega (arith, w.least_is)) (λ l. w.below)
    ]

-- and each owner that is made
pub owners_gone_of : (events : List What) → allows_all growing_owners opening_owners events ≡ true → allows_all placing first_parents events ≡ true → NoneLeft (seen_after placing first_parents events)
    → (owner : ℕ) → IsTrue (happens (makes_owner owner) events) → BalancesFrom 1 nothing (discards owner) events
owners_gone_of events h k none o made =
    let w : IsGiven o 1 _ = owner_given o events opening_owners h (omega arith) made in
    gone_of growing_owners (λ parents. parents.owners) (discards o) o 1 opening_owners (owners_going o) refl (no_owner_going o) events h k none.owners w.least_is (λ l. w.below)

-- Wherever a line stands between two of its elements, the replayed parents are those of the session's trees.

-- the first elements of a line
front_spoken : (usual : Bool) (xs ys : List Element) → AreSpoken usual (xs ++ ys) → AreSpoken usual xs
front_spoken u [] ys h = tt
front_spoken u (x ∷ xs) ys h = (h.0, front_spoken u xs ys h.1)

front_run : (P : Element → Scene → Type 0) (w : Option ℕ) (xs ys : List Element) (m : Moment) → IsRun P w (xs ++ ys) m → IsRun P w xs m
front_run P w [] ys m h = tt
front_run P w (x ∷ xs) ys m h = (h.0, λ none. front_run P w xs ys (does w x m).moment (h.1 none))

-- Behind the first elements of a line the replayed parents are those of the scene there, where they were so before the line.
pub replayed_between : (w : Option ℕ) (line : Option Command) (m : Moment) → StandsBetweenLines m.scene → (xs ys : List Element) → line_elements line m.scene.session ≡ xs ++ ys
    → (parents : Parents) → FitsParents parents m.scene → FitsParents (seen_after shedding parents (does_all w xs m).events) (does_all w xs m).moment.scene
replayed_between w line m h xs ys are parents fit =
    let spoken : AreSpoken false (xs ++ ys) = subst (AreSpoken false) are (line_spoken false line m.scene.session (λ usual. absurd (cc usual))) in
    let run : IsRun Meets w (xs ++ ys) m = subst (λ (elements : List Element). IsRun Meets w elements m) are (line_runs w line m h) in
    let k : IsRead placing FitsParents parents (does_all w xs m).moment.scene (does_all w xs m).events = (run_reads w xs m (front_spoken false xs ys spoken) (front_run Meets w xs ys m run)).so parents fit in
    subst (λ (seen : Parents). FitsParents seen (does_all w xs m).moment.scene) (sym (same_seen (does_all w xs m).events parents)) k.fits

-- And so they are behind the whole line, with its recovery.
pub replayed_behind : (w : Option ℕ) (line : Option Command) (m : Moment) → StandsBetweenLines m.scene
    → (parents : Parents) → FitsParents parents m.scene → FitsParents (seen_after shedding parents (turn w line m).events) (turn w line m).moment.scene
replayed_behind w line m h parents fit =
    let k : IsRead shedding FitsParents parents (turn w line m).moment.scene (turn w line m).events = ((shedding_life (table_of m.scene.around.kinds)).turns w line m h).so parents fit in k.fits
