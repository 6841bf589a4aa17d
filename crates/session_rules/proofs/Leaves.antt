-- Laws over events: what one owes for the least parts of what a session does.
use Rattle.session_rules.proofs.Base.{◌≡◌, ℕ, ◌≤◌, Bool, true, false, List, [], ◌∷◌, ◌++◌, Option, Some, None}
use Rattle.session_rules.proofs.Below.{What, KindId, Phase, Mode, Hook, CtxKind, freed, written, report}
use Rattle.session_rules.proofs.Rules.{LevelState, OpenPortal, StandingPlan, Moment, Scene, Element, Text, plan_at, Ended, children_gone, context_cleared, context_cleared_alone, context_gone, portal_becomes, portal_gone, say, switched, item_released, owner_gone, owner_moved, phase_released, plan_becomes, context_made, owner_made, plan_made, portal_made, chunk_resized, descriptor_given, hook_waits, item_taken, lock_taken, memory_taken, snapshot_pushed, stack_lowered, stack_popped, Done, does, context_moved, contexts_become, lock_given_back, snapshot_popped, tells}

-- what a law says of a scene, the scene behind it, and the events between the two
abbrev pub Law : Type 1
Law = Scene → Scene → List What → Type 0

-- an act keeps a law, whatever the scene; and each of several does
pub record Keeps (R : Law) (act : Scene → Ended) : Type 0 where
  pub so : (s : Scene) → R s (act s).scene (act s).events

pub data AllKeep (R : Law) : List (Scene → Ended) → Type 0 where
  last : AllKeep R []
  next : {act : Scene → Ended} {acts : List (Scene → Ended)} → Keeps R act → AllKeep R acts → AllKeep R (act ∷ acts)

-- what an element did keeps a law
pub record Follows (R : Law) (s : Scene) (done : Done) : Type 0 where
  pub so : R s done.moment.scene done.events

-- a word that an element says, and a word on a level
abbrev pub is_word : What → Bool
is_word (What.Row name row value) = true
is_word (What.Fetched name rows) = true
is_word (What.Bytes name place bytes) = true
is_word (What.Buffer buffer sessions) = true
is_word (What.Stat counts) = true
is_word What.AlreadyInTransaction = true
is_word What.NotInTransaction = true
is_word What.Ok = true
is_word other = false

abbrev pub is_level_word : What → Bool
is_level_word (What.BeginLevel level) = true
is_level_word (What.CommitLevel level) = true
is_level_word (What.AbortLevel level) = true
is_level_word (What.CleanupLevel level) = true
is_level_word other = false

-- a portal that changes so keeps its context, and is of no deeper level
pub record Lowers (change : OpenPortal → OpenPortal) : Type 0 where
  pub context : (p : OpenPortal) → (change p).context ≡ p.context
  pub created : (p : OpenPortal) → (change p).created ≤ p.created

-- What a law owes for the ends of portals, wherever it has any walk.
pub record Acts (R : Law) : Type 0 where
  pub none : (s : Scene) → R s s []
  pub both : {s t u : Scene} {xs ys : List What} → R s t xs → R t u ys → R s u (xs ++ ys)
  pub portal : (name : Text) (change : OpenPortal → OpenPortal) → Lowers change → Keeps R (portal_becomes name change)
  pub portal_goes : (name : Text) → Keeps R (portal_gone name)
  pub gone : (n : ℕ) → Keeps R (context_gone n)
  pub children : (n : ℕ) → Keeps R (children_gone n)

-- What a law owes for all elements but those of `Owes`.
pub record Leaves (R : Law) : Type 0 where
  pub acts : Acts R
  pub word : (event : What) → is_word event ≡ true → Keeps R (say event)
  pub switch : (n : ℕ) → Keeps R (switched n)
  pub portal_new : (name : Text) (object rows : ℕ) (bad : Option ℕ) → Keeps R (portal_made name object rows bad)
  pub plan : (n : ℕ) (p q : StandingPlan) (s : Scene) → plan_at n s.session.plans ≡ Some p → q.context ≡ p.context → R s (plan_becomes q s).scene (plan_becomes q s).events
  -- contexts and their chunks
  pub alone : (n : ℕ) → Keeps R (context_cleared_alone n)
  pub cleared : (n : ℕ) → Keeps R (context_cleared n)
  pub allocated : (name : Option Text) (bytes : ℕ) (zeroed : Bool) (n : ℕ) → Keeps R (memory_taken name bytes zeroed n)
  pub fitted : (name : Text) (bytes : ℕ) → Keeps R (chunk_resized name bytes)
  pub given : (name : Text) → Keeps R (contexts_become (freed name))
  pub put : (name : Text) (place : ℕ) (bytes : List ℕ) → Keeps R (contexts_become (written name place bytes))
  pub reported : Keeps R (λ s. tells (report s.session.contexts) s)
  -- an item that is given back
  pub released : (owner : ℕ) (kind : KindId) (key : ℕ) → Keeps R (item_released owner kind key)

-- What it owes for levels and active snapshots, where it is kept whatever becomes of them.
pub record LevelLeaves (R : Law) : Type 0 where
  pub leaves : Leaves R
  pub levels : (levels : List LevelState) (s : Scene) → R s (record s { session = record s.session { levels = levels } }) []
  pub level_word : (event : What) → is_level_word event ≡ true → Keeps R (say event)
  pub popped : Keeps R snapshot_popped
  pub stack_gone : (level : ℕ) → Keeps R (stack_popped level)
  pub stack_passed : (level : ℕ) → Keeps R (stack_lowered level)

-- What it owes for items that are taken and for the ends of portals and levels, where it is kept in any scene.
pub record EndLeaves (R : Law) : Type 0 where
  pub levels : LevelLeaves R
  pub taken : (owner : ℕ) (kind : KindId) (key : ℕ) → Keeps R (item_taken owner kind key)
  pub phase : (commit top : Bool) (n : ℕ) (phase : Phase) → Keeps R (phase_released commit top n phase)
  pub discarded : (n : ℕ) → Keeps R (owner_gone n)
  pub moved : (n parent : ℕ) → Keeps R (owner_moved n parent)

-- What it owes for what is made, and for locks, files and snapshots that are used, where it is kept in any scene.
pub record MakeLeaves (R : Law) : Type 0 where
  pub made : (parent : ℕ) (name : Text) (protected : Bool) (kind : CtxKind) → Keeps R (context_made parent name protected kind)
  pub placed : (name : Text) (n : ℕ) → Keeps R (portal_becomes name (λ p. record p { context = Some n }))
  pub planned : (plan : ℕ) → Keeps R (plan_made plan)
  pub owner : (parent : Option ℕ) → Keeps R (owner_made parent)
  pub locked : (object : ℕ) (mode : Mode) (n : ℕ) → Keeps R (lock_taken object mode n)
  pub unlocked : (object : ℕ) (mode : Mode) (n : ℕ) → Keeps R (lock_given_back object mode n)
  pub used : (file : ℕ) → Keeps R (descriptor_given file)
  pub pushed : (snapshot : ℕ) → Keeps R (snapshot_pushed snapshot)

-- What it owes for a hook that waits and a context that moves, where it is kept in any scene.
pub record MoveLeaves (R : Law) : Type 0 where
  pub hooked : (n : ℕ) (hook : Hook) → Keeps R (hook_waits n hook)
  pub shifted : (n parent : ℕ) → Keeps R (context_moved n parent)

-- what a law owes apart for what is made and used, and for the two elements that change contexts and their hooks
abbrev pub OwesMakes : Law → Option ℕ → Element → Moment → Type 0
OwesMakes R w (Element.InTurn name x) m = OwesMakes R w x m
OwesMakes R w (Element.MakeContext new) m = Follows R m.scene (does w (Element.MakeContext new) m)
OwesMakes R w (Element.MakeOwner role) m = Follows R m.scene (does w (Element.MakeOwner role) m)
OwesMakes R w (Element.MakePlan plan) m = Follows R m.scene (does w (Element.MakePlan plan) m)
OwesMakes R w (Element.TakeLock role object mode) m = Follows R m.scene (does w (Element.TakeLock role object mode) m)
OwesMakes R w (Element.Unlock object mode) m = Follows R m.scene (does w (Element.Unlock object mode) m)
OwesMakes R w (Element.Touch file) m = Follows R m.scene (does w (Element.Touch file) m)
OwesMakes R w (Element.PushSnapshot snapshot) m = Follows R m.scene (does w (Element.PushSnapshot snapshot) m)
OwesMakes R w (Element.Register name) m = Follows R m.scene (does w (Element.Register name) m)
OwesMakes R w (Element.Reparent name parent) m = Follows R m.scene (does w (Element.Reparent name parent) m)
OwesMakes R w other m = Unit {0}

-- besides, for items that are taken and for ends
abbrev pub OwesEnds : Law → Option ℕ → Element → Moment → Type 0
OwesEnds R w (Element.InTurn name x) m = OwesEnds R w x m
OwesEnds R w (Element.Take role kind key) m = Follows R m.scene (does w (Element.Take role kind key) m)
OwesEnds R w (Element.TakeNamed name key) m = Follows R m.scene (does w (Element.TakeNamed name key) m)
OwesEnds R w (Element.EndPortal name) m = Follows R m.scene (does w (Element.EndPortal name) m)
OwesEnds R w Element.CommitTop m = Follows R m.scene (does w Element.CommitTop m)
OwesEnds R w Element.Subcommit m = Follows R m.scene (does w Element.Subcommit m)
OwesEnds R w Element.Abort m = Follows R m.scene (does w Element.Abort m)
OwesEnds R w Element.Cleanup m = Follows R m.scene (does w Element.Cleanup m)
OwesEnds R w x m = OwesMakes R w x m

-- besides, for levels and the newest snapshot: each element that the leaves don't make up
abbrev pub Owes : Law → Option ℕ → Element → Moment → Type 0
Owes R w (Element.InTurn name x) m = Owes R w x m
Owes R w (Element.MakeLevel name implicit) m = Follows R m.scene (does w (Element.MakeLevel name implicit) m)
Owes R w Element.LevelStands m = Follows R m.scene (does w Element.LevelStands m)
Owes R w Element.PopSnapshot m = Follows R m.scene (does w Element.PopSnapshot m)
Owes R w x m = OwesEnds R w x m

-- of these the two alone that change contexts and their hooks
abbrev pub OwesMoves : Law → Option ℕ → Element → Moment → Type 0
OwesMoves R w (Element.InTurn name x) m = OwesMoves R w x m
OwesMoves R w (Element.Register name) m = Follows R m.scene (does w (Element.Register name) m)
OwesMoves R w (Element.Reparent name parent) m = Follows R m.scene (does w (Element.Reparent name parent) m)
OwesMoves R w other m = Unit {0}

-- An element says no more than a word by itself. Where `usual` is true it registers no hook and moves no context either.
abbrev pub IsSpoken : Bool → Element → Type 0
IsSpoken usual (Element.Says event) = is_word event ≡ true
IsSpoken usual (Element.InTurn name x) = IsSpoken usual x
IsSpoken usual (Element.Register name) = usual ≡ false
IsSpoken usual (Element.Reparent name parent) = usual ≡ false
IsSpoken usual other = Unit {0}

abbrev pub AreSpoken : Bool → List Element → Type 0
AreSpoken usual [] = Unit {0}
AreSpoken usual (x ∷ xs) = IsSpoken usual x × AreSpoken usual xs

-- Each of these elements meets a scene of which this is known, up to the first that is refused.
abbrev pub IsRun : (Element → Scene → Type 0) → Option ℕ → List Element → Moment → Type 0
IsRun P w [] m = Unit {0}
IsRun P w (x ∷ xs) m = P x m.scene × ((does w x m).refusal ≡ None → IsRun P w xs (does w x m).moment)

pub runs_anyhow : (w : Option ℕ) (xs : List Element) (m : Moment) → IsRun (λ x s. Unit {0}) w xs m
runs_anyhow w [] m = tt
runs_anyhow w (x ∷ xs) m = (tt, λ none. runs_anyhow w xs (does w x m).moment)

pub runs_spoken : (usual : Bool) (w : Option ℕ) (xs : List Element) (m : Moment) → AreSpoken usual xs → IsRun (λ x s. IsSpoken usual x) w xs m
runs_spoken u w [] m h = tt
runs_spoken u w (x ∷ xs) m h = (h.0, λ none. runs_spoken u w xs (does w x m).moment h.1)
