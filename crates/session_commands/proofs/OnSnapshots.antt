-- The steps by which a snapshot becomes active, and by which it is active no more.
use Rattle.session_commands.proofs.Base.{nat_tests, ◌≡◌, ◌↔◌, ℕ, Bool, true, false, List, [], ◌∷◌, Option, Some, None, Result, Ok, Err, refl, ap, arith, ◌-◌, IsErr}
use Rattle.session_commands.proofs.Words.{NotHeld, What, Space, Moment, Scene, in_order, fallible, unfailing, holds_snapshot, unless, does, snapshot_popped, snapshot_pushed, session_of, Acted, Keeps, Calls, Now, Performed, most_calls}
use Rattle.pgs_step.specs.declared.events.What.TheVariants as what
use Rattle.session_rules.specs.Elements as element
use Rattle.session_commands.proofs.Commands.{fails, passes_end, unchanged}
use Rattle.session_commands.proofs.Performing.{performed_end}
use Rattle.session_commands.proofs.Stepping.{Call, Rises, grown, lent, moves_same, still_keeps, still_moves, still_refused}

pub does_push : (snapshot : ℕ) (w : Option ℕ) (m : Moment) → does w (element.PushSnapshot snapshot) m ≡ fallible w m None (snapshot_pushed snapshot)
unfolding does
does_push snapshot w m = refl

does_pop : (w : Option ℕ) (m : Moment) → does w element.PopSnapshot m ≡ unfailing m snapshot_popped
unfolding does
does_pop w m = refl

pub push_rises : (snapshot : ℕ) (s : Scene) → Rises 1 s (snapshot_pushed snapshot s).scene
push_rises snapshot s = record { contexts = omega arith; owners = omega arith; serials = omega arith; descriptors = refl }

pop_rises : (s : Scene) → Rises 0 s (snapshot_popped s).scene
pop_rises s = grind (arith, nat_tests, s.session.snapshots, in_order)

-- a snapshot is pushed at the deepest level
abbrev pub push : ℕ → Call
push snapshot = record { step = element.PushSnapshot snapshot; own = λ _. None; act = snapshot_pushed snapshot; is = does_push snapshot; rises = push_rises snapshot; quiet = λ s. refl }

-- whether the newest one is of the deepest level, as a call tells it
pub held_where : {A E : Type 0} (r : Result A E) (u : A) (held : Bool) → r ≡ Ok u → IsErr r ↔ (held ≡ false) → held ≡ true
held_where r u true ok told = refl
held_where (Ok x) u false ok told = let z : false ≡ true = told.1 refl in absurd (cc z)
held_where (Err e) u false ok told = absurd (let z : Err e ≡ Ok u = ok in cc z)

pub missing_where : {A E : Type 0} (r : Result A E) (e : E) (held : Bool) → r ≡ Err e → IsErr r ↔ (held ≡ false) → held ≡ false
missing_where (Err x) e held err told = told.0 refl
missing_where (Ok x) e held err told = absurd (let z : Ok x ≡ Err e = err in cc z)

module _ (a b : Now) (P : List What → Type 0) (keeps : Keeps a.store a.space) (space : b.space ≡ a.space) (calls : b.calls ≡ a.calls) where
  -- the newest one is popped
  pub popped : holds_snapshot (session_of a.store a.space) ≡ true → b.store.tree ≡ a.store.tree → Keeps b.store b.space
      → Acted snapshot_popped a.store b.store a.space b.space a.shelf b.shelf a.commons b.commons P → Performed most_calls (element.Checks element.HoldsSnapshot ∷ element.PopSnapshot ∷ []) a b P None
  popped held tree after acted =
      passes_end element.HoldsSnapshot (element.PopSnapshot ∷ []) a b P None keeps (λ around. ap (λ (z : Bool). unless z NotHeld) held)
      (performed_end 0 element.PopSnapshot snapshot_popped a b P does_pop acted after (moves_same a.store.tree b.store.tree a.space b.space tree space keeps.agrees)
      (grown 0 snapshot_popped a b P pop_rises acted (omega (arith, ap (λ (c : Calls). c.count) calls))) calls (λ around. ap (λ (s : Space). s.taken) space))

  -- there is none, or it is of another level
  pub not_popped : holds_snapshot (session_of a.store a.space) ≡ false → P [] → b.store ≡ a.store → lent b ≡ lent a
      → Performed most_calls (element.Checks element.HoldsSnapshot ∷ element.PopSnapshot ∷ []) a b P (Some NotHeld)
  not_popped missing silent store shelf =
      unchanged most_calls (element.Checks element.HoldsSnapshot ∷ element.PopSnapshot ∷ []) a b P (Some NotHeld)
      (fails most_calls element.HoldsSnapshot (element.PopSnapshot ∷ []) a P NotHeld keeps silent refl (λ around. ap (λ (z : Bool). unless z NotHeld) missing))
      (still_refused a b store space shelf) (still_keeps a b store space shelf keeps) (still_moves a b store space shelf keeps) calls (ap (λ (s : Space). s.taken) space)
