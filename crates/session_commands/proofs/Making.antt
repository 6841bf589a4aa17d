-- The contexts and the owners that steps make.
use Rattle.session_commands.proofs.Base.{nat_tests, ◌≡◌, ◌≢◌, ◌⊎◌, ◌↔◌, ℕ, ◌+◌, ◌≤◌, ◌==◌, true, false, List, [], ◌∷◌, Option, Some, None, Result, Ok, Err, refl, sym, ◌∙◌, ap, subst, arith, option_map}
use Rattle.session_commands.proofs.Words.{Asks, first_size, CtxKind, TreeError, create_refusal, AsksInVain, Moves, size, OwnerError, Error, LimitReached, NoMemory, What, owners_of, Around, Moment, Scene, asks_in, NewContext, OwnerRole, Text, fallible, tree_error, does, left, limit, new_context_made, new_context_refused, new_owner_made, contexts_in, left_in, session_of, Acted, Keeps, Refused, Now, Performed, scene_in}
use Rattle.context_rules.specs.declared.errors.TreeError.TheVariants as tree
use Rattle.owner_core.specs.declared.errors.OwnerError.TheVariants as owner
use Rattle.session_rules.specs.Elements as element
use Rattle.session_commands.proofs.Performing.{performed_made}
use Rattle.session_commands.proofs.Stepping.{Call, Rises, count_behind, grown, limit_free, limit_reached, step_tree}

pub does_make_context : (new : NewContext) (w : Option ℕ) (m : Moment) → does w (element.MakeContext new) m ≡ fallible w m (new_context_refused new m.scene) (new_context_made new)
unfolding does
does_make_context new w m = refl

-- a context of the program's own, by its name and kind
pub record IsNew (new : NewContext) (title : Text) (kind : CtxKind) (a : Now) : Type 0 where
  pub refused : (s : Scene) → new_context_refused new s ≡ option_map tree_error (create_refusal (left s) title kind true s.session.contexts)
  pub rises : (s : Scene) → Rises 1 s (new_context_made new s).scene
  pub asks : (around : Around) → asks_in (element.MakeContext new) (scene_in a around) ≡ first_size kind

module _ (new : NewContext) (title : Text) (kind : CtxKind) (a b : Now) (is : IsNew new title kind a) (P : List What → Type 0) (counted : b.calls ≡ record a.calls { count = a.calls.count + 1 })
    (goes : (a.calls.count + 1 == a.calls.fail) ≡ false) (keeps : Keeps b.store b.space) (moves : Moves a.store.tree b.store.tree a.space b.space) where
  pub context_done : create_refusal (left_in a.store a.space) title kind true (contexts_in a.store a.space) ≡ None
      → Acted (new_context_made new) a.store b.store a.space b.space a.shelf b.shelf a.commons b.commons P → Asks a.store.tree.account (first_size kind) a.space b.space → Performed 1 (element.MakeContext new ∷ []) a b P None
  context_done free acted asks =
      performed_made (element.MakeContext new) (new_context_refused new) (new_context_made new) (does_make_context new) a b P counted 1 goes
      (λ around. is.refused (scene_in a around) ∙ ap (option_map tree_error) free) acted keeps moves
      (grown 1 (new_context_made new) a b P is.rises acted (omega (arith, count_behind a b counted))) (λ around. subst (λ (n : ℕ). Asks a.store.tree.account n a.space b.space) (sym (is.asks around)) asks)

  pub context_not_made : Refused a.store b.store a.space b.space a.shelf b.shelf a.commons b.commons → P [] → (e : TreeError) (t : Error)
      → (e ≡ tree.Memory) ⊎ (create_refusal (left_in a.store a.space) title kind true (contexts_in a.store a.space) ≡ Some e)
      → (e ≡ tree.Memory → t ≡ NoMemory b.calls.count) → (e ≢ tree.Memory → t ≡ tree_error e) → AsksInVain e a.store.tree.account (first_size kind) a.space b.space → Performed 1 (element.MakeContext new ∷ []) a b P (Some t)
  context_not_made same silent =
      step_tree (element.MakeContext new) (new_context_refused new) (new_context_made new) (does_make_context new) a b P counted same keeps moves silent goes
      (create_refusal (left_in a.store a.space) title kind true (contexts_in a.store a.space)) (λ around. is.refused (scene_in a around)) (first_size kind)

-- an owner is made
pub does_make_owner : (role : OwnerRole) (w : Option ℕ) (m : Moment) → does w (element.MakeOwner role) m ≡ fallible w m (limit 65536 (size m.scene.session.owners)) (new_owner_made role)
unfolding does
does_make_owner role w m = refl

pub owner_rises : (role : OwnerRole) (s : Scene) → Rises 1 s (new_owner_made role s).scene
owner_rises x0 s = grind (arith, nat_tests)

abbrev pub make_owner : OwnerRole → Call
make_owner role = record {
  step = element.MakeOwner role;
  own = λ scene. limit 65536 (size scene.session.owners);
  act = new_owner_made role;
  is = does_make_owner role;
  rises = owner_rises role;
  quiet = λ s. refl;
}

-- how many owners a session has decides whether it gets one more
module _ (a : Now) (r : Result (Unit {0}) OwnerError) (much : (r ≡ Err owner.TooMany) ↔ (65536 ≤ size (owners_of a.store.owners))) where
  pub few_owners : (u : Unit {0}) → r ≡ Ok u → (around : Around) → limit 65536 (size (scene_in a around).session.owners) ≡ None
  unfolding session_of
  few_owners u ok around = grind (arith, nat_tests, limit_free)

  pub many_owners : r ≡ Err owner.TooMany → (around : Around) → limit 65536 (size (scene_in a around).session.owners) ≡ Some LimitReached
  unfolding session_of
  many_owners full around = limit_reached 65536 (size (owners_of a.store.owners)) (much.0 full)
