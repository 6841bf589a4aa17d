-- What the commands on contexts perform.
use Rattle.session_commands.proofs.Base.{◌≡◌, ℕ, List, [], ◌∷◌, Option, Some, OnOk, OnErr, Result, refl, sym, ◌∙◌, ap, arith, option_map}
use Rattle.session_commands.proofs.Words.{What, Asks, TreeError, reset_refusal, reset_only_refusal, delete_refusal, error_of, Moment, children_gone, context_cleared, context_cleared_alone, context_gone, Text, tree_error, context_named, at_context, unfailing, does, contexts_in, session_of, Acted, ContextsAlone, Keeps, Refused, Now, Performed, most_calls}
use Rattle.session_rules.specs.Elements as element
use Rattle.session_commands.proofs.Commands.{may_delete, may_reset, may_reset_only, on_context}

does_reset : (name : Text) (w : Option ℕ) (m : Moment) → does w (element.Reset name) m ≡ unfailing m (at_context name context_cleared)
unfolding does
does_reset name w m = refl

does_reset_only : (name : Text) (w : Option ℕ) (m : Moment) → does w (element.ResetOnly name) m ≡ unfailing m (at_context name context_cleared_alone)
unfolding does
does_reset_only name w m = refl

does_delete : (name : Text) (w : Option ℕ) (m : Moment) → does w (element.Delete name) m ≡ unfailing m (at_context name context_gone)
unfolding does
does_delete name w m = refl

does_delete_children : (name : Text) (w : Option ℕ) (m : Moment) → does w (element.DeleteChildren name) m ≡ unfailing m (at_context name children_gone)
unfolding does
does_delete_children name w m = refl

-- what a command on the context of a name did
module _ (name : Text) (a b : Now) (n : ℕ) (P : List What → Type 0) (r : Result (Unit {0}) TreeError) (found : context_named name (session_of a.store a.space) ≡ Some n) (keeps : Keeps a.store a.space)
    (calls : b.calls ≡ a.calls) (alone : ContextsAlone a.store b.store a.space b.space a.commons b.commons) (same : OnErr r (Refused a.store b.store a.space b.space a.shelf b.shelf a.commons b.commons)) (silent : OnErr r (P [])) (asks : Asks a.store.tree.account 0 a.space b.space) where
  pub reset_performed : error_of r ≡ reset_refusal n a.store.tree.current.number (contexts_in a.store a.space) → OnOk r (Acted (context_cleared n) a.store b.store a.space b.space a.shelf b.shelf a.commons b.commons P)
      → Performed most_calls (element.Checks (element.IsContext name) ∷ element.Checks (element.MayReset name) ∷ element.Reset name ∷ []) a b P (option_map tree_error (error_of r))
  reset_performed answer acted =
      on_context name (element.MayReset name) (element.Reset name) context_cleared (does_reset name) (λ m scene. omega arith) a b n P found keeps calls alone (λ scene. refl) asks r
      (λ around. may_reset name a n around found ∙ ap (option_map tree_error) (sym answer)) acted same silent

  pub reset_only_performed : error_of r ≡ reset_only_refusal n (contexts_in a.store a.space) → OnOk r (Acted (context_cleared_alone n) a.store b.store a.space b.space a.shelf b.shelf a.commons b.commons P)
      → Performed most_calls (element.Checks (element.IsContext name) ∷ element.Checks (element.MayResetOnly name) ∷ element.ResetOnly name ∷ []) a b P (option_map tree_error (error_of r))
  reset_only_performed answer acted =
      on_context name (element.MayResetOnly name) (element.ResetOnly name) context_cleared_alone (does_reset_only name) (λ m scene. omega arith) a b n P found keeps calls alone (λ scene. refl) asks r
      (λ around. may_reset_only name a n around found ∙ ap (option_map tree_error) (sym answer)) acted same silent

  pub delete_performed : error_of r ≡ delete_refusal n a.store.tree.current.number (contexts_in a.store a.space) → OnOk r (Acted (context_gone n) a.store b.store a.space b.space a.shelf b.shelf a.commons b.commons P)
      → Performed most_calls (element.Checks (element.IsContext name) ∷ element.Checks (element.MayDelete name) ∷ element.Delete name ∷ []) a b P (option_map tree_error (error_of r))
  delete_performed answer acted =
      on_context name (element.MayDelete name) (element.Delete name) context_gone (does_delete name) (λ m scene. omega arith) a b n P found keeps calls alone (λ scene. refl) asks r
      (λ around. may_delete name a n around found ∙ ap (option_map tree_error) (sym answer)) acted same silent

  pub delete_children_performed : error_of r ≡ reset_refusal n a.store.tree.current.number (contexts_in a.store a.space) → OnOk r (Acted (children_gone n) a.store b.store a.space b.space a.shelf b.shelf a.commons b.commons P)
      → Performed most_calls (element.Checks (element.IsContext name) ∷ element.Checks (element.MayReset name) ∷ element.DeleteChildren name ∷ []) a b P (option_map tree_error (error_of r))
  delete_children_performed answer acted =
      on_context name (element.MayReset name) (element.DeleteChildren name) children_gone (does_delete_children name) (λ m scene. omega arith) a b n P found keeps calls alone (λ scene. refl) asks r
      (λ around. may_reset name a n around found ∙ ap (option_map tree_error) (sym answer)) acted same silent
