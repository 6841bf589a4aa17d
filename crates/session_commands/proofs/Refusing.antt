-- The refusals of calls on a store, as answers of commands.
use Rattle.session_commands.proofs.Base.{arith, nat_tests, ◌≡◌, ℕ, List, [], Some, OnErr, OnOk, Result, Ok, Err, refl, sym, ap, subst, option_map}
use Rattle.session_commands.proofs.Words.{Error, What, Space, ShelfState, TreeError, error_of, Element, tree_error, CommonState, StoreState, session_of, ContextsAlone, Keeps, Refused, refusal_of, Now, Performed}
use Rattle.std.specs.Result.{IsErrAnd, MatchResult}
use Rattle.std.proofs.lemmas.Result.{err_from_is_err_and}
use Rattle.session_commands.proofs.Performing.{moves_nothing}

module _ {A : Type 0} {k : ℕ} {es : List Element} {a b : Now} {P : List What → Type 0} where
  -- the error that `?` hands on
  pub handed : (told : Result A Error) (e : Error) → IsErrAnd told (λ d. d ≡ e) → Performed k es a b P (Some e) → Performed k es a b P (refusal_of told)
  handed told e is h = grind (arith, nat_tests, err_from_is_err_and told is)

  -- the answer of a call on contexts, whose refusal is told as an error
  pub told_errors : (r : Result A TreeError) (told : Result A Error) → MatchResult r (λ x. told ≡ Ok x) (λ e. IsErrAnd told (λ d. d ≡ tree_error e))
      → Performed k es a b P (option_map tree_error (error_of r)) → Performed k es a b P (refusal_of told)
  told_errors x0 told is h = grind (arith, nat_tests, handed)

-- nothing was said where the call was refused
pub silent_where : {A E O : Type 0} (emits : O → List What → O → Type 0) (r : Result A E) (x y : O) → emits x [] x → OnErr r (y ≡ x) → OnErr r (emits x [] y)
silent_where emits x1 x y nothing same = grind (arith, nat_tests)

-- nothing changed
pub nothing_changed : (a b : StoreState) (s : Space) (x : ShelfState) (c : CommonState) → b ≡ a → Refused a b s s x x c c
nothing_changed a b s x c same = record { store = same; shelf = refl; commons = refl; session = ap (λ (z : StoreState). session_of z s) same; limit = refl }

-- where the store is as it was the call changed nothing
pub refused_still : {A E : Type 0} (r : Result A E) (a b : StoreState) (s : Space) (x : ShelfState) (c : CommonState) → OnErr r (b ≡ a) → OnErr r (Refused a b s s x x c c)
refused_still x0 a b s x c same = grind (arith, nat_tests, nothing_changed)

-- contexts that didn't change
pub alone_same : (a : StoreState) (s : Space) (c : CommonState) → Keeps a s → ContextsAlone a a s s c c
alone_same a s c keeps = record { keeps = keeps; moves = moves_nothing a.tree s keeps.agrees; owners = refl; commons = refl; levels = refl; portals = refl; stays = λ id live had has. live }

-- an error by another name
pub told_as : (k : ℕ) (es : List Element) (a b : Now) (P : List What → Type 0) (e t : Error) → t ≡ e → Performed k es a b P (Some e) → Performed k es a b P (Some t)
told_as k es a b P e t is h = subst (λ (x : Error). Performed k es a b P (Some x)) (sym is) h

-- what holds where a call was refused
pub err_of : {A E P : Type 0} (r : Result A E) (e : E) → r ≡ Err e → OnErr r P → P
err_of (Err d) e is p = p
err_of (Ok a) e is p = absurd (other is)
  where
    other : Ok a ≡ Err e → ⊥
    other z = cc z

-- the store and the shelf are as they were
pub both_still : (a b : StoreState) (s : Space) (x y : ShelfState) (c : CommonState) → b ≡ a → y ≡ x → Refused a b s s x y c c
both_still a b s x y c store shelf = record { store = store; shelf = shelf; commons = refl; session = ap (λ (z : StoreState). session_of z s) store; limit = refl }

-- what was answered of any commons, of these
pub ok_with : {A E : Type 0} (F : CommonState → Type 0) (r : Result A E) (c : CommonState) → OnOk r ((d : CommonState) → F d) → OnOk r (F c)
ok_with F x1 c h = grind (arith, nat_tests)

pub err_with : {A E : Type 0} (F : CommonState → Type 0) (r : Result A E) (c : CommonState) → OnErr r ((d : CommonState) → F d) → OnErr r (F c)
err_with F x1 c h = grind (arith, nat_tests)
