-- Checks and steps of commands on contexts and chunks.
use Rattle.session_commands.proofs.Base.{nat_tests, ◌≡◌, ℕ, ◌+◌, ◌≤◌, false, is_some, OnOk, OnErr, Result, Ok, Err, List, [], ◌∷◌, Option, Some, None, refl, sym, ◌∙◌, ap, subst, arith, option_map, option_and_then}
use Rattle.session_commands.proofs.Words.{Error, What, Asks, Space, ShelfState, TreeError, Moves, SessionState, Around, Moment, Scene, Ended, where_there, Check, Element, Text, reset_refusal, reset_only_refusal, delete_refusal, set_parent_refusal, error_of, unfailing, does, asked_all, asks_in, failure, refusal_at, space_error, tree_error, unless, context_named, at_context, is_want, Row, elements, CommonState, StoreState, contexts_in, scene_of, session_of, Acted, ContextsAlone, Keeps, Refused, Calls, Fits, at_calls, wants, Now, Performed, most_calls, scene_in}
use Rattle.pgs_step.specs.declared.errors.Error.TheVariants as error
use Rattle.session_rules.specs.Elements as element
use Rattle.chunk_header.specs.declared.CtxError.{CtxError}
use Rattle.chunk_header.specs.declared.CtxError.TheVariants as space
use Rattle.context_rules.specs.declared.errors.TreeError.TheVariants as tree
use Rattle.session_commands.proofs.Takings.{takes_on}
use Rattle.session_commands.proofs.Chains.{silent_then, stops}
use Rattle.session_commands.proofs.Performing.{Raises, performed_act, performed_check, performed_fails, performed_more, answers_as, same_scene_in}

-- what a command performed, by what the command is
module _ {C : Type 0} {k : ℕ} {a b : Now} {P : List What → Type 0} {r : Option Error} where
  pub as_row : (rows : C → Row) (x y : C) → x ≡ y → Performed k (elements (rows y)) a b P r → Performed k (elements (rows x)) a b P r
  as_row rows x y is h = subst (λ (z : C). Performed k (elements (rows z)) a b P r) (sym is) h

-- a check that passes, and what comes behind it
pub passes : (k : ℕ) (check : Check) (rest : List Element) (a b : Now) (P : List What → Type 0) (r : Option Error) → Keeps a.store a.space
    → ((around : Around) → failure check (scene_in a around) ≡ None) → Performed k rest a b P r → Performed k (element.Checks check ∷ rest) a b P r
passes k check rest a b P r keeps pass next =
    performed_more (0 + k) k (element.Checks check ∷ rest) a b P r (omega arith)
    (silent_then 0 k (element.Checks check ∷ []) rest a a b P r (performed_check check a (λ events. events ≡ []) keeps refl pass) next)

-- what counts few calls, within what a command may count
pub one_call : {es : List Element} {a b : Now} {P : List What → Type 0} {r : Option Error} → Performed 1 es a b P r → Performed most_calls es a b P r
one_call h = performed_more 1 most_calls _ _ _ _ _ (omega arith) h

pub no_call : {es : List Element} {a b : Now} {P : List What → Type 0} {r : Option Error} → Performed 0 es a b P r → Performed most_calls es a b P r
no_call h = performed_more 0 most_calls _ _ _ _ _ (omega arith) h

-- a check that passes, and one call behind it, or none
pub passes_call : (check : Check) (rest : List Element) (a b : Now) (P : List What → Type 0) (r : Option Error) → Keeps a.store a.space
    → ((around : Around) → failure check (scene_in a around) ≡ None) → Performed 1 rest a b P r → Performed most_calls (element.Checks check ∷ rest) a b P r
passes_call check rest a b P r keeps pass next = passes most_calls check rest a b P r keeps pass (one_call next)

pub passes_end : (check : Check) (rest : List Element) (a b : Now) (P : List What → Type 0) (r : Option Error) → Keeps a.store a.space
    → ((around : Around) → failure check (scene_in a around) ≡ None) → Performed 0 rest a b P r → Performed most_calls (element.Checks check ∷ rest) a b P r
passes_end check rest a b P r keeps pass next = passes most_calls check rest a b P r keeps pass (no_call next)

-- a check that fails
pub fails : (k : ℕ) (check : Check) (rest : List Element) (a : Now) (P : List What → Type 0) (e : Error) → Keeps a.store a.space → P [] → is_want e ≡ false
    → ((around : Around) → failure check (scene_in a around) ≡ Some e) → Performed k (element.Checks check ∷ rest) a a P (Some e)
fails k check rest a P e keeps h plain refused = stops 0 k (element.Checks check ∷ []) rest a a P e (omega arith) (performed_fails check a P e keeps h plain refused)

-- what was refused where nothing changed
pub unchanged : (k : ℕ) (es : List Element) (a b : Now) (P : List What → Type 0) (r : Option Error) → Performed k es a a P r
    → Refused a.store b.store a.space b.space a.shelf b.shelf a.commons b.commons → Keeps b.store b.space → Moves a.store.tree b.store.tree a.space b.space → b.calls ≡ a.calls
    → Asks a.store.tree.account 0 a.space b.space → Performed k es a b P r
unchanged k es a b P r x same keeps moves calls asks = record {
  answers = grind (arith, nat_tests, a.calls.count, a.calls.fail, answers_as es (scene_in a) (scene_in a) (scene_in b) a.calls.count a.calls.count a.calls.fail P r (same_scene_in a b same) x.answers, same_scene_in a b same, x.answers);
  fail = ap (λ (c : Calls). c.fail) calls;
  keeps = keeps;
  moves = moves;
  balances = rw (same.store, same.commons) x.balances;
  taken = λ around w f.
      takes_on (wants r) a.store.tree.account (asked_all w es (at_calls (scene_in a) a.calls.count a.calls.fail around)) a.space a.space b.space
      (x.taken around w (subst (λ (c : Calls). Fits (wants r) c.count w) calls f)) (sym asks);
  grows = grind (arith, nat_tests, same.store, x.grows.contexts, x.grows.owners, x.grows.serials, x.grows.calls, x.grows.descriptors);
}

-- the context of a name is there
pub there : (name : Text) (scene : Scene) (n : ℕ) → context_named name scene.session ≡ Some n → failure (element.IsContext name) scene ≡ None
there name scene n e = ap (λ (o : Option ℕ). unless (is_some o) error.NoSuchName) e

-- it isn't
pub not_there : (name : Text) (scene : Scene) → context_named name scene.session ≡ None → failure (element.IsContext name) scene ≡ Some error.NoSuchName
not_there name scene e = ap (λ (o : Option ℕ). unless (is_some o) error.NoSuchName) e

-- the refusal of a call on the context of a name that is there
pub refused_at : (name : Text) (session : SessionState) (n : ℕ) (refusal : ℕ → Option TreeError) → context_named name session ≡ Some n → refusal_at name session refusal ≡ option_map tree_error (refusal n)
refused_at name session n refusal e = ap (λ (o : Option ℕ). option_map tree_error (option_and_then refusal o)) e

-- an act on the context of a name that is there
pub acted_at : (name : Text) (n : ℕ) (act : ℕ → Scene → Ended) (a b : StoreState) (s t : Space) (x y : ShelfState) (c d : CommonState) (P : List What → Type 0) → context_named name (session_of a s) ≡ Some n
    → Acted (act n) a b s t x y c d P → Acted (at_context name act) a b s t x y c d P
acted_at name n act a b s t x y c d P e h = record {
  leads = λ around. ap (λ (o : Option ℕ). (where_there o act (scene_of a s x c around)).scene) e ∙ h.leads around;
  says = λ around. subst (λ (o : Option ℕ). P (where_there o act (scene_of a s x c around)).events) (sym e) (h.says around);
  balances = h.balances;
}

-- no refusal of a call is a want of memory, as rules tell it
space_error_plain : (e : CtxError) → is_want (space_error e) ≡ false
space_error_plain x0 = grind (arith, nat_tests)

pub tree_error_plain : (e : TreeError) → is_want (tree_error e) ≡ false
tree_error_plain x0 = grind (arith, nat_tests, space_error_plain)

-- a command that tests the context of a name and then acts on it
module _ (name : Text) (check : Check) (x : Element) (act : ℕ → Scene → Ended) (is : (w : Option ℕ) (m : Moment) → does w x m ≡ unfailing m (at_context name act))
    (raises : (n : ℕ) (scene : Scene) → (act n scene).scene.session.next_context ≤ scene.session.next_context + 0) where
  pub at_raises : Raises 0 (at_context name act)
  at_raises scene = grind (arith, nat_tests, context_named name scene.session, scene.session, scene.session.next_context)

  module _ (a b : Now) (n : ℕ) (P : List What → Type 0) (found : context_named name (session_of a.store a.space) ≡ Some n) (keeps : Keeps a.store a.space) (calls : b.calls ≡ a.calls)
      (alone : ContextsAlone a.store b.store a.space b.space a.commons b.commons) (quiet : (scene : Scene) → asks_in x scene ≡ 0) (asks : Asks a.store.tree.account 0 a.space b.space) where
    pub on_context : (r : Result (Unit {0}) TreeError) → ((around : Around) → failure check (scene_in a around) ≡ option_map tree_error (error_of r))
        → OnOk r (Acted (act n) a.store b.store a.space b.space a.shelf b.shelf a.commons b.commons P) → OnErr r (Refused a.store b.store a.space b.space a.shelf b.shelf a.commons b.commons) → OnErr r (P [])
        → Performed most_calls (element.Checks (element.IsContext name) ∷ element.Checks check ∷ x ∷ []) a b P (option_map tree_error (error_of r))
    on_context (Ok u) may acted same silent =
        passes most_calls (element.IsContext name) (element.Checks check ∷ x ∷ []) a b P None keeps (λ around. there name (scene_in a around) n found)
        (passes most_calls check (x ∷ []) a b P None keeps may
        (performed_act most_calls x (at_context name act) a b P is at_raises (acted_at name n act a.store b.store a.space b.space a.shelf b.shelf a.commons b.commons P found acted) alone calls
        (λ around. subst (λ (k : ℕ). Asks a.store.tree.account k a.space b.space) (sym (quiet (scene_in a around))) asks)))
    on_context (Err e) may acted same silent =
        unchanged most_calls (element.Checks (element.IsContext name) ∷ element.Checks check ∷ x ∷ []) a b P (Some (tree_error e))
        (passes most_calls (element.IsContext name) (element.Checks check ∷ x ∷ []) a a P (Some (tree_error e)) keeps (λ around. there name (scene_in a around) n found)
        (fails most_calls check (x ∷ []) a P (tree_error e) keeps silent (tree_error_plain e) may))
        same alone.keeps alone.moves calls asks

-- a command on a context that isn't there
pub on_no_context : (name : Text) (rest : List Element) (a : Now) (P : List What → Type 0) → context_named name (session_of a.store a.space) ≡ None → Keeps a.store a.space → P []
    → Performed most_calls (element.Checks (element.IsContext name) ∷ rest) a a P (Some error.NoSuchName)
on_no_context name rest a P none keeps silent = fails most_calls (element.IsContext name) rest a P error.NoSuchName keeps silent refl (λ around. not_there name (scene_in a around) none)

-- what may be done with a context, as the store answers it
pub may_reset : (name : Text) (a : Now) (n : ℕ) (around : Around) → context_named name (session_of a.store a.space) ≡ Some n
    → failure (element.MayReset name) (scene_in a around) ≡ option_map tree_error (reset_refusal n a.store.tree.current.number (contexts_in a.store a.space))
unfolding session_of
may_reset name a n around e = refused_at name (session_of a.store a.space) n (λ m. reset_refusal m a.store.tree.current.number (contexts_in a.store a.space)) e

pub may_reset_only : (name : Text) (a : Now) (n : ℕ) (around : Around) → context_named name (session_of a.store a.space) ≡ Some n
    → failure (element.MayResetOnly name) (scene_in a around) ≡ option_map tree_error (reset_only_refusal n (contexts_in a.store a.space))
may_reset_only name a n around e = refused_at name (session_of a.store a.space) n (λ m. reset_only_refusal m (contexts_in a.store a.space)) e

pub may_delete : (name : Text) (a : Now) (n : ℕ) (around : Around) → context_named name (session_of a.store a.space) ≡ Some n
    → failure (element.MayDelete name) (scene_in a around) ≡ option_map tree_error (delete_refusal n a.store.tree.current.number (contexts_in a.store a.space))
unfolding session_of
may_delete name a n around e = refused_at name (session_of a.store a.space) n (λ m. delete_refusal m a.store.tree.current.number (contexts_in a.store a.space)) e

pub may_move : (name parent : Text) (a : Now) (n p : ℕ) (around : Around) → context_named name (session_of a.store a.space) ≡ Some n → context_named parent (session_of a.store a.space) ≡ Some p
    → failure (element.MayMove name parent) (scene_in a around) ≡ option_map tree_error (set_parent_refusal n p (contexts_in a.store a.space))
may_move name parent a n p around e f = grind (arith, nat_tests, refused_at, a.store, a.space, context_named parent (session_of a.store a.space))
