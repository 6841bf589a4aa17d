-- What the other commands on contexts perform.
use Rattle.session_commands.proofs.Base.{nat_tests, ◌≡◌, ℕ, ◌+◌, ◌==◌, ◌≤◌, ◌↔◌, ◌≢◌, ◌⊎◌, Bool, true, false, List, [], ◌∷◌, Option, Some, None, OnOk, OnErr, Result, Ok, Err, refl, sym, ◌∙◌, ap, subst, arith, option_map, option_map_or}
use Rattle.session_commands.proofs.Words.{Error, What, Asks, Space, ShelfState, TreeError, create_refusal, is_taken, set_parent_refusal, first_size, AsksInVain, error_of, first_of, Moment, Scene, Ended, switched, where_there, hook_refused, hook_registered, hook_waits, Element, NewContext, Text, context_made, new_context_made, new_context_refused, CtxKind, tree_error, unless, context_named, at_context, context_moved, fallible, unfailing, does, CommonState, StoreState, contexts_in, left_in, session_of, Acted, ContextsAlone, Keeps, Refused, Now, Performed, most_calls, scene_in}
use Rattle.std.proofs.Common.{not}
use Rattle.pgs_step.specs.declared.errors.Error.TheVariants as error
use Rattle.reset_callbacks.specs.Hook.{Hook}
use Rattle.context_rules.specs.declared.errors.TreeError.TheVariants as tree
use Rattle.session_rules.specs.Elements as element
use Rattle.session_store.specs.declared.hooks.RegisterError.{RegisterError}
use Rattle.session_store.specs.declared.hooks.RegisterError.TheVariants as register
use Rattle.session_commands.proofs.Making.{does_make_context}
use Rattle.session_commands.proofs.Stepping.{step_tree}
use Rattle.session_commands.proofs.Performing.{Raises, performed_act, performed_injected, performed_own, performed_step, performed_want}
use Rattle.session_commands.proofs.Commands.{acted_at, at_raises, fails, on_no_context, may_move, passes, passes_call, there, tree_error_plain, unchanged}

-- another way to say what was said
pub acted_said : (act : Scene → Ended) (a b : StoreState) (s t : Space) (x y : ShelfState) (c d : CommonState) (P Q : List What → Type 0) → ((events : List What) → P events → Q events) → Acted act a b s t x y c d P → Acted act a b s t x y c d Q
acted_said act a b s t x y c d P Q all h = record { leads = h.leads; says = λ around. all _ (h.says around); balances = h.balances }

does_switch : (name : Text) (w : Option ℕ) (m : Moment) → does w (element.Switch name) m ≡ unfailing m (at_context name switched)
unfolding does
does_switch name w m = refl

does_reparent : (name parent : Text) (w : Option ℕ) (m : Moment) → does w (element.Reparent name parent) m ≡ unfailing m (at_context name (λ n. at_context parent (context_moved n)))
unfolding does
does_reparent name parent w m = refl

does_register : (name : Text) (w : Option ℕ) (m : Moment) → does w (element.Register name) m ≡ fallible w m (hook_refused m.scene) (hook_registered name)
unfolding does
does_register name w m = refl

module _ (name : Text) (a b : Now) (n : ℕ) (P : List What → Type 0) (found : context_named name (session_of a.store a.space) ≡ Some n) (keeps : Keeps a.store a.space)
    (alone : ContextsAlone a.store b.store a.space b.space a.commons b.commons) (asks : Asks a.store.tree.account 0 a.space b.space) where
  pub switch_performed : b.calls ≡ a.calls → Acted (switched n) a.store b.store a.space b.space a.shelf b.shelf a.commons b.commons P
      → Performed most_calls (element.Checks (element.IsContext name) ∷ element.Switch name ∷ []) a b P None
  switch_performed calls acted =
      passes most_calls (element.IsContext name) (element.Switch name ∷ []) a b P None keeps (λ around. there name (scene_in a around) n found)
      (performed_act most_calls (element.Switch name) (at_context name switched) a b P (does_switch name)
      (at_raises name (element.IsContext name) (element.Switch name) switched (does_switch name) (λ m scene. omega arith))
      (acted_at name n switched a.store b.store a.space b.space a.shelf b.shelf a.commons b.commons P found acted) alone calls (λ around. asks))

  -- a context moves below another one
  module _ (parent : Text) (p : ℕ) (parent_found : context_named parent (session_of a.store a.space) ≡ Some p) (r : Result (Unit {0}) TreeError) where
    abbrev moves_to : ℕ → Scene → Ended
    moves_to m = at_context parent (context_moved m)

    moves_raise : (m : ℕ) (scene : Scene) → (moves_to m scene).scene.session.next_context ≤ scene.session.next_context + 0
    moves_raise m scene = grind (arith, nat_tests, context_named parent scene.session, scene.session, scene.session.next_context)

    pub reparent_performed : b.calls ≡ a.calls → OnErr r (Refused a.store b.store a.space b.space a.shelf b.shelf a.commons b.commons) → OnErr r (P [])
        → error_of r ≡ set_parent_refusal n p (contexts_in a.store a.space) → OnOk r (Acted (context_moved n p) a.store b.store a.space b.space a.shelf b.shelf a.commons b.commons P)
        → Performed most_calls (element.Checks (element.IsContext name) ∷ element.Checks (element.IsContext parent) ∷ element.Checks (element.MayMove name parent) ∷ element.Reparent name parent ∷ []) a b P (option_map tree_error (error_of r))
    reparent_performed calls same silent answer acted = go r answer acted same silent
      where
        go : (r : Result (Unit {0}) TreeError) → error_of r ≡ set_parent_refusal n p (contexts_in a.store a.space) → OnOk r (Acted (context_moved n p) a.store b.store a.space b.space a.shelf b.shelf a.commons b.commons P)
            → OnErr r (Refused a.store b.store a.space b.space a.shelf b.shelf a.commons b.commons) → OnErr r (P [])
            → Performed most_calls (element.Checks (element.IsContext name) ∷ element.Checks (element.IsContext parent) ∷ element.Checks (element.MayMove name parent) ∷ element.Reparent name parent ∷ []) a b P (option_map tree_error (error_of r))
        go (Ok u) answer acted same silent =
            passes most_calls (element.IsContext name) _ a b P None keeps (λ around. there name (scene_in a around) n found)
            (passes most_calls (element.IsContext parent) _ a b P None keeps (λ around. there parent (scene_in a around) p parent_found)
            (passes most_calls (element.MayMove name parent) (element.Reparent name parent ∷ []) a b P None keeps (λ around. may_move name parent a n p around found parent_found ∙ ap (option_map tree_error) (sym answer))
            (performed_act most_calls (element.Reparent name parent) (at_context name moves_to) a b P (does_reparent name parent)
            (at_raises name (element.MayMove name parent) (element.Reparent name parent) moves_to (does_reparent name parent) moves_raise)
            (acted_at name n moves_to a.store b.store a.space b.space a.shelf b.shelf a.commons b.commons P found (acted_at parent p (context_moved n) a.store b.store a.space b.space a.shelf b.shelf a.commons b.commons P parent_found acted)) alone calls (λ around. asks))))
        go (Err e) answer acted same silent =
            unchanged most_calls _ a b P (Some (tree_error e))
            (passes most_calls (element.IsContext name) _ a a P (Some (tree_error e)) keeps (λ around. there name (scene_in a around) n found)
            (passes most_calls (element.IsContext parent) _ a a P (Some (tree_error e)) keeps (λ around. there parent (scene_in a around) p parent_found)
            (fails most_calls (element.MayMove name parent) (element.Reparent name parent ∷ []) a P (tree_error e) keeps silent (tree_error_plain e) (λ around. may_move name parent a n p around found parent_found ∙ ap (option_map tree_error) (sym answer)))))
            same alone.keeps alone.moves calls asks

  -- a hook waits
  module _ (counted : b.calls ≡ record a.calls { count = a.calls.count + 1 }) where
    abbrev waits : ℕ → Scene → Ended
    waits m scene = where_there (first_of scene.around.shelf.fresh) (hook_waits m) scene

    register_raises : Raises 1 (hook_registered name)
    register_raises scene = grind (arith, nat_tests, context_named name scene.session, scene.session, scene.around.shelf.fresh, scene.session.next_context)

    register_acted : Acted (waits n) a.store b.store a.space b.space a.shelf b.shelf a.commons b.commons P → Acted (hook_registered name) a.store b.store a.space b.space a.shelf b.shelf a.commons b.commons P
    register_acted h = record {
      leads = λ around. ap (λ (o : Option ℕ). (where_there o (λ m. where_there (first_of a.shelf.fresh) (hook_waits m)) (scene_in a around)).scene) found ∙ h.leads around;
      says = λ around. subst (λ (o : Option ℕ). P (where_there o (λ m. where_there (first_of a.shelf.fresh) (hook_waits m)) (scene_in a around)).events) (sym found) (h.says around);
      balances = h.balances;
    }

    pub register_performed : (a.calls.count + 1 == a.calls.fail) ≡ false → (h : Hook) → first_of a.shelf.fresh ≡ Some h → Acted (waits n) a.store b.store a.space b.space a.shelf b.shelf a.commons b.commons P
        → Performed most_calls (element.Checks (element.IsContext name) ∷ element.Register name ∷ []) a b P None
    register_performed goes h fresh acted =
        passes_call (element.IsContext name) (element.Register name ∷ []) a b P None keeps (λ around. there name (scene_in a around) n found)
        (performed_step (element.Register name) hook_refused (hook_registered name) (does_register name) a b P counted register_raises goes
        (λ around. ap (λ (o : Option Hook). option_map_or (λ hook. None) o (Some error.LimitReached)) fresh)
        (register_acted acted) alone (λ around. asks))

    module _ (same : Refused a.store b.store a.space b.space a.shelf b.shelf a.commons b.commons) (silent : P []) where
      pub register_none : (a.calls.count + 1 == a.calls.fail) ≡ false → a.shelf.fresh ≡ []
          → Performed most_calls (element.Checks (element.IsContext name) ∷ element.Register name ∷ []) a b P (Some error.LimitReached)
      register_none goes none =
          passes_call (element.IsContext name) (element.Register name ∷ []) a b P (Some error.LimitReached) keeps (λ around. there name (scene_in a around) n found)
          (performed_own (element.Register name) hook_refused (hook_registered name) (does_register name) a b P counted same alone.keeps alone.moves error.LimitReached goes refl silent
          (λ around. ap (λ (hooks : List Hook). option_map_or (λ hook. None) (first_of hooks) (Some error.LimitReached)) none) asks)

      pub register_wants : (a.calls.count + 1 == a.calls.fail) ≡ false → Performed most_calls (element.Checks (element.IsContext name) ∷ element.Register name ∷ []) a b P (Some (error.NoMemory (a.calls.count + 1)))
      register_wants goes =
          passes_call (element.IsContext name) (element.Register name ∷ []) a b P (Some (error.NoMemory (a.calls.count + 1))) keeps (λ around. there name (scene_in a around) n found)
          (performed_want (element.Register name) hook_refused (hook_registered name) (does_register name) a b P counted same alone.keeps alone.moves goes silent (0, asks))

      pub register_injected : (a.calls.count + 1 == a.calls.fail) ≡ true → Performed most_calls (element.Checks (element.IsContext name) ∷ element.Register name ∷ []) a b P (Some (error.Injected (a.calls.count + 1)))
      register_injected fails =
          passes_call (element.IsContext name) (element.Register name ∷ []) a b P (Some (error.Injected (a.calls.count + 1))) keeps (λ around. there name (scene_in a around) n found)
          (performed_injected (element.Register name) hook_refused (hook_registered name) (does_register name) a b P counted same alone.keeps alone.moves fails silent asks)

      -- what the store answered, as the session answers it
      pub register_refused : (r : Result (Unit {0}) RegisterError) (refusal : RegisterError) (t : Error) → (a.calls.count + 1 == a.calls.fail) ≡ false → r ≡ Err refusal → ((r ≡ Err register.NoHook) ↔ (a.shelf.fresh ≡ []))
          → (refusal ≡ register.NoHook → t ≡ error.LimitReached) → (refusal ≡ register.Memory → t ≡ error.NoMemory (a.calls.count + 1))
          → Performed most_calls (element.Checks (element.IsContext name) ∷ element.Register name ∷ []) a b P (Some t)
      register_refused r register.NoHook t goes is no_hook none memory = grind (arith, nat_tests, register_none goes (no_hook.0 is), no_hook.0 is)
      register_refused r register.Memory t goes is no_hook none memory = grind (arith, nat_tests, register_wants goes)

    -- where a hook waits now, there was a fresh one
    pub register_done : (r : Result (Unit {0}) RegisterError) (u : Unit {0}) → (a.calls.count + 1 == a.calls.fail) ≡ false → r ≡ Ok u → ((r ≡ Err register.NoHook) ↔ (a.shelf.fresh ≡ []))
        → Acted (waits n) a.store b.store a.space b.space a.shelf b.shelf a.commons b.commons P → Performed most_calls (element.Checks (element.IsContext name) ∷ element.Register name ∷ []) a b P None
    register_done r u goes is no_hook acted = go a.shelf.fresh refl
      where
        go : (hooks : List Hook) → a.shelf.fresh ≡ hooks → Performed most_calls (element.Checks (element.IsContext name) ∷ element.Register name ∷ []) a b P None
        go [] e = absurd (other (sym is ∙ no_hook.1 e))
          where
            other : Ok u ≡ Err register.NoHook → ⊥
            other z = cc
        go (h ∷ hooks) e = register_performed goes h (ap first_of e) acted

-- a context has no parent to go to
pub no_parent : (name parent : Text) (rest : List Element) (a : Now) (n : ℕ) (P : List What → Type 0) → context_named name (session_of a.store a.space) ≡ Some n → context_named parent (session_of a.store a.space) ≡ None
    → Keeps a.store a.space → P [] → Performed most_calls (element.Checks (element.IsContext name) ∷ element.Checks (element.IsContext parent) ∷ rest) a a P (Some error.NoSuchName)
no_parent name parent rest a n P found none keeps silent =
    passes most_calls (element.IsContext name) (element.Checks (element.IsContext parent) ∷ rest) a a P (Some error.NoSuchName) keeps (λ around. there name (scene_in a around) n found)
    (on_no_context parent rest a P none keeps silent)

-- what holds in any space, with any shelf and any commons holds here
pub here : {A E : Type 0} (P : Space → ShelfState → CommonState → Type 0) (r : Result A E) (s : Space) (x : ShelfState) (c : CommonState) → OnOk r ((t : Space) (y : ShelfState) (d : CommonState) → P t y d) → OnOk r (P s x c)
here P x1 s x c all = grind (arith, nat_tests)

-- the value of an answer
pub answer_of : {A E P : Type 0} (r : Result A E) (a : A) → r ≡ Ok a → OnOk r P → P
answer_of (Ok b) a is p = p
answer_of (Err e) a is p = absurd (other is)
  where
    other : Err e ≡ Ok a → ⊥
    other z = cc z

-- what a call on contexts that may take memory answered, as the session answers it
pub by_cause : (k : ℕ) (es : List Element) (a b : Now) (P : List What → Type 0) (own : Option TreeError) (n : ℕ) (e : TreeError) (t : Error) → (e ≡ tree.Memory → t ≡ error.NoMemory n) → (e ≢ tree.Memory → t ≡ tree_error e)
    → (e ≡ tree.Memory) ⊎ (own ≡ Some e) → Performed k es a b P (Some (error.NoMemory n)) → (e ≢ tree.Memory → own ≡ Some e → Performed k es a b P (Some (tree_error e))) → Performed k es a b P (Some t)
by_cause k es a b P own n e t memory other cause want refused = grind (arith, nat_tests)

-- a context of a script is made
module _ (name parent : Text) (kind : CtxKind) where
  abbrev made : List Element
  made = element.Checks (element.ContextIsNew name) ∷ element.Checks (element.IsContext parent) ∷ element.MakeContext (element.ScriptContext name parent kind) ∷ []

  -- the name is taken
  pub make_taken : (a : Now) (P : List What → Type 0) → Keeps a.store a.space → P [] → is_taken name (contexts_in a.store a.space) ≡ true → Performed most_calls made a a P (Some error.NameTaken)
  make_taken a P keeps silent taken =
      fails most_calls (element.ContextIsNew name) _ a P error.NameTaken keeps silent refl (λ around. ap (λ (t : Bool). unless (not t) error.NameTaken) taken)

  module _ (a b : Now) (P : List What → Type 0) (keeps : Keeps a.store a.space) (free : is_taken name (contexts_in a.store a.space) ≡ false) where
    -- the parent isn't there
    pub make_nowhere : context_named parent (session_of a.store a.space) ≡ None → P [] → Performed most_calls made a a P (Some error.NoSuchName)
    make_nowhere none silent =
        passes most_calls (element.ContextIsNew name) _ a a P (Some error.NoSuchName) keeps (λ around. ap (λ (t : Bool). unless (not t) error.NameTaken) free)
        (on_no_context parent _ a P none keeps silent)

    module _ (n : ℕ) (found : context_named parent (session_of a.store a.space) ≡ Some n) (counted : b.calls ≡ record a.calls { count = a.calls.count + 1 }) (alone : ContextsAlone a.store b.store a.space b.space a.commons b.commons) where
      abbrev new : NewContext
      new = element.ScriptContext name parent kind

      checked : (r : Option Error) → Performed 1 (element.MakeContext new ∷ []) a b P r → Performed most_calls made a b P r
      checked r next =
          passes_call (element.ContextIsNew name) _ a b P r keeps (λ around. ap (λ (t : Bool). unless (not t) error.NameTaken) free)
          (passes 1 (element.IsContext parent) _ a b P r keeps (λ around. there parent (scene_in a around) n found) next)

      raises_one : Raises 1 (new_context_made new)
      raises_one scene = grind (arith, nat_tests, context_named parent scene.session, scene.session, scene.session.next_context)

      made_at : Acted (context_made n name false kind) a.store b.store a.space b.space a.shelf b.shelf a.commons b.commons P → Acted (new_context_made new) a.store b.store a.space b.space a.shelf b.shelf a.commons b.commons P
      made_at h = record {
        leads = λ around. ap (λ (o : Option ℕ). (where_there o (λ p. context_made p name false kind) (scene_in a around)).scene) found ∙ h.leads around;
        says = λ around. subst (λ (o : Option ℕ). P (where_there o (λ p. context_made p name false kind) (scene_in a around)).events) (sym found) (h.says around);
        balances = h.balances;
      }

      pub make_done : (a.calls.count + 1 == a.calls.fail) ≡ false → create_refusal (left_in a.store a.space) name kind false (contexts_in a.store a.space) ≡ None
          → Acted (context_made n name false kind) a.store b.store a.space b.space a.shelf b.shelf a.commons b.commons P → Asks a.store.tree.account (first_size kind) a.space b.space → Performed most_calls made a b P None
      make_done goes served acted asks =
          checked None (performed_step (element.MakeContext new) (new_context_refused new) (new_context_made new) (does_make_context new) a b P counted raises_one goes
          (λ around. ap (option_map tree_error) served) (made_at acted) alone
          (λ around. subst (λ (o : Option ℕ). Asks a.store.tree.account (option_map_or (λ p. first_size kind) o 0) a.space b.space) (sym found) asks))

      module _ (same : Refused a.store b.store a.space b.space a.shelf b.shelf a.commons b.commons) (silent : P []) where
        pub make_injected : (a.calls.count + 1 == a.calls.fail) ≡ true → Asks a.store.tree.account 0 a.space b.space → Performed most_calls made a b P (Some (error.Injected (a.calls.count + 1)))
        make_injected failing asks = grind (arith, nat_tests, checked (Some (error.Injected (a.calls.count + 1))) (performed_injected (element.MakeContext new) (new_context_refused new) (new_context_made new) (does_make_context new) a b P counted same alone.keeps alone.moves failing silent asks), performed_injected (element.MakeContext new) (new_context_refused new) (new_context_made new) (does_make_context new) a b P counted same alone.keeps alone.moves failing silent asks, new, does_make_context new)

        pub make_refused : (e : TreeError) (t : Error) → (a.calls.count + 1 == a.calls.fail) ≡ false → (e ≡ tree.Memory) ⊎ (create_refusal (left_in a.store a.space) name kind false (contexts_in a.store a.space) ≡ Some e)
            → (e ≡ tree.Memory → t ≡ error.NoMemory b.calls.count) → (e ≢ tree.Memory → t ≡ tree_error e) → AsksInVain e a.store.tree.account (first_size kind) a.space b.space → Performed most_calls made a b P (Some t)
        make_refused e t goes cause memory other vain =
            checked (Some t)
            (step_tree (element.MakeContext new) (new_context_refused new) (new_context_made new) (does_make_context new) a b P counted same alone.keeps alone.moves silent goes
            (create_refusal (left_in a.store a.space) name kind false (contexts_in a.store a.space)) (λ around. refl) (first_size kind) e t cause memory other vain)
