-- Steps of a session that are one fallible call.
use Rattle.session_commands.proofs.Base.{◌≡◌, ◌≢◌, ◌⊎◌, ℕ, ◌+◌, ◌<◌, ◌≤◌, ◌==◌, true, false, List, [], ◌∷◌, Option, Some, None, refl, sym, ◌∙◌, ap, subst, inl, inr, arith, nat_le, option_map, nat_tests}
use Rattle.session_commands.proofs.Words.{Error, Injected, LimitReached, NoMemory, What, Asks, Space, ShelfState, TreeError, AsksInVain, TreeState, Agrees, Moves, Around, Moment, Scene, Ended, Element, fallible, tree_error, does, asks_in, is_want, limit, CommonState, StoreState, session_of, Acted, Keeps, Refused, Calls, Now, Grows, Performed, scene_in}
use Rattle.context_rules.specs.declared.errors.TreeError.TheVariants as tree
use Rattle.session_commands.proofs.Performing.{moves_nothing, performed_injected, performed_made, performed_own, performed_want}
use Rattle.session_commands.proofs.Commands.{tree_error_plain}
use Rattle.session_commands.proofs.Standing.{empty_around}
use Rattle.session_commands.proofs.Takings.{none_in_vain, some_in_vain}

-- how far an act raised what a session counts; there are as many descriptors
pub record Rises (k : ℕ) (s t : Scene) : Type 0 where
  pub contexts : t.session.next_context ≤ s.session.next_context + k
  pub owners : t.session.next_owner ≤ s.session.next_owner + k
  pub serials : t.session.next_serial ≤ s.session.next_serial + k
  pub descriptors : t.around.descriptors ≡ s.around.descriptors

pub grown : (k : ℕ) (act : Scene → Ended) (a b : Now) (P : List What → Type 0) → ((s : Scene) → Rises k s (act s).scene) → Acted act a.store b.store a.space b.space a.shelf b.shelf a.commons b.commons P
    → b.calls.count ≤ a.calls.count + k → Grows k a b
unfolding session_of
grown k act a b P rises acted calls =
    let up : Rises k (scene_in a empty_around) (scene_in b empty_around) =
    subst (λ (z : Scene). Rises k (scene_in a empty_around) z) (acted.leads empty_around) (rises (scene_in a empty_around)) in
    record { contexts = up.contexts; owners = up.owners; serials = up.serials; calls = calls; descriptors = up.descriptors }

pub moves_same : (a b : TreeState) (s t : Space) → b ≡ a → t ≡ s → Agrees a s → Moves a b s t
moves_same a b s t is same h = subst (λ (u : Space). Moves a b s u) (sym same) (subst (λ (c : TreeState). Moves a c s s) (sym is) (moves_nothing a s h))

-- a limit that isn't reached, and one that is
pub limit_free : (most n : ℕ) → n < most → limit most n ≡ None
limit_free most n less = let e : nat_le most n ≡ false = grind (arith, nat_tests) in rw e refl

pub limit_reached : (most n : ℕ) → most ≤ n → limit most n ≡ Some LimitReached
limit_reached most n more = let e : nat_le most n ≡ true = grind (arith, nat_tests) in rw e refl

-- what is refused for want of memory, and what isn't
pub memory_or_not : (e : TreeError) → (e ≡ tree.Memory) ⊎ (e ≢ tree.Memory)
memory_or_not x0 = grind (arith, nat_tests)

-- the count behind a call
pub count_behind : (a b : Now) → b.calls ≡ record a.calls { count = a.calls.count + 1 } → b.calls.count ≡ a.calls.count + 1
count_behind a b counted = ap (λ (c : Calls). c.count) counted

-- a fallible call that was refused
module _ (x : Element) (own : Scene → Option Error) (act : Scene → Ended) (is : (w : Option ℕ) (m : Moment) → does w x m ≡ fallible w m (own m.scene) act) (a b : Now) (P : List What → Type 0)
    (counted : b.calls ≡ record a.calls { count = a.calls.count + 1 }) (same : Refused a.store b.store a.space b.space a.shelf b.shelf a.commons b.commons) (keeps : Keeps b.store b.space)
    (moves : Moves a.store.tree b.store.tree a.space b.space) (silent : P []) where
  pub step_injected : (e : Error) → (e ≡ Injected (a.calls.count + 1)) × ((a.calls.count + 1 == a.calls.fail) ≡ true) → Asks a.store.tree.account 0 a.space b.space → Performed 1 (x ∷ []) a b P (Some e)
  step_injected e told asks = grind (arith, nat_tests, told.0, performed_injected x own act is a b P counted same keeps moves told.1 silent asks, told.1)

  pub step_wants : (a.calls.count + 1 == a.calls.fail) ≡ false → (n : ℕ) × Asks a.store.tree.account n a.space b.space → Performed 1 (x ∷ []) a b P (Some (NoMemory b.calls.count))
  step_wants goes some = grind (arith, nat_tests, performed_want x own act is a b P counted same keeps moves goes silent some)

  -- a call on contexts, by why it was refused
  pub step_tree : (a.calls.count + 1 == a.calls.fail) ≡ false → (o : Option TreeError) → ((around : Around) → own (scene_in a around) ≡ option_map tree_error o) → (n : ℕ) (e : TreeError) (t : Error) → (e ≡ tree.Memory) ⊎ (o ≡ Some e)
      → (e ≡ tree.Memory → t ≡ NoMemory b.calls.count) → (e ≢ tree.Memory → t ≡ tree_error e) → AsksInVain e a.store.tree.account n a.space b.space → Performed 1 (x ∷ []) a b P (Some t)
  step_tree goes o meets n e t cause memory other vain =
      elim (memory_or_not e) [
        | inl m ↦ subst (λ (z : Error). Performed 1 (x ∷ []) a b P (Some z)) (sym (memory m)) (step_wants goes (some_in_vain e a.store.tree.account n a.space b.space vain))
        | inr ne ↦
            subst (λ (z : Error). Performed 1 (x ∷ []) a b P (Some z)) (sym (other ne))
            (performed_own x own act is a b P counted same keeps moves (tree_error e) goes (tree_error_plain e) silent
            (λ around. meets around ∙ ap (option_map tree_error) (own_cause ne cause)) (none_in_vain e a.store.tree.account n a.space b.space ne vain))
      ]
    where
      own_cause : e ≢ tree.Memory → (e ≡ tree.Memory) ⊎ (o ≡ Some e) → o ≡ Some e
      own_cause ne (inl m) = absurd (ne m)
      own_cause ne (inr c) = c

-- what a run lends besides the space
abbrev pub lent : Now → ShelfState × CommonState
lent n = (n.shelf, n.commons)

-- the store, the space and what else is lent are as they were
module _ (a b : Now) (store : b.store ≡ a.store) (space : b.space ≡ a.space) (shelf : lent b ≡ lent a) where
  pub still_refused : Refused a.store b.store a.space b.space a.shelf b.shelf a.commons b.commons
  still_refused = grind (arith, nat_tests)

  pub still_asks : Asks a.store.tree.account 0 a.space b.space
  still_asks = ap (λ (s : Space). s.taken) space

  pub still_some : (n : ℕ) × Asks a.store.tree.account n a.space b.space
  still_some = (0, ap (λ (s : Space). s.taken) space)

  pub still_keeps : Keeps a.store a.space → Keeps b.store b.space
  still_keeps h = subst (λ (s : Space). Keeps b.store s) (sym space) (subst (λ (c : StoreState). Keeps c a.space) (sym store) h)

  pub still_moves : Keeps a.store a.space → Moves a.store.tree b.store.tree a.space b.space
  still_moves h = moves_same a.store.tree b.store.tree a.space b.space (ap (λ (c : StoreState). c.tree) store) space h.agrees

-- the call that is to fail, whatever it is of
pub still_injected : (x : Element) (own : Scene → Option Error) (act : Scene → Ended) → ((w : Option ℕ) (m : Moment) → does w x m ≡ fallible w m (own m.scene) act) → (a b : Now) (P : List What → Type 0)
    → b.calls ≡ record a.calls { count = a.calls.count + 1 } → b.space ≡ a.space → Keeps a.store a.space → lent b ≡ lent a → P [] → b.store ≡ a.store
    → (e : Error) → (e ≡ Injected (a.calls.count + 1)) × ((a.calls.count + 1 == a.calls.fail) ≡ true) → Performed 1 (x ∷ []) a b P (Some e)
still_injected x own act is a b P counted space keeps shelf silent store e told = grind (arith, nat_tests, step_injected x own act is a b P counted (still_refused a b store space shelf) (still_keeps a b store space shelf keeps) (still_moves a b store space shelf keeps) silent e told (still_asks a b store space shelf), still_refused a b store space shelf, still_keeps a b store space shelf keeps, still_moves a b store space shelf keeps, still_asks a b store space shelf)

-- A step that is one fallible call and takes no memory for contexts: what refuses it besides a want of memory, what it does, and that it
-- raises no number by more than one.
pub record Call : Type 0 where
  pub step : Element
  pub own : Scene → Option Error
  pub act : Scene → Ended
  pub is : (w : Option ℕ) (m : Moment) → does w step m ≡ fallible w m (own m.scene) act
  pub rises : (s : Scene) → Rises 1 s (act s).scene
  pub quiet : (s : Scene) → asks_in step s ≡ 0

module _ (call : Call) (a b : Now) (P : List What → Type 0) (counted : b.calls ≡ record a.calls { count = a.calls.count + 1 }) (space : b.space ≡ a.space) (keeps : Keeps a.store a.space) where
  -- it was refused: the store and what is lent are as they were
  module _ (shelf : lent b ≡ lent a) (silent : P []) (store : b.store ≡ a.store) where
    pub call_injected : (e : Error) → (e ≡ Injected (a.calls.count + 1)) × ((a.calls.count + 1 == a.calls.fail) ≡ true) → Performed 1 (call.step ∷ []) a b P (Some e)
    call_injected = still_injected call.step call.own call.act call.is a b P counted space keeps shelf silent store

    pub call_wants : (a.calls.count + 1 == a.calls.fail) ≡ false → Performed 1 (call.step ∷ []) a b P (Some (NoMemory b.calls.count))
    call_wants goes = grind (arith, nat_tests, step_wants call.step call.own call.act call.is a b P counted (still_refused a b store space shelf) (still_keeps a b store space shelf keeps) (still_moves a b store space shelf keeps) silent goes (still_some a b store space shelf), still_refused a b store space shelf, still_keeps a b store space shelf keeps, still_moves a b store space shelf keeps, still_some a b store space shelf)

    pub call_refused : (e : Error) → (a.calls.count + 1 == a.calls.fail) ≡ false → is_want e ≡ false → ((around : Around) → call.own (scene_in a around) ≡ Some e) → Performed 1 (call.step ∷ []) a b P (Some e)
    call_refused e goes plain cause = grind (arith, nat_tests, performed_own call.step call.own call.act call.is a b P counted (still_refused a b store space shelf) (still_keeps a b store space shelf keeps) (still_moves a b store space shelf keeps) e goes plain silent cause (still_asks a b store space shelf), still_refused a b store space shelf, still_keeps a b store space shelf keeps, still_moves a b store space shelf keeps, still_asks a b store space shelf)

  -- it was done
  pub call_done : (a.calls.count + 1 == a.calls.fail) ≡ false → ((around : Around) → call.own (scene_in a around) ≡ None) → b.store.tree ≡ a.store.tree → Keeps b.store b.space
      → Acted call.act a.store b.store a.space b.space a.shelf b.shelf a.commons b.commons P → Performed 1 (call.step ∷ []) a b P None
  call_done goes free tree after acted =
      performed_made call.step call.own call.act call.is a b P counted 1 goes free acted after (moves_same a.store.tree b.store.tree a.space b.space tree space keeps.agrees)
      (grown 1 call.act a b P call.rises acted (omega (arith, count_behind a b counted)))
      (λ around. subst (λ (n : ℕ). Asks a.store.tree.account n a.space b.space) (sym (call.quiet (scene_in a around))) (ap (λ (s : Space). s.taken) space))

-- nothing was said
pub said_nothing : {O : Type 0} (emits : O → List What → O → Type 0) (x y : O) → emits x [] x → y ≡ x → emits x [] y
said_nothing emits x y nothing same = subst (λ o. emits x [] o) (sym same) nothing
