-- The elements of commands, by the state of the transaction.
use Rattle.session_core.proofs.Base.{nat_tests, ◌≡◌, ◌∙◌, ◌⊎◌, ℕ, ◌+◌, ◌<◌, ◌≤◌, Bool, true, false, List, [], ◌∷◌, ◌++◌, length, Option, Some, None, refl, sym, ap, subst, arith, if◌then◌else◌}
use Rattle.session_core.proofs.Words.{Command, TransactionCommand, Error, What, Level, LevelState, SessionState, is_aborted, Moment, say, Element, Text, Check, committed_to, elements_of, ends_aborted, in_transaction, is_end, refused, rolled_back_to, start, then_ok, transaction_of, unaborted, unfailing, does, AreOuter, IsWorking, is_want, balances_none, levels_of, session_of, Acted, Keeps, levels_long, Now, Performed, most_steps, most_work, stops, fails, grows_nothing, moves_nothing, performed_both, performed_end, performed_more, performed_stop, IsAbortedBlock, IsInBlock}

-- what was performed, by another name of its elements
pub as_elements : (k : ℕ) (es ds : List Element) (a b : Now) (P : List What → Type 0) (r : Option Error) → es ≡ ds → Performed k ds a b P r → Performed k es a b P r
as_elements k es ds a b P r is h = subst (λ (xs : List Element). Performed k xs a b P r) (sym is) h

-- the elements of a command in an aborted transaction, and in one that isn't aborted
module _ (c : Command) (session : SessionState) where
  as_unaborted : is_aborted session.levels ≡ false → elements_of c session ≡ unaborted c session
  unfolding elements_of
  as_unaborted active = grind arith

  by_end : is_aborted session.levels ≡ true → (ends : Bool) → is_end c ≡ ends → elements_of c session ≡ elim ends as (λ _. List Element) [ true ↦ unaborted c session | false ↦ refused Error.TransactionAborted ]
  unfolding elements_of
  by_end shut ends is = grind arith

-- the deepest level of a block isn't aborted
pub outer_active : (levels : List LevelState) → AreOuter levels → is_aborted levels ≡ false
outer_active x0 h = grind arith

-- What a command performs in a state of the transaction, by what the command is.
module _ (k : ℕ) (c d : Command) (a b : Now) (P : List What → Type 0) (r : Option Error) (is : c ≡ d) where
  where_active : is_aborted (session_of a.store a.space).levels ≡ false → Performed k (unaborted d (session_of a.store a.space)) a b P r → Performed k (elements_of c (session_of a.store a.space)) a b P r
  where_active active h = grind (arith, as_elements k, as_unaborted c (session_of a.store a.space) active)

  -- no transaction is open
  pub in_idle : a.store.levels ≡ [] → Performed k (unaborted d (record (session_of a.store a.space) { levels = [] })) a b P r → Performed k (elements_of c (session_of a.store a.space)) a b P r
  unfolding session_of
  in_idle none h = grind (arith, as_elements k, where_active)

  -- one is open
  pub in_block : IsInBlock a.store.levels → Performed k (unaborted d (session_of a.store a.space)) a b P r → Performed k (elements_of c (session_of a.store a.space)) a b P r
  unfolding session_of
  in_block block = where_active (outer_active (levels_of a.store.levels) block.outer)

  -- one is aborted, and this is done in it too, or isn't
  pub in_aborted : IsAbortedBlock a.store.levels → is_end d ≡ true → Performed k (unaborted d (session_of a.store a.space)) a b P r → Performed k (elements_of c (session_of a.store a.space)) a b P r
  unfolding session_of
  in_aborted block ends h = grind (arith, as_elements k, by_end d (session_of a.store a.space) block.aborted true ends)

  pub not_in_aborted : IsAbortedBlock a.store.levels → is_end d ≡ false → Performed k (refused Error.TransactionAborted) a b P r → Performed k (elements_of c (session_of a.store a.space)) a b P r
  unfolding session_of
  not_in_aborted block rest h = grind (arith, as_elements k, by_end d (session_of a.store a.space) block.aborted false rest)

-- what a command on transactions performs, by its elements
pub transacts : (j k : ℕ) (c : TransactionCommand) (levels : List LevelState) (es : List Element) (a b : Now) (P : List What → Type 0) (r : Option Error) → j ≤ k → transaction_of c levels ≡ es
    → Performed j (then_ok es) a b P r → Performed k (then_ok (transaction_of c levels)) a b P r
transacts j k c levels es a b P r le is h = performed_more j k _ a b P r le (as_elements j _ _ a b P r (ap then_ok is) h)

-- where no transaction is open
abbrev EndsIdle : TransactionCommand → Type 0
EndsIdle c = (c ≡ TransactionCommand.Commit) ⊎ (c ≡ TransactionCommand.Rollback)

pub ended_idle : (c : TransactionCommand) → EndsIdle c → transaction_of c [] ≡ Element.Says What.NotInTransaction ∷ []
ended_idle c x1 = grind arith

pub savepoints_idle : (c : TransactionCommand) → ((name : Text) × (c ≡ TransactionCommand.Savepoint name)) ⊎ (((name : Text) × (c ≡ TransactionCommand.Release name)) ⊎ ((name : Text) × (c ≡ TransactionCommand.RollbackTo name)))
    → transaction_of c [] ≡ refused Error.NoTransactionBlock
savepoints_idle c x1 = grind arith

-- where there is a level: what is the same for each that is aborted or isn't is the same here
by_level : (levels : List Level) (aborted : Bool) (E F : List LevelState → List Element) → 0 < length levels → is_aborted (levels_of levels) ≡ aborted
    → ((level : LevelState) (outer : List LevelState) → level.aborted ≡ aborted → E (level ∷ outer) ≡ F (level ∷ outer)) → E (levels_of levels) ≡ F (levels_of levels)
by_level levels aborted E F some is each = grind (arith, levels_long levels)

module _ (levels : List Level) (block : IsInBlock levels) (c : TransactionCommand) where
  pub begun_inside : c ≡ TransactionCommand.Begin → transaction_of c (levels_of levels) ≡ Element.Says What.AlreadyInTransaction ∷ []
  begun_inside is =
      ap (λ (x : TransactionCommand). transaction_of x (levels_of levels)) is
      ∙ by_level levels false (transaction_of TransactionCommand.Begin) (λ _. Element.Says What.AlreadyInTransaction ∷ []) block.some (outer_active (levels_of levels) block.outer) (λ level outer active. refl)

  pub committed_inside : c ≡ TransactionCommand.Commit → transaction_of c (levels_of levels) ≡ committed_to 2 (levels_of levels) ++ (Element.CommitTop ∷ [])
  committed_inside is =
      ap (λ (x : TransactionCommand). transaction_of x (levels_of levels)) is
      ∙ by_level levels false (transaction_of TransactionCommand.Commit) (λ ls. committed_to 2 ls ++ (Element.CommitTop ∷ [])) block.some (outer_active (levels_of levels) block.outer)
      (λ level outer active. ap (λ (b : Bool). if b then rolled_back_to 1 (level ∷ outer) else committed_to 2 (level ∷ outer) ++ (Element.CommitTop ∷ [])) active)

  pub rolled_back_inside : c ≡ TransactionCommand.Rollback → transaction_of c (levels_of levels) ≡ rolled_back_to 1 (levels_of levels)
  rolled_back_inside is =
      ap (λ (x : TransactionCommand). transaction_of x (levels_of levels)) is
      ∙ by_level levels false (transaction_of TransactionCommand.Rollback) (rolled_back_to 1) block.some (outer_active (levels_of levels) block.outer) (λ level outer active. refl)

  pub saved_inside : (name : Text) → c ≡ TransactionCommand.Savepoint name → transaction_of c (levels_of levels) ≡ start (Some name) false
  saved_inside name is =
      ap (λ (x : TransactionCommand). transaction_of x (levels_of levels)) is
      ∙ by_level levels false (transaction_of (TransactionCommand.Savepoint name)) (λ _. start (Some name) false) block.some (outer_active (levels_of levels) block.outer) (λ level outer active. refl)

-- an aborted transaction ends
pub ended_aborted : (levels : List Level) → IsAbortedBlock levels → (c : TransactionCommand) → EndsIdle c → transaction_of c (levels_of levels) ≡ rolled_back_to 1 (levels_of levels)
ended_aborted levels block c x3 = grind (arith, by_level levels true)

pub is_an_end : (c : TransactionCommand) → EndsIdle c → ends_aborted c ≡ true
is_an_end c x1 = grind arith

pub is_no_end : (c : TransactionCommand) → (c ≡ TransactionCommand.Begin) ⊎ (((name : Text) × (c ≡ TransactionCommand.Savepoint name)) ⊎ ((name : Text) × (c ≡ TransactionCommand.Release name))) → ends_aborted c ≡ false
is_no_end c x1 = grind arith

-- something is said
does_say : (event : What) (w : Option ℕ) (m : Moment) → does w (Element.Says event) m ≡ unfailing m (say event)
unfolding does
does_say event w m = refl

says : (event : What) (a : Now) (P : List What → Type 0) → P (event ∷ []) → Acted (say event) a.store a.store a.space a.space a.shelf a.shelf a.commons a.commons P
says event a P h = record { leads = λ around. refl; says = λ around. h; balances = balances_none a.store.owners a.commons }

pub performed_say : (event : What) (a : Now) (P : List What → Type 0) → Keeps a.store a.space → P (event ∷ []) → Performed 0 (Element.Says event ∷ []) a a P None
performed_say event a P keeps h = grind (arith, performed_end 0 (Element.Says event) (say event) a a P (does_say event) (says event a P h) keeps (moves_nothing a.store.tree a.space keeps.agrees) (grows_nothing 0 a) refl, does_say event, says event a P h, moves_nothing a.store.tree a.space keeps.agrees, grows_nothing 0 a)

-- a warning, and the last word
pub performed_warned : (warning : What) (a : Now) (P : List What → Type 0) → Keeps a.store a.space → P (warning ∷ What.Ok ∷ []) → Performed 0 (Element.Says warning ∷ Element.Says What.Ok ∷ []) a a P None
performed_warned warning a P keeps h =
    performed_both 0 0 (Element.Says warning ∷ []) (Element.Says What.Ok ∷ []) a a a (λ events. events ≡ warning ∷ []) (λ events. events ≡ What.Ok ∷ []) P None
    (performed_say warning a (λ events. events ≡ warning ∷ []) keeps refl) (performed_say What.Ok a (λ events. events ≡ What.Ok ∷ []) keeps refl)
    (λ us vs e f. subst P (sym (ap (λ (xs : List What). xs ++ vs) e ∙ ap (λ (ys : List What). warning ∷ ys) f)) h)

-- elements that were done, and the last word
pub performed_ok : (k : ℕ) (es : List Element) (a b : Now) (P Q R : List What → Type 0) → Performed k es a b P None → Q (What.Ok ∷ []) → ((us vs : List What) → P us → Q vs → R (us ++ vs)) → Performed (k + 0) (es ++ (Element.Says What.Ok ∷ [])) a b R None
performed_ok k es a b P Q R h said joins = performed_both k 0 es (Element.Says What.Ok ∷ []) a b b P Q R None h (performed_say What.Ok b Q h.keeps said) joins

-- the refusal of a command, and what comes behind it
pub performed_refused : (k : ℕ) (e : Error) (rest : List Element) (a : Now) (P : List What → Type 0) → Keeps a.store a.space → P [] → is_want e ≡ false → Performed k (Element.Checks (Check.Refuse e) ∷ rest) a a P (Some e)
performed_refused k e rest a P keeps silent plain = fails k (Check.Refuse e) rest a P e keeps silent plain (λ around. refl)

-- the start of a level and the work in it, within what a line may raise a counter by
pub level_and_work : 3 + most_work ≤ most_steps
level_and_work = omega arith

-- Something is done within a transaction.
module _ (work : List Element) where
  -- in a block
  blocked : (levels : List Level) → IsInBlock levels → in_transaction (levels_of levels) work ≡ work ++ (Element.Says What.Ok ∷ [])
  blocked levels block =
      by_level levels false (λ ls. in_transaction ls work) (λ _. work ++ (Element.Says What.Ok ∷ [])) block.some (outer_active (levels_of levels) block.outer) (λ level outer active. refl)

  pub work_then_ok : (a b : Now) (P Q R : List What → Type 0) → IsInBlock a.store.levels → Performed most_work work a b P None → Q (What.Ok ∷ []) → ((us vs : List What) → P us → Q vs → R (us ++ vs))
      → Performed most_steps (in_transaction (levels_of a.store.levels) work) a b R None
  work_then_ok a b P Q R block h said joins = grind (arith, nat_tests, as_elements most_steps _ _ a b R None (blocked a.store.levels block) (performed_more (most_work + 0) most_steps _ a b R None (omega arith) (performed_ok most_work work a b P Q R h said joins)), blocked a.store.levels block, a.store.levels, performed_more (most_work + 0) most_steps _ a b R None (omega arith) (performed_ok most_work work a b P Q R h said joins), performed_ok most_work work a b P Q R h said joins)

  pub work_stopped : (a b : Now) (P : List What → Type 0) (e : Error) → IsInBlock a.store.levels → Performed most_work work a b P (Some e) → Performed most_steps (in_transaction (levels_of a.store.levels) work) a b P (Some e)
  work_stopped a b P e block h = as_elements most_steps _ _ a b P (Some e) (blocked a.store.levels block) (stops most_work most_steps work (Element.Says What.Ok ∷ []) a b P e (omega arith) h)

  -- or in a level of its own
  module _ (a m : Now) where
    pub alone_done : (n b : Now) (P Q R S T : List What → Type 0) → Performed 3 (start None true) a m P None → Performed most_work work m n Q None
        → Performed 0 (Element.CommitTop ∷ Element.Says What.Ok ∷ []) n b R None → ((us vs : List What) → Q us → R vs → S (us ++ vs)) → ((us vs : List What) → P us → S vs → T (us ++ vs))
        → Performed most_steps (in_transaction [] work) a b T None
    alone_done n b P Q R S T begun worked ended joins all = grind (arith, nat_tests, performed_more (3 + most_work) most_steps _ a b T None level_and_work (performed_both 3 most_work (start None true) _ a m b P S T None begun (performed_both most_work 0 work (Element.CommitTop ∷ Element.Says What.Ok ∷ []) m n b Q R S None worked ended joins) all), level_and_work, performed_both 3 most_work (start None true) _ a m b P S T None begun (performed_both most_work 0 work (Element.CommitTop ∷ Element.Says What.Ok ∷ []) m n b Q R S None worked ended joins) all, start None true, performed_both most_work 0 work (Element.CommitTop ∷ Element.Says What.Ok ∷ []) m n b Q R S None worked ended joins)

    pub alone_refused : (b : Now) (P Q T : List What → Type 0) (e : Error) → Performed 3 (start None true) a m P None → Performed most_work work m b Q (Some e)
        → ((us vs : List What) → P us → Q vs → T (us ++ vs)) → Performed most_steps (in_transaction [] work) a b T (Some e)
    alone_refused b P Q T e begun worked all = grind (arith, nat_tests, performed_more (3 + most_work) most_steps _ a b T (Some e) level_and_work (performed_both 3 most_work (start None true) _ a m b P Q T (Some e) begun (performed_stop most_work work (Element.CommitTop ∷ Element.Says What.Ok ∷ []) m b Q e worked) all), level_and_work, performed_both 3 most_work (start None true) _ a m b P Q T (Some e) begun (performed_stop most_work work (Element.CommitTop ∷ Element.Says What.Ok ∷ []) m b Q e worked) all, start None true, performed_stop most_work work (Element.CommitTop ∷ Element.Says What.Ok ∷ []) m b Q e worked)

    pub alone_unstarted : (P : List What → Type 0) (e : Error) → Performed 3 (start None true) a m P (Some e) → Performed most_steps (in_transaction [] work) a m P (Some e)
    alone_unstarted P e begun = stops 3 most_steps (start None true) _ a m P e (omega arith) begun

-- the levels of a block
pub working_block : (levels : List Level) → IsInBlock levels → IsWorking (levels_of levels)
working_block levels block = grind (arith, levels_long levels)
