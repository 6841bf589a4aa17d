-- How what methods perform makes up what a command performs.
use Rattle.session_commands.proofs.Base.{nat_tests, ◌≡◌, ℕ, ◌+◌, ◌≤◌, ◌==◌, true, false, List, [], ◌∷◌, ◌++◌, Option, Some, None, refl, sym, ◌∙◌, ap, subst, arith}
use Rattle.session_commands.proofs.Words.{Error, Injected, NoMemory, What, Asks, Space, ShelfState, TreeState, Agrees, Moves, SessionState, Around, Moment, Scene, Ended, Check, Element, failure, fallible, unfailing, does, asks_in, is_want, ResourceState, Balances, CommonState, seen_by, balances_more, balances_none, StoreState, scene_of, session_of, Acted, ContextsAlone, Keeps, Refused, Calls, Answers, Now, Grows, Performed, Takes, scene_in}
use Rattle.context_tree.proofs.Composed.{tree_more}
use Rattle.session_rules.specs.Elements as element
use Rattle.session_commands.proofs.Standing.{empty_around}
use Rattle.session_commands.proofs.Takings.{taken_both, taken_none, taken_one, taken_stop, takes_nothing}
use Rattle.session_commands.proofs.Answered.{answers_act, answers_both, answers_check, answers_fails, answers_injected, answers_none, answers_own, answers_step, answers_stop, answers_want}

-- the same scene behind
pub answers_as : (es : List Element) (S T U : Around → Scene) (a b fail : ℕ) (P : List What → Type 0) (r : Option Error) → ((around : Around) → T around ≡ U around)
    → Answers es S T a b fail P r → Answers es S U a b fail P r
answers_as es S T U a b fail P r same x = grind (arith, nat_tests, x.moment, x.says, x.answer, x.calls, x.counted)

-- nothing moved
pub moves_nothing : (a : TreeState) (s : Space) → Agrees a s → Moves a a s s
moves_nothing a s h = record { agrees = h; account = refl; outside = λ n r. (λ z. z, λ z. z); accounts = refl; limit = refl; own = refl; others = λ n ne. refl }

pub grows_nothing : (k : ℕ) (a : Now) → Grows k a a
grows_nothing k a = record { contexts = omega arith; owners = omega arith; serials = omega arith; calls = omega arith; descriptors = refl }

-- no element
pub performed_none : (a : Now) (P : List What → Type 0) → Keeps a.store a.space → P [] → Performed 0 [] a a P None
performed_none a P keeps h = record {
  answers = answers_none a.calls.fail (scene_in a) a.calls.count P h;
  fail = refl;
  keeps = keeps;
  moves = moves_nothing a.store.tree a.space keeps.agrees;
  taken = taken_none a;
  balances = balances_none a.store.owners a.commons;
  grows = grows_nothing 0 a;
}

-- elements that were all done, and others behind them
pub performed_both : (j k : ℕ) (xs ys : List Element) (a b c : Now) (P Q R : List What → Type 0) (r : Option Error)
    → Performed j xs a b P None → Performed k ys b c Q r → ((us vs : List What) → P us → Q vs → R (us ++ vs)) → Performed (j + k) (xs ++ ys) a c R r
performed_both j k xs ys a b c P Q R r x y joins = record {
  answers = answers_both a.calls.fail xs ys (scene_in a) (scene_in b) (scene_in c) a.calls.count b.calls.count c.calls.count P Q R r x.answers
      (subst (λ (n : ℕ). Answers ys (scene_in b) (scene_in c) b.calls.count c.calls.count n Q r) x.fail y.answers) joins;
  fail = y.fail ∙ x.fail;
  keeps = y.keeps;
  moves = tree_more a.store.tree b.store.tree c.store.tree a.space b.space c.space x.moves y.moves;
  taken = taken_both xs ys a b c P Q r x.answers y.answers x.fail x.moves.account x.taken y.taken;
  balances = balances_more _ _ _ _ _ _ x.balances y.balances;
  grows = grind (arith, nat_tests, x.grows.contexts, y.grows.contexts, x.grows.owners, y.grows.owners, x.grows.serials, y.grows.serials, x.grows.calls, y.grows.calls, y.grows.descriptors, x.grows.descriptors);
}

-- elements of which one was refused
pub performed_stop : (k : ℕ) (xs ys : List Element) (a b : Now) (P : List What → Type 0) (e : Error) → Performed k xs a b P (Some e) → Performed k (xs ++ ys) a b P (Some e)
performed_stop k xs ys a b P e x = record {
  answers = answers_stop a.calls.fail xs ys (scene_in a) (scene_in b) a.calls.count b.calls.count P e x.answers;
  fail = x.fail;
  keeps = x.keeps;
  moves = x.moves;
  taken = taken_stop xs ys a b P e x.answers x.taken;
  balances = x.balances;
  grows = x.grows;
}

-- a higher bound
pub performed_more : (j k : ℕ) (xs : List Element) (a b : Now) (P : List What → Type 0) (r : Option Error) → j ≤ k → Performed j xs a b P r → Performed k xs a b P r
performed_more j k xs a b P r le x = grind (arith, nat_tests, x.answers, x.fail, x.keeps, x.moves, x.taken, x.balances, x.grows.contexts, x.grows.owners, x.grows.serials, x.grows.calls, x.grows.descriptors)

-- what was performed, and said otherwise
pub performed_said : (k : ℕ) (es : List Element) (a b : Now) (P Q : List What → Type 0) (r : Option Error) → ((events : List What) → P events → Q events) → Performed k es a b P r → Performed k es a b Q r
performed_said k es a b P Q r all h = record {
  answers = record {
    moment = h.answers.moment;
    says = λ around w f. all _ (h.answers.says around w f);
    answer = h.answers.answer;
    calls = h.answers.calls;
    counted = h.answers.counted;
  };
  fail = h.fail;
  keeps = h.keeps;
  moves = h.moves;
  taken = h.taken;
  balances = h.balances;
  grows = h.grows;
}

-- a check
pub performed_check : (check : Check) (a : Now) (P : List What → Type 0) → Keeps a.store a.space → P [] → ((around : Around) → failure check (scene_in a around) ≡ None)
    → Performed 0 (element.Checks check ∷ []) a a P None
performed_check check a P keeps h passes = record {
  answers = answers_check a.calls.fail check (scene_in a) a.calls.count P h passes;
  fail = refl;
  keeps = keeps;
  moves = moves_nothing a.store.tree a.space keeps.agrees;
  taken = taken_one (element.Checks check) a a P None (answers_check a.calls.fail check (scene_in a) a.calls.count P h passes) (λ around. refl);
  balances = balances_none a.store.owners a.commons;
  grows = grows_nothing 0 a;
}

pub performed_fails : (check : Check) (a : Now) (P : List What → Type 0) (e : Error) → Keeps a.store a.space → P [] → is_want e ≡ false → ((around : Around) → failure check (scene_in a around) ≡ Some e)
    → Performed 0 (element.Checks check ∷ []) a a P (Some e)
performed_fails check a P e keeps h own fails = record {
  answers = answers_fails a.calls.fail check (scene_in a) a.calls.count P e h own fails;
  fail = refl;
  keeps = keeps;
  moves = moves_nothing a.store.tree a.space keeps.agrees;
  taken = taken_one (element.Checks check) a a P (Some e) (answers_fails a.calls.fail check (scene_in a) a.calls.count P e h own fails)
      (λ around. takes_nothing (is_want e) a.store.tree.account a.space a.space refl);
  balances = balances_none a.store.owners a.commons;
  grows = grows_nothing 0 a;
}

-- an act that the session's scene takes part in
abbrev pub Raises : ℕ → (Scene → Ended) → Type 0
Raises k act = (scene : Scene) → (act scene).scene.session.next_context ≤ scene.session.next_context + k

-- how far an act raised the number of the next context
raised : (k : ℕ) (act : Scene → Ended) (a b : StoreState) (s t : Space) (x y : ShelfState) (c d : CommonState) (P : List What → Type 0) → Raises k act → Acted act a b s t x y c d P → Around → b.tree.next ≤ a.tree.next + k
unfolding session_of
raised k act a b s t x y c d P rises h around =
    let up : (act (scene_of a s x c around)).scene.session.next_context ≤ a.tree.next + k = rises (scene_of a s x c around) in
    subst (λ (z : Scene). z.session.next_context ≤ a.tree.next + k) (h.leads around) up

-- what can't fail
pub performed_end : (k : ℕ) (x : Element) (act : Scene → Ended) (a b : Now) (P : List What → Type 0) → ((w : Option ℕ) (m : Moment) → does w x m ≡ unfailing m act)
    → Acted act a.store b.store a.space b.space a.shelf b.shelf a.commons b.commons P → Keeps b.store b.space → Moves a.store.tree b.store.tree a.space b.space → Grows k a b → b.calls ≡ a.calls
    → ((around : Around) → Asks a.store.tree.account (asks_in x (scene_in a around)) a.space b.space) → Performed k (x ∷ []) a b P None
performed_end k x act a b P is acted keeps moves grows calls asks =
    let answers : Answers (x ∷ []) (scene_in a) (scene_in b) a.calls.count b.calls.count a.calls.fail P None =
    subst (λ (n : ℕ). Answers (x ∷ []) (scene_in a) (scene_in b) a.calls.count n a.calls.fail P None) (ap (λ (c : Calls). c.count) (sym calls))
    (answers_act a.calls.fail x act (scene_in a) (scene_in b) a.calls.count P is acted.leads acted.says) in
    record {
      answers = answers;
      fail = ap (λ (c : Calls). c.fail) calls;
      keeps = keeps;
      moves = moves;
      taken = taken_one x a b P None answers asks;
      balances = acted.balances;
      grows = grows;
    }

-- the same, on contexts alone
pub performed_act : (k : ℕ) (x : Element) (act : Scene → Ended) (a b : Now) (P : List What → Type 0) → ((w : Option ℕ) (m : Moment) → does w x m ≡ unfailing m act) → Raises 0 act
    → Acted act a.store b.store a.space b.space a.shelf b.shelf a.commons b.commons P → ContextsAlone a.store b.store a.space b.space a.commons b.commons → b.calls ≡ a.calls
    → ((around : Around) → Asks a.store.tree.account (asks_in x (scene_in a around)) a.space b.space) → Performed k (x ∷ []) a b P None
performed_act k x act a b P is rises acted alone calls asks =
    performed_end k x act a b P is acted alone.keeps alone.moves (record {
      contexts = omega (arith, raised 0 act a.store b.store a.space b.space a.shelf b.shelf a.commons b.commons P rises acted empty_around);
      owners = rw alone.owners (omega arith);
      serials = rw alone.owners (omega arith);
      calls = rw calls (omega arith);
      descriptors = ap (λ (r : ResourceState). r.descriptors) alone.owners;
    }) calls asks

-- the scene where a call was refused
abbrev pub scene_with : SessionState → ResourceState → CommonState → ShelfState → ℕ → Around → Scene
scene_with session owners commons x limit around = record { session = session; around = record (seen_by owners commons around) { shelf = x; space = limit; descriptors = owners.descriptors } }

pub same_scene_in : (a b : Now) → Refused a.store b.store a.space b.space a.shelf b.shelf a.commons b.commons → (around : Around) → scene_in a around ≡ scene_in b around
same_scene_in a b same around =
    ap (λ (z : SessionState). scene_with z a.store.owners a.commons a.shelf a.space.limit around) (sym same.session)
    ∙ ap (λ (y : ShelfState). scene_with (session_of b.store b.space) a.store.owners a.commons y a.space.limit around) (sym same.shelf)
    ∙ ap (λ (c : CommonState). scene_with (session_of b.store b.space) a.store.owners c b.shelf a.space.limit around) (sym same.commons)
    ∙ ap (λ (n : ℕ). scene_with (session_of b.store b.space) a.store.owners b.commons b.shelf n around) (sym same.limit)
    ∙ ap (λ (c : StoreState). scene_with (session_of b.store b.space) c.owners b.commons b.shelf b.space.limit around) (sym same.store)

-- a fallible step
module _ (x : Element) (own : Scene → Option Error) (act : Scene → Ended) (is : (w : Option ℕ) (m : Moment) → does w x m ≡ fallible w m (own m.scene) act) (a b : Now) (P : List What → Type 0)
    (counted : b.calls ≡ record a.calls { count = a.calls.count + 1 }) where
  count_up : b.calls.count ≡ a.calls.count + 1
  count_up = ap (λ (c : Calls). c.count) counted

  -- that was done
  pub performed_made : (k : ℕ) → (a.calls.count + 1 == a.calls.fail) ≡ false → ((around : Around) → own (scene_in a around) ≡ None)
      → Acted act a.store b.store a.space b.space a.shelf b.shelf a.commons b.commons P → Keeps b.store b.space → Moves a.store.tree b.store.tree a.space b.space → Grows k a b
      → ((around : Around) → Asks a.store.tree.account (asks_in x (scene_in a around)) a.space b.space) → Performed k (x ∷ []) a b P None
  performed_made k goes free acted keeps moves grows asks =
      let answers : Answers (x ∷ []) (scene_in a) (scene_in b) a.calls.count b.calls.count a.calls.fail P None =
      subst (λ (n : ℕ). Answers (x ∷ []) (scene_in a) (scene_in b) a.calls.count n a.calls.fail P None) (sym count_up)
      (answers_step a.calls.fail x own act is (scene_in a) a.calls.count (scene_in b) P goes free acted.leads acted.says) in
      record {
        answers = answers;
        fail = ap (λ (c : Calls). c.fail) counted;
        keeps = keeps;
        moves = moves;
        taken = taken_one x a b P None answers asks;
        balances = acted.balances;
        grows = grows;
      }

  -- that was done, on contexts alone
  pub performed_step : Raises 1 act → (a.calls.count + 1 == a.calls.fail) ≡ false → ((around : Around) → own (scene_in a around) ≡ None)
      → Acted act a.store b.store a.space b.space a.shelf b.shelf a.commons b.commons P → ContextsAlone a.store b.store a.space b.space a.commons b.commons
      → ((around : Around) → Asks a.store.tree.account (asks_in x (scene_in a around)) a.space b.space) → Performed 1 (x ∷ []) a b P None
  performed_step rises goes free acted alone asks = performed_made 1 goes free acted alone.keeps alone.moves (record {
    contexts = raised 1 act a.store b.store a.space b.space a.shelf b.shelf a.commons b.commons P rises acted empty_around;
    owners = rw alone.owners (omega arith);
    serials = rw alone.owners (omega arith);
    calls = omega (arith, count_up);
    descriptors = ap (λ (r : ResourceState). r.descriptors) alone.owners;
  }) asks

  -- That was refused: the session is as it was.
  module _ (still : (around : Around) → scene_in a around ≡ scene_in b around) (balances : Balances a.store.owners b.store.owners a.commons b.commons) (grows : Grows 1 a b) (keeps : Keeps b.store b.space)
      (moves : Moves a.store.tree b.store.tree a.space b.space) where
    refused : (e : Error) → Answers (x ∷ []) (scene_in a) (scene_in a) a.calls.count (a.calls.count + 1) a.calls.fail P (Some e) → Takes (is_want e) a.store.tree.account 0 a.space b.space
        → Performed 1 (x ∷ []) a b P (Some e)
    refused e answers takes =
        let told : Answers (x ∷ []) (scene_in a) (scene_in b) a.calls.count b.calls.count a.calls.fail P (Some e) =
        answers_as (x ∷ []) (scene_in a) (scene_in a) (scene_in b) a.calls.count b.calls.count a.calls.fail P (Some e) still
        (subst (λ (n : ℕ). Answers (x ∷ []) (scene_in a) (scene_in a) a.calls.count n a.calls.fail P (Some e)) (sym count_up) answers) in
        record {
          answers = told;
          fail = ap (λ (c : Calls). c.fail) counted;
          keeps = keeps;
          moves = moves;
          taken = taken_one x a b P (Some e) told (λ around. takes);
          balances = balances;
          grows = grows;
        }

    pub refused_own : (e : Error) → (a.calls.count + 1 == a.calls.fail) ≡ false → is_want e ≡ false → P [] → ((around : Around) → own (scene_in a around) ≡ Some e)
        → Asks a.store.tree.account 0 a.space b.space → Performed 1 (x ∷ []) a b P (Some e)
    refused_own e goes plain h cause asks = grind (arith, nat_tests, refused e (answers_own a.calls.fail x own act is (scene_in a) a.calls.count P e goes plain h cause) (takes_nothing (is_want e) a.store.tree.account a.space b.space asks), answers_own a.calls.fail x own act is (scene_in a) a.calls.count P e goes plain h cause, takes_nothing (is_want e) a.store.tree.account a.space b.space asks)

    pub refused_want : (a.calls.count + 1 == a.calls.fail) ≡ false → P [] → (n : ℕ) × Asks a.store.tree.account n a.space b.space → Performed 1 (x ∷ []) a b P (Some (NoMemory (a.calls.count + 1)))
    refused_want goes h some = refused (NoMemory (a.calls.count + 1)) (answers_want a.calls.fail x own act is (scene_in a) a.calls.count P goes h) some

    refused_injected : (a.calls.count + 1 == a.calls.fail) ≡ true → P [] → Asks a.store.tree.account 0 a.space b.space → Performed 1 (x ∷ []) a b P (Some (Injected (a.calls.count + 1)))
    refused_injected fails h asks = refused (Injected (a.calls.count + 1)) (answers_injected a.calls.fail x own act is (scene_in a) a.calls.count P fails h) asks

  -- and so are the store and all that is lent
  module _ (same : Refused a.store b.store a.space b.space a.shelf b.shelf a.commons b.commons) (keeps : Keeps b.store b.space) (moves : Moves a.store.tree b.store.tree a.space b.space) where
    balanced : Balances a.store.owners b.store.owners a.commons b.commons
    balanced = rw (same.store, same.commons) (balances_none a.store.owners a.commons)

    unraised : Grows 1 a b
    unraised = grind (arith, nat_tests, count_up)

    pub performed_own : (e : Error) → (a.calls.count + 1 == a.calls.fail) ≡ false → is_want e ≡ false → P [] → ((around : Around) → own (scene_in a around) ≡ Some e)
        → Asks a.store.tree.account 0 a.space b.space → Performed 1 (x ∷ []) a b P (Some e)
    performed_own = refused_own (same_scene_in a b same) balanced unraised keeps moves

    pub performed_want : (a.calls.count + 1 == a.calls.fail) ≡ false → P [] → (n : ℕ) × Asks a.store.tree.account n a.space b.space → Performed 1 (x ∷ []) a b P (Some (NoMemory (a.calls.count + 1)))
    performed_want = refused_want (same_scene_in a b same) balanced unraised keeps moves

    pub performed_injected : (a.calls.count + 1 == a.calls.fail) ≡ true → P [] → Asks a.store.tree.account 0 a.space b.space → Performed 1 (x ∷ []) a b P (Some (Injected (a.calls.count + 1)))
    performed_injected = refused_injected (same_scene_in a b same) balanced unraised keeps moves
