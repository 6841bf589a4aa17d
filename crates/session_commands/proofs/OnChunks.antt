-- What the commands on chunks perform.
use Rattle.session_commands.proofs.Base.{nat_tests, ◌≡◌, ◌≢◌, ◌⊎◌, ℕ, ◌+◌, ◌==◌, Bool, true, false, OnOk, OnErr, IfOk, IfErr, Result, Ok, Err, List, [], ◌∷◌, length, Option, Some, None, refl, sym, ◌∙◌, ap, subst, arith, inl, inr, option_map}
use Rattle.session_commands.proofs.Words.{Error, What, Asks, Space, ShelfState, TreeError, alloc_refusal, bytes_refusal, free_refusal, is_chunk, put_refusal, realloc_refusal, error_of, Around, Moment, Scene, Ended, say, where_there, Check, Element, InCurrent, Text, fallible, unfailing, failure, tree_error, unless, does, asks_in, memory_in, contexts_become, alloc_refused, chunk_resized, memory_taken, resize_refused, is_want, CommonState, balances_none, StoreState, contexts_in, held_in, left_in, session_of, Acted, ContextsAlone, IsSilent, Keeps, Refused, Calls, Now, Performed, most_calls, scene_in}
use Rattle.std.proofs.Common.{not}
use Rattle.pgs_step.specs.declared.errors.Error.TheVariants as error
use Rattle.pgs_step.specs.declared.events.What.TheVariants as what
use Rattle.context_rules.specs.declared.errors.TreeError.TheVariants as tree
use Rattle.context_rules.specs.Chunks.{asked, freed, resized_asked, shown, written}
use Rattle.session_rules.specs.Elements as element
use Rattle.session_commands.proofs.Performing.{Raises, moves_nothing, performed_act, performed_end, performed_injected, performed_own, performed_step, performed_want}
use Rattle.session_commands.proofs.Commands.{fails, passes, passes_call, tree_error_plain, unchanged}
use Rattle.session_commands.proofs.Stepping.{memory_or_not}

-- what an act that says nothing tells
pub silently : (act : Scene → Ended) (a b : StoreState) (s t : Space) (x y : ShelfState) (c d : CommonState) (P : List What → Type 0) → P [] → Acted act a b s t x y c d IsSilent → Acted act a b s t x y c d P
silently act a b s t x y c d P h acted = record { leads = acted.leads; says = λ around. subst P (sym (acted.says around)) h; balances = acted.balances }

-- a command that tests a chunk and then can't fail
module _ (check : Check) (x : Element) (act : Scene → Ended) (is : (w : Option ℕ) (m : Moment) → does w x m ≡ unfailing m act) (raises : Raises 0 act) (a b : Now) (P : List What → Type 0)
    (keeps : Keeps a.store a.space) (calls : b.calls ≡ a.calls) (alone : ContextsAlone a.store b.store a.space b.space a.commons b.commons) (silent : P [])
    (quiet : (scene : Scene) → asks_in x scene ≡ 0) (asks : Asks a.store.tree.account 0 a.space b.space) where
  on_chunk : (r : Result (Unit {0}) TreeError) → ((around : Around) → failure check (scene_in a around) ≡ option_map tree_error (error_of r))
      → OnOk r (Acted act a.store b.store a.space b.space a.shelf b.shelf a.commons b.commons IsSilent) → OnErr r (Refused a.store b.store a.space b.space a.shelf b.shelf a.commons b.commons)
      → Performed most_calls (element.Checks check ∷ x ∷ []) a b P (option_map tree_error (error_of r))
  on_chunk (Ok u) may acted same =
      passes most_calls check (x ∷ []) a b P None keeps may (performed_act most_calls x act a b P is raises (silently act a.store b.store a.space b.space a.shelf b.shelf a.commons b.commons P silent acted) alone calls
      (λ around. subst (λ (k : ℕ). Asks a.store.tree.account k a.space b.space) (sym (quiet (scene_in a around))) asks))
  on_chunk (Err e) may acted same = grind (arith, nat_tests, unchanged most_calls (element.Checks check ∷ x ∷ []) a b P (Some (tree_error e)) (fails most_calls check (x ∷ []) a P (tree_error e) keeps silent (tree_error_plain e) may) same alone.keeps alone.moves calls asks, fails most_calls check (x ∷ []) a P (tree_error e) keeps silent (tree_error_plain e) may, tree_error_plain e)

does_free : (name : Text) (w : Option ℕ) (m : Moment) → does w (element.FreeChunk name) m ≡ unfailing m (contexts_become (freed name))
unfolding does
does_free name w m = refl

does_put : (name : Text) (at : ℕ) (bytes : List ℕ) (w : Option ℕ) (m : Moment) → does w (element.Put name at bytes) m ≡ unfailing m (contexts_become (written name at bytes))
unfolding does
does_put name at bytes w m = refl

does_show : (name : Text) (at n : ℕ) (w : Option ℕ) (m : Moment)
    → does w (element.Show name at n) m ≡ unfailing m (λ scene. say (what.Bytes name at (shown name at n scene.session.contexts)) scene)
unfolding does
does_show name at n w m = refl

does_realloc : (name : Text) (size : ℕ) (w : Option ℕ) (m : Moment) → does w (element.Realloc name size) m ≡ fallible w m (resize_refused name size m.scene) (chunk_resized name size)
unfolding does
does_realloc name size w m = refl

-- where shelf and commons are fixed, what was done with any
at_shelf : {A : Type 0} {E : Type 0} (r : Result A E) (x : ShelfState) (c : CommonState) (F : ShelfState → CommonState → Type 0) → OnOk r ((y : ShelfState) (d : CommonState) → F y d) → OnOk r (F x c)
at_shelf x0 x c F h = grind (arith, nat_tests)

err_at_shelf : {A : Type 0} {E : Type 0} (r : Result A E) (x : ShelfState) (c : CommonState) (F : ShelfState → CommonState → Type 0) → OnErr r ((y : ShelfState) (d : CommonState) → F y d) → OnErr r (F x c)
err_at_shelf x0 x c F h = grind (arith, nat_tests)

-- what a store and its space became, behind a call that the run doesn't count
module _ (name : Text) (a : Now) (st : StoreState) (t : Space) (P : List What → Type 0) (r : Result (Unit {0}) TreeError) (keeps : Keeps a.store a.space) (silent : P [])
    (alone : ContextsAlone a.store st a.space t a.commons a.commons) (same : OnErr r ((x : ShelfState) (m : CommonState) → Refused a.store st a.space t x x m m)) (asks : Asks a.store.tree.account 0 a.space t) where
  pub free_performed : error_of r ≡ free_refusal name (contexts_in a.store a.space) → OnOk r ((x : ShelfState) (m : CommonState) → Acted (contexts_become (freed name)) a.store st a.space t x x m m IsSilent)
      → Performed most_calls (element.Checks (element.MayFree name) ∷ element.FreeChunk name ∷ []) a (record a { store = st; space = t }) P (option_map tree_error (error_of r))
  free_performed answer acted =
      on_chunk (element.MayFree name) (element.FreeChunk name) (contexts_become (freed name)) (does_free name) (λ scene. omega arith) a (record a { store = st; space = t }) P keeps refl alone silent (λ scene. refl) asks r
      (λ around. ap (option_map tree_error) (sym answer))
      (at_shelf r a.shelf a.commons (λ x m. Acted (contexts_become (freed name)) a.store st a.space t x x m m IsSilent) acted) (err_at_shelf r a.shelf a.commons (λ x m. Refused a.store st a.space t x x m m) same)

  put_these : (at : ℕ) (bytes : List ℕ) → error_of r ≡ put_refusal name at (length bytes) (contexts_in a.store a.space)
      → OnOk r ((x : ShelfState) (m : CommonState) → Acted (contexts_become (written name at bytes)) a.store st a.space t x x m m IsSilent)
      → Performed most_calls (element.Checks (element.MayPut name at (length bytes)) ∷ element.Put name at bytes ∷ []) a (record a { store = st; space = t }) P (option_map tree_error (error_of r))
  put_these at bytes answer acted =
      on_chunk (element.MayPut name at (length bytes)) (element.Put name at bytes) (contexts_become (written name at bytes)) (does_put name at bytes) (λ scene. omega arith) a
      (record a { store = st; space = t }) P keeps refl alone silent (λ scene. refl) asks r
      (λ around. ap (option_map tree_error) (sym answer))
      (at_shelf r a.shelf a.commons (λ x m. Acted (contexts_become (written name at bytes)) a.store st a.space t x x m m IsSilent) acted) (err_at_shelf r a.shelf a.commons (λ x m. Refused a.store st a.space t x x m m) same)

  -- the bytes were written as they were lent
  pub put_performed : (at : ℕ) (bytes these : List ℕ) → these ≡ bytes → error_of r ≡ put_refusal name at (length these) (contexts_in a.store a.space)
      → OnOk r ((x : ShelfState) (m : CommonState) → Acted (contexts_become (written name at these)) a.store st a.space t x x m m IsSilent)
      → Performed most_calls (element.Checks (element.MayPut name at (length bytes)) ∷ element.Put name at bytes ∷ []) a (record a { store = st; space = t }) P (option_map tree_error (error_of r))
  put_performed at bytes these is answer acted = grind (arith, nat_tests, put_these at these answer acted)

refused_there : (r : Result (Unit {0}) TreeError) (e : TreeError) (F : ShelfState → ShelfState → CommonState → CommonState → Type 0) (x : ShelfState) (c : CommonState) → r ≡ Err e → OnErr r ((y : ShelfState) (d : CommonState) → F y y d d) → F x x c c
refused_there x0 e F x c is h = grind (arith, nat_tests)

still_there : (r : Result (Unit {0}) TreeError) (e : TreeError) (t s : Space) → r ≡ Err e → OnErr r (t ≡ s) → t ≡ s
still_there x0 e t s is h = grind (arith, nat_tests)

cause_there : (r : Result (Unit {0}) TreeError) (e : TreeError) (o : Option TreeError) → r ≡ Err e → e ≢ tree.Memory → IfErr r (λ z. (z ≡ tree.Memory) ⊎ (o ≡ Some z)) → o ≡ Some e
cause_there x0 e o is n x5 = grind (arith, nat_tests)

done_there : {A : Type 0} (r : Result A TreeError) (u : A) (x : ShelfState) (c : CommonState) (F : ShelfState → CommonState → Type 0) → r ≡ Ok u → OnOk r ((y : ShelfState) (d : CommonState) → F y d) → F x c
done_there x0 u x c F is h = grind (arith, nat_tests)

asks_there : {A : Type 0} (r : Result A TreeError) (u : A) (F : Type 0) → r ≡ Ok u → OnOk r F → F
asks_there (Ok v) u F is h = h
asks_there (Err d) u F is h = absurd (cc is)

served_there : {A : Type 0} (r : Result A TreeError) (u : A) (o : Option TreeError) → r ≡ Ok u → OnOk r (o ≡ None) → o ≡ None
served_there x0 u o is h = grind (arith, nat_tests)

-- a command that tests a chunk and then makes a call that the run counts
module _ (check : Check) (x : Element) (own : Scene → Option Error) (act : Scene → Ended) (is : (w : Option ℕ) (m : Moment) → does w x m ≡ fallible w m (own m.scene) act) (raises : Raises 1 act) (a : Now)
    (P : List What → Type 0) (keeps : Keeps a.store a.space) (silent : P []) where
  checked : (e : Error) → is_want e ≡ false → ((around : Around) → failure check (scene_in a around) ≡ Some e) → Performed most_calls (element.Checks check ∷ x ∷ []) a a P (Some e)
  checked e plain fail = fails most_calls check (x ∷ []) a P e keeps silent plain fail

  module _ (pass : (around : Around) → failure check (scene_in a around) ≡ None) (k : Calls) (counted : k ≡ record a.calls { count = a.calls.count + 1 }) where
    injects : (e : Error) → e ≡ error.Injected (a.calls.count + 1) → (a.calls.count + 1 == a.calls.fail) ≡ true → Performed most_calls (element.Checks check ∷ x ∷ []) a (record a { calls = k }) P (Some e)
    injects e told hit =
        subst (λ (z : Error). Performed most_calls (element.Checks check ∷ x ∷ []) a (record a { calls = k }) P (Some z)) (sym told)
        (passes_call check (x ∷ []) a (record a { calls = k }) P (Some (error.Injected (a.calls.count + 1))) keeps pass
        (performed_injected x own act is a (record a { calls = k }) P counted (record { store = refl; shelf = refl; commons = refl; session = refl; limit = refl }) keeps
        (moves_nothing a.store.tree a.space keeps.agrees) hit silent refl))

    module _ (st : StoreState) (t : Space) (goes : (a.calls.count + 1 == a.calls.fail) ≡ false) (alone : ContextsAlone a.store st a.space t a.commons a.commons) where
      steps : ((around : Around) → own (scene_in a around) ≡ None) → Acted act a.store st a.space t a.shelf a.shelf a.commons a.commons IsSilent
          → ((around : Around) → Asks a.store.tree.account (asks_in x (scene_in a around)) a.space t)
          → Performed most_calls (element.Checks check ∷ x ∷ []) a (record { store = st; space = t; shelf = a.shelf; commons = a.commons; calls = k }) P None
      steps free acted asks =
          passes_call check (x ∷ []) a (record { store = st; space = t; shelf = a.shelf; commons = a.commons; calls = k }) P None keeps pass
          (performed_step x own act is a (record { store = st; space = t; shelf = a.shelf; commons = a.commons; calls = k }) P counted raises goes free
          (silently act a.store st a.space t a.shelf a.shelf a.commons a.commons P silent acted) alone asks)

      module _ (same : Refused a.store st a.space t a.shelf a.shelf a.commons a.commons) (call : ℕ) (calls : call ≡ a.calls.count + 1) (e : Error) (still : t ≡ a.space) where
        wants : e ≡ error.NoMemory call → Performed most_calls (element.Checks check ∷ x ∷ []) a (record { store = st; space = t; shelf = a.shelf; commons = a.commons; calls = k }) P (Some e)
        wants told =
            subst (λ (z : Error). Performed most_calls (element.Checks check ∷ x ∷ []) a (record { store = st; space = t; shelf = a.shelf; commons = a.commons; calls = k }) P (Some z)) (sym (told ∙ ap error.NoMemory calls))
            (passes_call check (x ∷ []) a (record { store = st; space = t; shelf = a.shelf; commons = a.commons; calls = k }) P (Some (error.NoMemory (a.calls.count + 1))) keeps pass
            (performed_want x own act is a (record { store = st; space = t; shelf = a.shelf; commons = a.commons; calls = k }) P counted same alone.keeps alone.moves goes silent (0, ap (λ (s : Space). s.taken) still)))

        owns : (refusal : TreeError) → e ≡ tree_error refusal → ((around : Around) → own (scene_in a around) ≡ Some (tree_error refusal))
            → Performed most_calls (element.Checks check ∷ x ∷ []) a (record { store = st; space = t; shelf = a.shelf; commons = a.commons; calls = k }) P (Some e)
        owns refusal told cause =
            subst (λ (z : Error). Performed most_calls (element.Checks check ∷ x ∷ []) a (record { store = st; space = t; shelf = a.shelf; commons = a.commons; calls = k }) P (Some z)) (sym told)
            (passes_call check (x ∷ []) a (record { store = st; space = t; shelf = a.shelf; commons = a.commons; calls = k }) P (Some (tree_error refusal)) keeps pass
            (performed_own x own act is a (record { store = st; space = t; shelf = a.shelf; commons = a.commons; calls = k }) P counted same alone.keeps alone.moves (tree_error refusal) goes
            (tree_error_plain refusal) silent cause (ap (λ (s : Space). s.taken) still)))

    -- how a call of the store was refused
    refuses : (st : StoreState) (t : Space) (r : Result (Unit {0}) TreeError) (refusal : TreeError) (call : ℕ) (e : Error) (o : Option TreeError) → r ≡ Err refusal
        → (a.calls.count + 1 == a.calls.fail) ≡ false → ContextsAlone a.store st a.space t a.commons a.commons → OnErr r ((x : ShelfState) (m : CommonState) → Refused a.store st a.space t x x m m) → call ≡ a.calls.count + 1
        → (refusal ≡ tree.Memory → e ≡ error.NoMemory call) → (refusal ≢ tree.Memory → e ≡ tree_error refusal) → IfErr r (λ z. (z ≡ tree.Memory) ⊎ (o ≡ Some z)) → OnErr r (t ≡ a.space)
        → ((around : Around) → own (scene_in a around) ≡ option_map tree_error o) → Performed most_calls (element.Checks check ∷ x ∷ []) a (record { store = st; space = t; shelf = a.shelf; commons = a.commons; calls = k }) P (Some e)
    refuses st t r refusal call e o is_err goes alone same calls memory plain cause still meets = go (memory_or_not refusal) is_err same cause
      where
        stays : t ≡ a.space
        stays = still_there r refusal t a.space is_err still

        want : refusal ≡ tree.Memory → (r ≡ Err refusal) → OnErr r ((x : ShelfState) (m : CommonState) → Refused a.store st a.space t x x m m)
            → Performed most_calls (element.Checks check ∷ x ∷ []) a (record { store = st; space = t; shelf = a.shelf; commons = a.commons; calls = k }) P (Some e)
        want m is_err same = wants st t goes alone (refused_there r refusal (Refused a.store st a.space t) a.shelf a.commons is_err same) call calls e stays (memory m)

        go : (refusal ≡ tree.Memory) ⊎ (refusal ≢ tree.Memory) → r ≡ Err refusal → OnErr r ((x : ShelfState) (m : CommonState) → Refused a.store st a.space t x x m m) → IfErr r (λ z. (z ≡ tree.Memory) ⊎ (o ≡ Some z))
            → Performed most_calls (element.Checks check ∷ x ∷ []) a (record { store = st; space = t; shelf = a.shelf; commons = a.commons; calls = k }) P (Some e)
        go (inl m) is_err same cause = want m is_err same
        go (inr n) is_err same cause =
            owns st t goes alone (refused_there r refusal (Refused a.store st a.space t) a.shelf a.commons is_err same) call calls e stays refusal (plain n)
            (λ around. meets around ∙ ap (option_map tree_error) (cause_there r refusal o is_err n cause))

    does_it : (st : StoreState) (t : Space) (r : Result (Unit {0}) TreeError) (u : Unit {0}) (o : Option TreeError) → r ≡ Ok u → (a.calls.count + 1 == a.calls.fail) ≡ false
        → ContextsAlone a.store st a.space t a.commons a.commons → OnOk r ((x : ShelfState) (m : CommonState) → Acted act a.store st a.space t x x m m IsSilent) → OnOk r (o ≡ None)
        → ((around : Around) → own (scene_in a around) ≡ option_map tree_error o) → ((around : Around) → Asks a.store.tree.account (asks_in x (scene_in a around)) a.space t) → Performed most_calls (element.Checks check ∷ x ∷ []) a (record { store = st; space = t; shelf = a.shelf; commons = a.commons; calls = k }) P None
    does_it st t r u o is_ok goes alone acted served meets asks =
        steps st t goes alone (λ around. meets around ∙ ap (option_map tree_error) (served_there r u o is_ok served))
        (done_there r u a.shelf a.commons (λ z m. Acted act a.store st a.space t z z m m IsSilent) is_ok acted) asks

-- a chunk of that name is there, or isn't
new_name : (name : Text) (scene : Scene) (b : Bool) → b ≡ is_chunk (Some name) scene.session.contexts → failure (element.ChunkIsNew name) scene ≡ unless (not b) error.NameTaken
new_name name scene b e = ap (λ (z : Bool). unless (not z) error.NameTaken) (sym e)

old_name : (name : Text) (scene : Scene) (b : Bool) → b ≡ is_chunk (Some name) scene.session.contexts → failure (element.IsChunk name) scene ≡ unless b error.NoSuchName
old_name name scene b e = ap (λ (z : Bool). unless z error.NoSuchName) (sym e)

-- memory in the current context
abbrev alloc_own : Text → ℕ → Scene → Option Error
alloc_own name size scene = alloc_refused (memory_in InCurrent scene.session) (Some name) size scene

abbrev alloc_act : Text → ℕ → Bool → Scene → Ended
alloc_act name size zeroed scene = where_there (memory_in InCurrent scene.session) (memory_taken (Some name) size zeroed) scene

does_alloc : (name : Text) (size : ℕ) (zeroed : Bool) (w : Option ℕ) (m : Moment)
    → does w (element.Alloc InCurrent (Some name) size zeroed) m ≡ fallible w m (alloc_own name size m.scene) (alloc_act name size zeroed)
unfolding does
does_alloc name size zeroed w m = refl

alloc_meets : (name : Text) (size : ℕ) (a : Now) (around : Around)
    → alloc_own name size (scene_in a around) ≡ option_map tree_error (alloc_refusal a.store.tree.current.number (left_in a.store a.space) (Some name) size (contexts_in a.store a.space))
unfolding session_of
alloc_meets name size a around = refl

alloc_asks : (name : Text) (size : ℕ) (zeroed : Bool) (a : Now) (around : Around)
    → asks_in (element.Alloc InCurrent (Some name) size zeroed) (scene_in a around) ≡ asked a.store.tree.current.number (left_in a.store a.space) size (contexts_in a.store a.space)
unfolding session_of
alloc_asks name size zeroed a around = refl

alloc_acts : (name : Text) (size : ℕ) (zeroed : Bool) (a b : StoreState) (s t : Space) (x y : ShelfState) (c d : CommonState)
    → Acted (memory_taken (Some name) size zeroed a.tree.current.number) a b s t x y c d IsSilent → Acted (alloc_act name size zeroed) a b s t x y c d IsSilent
unfolding session_of
alloc_acts name size zeroed a b s t x y c d h = record { leads = h.leads; says = h.says; balances = h.balances }

acted_alloc : (name : Text) (size : ℕ) (zeroed : Bool) (a b : StoreState) (s t : Space) (r : Result (Unit {0}) TreeError)
    → OnOk r ((x : ShelfState) (m : CommonState) → Acted (memory_taken (Some name) size zeroed a.tree.current.number) a b s t x x m m IsSilent)
    → OnOk r ((x : ShelfState) (m : CommonState) → Acted (alloc_act name size zeroed) a b s t x x m m IsSilent)
acted_alloc name size zeroed a b s t (Ok u) h = λ x m. alloc_acts name size zeroed a b s t x x m m (h x m)
acted_alloc name size zeroed a b s t (Err e) h = tt

module _ (name : Text) (size : ℕ) (zeroed : Bool) (a : Now) (P : List What → Type 0) (keeps : Keeps a.store a.space) (silent : P []) (b : Bool)
    (tells : b ≡ is_chunk (Some name) (contexts_in a.store a.space)) where
  pub alloc_taken : b ≡ true → Performed most_calls (element.Checks (element.ChunkIsNew name) ∷ element.Alloc InCurrent (Some name) size zeroed ∷ []) a a P (Some error.NameTaken)
  alloc_taken is =
      checked (element.ChunkIsNew name) (element.Alloc InCurrent (Some name) size zeroed) (alloc_own name size) (alloc_act name size zeroed) (does_alloc name size zeroed) (λ scene. omega arith) a P keeps silent
      error.NameTaken refl (λ around. new_name name (scene_in a around) b tells ∙ ap (λ (z : Bool). unless (not z) error.NameTaken) is)

  module _ (is : b ≡ false) (k : Calls) (counted : k ≡ record a.calls { count = a.calls.count + 1 }) where
    is_new : (around : Around) → failure (element.ChunkIsNew name) (scene_in a around) ≡ None
    is_new around = new_name name (scene_in a around) b tells ∙ ap (λ (z : Bool). unless (not z) error.NameTaken) is

    pub alloc_injected : (e : Error) → e ≡ error.Injected (a.calls.count + 1) → (a.calls.count + 1 == a.calls.fail) ≡ true
        → Performed most_calls (element.Checks (element.ChunkIsNew name) ∷ element.Alloc InCurrent (Some name) size zeroed ∷ []) a (record a { calls = k }) P (Some e)
    alloc_injected =
        injects (element.ChunkIsNew name) (element.Alloc InCurrent (Some name) size zeroed) (alloc_own name size) (alloc_act name size zeroed) (does_alloc name size zeroed) (λ scene. omega arith) a P keeps silent
        is_new k counted

    module _ (st : StoreState) (t : Space) (r : Result (Unit {0}) TreeError) (goes : (a.calls.count + 1 == a.calls.fail) ≡ false) (alone : ContextsAlone a.store st a.space t a.commons a.commons) where
      pub alloc_done : (u : Unit {0}) → r ≡ Ok u → OnOk r ((x : ShelfState) (m : CommonState) → Acted (memory_taken (Some name) size zeroed a.store.tree.current.number) a.store st a.space t x x m m IsSilent)
          → OnOk r (alloc_refusal a.store.tree.current.number (left_in a.store a.space) (Some name) size (contexts_in a.store a.space) ≡ None)
          → OnOk r (Asks a.store.tree.account (asked a.store.tree.current.number (left_in a.store a.space) size (contexts_in a.store a.space)) a.space t)
          → Performed most_calls (element.Checks (element.ChunkIsNew name) ∷ element.Alloc InCurrent (Some name) size zeroed ∷ []) a (record { store = st; space = t; shelf = a.shelf; commons = a.commons; calls = k }) P None
      alloc_done u is_ok acted served asks =
          does_it (element.ChunkIsNew name) (element.Alloc InCurrent (Some name) size zeroed) (alloc_own name size) (alloc_act name size zeroed) (does_alloc name size zeroed) (λ scene. omega arith) a P keeps silent
          is_new k counted st t r u (alloc_refusal a.store.tree.current.number (left_in a.store a.space) (Some name) size (contexts_in a.store a.space)) is_ok goes alone
          (acted_alloc name size zeroed a.store st a.space t r acted) served (alloc_meets name size a)
          (λ around. subst (λ (n : ℕ). Asks a.store.tree.account n a.space t) (sym (alloc_asks name size zeroed a around)) (asks_there r u _ is_ok asks))

      pub alloc_refuses : (refusal : TreeError) (call : ℕ) (e : Error) → r ≡ Err refusal → OnErr r ((x : ShelfState) (m : CommonState) → Refused a.store st a.space t x x m m) → call ≡ a.calls.count + 1
          → (refusal ≡ tree.Memory → e ≡ error.NoMemory call) → (refusal ≢ tree.Memory → e ≡ tree_error refusal)
          → IfErr r (λ z. (z ≡ tree.Memory) ⊎ (alloc_refusal a.store.tree.current.number (left_in a.store a.space) (Some name) size (contexts_in a.store a.space) ≡ Some z)) → OnErr r (t ≡ a.space)
          → Performed most_calls (element.Checks (element.ChunkIsNew name) ∷ element.Alloc InCurrent (Some name) size zeroed ∷ []) a (record { store = st; space = t; shelf = a.shelf; commons = a.commons; calls = k }) P (Some e)
      alloc_refuses refusal call e is_err same calls memory plain cause still =
          refuses (element.ChunkIsNew name) (element.Alloc InCurrent (Some name) size zeroed) (alloc_own name size) (alloc_act name size zeroed) (does_alloc name size zeroed) (λ scene. omega arith) a P keeps silent
          is_new k counted st t r refusal call e (alloc_refusal a.store.tree.current.number (left_in a.store a.space) (Some name) size (contexts_in a.store a.space)) is_err goes alone same calls memory plain cause still
          (alloc_meets name size a)

-- a chunk of a name gets another size
module _ (name : Text) (size : ℕ) (a : Now) (P : List What → Type 0) (keeps : Keeps a.store a.space) (silent : P []) (b : Bool) (tells : b ≡ is_chunk (Some name) (contexts_in a.store a.space)) where
  pub realloc_unknown : b ≡ false → Performed most_calls (element.Checks (element.IsChunk name) ∷ element.Realloc name size ∷ []) a a P (Some error.NoSuchName)
  realloc_unknown is =
      checked (element.IsChunk name) (element.Realloc name size) (resize_refused name size) (chunk_resized name size) (does_realloc name size) (λ scene. omega arith) a P keeps silent error.NoSuchName refl
      (λ around. old_name name (scene_in a around) b tells ∙ ap (λ (z : Bool). unless z error.NoSuchName) is)

  module _ (is : b ≡ true) (k : Calls) (counted : k ≡ record a.calls { count = a.calls.count + 1 }) where
    is_old : (around : Around) → failure (element.IsChunk name) (scene_in a around) ≡ None
    is_old around = old_name name (scene_in a around) b tells ∙ ap (λ (z : Bool). unless z error.NoSuchName) is

    pub realloc_injected : (e : Error) → e ≡ error.Injected (a.calls.count + 1) → (a.calls.count + 1 == a.calls.fail) ≡ true
        → Performed most_calls (element.Checks (element.IsChunk name) ∷ element.Realloc name size ∷ []) a (record a { calls = k }) P (Some e)
    realloc_injected =
        injects (element.IsChunk name) (element.Realloc name size) (resize_refused name size) (chunk_resized name size) (does_realloc name size) (λ scene. omega arith) a P keeps silent is_old k counted

    module _ (st : StoreState) (t : Space) (r : Result (Unit {0}) TreeError) (goes : (a.calls.count + 1 == a.calls.fail) ≡ false) (alone : ContextsAlone a.store st a.space t a.commons a.commons) where
      pub realloc_done : (u : Unit {0}) → r ≡ Ok u → OnOk r ((x : ShelfState) (m : CommonState) → Acted (chunk_resized name size) a.store st a.space t x x m m IsSilent)
          → OnOk r (realloc_refusal (held_in a.store a.space) a.space.limit name size (contexts_in a.store a.space) ≡ None)
          → OnOk r (Asks a.store.tree.account (resized_asked (held_in a.store a.space) a.space.limit name size (contexts_in a.store a.space)) a.space t)
          → Performed most_calls (element.Checks (element.IsChunk name) ∷ element.Realloc name size ∷ []) a (record { store = st; space = t; shelf = a.shelf; commons = a.commons; calls = k }) P None
      realloc_done u is_ok acted served asks =
          does_it (element.IsChunk name) (element.Realloc name size) (resize_refused name size) (chunk_resized name size) (does_realloc name size) (λ scene. omega arith) a P keeps silent is_old k counted st t r u
          (realloc_refusal (held_in a.store a.space) a.space.limit name size (contexts_in a.store a.space)) is_ok goes alone acted served (λ around. refl) (λ around. asks_there r u _ is_ok asks)

      pub realloc_refuses : (refusal : TreeError) (call : ℕ) (e : Error) → r ≡ Err refusal → OnErr r ((x : ShelfState) (m : CommonState) → Refused a.store st a.space t x x m m) → call ≡ a.calls.count + 1
          → (refusal ≡ tree.Memory → e ≡ error.NoMemory call) → (refusal ≢ tree.Memory → e ≡ tree_error refusal)
          → IfErr r (λ z. (z ≡ tree.Memory) ⊎ (realloc_refusal (held_in a.store a.space) a.space.limit name size (contexts_in a.store a.space) ≡ Some z)) → OnErr r (t ≡ a.space)
          → Performed most_calls (element.Checks (element.IsChunk name) ∷ element.Realloc name size ∷ []) a (record { store = st; space = t; shelf = a.shelf; commons = a.commons; calls = k }) P (Some e)
      realloc_refuses refusal call e is_err same calls memory plain cause still =
          refuses (element.IsChunk name) (element.Realloc name size) (resize_refused name size) (chunk_resized name size) (does_realloc name size) (λ scene. omega arith) a P keeps silent is_old k counted st t r refusal
          call e (realloc_refusal (held_in a.store a.space) a.space.limit name size (contexts_in a.store a.space)) is_err goes alone same calls memory plain cause still (λ around. refl)

-- bytes are shown
abbrev show_act : Text → ℕ → ℕ → Scene → Ended
show_act name at n scene = say (what.Bytes name at (shown name at n scene.session.contexts)) scene

bytes_there : (r : Result (List ℕ) TreeError) (bytes told : List ℕ) → r ≡ Ok bytes → IfOk r (λ xs. xs ≡ told) → bytes ≡ told
bytes_there x0 bytes told is h = grind (arith, nat_tests)

module _ (name : Text) (at n : ℕ) (a : Now) (P : List What → Type 0) (r : Result (List ℕ) TreeError) (keeps : Keeps a.store a.space)
    (answer : error_of r ≡ bytes_refusal name at n (contexts_in a.store a.space)) where
  pub show_refused : (refusal : TreeError) (e : Error) → r ≡ Err refusal → e ≡ tree_error refusal → P []
      → Performed most_calls (element.Checks (element.MayShow name at n) ∷ element.Show name at n ∷ []) a a P (Some e)
  show_refused refusal e is told silent =
      subst (λ (z : Error). Performed most_calls (element.Checks (element.MayShow name at n) ∷ element.Show name at n ∷ []) a a P (Some z)) (sym told)
      (fails most_calls (element.MayShow name at n) (element.Show name at n ∷ []) a P (tree_error refusal) keeps silent (tree_error_plain refusal)
      (λ around. ap (option_map tree_error) (sym answer) ∙ ap (λ (z : Result (List ℕ) TreeError). option_map tree_error (error_of z)) is))

  pub show_performed : (bytes : List ℕ) → r ≡ Ok bytes → IfOk r (λ xs. xs ≡ shown name at n (contexts_in a.store a.space)) → P (what.Bytes name at bytes ∷ [])
      → Performed most_calls (element.Checks (element.MayShow name at n) ∷ element.Show name at n ∷ []) a a P None
  show_performed bytes is told says =
      passes most_calls (element.MayShow name at n) (element.Show name at n ∷ []) a a P None keeps
      (λ around. ap (option_map tree_error) (sym answer) ∙ ap (λ (z : Result (List ℕ) TreeError). option_map tree_error (error_of z)) is)
      (performed_end most_calls (element.Show name at n) (show_act name at n) a a P (does_show name at n) (record {
        leads = λ around. refl;
        says = λ around. subst (λ (xs : List ℕ). P (what.Bytes name at xs ∷ [])) (bytes_there r bytes (shown name at n (contexts_in a.store a.space)) is told) says;
        balances = balances_none a.store.owners a.commons;
      }) keeps (moves_nothing a.store.tree a.space keeps.agrees) (record { contexts = omega arith; owners = omega arith; serials = omega arith; calls = omega arith; descriptors = refl }) refl (λ around. refl))
