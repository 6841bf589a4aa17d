-- The steps on contexts of a name lead from a session that stands to one that stands.
use Rattle.session_rules.proofs.Base.{◌≡◌, ◌≢◌, ◌⊎◌, ℕ, ◌+◌, Bool, true, false, Option, Some, None, List, [], ◌∷◌, ◌++◌, refl, sym, ap, ◌∙◌, subst, inl, inr, arith, ◌==◌, reverse, if◌then◌else◌, codes, option_map, eq-eqb, both_ways, or_parts, nat_tests, reverse-append}
use Rattle.session_rules.proofs.Below.{Empty, Node, Once, children, has, is_above, removed, with_children, Moves, apart_of, at_absent, at_some, has_changed, Hook, taken, CtxKind, Context, Contexts, created, is_protected, new_context, reparented, OwnerTree, is_text, registered, is_within, set_parent_refusal, TreeError, Protected, Cycle}
use Rattle.session_rules.proofs.Rules.{LevelState, SessionState, cache_context, context_of, first_of, last_of, level_context, top_context, Scene, Moment, Text, context_named, context_made, new_context_made, at_context, context_moved, hook_waits, does, AreContexts, AreHooks, AreLevels, IsPlace, IsRow, IsWorking, Stands, referred, Check, Element, NewContext, Ended, of_contexts, children_gone, context_cleared, context_cleared_alone, context_gone, switched, where_there, failure, refusal_at, tree_error}
use Rattle.session_rules.proofs.Kept.{has_emptied, has_left, once_left, hooks_ended, hooks_put, hooks_taken, hooks_reparented, parts_alone, parts_children, parts_cleared, parts_gone, IsContext, no_value, one_value, lone_changed, lone_emptied, lone_left, lone_moved, lone_put, IsCached, levels_other, own_other, plans_current, place_current, place_level, place_own, place_same, portals_moved, row_changed, row_emptied, row_free, row_left, row_put, Stay, apart, contexts_alone, contexts_changed, contexts_children_gone, contexts_created, contexts_gone, contexts_reparented, has_alone, has_created, has_reparented, moves_by, protected_has, same_removed, stay_alone, stay_changed, stay_children_gone, stay_created, stay_gone, stay_on, stay_reparented, stay_same, top_protected, by_alone, by_reparented}
use Rattle.context_rules.specs.Contexts as rules
use Rattle.context_rules.specs.Ends as ends
use Rattle.context_rules.specs.Refusals as refusals
use Rattle.session_rules.proofs.StepsStand.{Works, contexts_step, fallible_keeps, nothing_works, still_planned, still_portals, beside_by}

-- the context of the first level of a list that is put together
first_context : (levels : List LevelState) (n : ℕ) → context_of (first_of levels) ≡ Some n → IsContext n levels
first_context [] n e = absurd (no_value None n refl e)
first_context (level ∷ levels) n e = inl e

in_both : (xs ys : List LevelState) (n : ℕ) → IsContext n (xs ++ ys) → IsContext n xs ⊎ IsContext n ys
in_both [] ys n i = inr i
in_both (x ∷ xs) ys n i = grind (arith, nat_tests, in_both xs ys n)

in_reverse : (levels : List LevelState) (n : ℕ) → IsContext n (reverse levels) → IsContext n levels
in_reverse [] n i = i
in_reverse (level ∷ levels) n i = grind (arith, nat_tests, in_both (reverse levels) (level ∷ []) n (subst (IsContext n) (reverse-append (level ∷ []) levels) i), reverse-append (level ∷ []) levels, in_reverse levels n)

-- a level's context is there
level_there : (levels : List LevelState) (t : Contexts) (x : OwnerTree) (n : ℕ) → AreLevels levels t x → IsContext n levels → has n t ≡ true
level_there [] t x n l i = absurd i
level_there (level ∷ levels) t x n l i = grind (arith, nat_tests, protected_has n t, level_there levels t x n l.1)

-- so is a context of the script that a name leads to
script_there : (name : Text) (t : Contexts) (n : ℕ) → rules.context_named name t ≡ Some n → has n t ≡ true
script_there name Empty n e = absurd (no_value None n refl e)
script_there name (Node k c below beside) n e = grind (arith, nat_tests, script_there name below n, script_there name beside n)

-- A name leads to the topmost context, to the one for caches, to that of a level or to one of the script.
leads_to : (P : Type 0) (name : Text) (s : SessionState) (n : ℕ) → context_named name s ≡ Some n
    → (top_context ≡ n → P) → (cache_context ≡ n → P) → (IsContext n s.levels → P) → (rules.context_named name s.contexts ≡ Some n → P) → P
leads_to P name s n e top cache level script =
    go (is_text name (codes "TopMemoryContext")) (is_text name (codes "CacheMemoryContext")) (is_text name (codes "TopTransactionContext")) (is_text name (codes "CurTransactionContext")) e
  where
    go : (a b c d : Bool)
        → (if a then Some top_context else (if b then Some cache_context else (if c then context_of (last_of s.levels) else (if d then level_context s else rules.context_named name s.contexts)))) ≡ Some n → P
    go true b c d e = top (one_value (Some top_context) top_context n refl e)
    go false true c d e = cache (one_value (Some cache_context) cache_context n refl e)
    go false false true d e = level (in_reverse s.levels n (first_context (reverse s.levels) n e))
    go false false false true e = level (first_context s.levels n e)
    go false false false false e = script e

-- It is there.
pub named_there : (name : Text) (s : Scene) (n : ℕ) → Stands s → context_named name s.session ≡ Some n → has n s.session.contexts ≡ true
named_there name s n h e = grind (arith, nat_tests, leads_to (has n s.session.contexts ≡ true) name s.session n e, protected_has top_context s.session.contexts (top_protected s.session.contexts s.session.next_context h.contexts), protected_has cache_context s.session.contexts, top_protected s.session.contexts s.session.next_context h.contexts, level_there s.session.levels s.session.contexts s.session.owners n h.levels, script_there name s.session.contexts n)

-- a context of the script is none of the session's own
script_free : (name : Text) (t : Contexts) (n : ℕ) → Once t → rules.context_named name t ≡ Some n → is_protected n t ≡ false
script_free name Empty n o e = refl
script_free name (Node k c below beside) n o e = grind (arith, nat_tests, apart_of k c below beside o, script_there name below n, script_there name beside n, at_absent n below, at_some n below, script_free name below n, script_free name beside n)

-- A context that a name leads to isn't that of a plan.
pub named_other : (name : Text) (s : Scene) (n : ℕ) → Stands s → context_named name s.session ≡ Some n → (m : ℕ) → IsCached m s.session.contexts → n ≢ m
named_other name s n h e m k = grind (arith, nat_tests, leads_to (n ≢ m) name s.session n e, own_other n, levels_other s.session.levels s.session.contexts s.session.owners h.levels n, both_ways (is_protected n s.session.contexts), script_free name s.session.contexts n h.contexts.once)

-- nor is it that of a portal or of one row
pub named_place : (name : Text) (s : Scene) (n : ℕ) → Stands s → context_named name s.session ≡ Some n → (m : ℕ) (expr : Option ℕ) → IsPlace m expr s.session.contexts s.session.current → IsPlace m expr s.session.contexts n
named_place name s n h e m expr k =
    leads_to (IsPlace m expr s.session.contexts n) name s.session n e
    (λ z. place_own s.session.contexts s.session.next_context h.contexts n (omega (arith, z)) (omega (arith, z)) m expr s.session.current k)
    (λ z. place_own s.session.contexts s.session.next_context h.contexts n (omega (arith, z)) (omega (arith, z)) m expr s.session.current k)
    (λ i. place_level s.session.levels s.session.contexts s.session.owners h.contexts.once h.levels n i m expr s.session.current k)
    (λ q.
    let free : is_protected n s.session.contexts ≡ false = script_free name s.session.contexts n h.contexts.once q in
    place_current m expr s.session.contexts s.session.current n
    (λ z. both_ways (is_protected n s.session.contexts) free (ap (λ (j : ℕ). is_protected j s.session.contexts) z ∙ k.protected))
    (λ e q z. row_free s.session.contexts h.contexts.once n free m expr s.session.current k e q (sym z)) k)

-- rows behind a reset, and where another context moves
row_alone : (t : Contexts) → Once t → (k m : ℕ) (expr : Option ℕ) (current : ℕ) → IsPlace m expr t current → IsRow expr (children m (ends.cleared_alone k t).contexts)
row_alone t once k m expr current h = by_alone (λ u. IsRow expr (children m u)) k t h.row (row_changed t once m expr current h k ends.emptied (λ c. refl))

row_reparented : (m : ℕ) (expr : Option ℕ) (n p : ℕ) (t : Contexts) (next current : ℕ) → AreContexts t next → Moves n p t → m ≢ n → has m (children n t) ≡ false → is_protected n t ≡ false → IsPlace m expr t p → IsPlace m expr t current
    → IsRow expr (children m (reparented n p t))
row_reparented m expr n p t next current contexts moves ne out free named k = grind (arith, nat_tests, at_some n t moves.node, place_same m expr t (removed n t) current (same_removed t next contexts m n (ne, out) k.protected) (row_left t contexts.once m expr current k n ne out (row_free t contexts.once n free m expr current k)) k, same_removed t next contexts m n (ne, out) k.protected, row_left t contexts.once m expr current k n ne out (row_free t contexts.once n free m expr current k), row_free t contexts.once n free m expr current k, row_put (removed n t) (once_left n t contexts.once) m expr current, once_left n t contexts.once, by_reparented)

-- a node without children has none behind a reset, nor where another one moves
lone_alone : (m n : ℕ) (t : Contexts) → children m t ≡ Empty → children m (ends.cleared_alone n t).contexts ≡ Empty
lone_alone m n t e = by_alone (λ u. children m u ≡ Empty) n t e (lone_changed m n ends.emptied t e)

lone_reparented : (m n p : ℕ) (t : Contexts) → Once t → Moves n p t → m ≢ p → m ≢ n → has m (children n t) ≡ false → children m t ≡ Empty → children m (reparented n p t) ≡ Empty
lone_reparented m n p t once moves other ne out e = by_reparented (λ u. children m u ≡ Empty) n p t e (lone_moved m n p t once moves other ne out e)

-- what the checks say
no_error : (o : Option TreeError) → option_map tree_error o ≡ None → o ≡ None
no_error o e = grind (arith, nat_tests)

pub both_none : (a b : Bool) (x y : TreeError) → refusals.first_of (refusals.where_so a x) (refusals.where_so b y) ≡ None → (a ≡ false) × (b ≡ false)
both_none a b x y e = grind (arith, nat_tests)

pub checked : (name : Text) (s : SessionState) (refusal : ℕ → Option TreeError) (n : ℕ) → context_named name s ≡ Some n → refusal_at name s refusal ≡ None → refusal n ≡ None
checked name s refusal n is e = grind (arith, nat_tests, no_error (refusal n))

-- an act on a context that a name leads to
pub at_name : {A : Type 0} (P : Scene → Type 0) (o : Option A) (act : A → Scene → Ended) (s : Scene) → P s → ((n : A) → o ≡ Some n → P (act n s).scene) → P (where_there o act s).scene
at_name P o act s before behind = grind (arith, nat_tests)

-- what became of contexts
ended_step : (s : Scene) → Stands s → IsWorking s.session.levels → (ended : ends.Ended) → AreContexts ended.contexts s.session.next_context → Stay s.session.contexts ended.contexts → has s.session.current ended.contexts ≡ true
    → AreHooks ended.contexts (ends.handed_in ended.hooks s.around.shelf) → ((m : ℕ) → IsCached m s.session.contexts → children m ended.contexts ≡ Empty)
    → ((n : ℕ) (expr : Option ℕ) → IsPlace n expr s.session.contexts s.session.current → IsRow expr (children n ended.contexts)) → Stands (of_contexts ended s).scene
ended_step s h working ended c stay there hooks lone rows =
    contexts_step s h working ended.contexts s.session.next_context s.session.current (ends.handed_in ended.hooks s.around.shelf) s.session.plans c stay there hooks (still_planned s ended.contexts h stay lone) (still_portals s ended.contexts h stay rows)

gone_step : (s : Scene) (n : ℕ) → Stands s → IsWorking s.session.levels → is_protected n s.session.contexts ≡ false → is_within n s.session.current s.session.contexts ≡ false → Stands (context_gone n s).scene
gone_step s n h working free out =
    let t : Contexts = s.session.contexts in
    let next : ℕ = s.session.next_context in
    let w = or_parts (s.session.current == n) (is_above n s.session.current t) out in
    ended_step s h working (ends.gone n t) (contexts_gone t next h.contexts n free) (stay_gone t next h.contexts n free)
    (has_left s.session.current n t h.contexts.once (λ e. both_ways (s.session.current == n) w.0 (eq-eqb s.session.current n e)) w.1 ∙ h.current)
    (hooks_ended t (ends.gone n t) s.around.shelf (parts_gone n t h.contexts.once) h.hooks)
    (λ m k. let out = apart t next h.contexts m n free k.protected in lone_left m n t h.contexts.once out.0 out.1 k.lone)
    (λ m expr k.
    let w = apart t next h.contexts m n free k.protected in row_left t h.contexts.once m expr s.session.current k n w.0 w.1 (row_free t h.contexts.once n free m expr s.session.current k))

children_step : (s : Scene) (n : ℕ) → Stands s → IsWorking s.session.levels → is_protected n s.session.contexts ≡ false → is_above n s.session.current s.session.contexts ≡ false → Stands (children_gone n s).scene
children_step s n h working free out =
    let t : Contexts = s.session.contexts in
    let next : ℕ = s.session.next_context in
    ended_step s h working (ends.children_gone n t) (contexts_children_gone t next h.contexts n free) (stay_children_gone t next h.contexts n free)
    (has_emptied s.session.current n t h.contexts.once out ∙ h.current)
    (hooks_ended t (ends.children_gone n t) s.around.shelf (parts_children n t h.contexts.once) h.hooks)
    (λ m k. lone_emptied m n t h.contexts.once (apart t next h.contexts m n free k.protected).1 k.lone)
    (λ m expr k. let w = apart t next h.contexts m n free k.protected in row_emptied t h.contexts.once m expr s.session.current k n w.0 w.1)

pub alone_step : (s : Scene) (n : ℕ) → Stands s → IsWorking s.session.levels → Stands (context_cleared_alone n s).scene
alone_step s n h working =
    let t : Contexts = s.session.contexts in
    let next : ℕ = s.session.next_context in
    ended_step s h working (ends.cleared_alone n t) (contexts_alone t next h.contexts n) (stay_alone t next h.contexts n)
    (has_alone t next h.contexts s.session.current n ∙ h.current)
    (hooks_ended t (ends.cleared_alone n t) s.around.shelf (parts_alone n t h.contexts.once) h.hooks)
    (λ m k. lone_alone m n t k.lone)
    (λ m expr k. row_alone t h.contexts.once n m expr s.session.current k)

cleared_step : (s : Scene) (n : ℕ) → Stands s → IsWorking s.session.levels → is_protected n s.session.contexts ≡ false → is_above n s.session.current s.session.contexts ≡ false → Stands (context_cleared n s).scene
cleared_step s n h working free out =
    let t : Contexts = s.session.contexts in
    let next : ℕ = s.session.next_context in
    let u : Contexts = with_children n Empty t in
    let c : AreContexts u next = contexts_children_gone t next h.contexts n free in
    ended_step s h working (ends.cleared n t) (contexts_alone u next c n)
    (stay_on t u (ends.cleared_alone n u).contexts (stay_children_gone t next h.contexts n free) (stay_alone u next c n))
    (has_alone u next c s.session.current n ∙ has_emptied s.session.current n t h.contexts.once out ∙ h.current)
    (hooks_ended t (ends.cleared n t) s.around.shelf (parts_cleared n t h.contexts.once) h.hooks)
    (λ m k. lone_alone m n u (lone_emptied m n t h.contexts.once (apart t next h.contexts m n free k.protected).1 k.lone))
    (λ m expr k.
    let w = apart t next h.contexts m n free k.protected in
    row_alone u c.once n m expr s.session.current
    (place_same m expr t u s.session.current (stay_children_gone t next h.contexts n free m k.protected) (row_emptied t h.contexts.once m expr s.session.current k n w.0 w.1) k))

moved_step : (s : Scene) (n p : ℕ) → Stands s → IsWorking s.session.levels → has n s.session.contexts ≡ true → has p s.session.contexts ≡ true → is_protected n s.session.contexts ≡ false → is_within n p s.session.contexts ≡ false
    → ((m : ℕ) → IsCached m s.session.contexts → p ≢ m) → ((m : ℕ) (expr : Option ℕ) → IsPlace m expr s.session.contexts s.session.current → IsPlace m expr s.session.contexts p) → Stands (context_moved n p s).scene
moved_step s n p h working node there free out other named =
    let t : Contexts = s.session.contexts in
    let next : ℕ = s.session.next_context in
    let stay : Stay t (reparented n p t) = stay_reparented t next h.contexts n p node there free out in
    contexts_step s h working (reparented n p t) next s.session.current s.around.shelf s.session.plans (contexts_reparented t next h.contexts n p node there free out)
    stay (has_reparented t next h.contexts s.session.current n p node there out h.current)
    (hooks_reparented n p t s.around.shelf h.contexts.once (moves_by t next h.contexts n p node there out) h.hooks)
    (still_planned s (reparented n p t) h stay (λ m k.
    let w = apart t next h.contexts m n free k.protected in lone_reparented m n p t h.contexts.once (moves_by t next h.contexts n p node there out) (λ z. other m k (sym z)) w.0 w.1 k.lone))
    (still_portals s (reparented n p t) h stay (λ m expr k.
    let w = apart t next h.contexts m n free k.protected in
    row_reparented m expr n p t next s.session.current h.contexts (moves_by t next h.contexts n p node there out) w.0 w.1 free (named m expr k) k))

-- a hook waits
waits_step : (s : Scene) (n : ℕ) (hook : Hook) → Stands s → IsWorking s.session.levels → has n s.session.contexts ≡ true → first_of s.around.shelf.fresh ≡ Some hook → Stands (hook_waits n hook s).scene
waits_step s n hook h working there first =
    let t : Contexts = s.session.contexts in
    let next : ℕ = s.session.next_context in
    let f : Context → Context = λ c. record c { used = true; hooks = hook ∷ c.hooks } in
    let a = at_some n t there in
    contexts_step s h working (registered n hook t) next s.session.current (taken s.around.shelf) s.session.plans
    (contexts_changed t next h.contexts n f (λ c. refl) (λ c _ e. absurd (cc e)))
    (stay_changed t next h.contexts n f (λ c. refl))
    (has_changed s.session.current n f t ∙ h.current)
    (hooks_taken n f hook a.0 t s.around.shelf h.contexts.once a.1 refl first h.hooks)
    (still_planned s (registered n hook t) h (stay_changed t next h.contexts n f (λ c. refl)) (λ m k. lone_changed m n f t k.lone))
    (still_portals s (registered n hook t) h (stay_changed t next h.contexts n f (λ c. refl)) (λ m expr k. row_changed t h.contexts.once m expr s.session.current k n f (λ c. refl)))

-- Each element on contexts of a name, behind its checks.
module _ (w : Option ℕ) (moment : Moment) (h : Stands moment.scene) (working : IsWorking moment.scene.session.levels) where
  pub switch_works : (name : Text) → Works moment.scene (does w (Element.Switch name) moment).moment.scene
  unfolding does
  switch_works name =
      at_name (Works moment.scene) (context_named name moment.scene.session) switched moment.scene (nothing_works moment.scene h)
      (λ n e. (beside_by moment.scene _ refl refl
      (contexts_step moment.scene h working moment.scene.session.contexts moment.scene.session.next_context n moment.scene.around.shelf moment.scene.session.plans h.contexts (stay_same moment.scene.session.contexts)
      (named_there name moment.scene n h e) h.hooks
      (plans_current moment.scene.session.plans moment.scene.session.contexts moment.scene.session.current n (referred moment.scene.session.owners) (named_other name moment.scene n h e) h.plans)
      (portals_moved moment.scene.session.portals moment.scene.session.levels moment.scene.session.contexts moment.scene.session.contexts moment.scene.session.owners moment.scene.session.current n
      (λ m expr k. named_place name moment.scene n h e m expr k) h.portals))).works)

  pub delete_works : (name : Text) → failure (Check.MayDelete name) moment.scene ≡ None → Works moment.scene (does w (Element.Delete name) moment).moment.scene
  unfolding does
  delete_works name ok = grind (arith, nat_tests, at_name, nothing_works, both_none, checked name, gone_step)

  pub delete_children_works : (name : Text) → failure (Check.MayReset name) moment.scene ≡ None → Works moment.scene (does w (Element.DeleteChildren name) moment).moment.scene
  unfolding does
  delete_children_works name ok = grind (arith, nat_tests, at_name, nothing_works, both_none, checked name, children_step)

  pub reset_works : (name : Text) → failure (Check.MayReset name) moment.scene ≡ None → Works moment.scene (does w (Element.Reset name) moment).moment.scene
  unfolding does
  reset_works name ok = grind (arith, nat_tests, at_name, nothing_works, both_none, checked name, cleared_step)

  pub reset_only_works : (name : Text) → Works moment.scene (does w (Element.ResetOnly name) moment).moment.scene
  unfolding does
  reset_only_works name = grind (arith, nat_tests, at_name, nothing_works, alone_step)

  pub reparent_works : (name parent : Text) → failure (Check.MayMove name parent) moment.scene ≡ None → Works moment.scene (does w (Element.Reparent name parent) moment).moment.scene
  unfolding does
  reparent_works name parent ok =
      at_name (Works moment.scene) (context_named name moment.scene.session) (λ n. at_context parent (context_moved n)) moment.scene (nothing_works moment.scene h)
      (λ n e. at_name (Works moment.scene) (context_named parent moment.scene.session) (context_moved n) moment.scene (nothing_works moment.scene h)
      (λ p q.
      let may : set_parent_refusal n p moment.scene.session.contexts ≡ None = grind (arith, nat_tests, checked name moment.scene.session) in
      let b = both_none (is_protected n moment.scene.session.contexts) (is_within n p moment.scene.session.contexts) Protected Cycle may in
      record { stands = moved_step moment.scene n p h working (named_there name moment.scene n h e) (named_there parent moment.scene p h q) b.0 b.1 (named_other parent moment.scene p h q) (named_place parent moment.scene p h q); levels = refl; at_rest = λ r. r }))

  pub make_script_context_works : (name parent : Text) (kind : CtxKind) → Works moment.scene (does w (Element.MakeContext (NewContext.ScriptContext name parent kind)) moment).moment.scene
  unfolding does
  make_script_context_works name parent kind =
      fallible_keeps (Works moment.scene) w moment _ (new_context_made (NewContext.ScriptContext name parent kind)) (nothing_works moment.scene h)
      (λ _. at_name (Works moment.scene) (context_named parent moment.scene.session) (λ p. context_made p name false kind) moment.scene (nothing_works moment.scene h)
      (λ p e.
      let t : Contexts = moment.scene.session.contexts in
      let next : ℕ = moment.scene.session.next_context in
      let there : has p t ≡ true = named_there parent moment.scene p h e in
      record {
        stands = contexts_step moment.scene h working (created p next name kind false t) (next + 1) moment.scene.session.current moment.scene.around.shelf moment.scene.session.plans
            (contexts_created t next h.contexts p name kind false there (λ z. absurd (cc z)))
            (stay_created t next h.contexts p name kind false)
            (has_created t next h.contexts moment.scene.session.current p name kind false h.current)
            (hooks_put p next (new_context name kind false) t moment.scene.around.shelf h.contexts.once refl h.hooks)
            (still_planned moment.scene (created p next name kind false t) h (stay_created t next h.contexts p name kind false)
            (λ m k. lone_put m p next (new_context name kind false) Empty t (λ z. named_other parent moment.scene p h e m k (sym z)) (λ z. omega (arith, z, h.contexts.below m (protected_has m t k.protected))) refl k.lone))
            (still_portals moment.scene (created p next name kind false t) h (stay_created t next h.contexts p name kind false)
            (λ m expr k.
            let other : IsPlace m expr t p = named_place parent moment.scene p h e m expr k in
            row_put t h.contexts.once m expr moment.scene.session.current k p next (new_context name kind false) Empty (λ z. other.other (sym z)) (λ z. omega (arith, z, h.contexts.below m (protected_has m t k.protected))) refl
            (λ e q z. other.apart (q ∙ ap Some z))));
        levels = refl;
        at_rest = λ r. r;
      }))

  pub register_works : (name : Text) → Works moment.scene (does w (Element.Register name) moment).moment.scene
  unfolding does
  register_works name = grind (arith, nat_tests, fallible_keeps, nothing_works, at_name, named_there name, waits_step)
