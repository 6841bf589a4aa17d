-- No hook waits on a context of the session itself below the one for caches.
use Rattle.session_laws.proofs.Words.{◌≡◌, ℕ, Bool, true, false, if◌then◌else◌, [], Option, Some, None, refl, sym, ap, ◌∙◌, subst, inl, inr, List, ◌∷◌, ◌++◌, codes, reverse, arith, ◌==◌, ◌⊎◌, both_ways, cases_Bool, cond-false, eqb-true, false_from_ne_true, eq-eqb, ne_eqb, Empty, Node, Once, at, changed, children, has, is_root, parent_of, put, removed, with_children, at_absent, at_some, apart_of, has_at, where_is, reverse-append, nat_tests, parent_root, root_absent}
use Rattle.session_laws.proofs.Scenes.{Context, Contexts, is_protected, new_context, cache_context, LevelState, context_of, first_of, last_of, level_context, top_context, What, CtxKind, Scene, Text, context_named, AreLevels, Stands, IsContext}
use Rattle.session_laws.proofs.Rules.{ContextLeaves, of_contexts, EndLeaves, ContextLaw, context_ends, context_makes, top_parent, StandingMoves, standing_moves}
use Rattle.pgs_command.specs.Words.{is_text}
use Rattle.context_rules.specs.Names.{same_name}
use Rattle.session_rules.proofs.PlansAmong.{above_other, some_is}
use Rattle.session_laws.proofs.Lives.{OwesTurns, owes_by}
use Rattle.context_rules.specs.Contexts as rules

-- on a context of the session itself no hook waits where its parent is the one for caches
abbrev pub IsQuiet : Option ℕ → Context → Type 0
IsQuiet parent c = parent ≡ Some cache_context → c.protected ≡ true → c.hooks ≡ []

-- that is so of each context, where this is the parent of the first ones
abbrev pub AreQuiet : Option ℕ → Contexts → Type 0
AreQuiet parent Empty = Unit {0}
AreQuiet parent (Node n c below beside) = IsQuiet parent c × AreQuiet (Some n) below × AreQuiet parent beside

pub quiet_removed : (p : Option ℕ) (n : ℕ) (t : Contexts) → AreQuiet p t → AreQuiet p (removed n t)
quiet_removed p n Empty h = tt
quiet_removed p n (Node k c below beside) h = grind (arith, nat_tests, quiet_removed p n beside, quiet_removed (Some k) n below)

pub quiet_emptied : (p : Option ℕ) (n : ℕ) (t : Contexts) → AreQuiet p t → AreQuiet p (with_children n Empty t)
quiet_emptied p n Empty h = tt
quiet_emptied p n (Node k c below beside) h = grind (arith, nat_tests, quiet_emptied p n beside, quiet_emptied (Some k) n below)

-- a change that keeps whether hooks wait, or takes them away
pub record Hushes (f : Context → Context) : Type 0 where
  pub protected : (c : Context) → (f c).protected ≡ c.protected
  pub hooks : (c : Context) → c.hooks ≡ [] → (f c).hooks ≡ []

pub quiet_changed : (p : Option ℕ) (n : ℕ) (f : Context → Context) (t : Contexts) → Hushes f → AreQuiet p t → AreQuiet p (changed n f t)
quiet_changed p n f Empty l h = tt
quiet_changed p n f (Node k c below beside) l h = grind (arith, nat_tests, quiet_changed (Some k) n f below, quiet_changed p n f beside)

pub quiet_put : (p : Option ℕ) (q n : ℕ) (c : Context) (sub t : Contexts) → ((o : Option ℕ) → IsQuiet o c) → AreQuiet (Some n) sub → AreQuiet p t → AreQuiet p (put q n c sub t)
quiet_put p q n c sub Empty new low h = tt
quiet_put p q n c sub (Node k a below beside) new low h = elim (cases_Bool (k == q)) [
  | inl y ↦ rw y (h.0, (new (Some k), low, h.1), quiet_put p q n c sub beside new low h.2)
  | inr z ↦ rw z (h.0, quiet_put (Some k) q n c sub below new low h.1, quiet_put p q n c sub beside new low h.2)
]

pub quiet_children : (p : Option ℕ) (n : ℕ) (t : Contexts) → AreQuiet p t → AreQuiet (Some n) (children n t)
quiet_children p n Empty h = tt
quiet_children p n (Node k c below beside) h = grind (arith, nat_tests, quiet_children (Some k) n below, quiet_children p n beside)

-- the parent of a number, where this is that of the first ones
abbrev up : Option ℕ → ℕ → Contexts → Option ℕ
up p n t = if is_root n t then p else parent_of n t

-- what is so of the context at a number is so wherever it stands
pub quiet_at : (p : Option ℕ) (n : ℕ) (c : Context) (t : Contexts) → Once t → has n t ≡ true → at n t ≡ Some c → AreQuiet p t → IsQuiet (up p n t) c
quiet_at p n c Empty o u is h = absurd (cc is)
quiet_at p n c (Node k a below beside) o u is h = grind (arith, nat_tests, quiet_at (Some k) n c below, quiet_at p n c beside, apart_of, where_is, at_some, root_absent, at_absent)

-- a context changes, where it may
pub quiet_changed_at : (p : Option ℕ) (n : ℕ) (f : Context → Context) (t : Contexts) → Once t → ((c : Context) → at n t ≡ Some c → IsQuiet (up p n t) (f c)) → AreQuiet p t → AreQuiet p (changed n f t)
quiet_changed_at p n f Empty o k h = tt
quiet_changed_at p n f (Node m a below beside) o k h = grind (arith, nat_tests, quiet_changed_at (Some m) n f below, quiet_changed_at p n f beside, apart_of, eqb-true, root_absent, at_absent)

-- what waits nowhere
pub no_hooks : (n : ℕ) (c : Context) (t : Contexts) → Once t → AreQuiet None t → at n t ≡ Some c → is_protected n t ≡ true → parent_of n t ≡ Some cache_context → c.hooks ≡ []
no_hooks n c t o h is own parent = grind (arith, nat_tests, has_at, false_from_ne_true, parent_root, quiet_at, cond-false)

-- No hook waits on a context of the session itself below the one for caches, whatever a line does.

-- the law
pub record KeepsQuiet (s t : Scene) (events : List What) : Type 0 where
  pub so : AreQuiet None s.session.contexts → AreQuiet None t.session.contexts

made_quiet : (parent n : ℕ) (name : Text) (kind : CtxKind) (protected : Bool) (t : Contexts) → AreQuiet None t → AreQuiet None (rules.created parent n name kind protected t)
made_quiet parent n name kind protected t h = quiet_put None parent n (new_context name kind protected) Empty t (λ o e own. refl) tt h

quiet_leaves : ContextLeaves KeepsQuiet
quiet_leaves = grind (arith, nat_tests, quiet_removed, quiet_emptied, quiet_changed)

quiet_law : ContextLaw KeepsQuiet
quiet_law = record {
  sight = record { both = λ h k. record { so = λ q. k.so (h.so q) }; aside = λ s t same h. record { so = λ k. subst (AreQuiet None) (sym (same.so of_contexts refl)) k } };
  contexts = quiet_leaves;
  made = λ parent name protected kind. record { so = λ s. record { so = made_quiet parent s.session.next_context name kind protected s.session.contexts } };
}

pub quiet_ends : EndLeaves KeepsQuiet
quiet_ends = context_ends KeepsQuiet quiet_law

-- the context of the first level of a list that is put together
first_context : (levels : List LevelState) (n : ℕ) → context_of (first_of levels) ≡ Some n → IsContext n levels
first_context levels n e = grind (arith, nat_tests)

in_both : (xs ys : List LevelState) (n : ℕ) → IsContext n (xs ++ ys) → IsContext n xs ⊎ IsContext n ys
in_both [] ys n i = inr i
in_both (x ∷ xs) ys n i = grind (arith, nat_tests, in_both xs ys n)

in_reverse : (levels : List LevelState) (n : ℕ) → IsContext n (reverse levels) → IsContext n levels
in_reverse [] n i = i
in_reverse (level ∷ levels) n i = elim (in_both (reverse levels) (level ∷ []) n (subst (IsContext n) (reverse-append (level ∷ []) levels) i)) [
  | inl j ↦ inr (in_reverse levels n j)
  | inr j ↦ elim j [ inl e ↦ inl e | inr k ↦ absurd k ]
]

-- a level's context isn't below the one for caches
levels_elsewhere : (levels : List LevelState) (s : Scene) (n : ℕ) → AreLevels levels s.session.contexts s.session.owners → IsContext n levels → parent_of n s.session.contexts ≡ Some cache_context → ⊥
levels_elsewhere [] s n l i e = i
levels_elsewhere (level ∷ levels) s n l i e = grind (arith, nat_tests, levels_elsewhere levels s n l.1, above_other, some_is)

-- a context of the script is none of the session's own
script_there : (name : Text) (t : Contexts) (n : ℕ) → rules.context_named name t ≡ Some n → has n t ≡ true
script_there name Empty n e = absurd (cc e)
script_there name (Node k c below beside) n e = grind (arith, nat_tests, script_there name below, script_there name beside)

script_free : (name : Text) (t : Contexts) (n : ℕ) → Once t → rules.context_named name t ≡ Some n → is_protected n t ≡ false
script_free name Empty n o e = refl
script_free name (Node k c below beside) n o e = grind (arith, nat_tests, script_free name below, script_free name beside, same_name, eq-eqb, some_is, script_there, both_ways, apart_of, ne_eqb, at_absent, at_some)

-- so a context that a name leads to isn't one of the session below the one for caches
named_elsewhere : (name : Text) (s : Scene) (n : ℕ) → Stands s → context_named name s.session ≡ Some n → is_protected n s.session.contexts ≡ true → parent_of n s.session.contexts ≡ Some cache_context → ⊥
named_elsewhere name s n h e own parent =
    go (is_text name (codes "TopMemoryContext")) (is_text name (codes "CacheMemoryContext")) (is_text name (codes "TopTransactionContext")) (is_text name (codes "CurTransactionContext")) e
  where
    t : Contexts
    t = s.session.contexts

    go : (a b c d : Bool)
        → (if a then Some top_context else (if b then Some cache_context else (if c then context_of (last_of s.session.levels) else (if d then level_context s.session else rules.context_named name s.session.contexts)))) ≡ Some n
        → ⊥
    go true b c d e =
        let z : None ≡ Some cache_context = sym (top_parent (λ c. c.protected) top_context t h.contexts.once h.contexts.rooted) ∙ ap (λ (m : ℕ). parent_of m t) (some_is top_context n e) ∙ parent in
        absurd (cc z)
    go false true c d e =
        let z : Some top_context ≡ Some cache_context = sym (h.contexts.own cache_context (omega arith) (omega arith)).parent ∙ ap (λ (m : ℕ). parent_of m t) (some_is cache_context n e) ∙ parent in
        let w : top_context ≡ cache_context = some_is top_context cache_context z in
        absurd (omega (arith, w))
    go false false true d e = levels_elsewhere s.session.levels s n h.levels (in_reverse s.session.levels n (first_context (reverse s.session.levels) n e)) parent
    go false false false true e = levels_elsewhere s.session.levels s n h.levels (first_context s.session.levels n e) parent
    go false false false false e = both_ways (is_protected n t) (script_free name t n h.contexts.once e) own

-- a hook is registered, and a context moves
quiet_moves : StandingMoves KeepsQuiet
quiet_moves = grind (arith, nat_tests, quiet_changed_at, named_elsewhere, quiet_put, both_ways, quiet_children, quiet_removed)

pub quiet_owed : OwesTurns KeepsQuiet
quiet_owed = owes_by KeepsQuiet quiet_ends (context_makes KeepsQuiet quiet_law) (λ error s. record { so = λ k. k }) (standing_moves KeepsQuiet quiet_ends.levels.leaves.acts quiet_moves)
