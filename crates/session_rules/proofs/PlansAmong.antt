-- The contexts of plans among those of levels, and what plans keep where other contexts change.
use Rattle.session_rules.proofs.Base.{◌≡◌, ◌≢◌, ℕ, ◌≤◌, ◌<◌, true, false, Option, Some, List, [], ◌∷◌, sym, ap, ◌∙◌, inl, arith, unwrap_or, All, option_map_or, nat_tests}
use Rattle.session_rules.proofs.Below.{Empty, has, children, parent_of, removed, above_by_parent, Contexts, is_protected, OwnerTree}
use Rattle.session_rules.proofs.Rules.{LevelState, StandingPlan, abort_context, cache_context, context_of, first_of, top_context, level_parent, AreContexts, AreLevels, AreOuter, ArePlans, IsPlan}
use Rattle.session_rules.proofs.ContextsKept.{IsSame, own_outside, same_removed}
use Rattle.session_rules.proofs.LevelsKept.{IsContext, is_there}
use Rattle.session_rules.proofs.Lone.{lone_left}
use Rattle.session_rules.proofs.Settling.{IsApart}

-- a context of a plan
pub record IsCached (m : ℕ) (contexts : Contexts) : Type 0 where
  pub protected : is_protected m contexts ≡ true
  pub parent : parent_of m contexts ≡ Some cache_context
  pub own : abort_context < m
  pub lone : children m contexts ≡ Empty

-- another context is the current one
pub plans_current : (plans : List StandingPlan) (t : Contexts) (a b : ℕ) (c : ℕ → ℕ) → ((m : ℕ) → IsCached m t → b ≢ m) → ArePlans plans t a c → ArePlans plans t b c
plans_current plans t a b c other h = grind (arith, nat_tests)

-- contexts change
pub plans_moved : (plans : List StandingPlan) (t u : Contexts) (current : ℕ) (c : ℕ → ℕ) → ((m : ℕ) → IsCached m t → IsSame m t u × (children m u ≡ Empty)) → ArePlans plans t current c → ArePlans plans u current c
plans_moved plans t u current c stay h = grind (arith, nat_tests)

-- references are counted in another way
pub plans_counted : (plans : List StandingPlan) (t : Contexts) (current : ℕ) (c d : ℕ → ℕ) → ((m : ℕ) → c m ≡ d m) → ArePlans plans t current c → ArePlans plans t current d
plans_counted plans t current c d same h = record { each = h.each; apart = h.apart; counted = λ m. h.counted m ∙ same m }

-- the parent of a level's context isn't the one for caches
pub above_other : (levels : List LevelState) (t : Contexts) (x : OwnerTree) → AreLevels levels t x → level_parent (first_of levels) ≢ cache_context
above_other [] t x l = λ z. absurd (omega (arith, z))
above_other (level ∷ levels) t x l = grind (arith, λ (n : ℕ) (e : level.context ≡ Some n). (l.0.context n e).own)

pub some_is : (a b : ℕ) → Some a ≡ Some b → a ≡ b
some_is a b e = cc e

-- a level's context isn't that of a plan
pub levels_other : (levels : List LevelState) (t : Contexts) (x : OwnerTree) → AreLevels levels t x → (n : ℕ) → IsContext n levels → (m : ℕ) → IsCached m t → n ≢ m
levels_other [] t x l n i m c = absurd i
levels_other (level ∷ levels) t x l n i m c = grind (arith, nat_tests, above_other levels t x l.1, some_is (level_parent (first_of levels)) cache_context, levels_other levels t x l.1 n)

pub levels_apart : (levels : List LevelState) (t : Contexts) (x : OwnerTree) (plans : List StandingPlan) (current : ℕ) → AreLevels levels t x → All (λ plan. IsPlan plan t current) plans → (n : ℕ) → IsContext n levels → IsApart n plans
levels_apart levels t x plans current l each n i = grind (arith, nat_tests, levels_other levels t x l n i)

-- the session's own contexts aren't
pub own_other : (n : ℕ) → n ≤ abort_context → (t : Contexts) (m : ℕ) → IsCached m t → n ≢ m
own_other n small t m c = λ z. absurd (omega (arith, z, small, c.own))

-- nor is it below a level's context
pub plan_outside : (level : LevelState) (levels : List LevelState) (t : Contexts) (x : OwnerTree) (next n : ℕ) → AreContexts t next → AreLevels (level ∷ levels) t x → level.context ≡ Some n → (m : ℕ) → IsCached m t
    → (m ≢ n) × (has m (children n t) ≡ false)
plan_outside level levels t x next n h l e m c =
    let own : abort_context < n = (l.0.context n e).own in
    let out = own_outside t next h cache_context n (omega arith) (omega arith) own in (
      λ z. levels_other (level ∷ levels) t x l n (inl e) m c (sym z),
      above_by_parent m cache_context n t h.once c.parent out.0 ∙ out.1,
    )

-- what is left of a plan's context where a context goes that it isn't in
pub cached_left : (t : Contexts) (next n : ℕ) → AreContexts t next → (m : ℕ) → IsCached m t → (m ≢ n) × (has m (children n t) ≡ false) → IsSame m t (removed n t) × (children m (removed n t) ≡ Empty)
cached_left t next n h m c out = (same_removed t next h m n out c.protected, lone_left m n t h.once out.0 out.1 c.lone)

-- the context of the level above, or the topmost one, isn't a plan's
pub above_apart : (levels : List LevelState) (t : Contexts) (x : OwnerTree) → AreLevels levels t x → AreOuter levels → (m : ℕ) → IsCached m t → unwrap_or (context_of (first_of levels)) top_context ≢ m
above_apart [] t x l o m c = own_other top_context (omega arith) t m c
above_apart (level ∷ levels) t x l o m c =
    let k = is_there level.context o.0.made.context in
    λ z. levels_other (level ∷ levels) t x l k.0 (inl k.1) m c (sym (ap (λ (z : Option ℕ). unwrap_or z top_context) k.1) ∙ z)

-- nor is the parent of a new context of a level
pub parent_apart : (levels : List LevelState) (t : Contexts) (x : OwnerTree) → AreLevels levels t x → AreOuter levels → (m : ℕ) → IsCached m t → level_parent (first_of levels) ≢ m
parent_apart [] t x l o m c = own_other top_context (omega arith) t m c
parent_apart (level ∷ levels) t x l o m c =
    let k = is_there level.context o.0.made.context in
    λ z. levels_other (level ∷ levels) t x l k.0 (inl k.1) m c (sym (ap (λ (z : Option ℕ). option_map_or (λ n. n) z top_context) k.1) ∙ z)
