-- What stands above what in the trees of the tests.
use Rattle.std.proofs.Common.{◌≡◌, ℕ, true, false, List, refl}
use Rattle.std.specs.Prelude.{codes}
use Rattle.any_ctx.specs.declared.any.CtxKind.{CtxKind}
use Rattle.any_ctx.specs.declared.any.CtxKind.TheVariants.{Default, Slab}
use Rattle.forest.specs.Forest.{Empty, has, is_above, removed}
use Rattle.context_rules.specs.Contexts.{Contexts}
use Rattle.context_trials.specs.declared.trial.At.{At}
use Rattle.context_trials.specs.declared.trial.At.TheVariants.{Top, Level, Named}
use Rattle.context_trials.specs.Standing.{begun, made_in, moved_in, number_of}

-- a context that was made below another one
abbrev one_context : At → List ℕ → CtxKind → Contexts
one_context parent name kind = made_in (number_of parent begun) 7 name kind begun

-- what calls made, step by step
pub record OneContext (parent : At) (word : List ℕ) (kind : CtxKind) (name : List ℕ) (n : ℕ) (s t : Contexts) : Type 0 where
  pub begins : s ≡ begun
  pub number : n ≡ 7
  pub named : name ≡ word
  pub made : t ≡ made_in (number_of parent s) n name kind s

one_context_is : (parent : At) (word : List ℕ) (kind : CtxKind) (name : List ℕ) (n : ℕ) (s t : Contexts) → OneContext parent word kind name n s t → t ≡ one_context parent word kind
one_context_is parent word kind name n s t h = rw (h.made, h.named, h.number, h.begins) refl

-- the topmost context isn't below that of level 1
pub apart_top : (name : List ℕ) (n : ℕ) (s t : Contexts) → OneContext Top (codes "w") Default name n s t → is_above 6 1 t ≡ false
apart_top name n s t h = rw (one_context_is Top (codes "w") Default name n s t h) refl

pub apart_level : (name : List ℕ) (n : ℕ) (s t : Contexts) → OneContext Level (codes "s") (Slab 64) name n s t → is_above 6 1 t ≡ false
apart_level name n s t h = rw (one_context_is Level (codes "s") (Slab 64) name n s t h) refl

pub apart_moved : (name : List ℕ) (n : ℕ) (s t u : Contexts) → OneContext Top (codes "w") Default name n s t → u ≡ moved_in (number_of (Named name) t) (number_of Level t) t → is_above 6 1 u ≡ false
apart_moved name n s t u h moved = rw (moved, one_context_is Top (codes "w") Default name n s t h, h.named) refl

-- and it goes last
pub stands_top : (name : List ℕ) (n : ℕ) (s t u : Contexts) → OneContext Top (codes "w") Default name n s t → u ≡ removed 6 t → has 1 u ≡ true
stands_top name n s t u h gone = rw (gone, one_context_is Top (codes "w") Default name n s t h) refl

pub goes_last : (name : List ℕ) (n : ℕ) (s t u : Contexts) → OneContext Top (codes "w") Default name n s t → u ≡ removed 6 t → removed 1 u ≡ Empty
goes_last name n s t u h gone = rw (gone, one_context_is Top (codes "w") Default name n s t h) refl
