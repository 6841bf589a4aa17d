-- What holds of a trial at all times, and what its calls make of its contexts.
use Rattle.std.specs.Prelude.{◌≡◌, ℕ, ◌+◌, ◌-◌, ◌<◌, ◌≤◌, true, false, List, [], ◌∷◌, codes, Option, Some}
use Rattle.std.specs.Option.{option_map_or}
use Rattle.pgs_step.specs.declared.ids.CtxId.{CtxId}
use Rattle.pgs_step.specs.declared.events.What.{What}
use Rattle.addr_space.specs.Space.{Space, held}
use Rattle.reset_callbacks.specs.Hook.{Hook, AreDistinct}
use Rattle.reset_callbacks.specs.ShelfState as shelf
use Rattle.any_ctx.specs.declared.any.CtxKind.{CtxKind}
use Rattle.any_ctx.specs.declared.any.CtxKind.TheVariants.{Default}
use Rattle.context_rules.specs.Contexts.{Contexts, context_named, created, created_events, reparented, reparented_events}
use Rattle.context_rules.specs.Chunks.{allocated, registered, resized, zeros}
use Rattle.context_rules.specs.Ends.{Ended, unchanged, waiting}
use Rattle.context_rules.specs.Opening.{opening}
use Rattle.context_tree.specs.State.{TreeState, Agrees, IsLive, stands_for, total_of}
use Rattle.context_trials.specs.declared.trial.At.{At}
use Rattle.context_trials.specs.declared.trial.At.TheVariants.{Top, Level, Named}
use Rattle.context_trials.specs.declared.trial.Trial.{Trial}

-- the contexts of a trial
abbrev pub contexts_of : Trial → Contexts
contexts_of t = stands_for t.tree t.space

-- the bytes that they may hold
abbrev pub limit : ℕ
limit = 134217728

-- the tree agrees with its space, which has nothing else and this limit; its first account is the tree's, and the topmost
-- context is the current one
pub record Sits (tree : TreeState) (s : Space) : Type 0 where
  pub agrees : Agrees tree s
  pub account : tree.account ≡ 0
  pub limit : s.limit ≡ limit
  pub held : held s 0 ≡ total_of (stands_for tree s)
  pub current : tree.current.number ≡ 1

-- a context of this number is there, and it was made before
pub record IsThere (tree : TreeState) (id : CtxId) (n : ℕ) : Type 0 where
  pub number : id.number ≡ n
  pub live : IsLive tree id
  pub made : n < tree.next

-- What holds of a trial between two calls.
pub record Stands (t : Trial) : Type 0 where
  pub sits : Sits t.tree t.space
  pub last : t.tree.next ≡ t.last + 1
  pub few : t.last ≤ 1000000
  pub words : AreDistinct (shelf.held t.shelf)
  pub silent : t.hooked ≡ false → (waiting (contexts_of t) ≡ []) × (t.shelf.out ≡ 0)
  pub top : t.whole ≡ true → IsThere t.tree t.top 1
  pub level : t.whole ≡ true → IsThere t.tree t.level 6

-- a session in a transaction: its own contexts, and that of level 1
abbrev pub begun : Contexts
begun = created 1 6 (codes "TopTransactionContext") Default true opening

-- the number of a context
abbrev pub number_of : At → Contexts → Option ℕ
number_of Top contexts = Some 1
number_of Level contexts = Some 6
number_of (Named name) contexts = context_named name contexts

-- a context more below the one of a number, if that is there
abbrev pub made_in : Option ℕ → ℕ → List ℕ → CtxKind → Contexts → Contexts
made_in parent n name kind contexts = option_map_or (λ p. created p n name kind false contexts) parent contexts

-- and what is said then
abbrev pub made_events : Option ℕ → ℕ → List ℕ → List What
made_events parent n name = option_map_or (λ p. created_events p n name) parent []

-- a chunk more
abbrev pub taken_in : Option ℕ → List ℕ → ℕ → Contexts → Contexts
taken_in at chunk size contexts = option_map_or (λ n. allocated n (limit - total_of contexts) (Some chunk) size [] contexts) at contexts

-- a chunk of zeros more
abbrev pub zeroed_in : Option ℕ → List ℕ → ℕ → Contexts → Contexts
zeroed_in at chunk size contexts = option_map_or (λ n. allocated n (limit - total_of contexts) (Some chunk) size (zeros size) contexts) at contexts

-- a chunk of another size
abbrev pub fitted : List ℕ → ℕ → Contexts → Contexts
fitted chunk size contexts = resized (total_of contexts) limit chunk size contexts

-- a context below another one
abbrev pub moved_in : Option ℕ → Option ℕ → Contexts → Contexts
moved_in at parent contexts = option_map_or (λ n. option_map_or (λ p. reparented n p contexts) parent contexts) at contexts

abbrev pub moved_events : Option ℕ → Option ℕ → Contexts → List What
moved_events at parent contexts = option_map_or (λ n. option_map_or (λ p. reparented_events n p contexts) parent []) at []

-- what becomes of the contexts when one goes or is reset, if that is there
abbrev pub ended_at : (ℕ → Contexts → Ended) → Option ℕ → Contexts → Ended
ended_at end at contexts = option_map_or (λ n. end n contexts) at (unchanged contexts)

-- hooks that have not run, by their words
abbrev pub fresh_hook : ℕ → Hook
fresh_hook word = record { word = word; runs = 0 }

abbrev pub five_hooks : List Hook
five_hooks = fresh_hook 1 ∷ fresh_hook 2 ∷ fresh_hook 3 ∷ fresh_hook 4 ∷ fresh_hook 5 ∷ []

-- the first hook of a shelf waits
abbrev pub first_waits : ℕ → List Hook → Contexts → Contexts
first_waits n [] contexts = contexts
first_waits n (hook ∷ hooks) contexts = registered n hook contexts

abbrev pub waits_at : Option ℕ → List Hook → Contexts → Contexts
waits_at at hooks contexts = option_map_or (λ n. first_waits n hooks contexts) at contexts
