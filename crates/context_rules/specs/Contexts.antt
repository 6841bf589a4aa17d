-- A session's memory contexts: each with its chunks and its callbacks, and those below it.
use Rattle.std.specs.Prelude.{ℕ, ◌==◌, Bool, true, false, not, ◌&&◌, if◌then◌else◌, List, [], ◌∷◌, find, Option, Some, None, option_map}
use Rattle.std.specs.Option.{option_map_or}
use Rattle.pgs_step.specs.declared.events.What.{What}
use Rattle.pgs_step.specs.declared.events.What.TheVariants.{Create, Move}
use Rattle.forest.specs.Forest.{Forest, Empty, Node, either, at, children, parent_of, put, moved}
use Rattle.reset_callbacks.specs.Hook.{Hook}
use Rattle.any_ctx.specs.Ledgers.{Ledger, Place}
use Rattle.any_ctx.specs.Kinds as kinds
use Rattle.any_ctx.specs.declared.any.CtxKind.{CtxKind}
use Rattle.context_rules.specs.Names.{same_name}

-- a chunk: its name, if it has one, its size, where its context's ledger has it, and its bytes as far as they are known
pub record Chunk : Type 0 where
  pub name : Option (List ℕ)
  pub size : ℕ
  pub place : Place
  pub known : List ℕ

-- a context: its name and kind, whether it is one of the session's own, its ledger, whether a chunk was taken or a
-- callback registered since it was made or reset, its chunks, and the hooks that wait on it, of both the newest first
pub record Context : Type 0 where
  pub name : List ℕ
  pub kind : CtxKind
  pub protected : Bool
  pub ledger : Ledger
  pub used : Bool
  pub chunks : List Chunk
  pub hooks : List Hook

-- the contexts of a session by their numbers, each above its children, and these the newest first
abbrev pub Contexts : Type 0
Contexts = Forest Context

-- a context that was just made
abbrev pub new_context : List ℕ → CtxKind → Bool → Context
new_context name kind protected = record {
  name = name;
  kind = kind;
  protected = protected;
  ledger = kinds.created kind;
  used = false;
  chunks = [];
  hooks = [];
}

-- whether the context of that number is one of the session's own
abbrev pub is_protected : ℕ → Contexts → Bool
is_protected n contexts = option_map_or (λ c. c.protected) (at n contexts) false

-- whether no context is in a forest
abbrev pub is_nothing : Contexts → Bool
is_nothing Empty = true
is_nothing (Node n c below beside) = false

-- whether the context of that number is as it was when it was made or reset, and has no child
abbrev pub is_empty : ℕ → Contexts → Bool
is_empty n contexts = option_map_or (λ c. not c.used) (at n contexts) false && is_nothing (children n contexts)

-- the number of the context of that name that isn't protected
abbrev pub context_named : List ℕ → Contexts → Option ℕ
context_named name Empty = None
context_named name (Node n c below beside) =
    if not c.protected && same_name c.name name then Some n else either (context_named name below) (context_named name beside)

-- a chunk has this name
abbrev pub has_name : List ℕ → Chunk → Bool
has_name name chunk = option_map_or (λ own. same_name own name) chunk.name false

-- a chunk that was found by its name: it, the number of its context, and that one's ledger
pub record Found : Type 0 where
  pub context : ℕ
  pub ledger : Ledger
  pub chunk : Chunk

-- the chunk of that name, wherever it is
abbrev pub found : List ℕ → Contexts → Option Found
found name Empty = None
found name (Node n c below beside) =
    either (option_map (λ chunk. record { context = n; ledger = c.ledger; chunk = chunk }) (find (has_name name) c.chunks))
    (either (found name below) (found name beside))

-- A new context is the first of its parent's children.
abbrev pub created : ℕ → ℕ → List ℕ → CtxKind → Bool → Contexts → Contexts
created parent n name kind protected contexts = put parent n (new_context name kind protected) Empty contexts

abbrev pub created_events : ℕ → ℕ → List ℕ → List What
created_events parent n name = Create n name parent ∷ []

-- whether the context of the first number is a child of that of the second
abbrev pub is_child : ℕ → ℕ → Contexts → Bool
is_child n parent contexts = option_map_or (λ p. p == parent) (parent_of n contexts) false

-- A context with all below it becomes the first of another one's children; where it is a child of that one already,
-- nothing happens.
abbrev pub placed_under : Bool → ℕ → ℕ → Contexts → Contexts
placed_under true n parent contexts = contexts
placed_under false n parent contexts = moved n parent contexts

abbrev pub reparented : ℕ → ℕ → Contexts → Contexts
reparented n parent contexts = placed_under (is_child n parent contexts) n parent contexts

abbrev pub move_events : Bool → ℕ → ℕ → List What
move_events true n parent = []
move_events false n parent = Move n parent ∷ []

abbrev pub reparented_events : ℕ → ℕ → Contexts → List What
reparented_events n parent contexts = move_events (is_child n parent contexts) n parent
