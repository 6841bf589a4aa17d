-- What the making of a context does.
use Rattle.std.specs.Prelude.{◌≡◌, ◌≢◌, ◌⊎◌, ℕ, ◌+◌, ◌-◌, ◌≤◌, Bool, not, nat_lt, List, Option, Some, None}
use Rattle.pgs_step.specs.declared.ids.CtxId.{CtxId}
use Rattle.addr_space.specs.Space.{Space, held, Asks}
use Rattle.addr_space.specs.Footprint as foot
use Rattle.addr_space.specs.Footprint.{nothing}
use Rattle.forest.specs.declared.id.NodeId.{NodeId}
use Rattle.forest.specs.Forest.{Forest, Empty, Node, put, size}
use Rattle.forest.specs.Forested.{Forested}
use Rattle.any_ctx.specs.Kinds.{first_size}
use Rattle.any_ctx.specs.declared.any.CtxKind.{CtxKind}
use Rattle.context_rules.specs.Contexts as rules
use Rattle.context_rules.specs.Refusals.{first_of, where_so, create_refusal}
use Rattle.context_rules.specs.declared.errors.TreeError.{TreeError}
use Rattle.context_rules.specs.declared.errors.TreeError.TheVariants.{TooMany, Ctx, Memory}
use Rattle.chunk_header.specs.declared.CtxError.TheVariants.{NoSpace}
use Rattle.context_node.specs.declared.making.NewContext.{NewContext}
use Rattle.context_node.specs.Kept.{Kept}
use Rattle.context_tree.specs.State.{TreeState, IsLive, place_of, stands_for, left_of}
use Rattle.context_node.specs.Making.{Made}

-- why no context of that kind can be made, its name aside, where so many live and so much is left of the account
abbrev pub room_refusal : ℕ → ℕ → CtxKind → Option TreeError
room_refusal many left kind = first_of (where_so (not (nat_lt many 65536)) TooMany) (where_so (nat_lt left (first_size kind)) (Ctx NoSpace))

-- a forest with a node more: the first child of the one of a number, or the first root
abbrev pub entered_at : {A : Type 0} → Option ℕ → ℕ → A → Forest A → Forest A
entered_at None n a t = Node n a Empty t
entered_at (Some p) n a t = put p n a Empty t

-- a context was made, the first child of the one of this number, or the topmost one
pub record Grew (f g : Forested Kept) (new : NewContext) (parent : Option ℕ) (id : NodeId) (account : ℕ) (s t : Space) : Type 0 where
  pub context : Kept
  pub made : Made new context account id.slot s t
  pub number : id.number ≡ new.number
  pub forest : g.forest ≡ entered_at parent new.number context f.forest
  pub places : g.places ≡ entered_at parent new.number id.slot f.places
  pub served : room_refusal (size f.forest) (s.limit - held s account) new.kind ≡ None

-- nothing happened to the space, but that blocks may have been made and given back
pub record CameBack (account : ℕ) (s t : Space) : Type 0 where
  pub slot : ℕ
  pub moves : foot.Moves (nothing account slot) (nothing account slot) s t

-- What was asked for a context that wasn't made: nothing, or, where memory was wanted, its first block, which was given back.
abbrev pub AsksInVain : TreeError → ℕ → ℕ → Space → Space → Type 0
AsksInVain e account n s t = (Asks account 0 s t) ⊎ ((e ≡ Memory) × Asks account n s t)

-- the account took a part of so many bytes, or none
abbrev pub AsksPart : ℕ → ℕ → Space → Space → Type 0
AsksPart account most s t = (n : ℕ) × (n ≤ most) × Asks account n s t

-- What was asked for a tree that wasn't made: nothing, or, where memory was wanted, a part of what it asks, all of which was given back.
abbrev pub AsksPartInVain : TreeError → ℕ → ℕ → Space → Space → Type 0
AsksPartInVain e account most s t = (Asks account 0 s t) ⊎ ((e ≡ Memory) × AsksPart account most s t)

-- a context was made in a tree, as `create` says
pub record Added (a b : TreeState) (p : ℕ) (name : List ℕ) (kind : CtxKind) (protected : Bool) (id : CtxId) (s t : Space) : Type 0 where
  pub number : id.number ≡ a.next
  pub contexts : stands_for b t ≡ rules.created p a.next name kind protected (stands_for a s)
  pub places : b.places ≡ put p id.number id.slot Empty a.places
  pub live : IsLive b id
  pub stays : (n : ℕ) → n ≢ a.next → place_of b n ≡ place_of a n
  pub current : b.current ≡ a.current
  pub next : b.next ≡ a.next + 1
  pub asked : Asks a.account (first_size kind) s t
  pub served : create_refusal (left_of a s) name kind protected (stands_for a s) ≡ None

-- a tree of which only the contexts are known, and their account
abbrev pub bare : ℕ → Forest Kept → TreeState
bare account kept = record { kept = kept; places = Empty; account = account; current = record { number = 1; slot = 0 }; next = 1 }
