-- What a tree of contexts is seen as, and what it stands for in a space.
use Rattle.std.specs.Prelude.{◌≡◌, ◌≢◌, ◌↔◌, ℕ, ◌+◌, ◌-◌, ◌<◌, ◌≤◌, ◌++◌, length, Option, Some, None, Result, Ok, Err}
use Rattle.pgs_step.specs.declared.ids.CtxId.{CtxId}
use Rattle.addr_space.specs.Space.{Space, Region, accounts, held, region_at, IsKnown}
use Rattle.addr_space.specs.Footprint as foot
use Rattle.forest.specs.Forest.{Forest, Empty, Node, at, mapped}
use Rattle.reset_callbacks.specs.Hook.{AreDistinct}
use Rattle.reset_callbacks.specs.ShelfState as shelf
use Rattle.reset_callbacks.specs.ShelfState.{ShelfState}
use Rattle.any_ctx.specs.Ledgers.{stats}
use Rattle.any_ctx.specs.Contexts.{footprint}
use Rattle.context_rules.specs.Contexts.{Contexts}
use Rattle.context_rules.specs.Ends.{waiting}
use Rattle.context_rules.specs.declared.errors.TreeError.{TreeError}
use Rattle.context_node.specs.declared.entry.Entry.{Entry}
use Rattle.context_node.specs.Kept.{Kept}
pub use Rattle.context_node.specs.State.{context_of}

-- the contexts as the tree keeps them, by their numbers; where each lies; the account that they count for; the current
-- context; and the number that the next one gets
pub record TreeState : Type 0 where
  pub kept : Forest Kept
  pub places : Forest ℕ
  pub account : ℕ
  pub current : CtxId
  pub next : ℕ

-- no context yet, for an account
abbrev pub no_contexts : ℕ → TreeState
no_contexts account = record { kept = Empty; places = Empty; account = account; current = record { number = 1; slot = 0 }; next = 1 }

-- the context is there, at this slot
abbrev pub IsLive : TreeState → CtxId → Type 0
IsLive tree id = at id.number tree.places ≡ Some id.slot

-- where the context of that number lies
abbrev pub place_of : TreeState → ℕ → Option ℕ
place_of tree n = at n tree.places

-- the contexts that a tree and a space stand for
unfoldable pub stands_for : TreeState → Space → Contexts
stands_for tree s = mapped (context_of s) tree.kept

-- the space has what each context of the tree has in it, no two of them share a region, all count for the tree's account,
-- and the bytes that are known of their chunks are known in it
pub record Agrees (tree : TreeState) (s : Space) : Type 0 where
  pub account : tree.account < accounts s
  pub each : (n : ℕ) (k : Kept) → at n tree.kept ≡ Some k → foot.Agrees (footprint k.memory) s
  pub owned : (n : ℕ) (k : Kept) → at n tree.kept ≡ Some k → (footprint k.memory).account ≡ tree.account
  pub apart : (m n : ℕ) (j k : Kept) → m ≢ n → at m tree.kept ≡ Some j → at n tree.kept ≡ Some k → foot.AreDisjoint (footprint j.memory) (footprint k.memory)
  pub known : (n c : ℕ) (k : Kept) (e : Entry) → at n tree.kept ≡ Some k → at c k.chunks ≡ Some e → IsKnown s e.at e.known

-- a live region that no context of the tree owns
abbrev pub IsOutside : TreeState → Space → ℕ → Region → Type 0
IsOutside tree s number region =
    (region_at s number ≡ Some region) × ((n : ℕ) (k : Kept) → at n tree.kept ≡ Some k → (footprint k.memory).region number ≡ None)

-- the bytes of all contexts together, as their ledgers count them
abbrev pub total_of : Contexts → ℕ
total_of Empty = 0
total_of (Node n c below beside) = (stats c.ledger).total + (total_of below + total_of beside)

-- The tree went from one value to another and the space too: the space has what the tree's contexts have, every region of
-- others is as it was, with its bytes, and what the account holds changed by the totals of the contexts.
pub record Moves (a b : TreeState) (s t : Space) : Type 0 where
  pub agrees : Agrees b t
  pub account : b.account ≡ a.account
  pub outside : (number : ℕ) (region : Region) → IsOutside a s number region ↔ IsOutside b t number region
  pub accounts : accounts t ≡ accounts s
  pub limit : t.limit ≡ s.limit
  pub own : held t a.account + total_of (stands_for a s) ≡ held s a.account + total_of (stands_for b t)
  pub others : (account : ℕ) → account ≢ a.account → held t account ≡ held s account

-- what is left of the account
abbrev pub left_of : TreeState → Space → ℕ
left_of tree s = s.limit - held s tree.account

-- two spaces have the same regions and limits: they differ in what accounts took alone
pub record SameRegions (s t : Space) : Type 0 where
  pub regions : (number : ℕ) → region_at t number ≡ region_at s number
  pub limit : t.limit ≡ s.limit
  pub accounts : accounts t ≡ accounts s

-- the contexts stay where they are, and so do the current one and the next number
pub record StaysPut (a b : TreeState) : Type 0 where
  pub places : b.places ≡ a.places
  pub current : b.current ≡ a.current
  pub next : b.next ≡ a.next

-- the refusal in an answer
abbrev pub error_of : {A : Type 0} → Result A TreeError → Option TreeError
error_of (Ok a) = None
error_of (Err e) = Some e

-- As many hooks are out of the shelf as wait, and no two of those that wait and those that the shelf holds have one word.
pub record HooksFit (contexts : Contexts) (x : ShelfState) : Type 0 where
  pub out : length (waiting contexts) ≤ x.out
  pub words : AreDistinct (waiting contexts ++ shelf.held x)
