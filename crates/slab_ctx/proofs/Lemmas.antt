-- The lemmas of this crate that the answers take.
pub use Rattle.slab_ctx.proofs.Bounds.{bytes-small, empty-small, free-is, free-small}
pub use Rattle.slab_ctx.proofs.Full.{Agrees_plain, AllOfKind-full, Moves-full, Moves-gone, Moves-made, TakesSpace-full}
pub use Rattle.slab_ctx.proofs.KeptSteps.{blocks-counted, empty-least, free-least, kept-added, kept-changed, kept-dropped, kept-none, ledger-parts}
pub use Rattle.slab_ctx.proofs.Listed.{blocks-dropped, find-other, map-added}
pub use Rattle.slab_ctx.proofs.Lives.{live_is, sums_are}
pub use Rattle.slab_ctx.proofs.Numbers.{per_block-few, stride-whole, stride_least}
pub use Rattle.slab_ctx.proofs.Placed.{entry-inserted, entry-removed, entry-set, few-put, leaf-changed, leaf-put, least-own, pair-at}
pub use Rattle.slab_ctx.proofs.Places.{chunks-few, clear-of, depth-few, gap-is, one-more, room-left, slot-whole, start-is}
pub use Rattle.slab_ctx.proofs.Public.{both_ok, length_blocks, live_stays, resizes_same, some_is}
pub use Rattle.slab_ctx.proofs.Served.{freed-is, live-last}
pub use Rattle.slab_ctx.proofs.Slotted.{IsSlotted-added, IsSlotted-drop, IsSlotted_none}
pub use Rattle.slab_ctx.proofs.Taken.{IsSlotted-cut, IsSlotted-placed, IsSlotted-removed}
pub use Rattle.slab_ctx.proofs.Taken.{counted}
pub use Rattle.slab_ctx.proofs.Trees.{first-there, lesser-read, node-other, raised, settled, some_with}
