-- The lemmas of this crate that the answers take.
pub use Rattle.generation_ctx.proofs.Forgotten.{freed_is, frees_less, given_gone, ledger_less, less_one}
pub use Rattle.generation_ctx.proofs.Kept.{kept_add, kept_next, kept_own, kept_put, kept_seated, kept_sized, kept_spare, ledger_add, spare_current, spare_live, were_put}
pub use Rattle.generation_ctx.proofs.Numbers.{block_is, keeper_test, ledger_put, numbered_put, one_region, own_of, seated}
pub use Rattle.generation_ctx.proofs.Places.{chunk_kept, chunk_there, place, places, places_move}
pub use Rattle.generation_ctx.proofs.Refilled.{emptied_is, rearranges_drop, rearranges_refill}
pub use Rattle.generation_ctx.proofs.Resets.{alone}
pub use Rattle.generation_ctx.proofs.Steps.{allocates_more, frees_more, rearranges_more, rearranges_none}
