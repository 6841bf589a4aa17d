-- The lemmas by which the functions' goals are answered.
pub use Rattle.ctx_blocks.proofs.Added.{empty_block, IsLaid-added, Moves-added, unowned}
pub use Rattle.ctx_blocks.proofs.Cleared.{first_only, Lessens-cleared, Moves-nothing, take-less}
pub use Rattle.ctx_blocks.proofs.Counts.{none_in, none_placed, one_in, some_in}
pub use Rattle.ctx_blocks.proofs.Dropped.{IsRegion-owned, Keeps-dropped, Lessens-dropped, lookup-last, Moves-dropped}
pub use Rattle.ctx_blocks.proofs.Headed.{AllHeaded-laid, AllOfKind-laid, headed_by, start_whole, takes-own, takes-shared}
pub use Rattle.ctx_blocks.proofs.Held.{IsLaid-held, IsWritten-held, Keeps-held, Moves-held, place_free}
pub use Rattle.ctx_blocks.proofs.Laid.{chunks_clear, gap_cases, live_is}
pub use Rattle.ctx_blocks.proofs.Lessened.{IsFilled-whole, IsLaid-lessened, Lessens, Lessens-put, Lessens-sized, MovesStill-lessened}
pub use Rattle.ctx_blocks.proofs.New.{IsKept-new, keeper_is, keeper_start, Moves-bare, Moves-new, total_one}
pub use Rattle.ctx_blocks.proofs.Numbered.{first_upto, region_by_number, rising_add, rising_drop, rising_put}
pub use Rattle.ctx_blocks.proofs.Ordered.{first-swap_remove, sum-in_order}
pub use Rattle.ctx_blocks.proofs.Put.{IsCounted-put, regions-put}
pub use Rattle.ctx_blocks.proofs.Summed.{Summed, summed-all, summed-more}
pub use Rattle.ctx_blocks.proofs.Totals.{IsFirst-put, sum-dropped, sum-new, total-dropped, total-put}
pub use Rattle.ctx_blocks.proofs.Viewed.{block_view, drops_view, first_view, IsKept-put, one_view, puts_view, total_view}
