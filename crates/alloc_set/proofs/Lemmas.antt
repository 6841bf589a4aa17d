-- The lemmas by which the functions' goals are answered.
pub use Rattle.alloc_set.proofs.Aligned.{live_whole, move_whole, put_whole}
pub use Rattle.alloc_set.proofs.Altered.{alone_kept, Alters, Alters-blocks, IsSettled-altered, Moves-altered, new_block, new_header, new_link, new_marks, old, old_or_fresh, put_cases, Puts-chunk}
pub use Rattle.alloc_set.proofs.ClassSizes.{class-bits, class_size-least, class_up_to-is, limit_class-pass, limit_class-stop}
pub use Rattle.alloc_set.proofs.Counted.{IsCounted-blocks, IsCounted-chunks, SameBlocks-chunks}
pub use Rattle.alloc_set.proofs.Empty.{IsSettled-empty, IsShelved-none, no_chunk}
pub use Rattle.alloc_set.proofs.Flipped.{IsSettled-flipped, Moves-flipped, wrote-flipped}
pub use Rattle.alloc_set.proofs.Headed.{IsSettled-headed, nothing_there, wrote-headed}
pub use Rattle.alloc_set.proofs.Leads.{headed_by, header_is, takes_by}
pub use Rattle.alloc_set.proofs.Places.{LeavesLive-more, LeavesLive-put, LeavesLive-same, place-put, PutsLive-chunk, PutsPlace-chunk, Reallocates-in_place}
pub use Rattle.alloc_set.proofs.Regions.{apart_keeper, keeper_else, keeper_owned, keeper_start, noted, other_start, region_now, regions_else, sum-least}
pub use Rattle.alloc_set.proofs.Settled.{behind, block, header, IsSound-settled, length-link_bytes, link, live_there, lonely, mark_cases, mark_from_chunk, mark_from_link, none_in, noted_own}
pub use Rattle.alloc_set.proofs.Shelved.{bytes_of, chain_empty, chain_head, count-few, count_is, IsLinkable-chain, IsShelved-freed, IsShelved-popped, IsShelved-taken}
pub use Rattle.alloc_set.proofs.Taken.{Allocates-after, Allocates-put}
