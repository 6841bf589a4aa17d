-- The lemmas of this crate that the answers take.
pub use Rattle.session_store.proofs.Answered.{on_answer}
pub use Rattle.session_store.proofs.Depths.{above_first, all_deepest, all_level, deepest_new, ends, levels_are}
pub use Rattle.session_store.proofs.Kept.{alone_on, goes_made, goes_nowhere, goes_put, has_kept, level_live, nowhere, placed_on, placed_put}
pub use Rattle.session_store.proofs.Led.{change_acted, refused_regions}
pub use Rattle.session_store.proofs.Levelled.{above_in, above_live, above_owner, begun_acted, context_acted, context_live, current_lies, deepest_placed, keeps_current, keeps_parts, lies_at, owner_acted, owner_on, portals_at, stood_acted}
pub use Rattle.session_store.proofs.Owned.{deepest_is, have_owners, file_held, go_alone, go_answered, go_changed, go_left, go_same, go_stack, have_portal_owners, held_at, level_owner_live, owner_in, owner_number, owners_after, owners_alone_after, owners_fit, placed_owners, portals_kept, pushed_after, room_acted, same_session}
pub use Rattle.session_store.proofs.Through.{acted_after, agrees_in, alone_after, asked_after, change_after, goes_after, had_levels, held_through, hooks_in, keeps_in, left_through, levels_in, live_in, made_after, moved_after, own_in, placed_after, refused_after, regions_after, resized_after, same_after, stands_in, switched_after, switched_alone, taken_after, taken_at, there_in, waits_after}
