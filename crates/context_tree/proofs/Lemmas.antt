-- The lemmas by which the functions' goals are answered.
pub use Rattle.context_tree.proofs.Adding.{fresh_stands, name_refused, regions_back, room_refused, stands_still, tree_of}
pub use Rattle.context_tree.proofs.Allocs.{entry_unplaced, sound_names, tree_none, unnamed}
pub use Rattle.context_tree.proofs.Alone.{apart_below, cleared_did, cleared_is, gone_did, gone_is, now_apart, now_bare, now_hooks}
pub use Rattle.context_tree.proofs.Asking.{opening_in_vain, part_more, topmost_in_vain}
pub use Rattle.context_tree.proofs.Beside.{agrees_beside, stands_beside}
pub use Rattle.context_tree.proofs.Emptying.{agrees_bare, each_left, leaf_bare, moves_bare, none_first, one_back, tree_more}
pub use Rattle.context_tree.proofs.Ending.{Ending, alone, end_events, end_hooks, end_moves, ending_first, ending_hooks, ending_next, held_less, same_held, stands_bare}
pub use Rattle.context_tree.proofs.Going.{has_stands, lead_stands, once_stands}
pub use Rattle.context_tree.proofs.Growing.{next_fresh, sound_found}
pub use Rattle.context_tree.proofs.Leading.{leads}
pub use Rattle.context_tree.proofs.Leaving.{leaf_events, leaf_kept}
pub use Rattle.context_tree.proofs.Names.{find_named, find_nothing, once_of, placed_as}
pub use Rattle.context_tree.proofs.Opening.{regions_same, topmost_moved, topmost_sound, topmost_stands}
pub use Rattle.context_tree.proofs.Placing.{place_written}
pub use Rattle.context_tree.proofs.Reading.{first_told, own_lives, stands_at, stands_children, stands_has, stands_once, stands_size}
pub use Rattle.context_tree.proofs.Rearranged.{above_stands, child_stands, may_move, moves_moved, sound_moved, stands_moved}
pub use Rattle.context_tree.proofs.Resetting.{fits_of, words_of}
pub use Rattle.context_tree.proofs.Rooms.{given_back}
pub use Rattle.context_tree.proofs.Sounds.{sound_same, tree_back}
pub use Rattle.context_tree.proofs.Standing.{Stands, bytes_served, bytes_shown, inside_at, known_at, known_long, place_has, stands}
pub use Rattle.context_tree.proofs.Telling.{all_added, capped_all, counted, lines_told, summed_added, told}
pub use Rattle.context_tree.proofs.Waiting.{moves_still, on_answer}
pub use Rattle.context_tree.proofs.Walking.{Left, left_did, left_end, left_first, left_hooks, left_next, left_other, left_turn}
