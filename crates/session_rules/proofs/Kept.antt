-- The lemmas on contexts, owners, levels, plans and portals that the proofs above them take.
pub use Rattle.session_rules.proofs.ContextsKept.{IsSame, Stay, contexts_changed, contexts_created, contexts_emptied, contexts_level_gone, has_created, is_unused, new_empty, new_parent, new_protected, nothing_left, off_outside, protected_has, same_emptied, same_removed, stay_changed, stay_created, stay_same, top_protected, apart, contexts_alone, contexts_children_gone, contexts_gone, contexts_reparented, has_alone, has_reparented, moves_by, stay_alone, stay_children_gone, stay_gone, stay_on, stay_reparented, by_alone, by_reparented}
pub use Rattle.session_rules.proofs.Forests.{at_left, at_put, at_put_other, children_put, has_emptied, has_left, has_put_other, once_left, parent_left, parent_put, parent_put_other}
pub use Rattle.session_rules.proofs.Guarded.{all_changed, all_moved, all_put, all_removed}
pub use Rattle.session_rules.proofs.HeldItems.{held_created, held_forgotten, held_moved, held_remembered, held_removed}
pub use Rattle.session_rules.proofs.HookSums.{Runs, is_of_hooks, more_runs, none_run, parts_alone, parts_children, parts_cleared, parts_gone}
pub use Rattle.session_rules.proofs.HooksKept.{hooks_changed, hooks_ended, hooks_put, hooks_reparented, hooks_taken}
pub use Rattle.session_rules.proofs.LevelsKept.{HasLeft, IsContext, IsStill, begun_has, is_there, left_nothing, left_still, levels_stay, no_value, one_value, outer_contexts, outer_owners, owners_aborted, owners_end, owners_without, without_owner}
pub use Rattle.session_rules.proofs.Lone.{children_left, lone_changed, lone_emptied, lone_left, lone_moved, lone_put, lone_swept, own_emptied}
pub use Rattle.session_rules.proofs.PlansAmong.{IsCached, above_apart, cached_left, levels_apart, levels_other, own_other, parent_apart, plan_outside, plans_counted, plans_current, plans_moved}
pub use Rattle.session_rules.proofs.PlansKept.{IsOther, Split, all_replaced, changed_is, counted_at, plans_replaced, split}
pub use Rattle.session_rules.proofs.PortalLists.{Changes, RestsBeside, all_back, all_front, all_rest_aborted, all_rest_outside, beside_becomes, beside_rests, but_one, changed_one, different_changed, different_new, different_owned, different_without, others_back, others_front, owner_beside, owner_here, owner_split, rests_aborted, rests_becomes, rests_beside, rests_but}
pub use Rattle.session_rules.proofs.PortalsAmong.{IsRowOf, attached_by, off_levels, off_parent, off_rows, own_rows, place_current, place_level, place_own, place_same, place_spared, portals_by, portals_moved, row_changed, row_emptied, row_free, row_left, row_of, row_parent_off, row_put}
pub use Rattle.session_rules.proofs.Releasing.{Tables, still_sound, swept_by, tabled, tables_of, with_owners}
pub use Rattle.session_rules.proofs.Settling.{Besides, Fits, HasSettled, IsApart, Settles, Spares, becomes, besides_of, item_settles, release_settles, spares_same, with_besides}
pub use Rattle.session_rules.proofs.Stacked.{depth_outer, depth_small, depth_still, depth_working, none_stacked, stacked_above, stacked_below, stacked_lowered, stacked_pushed, stacked_taken, stacked_within}
pub use Rattle.session_rules.proofs.Swept.{removed_swept}
