-- The words and lemmas of the crates below, and the definitions of specs/, that these proofs take.
pub use Rattle.exec_core.specs.Turn.{IsScan, rest, taken}
pub use Rattle.portal_store.specs.Kept.{FallFrom, IsAtMost, IsKept, IsRaised, IsReach, knows, same}
pub use Rattle.portal_store.specs.Portal.{coming, lowered, moved_owner, sub_aborted, to_parent}
pub use Rattle.portal_store.specs.Portals.{HasDistinctNames, IsPortals, changed, has_name, names, new_portal, place_named, portal_named, without}
pub use Rattle.portal_store.specs.declared.portal.Portal.{Portal}
