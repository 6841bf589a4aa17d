-- How a session's store is stored as a value.
use Rattle.std.specs.Prelude.{List, refl}
use Rattle.std.specs.Coded.{Coded, code_by, coded×, coded_list}
use Rattle.context_tree.specs.State.{TreeState}
use Rattle.context_tree.specs.StateCode.{tree_code}
use Rattle.session_owners.specs.ResourceState.{ResourceState, resource_code}
use Rattle.subxact_stack.specs.declared.levels.Level.{Level}
use Rattle.subxact_stack.specs.contracts.levels.Level as level
use Rattle.portal_store.specs.declared.portal.Portal.{Portal}
use Rattle.portal_store.specs.contracts.portal.Portal as portal
use Rattle.session_store.specs.State.{StoreState}

abbrev pub store_code : Coded StoreState
store_code =
    code_by (TreeState × (ResourceState × (List Level × List Portal)))
    (coded× tree_code (coded× resource_code (coded× (coded_list level.the_row.coded) (coded_list portal.the_row.coded))))
    (λ s. (s.tree, (s.owners, (s.levels, s.portals)))) (λ p. record { tree = p.0; owners = p.1.0; levels = p.1.1.0; portals = p.1.1.1 }) (λ _. refl)
