pub mod PlanLemmas
pub mod PlanCounts
pub mod KeptLemmas
