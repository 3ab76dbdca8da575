pub mod PlanLemmas
pub mod PassingLemmas
pub mod DueLemmas
pub mod CallLemmas
pub mod RunLemmas
pub mod LawLemmas
