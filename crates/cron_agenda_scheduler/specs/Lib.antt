pub mod Late
pub mod Turns
pub mod Laws
pub mod PlanLaws
pub mod EntryLaws
pub mod LateLaws
pub mod Inner
