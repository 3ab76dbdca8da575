pub mod TurnLemmas
pub mod SwapLemmas
pub mod StepLemmas
pub mod DutyLemmas
pub mod ChoiceLemmas
pub mod SecondLemmas
