pub mod BoundLemmas
pub mod StepLemmas
pub mod RestLemmas
pub mod FixedLemmas
pub mod ResumeLemmas
