pub mod LengthLemmas
pub mod ProductLemmas
pub mod CommonLemmas
pub mod DifferenceLemmas
