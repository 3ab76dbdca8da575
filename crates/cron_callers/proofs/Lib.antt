pub mod ItemLemmas
pub mod AlarmLemmas
pub mod RestartLemmas
pub mod LiteralLemmas
