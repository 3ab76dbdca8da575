pub mod TimeLemmas
