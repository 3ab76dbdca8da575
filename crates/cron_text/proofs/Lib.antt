pub mod Digits
pub mod TokenRuns
pub mod Places
pub mod FieldStates
pub mod Growing
pub mod Longest
pub mod Trims
pub mod TextLemmas
pub mod FieldSets
pub mod Stars
mod PlainItems
mod PlainWords
pub mod Results
pub mod TextRefusals
pub mod Prefixes
pub mod MeaningLemmas
pub mod FilledLemmas
pub mod EarlierLemmas
