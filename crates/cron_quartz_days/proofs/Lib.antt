pub mod MatchLemmas
pub mod LengthLemmas
pub mod WeekLemmas
pub mod FormLemmas
pub mod NearestLemmas
pub mod WorkdayLemmas
pub mod TextLemmas
pub mod RangeLemmas
