pub mod ListLemmas
pub mod ContentLemmas
pub mod CalendarLemmas
pub mod EventLemmas
