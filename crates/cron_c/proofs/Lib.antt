pub mod Over
pub mod Arrays
pub mod Items
pub mod Filling
pub mod Running
pub mod ZoneLemmas
mod AnyZone
mod Eras
mod HistoryLeads
mod HistoryFilling
mod ErasBack
mod EraPlaces
pub mod TableEras
pub mod TableItems
pub mod EraFilling
pub mod ZoneFileLemmas
mod RulesAlike
pub mod Dues
mod HistoryClockLemmas
mod UnionLemmas
mod ReadingLemmas
pub mod LineLemmas
mod CanonicalLemmas
pub mod AgendaLemmas
mod AgendaOrder
mod AgendaRest
