pub mod RunLemmas
mod DayLemmas
mod RoomLemmas
pub mod ShortTokens
pub mod ShortSets
mod ShortAscii
pub mod ShortMeaning
