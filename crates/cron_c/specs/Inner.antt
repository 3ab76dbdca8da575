pub mod AnyOffset
pub mod HistoryClocks
