pub mod LoadLemmas
pub mod AlarmLemmas
pub mod LawLemmas
pub mod NoteLemmas
pub mod NoteTexts
pub mod CountLemmas
pub mod EndLemmas
pub mod FollowLemmas
