pub mod AccessLemmas
pub mod TaskLemmas
pub mod RoomLemmas
