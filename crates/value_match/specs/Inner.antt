-- Relations that only contracts of private functions name.
pub mod Accepted
pub mod Courses
pub mod MaybePlaces
pub mod Others
pub mod Sources
pub mod ByKind
pub mod HistoryPlaces
pub mod MatchOutcome
