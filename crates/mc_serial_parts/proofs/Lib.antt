pub mod HoldLists
pub mod FoundHolds
pub mod ItemPlaces
pub mod CountPlaces
pub mod CountedHolds
pub mod LeadsByKey
pub mod NewWordsCount
