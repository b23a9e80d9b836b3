mod Cutting
pub mod StandingIn
pub mod UnitWalk
pub mod NamesAbove
pub mod Counting
pub mod CallReach
pub mod NamedUnits
pub mod StoredNames
pub mod FirstPlaces
pub mod UnitsMet
pub mod EntityKeys
