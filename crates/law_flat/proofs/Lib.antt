-- Laws of the flat form: its routes, that it is sound and accepted, that flattening it again changes nothing.
pub mod Couplings
pub mod WayEnds
pub mod RouteEnds
pub mod FlatComponents
pub mod FlatSound
pub mod LevelRoutes
pub mod FlatTwice
pub mod WayShape
pub mod WayLength
pub mod Checks
pub mod SameChecks
