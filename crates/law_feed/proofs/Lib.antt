-- What the theorems and the code share about feeds: their bytes, their calls in time, and the calls as one progress.
pub mod Timed
pub mod Reading
pub mod FeedBytes
pub mod Bounded
pub mod EndCall
pub mod OneLoad
pub mod Alike
