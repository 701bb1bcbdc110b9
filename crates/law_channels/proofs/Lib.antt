-- A channel's loop with the steps that it has, its turn, equal parts of a buffer, shares, and the channels one by one on the buffers themselves.
pub mod Verdicts
pub mod Within
pub mod LiftWithin
pub mod TurnRows
pub mod TurnKeeps
pub mod Parts
pub mod Shares
pub mod Called
pub mod OneByOne
