-- Why the rows of the probing step are the routes of the model, in the order of the argument.
pub mod Probed
pub mod ProbePull
pub mod ProbeEnds
pub mod ProbeRows
pub mod Collected
