-- Laws of the model file and the saved run: what the decoder checked, reading and writing.
pub mod Codec
pub mod Layouts
pub mod Rows
pub mod Spellings
pub mod WellFormed
pub mod Sections
pub mod Further
pub mod Reading
pub mod Writing
pub mod Refusals
pub mod RunBack
pub mod Answers
pub mod PhaseRange
pub mod PhaseValues
pub mod RuleBytes
