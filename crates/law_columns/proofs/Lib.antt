-- Traces and columns, read and written.
pub mod Refusals
pub mod RecordBytes
pub mod WholeTraces
pub mod ColumnBytes
pub mod ColumnPlaces
pub mod WholeColumns
pub mod RecordTests
pub mod Scanning
pub mod Positions
pub mod Filling
pub mod Rearranging
