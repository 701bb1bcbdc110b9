-- The worked table: rows of calls computed on the definitions.
pub mod Computing
pub mod Models
pub mod Table
pub mod NestTable
pub mod EdgeModels
pub mod EdgeTable
pub mod StrayTable
pub mod DecidedTable
-- literal bytes, refusals, runs, rules and flat forms: rows that fail where a definition's detail is changed
pub mod Literals
pub mod FileTable
pub mod RefusalTable
pub mod RunTable
pub mod RuleTable
pub mod FlatTable
pub mod TraceTable
pub mod ColumnTable
pub mod BagTable
pub mod FeedTable
pub mod RangeTable
pub mod ChannelTable
