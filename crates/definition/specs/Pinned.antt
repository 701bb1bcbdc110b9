-- What computes and is pinned by theorems: nobody needs to believe it.
pub mod Decoder
pub mod TraceReader
pub mod FeedReader
