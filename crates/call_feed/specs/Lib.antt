pub mod FeedLetIn
