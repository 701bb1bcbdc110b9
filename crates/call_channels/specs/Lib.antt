pub mod ChannelsLetIn
