pub mod LineLaws
pub mod ChunkLaws
pub mod FeedLaws
pub mod Openings
pub mod FileLaws
pub mod Demand
pub mod Samples
