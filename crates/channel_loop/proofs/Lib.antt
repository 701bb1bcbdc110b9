-- The channels' loop: one more channel, and none left.
pub mod Boxes
