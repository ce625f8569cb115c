-- The lemmas, each file above those that use it. Assumes nothing.
pub mod Keeping
pub mod Views
pub mod Kept
pub mod Coding
pub mod Histories
pub mod Standing
pub mod Turning
pub mod Replies
pub mod Labelling
pub mod Beginning
pub mod Weighing
pub mod Seeking
