-- The definitions that the contracts of this crate cite: the words of a run, the law in these words, and what ties them to a line.
pub mod Words
pub mod Law
pub mod Tie
pub mod Told
