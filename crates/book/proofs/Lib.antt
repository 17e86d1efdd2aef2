-- The proofs of the book.
pub mod Keeping
