-- The proof that CPP is a language of the law of kept verdicts, and of what ties it to the crates below.
pub mod Sheets
pub mod Heads
pub mod Repeats
pub mod Lowest
pub mod Tells
pub mod Spoken
pub mod Operands
pub mod Called
pub mod Verdicts
pub mod Judged
pub mod Judges
pub mod Books
pub mod Known
pub mod Laws
pub mod Lines
pub mod Reading
