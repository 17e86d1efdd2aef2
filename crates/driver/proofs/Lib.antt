-- The proofs of the driver.
pub mod RunLaws
pub mod ReadLaws
pub mod TextLaws
