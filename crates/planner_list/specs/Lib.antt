-- the reply to a list call and what it leaves, by what the inner functions found
pub mod Listing
-- demand 3, kept by the reply and the bytes
pub mod Delivery
