-- the key of a link, and a place by one key more
pub mod Key
-- the links by cost, then number
pub mod ByCost
-- keys of links, and the place of each among them
pub mod Keys
-- the place of a link in the order
pub mod Place
-- links that pass a test, collected in an array
pub mod Collect
-- the usable links by cost, then number
pub mod Usable
