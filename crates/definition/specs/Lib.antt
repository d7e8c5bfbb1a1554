-- The definitions of document 01, a file for each of its sections. The contracts cite these names.
pub mod Lists
pub mod Checked
-- "Text and literals"
pub mod Text
pub mod Literals
pub mod Reading
-- "Standing and carried back"
pub mod Standing
pub mod Assignments
-- "Clearing clashes", "Counter form", "Order form", "Alignment"
pub mod Events
pub mod Clearing
pub mod Counter
pub mod Order
pub mod Alignment
pub mod Reencoding
-- "Log and new formula", "Walk-back", "Who can be turned back"
pub mod Log
pub mod LogReading
pub mod Answer
pub mod Calls
-- "Sessions"
pub mod Sessions
