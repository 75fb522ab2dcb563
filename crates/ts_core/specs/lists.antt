-- Members of lists, lists side by side, finite maps, items under numbers, and hash chains.
pub mod Members
pub mod Beside
pub mod Changes
pub mod Numbered
pub mod LastBelow
pub mod Links
pub mod Tables
