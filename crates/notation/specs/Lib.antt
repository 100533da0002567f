pub mod Checked
pub mod Laws
pub mod Letters
pub mod Lists
pub mod Ordered
pub mod Texts
