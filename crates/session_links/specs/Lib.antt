pub mod Links
pub mod Creating
pub mod Looking
pub mod Lists
