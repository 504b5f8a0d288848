-- What the contracts of page_file cite.
pub mod FirstPage
