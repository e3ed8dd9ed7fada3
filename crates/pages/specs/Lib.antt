-- Text on a page.
pub mod Text
