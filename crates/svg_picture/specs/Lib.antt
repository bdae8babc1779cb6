pub mod Markup
pub mod Layout
pub mod Elements
pub mod Picture
pub mod Html
pub mod Laws
