-- How the argument goes: Loops: one more element of a line, and one more piece of a text. Below: the number of
-- elements that pass a test, if another lets more pass, so lanes are apart. Nearness: the drawn operations are the
-- bars in the lanes, and the numbers are those of the claim. Rows: the effects of a `YES` rise within the bars, and
-- rows are in the order of time.
mod Common
pub mod Loops
pub mod Naming
pub mod Below
pub mod Nearness
pub mod Rows
