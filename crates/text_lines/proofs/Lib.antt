-- How the argument goes, from bytes to lines and back: Consuming, Fronts: bytes taken in turn, and the front of bytes
-- whose beginning is known. Digits, Numbers, Fields: numbers and words read as they are spelled, and their length;
-- the fields of a line. Tables: lines parsed by a table of their forms. Scanning: the front of bytes, found in one
-- pass. EightDigits: digits read eight at a time. MemoryOrNot: out of memory, and the other faults. Appending,
-- Asking, Putting: bytes written in turn and held back, calls on a sink, and both together. WrittenLines: written
-- fields, numbers and lines are read back.
mod Common
pub mod Digits
pub mod Fields
pub mod Consuming
pub mod Fronts
pub mod Numbers
pub mod Appending
pub mod Asking
pub mod Putting
pub mod WrittenLines
pub mod Tables
pub mod Scanning
pub mod EightDigits
pub mod MemoryOrNot
