-- One file. Listing: lists made by number, as the collected lists of the threads are.
pub mod Listing
