-- The way of the argument: a pass draws each number of its share once, and the passes share the numbers out.
-- Steps: each step of a pass or of the word keeps the account of what was drawn and what is left.
-- Rising: rising lists of numbers, the merge of two of them, and the one that holds each number below n.
-- Once: from the account of all passes, that no ticket is in two of them.
-- Apart: the items of one or two passes, apart from those of the others.
-- Logged: each step keeps the log.
-- Rows, Ends: each step keeps nodes with two ends, and then the account.
-- Beside, Walks: each step keeps nodes that all passes share, and then the account.
pub mod Once
pub mod Rising
mod Steps
mod Apart
mod Logged
mod Turns
mod Rows
mod Beside
mod Walks
mod Ends
