-- The answers that a queue may give, for the clauses of its author.
pub use Rattle.queue_interface.specs.Answers
