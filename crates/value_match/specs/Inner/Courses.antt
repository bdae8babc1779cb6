-- Operations on the scale of times, as a course.
use Rattle.std.specs.Prelude.{List}
use Rattle.history_merge.specs.declared.operation.Operation.{Operation}
use Rattle.history_merge.specs.declared.operation.OpKind.TheVariants.{Enqueue}
use Rattle.history_merge.specs.Complete.{AreComplete}
use Rattle.history_merge.specs.Operations.{Did}
use Rattle.value_match.specs.Lives.{Course, lives_of}

-- the course of operations, in which values come in by successful enqueues alone
abbrev pub on : List Operation → Course
on operations = record {
  operations = operations;
  Enters = λ enqueue v. Did operations enqueue (Enqueue v);
  lives = lives_of operations;
  IsComplete = AreComplete operations;
}
