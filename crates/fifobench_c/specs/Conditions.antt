-- Conditions as the bits of a number.
use Rattle.std.specs.Prelude.{ℕ, ◌/◌, ◌%◌, ◌==◌}
use Rattle.command_words.specs.declared.options.Condition.{Condition}

-- each producer's values are judged alone if bit 0 is set, and empty dequeues are ignored if bit 1 is set
abbrev pub condition_of : ℕ → Condition
condition_of bits = record { is_local = bits % 2 == 1; is_weakly_empty = bits / 2 % 2 == 1 }
