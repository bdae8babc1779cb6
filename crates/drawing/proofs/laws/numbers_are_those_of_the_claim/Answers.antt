use Rattle.drawing.proofs.Nearness as numbers
use Rattle.drawing.proofs.laws.numbers_are_those_of_the_claim.Goals as goal

pub returns : goal.returns
returns c =
    assumption (numbers.numbers_are_of_lines, numbers.lines_have_numbers, numbers.initial_numbers_are_of_lines, numbers.initial_lines_have_numbers)
