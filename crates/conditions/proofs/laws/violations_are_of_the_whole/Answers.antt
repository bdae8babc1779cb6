use Rattle.conditions.proofs.Showing.{violations_are_of_the_whole}
use Rattle.conditions.proofs.laws.violations_are_of_the_whole.Goals as goal

pub returns : goal.returns
returns c = violations_are_of_the_whole
