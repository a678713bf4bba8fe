use Rattle.c_answers.proofs.Places.{lie_there}
use Rattle.c_answers.proofs.laws.parts_of_answers.Goals as goal

pub returns : goal.returns
returns c = record { lie_there = lie_there }
