use Rattle.c_answers.proofs.filter_frames.choose_each.Goals as goal

pub returns-in-Some : goal.returns-in-Some
returns-in-Some c = record { answers = rw (← c.in-Some.ensures.value) c.choose_each_of.ensures.answers }

pub returns-in-None : goal.returns-in-None
returns-in-None c = record { answers = rw (← c.in-None.ensures.value) c.choose_none.ensures.answers }
