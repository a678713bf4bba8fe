use Rattle.c_answers.proofs.filter_refusal.put_error.Goals as goal

pub returns-in-Mixed : goal.returns-in-Mixed
returns-in-Mixed c = record { gives = rw (c.in-Mixed.is) (rw (c.readings_text.ensures.text) at c.put_words-in-Mixed.ensures.gives) }
