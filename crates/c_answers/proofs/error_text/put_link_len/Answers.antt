use Rattle.c_answers.proofs.error_text.put_link_len.Goals as goal

pub returns : goal.returns
returns c = record { gives = rw (c.digits.ensures.text, c.digits-2.ensures.text) at c.put.ensures.gives }
