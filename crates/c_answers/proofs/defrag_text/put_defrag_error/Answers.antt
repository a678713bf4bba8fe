use Rattle.std.proofs.Common.{arith}
use Rattle.std.proofs.lemmas.Fmt.{decimal-digits_of}
use Rattle.c_answers.proofs.defrag_text.put_defrag_error.Goals as goal

pub returns-in-1 : goal.returns-in-1
returns-in-1 c = record { gives = rw c.in-1.is (rw c.from-offset.ensures at c.put_number.ensures.gives) }

pub returns-in-2 : goal.returns-in-2
returns-in-2 c = record { gives = rw c.in-2.is c.put_numbers.ensures.gives }

pub returns-in-3 : goal.returns-in-3
returns-in-3 c = record { gives = rw (c.in-3.is, decimal-digits_of 65535 (omega arith) (omega arith)) c.put_numbers-in-3.ensures.gives }

pub returns-in-4 : goal.returns-in-4
returns-in-4 c = record { gives = rw c.in-4.is c.put.ensures.gives }

pub returns-in-5 : goal.returns-in-5
returns-in-5 c = record { gives = rw c.in-5.is c.put-in-5.ensures.gives }

pub returns-in-6 : goal.returns-in-6
returns-in-6 c = record { gives = rw c.in-6.is c.put_number-in-6.ensures.gives }

pub returns-in-7 : goal.returns-in-7
returns-in-7 c = record { gives = rw c.in-7.is (rw c.from-offset.ensures at c.put_number-in-7.ensures.gives) }

pub returns-in-8 : goal.returns-in-8
returns-in-8 c = record { gives = rw c.in-8.is c.put-in-8.ensures.gives }
