use Rattle.uses.proofs.reassembly.datagram_len.Goals as goal

pub returns-in-None-clause-none : goal.returns-in-None-clause-none
returns-in-None-clause-none c = λ datagram held. c.in-None.ensures.not_yet datagram ((c.reassemble-buf.ensures.whole datagram).1 held)
