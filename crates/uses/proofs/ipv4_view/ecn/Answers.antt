use Rattle.uses.proofs.ipv4_view.ecn.Goals as goal

pub returns-clause-field : goal.returns-clause-field
returns-clause-field c = c.ecn.ensures.value _ c.to_header.ensures.layout
