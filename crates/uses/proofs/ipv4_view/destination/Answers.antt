use Rattle.uses.proofs.ipv4_view.destination.Goals as goal

pub returns-clause-field : goal.returns-clause-field
returns-clause-field c = c.destination.ensures.value _ c.to_header.ensures.layout
