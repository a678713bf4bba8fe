use Rattle.uses.proofs.ipv4_view.source.Goals as goal

pub returns-clause-field : goal.returns-clause-field
returns-clause-field c = c.source.ensures.value _ c.to_header.ensures.layout
