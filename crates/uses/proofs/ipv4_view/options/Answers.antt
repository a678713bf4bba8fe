use Rattle.uses.proofs.ipv4_view.options.Goals as goal

pub returns-clause-field : goal.returns-clause-field
returns-clause-field c = c.options.ensures.value _ c.to_header.ensures.layout
