use Rattle.uses.proofs.ipv4_view.more_fragments.Goals as goal

pub returns-clause-field : goal.returns-clause-field
returns-clause-field c = c.more_fragments.ensures.value _ c.to_header.ensures.layout
