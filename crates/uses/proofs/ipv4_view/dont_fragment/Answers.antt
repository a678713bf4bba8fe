use Rattle.uses.proofs.ipv4_view.dont_fragment.Goals as goal

pub returns-clause-field : goal.returns-clause-field
returns-clause-field c = c.dont_fragment.ensures.value _ c.to_header.ensures.layout
