use Rattle.uses.proofs.ipv4_view.is_fragmenting_payload.Goals as goal

pub returns-clause-field : goal.returns-clause-field
returns-clause-field c = c.is_fragmenting_payload.ensures.value _ c.to_header.ensures.layout
