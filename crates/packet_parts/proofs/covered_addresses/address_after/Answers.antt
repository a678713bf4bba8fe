use Rattle.packet_parts.proofs.covered_addresses.address_after.Goals as goal

pub returns-in-Source : goal.returns-in-Source
returns-in-Source c = record { leaves = rw c.in-Source.is c.source_after.ensures.leaves }
