use Rattle.packet_filter.proofs.reading.FilterErrorDisplay.fmt.Goals as goal

pub returns-in-Mixed-clause-writes : goal.returns-in-Mixed-clause-writes
returns-in-Mixed-clause-writes g c = rw c.in-Mixed.is c.write-in-Mixed.ensures.writes
