use Rattle.std.proofs.Common.{rules}
use Rattle.uses.proofs.checksum.is_udp_right.Goals as goal

pub returns-then-ne-clause-none : goal.returns-then-ne-clause-none
returns-then-ne-clause-none c = record { parts = c.in-Ok.slice; is_packet = c.in-Ok.ensures.found; why = search rules }

pub returns-in-Absent : goal.returns-in-Absent
returns-in-Absent c = record { judged = tt; none = record { parts = c.in-Ok.slice; is_packet = c.in-Ok.ensures.found; why = search rules }; refused = tt }

pub returns-in-Wrong-clause-judged : goal.returns-in-Wrong-clause-judged
returns-in-Wrong-clause-judged c =
    record { parts = c.in-Ok.slice; is_packet = c.in-Ok.ensures.found; is_udp = search rules; found = search rules }

pub returns-in-Right-clause-judged : goal.returns-in-Right-clause-judged
returns-in-Right-clause-judged c =
    record { parts = c.in-Ok.slice; is_packet = c.in-Ok.ensures.found; is_udp = search rules; found = search rules }
