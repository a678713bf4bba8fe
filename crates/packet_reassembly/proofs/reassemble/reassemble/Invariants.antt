use Rattle.std.proofs.Common.{take}
use Rattle.packet_reassembly.specs.Arrivals.{StandsFor, came}
use Rattle.packet_reassembly.proofs.reassemble.reassemble.Given as goal

abbrev pub invariant-loop-fragment : goal.invariant-loop-fragment
invariant-loop-fragment l = StandsFor l.buf (came (take l.fragment-index l.fragments))
