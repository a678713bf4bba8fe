use Rattle.std.proofs.Common.{◌≡◌, map, take}
use Rattle.frame_reassembly.specs.Known.{known_of}
use Rattle.frame_reassembly.proofs.frame_reassembly.all_known.Given as goal

abbrev pub invariant-slots : goal.invariant-slots
invariant-slots l = l.all.items ≡ map known_of (take l.slot-index l.slots)
