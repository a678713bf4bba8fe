use Rattle.std.proofs.Common.{◌≡◌, ◌++◌, drop, take}
use Rattle.ipcap.proofs.listing.last_four.Given as goal

abbrev pub invariant-bytes : goal.invariant-bytes
invariant-bytes l = l.last ≡ drop l.byte-index (l.fn.four ++ take l.byte-index l.fn.bytes)
