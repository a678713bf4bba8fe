-- The library's value, lent out of the struct that C has. No public clause cites it.
use Rattle.std.specs.Prelude.{List, Option}
use Rattle.std.specs.Borrow.{Lends, MutBor, Fml}
use Rattle.packet_reassembly.specs.Fragment.{Fragment}
use Rattle.etherparse_c.specs.DefragMemory.{buf_row}
use Rattle.etherparse_c.specs.contracts.defrag_buf.DefragBuf.{the_row}
use Rattle.etherparse_c.specs.declared.defrag_buf.DefragBuf.{DefragBuf}

-- the struct, once what is kept is this
abbrev pub with_fragments : DefragBuf → Option (List Fragment) → DefragBuf
with_fragments b kept = record b { fragments = kept }

abbrev pub LendsBuf : MutBor DefragBuf → MutBor (Option (List Fragment)) → Fml
LendsBuf s r = Lends the_row buf_row s r (with_fragments s.now)
