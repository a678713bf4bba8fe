use Rattle.etherparse.proofs.Ipv4Layout.{flags_tested}
use Rattle.etherparse.proofs.net.ipv4_header_slice.Ipv4HeaderSlice.more_fragments.Goals as goal

pub returns : goal.returns
returns c = record { value = λ header k. (flags_tested header _ k).1 }
