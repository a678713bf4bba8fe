use Rattle.std.proofs.Common.{rules}
use Rattle.etherparse.proofs.Ipv6Layout.{word_of-layout}
use Rattle.etherparse.proofs.net.ipv6_header_slice.Ipv6HeaderSlice.to_header.Goals as goal

pub returns-clause-only : goal.returns-clause-only
returns-clause-only c = λ h k. let word = word_of-layout h _ k in search rules
