use Rattle.etherparse.proofs.Ipv6Reading.{front_read}
use Rattle.etherparse.proofs.net.ipv6_header.Ipv6Header.from_slice.Goals as goal

pub returns : goal.returns
returns c = record { reads = front_read _ _ _ _ c.in_ok-from_slice.ensures.views.whole c.to_header-header.ensures.layout }
