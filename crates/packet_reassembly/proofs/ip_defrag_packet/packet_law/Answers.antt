use Rattle.packet_reassembly.proofs.IpFragments.{fragment_not_whole}
use Rattle.packet_reassembly.proofs.PacketAnswers.{one_reason, refused_not_added, refused_not_whole}
use Rattle.packet_reassembly.proofs.ip_defrag_packet.packet_law.Goals as goal

pub returns : goal.returns
returns c = record {
  one_reason = one_reason;
  refused_or_whole = refused_not_whole;
  refused_or_added = λ old new packet outer inner timeout now added e a r. refused_not_added a e r;
  whole_or_added = λ old new packet outer inner timeout now added a none. fragment_not_whole packet a.f a.has none;
}
