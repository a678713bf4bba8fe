-- The errors of reassembly as C has them: as numbers.
use Rattle.std.specs.Prelude.{ℕ}
use Rattle.packet_reassembly.specs.declared.ip_defrag_error.IpDefragError.{IpDefragError}
use Rattle.packet_reassembly.specs.declared.ip_defrag_error.IpDefragError.TheVariants as fragment
use Rattle.packet_reassembly.specs.declared.ip_defrag_packet.IpDefragPacketError.{
  IpDefragPacketError,
}
use Rattle.packet_reassembly.specs.declared.ip_defrag_packet.IpDefragPacketError.TheVariants
    as packet
use Rattle.c_answers.specs.declared.defrag_error.DefragError.{DefragError}

-- no error
abbrev pub no_error : DefragError
no_error = record { kind = 0; offset = 0; len = 0 }

-- why a fragment is refused: its kind, its offset and the length of its payload
abbrev pub fragment_error_in_c : IpDefragError → DefragError
fragment_error_in_c (fragment.Empty offset) = record { kind = 1; offset = offset; len = 0 }
fragment_error_in_c (fragment.UnalignedFragmentPayloadLen offset len) =
    record { kind = 2; offset = offset; len = len }
fragment_error_in_c (fragment.SegmentTooBig offset len max) =
    record { kind = 3; offset = offset; len = len }

-- why a packet is not added; of one that is no whole IP packet C is not told why
abbrev pub packet_error_in_c : IpDefragPacketError → DefragError
packet_error_in_c (packet.Packet e) = record no_error { kind = 4 }
packet_error_in_c packet.HeaderChain = record no_error { kind = 5 }
packet_error_in_c (packet.HeadersTooLong len) = record no_error { kind = 6; len = len }
packet_error_in_c (packet.Fragment e) = fragment_error_in_c e

-- an offset that no fragment can have
abbrev pub offset_error : ℕ → DefragError
offset_error offset = record no_error { kind = 7; offset = offset }

-- the packet of a datagram would be too long
abbrev pub packet_too_long : DefragError
packet_too_long = record no_error { kind = 8 }
