-- The texts of the errors of reassembly.
use Rattle.std.specs.Prelude.{ℕ, ◌*◌, ◌++◌, List, codes, decimal}
use Rattle.packet_parts.specs.IpSlice.{ip_slice_error_text}
use Rattle.packet_reassembly.specs.declared.ip_defrag_error.IpDefragError.{IpDefragError}
use Rattle.packet_reassembly.specs.declared.ip_defrag_error.IpDefragError.TheVariants as fragment
use Rattle.packet_reassembly.specs.declared.ip_defrag_packet.IpDefragPacketError.{
  IpDefragPacketError,
}
use Rattle.packet_reassembly.specs.declared.ip_defrag_packet.IpDefragPacketError.TheVariants as why

-- the text of the refusal of a fragment: its place is in bytes, not in the units of its offset
abbrev pub ip_defrag_error_text : IpDefragError → List ℕ
ip_defrag_error_text (fragment.Empty offset) = codes "IP Fragment Error: The fragment at byte "
    ++ (decimal (8 * offset) ++ codes " has no bytes.")
ip_defrag_error_text (fragment.UnalignedFragmentPayloadLen offset len) =
    codes "IP Fragment Error: More fragments follow the one at byte " ++ (decimal (8 * offset)
    ++ (codes ", and its " ++ (decimal len ++ codes " bytes are no multiple of 8.")))
ip_defrag_error_text (fragment.SegmentTooBig offset len max) =
    codes "IP Fragment Error: The fragment at byte " ++ (decimal (8 * offset) ++ (codes " has "
    ++ (decimal len ++ (codes " bytes and ends past byte " ++ (decimal max ++ codes ".")))))

-- the text of the refusal of a packet
abbrev pub ip_defrag_packet_error_text : IpDefragPacketError → List ℕ
ip_defrag_packet_error_text (why.Packet e) = ip_slice_error_text e
ip_defrag_packet_error_text why.HeaderChain =
    codes "IPv6 Fragment Error: The first fragment lacks a part of the header chain."
ip_defrag_packet_error_text (why.HeadersTooLong len) =
    codes "IP Fragment Error: The headers of the first fragment have " ++ (decimal len
    ++ codes " bytes, and there is room for 1280.")
ip_defrag_packet_error_text (why.Fragment e) = ip_defrag_error_text e
