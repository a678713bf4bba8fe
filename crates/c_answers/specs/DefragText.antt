-- The text of an error of reassembly, as C gets it.
use Rattle.std.specs.Prelude.{ℕ, ◌==◌, ◌++◌, List, [], codes, decimal}
use Rattle.std.specs.Prelude.{if◌then◌else◌}
use Rattle.packet_reassembly.specs.ErrorText.{ip_defrag_error_text, ip_defrag_packet_error_text}
use Rattle.packet_reassembly.specs.declared.ip_defrag_error.IpDefragError.TheVariants as fragment
use Rattle.packet_reassembly.specs.declared.ip_defrag_packet.IpDefragPacketError.TheVariants
    as packet
use Rattle.c_answers.specs.declared.defrag_error.DefragError.{DefragError}

-- the text of an error, by its kind: the library's own, unless C is told less than the library's
-- error says (4, 8), or the library has no such error (7)
abbrev pub error_text : DefragError → List ℕ
error_text e =
    if e.kind == 1 then ip_defrag_error_text (fragment.Empty e.offset)
    else if e.kind == 2 then
    ip_defrag_error_text (fragment.UnalignedFragmentPayloadLen e.offset e.len)
    else if e.kind == 3 then ip_defrag_error_text (fragment.SegmentTooBig e.offset e.len 65535)
    else if e.kind == 4 then codes "IP Packet Error: The bytes are no whole IP packet."
    else if e.kind == 5 then ip_defrag_packet_error_text packet.HeaderChain
    else if e.kind == 6 then ip_defrag_packet_error_text (packet.HeadersTooLong e.len)
    else if e.kind == 7 then codes "IP Fragment Error: The offset "
    ++ (decimal e.offset ++ codes " is greater than 8191.")
    else if e.kind == 8 then
    codes "IP Packet Error: The packet is longer than its length field can say."
    else []
