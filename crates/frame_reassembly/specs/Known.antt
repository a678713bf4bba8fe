-- What a slot is known by before a fragment is added. No public clause cites it.
use Rattle.std.specs.Option.{is_none}
use Rattle.packet_reassembly.specs.declared.ip_defrag_pool.IpDefragSlot.{IpDefragSlot}
use Rattle.frame_reassembly.specs.declared.frame_reassembly.Known.{Known}

-- whether no datagram has it, and whether its datagram is discarded
abbrev pub known_of : IpDefragSlot → Known
known_of slot = record { is_free = is_none slot.id; is_discarded = is_none slot.buf }
