-- The values of the library in memory of the caller, which is lent for good.
use Rattle.std.specs.Prelude.{List, [], Option, Some}
use base.Fml.{Fml}
use denote.RattleType.{RattleType}
use denote.RawPtr.{Ptr, room_at}
use denote.Ref.{NamedLft}
use mir.Syntax.{erased, static}
use Rattle.packet_reassembly.specs.Fragment.{Fragment}
use Rattle.packet_reassembly.specs.contracts.ip_defrag_buf.IpDefragBuf as buf
use Rattle.packet_reassembly.specs.contracts.ip_defrag_pool.IpDefragSlot as slot
use Rattle.etherparse_c.specs.contracts.defrag_slots.Slots as slots

-- the lifetime that never ends
abbrev pub for_good : NamedLft
for_good = record { mir = static; lft = [] }

-- any lifetime: the room for a value does not depend on it
abbrev pub any_lifetime : NamedLft
any_lifetime = record { mir = erased; lft = [] }

-- an `IpDefragBuf`
abbrev pub buf_row : RattleType
buf_row = buf.the_row for_good

abbrev pub HasRoomForBuf : Ptr → Fml
HasRoomForBuf = room_at (buf.the_row any_lifetime)

-- an `IpDefragSlot`
abbrev pub slot_row : RattleType
slot_row = slot.the_row for_good

abbrev pub HasRoomForSlot : Ptr → Fml
HasRoomForSlot = room_at (slot.the_row any_lifetime)

-- a pool over slots that are lent for good
abbrev pub pool_row : RattleType
pool_row = slots.the_row

abbrev pub HasRoomForPool : Ptr → Fml
HasRoomForPool = room_at pool_row

-- nothing has come
abbrev pub empty_buf : Option (List Fragment)
empty_buf = Some []
