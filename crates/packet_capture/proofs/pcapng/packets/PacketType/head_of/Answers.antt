use Rattle.std.proofs.Common.{◌≡◌, ◌+◌, ◌-◌, ◌<◌, ◌≤◌, ◌∙◌, List, Some, ap, arith, get_or, length, refl, slice_get, sym, ℕ}
use Rattle.std.proofs.lemmas.Option.{slice_get_past, slice_get_read}
use Rattle.packet_capture.specs.Pcapng.Packets.{HasNoRoom, HasPacket, IsOfInterface, data_start, interface_id, packet_head}
use Rattle.packet_capture.specs.declared.capture.ByteOrder.{ByteOrder}
use Rattle.packet_capture.specs.declared.pcapng.interfaces.Interface.{Interface}
use Rattle.packet_capture.specs.declared.pcapng.packets.PacketHead.{PacketHead}
use Rattle.packet_capture.specs.declared.pcapng.packets.PacketType.{PacketType}
use Rattle.packet_capture.proofs.pcapng.packets.PacketType.head_of.Goals as goal

is_of : (type : PacketType) (order : ByteOrder) (interfaces : List Interface) (block : List ℕ) (interface : Interface) (id : ℕ)
    → id ≡ interface_id type order block → id < length interfaces → interface ≡ get_or interfaces id interface → IsOfInterface type order interfaces block interface
is_of type order interfaces block interface id is within read = ap (slice_get interfaces) (sym is) ∙ slice_get_read interfaces _ _ _ refl within read

no_room : (type : PacketType) (order : ByteOrder) (interfaces : List Interface) (total_len : ℕ) (block : List ℕ) (interface : Interface) (start : ℕ) (head : PacketHead)
    → IsOfInterface type order interfaces block interface → head ≡ packet_head type order interface block → start ≡ data_start type → data_start type + 4 ≤ total_len
    → total_len - 4 - start < head.captured_len → HasNoRoom type order interfaces total_len block head.captured_len (total_len - 4 - start)
no_room type order interfaces total_len block interface start head described says is room more = record {
  interface = interface;
  described = described;
  len = ap (λ h. h.captured_len) says;
  place = omega arith;
  more = more;
}

has_packet : (type : PacketType) (order : ByteOrder) (interfaces : List Interface) (total_len : ℕ) (block : List ℕ) (interface : Interface) (start : ℕ) (head : PacketHead)
    → IsOfInterface type order interfaces block interface → head ≡ packet_head type order interface block → start ≡ data_start type → data_start type + 4 ≤ total_len
    → head.captured_len ≤ total_len - 4 - start → HasPacket type order interfaces total_len block head
has_packet type order interfaces total_len block interface start head described says is room fits =
    let same : interface ≡ head.interface = sym (ap (λ h. h.interface) says) in
    record {
      interface = described ∙ ap Some same;
      says = says ∙ ap (λ i. packet_head type order i block) same;
      fits = omega arith;
    }

pub returns-in_default : goal.returns-in_default
returns-in_default c = record {
  reads = record {
    number = c.interface_id-id.ensures.value;
    among = refl;
    none = slice_get_past c.args.interfaces.now _ c.in_default.ensures.lookup.3;
  };
}

pub returns-then-head-room : goal.returns-then-head-room
returns-then-head-room c =
    let described = is_of _ _ _ _ _ _ c.interface_id-id.ensures.value c.in-Some.ensures.lookup.3.0 c.in-Some.ensures.lookup.1 in
    record { reads = no_room _ _ _ _ _ _ _ _ described c.head_on-head.ensures.value c.data_start.ensures.value c.requires.room c.if-head-room.true }

pub returns : goal.returns
returns c =
    let described = is_of _ _ _ _ _ _ c.interface_id-id.ensures.value c.in-Some.ensures.lookup.3.0 c.in-Some.ensures.lookup.1 in
    record { reads = has_packet _ _ _ _ _ _ _ _ described c.head_on-head.ensures.value c.data_start.ensures.value c.requires.room c.if-head-room.false }
