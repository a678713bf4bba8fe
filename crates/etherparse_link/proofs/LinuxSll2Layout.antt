-- The layout of the header of a Linux cooked capture of version 2: bytes have one header, and with
-- the reserved bytes as 0 a header has one list of bytes.
use Rattle.std.proofs.Common.{ℕ, ◌≡◌, List, [], ◌∷◌, length, ap, ◌∙◌, arith, rules, slice_index}
use Rattle.std.proofs.Common.{drop_of_length-le}
use Rattle.std.specs.Int.{from_be_bytes, w32}
use Rattle.std.specs.List.{AllByRecursion, slice_range}
use Rattle.etherparse.proofs.Fronts.{TellsHeaders, fixed_tells}
use Rattle.etherparse.proofs.Layouts.{Field, Fits, array, length-written, read_back, told, u8, u16}
use Rattle.etherparse.proofs.Layouts.{u32, written}
use Rattle.etherparse.specs.Bytes.{IsBytes}
use Rattle.etherparse.specs.declared.err.Layer.TheVariants as layer
use Rattle.etherparse_link.specs.Bytes.{number_at}
use Rattle.etherparse_link.specs.LinuxSll2Header.{IsLinuxSll2Layout, RefusesLinuxSll2, reserved_of}
use Rattle.etherparse_link.specs.declared.linux_sll2_header.LinuxSll2Header.{LinuxSll2Header}

pub tells_headers : TellsHeaders IsLinuxSll2Layout RefusesLinuxSll2
tells_headers = fixed_tells IsLinuxSll2Layout layer.LinuxSllHeader 20 (λ g h p k l. search rules)
    (λ h p l. l.len)

-- 20 bytes are in the layout of a header
pub header_at : (p : List ℕ) → length p ≡ 20 → IsBytes p
    → (h : LinuxSll2Header) × IsLinuxSll2Layout h p
header_at p e bytes =
    let header : LinuxSll2Header = record {
      protocol_type = number_at 0 p;
      interface_index = from_be_bytes w32 (slice_range p 4 8);
      arp_hrd_type = number_at 8 p;
      packet_type = slice_index p 10;
      sender_address_valid_length = slice_index p 11;
      sender_address = slice_range p 12 20;
    } in
    (header, search rules)

-- the fields of a header, in their order, with the reserved bytes as 0
abbrev pub linux_sll2_fields : LinuxSll2Header → List Field
linux_sll2_fields h = u16 h.protocol_type ∷ u16 0 ∷ u32 h.interface_index ∷ u16 h.arp_hrd_type
    ∷ u8 h.packet_type ∷ u8 h.sender_address_valid_length ∷ array 8 h.sender_address ∷ []

pub spelled : (h : LinuxSll2Header) (p : List ℕ) → IsLinuxSll2Layout h p → reserved_of p ≡ 0
    → p ≡ written (linux_sll2_fields h) []
spelled h p l zero =
    let nothing_after = drop_of_length-le p {i = 20} (omega (arith, l.len)) in
    told p 0 (linux_sll2_fields h) [] l.are_bytes (omega (arith, l.len))
    (search (rules, l, zero, nothing_after))

pub spells : (h : LinuxSll2Header) (p : List ℕ) → AllByRecursion Fits (linux_sll2_fields h)
    → IsBytes p → p ≡ written (linux_sll2_fields h) []
    → IsLinuxSll2Layout h p × (reserved_of p ≡ 0)
spells h p fit are_bytes e =
    let fields = read_back p 0 (linux_sll2_fields h) [] fit e in
    let len = ap length e ∙ length-written (linux_sll2_fields h) [] fit in
    search (rules, fields, len)
