-- The layout of the header of a Linux cooked capture: bytes have one header, and a header has one
-- list of bytes.
use Rattle.std.proofs.Common.{ℕ, ◌≡◌, List, [], ◌∷◌, length, ap, ◌∙◌, arith, rules}
use Rattle.std.proofs.Common.{drop_of_length-le}
use Rattle.std.specs.List.{AllByRecursion, slice_range}
use Rattle.etherparse.proofs.Fronts.{TellsHeaders, fixed_tells}
use Rattle.etherparse.proofs.Layouts.{Field, Fits, array, length-written, read_back, told, u16}
use Rattle.etherparse.proofs.Layouts.{written}
use Rattle.etherparse.specs.Bytes.{IsBytes}
use Rattle.etherparse.specs.declared.err.Layer.TheVariants as layer
use Rattle.etherparse_link.specs.Bytes.{number_at}
use Rattle.etherparse_link.specs.LinuxSllHeader.{IsLinuxSllLayout, RefusesLinuxSll}
use Rattle.etherparse_link.specs.declared.linux_sll_header.LinuxSllHeader.{LinuxSllHeader}

pub tells_headers : TellsHeaders IsLinuxSllLayout RefusesLinuxSll
tells_headers = fixed_tells IsLinuxSllLayout layer.LinuxSllHeader 16 (λ g h p k l. search rules)
    (λ h p l. l.len)

-- 16 bytes are in the layout of a header
pub header_at : (p : List ℕ) → length p ≡ 16 → IsBytes p
    → (h : LinuxSllHeader) × IsLinuxSllLayout h p
header_at p e bytes =
    let header : LinuxSllHeader = record {
      packet_type = number_at 0 p;
      arp_hrd_type = number_at 2 p;
      sender_address_valid_length = number_at 4 p;
      sender_address = slice_range p 6 14;
      protocol_type = number_at 14 p;
    } in
    (header, search rules)

-- the fields of a header, in their order
abbrev pub linux_sll_fields : LinuxSllHeader → List Field
linux_sll_fields h = u16 h.packet_type ∷ u16 h.arp_hrd_type ∷ u16 h.sender_address_valid_length
    ∷ array 8 h.sender_address ∷ u16 h.protocol_type ∷ []

pub spelled : (h : LinuxSllHeader) (p : List ℕ) → IsLinuxSllLayout h p
    → p ≡ written (linux_sll_fields h) []
spelled h p l =
    let nothing_after = drop_of_length-le p {i = 16} (omega (arith, l.len)) in
    told p 0 (linux_sll_fields h) [] l.are_bytes (omega (arith, l.len))
    (search (rules, l, nothing_after))

pub spells : (h : LinuxSllHeader) (p : List ℕ) → AllByRecursion Fits (linux_sll_fields h)
    → IsBytes p → p ≡ written (linux_sll_fields h) [] → IsLinuxSllLayout h p
spells h p fit are_bytes e =
    let fields = read_back p 0 (linux_sll_fields h) [] fit e in
    let len = ap length e ∙ length-written (linux_sll_fields h) [] fit in
    search (rules, fields, len)
