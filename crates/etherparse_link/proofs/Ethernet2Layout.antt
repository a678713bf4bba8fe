-- The layout of an Ethernet header: bytes have one header, and a header has one list of bytes.
use Rattle.std.proofs.Common.{ℕ, ◌≡◌, List, [], ◌∷◌, length, ap, ◌∙◌, arith, rules}
use Rattle.std.proofs.Common.{drop_of_length-le}
use Rattle.std.specs.List.{AllByRecursion, slice_range}
use Rattle.etherparse.proofs.Fronts.{TellsHeaders, fixed_tells}
use Rattle.etherparse.proofs.Layouts.{Field, Fits, array, length-written, read_back, told, u16}
use Rattle.etherparse.proofs.Layouts.{written}
use Rattle.etherparse.specs.Bytes.{IsBytes}
use Rattle.etherparse.specs.declared.err.Layer.TheVariants as layer
use Rattle.etherparse_link.specs.Bytes.{number_at}
use Rattle.etherparse_link.specs.Ethernet2Header.{IsEthernet2Layout, RefusesEthernet2}
use Rattle.etherparse_link.specs.declared.ethernet2_header.Ethernet2Header.{Ethernet2Header}

pub tells_headers : TellsHeaders IsEthernet2Layout RefusesEthernet2
tells_headers = fixed_tells IsEthernet2Layout layer.Ethernet2Header 14 (λ g h p k l. search rules)
    (λ h p l. l.len)

-- 14 bytes are in the layout of a header
pub header_at : (p : List ℕ) → length p ≡ 14 → IsBytes p
    → (h : Ethernet2Header) × IsEthernet2Layout h p
header_at p e bytes =
    let header : Ethernet2Header = record {
      source = slice_range p 6 12;
      destination = slice_range p 0 6;
      ether_type = number_at 12 p;
    } in
    (header, search rules)

-- the fields of a header, in their order
abbrev pub ethernet2_fields : Ethernet2Header → List Field
ethernet2_fields h = array 6 h.destination ∷ array 6 h.source ∷ u16 h.ether_type ∷ []

pub spelled : (h : Ethernet2Header) (p : List ℕ) → IsEthernet2Layout h p
    → p ≡ written (ethernet2_fields h) []
spelled h p l =
    let nothing_after = drop_of_length-le p {i = 14} (omega (arith, l.len)) in
    told p 0 (ethernet2_fields h) [] l.are_bytes (omega (arith, l.len))
    (search (rules, l, nothing_after))

pub spells : (h : Ethernet2Header) (p : List ℕ) → AllByRecursion Fits (ethernet2_fields h)
    → IsBytes p → p ≡ written (ethernet2_fields h) [] → IsEthernet2Layout h p
spells h p fit are_bytes e =
    let fields = read_back p 0 (ethernet2_fields h) [] fit e in
    let len = ap length e ∙ length-written (ethernet2_fields h) [] fit in
    search (rules, fields, len)
