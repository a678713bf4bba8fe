-- Laws of the IPv6 layout.
use Rattle.std.proofs.Common.{ℕ, ◌≡◌, ◌+◌, ◌*◌, ◌/◌, ◌%◌, ◌^◌, ◌<◌, List, [], ◌∷◌, length, get_or, ap, ◌∙◌, arith, rules, drop_of_length-le}
use Rattle.std.specs.List.{AllByRecursion, slice_range}
use Rattle.std.proofs.lemmas.Grind.{common_steps}
use Rattle.std.specs.Int.{from_be_bytes, w16, w32}
use Rattle.etherparse_base.specs.Bytes.{IsBytes}
use Rattle.etherparse.proofs.Layouts.{Field, Fits, array, length-written, read_back, told, u16, u32, u8, written}
use Rattle.etherparse.specs.Ipv6Header.{IsIpv6Layout}
use Rattle.etherparse.specs.FirstByte.{version_of}
use Rattle.etherparse.specs.declared.net.ipv6_header.Ipv6Header.{Ipv6Header}

-- the version and the fields of the first word, read from its bytes
pub word_of-layout : (h : Ipv6Header) (p : List ℕ) → IsIpv6Layout h p → (version_of p ≡ 6) × ((get_or p 0 0 * 256 + get_or p 1 0) / 16 % 256 ≡ h.traffic_class)
    × (get_or p 1 0 % 16 * 2 ^ 16 + get_or p 2 0 * 2 ^ 8 + get_or p 3 0 ≡ h.flow_label)
word_of-layout h p l = grind (arith, common_steps, l.are_bytes 1, l.are_bytes 2, l.are_bytes 3)

-- bytes have one header
pub same_header : (g h : Ipv6Header) (p : List ℕ) → IsIpv6Layout g p → IsIpv6Layout h p → g ≡ h
same_header g h p k l = search rules

-- the fields of a header, in their order
abbrev pub ipv6_fields : Ipv6Header → List Field
ipv6_fields h = u32 (6 * 2 ^ 28 + h.traffic_class * 2 ^ 20 + h.flow_label) ∷ u16 h.payload_length ∷ u8 h.next_header ∷ u8 h.hop_limit
    ∷ array 16 h.source ∷ array 16 h.destination ∷ []

-- a byte list in the layout is those of the fields
pub spelled : (h : Ipv6Header) (p : List ℕ) → IsIpv6Layout h p → p ≡ written (ipv6_fields h) []
spelled h p l = told p 0 (ipv6_fields h) [] l.are_bytes (omega (arith, l.len)) (search (rules, l, drop_of_length-le p {i = 40} (omega (arith, l.len))))

-- 40 bytes of version 6 are in the layout of a header
pub header_at : (p : List ℕ) → length p ≡ 40 → IsBytes p → version_of p ≡ 6 → (h : Ipv6Header) × IsIpv6Layout h p
header_at p e bytes version =
    let header : Ipv6Header = record {
      traffic_class = (get_or p 0 0 * 256 + get_or p 1 0) / 16 % 256;
      flow_label = get_or p 1 0 % 16 * 2 ^ 16 + get_or p 2 0 * 2 ^ 8 + get_or p 3 0;
      payload_length = from_be_bytes w16 (slice_range p 4 6);
      next_header = get_or p 6 0;
      hop_limit = get_or p 7 0;
      source = slice_range p 8 24;
      destination = slice_range p 24 40;
    } in
    let word : from_be_bytes w32 (slice_range p 0 4) ≡ 6 * 2 ^ 28 + header.traffic_class * 2 ^ 20 + header.flow_label = grind (arith, common_steps, bytes 1, bytes 2, bytes 3) in
    (header, search (rules, word))

-- the bytes of the fields are in the layout
pub spells : (h : Ipv6Header) (p : List ℕ) → h.traffic_class < 2 ^ 8 → h.flow_label < 2 ^ 20 → AllByRecursion Fits (ipv6_fields h) → IsBytes p
    → p ≡ written (ipv6_fields h) [] → IsIpv6Layout h p
spells h p t f fit are_bytes e =
    let fields = read_back p 0 (ipv6_fields h) [] fit e in
    let len = ap length e ∙ length-written (ipv6_fields h) [] fit in
    search (rules, fields, len)
