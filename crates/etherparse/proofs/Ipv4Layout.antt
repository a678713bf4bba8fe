-- Laws of the IPv4 layout.
use Rattle.std.proofs.Common.{ℕ, ◌≡◌, ◌+◌, ◌*◌, ◌/◌, ◌%◌, ◌^◌, ◌<◌, ◌≤◌, List, [], ◌∷◌, ◌++◌, length, get_or, drop, sym, subst, ap, ◌∙◌, arith, rules, append_assoc, length-drop, length-take, Bool, ◌↔◌, bit_and, not, nat_eq}
use Rattle.std.specs.List.{AllByRecursion, slice_range}
use Rattle.std.specs.Int.{from_be_bytes, from_bool, w16}
use Rattle.std.proofs.lemmas.Bool.Decides.{nat_tests}
use Rattle.std.proofs.lemmas.Grind.{common_steps}
use Rattle.std.proofs.lemmas.Nat.Bits.{and_pow}
use Rattle.etherparse_base.specs.Bytes.{IsBytes}
use Rattle.etherparse_fields.specs.IpEcn.{ecn_value}
use Rattle.etherparse_fields.specs.Ipv4Options.{IsOptionsLen}
use Rattle.etherparse_fields.specs.declared.net.ip_ecn.IpEcn.{IpEcn}
use Rattle.etherparse_fields.specs.declared.net.ip_ecn.IpEcn.TheVariants.{CongestionExperienced, Ect0, Ect1, NotEct}
use Rattle.etherparse.proofs.Layouts.{Field, Fits, array, from_be_bytes-lt, length-written, read_back, told, u16, u8, written}
use Rattle.etherparse.proofs.Parts.{set_is_bytes}
use Rattle.etherparse.specs.FirstByte.{ihl_of, version_of}
use Rattle.etherparse.specs.Ipv4Header.{IsIpv4Layout, IsIpv4LayoutWith, ipv4_ihl, with_reserved_bit_cleared}
use Rattle.etherparse.specs.declared.net.ipv4_header.Ipv4Header.{Ipv4Header}

-- a bool as a number
from_bool-lt : (b : Bool) → from_bool b < 2
from_bool-lt b = grind arith

same_bool : (a b : Bool) → from_bool a ≡ from_bool b → a ≡ b
same_bool a b e = search rules

-- a code point as a number
pub ecn_value-lt : (e : IpEcn) → ecn_value e < 4
ecn_value-lt e = grind arith

same_ecn : (a b : IpEcn) → ecn_value a ≡ ecn_value b → a ≡ b
same_ecn a b e = search rules

-- the flags and the fragment offset
abbrev pub flags_word : Ipv4Header → ℕ → ℕ
flags_word h r = r * 2 ^ 15 + from_bool h.dont_fragment * 2 ^ 14 + from_bool h.more_fragments * 2 ^ 13 + h.fragment_offset

-- each flag is the test of its bit
pub flags_tested : (h : Ipv4Header) (p : List ℕ) → IsIpv4Layout h p
    → (not (nat_eq (bit_and (get_or p 6 0) 64) 0) ≡ h.dont_fragment) × (not (nat_eq (bit_and (get_or p 6 0) 32) 0) ≡ h.more_fragments)
flags_tested h p l = rw (and_pow (get_or p 6 0) 6, and_pow (get_or p 6 0) 5) (grind (arith, common_steps, nat_tests, l.layout.are_bytes 7, from_bool-lt))

-- bytes have one header
pub same_header : (g h : Ipv4Header) (p : List ℕ) → IsIpv4Layout g p → IsIpv4Layout h p → g ≡ h
same_header g h p k l = search (rules, same_ecn, same_bool, ecn_value-lt, from_bool-lt)

-- the fields of a header, in their order, with a number for its flags and fragment offset
abbrev pub fixed_fields : Ipv4Header → ℕ → List Field
fixed_fields h flags = u8 (4 * 2 ^ 4 + ipv4_ihl h) ∷ u8 (h.dscp * 2 ^ 2 + ecn_value h.ecn) ∷ u16 h.total_len ∷ u16 h.identification ∷ u16 flags
    ∷ u8 h.time_to_live ∷ u8 h.protocol ∷ u16 h.header_checksum ∷ []

abbrev pub ipv4_fields : Ipv4Header → ℕ → List Field
ipv4_fields h flags = fixed_fields h flags ++ (array 4 h.source ∷ array 4 h.destination ∷ [])

-- the bytes of a header
abbrev pub spelling : Ipv4Header → ℕ → List ℕ
spelling h flags = written (ipv4_fields h flags) h.options

-- a byte list in the layout is the header's spelling
pub spelled : (h : Ipv4Header) (r : ℕ) (p : List ℕ) → IsIpv4LayoutWith h r p → p ≡ spelling h (flags_word h r)
spelled h r p l = told p 0 (ipv4_fields h (flags_word h r)) h.options l.are_bytes (omega (arith, l.len)) (search (rules, l))

-- what the fields that are written as numbers need to be written back, and the lengths of the addresses
pub record HasFieldRanges (header : Ipv4Header) : Type 0 where
  pub dscp : header.dscp < 2 ^ 6
  pub fragment_offset : header.fragment_offset < 2 ^ 13
  pub total_len : header.total_len < 2 ^ 16
  pub identification : header.identification < 2 ^ 16
  pub header_checksum : header.header_checksum < 2 ^ 16
  pub source : length header.source ≡ 4
  pub destination : length header.destination ≡ 4

-- the spelling of a header is in its layout
pub spells : (h : Ipv4Header) (r : ℕ) (p : List ℕ) → HasFieldRanges h → IsOptionsLen (length h.options) → r < 2 → IsBytes p
    → p ≡ spelling h (flags_word h r) → IsIpv4LayoutWith h r p
spells h r p f o b are_bytes e =
    let fit : AllByRecursion Fits (ipv4_fields h (flags_word h r)) = omega (arith, f, from_bool-lt h.dont_fragment, from_bool-lt h.more_fragments) in
    let fields = read_back p 0 (ipv4_fields h (flags_word h r)) h.options fit e in
    let len = ap length e ∙ length-written (ipv4_fields h (flags_word h r)) h.options fit in
    search (rules, fields, len, f)

-- the spelling of a header with the reserved bit cleared
cleared_spells : (h : Ipv4Header) (p : List ℕ) → IsIpv4Layout h p → with_reserved_bit_cleared p ≡ spelling h (flags_word h 0)
cleared_spells h p l = rw (spelled h l.reserved p l.layout) (grind (arith, from_bool-lt))

-- the ranges of a header's fields are in its layout
pub ranges_of : (h : Ipv4Header) (r : ℕ) (p : List ℕ) → IsIpv4LayoutWith h r p → HasFieldRanges h
ranges_of h r p l = omega (arith, length-take {A = ℕ}, length-drop {A = ℕ}, from_be_bytes-lt, ap length l.source, ap length l.destination)

-- with the reserved bit cleared the bytes are in the layout of the same header
pub cleared_layout : (h : Ipv4Header) (p : List ℕ) → IsIpv4Layout h p → IsIpv4LayoutWith h 0 (with_reserved_bit_cleared p)
cleared_layout h p l =
    spells h 0 (with_reserved_bit_cleared p) (ranges_of h l.reserved p l.layout) l.layout.options_len (omega arith)
    (set_is_bytes p 6 (get_or p 6 0 % 2 ^ 7) (omega (arith, l.layout.len)) (omega arith) l.layout.are_bytes) (cleared_spells h p l)

-- headers are the same exactly where their bytes are, but for the reserved bit
pub same_header_cleared : (g h : Ipv4Header) (o p : List ℕ) → IsIpv4Layout g o → IsIpv4Layout h p
    → (g ≡ h) ↔ (with_reserved_bit_cleared o ≡ with_reserved_bit_cleared p)
same_header_cleared g h o p k l = (
  λ e. cleared_spells g o k ∙ ap (λ x. spelling x (flags_word x 0)) e ∙ sym (cleared_spells h p l),
  λ e. same_header g h (with_reserved_bit_cleared p) (record { reserved = 0; layout = subst (λ x. IsIpv4LayoutWith g 0 x) e (cleared_layout g o k) })
      (record { reserved = 0; layout = cleared_layout h p l }),
)

-- what starts with version 4, has an IHL of 5 or more and the length that it says is in the layout of a header
pub header_at : (p : List ℕ) → version_of p ≡ 4 → 5 ≤ ihl_of p → length p ≡ 4 * ihl_of p → IsBytes p
    → (h : Ipv4Header) × IsIpv4Layout h p
header_at p version ihl len bytes =
    let header : Ipv4Header = record {
      dscp = get_or p 1 0 / 4;
      ecn = get_or (NotEct ∷ Ect1 ∷ Ect0 ∷ CongestionExperienced ∷ []) (get_or p 1 0 % 4) NotEct;
      total_len = from_be_bytes w16 (slice_range p 2 4);
      identification = from_be_bytes w16 (slice_range p 4 6);
      dont_fragment = nat_eq (get_or p 6 0 / 64 % 2) 1;
      more_fragments = nat_eq (get_or p 6 0 / 32 % 2) 1;
      fragment_offset = get_or p 6 0 % 32 * 2 ^ 8 + get_or p 7 0;
      time_to_live = get_or p 8 0;
      protocol = get_or p 9 0;
      header_checksum = from_be_bytes w16 (slice_range p 10 12);
      source = slice_range p 12 16;
      destination = slice_range p 16 20;
      options = drop 20 p;
    } in
    let ecn : ecn_value header.ecn ≡ get_or p 1 0 % 4 = grind arith in
    let flags : from_be_bytes w16 (slice_range p 6 8) ≡ flags_word header (get_or p 6 0 / 128) = grind (arith, common_steps, nat_tests, bytes 6, bytes 7) in
    (header, record { reserved = get_or p 6 0 / 128; layout = search (rules, ecn, flags, bytes 1, length-drop 20 p) })

-- the fixed fields of a header, with the options after them, are its spelling
pub front_spells : (h : Ipv4Header) (front options p : List ℕ) → p ≡ front ++ options → options ≡ h.options
    → front ≡ written (fixed_fields h (from_bool h.dont_fragment * 2 ^ 14 + from_bool h.more_fragments * 2 ^ 13 + h.fragment_offset)) (h.source ++ h.destination)
    → p ≡ spelling h (flags_word h 0)
front_spells h front options p e o f = rw (e, f, o, append_assoc h.source h.destination h.options) (grind arith)
