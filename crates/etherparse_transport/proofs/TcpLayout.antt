-- Laws of the TCP layout.
use Rattle.std.proofs.Common.{ℕ, ◌≡◌, ◌+◌, ◌*◌, ◌/◌, ◌%◌, ◌^◌, ◌<◌, ◌≤◌, List, [], ◌∷◌, ◌++◌}
use Rattle.std.proofs.Common.{length, get_or, drop, sym, ap, ◌∙◌, arith, rules, length-drop, Bool}
use Rattle.std.proofs.Common.{IsTrue, nat_eq, ◌↔◌}
use Rattle.std.specs.List.{AllByRecursion, slice_range}
use Rattle.std.specs.Int.{from_be_bytes, from_bool, w16, w32}
use Rattle.std.proofs.lemmas.Bool.Decides.{nat_tests}
use Rattle.etherparse.specs.Bytes.{IsBytes}
use Rattle.etherparse.specs.WordSums.{little_endian_word_sum}
use Rattle.etherparse_transport.proofs.Checksums.{HasWords}
use Rattle.etherparse.specs.Ipv4Options.{IsOptionsLen}
use Rattle.etherparse.proofs.Layouts.{Field, Fits, from_be_bytes-lt, length-written, read_back}
use Rattle.etherparse.proofs.Layouts.{told, u16, u32, u8, written}
use Rattle.etherparse.proofs.Parts.{part_is_bytes, set_is_bytes}
use Rattle.etherparse_transport.specs.Tcp.{data_offset_of, flag_at}
use Rattle.etherparse_transport.specs.TcpHeader.{IsTcpLayout, IsTcpLayoutWith, tcp_data_offset}
use Rattle.etherparse_transport.specs.TcpHeader.{tcp_flags, with_reserved_bits_cleared}
use Rattle.etherparse_transport.specs.declared.tcp_header.TcpHeader.{TcpHeader}

-- a bool as a number
pub from_bool-lt : (b : Bool) → from_bool b < 2
from_bool-lt b = grind arith

same_bool : (a b : Bool) → from_bool a ≡ from_bool b → a ≡ b
same_bool a b e = search rules

-- eight bits in one byte, each told by its place
pub record AreBitsOf (n a b c d e f g h : ℕ) : Type 0 where
  pub bit_7 : a ≡ n / 2 ^ 7 % 2
  pub bit_6 : b ≡ n / 2 ^ 6 % 2
  pub bit_5 : c ≡ n / 2 ^ 5 % 2
  pub bit_4 : d ≡ n / 2 ^ 4 % 2
  pub bit_3 : e ≡ n / 2 ^ 3 % 2
  pub bit_2 : f ≡ n / 2 ^ 2 % 2
  pub bit_1 : g ≡ n / 2 ^ 1 % 2
  pub bit_0 : h ≡ n / 2 ^ 0 % 2

bits_told : (n a b c d e f g h : ℕ) → a < 2 → b < 2 → c < 2 → d < 2 → e < 2 → f < 2 → g < 2 → h < 2
    → n ≡ a * 2 ^ 7 + b * 2 ^ 6 + c * 2 ^ 5 + d * 2 ^ 4 + e * 2 ^ 3 + f * 2 ^ 2 + g * 2 + h
    → AreBitsOf n a b c d e f g h
bits_told n a b c d e f g h a2 b2 c2 d2 e2 f2 g2 h2 is = omega arith

-- the flags of a header, by their places in byte 13
abbrev pub HasFlags : TcpHeader → ℕ → Type 0
HasFlags h n = AreBitsOf n (from_bool h.cwr) (from_bool h.ece) (from_bool h.urg) (from_bool h.ack)
    (from_bool h.psh) (from_bool h.rst) (from_bool h.syn) (from_bool h.fin)

-- the flags that a byte says
pub flags_told : (h : TcpHeader) (n : ℕ) → n ≡ tcp_flags h → HasFlags h n
flags_told h n is = bits_told n _ _ _ _ _ _ _ _ (from_bool-lt h.cwr) (from_bool-lt h.ece)
    (from_bool-lt h.urg) (from_bool-lt h.ack) (from_bool-lt h.psh) (from_bool-lt h.rst)
    (from_bool-lt h.syn) (from_bool-lt h.fin) is

-- and NS
pub ns_told : (h : TcpHeader) (r : ℕ) (p : List ℕ) → IsTcpLayoutWith h r p
    → from_bool h.ns ≡ get_or p 12 0 % 2
ns_told h r p l = omega (arith, l.data_offset_ns, from_bool-lt h.ns)

-- a bit as a bool, and as a number again
bit_as_bool : (n : ℕ) → from_bool (nat_eq (n % 2) 1) ≡ n % 2
bit_as_bool n = grind (arith, nat_tests)

-- the test of a bit is the bool that the bit is
pub bool_of_bit : (test flag : Bool) (n : ℕ) → (IsTrue test ↔ (n ≡ 1)) → from_bool flag ≡ n
    → test ≡ flag
bool_of_bit test flag n tests is = grind (arith, tests, is)

-- a byte is the sum of its bits
bits_of : (n : ℕ) → n < 256 → n ≡ n / 2 ^ 7 % 2 * 2 ^ 7 + n / 2 ^ 6 % 2 * 2 ^ 6 + n / 2 ^ 5 % 2 * 2
    ^ 5 + n / 2 ^ 4 % 2 * 2 ^ 4
    + n / 2 ^ 3 % 2 * 2 ^ 3 + n / 2 ^ 2 % 2 * 2 ^ 2 + n / 2 ^ 1 % 2 * 2 + n / 2 ^ 0 % 2
bits_of n fits = omega arith

-- bytes have one header
pub same_header : (g h : TcpHeader) (p : List ℕ) → IsTcpLayout g p → IsTcpLayout h p → g ≡ h
same_header g h p k l =
    let one = flags_told g _ k.layout.flags in
    let other = flags_told h _ l.layout.flags in
    let cwr = same_bool g.cwr h.cwr (one.bit_7 ∙ sym other.bit_7) in
    let ece = same_bool g.ece h.ece (one.bit_6 ∙ sym other.bit_6) in
    let urg = same_bool g.urg h.urg (one.bit_5 ∙ sym other.bit_5) in
    let ack = same_bool g.ack h.ack (one.bit_4 ∙ sym other.bit_4) in
    let psh = same_bool g.psh h.psh (one.bit_3 ∙ sym other.bit_3) in
    let rst = same_bool g.rst h.rst (one.bit_2 ∙ sym other.bit_2) in
    let syn = same_bool g.syn h.syn (one.bit_1 ∙ sym other.bit_1) in
    let fin = same_bool g.fin h.fin (one.bit_0 ∙ sym other.bit_0) in
    let ns = same_bool g.ns h.ns (ns_told g _ p k.layout ∙ sym (ns_told h _ p l.layout)) in
    search (rules, k.layout, l.layout)

-- the fields of a header, in their order, with byte 12 as it is
abbrev pub tcp_fields : TcpHeader → ℕ → List Field
tcp_fields h offset = u16 h.source_port ∷ u16 h.destination_port ∷ u32 h.sequence_number ∷ u32
    h.acknowledgment_number ∷ u8 offset ∷ u8 (tcp_flags h)
    ∷ u16 h.window_size ∷ u16 h.checksum ∷ u16 h.urgent_pointer ∷ []

-- byte 12
abbrev pub offset_byte : TcpHeader → ℕ → ℕ
offset_byte h r = tcp_data_offset h * 2 ^ 4 + r * 2 + from_bool h.ns

-- the bytes of a header
abbrev pub spelling : TcpHeader → ℕ → List ℕ
spelling h offset = written (tcp_fields h offset) h.options

-- a byte list in the layout is the header's spelling
pub spelled : (h : TcpHeader) (r : ℕ) (p : List ℕ) → IsTcpLayoutWith h r p
    → p ≡ spelling h (offset_byte h r)
spelled h r p l = told p 0 (tcp_fields h (offset_byte h r)) h.options l.are_bytes
    (omega (arith, l.len)) (search (rules, l))

-- what the fields that are written as numbers need to be written back
pub record HasFieldRanges (header : TcpHeader) : Type 0 where
  pub source_port : header.source_port < 2 ^ 16
  pub destination_port : header.destination_port < 2 ^ 16
  pub sequence_number : header.sequence_number < 2 ^ 32
  pub acknowledgment_number : header.acknowledgment_number < 2 ^ 32
  pub window_size : header.window_size < 2 ^ 16
  pub checksum : header.checksum < 2 ^ 16
  pub urgent_pointer : header.urgent_pointer < 2 ^ 16

-- the spelling of a header is in its layout
pub spells : (h : TcpHeader) (r : ℕ) (p : List ℕ) → HasFieldRanges h
    → IsOptionsLen (length h.options) → r < 8 → IsBytes p
    → p ≡ spelling h (offset_byte h r) → IsTcpLayoutWith h r p
spells h r p f o b are_bytes e =
    let fit : AllByRecursion Fits (tcp_fields h (offset_byte h r)) = omega (arith, f) in
    let fields = read_back p 0 (tcp_fields h (offset_byte h r)) h.options fit e in
    let len = ap length e ∙ length-written (tcp_fields h (offset_byte h r)) h.options fit in
    search (rules, fields, len, f)

-- the fixed fields of a header, with the options after them, are its spelling
pub front_spells : (h : TcpHeader) (front options p : List ℕ) → p ≡ front ++ options
    → options ≡ h.options
    → front ≡ written (tcp_fields h (tcp_data_offset h * 2 ^ 4 + from_bool h.ns)) []
    → p ≡ spelling h (offset_byte h 0)
front_spells h front options p e o f = rw (e, f, o) (grind arith)

-- what is read from four bytes fits
from_be_bytes-lt_4 : (p : List ℕ) (at end : ℕ) → IsBytes p
    → from_be_bytes w32 (slice_range p at end) < 2 ^ 32
from_be_bytes-lt_4 p at end are_bytes = let bytes = part_is_bytes p at end are_bytes in
    omega (arith, bytes 0, bytes 1, bytes 2, bytes 3)

-- the ranges of a header's fields are in its layout
pub ranges_of : (h : TcpHeader) (r : ℕ) (p : List ℕ) → IsTcpLayoutWith h r p → HasFieldRanges h
ranges_of h r p l = record {
  source_port = omega (arith, l.source_port, from_be_bytes-lt p 0 2 l.are_bytes);
  destination_port = omega (arith, l.destination_port, from_be_bytes-lt p 2 4 l.are_bytes);
  sequence_number = omega (arith, l.sequence_number, from_be_bytes-lt_4 p 4 8 l.are_bytes);
  acknowledgment_number = omega (
    arith,
    l.acknowledgment_number,
    from_be_bytes-lt_4 p 8 12 l.are_bytes,
  );
  window_size = omega (arith, l.window_size, from_be_bytes-lt p 14 16 l.are_bytes);
  checksum = omega (arith, l.checksum, from_be_bytes-lt p 16 18 l.are_bytes);
  urgent_pointer = omega (arith, l.urgent_pointer, from_be_bytes-lt p 18 20 l.are_bytes);
}

-- the words of a header with a number for its checksum, beside those with 0
pub has_words : (h : TcpHeader) (n : ℕ) (p : List ℕ) → IsTcpLayoutWith
    (record h { checksum = n }) 0 p
    → HasWords (little_endian_word_sum (spelling (record h { checksum = 0 }) (offset_byte h 0))) n p
has_words h n p l = record {
  fits = (ranges_of (record h { checksum = n }) 0 p l).checksum;
  even = omega (arith, l.len, l.options_len);
  words = rw (spelled (record h { checksum = n }) 0 p l) (omega arith);
}

-- the spelling of a header with the reserved bits cleared
cleared_spells : (h : TcpHeader) (p : List ℕ) → IsTcpLayout h p
    → with_reserved_bits_cleared p ≡ spelling h (offset_byte h 0)
cleared_spells h p l = rw (spelled h l.reserved p l.layout)
    (grind (arith, from_bool-lt, l.layout.reserved_fits, l.layout.options_len))

-- with the reserved bits cleared the bytes are in the layout of the same header
pub cleared_layout : (h : TcpHeader) (p : List ℕ) → IsTcpLayout h p
    → IsTcpLayoutWith h 0 (with_reserved_bits_cleared p)
cleared_layout h p l =
    spells h 0 (with_reserved_bits_cleared p) (ranges_of h l.reserved p l.layout)
    l.layout.options_len (omega arith)
    (set_is_bytes p 12 (get_or p 12 0 / 2 ^ 4 * 2 ^ 4 + get_or p 12 0 % 2)
    (omega (arith, l.layout.len)) (omega (arith, l.layout.are_bytes 12)) l.layout.are_bytes)
    (cleared_spells h p l)

-- what has a data offset of 5 or more and the length that it says is in the layout of a header
pub header_at : (p : List ℕ) → 5 ≤ data_offset_of p → length p ≡ 4 * data_offset_of p → IsBytes p
    → (h : TcpHeader) × IsTcpLayout h p
header_at p offset len bytes =
    let header : TcpHeader = record {
      source_port = from_be_bytes w16 (slice_range p 0 2);
      destination_port = from_be_bytes w16 (slice_range p 2 4);
      sequence_number = from_be_bytes w32 (slice_range p 4 8);
      acknowledgment_number = from_be_bytes w32 (slice_range p 8 12);
      ns = nat_eq (get_or p 12 0 % 2) 1;
      fin = nat_eq (flag_at 0 p) 1;
      syn = nat_eq (flag_at 1 p) 1;
      rst = nat_eq (flag_at 2 p) 1;
      psh = nat_eq (flag_at 3 p) 1;
      ack = nat_eq (flag_at 4 p) 1;
      urg = nat_eq (flag_at 5 p) 1;
      ece = nat_eq (flag_at 6 p) 1;
      cwr = nat_eq (flag_at 7 p) 1;
      window_size = from_be_bytes w16 (slice_range p 14 16);
      checksum = from_be_bytes w16 (slice_range p 16 18);
      urgent_pointer = from_be_bytes w16 (slice_range p 18 20);
      options = drop 20 p;
    } in
    let flags : get_or p 13 0 ≡ tcp_flags header = simp bit_as_bool
    (bits_of (get_or p 13 0) (bytes 13)) in
    let ns : from_bool header.ns ≡ get_or p 12 0 % 2 = bit_as_bool (get_or p 12 0) in (
      header,
      record {
        reserved = get_or p 12 0 / 2 % 8;
        layout = search (rules, ns, flags, bytes 12, length-drop 20 p);
      },
    )
