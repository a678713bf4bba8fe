-- The extension headers: a slice begins with one in one way, and the bytes of a header tell its
-- fields, and its fields its bytes.
use Rattle.std.proofs.Common.{ℕ, ◌≡◌, ◌≢◌, ◌+◌, ◌*◌, ◌/◌, ◌%◌, ◌^◌, ◌<◌, ◌≤◌, List, []}
use Rattle.std.proofs.Common.{◌∷◌, ◌∙◌, length, nat_eq, refl, sym, ap, Bool, true, false}
use Rattle.std.proofs.Common.{arith, rules, slice_index, Ok, take, drop, take-append-drop}
use Rattle.std.proofs.Common.{drop_of_length-le, length-drop}
use Rattle.std.specs.Int.{from_be_bytes, from_bool, w16, w32}
use Rattle.std.specs.List.{AllByRecursion, slice_range}
use Rattle.std.proofs.lemmas.Grind.{common_steps}
use Rattle.etherparse.specs.Bytes.{IsBytes}
use Rattle.etherparse.specs.Reading.{Views}
use Rattle.etherparse.specs.declared.err.Layer.TheVariants as layer
use Rattle.etherparse.proofs.Fronts.{TellsHeaders, fixed_tells}
use Rattle.etherparse.proofs.Layouts.{Field, Fits, length-written, read_back, told, u16, u32, u8}
use Rattle.etherparse.proofs.Layouts.{written}
use Rattle.etherparse_net.specs.IpAuthHeader.{IsAuthLayout, IsClearedAuthLayout, RefusesAuth}
use Rattle.etherparse_net.specs.IpAuthHeader.{ViewsAuth, auth_len_of, with_auth_reserved_cleared}
use Rattle.etherparse_net.specs.IpAuthIcv.{IsIcvLen}
use Rattle.etherparse_net.specs.Ipv6FragmentHeader.{IsClearedFragmentLayout, IsFragmentLayout}
use Rattle.etherparse_net.specs.Ipv6FragmentHeader.{RefusesFragment, ViewsFragment}
use Rattle.etherparse_net.specs.Ipv6FragmentHeader.{fragment_offset_of}
use Rattle.etherparse_net.specs.Ipv6FragmentHeader.{with_fragment_reserved_cleared}
use Rattle.etherparse_net.specs.Ipv6RawExtHeader.{IsRawExtLayout, RefusesRawExt, ViewsRawExt}
use Rattle.etherparse_net.specs.declared.ip_auth_header.IpAuthHeader.{IpAuthHeader}
use Rattle.etherparse_net.specs.declared.ipv6_fragment_header.Ipv6FragmentHeader.{
  Ipv6FragmentHeader,
}

abbrev second_byte : List ℕ → ℕ
second_byte s = slice_index s 1

-- the first bytes of a slice: they are as many, and bytes; and the second is the same one
pub front_len : (s : List ℕ) (n : ℕ) → n ≤ length s → length (take n s) ≡ n
front_len s n enough = grind (arith, common_steps)

pub front_is_bytes : (s : List ℕ) (n : ℕ) → IsBytes s → IsBytes (take n s)
front_is_bytes s n bytes = λ i. grind (arith, common_steps, bytes i)

same_second : (s : List ℕ) (n : ℕ) → 2 ≤ n → second_byte (take n s) ≡ second_byte s
same_second s n enough = grind (arith, common_steps)

-- they are seen if they are in the layout of a header
seen : {H E : Type 0} (Layout : H → List ℕ → Type 0) (Refuses : List ℕ → E → Type 0) (s : List ℕ)
    (n : ℕ) (header : H) → Layout header (take n s) → Views Layout Refuses s (Ok (take n s))
seen Layout Refuses s n header layout = record {
  header = header;
  rest = drop n s;
  whole = sym (take-append-drop n s);
  layout = layout;
}

-- A fragment header: a slice is read in one way.
pub tells_fragment : TellsHeaders IsFragmentLayout RefusesFragment
tells_fragment = fixed_tells IsFragmentLayout layer.Ipv6FragHeader 8 (λ g h p k l. search rules)
    (λ h p l. l.len)

-- eight bytes are in the layout of a header
header_at : (p : List ℕ) → length p ≡ 8 → IsBytes p
    → (h : Ipv6FragmentHeader) × IsFragmentLayout h p
header_at p e bytes =
    let header : Ipv6FragmentHeader = record {
      next_header = slice_index p 0;
      fragment_offset = fragment_offset_of p;
      more_fragments = nat_eq (from_be_bytes w16 (slice_range p 2 4) % 2) 1;
      identification = from_be_bytes w32 (slice_range p 4 8);
    } in
    (header, search rules)

pub fragment_viewed : (s : List ℕ) → 8 ≤ length s → IsBytes s → ViewsFragment s (Ok (take 8 s))
fragment_viewed s enough bytes =
    let header = header_at (take 8 s) (front_len s 8 enough) (front_is_bytes s 8 bytes) in
    seen IsFragmentLayout RefusesFragment s 8 header.0 header.1

from_bool-lt : (b : Bool) → from_bool b < 2
from_bool-lt b = grind arith

-- the fields of a header, in their order
abbrev pub fragment_fields : Ipv6FragmentHeader → List Field
fragment_fields h = u8 h.next_header ∷ u8 0
    ∷ u16 (h.fragment_offset * 2 ^ 3 + from_bool h.more_fragments) ∷ u32 h.identification ∷ []

-- the second word of a header that has cleared what is reserved
word_of : (h : Ipv6FragmentHeader) (p : List ℕ) → IsClearedFragmentLayout h p
    → from_be_bytes w16 (slice_range p 2 4) ≡ h.fragment_offset * 2 ^ 3 + from_bool h.more_fragments
word_of h p l = grind (arith, common_steps, l.layout.are_bytes 2, l.layout.are_bytes 3)

-- bytes in the cleared layout are those of the fields
pub fragment_spelled : (h : Ipv6FragmentHeader) (p : List ℕ) → IsClearedFragmentLayout h p
    → p ≡ written (fragment_fields h) []
fragment_spelled h p l =
    let rest = drop_of_length-le p {i = 8} (omega (arith, l.layout.len)) in
    told p 0 (fragment_fields h) [] l.layout.are_bytes (omega (arith, l.layout.len))
    (search (rules, word_of h p l, l.layout, rest))

-- with all that is reserved 0 the bytes are in the cleared layout of the same header
pub fragment_cleared_layout : (h : Ipv6FragmentHeader) (p : List ℕ) → IsFragmentLayout h p
    → IsClearedFragmentLayout h (with_fragment_reserved_cleared p)
fragment_cleared_layout h p l = search rules

-- a flag in the lowest bit
lowest_bit : (n : ℕ) (b : Bool) → nat_eq ((n * 2 ^ 3 + from_bool b) % 2) 1 ≡ b
lowest_bit n true = let e : (n * 2 ^ 3 + 1) % 2 ≡ 1 = omega arith in rw e refl
lowest_bit n false = let e : (n * 2 ^ 3 + 0) % 2 ≡ 0 = omega arith in rw e refl

-- the bytes of the fields are in the cleared layout
pub fragment_spells : (h : Ipv6FragmentHeader) (p : List ℕ) → h.fragment_offset < 2 ^ 13
    → h.identification < 2 ^ 32 → IsBytes p → p ≡ written (fragment_fields h) []
    → IsClearedFragmentLayout h p
fragment_spells h p offset_fits identification are_bytes e =
    let fit : AllByRecursion Fits (fragment_fields h) =
    omega (arith, from_bool-lt h.more_fragments) in
    let fields = read_back p 0 (fragment_fields h) [] fit e in
    let len = ap length e ∙ length-written (fragment_fields h) [] fit in
    let word = fields.1.1.0 in
    let more : nat_eq (from_be_bytes w16 (slice_range p 2 4) % 2) 1 ≡ h.more_fragments =
    rw word (lowest_bit h.fragment_offset h.more_fragments) in
    let offset : fragment_offset_of p ≡ h.fragment_offset =
    rw word (omega (arith, from_bool-lt h.more_fragments)) in
    let bits : slice_index p 3 / 2 % 2 ^ 2 ≡ 0 =
    grind (arith, common_steps, are_bytes 3, word, from_bool-lt h.more_fragments) in
    search (rules, fields, len, are_bytes, more, offset, bits)

-- An authentication header: a slice is read in one way.
pub tells_auth : TellsHeaders IsAuthLayout RefusesAuth
tells_auth = record {
  one_header = λ g h p k l. search rules;
  one_length = λ s g h x y p q. grind (
    arith,
    common_steps,
    ap second_byte p.whole,
    ap second_byte q.whole,
  );
  not_refused = λ s h x e b q. grind (
    arith,
    common_steps,
    ap length b.whole,
    ap second_byte b.whole,
  );
  one_refusal = λ s e f p q. grind arith;
}

-- as many bytes as the payload length says are in the layout of a header
pub auth_viewed : (s : List ℕ) (n : ℕ) → n ≡ auth_len_of s → slice_index s 1 ≢ 0 → n ≤ length s
    → IsBytes s → ViewsAuth s (Ok (take n s))
auth_viewed s n is some fits bytes =
    let p = take n s in
    let header : IpAuthHeader = record {
      next_header = slice_index p 0;
      spi = from_be_bytes w32 (slice_range p 4 8);
      sequence_number = from_be_bytes w32 (slice_range p 8 12);
      icv = drop 12 p;
    } in
    let second = same_second s n (omega (arith, is)) in
    let len : length p ≡ auth_len_of p = omega (arith, front_len s n fits, second, is) in
    let payload_len : slice_index p 1 ≢ 0 = omega (arith, second, some) in
    seen IsAuthLayout RefusesAuth s n header
    (search (rules, len, payload_len, front_is_bytes s n bytes))

-- the fields of a header before its integrity check value, in their order
abbrev pub auth_fields : IpAuthHeader → List Field
auth_fields h = u8 h.next_header ∷ u8 (length h.icv / 4 + 1) ∷ u16 0
    ∷ u32 h.spi ∷ u32 h.sequence_number ∷ []

-- bytes in the cleared layout are those of the fields, and the value after them
pub auth_spelled : (h : IpAuthHeader) (p : List ℕ) → IsClearedAuthLayout h p
    → p ≡ written (auth_fields h) h.icv
auth_spelled h p l =
    let payload_len : slice_index p 1 ≡ length h.icv / 4 + 1 =
    omega (
      arith,
      l.layout.len,
      l.layout.payload_len,
      ap length l.layout.icv,
      length-drop 12 p,
    ) in
    told p 0 (auth_fields h) h.icv l.layout.are_bytes
    (omega (arith, l.layout.len, l.layout.payload_len))
    (search (rules, payload_len, l.layout, l.reserved))

-- with the reserved bytes 0 the bytes are in the cleared layout of the same header
pub auth_cleared_layout : (h : IpAuthHeader) (p : List ℕ) → IsAuthLayout h p
    → IsClearedAuthLayout h (with_auth_reserved_cleared p)
auth_cleared_layout h p l = search rules

-- the bytes of the fields and the value after them are in the cleared layout
pub auth_spells : (h : IpAuthHeader) (p : List ℕ) → h.spi < 2 ^ 32 → h.sequence_number < 2 ^ 32
    → IsIcvLen (length h.icv) → IsBytes p → p ≡ written (auth_fields h) h.icv
    → IsClearedAuthLayout h p
auth_spells h p spi sequence icv_len are_bytes e =
    let fit : AllByRecursion Fits (auth_fields h) = omega arith in
    let fields = read_back p 0 (auth_fields h) h.icv fit e in
    let total : length p ≡ 12 + length h.icv = ap length e
    ∙ length-written (auth_fields h) h.icv fit in
    let len : length p ≡ auth_len_of p = omega (arith, fields.1) in
    let payload_len : slice_index p 1 ≢ 0 = omega (arith, fields.1) in
    search (rules, fields, len, payload_len)

-- A header in the layout of most: a slice is read in one way.
pub tells_raw_ext : TellsHeaders IsRawExtLayout RefusesRawExt
tells_raw_ext = record {
  one_header = λ g h p k l. search rules;
  one_length = λ s g h x y p q. grind (
    arith,
    common_steps,
    ap second_byte p.whole,
    ap second_byte q.whole,
  );
  not_refused = λ s h x e b q. grind (
    arith,
    common_steps,
    ap length b.whole,
    ap second_byte b.whole,
  );
  one_refusal = λ s e f p q. grind arith;
}

-- as many bytes as the second says are in the layout of a header
pub raw_ext_viewed : (s : List ℕ) (n : ℕ) → n ≡ 8 * (slice_index s 1 + 1) → n ≤ length s
    → IsBytes s → ViewsRawExt s (Ok (take n s))
raw_ext_viewed s n is fits bytes =
    let p = take n s in
    let second = same_second s n (omega (arith, is)) in
    let len : length p ≡ 8 * (slice_index p 1 + 1) =
    omega (arith, front_len s n fits, second, is) in
    seen IsRawExtLayout RefusesRawExt s n
    (record { next_header = slice_index p 0; payload = drop 2 p })
    (search (rules, len, front_is_bytes s n bytes))
