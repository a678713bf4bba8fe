-- What there is of a packet, by its length field.
use Rattle.std.proofs.Common.{ℕ, ◌≡◌, ◌≢◌, ◌+◌, ◌<◌, ◌≤◌, ◌∙◌, ◌++◌, Bool, List, MatchOption, Option, None, Some, Ok, Err, ap, arith, false, inl, inr, length, if◌then◌else◌, option_map, refl, sym, true}
use Rattle.std.proofs.lemmas.List.{take_all}
use Rattle.std.proofs.lemmas.Bool.Decides.{nat_tests}
use Rattle.std.specs.Prelude.{take, IsTrue, ◌⊎◌}
use Rattle.etherparse.specs.ExtensionHeaders.{IsSkippable}
use Rattle.etherparse.specs.Ipv4Header.{IsIpv4Layout, ipv4_header_len, ipv4_payload_len}
use Rattle.etherparse.specs.Ipv6Header.{IsIpv6Layout}
use Rattle.etherparse.specs.Reading.{BeginsWith, HasFront, too_short_error}
use Rattle.etherparse.specs.declared.err.Layer.TheVariants as layer
use Rattle.etherparse.specs.declared.err.LenError.{LenError}
use Rattle.etherparse.specs.declared.net.ipv4_header.Ipv4Header.{Ipv4Header}
use Rattle.etherparse.specs.declared.net.ipv4_header_slice.Ipv4HeaderSlice.{Ipv4HeaderSlice}
use Rattle.etherparse.specs.declared.net.ipv6_header.Ipv6Header.{Ipv6Header}
use Rattle.etherparse.specs.declared.net.ipv6_header_slice.Ipv6HeaderSlice.{Ipv6HeaderSlice}
use Rattle.packet_parts.specs.Extensions.{EndsAs}
use Rattle.packet_parts.proofs.IpParts.{cut_front, packet_len_4, packet_len_6}
use Rattle.packet_parts.specs.IpSlice.{HasIpParts, HasLaxIpParts, IsWhole, RefusesIp, extension_error, ipv4_bytes, ipv6_bytes, ipv6_packet_len, ipv6_trimmed, says_no_length}
use Rattle.etherparse_net.specs.declared.ipv6_fragment_header.Ipv6FragmentHeader.{Ipv6FragmentHeader}
use Rattle.packet_parts.specs.declared.ip_slice.IpHeaderSlice.TheVariants as version
use Rattle.packet_parts.specs.declared.ip_slice.IpSlice.{IpSlice}
use Rattle.packet_parts.specs.declared.ip_slice.IpSliceError.{IpSliceError}
use Rattle.packet_parts.specs.declared.ip_slice.IpSliceError.TheVariants as error

-- as far as a total length that is not 0
pub ipv4_bytes-told : (header : Ipv4Header) (s : List ℕ) → header.total_len ≢ 0 → take header.total_len s ≡ ipv4_bytes header s
ipv4_bytes-told header s some = grind (arith, nat_tests, some)

-- as long as the header and the payload together
pub payload_len_told : (header : Ipv4Header) (n : ℕ) → ipv4_payload_len header ≡ Ok n → ipv4_header_len header + n ≡ header.total_len
payload_len_told header n says = grind (arith, nat_tests)

-- a packet of version 4 whose header is viewed, and its parts, of which this is the payload
module _ (packet : List ℕ) (view : Ipv4HeaderSlice) (f : HasFront IsIpv4Layout packet view.slice.now) (slice : IpSlice) (payload : List ℕ) (stop : Option IpSliceError)
    (of_view : slice.header ≡ version.Ipv4 view)
    (parts : (read : Ipv4Header) → (begins : BeginsWith IsIpv4Layout (ipv4_bytes read packet) read payload) → begins.front ≡ view.slice.now → HasIpParts packet slice) where
  begins : BeginsWith IsIpv4Layout packet f.header f.rest
  begins = record { front = view.slice.now; whole = f.whole; layout = f.layout }

  all_parts : ipv4_bytes f.header packet ≡ packet → payload ≡ f.rest → HasIpParts packet slice
  all_parts all rest = parts f.header (record { front = view.slice.now; whole = all ∙ f.whole ∙ ap (λ x. view.slice.now ++ x) (sym rest); layout = f.layout }) refl

  -- it is shorter than its total length
  pub short_4 : (e : LenError) → payload ≡ f.rest → length packet < f.header.total_len → e ≡ too_short_error layer.Ipv4Packet f.header.total_len (length packet)
      → stop ≡ Some (error.Packet e) → HasLaxIpParts packet (record { slice = slice; stop = stop })
  short_4 e rest short is stops =
      let some : f.header.total_len ≢ 0 = λ zero. omega (arith, zero, short) in
      rw stops (record {
        parts = all_parts (sym (ipv4_bytes-told f.header packet some) ∙ take_all _ packet (omega (arith, short))) rest;
        stop = inr (inl (record { header = f.header; rest = f.rest; begins = begins; short = short; error = is }));
      })

  -- its total length is 0
  pub silent_4 : (e : LenError) → payload ≡ f.rest → f.header.total_len ≡ 0 → ipv4_payload_len f.header ≡ Err e → stop ≡ Some (error.Packet e)
      → HasLaxIpParts packet (record { slice = slice; stop = stop })
  silent_4 e rest zero says stops = rw stops (record {
    parts = all_parts (grind (arith, nat_tests, zero)) rest;
    stop = inl (record { header = f.header; rest = f.rest; begins = begins; says = says });
  })

  -- it has all its bytes
  pub whole_4 : (n : ℕ) → payload ≡ take n f.rest → ipv4_payload_len f.header ≡ Ok n → f.header.total_len ≤ length packet → stop ≡ None
      → HasLaxIpParts packet (record { slice = slice; stop = stop })
  whole_4 n rest says enough stops =
      let told = payload_len_told f.header n says in
      let some : f.header.total_len ≢ 0 = λ zero. omega (arith, zero, told) in
      let len = packet_len_4 view f.header view.slice.now f.layout refl in
      let cut = cut_front packet view.slice.now f.rest n f.header.total_len f.whole (omega (arith, told, f.layout.layout.len)) in
      let whole : ipv4_bytes f.header packet ≡ view.slice.now ++ payload = sym (ipv4_bytes-told f.header packet some) ∙ cut ∙ ap (λ x. view.slice.now ++ x) (sym rest) in
      rw stops (record {
        parts = parts f.header (record { front = view.slice.now; whole = whole; layout = f.layout }) refl;
        stop = record { told = rw of_view (λ zero. some (sym len ∙ zero)); enough = rw of_view (omega (arith, len, enough)); headers = rw of_view tt };
      })

-- an IPv6 packet is as long as its payload length says, if that says something
says : (p n : ℕ) → ipv6_packet_len p n ≢ 0 → says_no_length p n ≡ false
says p n = elim (says_no_length p n) as (λ b. (if b then 0 else 40 + p) ≢ 0 → b ≡ false) [ true ↦ λ some. absurd (some refl) | false ↦ λ some. refl ]

pub says_nothing : (p n : ℕ) → ipv6_packet_len p n ≡ 0 → (p ≡ 0) × (n ≡ 0) × (says_no_length p n ≡ true)
says_nothing p n none = (grind (arith, nat_tests, none), grind (arith, nat_tests, none), grind (arith, nat_tests, none))

pub other-told : (p n : ℕ) → ¬ IsSkippable n → ipv6_packet_len p n ≢ 0
other-told p n other none = other (inl (says_nothing p n none).1)

pub ipv6_packet_len-told : (p n : ℕ) → ipv6_packet_len p n ≢ 0 → ipv6_packet_len p n ≡ 40 + p
ipv6_packet_len-told p n some = rw (says p n some) refl

pub ipv6_bytes-told : (header : Ipv6Header) (s : List ℕ) → ipv6_packet_len header.payload_length header.next_header ≢ 0 → ipv6_trimmed header s ≡ ipv6_bytes header s
ipv6_bytes-told header s some = rw (says header.payload_length header.next_header some) refl

-- all of a packet that is shorter than its payload length says
pub ipv6_bytes-short : (header : Ipv6Header) (s : List ℕ) → length s ≤ 40 + header.payload_length → ipv6_bytes header s ≡ s
ipv6_bytes-short header s short = elim (says_no_length header.payload_length header.next_header) as (λ b. (if b then s else ipv6_trimmed header s) ≡ s) [
  | true ↦ refl
  | false ↦ take_all _ s short
]

-- a packet with all its bytes is whole, or it is refused since an extension header is incomplete
module _ (packet rest : List ℕ) (view : Ipv6HeaderSlice) (header : Ipv6Header) (slice : IpSlice) (decided : Option Ipv6FragmentHeader)
    (begins : BeginsWith IsIpv6Layout (ipv6_bytes header packet) header rest) (viewed : begins.front ≡ view.slice.now) (of_view : slice.header ≡ version.Ipv6 view)
    (told : ipv6_packet_len header.payload_length header.next_header ≢ 0) (enough : 40 + header.payload_length ≤ length packet) where
  whole : IsTrue slice.is_later_fragment ⊎ ¬ IsSkippable slice.upper → IsWhole packet slice
  whole headers =
      let len = packet_len_6 view header begins.front begins.layout viewed ∙ ipv6_packet_len-told header.payload_length header.next_header told in
      record { told = rw of_view (λ zero. omega (arith, len, zero)); enough = rw of_view (omega (arith, len, enough)); headers = rw of_view headers }

  ended : (later : Bool) (incomplete : Option LenError) (stop : Option IpSliceError) → slice.is_later_fragment ≡ later
      → stop ≡ option_map (λ e. error.Extensions (extension_error e)) incomplete → EndsAs later incomplete rest header.next_header decided slice.upper slice.payload.now
      → MatchOption stop (IsWhole packet slice) (RefusesIp packet)
  ended false None stop later is ends = rw is (whole (inr ends.1))
  ended true None stop later is ends = rw is (whole (inl (rw later refl)))
  ended false (Some e) stop later is ends = rw is (record {
    header = header;
    body = rest;
    enough = enough;
    begins = record { front = begins.front; whole = ipv6_bytes-told header packet told ∙ begins.whole; layout = begins.layout };
    fragment = decided;
    number = slice.upper;
    rest = slice.payload.now;
    inside = e;
    ends = ends;
    moved = refl;
  })
  ended true (Some e) stop later is ends = absurd ends

  pub whole_or_refused : (incomplete : Option LenError) (stop : Option IpSliceError) → stop ≡ option_map (λ e. error.Extensions (extension_error e)) incomplete
      → EndsAs slice.is_later_fragment incomplete rest header.next_header decided slice.upper slice.payload.now → MatchOption stop (IsWhole packet slice) (RefusesIp packet)
  whole_or_refused incomplete stop is ends = ended slice.is_later_fragment incomplete stop refl is ends
