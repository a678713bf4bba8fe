-- the headers of a fragment, and what is kept of them
use Rattle.std.proofs.Common.{ℕ, ◌≡◌, ◌+◌, ◌-◌, ◌<◌, ◌≤◌, ◌++◌, ◌↔◌, ◌∙◌, IfErr, IsOk, List, Result, add-zero, length, arith, ap, append_assoc, drop, length-append, slice_index, slice_range, sym, take}
use Rattle.std.proofs.lemmas.List.{drop_at, get_or-drop, take_at}
use Rattle.std.proofs.lemmas.List.Prefix.{end_rest}
use Rattle.etherparse.specs.Ipv6Header.{IsIpv6Layout}
use Rattle.etherparse.specs.Reading.{BeginsWith}
use Rattle.packet_reassembly.specs.Headers.{AreIpv6HeadersAt}

-- all but the payload of a packet in five parts
pub before_payload : (a b c d p w : List ℕ) → w ≡ a ++ (b ++ (c ++ (d ++ p))) → take (length w - length p) w ≡ a ++ (b ++ (c ++ d))
before_payload a b c d p w whole =
    let joined : w ≡ (a ++ (b ++ (c ++ d))) ++ p = whole ∙ simp append_assoc in
    rw joined (take_at (a ++ (b ++ (c ++ d))) p _ (omega (arith, length-append (a ++ (b ++ (c ++ d))) p)))

-- the middle one of three parts
middle : (a b c whole : List ℕ) (i j : ℕ) → whole ≡ a ++ (b ++ c) → length a ≡ i → length b ≡ j - i → slice_range whole i j ≡ b
middle a b c whole i j is is_i is_j = rw is (ap (take (j - i)) (drop_at a (b ++ c) i is_i) ∙ take_at b c (j - i) is_j)

-- where the parts of the headers of an IPv6 packet are
pub parts_at : (headers : List ℕ) (place : ℕ) (p : AreIpv6HeadersAt headers place)
    → (slice_range headers 40 place ≡ p.before) × (slice_range headers place (length headers - 8) ≡ p.last) × (slice_index headers (length headers - 8) ≡ p.fragment.next_header)
parts_at headers place p =
    let h = p.are_headers in
    let front_len = h.layout.len in let at_len = h.fragment_layout.len in let is_place = p.is_place in
    let len : length headers ≡ 40 + (length p.before + (length p.last + 8)) = ap length h.whole ∙ omega (arith, front_len, at_len, length-append {A = ℕ}) in
    let end : drop (length headers - 8) headers ≡ h.at = rw at_len at (end_rest headers h.at (h.front ++ (p.before ++ p.last)) (h.whole ∙ simp append_assoc)) in (
      middle h.front p.before (p.last ++ h.at) headers 40 place h.whole front_len (omega (arith, is_place)),
      middle (h.front ++ p.before) p.last h.at headers place (length headers - 8) (h.whole ∙ simp append_assoc) (omega (arith, front_len, is_place, length-append {A = ℕ})) (omega (arith, len, is_place)),
      sym (rw (end, add-zero) at (get_or-drop (length headers - 8) headers 0 0)) ∙ h.fragment_layout.next_header,
    )

-- they begin with the IPv6 header
pub ipv6_first : (headers : List ℕ) (place : ℕ) (p : AreIpv6HeadersAt headers place) → BeginsWith IsIpv6Layout headers p.first (p.before ++ (p.last ++ p.are_headers.at))
ipv6_first headers place p = record { front = p.are_headers.front; whole = p.are_headers.whole; layout = p.are_headers.layout }

-- what is accepted up to a greatest length is refused if it is longer
pub too_long : {E : Type 0} (r : Result ℕ E) (n greatest : ℕ) → (IsOk r ↔ (n ≤ greatest)) → IfErr r (λ e. greatest < n)
too_long r n greatest accepted = grind arith

-- where the parts are
pub places : (headers : List ℕ) (place : ℕ) → AreIpv6HeadersAt headers place → (40 ≤ place) × (place + 8 ≤ length headers)
places headers place p = (omega (arith, p.is_place), omega (arith, p.is_place, ap length p.are_headers.whole, length-append {A = ℕ}, p.are_headers.layout.len))
