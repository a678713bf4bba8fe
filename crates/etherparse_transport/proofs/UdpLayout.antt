-- The UDP layout: bytes have one header, and a header has one list of bytes.
use Rattle.std.proofs.Common.{◌≡◌, ◌≢◌, ◌+◌, ◌<◌, ◌≤◌, ◌^◌, List, [], ◌∷◌, ◌++◌, ℕ, zero, suc}
use Rattle.std.proofs.Common.{length, length-append, slice_index}
use Rattle.std.proofs.Common.{map, take, drop, take-append-drop, sym, ap, ◌∙◌, arith, rules, w16}
use Rattle.std.proofs.Common.{Ok}
use Rattle.std.specs.Int.{from_be_bytes, to_be_bytes}
use Rattle.std.specs.List.{concat, slice_range}
use Rattle.std.proofs.lemmas.Grind.{common_steps}
use Rattle.etherparse.specs.Bytes.{IsBytes, words_of}
use Rattle.etherparse.proofs.Parts.{told_by_words}
use Rattle.etherparse.specs.WordSums.{little_endian_word_sum}
use Rattle.etherparse_transport.proofs.Checksums.{HasWords}
use Rattle.etherparse_transport.specs.Udp.{IsUdpLayout, udp_words}
use Rattle.etherparse_transport.specs.UdpChecksum.{HasUdpBytesWith, IsUdpChecksumIpv4}
use Rattle.etherparse_transport.specs.UdpChecksum.{IsUdpChecksumIpv6}
use Rattle.etherparse_transport.specs.UdpView.{ViewsUdp}
use Rattle.etherparse_transport.specs.declared.udp.UdpHeader.{UdpHeader}
use Rattle.packet_parts.specs.Checksum.{IsRightIpv4, IsRightIpv6, udp_checksum}

pub same_header : (g h : UdpHeader) (p : List ℕ) → IsUdpLayout g p → IsUdpLayout h p → g ≡ h
same_header g h p k l = search rules

-- the first 8 bytes of a slice are a header
pub front_viewed : (s : List ℕ) → 8 ≤ length s → IsBytes s → ViewsUdp s (Ok (take 8 s))
front_viewed s enough bytes =
    let header : UdpHeader = record {
      source_port = from_be_bytes w16 (slice_range s 0 2);
      destination_port = from_be_bytes w16 (slice_range s 2 4);
      length = from_be_bytes w16 (slice_range s 4 6);
      checksum = from_be_bytes w16 (slice_range s 6 8);
    } in
    record {
      header = header;
      rest = drop 8 s;
      whole = sym (take-append-drop 8 s);
      layout = record {
        len = grind (arith, common_steps);
        are_bytes = λ i. grind (arith, common_steps, bytes i);
        words = search rules;
      };
    }

pub spelled : (h : UdpHeader) (p : List ℕ) → IsUdpLayout h p
    → p ≡ concat (map (λ n. to_be_bytes w16 n) (udp_words h))
spelled h p l = told_by_words p l.are_bytes (omega (arith, l.len))
    ∙ ap (λ ns. concat (map (λ n. to_be_bytes w16 n) ns)) l.words

-- a word has sixteen bits
pub words_of-lt : (p : List ℕ) → IsBytes p → (i : ℕ) → slice_index (words_of p) i < 2 ^ 16
words_of-lt [] bytes i = omega arith
words_of-lt (a ∷ []) bytes i = omega arith
words_of-lt (a ∷ b ∷ p) bytes zero = omega (arith, bytes 0, bytes 1)
words_of-lt (a ∷ b ∷ p) bytes (suc i) = words_of-lt p (λ k. bytes (suc (suc k))) i

checksum_fits : (h : UdpHeader) (p : List ℕ) → IsUdpLayout h p → h.checksum < 2 ^ 16
checksum_fits h p l = rw (sym (ap (λ ws. slice_index ws 3) l.words)) (words_of-lt p l.are_bytes 3)

-- the words of a header with a number for its checksum, beside those with 0
pub has_words : (h : UdpHeader) (zeroed p : List ℕ) (n : ℕ)
    → IsUdpLayout (record h { checksum = 0 }) zeroed → IsUdpLayout (record h { checksum = n }) p
    → HasWords (little_endian_word_sum zeroed) n p
has_words h zeroed p n k l = record {
  fits = checksum_fits _ p l;
  even = omega (arith, l.len);
  words = rw (spelled _ zeroed k, spelled _ p l) (omega arith);
}

-- the whole datagram, with its length field before its data
length_of : (h : UdpHeader) (p payload : List ℕ) → h.length ≡ 8 + length payload → IsUdpLayout h p
    → (h.length < 2 ^ 16) × (length (p ++ payload) ≡ h.length)
length_of h p payload len l = (
  rw (sym (ap (λ ws. slice_index ws 2) l.words)) (words_of-lt p l.are_bytes 2),
  omega (arith, len, l.len, length-append p payload),
)

-- a receiver finds it right over IPv4
pub right_ipv4 : (source destination payload : List ℕ) (h : UdpHeader) (n : ℕ) (p : List ℕ)
    → h.length ≡ 8 + length payload → IsUdpChecksumIpv4 source destination h payload n
    → HasUdpBytesWith h n p → IsRightIpv4 source destination 17 (p ++ payload)
right_ipv4 source destination payload h n p len is l =
    let whole = length_of (record h { checksum = n }) p payload len l in
    record { fits = λ e. rw whole.1 whole.0; sum = rw whole.1 (is.right p l) }

-- and over IPv6, with a checksum there
pub right_ipv6 : (source destination payload : List ℕ) (h : UdpHeader) (n : ℕ) (p : List ℕ)
    → h.length ≡ 8 + length payload → IsUdpChecksumIpv6 source destination h payload n
    → HasUdpBytesWith h n p → n ≢ 0 → IsRightIpv6 source destination 17 (p ++ payload)
right_ipv6 source destination payload h n p len is l some =
    let whole = length_of (record h { checksum = n }) p payload len l in
    let fits = checksum_fits _ p l in
    let field : udp_checksum (p ++ payload) ≡ n = rw (spelled _ p l) (omega (arith, fits)) in
    record {
      there = λ none. some (sym field ∙ none.1);
      fits = omega (arith, whole);
      sum = rw whole.1 (is.right p l);
    }
