-- A checksum of UDP or TCP that was right is right after the change of a port.
use Rattle.std.proofs.Common.{ℕ, None, Some, zero, suc, false, true, ◌≡◌, ◌≢◌, ◌<◌, ◌≤◌, ◌+◌, ◌*◌, ◌/◌, ◌%◌, ◌∙◌, List, [], ◌∷◌, ◌++◌, ap, arith, drop, inl, inr, length, length-drop, length-set, length-take, refl, slice_index, slice_range, slice_set, sym, subst, w16, w32}
use Rattle.std.specs.Int.{to_be_bytes}
use Rattle.std.proofs.lemmas.Bool.Decides.{nat_tests}
use Rattle.std.proofs.lemmas.List.{get_or-set_other, get_or-take}
use Rattle.etherparse.proofs.WordSumLaws.{network_order_word_sum-append}
use Rattle.etherparse.specs.WordSums.{SumsToAllOnes, folded_sum, network_order_word_sum, ones_complement_sum}
use Rattle.packet_parts.proofs.FinalDestinations.{goes_len_ipv6, goes_len_ipv4}
use Rattle.packet_parts.proofs.OriginalSources.{comes_len_ipv6}
use Rattle.packet_parts.specs.Checksum.{BeginsWithDatagram, Covers, IsVerdictIpv4, IsVerdictIpv6, IsVerdictOver, IsWithoutChecksum, ipv4_pseudo_header, ipv6_pseudo_header, udp_checksum, udp_length}
use Rattle.packet_parts.specs.declared.checksum.Verdict.TheVariants.{Right}
use Rattle.packet_parts.specs.declared.ip_slice.IpHeaderSlice.{IpHeaderSlice}
use Rattle.packet_parts.specs.declared.ip_slice.IpHeaderSlice.TheVariants as header
use Rattle.packet_rewriting.proofs.ChecksumWords.{even_header, in_pieces, replaced, stored-words, with_checksum-words}
use Rattle.packet_rewriting.proofs.KeptRight.{field_there, header_words, kept, of_pieces, other_pieces, pieces, same_field, updated_fits, updated_there}
use Rattle.packet_rewriting.proofs.RightChecksums.{covers_enough, covers_written, has_checksum, same_length, take_of_set}
use Rattle.packet_rewriting.specs.Fields.{UpdatesUpper, has_ports, updated_upper, with_port, word_at}
use Rattle.packet_rewriting.specs.UpperChecksum.{checksum_field, checksum_place, with_checksum}

-- a word that stands before the checksum is the same with another checksum
word_before : (number checksum offset : ℕ) (bytes : List ℕ) → offset + 2 ≤ checksum_place number → word_at offset (with_checksum number checksum bytes) ≡ word_at offset bytes
word_before number checksum offset bytes before =
    let place = checksum_place number in
    let high = checksum / 256 % 256 in
    let low = checksum % 256 in
    let first = get_or-set_other (slice_set bytes place high) (place + 1) offset low 0 (λ e. omega (arith, before, e)) ∙ get_or-set_other bytes place offset high 0 (λ e. omega (arith, before, e)) in
    let second = get_or-set_other (slice_set bytes place high) (place + 1) (offset + 1) low 0 (λ e. omega (arith, before, e)) ∙ get_or-set_other bytes place (offset + 1) high 0 (λ e. omega (arith, before, e)) in
    rw (first, second) refl

-- with another word and another checksum, a sum of all ones is one again
pub kept_with_word : (number answer offset high low : ℕ) (front covered : List ℕ) (first : ℕ) → length front % 2 ≡ 0 → network_order_word_sum front ≡ first → 0 < first
    → offset % 2 ≡ 0 → offset + 2 ≤ checksum_place number → checksum_place number + 2 ≤ length covered → answer < 65536
    → UpdatesUpper number (checksum_field number covered) (network_order_word_sum (word_at offset covered)) (256 * high + (1 * low + 0)) answer
    → (number ≡ 17 → checksum_field number covered ≢ 0) → SumsToAllOnes (front ++ covered)
    → SumsToAllOnes (front ++ slice_set (slice_set (with_checksum number answer covered) offset high) (offset + 1) low)
kept_with_word number answer offset high low front covered first even words some even_offset before enough fits updates there ones =
    let zeros = with_checksum number 0 covered in
    let written = with_checksum number answer covered in
    let len_zeros : offset + 2 ≤ length zeros = omega (arith, before, enough, length-set (slice_set covered (checksum_place number) 0) (checksum_place number + 1) 0, length-set covered (checksum_place number) 0) in
    let len_written : offset + 2 ≤ length written = omega (
      arith,
      before,
      enough,
      length-set (slice_set covered (checksum_place number) (answer / 256 % 256)) (checksum_place number + 1) (answer % 256),
      length-set covered (checksum_place number) (answer / 256 % 256),
    ) in
    let without = network_order_word_sum (slice_set (slice_set zeros offset 0) (offset + 1) 0) in
    let old = network_order_word_sum (word_at offset covered) in
    let old_zeros : network_order_word_sum (word_at offset zeros) ≡ old = ap network_order_word_sum (word_before number 0 offset covered before) in
    let old_written : network_order_word_sum (word_at offset written) ≡ old = ap network_order_word_sum (word_before number answer offset covered before) in
    let rest : ℕ = first + without in
    let others : without + old ≡ network_order_word_sum zeros = omega (arith, replaced zeros offset 0 0 even_offset len_zeros, old_zeros) in
    let whole : network_order_word_sum (front ++ covered) ≡ old + rest + checksum_field number covered =
    omega (arith, words, others, network_order_word_sum-append front covered even, stored-words number covered enough) in
    let after : network_order_word_sum (front ++ slice_set (slice_set written offset high) (offset + 1) low) ≡ 256 * high + (1 * low + 0) + rest + answer =
    omega (
      arith,
      words,
      others,
      old_written,
      network_order_word_sum-append front (slice_set (slice_set written offset high) (offset + 1) low) even,
      replaced written offset high low even_offset len_written,
      with_checksum-words number answer covered fits enough,
    ) in
    ap folded_sum after ∙ kept number (checksum_field number covered) answer old _ rest updates there (omega (arith, some)) (sym (ap folded_sum whole) ∙ ones)

-- what is covered is covered with another port
ported : (offset high low : ℕ) (segment covered : List ℕ) → offset % 2 ≡ 0 → offset ≤ 2 → BeginsWithDatagram segment covered
    → BeginsWithDatagram (slice_set (slice_set segment offset high) (offset + 1) low) (slice_set (slice_set covered offset high) (offset + 1) low)
ported zero high low (a ∷ b ∷ c ∷ d ∷ e ∷ f ∷ g ∷ h ∷ rest) covered even within begins = (
  begins.0,
  begins.1,
  ap (λ xs. slice_set (slice_set xs 0 high) 1 low) begins.2 ∙ ap (λ xs. slice_set xs 1 low) (take_of_set _ _ 0 _) ∙ take_of_set _ _ 1 _,
)
ported (suc (suc zero)) high low (a ∷ b ∷ c ∷ d ∷ e ∷ f ∷ g ∷ h ∷ rest) covered even within begins = (
  begins.0,
  begins.1,
  ap (λ xs. slice_set (slice_set xs 2 high) 3 low) begins.2 ∙ ap (λ xs. slice_set xs 3 low) (take_of_set _ _ 2 _) ∙ take_of_set _ _ 3 _,
)
ported offset high low segment covered even within begins = absurd (omega (arith, even, within, begins.0, begins.1))

-- the length stays
length_ported : (bytes : List ℕ) (offset high low : ℕ) → length (slice_set (slice_set bytes offset high) (offset + 1) low) ≡ length bytes
length_ported bytes offset high low = length-set (slice_set bytes offset high) (offset + 1) low ∙ length-set bytes offset high

pub covers_ported : (icmp number offset high low : ℕ) (segment covered : List ℕ) → offset % 2 ≡ 0 → offset ≤ 2 → Covers icmp number segment covered
    → Covers icmp number (slice_set (slice_set segment offset high) (offset + 1) low) (slice_set (slice_set covered offset high) (offset + 1) low)
covers_ported icmp number offset high low segment covered even within (inl (is, begins)) = inl (is, ported offset high low segment covered even within begins)
covers_ported icmp number offset high low segment covered even within (inr (inl (is, least, all))) =
    inr (inl (is, rw (length_ported segment offset high low) least, ap (λ xs. slice_set (slice_set xs offset high) (offset + 1) low) all))
covers_ported icmp number offset high low segment covered even within (inr (inr (is, least, all))) =
    inr (inr (is, rw (length_ported segment offset high low) least, ap (λ xs. slice_set (slice_set xs offset high) (offset + 1) low) all))

-- a datagram with a checksum has it with another port too
checksum_ported : (offset high low : ℕ) (covered : List ℕ) → offset % 2 ≡ 0 → offset ≤ 2 → 8 ≤ length covered
    → udp_checksum (slice_set (slice_set covered offset high) (offset + 1) low) ≡ udp_checksum covered
checksum_ported zero high low (a ∷ b ∷ c ∷ d ∷ e ∷ f ∷ g ∷ h ∷ rest) even within enough = refl
checksum_ported (suc (suc zero)) high low (a ∷ b ∷ c ∷ d ∷ e ∷ f ∷ g ∷ h ∷ rest) even within enough = refl
checksum_ported offset high low covered even within enough = absurd (omega (arith, even, within, enough))

there_ported : (number offset high low : ℕ) (covered : List ℕ) → offset % 2 ≡ 0 → offset ≤ 2 → checksum_place number + 2 ≤ length covered → ¬ IsWithoutChecksum number covered
    → ¬ IsWithoutChecksum number (slice_set (slice_set covered offset high) (offset + 1) low)
there_ported number offset high low covered even within enough there (is, none) = there (is, sym (checksum_ported offset high low covered even within (rw is at enough)) ∙ none)

-- what is covered has the words of the payload
same_word : (icmp number offset : ℕ) (payload covered : List ℕ) → offset ≤ 2 → Covers icmp number payload covered → word_at offset covered ≡ word_at offset payload
same_word icmp number offset payload covered within (inl (is, begins)) =
    rw begins.2 (rw (get_or-take (udp_length payload) payload offset 0 (omega (arith, within, begins.0)), get_or-take (udp_length payload) payload (offset + 1) 0 (omega (arith, within, begins.0))) refl)
same_word icmp number offset payload covered within (inr (inl (is, least, all))) = ap (word_at offset) all
same_word icmp number offset payload covered within (inr (inr (is, least, all))) = ap (word_at offset) all

-- the checksum of UDP and of TCP stands after the ports
after_ports : (number offset : ℕ) → has_ports number ≡ true → offset ≤ 2 → offset + 2 ≤ checksum_place number
after_ports number offset ports within = grind (arith, nat_tests, ports, within)

ports_positive : (number : ℕ) → has_ports number ≡ true → 0 < number
ports_positive number ports = grind (arith, nat_tests, ports)

no_icmp : (number : ℕ) → has_ports number ≡ true → number ≢ 1
no_icmp number ports is = grind (arith, nat_tests, ports, is)

-- what is covered is right with its pseudo-header, and is so with another port
right_with_port : (number icmp offset high low : ℕ) (header payload covered : List ℕ) → has_ports number ≡ true → length header % 2 ≡ 0 → 0 < network_order_word_sum header
    → offset % 2 ≡ 0 → offset ≤ 2 → checksum_place number + 2 ≤ length covered → Covers icmp number payload covered
    → UpdatesUpper number (checksum_field number payload) (network_order_word_sum (word_at offset payload)) (256 * high + (1 * low + 0))
    (updated_upper 1 number (checksum_field number payload) (word_at offset payload) (high ∷ low ∷ []))
    → (number ≡ 17 → checksum_field number covered ≢ 0) → ones_complement_sum (header ∷ covered ∷ []) ≡ 65535
    → ones_complement_sum (header ∷ slice_set (slice_set (with_checksum number (updated_upper 1 number (checksum_field number payload) (word_at offset payload) (high ∷ low ∷ [])) covered) offset high) (offset + 1) low ∷ []) ≡ 65535
right_with_port number icmp offset high low header payload covered ports even some even_offset within enough covers updates there sum =
    let answer = updated_upper 1 number (checksum_field number payload) (word_at offset payload) (high ∷ low ∷ []) in
    let here = subst (λ n. UpdatesUpper number n (network_order_word_sum (word_at offset covered)) (256 * high + (1 * low + 0)) answer) (sym (same_field icmp number payload covered covers))
    (subst (λ w. UpdatesUpper number (checksum_field number payload) (network_order_word_sum w) (256 * high + (1 * low + 0)) answer) (sym (same_word icmp number offset payload covered within covers)) updates) in
    in_pieces false header _ even (kept_with_word number answer offset high low header covered (network_order_word_sum header) even refl some even_offset (after_ports number offset ports within)
    enough (updated_fits 1 number (checksum_field number payload) (word_at offset payload) (high ∷ low ∷ [])) here there (of_pieces header covered even sum))

-- the length of what is covered
len_with_port : (number answer offset high low : ℕ) (covered : List ℕ) → length (slice_set (slice_set (with_checksum number answer covered) offset high) (offset + 1) low) ≡ length covered
len_with_port number answer offset high low covered = length_ported (with_checksum number answer covered) offset high low ∙ same_length number answer covered

-- over IPv4
port_kept_ipv4 : (number offset high low : ℕ) (source destination payload : List ℕ) → has_ports number ≡ true → length source ≡ 4 → length destination ≡ 4 → offset % 2 ≡ 0 → offset ≤ 2
    → UpdatesUpper number (checksum_field number payload) (network_order_word_sum (word_at offset payload)) (256 * high + (1 * low + 0))
    (updated_upper 1 number (checksum_field number payload) (word_at offset payload) (high ∷ low ∷ []))
    → IsVerdictIpv4 source destination number payload Right → IsVerdictIpv4 source destination number (with_port number offset (high ∷ low ∷ []) payload) Right
port_kept_ipv4 number offset high low source destination payload ports a b even_offset within updates (covered, judges, right) =
    let answer = updated_upper 1 number (checksum_field number payload) (word_at offset payload) (high ∷ low ∷ []) in
    let enough = covers_enough 1 number payload covered refl judges.covers in
    let there = field_there number covered enough judges.there in
    let fits = updated_fits 1 number (checksum_field number payload) (word_at offset payload) (high ∷ low ∷ []) in
    let written = with_checksum number answer covered in
    let new = slice_set (slice_set written offset high) (offset + 1) low in
    let other = no_icmp number ports in
    let header = λ (n : ℕ). ipv4_pseudo_header source destination number n in
    let even = even_header source destination _ (omega (arith, a)) (omega (arith, b)) refl in
    let len = len_with_port number answer offset high low covered in
    let words = header_words source destination number (to_be_bytes w16 (length covered)) (omega (arith, a)) (omega (arith, b)) in
    let sum = subst (λ p. ones_complement_sum p ≡ 65535) (other_pieces number (header (length covered)) covered other) right.sum in (
      new,
      record {
        covers = covers_ported 1 number offset high low _ written even_offset within (covers_written 1 number payload covered answer judges.covers);
        there = there_ported number offset high low written even_offset within (rw (same_length number answer covered) enough)
            (has_checksum number answer covered enough fits (λ is. updated_there 1 number _ (word_at offset payload) (high ∷ low ∷ []) is (λ zero_field. there is (same_field 1 number payload covered judges.covers ∙ zero_field))));
      },
      record {
        fits = λ long. rw len (right.fits long);
        sum = subst (λ n. ones_complement_sum (pieces number (header n) new) ≡ 65535) (sym len) (subst (λ p. ones_complement_sum p ≡ 65535) (sym (other_pieces number (header (length covered)) new other))
            (right_with_port number 1 offset high low (header (length covered)) payload covered ports even (omega (arith, words, ports_positive number ports)) even_offset within enough judges.covers updates there sum));
      },
    )

-- and over IPv6
port_kept_ipv6 : (number offset high low : ℕ) (source destination payload : List ℕ) → has_ports number ≡ true → length source ≡ 16 → length destination ≡ 16 → offset % 2 ≡ 0 → offset ≤ 2
    → UpdatesUpper number (checksum_field number payload) (network_order_word_sum (word_at offset payload)) (256 * high + (1 * low + 0))
    (updated_upper 1 number (checksum_field number payload) (word_at offset payload) (high ∷ low ∷ []))
    → IsVerdictIpv6 source destination number payload Right → IsVerdictIpv6 source destination number (with_port number offset (high ∷ low ∷ []) payload) Right
port_kept_ipv6 number offset high low source destination payload ports a b even_offset within updates (covered, covers, right) =
    let answer = updated_upper 1 number (checksum_field number payload) (word_at offset payload) (high ∷ low ∷ []) in
    let enough = covers_enough 58 number payload covered refl covers in
    let there = field_there number covered enough right.there in
    let fits = updated_fits 1 number (checksum_field number payload) (word_at offset payload) (high ∷ low ∷ []) in
    let written = with_checksum number answer covered in
    let new = slice_set (slice_set written offset high) (offset + 1) low in
    let last = to_be_bytes w32 (length covered) ++ (0 ∷ 0 ∷ 0 ∷ number ∷ []) in
    let header = λ (n : ℕ). ipv6_pseudo_header source destination number n in
    let even = even_header source destination last (omega (arith, a)) (omega (arith, b)) refl in
    let len = len_with_port number answer offset high low covered in
    let some : 0 < network_order_word_sum (header (length covered)) =
    omega (arith, a, b, network_order_word_sum-append source (destination ++ last) (omega (arith, a)), network_order_word_sum-append destination last (omega (arith, b)), ports_positive number ports) in (
      new,
      covers_ported 58 number offset high low _ written even_offset within (covers_written 58 number payload covered answer covers),
      record {
        there = there_ported number offset high low written even_offset within (rw (same_length number answer covered) enough)
            (has_checksum number answer covered enough fits (λ is. updated_there 1 number _ (word_at offset payload) (high ∷ low ∷ []) is (λ zero_field. there is (same_field 58 number payload covered covers ∙ zero_field))));
        fits = rw len right.fits;
        sum = subst (λ n. ones_complement_sum (header n ∷ new ∷ []) ≡ 65535) (sym len)
            (right_with_port number 58 offset high low (header (length covered)) payload covered ports even some even_offset within enough covers updates there right.sum);
      },
    )

-- over either
pub port_kept : (h : IpHeaderSlice) (extensions : List ℕ) (number offset port : ℕ) (payload : List ℕ) → has_ports number ≡ true → offset % 2 ≡ 0 → offset ≤ 2
    → UpdatesUpper number (checksum_field number payload) (network_order_word_sum (word_at offset payload)) (network_order_word_sum (to_be_bytes w16 port))
    (updated_upper 1 number (checksum_field number payload) (word_at offset payload) (to_be_bytes w16 port))
    → IsVerdictOver h extensions number payload Right → IsVerdictOver h extensions number (with_port number offset (to_be_bytes w16 port) payload) Right
port_kept (header.Ipv4 view) extensions number offset port payload ports even within updates (last, goes, right) =
    let bytes = view.slice.now in
    let len = goes_len_ipv4 (slice_range bytes 16 20) (drop 20 bytes) last (omega (arith, view.len, view.ihl, length-take 4 (drop 16 bytes), length-drop 16 bytes)) goes in (
      last,
      goes,
      port_kept_ipv4 number offset (port / 256 % 256) (port % 256) (slice_range bytes 12 16) last payload ports
          (omega (arith, view.len, view.ihl, length-take 4 (drop 12 bytes), length-drop 12 bytes)) len even within updates right,
    )
port_kept (header.Ipv6 view) extensions number offset port payload ports even within updates (None, last, comes, goes, right) = absurd right
port_kept (header.Ipv6 view) extensions number offset port payload ports even within updates (Some first, None, comes, goes, right) = absurd right
port_kept (header.Ipv6 view) extensions number offset port payload ports even within updates (Some first, Some last, comes, goes, right) =
    let bytes = view.slice.now in
    let first_len = comes_len_ipv6 (slice_range bytes 8 24) (slice_index bytes 6) extensions first (omega (arith, view.len, length-take 16 (drop 8 bytes), length-drop 8 bytes)) comes in
    let len = goes_len_ipv6 (slice_range bytes 24 40) (slice_index bytes 6) extensions last (omega (arith, view.len, length-take 16 (drop 24 bytes), length-drop 24 bytes)) goes in (
      Some first,
      Some last,
      comes,
      goes,
      port_kept_ipv6 number offset (port / 256 % 256) (port % 256) first last payload ports first_len len even within updates right,
    )
