-- An IPv6 packet with another address, from its parts, and that a checksum that was right is right.
use Rattle.std.proofs.Common.{ℕ, Bool, None, Option, Some, false, true, if◌then◌else◌, slice_index, ◌==◌, ◌≡◌, ◌<◌, ◌≤◌, ◌+◌, ◌∙◌, List, [], ◌∷◌, ◌++◌, ap, arith, drop, inl, inr, length, length-append, length-drop, length-take, refl, subst, sym, take, take_at, w32}
use Rattle.std.specs.Int.{to_be_bytes}
use Rattle.std.proofs.lemmas.Bool.Decides.{nat_tests}
use Rattle.std.proofs.lemmas.List.{drop_at}
use Rattle.etherparse.proofs.WordSumLaws.{network_order_word_sum-append}
use Rattle.etherparse.specs.Ipv6Header.{IsIpv6Layout}
use Rattle.etherparse.specs.Reading.{BeginsWith}
use Rattle.etherparse.specs.WordSums.{network_order_word_sum, ones_complement_sum}
use Rattle.etherparse.specs.declared.net.ipv6_header.Ipv6Header.{Ipv6Header}
use Rattle.packet_parts.proofs.CoveredAddresses.{followed_known}
use Rattle.packet_parts.proofs.FinalDestinations.{goes_len_ipv6, goes_once_ipv6}
use Rattle.packet_parts.proofs.OriginalSources.{comes_known_ipv6, comes_len_ipv6, comes_once_ipv6}
use Rattle.packet_parts.specs.Checksum.{Covers, IsVerdictBetween, IsVerdictIpv6, ipv6_pseudo_header}
use Rattle.packet_parts.specs.FinalDestination.{GoesToIpv6, LeavesDestination, destination_after, first_in_list, last_address, last_compressed, last_in_list, only_address}
use Rattle.packet_parts.specs.IpSlice.{header_bytes}
use Rattle.packet_parts.specs.OriginalSource.{ComesFromIpv6}
use Rattle.packet_parts.specs.declared.checksum.Verdict.TheVariants.{Right}
use Rattle.packet_parts.specs.declared.ip_slice.IpHeaderSlice.{IpHeaderSlice}
use Rattle.packet_parts.specs.declared.ip_slice.IpHeaderSlice.TheVariants as header_slice
use Rattle.packet_parts.specs.declared.ip_slice.IpSlice.{IpSlice}
use Rattle.packet_rewriting.proofs.ChecksumWords.{even_header, in_pieces}
use Rattle.packet_rewriting.proofs.KeptRight.{field_there, kept_in, of_pieces, same_field, updated_fits, updated_there}
use Rattle.packet_rewriting.proofs.Readdressed.{least_enough}
use Rattle.packet_rewriting.proofs.RightChecksums.{covers_enough, covers_written, has_checksum, same_length}
use Rattle.packet_rewriting.specs.Fields.{CutsIpv6, KeepsRightIpv6, ReaddressesIpv6, Reaches, UpdatesForDestinationIpv6, UpdatesForIpv6, UpdatesForSourceIpv6, UpdatesIfKnown, UpdatesPayload, UpdatesUpper, covers_addresses, updated_upper, version_in, with_updated}
use Rattle.packet_rewriting.specs.UpperChecksum.{checksum_field, checksum_place, with_checksum}
use Rattle.packet_rewriting.specs.declared.fields.Cut.{Cut}
use Rattle.packet_rewriting.specs.declared.fields.Reach.{Reach}
use Rattle.packet_rewriting.specs.declared.fields.Reach.TheVariants as reaching

-- over IPv6 the checksums of UDP, TCP and ICMPv6 cover the addresses, and no other is known
covers_positive : (h : IpHeaderSlice) (number : ℕ) → version_in h ≡ 6 → covers_addresses h number ≡ true → 0 < number
covers_positive (header_slice.Ipv4 view) number six covers = absurd (omega (arith, six))
covers_positive (header_slice.Ipv6 view) number six covers = grind (arith, nat_tests, covers)

covers_no_other : (h : IpHeaderSlice) (number : ℕ) (payload covered : List ℕ) → version_in h ≡ 6 → covers_addresses h number ≡ false → ¬ Covers 58 number payload covered
covers_no_other (header_slice.Ipv4 view) number payload covered six other covers = absurd (omega (arith, six))
covers_no_other (header_slice.Ipv6 view) number payload covered six other (inl (is, begins)) = grind (arith, nat_tests, other, is)
covers_no_other (header_slice.Ipv6 view) number payload covered six other (inr (inl (is, least, all))) = grind (arith, nat_tests, other, is)
covers_no_other (header_slice.Ipv6 view) number payload covered six other (inr (inr (is, least, all))) = grind (arith, nat_tests, other, is)

-- the words of a pseudo-header
words_ipv6 : (source destination : List ℕ) (number len : ℕ) → length source ≡ 16 → length destination ≡ 16
    → network_order_word_sum (ipv6_pseudo_header source destination number len)
    ≡ network_order_word_sum source + network_order_word_sum destination + network_order_word_sum (to_be_bytes w32 len ++ (0 ∷ 0 ∷ 0 ∷ number ∷ []))
words_ipv6 source destination number len a b =
    let last = to_be_bytes w32 len ++ (0 ∷ 0 ∷ 0 ∷ number ∷ []) in
    omega (arith, network_order_word_sum-append source (destination ++ last) (omega (arith, a)), network_order_word_sum-append destination last (omega (arith, b)))

-- a payload that is right with its pseudo-header is so with one address changed in that, and its checksum updated
verdict_kept_ipv6 : (words number : ℕ) (source destination next_source next_destination old new payload : List ℕ) (rest : ℕ) → 0 < number
    → length source ≡ 16 → length destination ≡ 16 → length next_source ≡ 16 → length next_destination ≡ 16
    → network_order_word_sum source + network_order_word_sum destination ≡ network_order_word_sum old + rest
    → network_order_word_sum next_source + network_order_word_sum next_destination ≡ network_order_word_sum new + rest
    → UpdatesUpper number (checksum_field number payload) (network_order_word_sum old) (network_order_word_sum new) (updated_upper words number (checksum_field number payload) old new)
    → IsVerdictIpv6 source destination number payload Right → IsVerdictIpv6 next_source next_destination number (with_updated words number old new payload) Right
verdict_kept_ipv6 words number source destination next_source next_destination old new payload rest some a b c d words_are next_words updates (covered, covers, right) =
    let answer = updated_upper words number (checksum_field number payload) old new in
    let enough = covers_enough 58 number payload covered refl covers in
    let same = same_field 58 number payload covered covers in
    let there = field_there number covered enough right.there in
    let fits = updated_fits words number (checksum_field number payload) old new in
    let written = with_checksum number answer covered in
    let len = same_length number answer covered in
    let last = to_be_bytes w32 (length covered) ++ (0 ∷ 0 ∷ 0 ∷ number ∷ []) in
    let even = even_header source destination last (omega (arith, a)) (omega (arith, b)) refl in
    let even_next = even_header next_source next_destination last (omega (arith, c)) (omega (arith, d)) refl in
    let others : ℕ = rest + network_order_word_sum last in
    let ones = kept_in number answer (ipv6_pseudo_header source destination number (length covered)) (ipv6_pseudo_header next_source next_destination number (length covered)) covered
    (network_order_word_sum old) (network_order_word_sum new) others even even_next
    (omega (arith, words_are, words_ipv6 source destination number (length covered) a b)) (omega (arith, next_words, words_ipv6 next_source next_destination number (length covered) c d))
    (omega (arith, some)) enough fits (subst (λ n. UpdatesUpper number n (network_order_word_sum old) (network_order_word_sum new) answer) (sym same) updates) there
    (of_pieces (ipv6_pseudo_header source destination number (length covered)) covered even right.sum) in (
      written,
      covers_written 58 number payload covered answer covers,
      record {
        there = has_checksum number answer covered enough fits (λ is. updated_there words number _ old new is (λ zero_field. there is (same ∙ zero_field)));
        fits = rw len right.fits;
        sum = subst (λ n. ones_complement_sum (ipv6_pseudo_header next_source next_destination number n ∷ written ∷ []) ≡ 65535) (sym len)
            (in_pieces false (ipv6_pseudo_header next_source next_destination number (length covered)) written even_next ones);
      },
    )

-- how far the change reaches
reach_kept_ipv6 : (reach : Reach) (slice : IpSlice) (source destination next_source next_destination old new payload : List ℕ) (rest : ℕ) → version_in slice.header ≡ 6 → Reaches slice reach
    → slice.is_later_fragment ≡ false → length source ≡ 16 → length destination ≡ 16 → length next_source ≡ 16 → length next_destination ≡ 16
    → network_order_word_sum source + network_order_word_sum destination ≡ network_order_word_sum old + rest
    → network_order_word_sum next_source + network_order_word_sum next_destination ≡ network_order_word_sum new + rest
    → UpdatesPayload reach 8 slice.upper old new slice.payload.now payload
    → IsVerdictIpv6 source destination slice.upper slice.payload.now Right → IsVerdictIpv6 next_source next_destination slice.upper payload Right
reach_kept_ipv6 reaching.Upper slice source destination next_source next_destination old new payload rest six reaches now a b c d words next_words updates right =
    rw updates.is (verdict_kept_ipv6 8 slice.upper source destination next_source next_destination old new slice.payload.now rest (covers_positive slice.header slice.upper six reaches.1)
    a b c d words next_words (updates.updates refl) right)
reach_kept_ipv6 reaching.LaterFragment slice source destination next_source next_destination old new payload rest six reaches now a b c d words next_words updates right =
    absurd (grind (arith, reaches, now))
reach_kept_ipv6 reaching.OtherProtocol slice source destination next_source next_destination old new payload rest six reaches now a b c d words next_words updates right =
    absurd (covers_no_other slice.header slice.upper slice.payload.now right.0 six reaches.1 right.1)

-- how a packet is split
headers_are : {before : List ℕ} {header : Ipv6Header} {cut : Cut} (cuts : CutsIpv6 before header cut) (front : List ℕ) → front ≡ take cut.header_len before
    → front ≡ header_bytes cuts.slice.header ++ cuts.slice.extensions.now
headers_are {cut = cut} cuts front is = is ∙ ap (take cut.header_len) cuts.whole
    ∙ take_at (header_bytes cuts.slice.header ++ cuts.slice.extensions.now) _ cut.header_len (length-append (header_bytes cuts.slice.header) cuts.slice.extensions.now ∙ sym cuts.header_len)

others_are : {before : List ℕ} {header : Ipv6Header} {cut : Cut} (cuts : CutsIpv6 before header cut) (rest : List ℕ) → rest ≡ drop cut.header_len before
    → rest ≡ cuts.slice.payload.now ++ cuts.trailer
others_are {cut = cut} cuts rest is = is ∙ ap (drop cut.header_len) cuts.whole
    ∙ drop_at (header_bytes cuts.slice.header ++ cuts.slice.extensions.now) _ cut.header_len (length-append (header_bytes cuts.slice.header) cuts.slice.extensions.now ∙ sym cuts.header_len)

pub long_ipv6 : {before : List ℕ} {header : Ipv6Header} {cut : Cut} (cuts : CutsIpv6 before header cut) (front : List ℕ) → front ≡ take cut.header_len before → 40 ≤ length front
long_ipv6 cuts front is = omega (arith, ap length (headers_are cuts front is), length-append (header_bytes cuts.slice.header) cuts.slice.extensions.now, cuts.layout.len)

-- a packet has its headers, and what follows them has the payload
pub headers_within_ipv6 : {before : List ℕ} {header : Ipv6Header} {cut : Cut} (cuts : CutsIpv6 before header cut) → cut.header_len ≤ length before
headers_within_ipv6 cuts =
    let slice = cuts.slice in
    let headers = header_bytes slice.header ++ slice.extensions.now in
    omega (arith, cuts.header_len, ap length cuts.whole, length-append headers (slice.payload.now ++ cuts.trailer), length-append (header_bytes slice.header) slice.extensions.now)

taken : {before : List ℕ} {header : Ipv6Header} {cut : Cut} (cuts : CutsIpv6 before header cut) (rest : List ℕ) → rest ≡ drop cut.header_len before → take cut.payload_len rest ≡ cuts.slice.payload.now
taken {cut = cut} cuts rest is = ap (take cut.payload_len) (others_are cuts rest is) ∙ take_at cuts.slice.payload.now cuts.trailer cut.payload_len (sym cuts.payload_len)

pub payload_within_ipv6 : {before : List ℕ} {header : Ipv6Header} {cut : Cut} (cuts : CutsIpv6 before header cut) (rest : List ℕ) → rest ≡ drop cut.header_len before → cut.payload_len ≤ length rest
payload_within_ipv6 cuts rest is = omega (arith, cuts.payload_len, ap length (others_are cuts rest is), length-append cuts.slice.payload.now cuts.trailer)

pub payload_len_ipv6 : {before : List ℕ} {header : Ipv6Header} {cut : Cut} (cuts : CutsIpv6 before header cut) (rest : List ℕ) → rest ≡ drop cut.header_len before → cut.payload_len ≡ length (take cut.payload_len rest)
payload_len_ipv6 cuts rest is = cuts.payload_len ∙ sym (ap length (taken cuts rest is))

pub enough_ipv6 : {before : List ℕ} {header : Ipv6Header} {cut : Cut} (cuts : CutsIpv6 before header cut) (rest : List ℕ) → rest ≡ drop cut.header_len before
    → cut.reach ≡ reaching.Upper → checksum_place cut.upper + 2 ≤ length (take cut.payload_len rest)
enough_ipv6 {cut = cut} cuts rest is upper =
    let reaches : Reaches cuts.slice reaching.Upper = subst (Reaches cuts.slice) upper cuts.reaches in
    rw (taken cuts rest is, cuts.upper) (omega (arith, reaches.2, least_enough cuts.slice.upper))

-- how long a packet is that begins with a header, and with another one in its place
pub header_fits : {before rest : List ℕ} {header : Ipv6Header} → BeginsWith IsIpv6Layout before header rest → 40 ≤ length before
header_fits {rest = rest} begins = omega (arith, ap length begins.whole, length-append begins.front rest, begins.layout.len)

pub header_put : {before after rest : List ℕ} {header put marked : Ipv6Header} → BeginsWith IsIpv6Layout before header rest → put ≡ marked
    → BeginsWith IsIpv6Layout after put (drop 40 before) → BeginsWith IsIpv6Layout after marked rest
header_put {after = after} {rest = rest} {put = put} begins is written =
    subst (λ h. BeginsWith IsIpv6Layout after h rest) is
    (subst (BeginsWith IsIpv6Layout after put) (ap (drop 40) begins.whole ∙ drop_at begins.front rest 40 begins.layout.len) written)

-- if one address is known, so is the other
abbrev SameKnown : Option (List ℕ) → Option (List ℕ) → Type 0
SameKnown a b = (x : List ℕ) → a ≡ Some x → b ≡ None → ⊥

either_known : (b : Bool) (x y u v : Option (List ℕ)) → SameKnown x u → SameKnown y v → SameKnown (if b then x else y) (if b then u else v)
either_known true x y u v p q = p
either_known false x y u v p q = q

itself_known : (a : Option (List ℕ)) → SameKnown a a
itself_known a x is none = cc

some_known : (a b : List ℕ) → SameKnown (Some a) (Some b)
some_known a b x is none = cc

after_known : (d e : List ℕ) (n : ℕ) (h : List ℕ) → SameKnown (destination_after d n h) (destination_after e n h)
after_known d e n h = either_known _ (last_address d h) _ (last_address e h) _
    (either_known _ (last_in_list h) _ (last_in_list h) _ (itself_known (last_in_list h)) (either_known _ (only_address h) _ (only_address h) _ (itself_known (only_address h))
    (either_known _ (last_compressed d h) _ (last_compressed e h) _ (either_known _ (Some _) None (Some _) None (some_known _ _) (itself_known None))
    (itself_known (if slice_index h 2 == 4 then first_in_list h else None)))))
    (some_known d e)

-- if the final destination is known, so is that from another destination
goes_known : (d e : List ℕ) (n : ℕ) (s a : List ℕ) → GoesToIpv6 d n s (Some a) → GoesToIpv6 e n s None → ⊥
goes_known = followed_known LeavesDestination (λ d e n h x p q. after_known d e n h x (sym p) (sym q))

-- the addresses of a header have 16 bytes each
sixteen : {header : Ipv6Header} {bytes : List ℕ} → IsIpv6Layout header bytes → (length header.source ≡ 16) × (length header.destination ≡ 16)
sixteen {bytes = bytes} l = (
  omega (arith, l.len, ap length l.source, length-take 16 (drop 8 bytes), length-drop 8 bytes),
  omega (arith, l.len, ap length l.destination, length-take 16 (drop 24 bytes), length-drop 24 bytes),
)

-- a checksum that was right is right with another source, and for another final destination
source_kept_to : (reach : Reach) (slice : IpSlice) (source next final payload : List ℕ) → version_in slice.header ≡ 6 → Reaches slice reach → slice.is_later_fragment ≡ false
    → length source ≡ 16 → length next ≡ 16 → length final ≡ 16 → UpdatesPayload reach 8 slice.upper source next slice.payload.now payload
    → IsVerdictIpv6 source final slice.upper slice.payload.now Right → IsVerdictIpv6 next final slice.upper payload Right
source_kept_to reach slice source next final payload six reaches now a b c updates right =
    reach_kept_ipv6 reach slice source final next final source next payload (network_order_word_sum final) six reaches now a c b c refl refl updates right

final_kept_to : (reach : Reach) (slice : IpSlice) (source old new payload : List ℕ) → version_in slice.header ≡ 6 → Reaches slice reach → slice.is_later_fragment ≡ false
    → length source ≡ 16 → length old ≡ 16 → length new ≡ 16 → UpdatesPayload reach 8 slice.upper old new slice.payload.now payload
    → IsVerdictIpv6 source old slice.upper slice.payload.now Right → IsVerdictIpv6 source new slice.upper payload Right
final_kept_to reach slice source old new payload six reaches now a b c updates right =
    reach_kept_ipv6 reach slice source old source new old new payload (network_order_word_sum source) six reaches now a b a c (omega arith) (omega arith) updates right

abbrev Is16 : Option (List ℕ) → Type 0
Is16 a = (x : List ℕ) → a ≡ Some x → length x ≡ 16

-- the same if the addresses can be unknown
source_kept_between : (reach : Reach) (slice : IpSlice) (payload : List ℕ) (old new final : Option (List ℕ)) → version_in slice.header ≡ 6 → Reaches slice reach
    → slice.is_later_fragment ≡ false → Is16 old → Is16 new → Is16 final → SameKnown old new → UpdatesIfKnown reach slice.upper old new slice.payload.now payload
    → IsVerdictBetween old final slice.upper slice.payload.now Right → IsVerdictBetween new final slice.upper payload Right
source_kept_between reach slice payload None new final six reaches now a b c known updates right = absurd right
source_kept_between reach slice payload (Some old) new None six reaches now a b c known updates right = absurd right
source_kept_between reach slice payload (Some old) None (Some final) six reaches now a b c known updates right = absurd (known old refl refl)
source_kept_between reach slice payload (Some old) (Some new) (Some final) six reaches now a b c known (inl (same, stays)) right = rw (sym same, stays) right
source_kept_between reach slice payload (Some old) (Some new) (Some final) six reaches now a b c known (inr (other, updates)) right =
    source_kept_to reach slice old new final payload six reaches now (a old refl) (b new refl) (c final refl) updates right

final_kept_between : (reach : Reach) (slice : IpSlice) (payload : List ℕ) (source old new : Option (List ℕ)) → version_in slice.header ≡ 6 → Reaches slice reach
    → slice.is_later_fragment ≡ false → Is16 source → Is16 old → Is16 new → SameKnown old new → UpdatesIfKnown reach slice.upper old new slice.payload.now payload
    → IsVerdictBetween source old slice.upper slice.payload.now Right → IsVerdictBetween source new slice.upper payload Right
final_kept_between reach slice payload None old new six reaches now a b c known updates right = absurd right
final_kept_between reach slice payload (Some source) None new six reaches now a b c known updates right = absurd right
final_kept_between reach slice payload (Some source) (Some old) None six reaches now a b c known updates right = absurd (known old refl refl)
final_kept_between reach slice payload (Some source) (Some old) (Some new) six reaches now a b c known (inl (same, stays)) right = rw (sym same, stays) right
final_kept_between reach slice payload (Some source) (Some old) (Some new) six reaches now a b c known (inr (other, updates)) right =
    final_kept_to reach slice source old new payload six reaches now (a source refl) (b old refl) (c new refl) updates right

-- what is covered has 16 bytes
comes_16 : (d : List ℕ) (n : ℕ) (s : List ℕ) (a : Option (List ℕ)) → length d ≡ 16 → ComesFromIpv6 d n s a → Is16 a
comes_16 d n s a len comes x is = comes_len_ipv6 d n s x len (subst (ComesFromIpv6 d n s) is comes)

goes_16 : (d : List ℕ) (n : ℕ) (s : List ℕ) (a : Option (List ℕ)) → length d ≡ 16 → GoesToIpv6 d n s a → Is16 a
goes_16 d n s a len goes x is = goes_len_ipv6 d n s x len (subst (GoesToIpv6 d n s) is goes)

pub source_kept : {before : List ℕ} {header : Ipv6Header} {cut : Cut} (cuts : CutsIpv6 before header cut) (source payload : List ℕ) → length source ≡ 16
    → UpdatesForSourceIpv6 source cuts.slice header cut.reach payload → cuts.slice.is_later_fragment ≡ false → KeepsRightIpv6 cuts.slice header (record header { source = source }) payload
source_kept {header = header} {cut = cut} cuts source payload len updates now original final new_original new_final comes goes comes_new goes_new right =
    let n = header.next_header in
    let s = cuts.slice.extensions.now in
    let lens = sixteen cuts.layout in
    let was = comes_once_ipv6 header.source n s original updates.old comes updates.follows_old in
    let is = comes_once_ipv6 source n s updates.new new_original updates.follows_new comes_new in
    let same = goes_once_ipv6 header.destination n s final new_final goes goes_new in
    let known : SameKnown updates.old updates.new = λ x p q. comes_known_ipv6 header.source source n s x (subst (ComesFromIpv6 header.source n s) p updates.follows_old)
    (subst (ComesFromIpv6 source n s) q updates.follows_new) in
    subst (λ a. IsVerdictBetween a new_final cuts.slice.upper payload Right) is (subst (λ d. IsVerdictBetween updates.new d cuts.slice.upper payload Right) same
    (source_kept_between cut.reach cuts.slice payload updates.old updates.new final cuts.version cuts.reaches now (comes_16 header.source n s updates.old lens.0 updates.follows_old)
    (comes_16 source n s updates.new len updates.follows_new) (goes_16 header.destination n s final lens.1 goes) known updates.updated
    (subst (λ a. IsVerdictBetween a final cuts.slice.upper cuts.slice.payload.now Right) was right)))

pub destination_kept : {before : List ℕ} {header : Ipv6Header} {cut : Cut} (cuts : CutsIpv6 before header cut) (destination payload : List ℕ) → length destination ≡ 16
    → UpdatesForDestinationIpv6 destination cuts.slice header cut.reach payload → cuts.slice.is_later_fragment ≡ false
    → KeepsRightIpv6 cuts.slice header (record header { destination = destination }) payload
destination_kept {header = header} {cut = cut} cuts destination payload len updates now original final new_original new_final comes goes comes_new goes_new right =
    let n = header.next_header in
    let s = cuts.slice.extensions.now in
    let lens = sixteen cuts.layout in
    let was = goes_once_ipv6 header.destination n s final updates.old goes updates.follows_old in
    let is = goes_once_ipv6 destination n s updates.new new_final updates.follows_new goes_new in
    let same = comes_once_ipv6 header.source n s original new_original comes comes_new in
    let known : SameKnown updates.old updates.new = λ x p q. goes_known header.destination destination n s x (subst (GoesToIpv6 header.destination n s) p updates.follows_old)
    (subst (GoesToIpv6 destination n s) q updates.follows_new) in
    subst (λ d. IsVerdictBetween new_original d cuts.slice.upper payload Right) is (subst (λ a. IsVerdictBetween a updates.new cuts.slice.upper payload Right) same
    (final_kept_between cut.reach cuts.slice payload original updates.old updates.new cuts.version cuts.reaches now (comes_16 header.source n s original lens.0 comes)
    (goes_16 header.destination n s updates.old lens.1 updates.follows_old) (goes_16 destination n s updates.new len updates.follows_new) known updates.updated
    (subst (λ d. IsVerdictBetween original d cuts.slice.upper cuts.slice.payload.now Right) was right)))

-- what stands in a packet after its header of 40 bytes
pub extensions_are : {before : List ℕ} {header : Ipv6Header} {cut : Cut} (cuts : CutsIpv6 before header cut) (front : List ℕ) → front ≡ take cut.header_len before
    → drop 40 front ≡ cuts.slice.extensions.now
extensions_are cuts front is = ap (drop 40) (headers_are cuts front is) ∙ drop_at (header_bytes cuts.slice.header) cuts.slice.extensions.now 40 cuts.layout.len

-- the payload that is updated is that of the parts
pub updated_ipv6 : {before : List ℕ} {header : Ipv6Header} {cut : Cut} (cuts : CutsIpv6 before header cut) (Follows : List ℕ → ℕ → List ℕ → Option (List ℕ) → Type 0)
    (address next front rest payload : List ℕ) (old new : Option (List ℕ)) → front ≡ take cut.header_len before → rest ≡ drop cut.header_len before
    → Follows address header.next_header (drop 40 front) old → Follows next header.next_header (drop 40 front) new
    → UpdatesIfKnown cut.reach cut.upper old new (take cut.payload_len rest) payload → UpdatesForIpv6 Follows address next cuts.slice header cut.reach payload
updated_ipv6 {header = header} {cut = cut} cuts Follows address next front rest payload old new front_is rest_is follows_old follows_new updates = record {
  old = old;
  new = new;
  follows_old = subst (λ e. Follows address header.next_header e old) (extensions_are cuts front front_is) follows_old;
  follows_new = subst (λ e. Follows next header.next_header e new) (extensions_are cuts front front_is) follows_new;
  updated = subst (λ p. UpdatesIfKnown cut.reach cuts.slice.upper old new p payload) (taken cuts rest rest_is)
      (subst (λ n. UpdatesIfKnown cut.reach n old new (take cut.payload_len rest) payload) cuts.upper updates);
}

-- the packet with another address, from what was written to its parts
pub readdressed_ipv6 : {before : List ℕ} {header : Ipv6Header} {cut : Cut} (cuts : CutsIpv6 before header cut) (Updates : IpSlice → Ipv6Header → Reach → List ℕ → Type 0)
    (change : Ipv6Header → Ipv6Header) (after first front rest payload : List ℕ) → first ≡ take cut.header_len before → rest ≡ drop cut.header_len before
    → BeginsWith IsIpv6Layout front (change header) (drop 40 first) → Updates cuts.slice header cut.reach payload → after ≡ front ++ (payload ++ drop cut.payload_len rest)
    → (cuts.slice.is_later_fragment ≡ false → KeepsRightIpv6 cuts.slice header (change header) payload) → ReaddressesIpv6 Updates change before after cut.reach
readdressed_ipv6 {header = header} {cut = cut} cuts Updates change after first front rest payload first_is rest_is begins updates is keeps =
    let slice = cuts.slice in
    let left : drop cut.payload_len rest ≡ cuts.trailer = ap (drop cut.payload_len) (others_are cuts rest rest_is) ∙ drop_at slice.payload.now cuts.trailer cut.payload_len (sym cuts.payload_len) in
    record {
      slice = slice;
      parts = cuts.parts;
      version = cuts.version;
      reaches = cuts.reaches;
      trailer = cuts.trailer;
      whole = cuts.whole;
      header = header;
      layout = cuts.layout;
      front = front;
      becomes = subst (BeginsWith IsIpv6Layout front (change header)) (extensions_are cuts first first_is) begins;
      payload = payload;
      updated = updates;
      changed = is ∙ ap (λ t. front ++ (payload ++ t)) left;
      keeps_right = keeps;
    }
