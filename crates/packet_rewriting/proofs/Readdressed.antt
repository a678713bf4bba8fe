-- An IPv4 packet with another address, from its parts.
use Rattle.std.proofs.Common.{ℕ, true, false, inl, inr, ◌≡◌, ◌≢◌, ◌≤◌, ◌+◌, ◌*◌, ◌%◌, ◌^◌, ◌∙◌, ◌⊎◌, List, [], ◌∷◌, ◌++◌, ap, append-nil, arith, drop, length, length-append, length-drop, length-take, refl, slice_range, subst, sym, take, take_at, append_assoc, w16}
use Rattle.std.specs.Int.{to_be_bytes}
use Rattle.std.proofs.lemmas.Bool.Decides.{nat_tests}
use Rattle.std.proofs.lemmas.List.{drop_at}
use Rattle.etherparse.specs.HeaderChecksum.{BecomesPacketOf, ChangesInPlace, with_field_and_checksum}
use Rattle.etherparse.specs.IpEcn.{ecn_value}
use Rattle.etherparse.specs.Ipv4Header.{IsIpv4Layout, ipv4_first_word}
use Rattle.etherparse.specs.Reading.{BeginsWith}
use Rattle.etherparse.specs.WordSums.{network_order_word_sum, updated_checksum, updated_checksum_of_words}
use Rattle.etherparse.specs.declared.net.ipv4_header.Ipv4Header.{Ipv4Header}
use Rattle.packet_parts.specs.Checksum.{IsVerdictIpv4}
use Rattle.packet_parts.specs.FinalDestination.{GoesToIpv4}
use Rattle.packet_parts.proofs.FinalDestinations.{goes_len_ipv4, goes_once_ipv4}
use Rattle.packet_parts.proofs.IpParts.{ipv4_front, ipv6_front}
use Rattle.packet_parts.specs.IpSlice.{HasIpParts, HasPartsWith, header_bytes}
use Rattle.packet_parts.specs.declared.checksum.Verdict.TheVariants.{Right}
use Rattle.packet_parts.specs.declared.ip_slice.IpHeaderSlice.{IpHeaderSlice}
use Rattle.packet_parts.specs.declared.ip_slice.IpHeaderSlice.TheVariants as header_slice
use Rattle.packet_parts.specs.declared.ip_slice.IpSlice.{IpSlice}
use Rattle.packet_rewriting.proofs.KeptPorts.{port_kept}
use Rattle.packet_rewriting.proofs.KeptRight.{verdict_kept, verdict_of_other}
use Rattle.packet_rewriting.specs.Fields.{ChangesPort, CutsAtPorts, CutsIpv4, KeepsRightIpv4, MarksIpv4, ReaddressesIpv4, Reaches, UpdatesForDestinationIpv4, UpdatesForSourceIpv4, UpdatesIfOther, UpdatesPayload, UpdatesUpper, covers_addresses, least_len, updated_upper, version_in, with_port, word_at}
use Rattle.packet_rewriting.specs.UpperChecksum.{checksum_field, checksum_place}
use Rattle.packet_rewriting.specs.declared.fields.Cut.{Cut}
use Rattle.packet_rewriting.specs.declared.fields.Reach.{Reach}
use Rattle.packet_rewriting.specs.declared.fields.Reach.TheVariants as reaching

-- over IPv4 the checksums of UDP and of TCP cover the addresses
covers_ipv4 : (h : IpHeaderSlice) (number : ℕ) → version_in h ≡ 4 → covers_addresses h number ≡ true → (number ≡ 17) ⊎ (number ≡ 6)
covers_ipv4 (header_slice.Ipv4 view) number version covers = grind (arith, nat_tests, covers)
covers_ipv4 (header_slice.Ipv6 view) number version covers = absurd (omega (arith, version))

covers_no_udp : (h : IpHeaderSlice) (number : ℕ) → covers_addresses h number ≡ false → number ≢ 17
covers_no_udp (header_slice.Ipv4 view) number other is = grind (arith, nat_tests, other, is)
covers_no_udp (header_slice.Ipv6 view) number other is = grind (arith, nat_tests, other, is)

covers_no_tcp : (h : IpHeaderSlice) (number : ℕ) → covers_addresses h number ≡ false → number ≢ 6
covers_no_tcp (header_slice.Ipv4 view) number other is = grind (arith, nat_tests, other, is)
covers_no_tcp (header_slice.Ipv6 view) number other is = grind (arith, nat_tests, other, is)

-- the least header has room for its checksum
pub least_enough : (number : ℕ) → checksum_place number + 2 ≤ least_len number
least_enough number = grind (arith, nat_tests)

-- how a packet is split
pub front_is : {before : List ℕ} {header : Ipv4Header} {cut : Cut} (cuts : CutsIpv4 before header cut) (front : List ℕ) → front ≡ take cut.header_len before → front ≡ header_bytes cuts.slice.header
front_is cuts front is = is ∙ ap (take _) cuts.whole ∙ take_at (header_bytes cuts.slice.header) _ _ (sym cuts.header_len)

rest_is : {before : List ℕ} {header : Ipv4Header} {cut : Cut} (cuts : CutsIpv4 before header cut) (rest : List ℕ) → rest ≡ drop cut.header_len before → rest ≡ cuts.slice.payload.now ++ cuts.trailer
rest_is cuts rest is = is ∙ ap (drop _) cuts.whole ∙ drop_at (header_bytes cuts.slice.header) _ _ (sym cuts.header_len)

pub payload_is : {before : List ℕ} {header : Ipv4Header} {cut : Cut} (cuts : CutsIpv4 before header cut) (rest : List ℕ) → rest ≡ drop cut.header_len before → take cut.payload_len rest ≡ cuts.slice.payload.now
payload_is cuts rest is = ap (take _) (rest_is cuts rest is) ∙ take_at cuts.slice.payload.now _ _ (sym cuts.payload_len)

trailer_is : {before : List ℕ} {header : Ipv4Header} {cut : Cut} (cuts : CutsIpv4 before header cut) (rest : List ℕ) → rest ≡ drop cut.header_len before → drop cut.payload_len rest ≡ cuts.trailer
trailer_is cuts rest is = ap (drop _) (rest_is cuts rest is) ∙ drop_at cuts.slice.payload.now _ _ (sym cuts.payload_len)

-- a packet has its header, that has room for its addresses, and what follows has the payload
pub headers_within_ipv4 : {before : List ℕ} {header : Ipv4Header} {cut : Cut} (cuts : CutsIpv4 before header cut) → cut.header_len ≤ length before
headers_within_ipv4 cuts = omega (arith, cuts.header_len, ap length cuts.whole, length-append (header_bytes cuts.slice.header) (cuts.slice.payload.now ++ cuts.trailer))

pub long_ipv4 : {before : List ℕ} {header : Ipv4Header} {cut : Cut} (cuts : CutsIpv4 before header cut) (front : List ℕ) → front ≡ take cut.header_len before → 20 ≤ length front
long_ipv4 cuts front is = omega (arith, ap length (front_is cuts front is), cuts.layout.layout.len)

pub payload_within_ipv4 : {before : List ℕ} {header : Ipv4Header} {cut : Cut} (cuts : CutsIpv4 before header cut) (rest : List ℕ) → rest ≡ drop cut.header_len before → cut.payload_len ≤ length rest
payload_within_ipv4 cuts rest is = omega (arith, cuts.payload_len, ap length (rest_is cuts rest is), length-append cuts.slice.payload.now cuts.trailer)

pub payload_len_ipv4 : {before : List ℕ} {header : Ipv4Header} {cut : Cut} (cuts : CutsIpv4 before header cut) (rest : List ℕ) → rest ≡ drop cut.header_len before → cut.payload_len ≡ length (take cut.payload_len rest)
payload_len_ipv4 cuts rest is = cuts.payload_len ∙ sym (ap length (payload_is cuts rest is))

-- a payload that the change reaches has room for its checksum
pub enough_for : {before : List ℕ} {header : Ipv4Header} {cut : Cut} (cuts : CutsIpv4 before header cut) (rest : List ℕ) → rest ≡ drop cut.header_len before
    → cut.reach ≡ reaching.Upper → checksum_place cut.upper + 2 ≤ length (take cut.payload_len rest)
enough_for {cut = cut} cuts rest is upper =
    let reaches : Reaches cuts.slice reaching.Upper = subst (Reaches cuts.slice) upper cuts.reaches in
    rw (payload_is cuts rest is, cuts.upper) (omega (arith, reaches.2, least_enough cuts.slice.upper))

-- a packet of either version is its headers, its payload and what comes after it
whole_with : (h : IpHeaderSlice) (packet : List ℕ) (slice : IpSlice) → HasPartsWith h packet slice
    → (trailer : List ℕ) × (packet ≡ header_bytes h ++ slice.extensions.now ++ (slice.payload.now ++ trailer))
whole_with (header_slice.Ipv4 view) packet slice p =
    let more = ipv4_front p.header packet in
    let payload = slice.payload.now in
    let front : view.slice.now ≡ view.slice.now ++ slice.extensions.now = sym (ap (λ x. view.slice.now ++ x) p.no_extensions ∙ append-nil view.slice.now) in
    (more.0, more.1 ∙ ap (λ b. b ++ more.0) (p.begins.whole ∙ ap (λ f. f ++ payload) (p.view ∙ front)) ∙ append_assoc (view.slice.now ++ slice.extensions.now) payload more.0)
whole_with (header_slice.Ipv6 view) packet slice p =
    let more = ipv6_front p.header packet in
    let payload = slice.payload.now in (
      more.0,
      more.1 ∙ ap (λ b. b ++ more.0) (p.begins.whole ∙ ap (λ f. f ++ p.body) p.view ∙ ap (λ b. view.slice.now ++ b) p.parts
          ∙ sym (append_assoc view.slice.now slice.extensions.now payload)) ∙ append_assoc (view.slice.now ++ slice.extensions.now) payload more.0,
    )

pub whole : (packet : List ℕ) (slice : IpSlice) → HasIpParts packet slice
    → (trailer : List ℕ) × (packet ≡ header_bytes slice.header ++ slice.extensions.now ++ (slice.payload.now ++ trailer))
whole packet slice p = whole_with slice.header packet slice p

-- the least header of UDP or of TCP has room for its ports
least_four : (number : ℕ) → 4 ≤ least_len number
least_four number = grind (arith, nat_tests)

-- a packet with ports has its headers, what follows them has the payload, and that has room for its checksum and its ports
pub headers_within_ports : {before : List ℕ} {cut : Cut} (cuts : CutsAtPorts before cut) → cut.header_len ≤ length before
headers_within_ports cuts =
    let slice = cuts.slice in
    let headers = header_bytes slice.header ++ slice.extensions.now in
    omega (arith, cuts.header_len, ap length cuts.whole, length-append headers (slice.payload.now ++ cuts.trailer), length-append (header_bytes slice.header) slice.extensions.now)

others_ports : {before : List ℕ} {cut : Cut} (cuts : CutsAtPorts before cut) (rest : List ℕ) → rest ≡ drop cut.header_len before → rest ≡ cuts.slice.payload.now ++ cuts.trailer
others_ports cuts rest is = is ∙ ap (drop _) cuts.whole
    ∙ drop_at (header_bytes cuts.slice.header ++ cuts.slice.extensions.now) _ _ (length-append (header_bytes cuts.slice.header) cuts.slice.extensions.now ∙ sym cuts.header_len)

pub payload_within_ports : {before : List ℕ} {cut : Cut} (cuts : CutsAtPorts before cut) (rest : List ℕ) → rest ≡ drop cut.header_len before → cut.payload_len ≤ length rest
payload_within_ports cuts rest is = omega (arith, cuts.payload_len, ap length (others_ports cuts rest is), length-append cuts.slice.payload.now cuts.trailer)

taken_ports : {before : List ℕ} {cut : Cut} (cuts : CutsAtPorts before cut) (rest : List ℕ) → rest ≡ drop cut.header_len before → take cut.payload_len rest ≡ cuts.slice.payload.now
taken_ports cuts rest is = ap (take _) (others_ports cuts rest is) ∙ take_at cuts.slice.payload.now _ _ (sym cuts.payload_len)

pub payload_len_ports : {before : List ℕ} {cut : Cut} (cuts : CutsAtPorts before cut) (rest : List ℕ) → rest ≡ drop cut.header_len before → cut.payload_len ≡ length (take cut.payload_len rest)
payload_len_ports cuts rest is = cuts.payload_len ∙ sym (ap length (taken_ports cuts rest is))

pub enough_ports : {before : List ℕ} {cut : Cut} (cuts : CutsAtPorts before cut) (rest : List ℕ) → rest ≡ drop cut.header_len before
    → (checksum_place cut.upper + 2 ≤ length (take cut.payload_len rest)) × (4 ≤ length (take cut.payload_len rest))
enough_ports cuts rest is =
    let number = cuts.slice.upper in
    rw (taken_ports cuts rest is, cuts.upper) (omega (arith, cuts.ports.enough, least_enough number), omega (arith, cuts.ports.enough, least_four number))

-- the packet with another port, from what was written to its payload
pub with_other_port : {before : List ℕ} {cut : Cut} (cuts : CutsAtPorts before cut) (offset port : ℕ) (front rest payload after : List ℕ) → front ≡ take cut.header_len before
    → rest ≡ drop cut.header_len before → payload ≡ with_port cut.upper offset (to_be_bytes w16 port) (take cut.payload_len rest)
    → UpdatesUpper cut.upper (checksum_field cut.upper (take cut.payload_len rest)) (network_order_word_sum (word_at offset (take cut.payload_len rest)))
    (network_order_word_sum (to_be_bytes w16 port)) (updated_upper 1 cut.upper (checksum_field cut.upper (take cut.payload_len rest)) (word_at offset (take cut.payload_len rest)) (to_be_bytes w16 port))
    → after ≡ front ++ (payload ++ drop cut.payload_len rest) → offset % 2 ≡ 0 → offset ≤ 2 → ChangesPort offset port before after
with_other_port {before = before} {cut = cut} cuts offset port front rest payload after front_at rest_at written updates is even within =
    let slice = cuts.slice in
    let headers = header_bytes slice.header ++ slice.extensions.now in
    let len : length headers ≡ cut.header_len = length-append (header_bytes slice.header) slice.extensions.now ∙ sym cuts.header_len in
    let first : front ≡ headers = front_at ∙ ap (take cut.header_len) cuts.whole ∙ take_at headers _ cut.header_len len in
    let taken : take cut.payload_len rest ≡ slice.payload.now = taken_ports cuts rest rest_at in
    let left : drop cut.payload_len rest ≡ cuts.trailer = ap (drop cut.payload_len) (others_ports cuts rest rest_at) ∙ drop_at slice.payload.now cuts.trailer cut.payload_len (sym cuts.payload_len) in
    let put : payload ≡ with_port slice.upper offset (to_be_bytes w16 port) slice.payload.now = rw (taken, cuts.upper) at written in
    let updated = rw (taken, cuts.upper) at updates in
    record {
      slice = slice;
      parts = cuts.parts;
      ports = cuts.ports;
      trailer = cuts.trailer;
      whole = cuts.whole;
      changed = is ∙ rw (first, left, put) refl;
      updates = updated;
      keeps_right = port_kept slice.header slice.extensions.now slice.upper offset port slice.payload.now cuts.ports.protocol even within updated;
    }

-- the addresses of a header have four bytes each
four_bytes : {h : Ipv4Header} {bytes : List ℕ} → IsIpv4Layout h bytes → (length h.source ≡ 4) × (length h.destination ≡ 4)
four_bytes {bytes = bytes} l = (
  omega (arith, l.layout.len, ap length l.layout.source, length-take 4 (drop 12 bytes), length-drop 12 bytes),
  omega (arith, l.layout.len, ap length l.layout.destination, length-take 4 (drop 16 bytes), length-drop 16 bytes),
)

-- a payload that is right between the old addresses is right between the new ones
reach_kept : (reach : Reach) (slice : IpSlice) (source destination next_source next_destination old new payload : List ℕ) (rest : ℕ) → version_in slice.header ≡ 4 → Reaches slice reach
    → slice.is_later_fragment ≡ false → length source ≡ 4 → length destination ≡ 4 → length next_source ≡ 4 → length next_destination ≡ 4
    → network_order_word_sum source + network_order_word_sum destination ≡ network_order_word_sum old + rest
    → network_order_word_sum next_source + network_order_word_sum next_destination ≡ network_order_word_sum new + rest
    → UpdatesPayload reach 2 slice.upper old new slice.payload.now payload
    → IsVerdictIpv4 source destination slice.upper slice.payload.now Right → IsVerdictIpv4 next_source next_destination slice.upper payload Right
reach_kept reaching.Upper slice source destination next_source next_destination old new payload rest version reaches now a b c d words next_words updates right =
    rw updates.is (verdict_kept 2 slice.upper source destination next_source next_destination old new slice.payload.now rest (covers_ipv4 slice.header slice.upper version reaches.1)
    a b c d words next_words (updates.updates refl) right)
reach_kept reaching.LaterFragment slice source destination next_source next_destination old new payload rest version reaches now a b c d words next_words updates right = absurd (grind (arith, reaches, now))
reach_kept reaching.OtherProtocol slice source destination next_source next_destination old new payload rest version reaches now a b c d words next_words updates right =
    rw updates.is (verdict_of_other slice.upper source destination next_source next_destination slice.payload.now (covers_no_udp slice.header slice.upper reaches.1)
    (covers_no_tcp slice.header slice.upper reaches.1) right)

-- a checksum that was right is right with another source, and for another final destination
pub source_kept_ipv4 : {before : List ℕ} {header : Ipv4Header} {cut : Cut} (cuts : CutsIpv4 before header cut) (next : Ipv4Header) (source payload : List ℕ) → length source ≡ 4
    → next.source ≡ source → next.destination ≡ header.destination → next.options ≡ header.options → UpdatesForSourceIpv4 source cuts.slice header cut.reach payload
    → cuts.slice.is_later_fragment ≡ false → KeepsRightIpv4 cuts.slice header next payload
source_kept_ipv4 {header = header} {cut = cut} cuts next source payload len is stays options_stay updates now old new goes_old goes_new right =
    let same : new ≡ old = goes_once_ipv4 header.destination header.options old new goes_old (rw (stays, options_stay) at goes_new) in
    let lens = four_bytes cuts.layout in
    let last = goes_len_ipv4 header.destination header.options old lens.1 goes_old in
    rw (is, same) (reach_kept cut.reach cuts.slice header.source old source old header.source source payload (network_order_word_sum old) cuts.version cuts.reaches now lens.0 last len last
    refl refl updates right)

pub destination_kept_ipv4 : {before : List ℕ} {header : Ipv4Header} {cut : Cut} (cuts : CutsIpv4 before header cut) (next : Ipv4Header) (destination payload : List ℕ) → length destination ≡ 4
    → next.source ≡ header.source → next.destination ≡ destination → next.options ≡ header.options → UpdatesForDestinationIpv4 destination cuts.slice header cut.reach payload
    → cuts.slice.is_later_fragment ≡ false → KeepsRightIpv4 cuts.slice header next payload
destination_kept_ipv4 {header = header} {cut = cut} cuts next destination payload len stays is options_stay updates now old new goes_old goes_new right =
    let goes_next = rw (is, options_stay) at goes_new in
    let was : old ≡ updates.old = goes_once_ipv4 header.destination header.options updates.old old updates.goes_to_old goes_old in
    let will : new ≡ updates.new = goes_once_ipv4 destination header.options updates.new new updates.goes_to_new goes_next in
    let lens = four_bytes cuts.layout in
    let len_old = goes_len_ipv4 header.destination header.options updates.old lens.1 updates.goes_to_old in
    let len_new = goes_len_ipv4 destination header.options updates.new len updates.goes_to_new in
    let right_old = rw was at right in
    rw (stays, will) (elim updates.updated [
      | inl (same, kept) ↦ rw (sym same, kept) right_old
      | inr (other, updated) ↦ reach_kept cut.reach cuts.slice header.source updates.old header.source updates.new updates.old updates.new payload (network_order_word_sum header.source)
          cuts.version cuts.reaches now lens.0 len_old lens.0 len_new (omega arith) (omega arith) updated right_old
    ])

-- the payload that is updated is that of the parts
pub updated_source_ipv4 : {before : List ℕ} {header : Ipv4Header} {cut : Cut} (cuts : CutsIpv4 before header cut) (source rest payload : List ℕ) → rest ≡ drop cut.header_len before
    → UpdatesPayload cut.reach 2 cut.upper header.source source (take cut.payload_len rest) payload → UpdatesForSourceIpv4 source cuts.slice header cut.reach payload
updated_source_ipv4 cuts source rest payload rest_is updates = rw (payload_is cuts rest rest_is, cuts.upper) at updates

pub updated_destination_ipv4 : {before : List ℕ} {header : Ipv4Header} {cut : Cut} (cuts : CutsIpv4 before header cut) (destination rest payload old new : List ℕ) → rest ≡ drop cut.header_len before
    → GoesToIpv4 header.destination header.options old → GoesToIpv4 destination header.options new
    → UpdatesIfOther 2 cut.reach cut.upper old new (take cut.payload_len rest) payload → UpdatesForDestinationIpv4 destination cuts.slice header cut.reach payload
updated_destination_ipv4 {header = header} {cut = cut} cuts destination rest payload old new rest_is goes_old goes_new updates =
    record { old = old; new = new; goes_to_old = goes_old; goes_to_new = goes_new; updated = rw (payload_is cuts rest rest_is, cuts.upper) at updates }

-- the packet with another address, from what was written to its parts
pub readdressed : {before : List ℕ} {header : Ipv4Header} {cut : Cut} (cuts : CutsIpv4 before header cut) (Updates : IpSlice → Ipv4Header → Reach → List ℕ → Type 0) (offset : ℕ)
    (old address after first front rest payload : List ℕ) (next : Ipv4Header) → first ≡ take cut.header_len before → rest ≡ drop cut.header_len before
    → old ≡ slice_range (header_bytes cuts.slice.header) offset (offset + 4) → next.header_checksum ≡ updated_checksum_of_words 2 header.header_checksum old address
    → ChangesInPlace header next offset address → front ≡ with_field_and_checksum offset address next.header_checksum first
    → Updates cuts.slice header cut.reach payload → after ≡ front ++ (payload ++ drop cut.payload_len rest)
    → (cuts.slice.is_later_fragment ≡ false → KeepsRightIpv4 cuts.slice header next payload) → ReaddressesIpv4 Updates offset address before after cut.reach
readdressed {header = header} cuts Updates offset old address after first front rest payload next first_is rest_at old_is checksum in_place written updates whole keeps =
    let slice = cuts.slice in
    let bytes = header_bytes slice.header in
    let begins : BeginsWith IsIpv4Layout bytes header [] = record { front = bytes; whole = sym (append-nil bytes); layout = cuts.layout } in
    let front_at : front ≡ with_field_and_checksum offset address next.header_checksum bytes = written ∙ ap (with_field_and_checksum offset address next.header_checksum) (front_is cuts first first_is) in
    record {
      slice = slice;
      parts = cuts.parts;
      version = cuts.version;
      reaches = cuts.reaches;
      trailer = cuts.trailer;
      whole = cuts.whole;
      header = header;
      layout = cuts.layout;
      next = next;
      checksum = checksum ∙ ap (λ o. updated_checksum_of_words 2 header.header_checksum o address) old_is;
      front = front;
      written = front_at;
      becomes = subst (λ f. BecomesPacketOf bytes f next []) (sym front_at) (in_place bytes [] begins);
      payload = payload;
      updated = updates;
      changed = whole ∙ ap (λ t. front ++ (payload ++ t)) (trailer_is cuts rest rest_at);
      keeps_right = keeps;
    }

-- how long a packet is that begins with a header
pub header_fits_ipv4 : {before rest : List ℕ} {header : Ipv4Header} → BeginsWith IsIpv4Layout before header rest → 20 ≤ length before
header_fits_ipv4 {rest = rest} begins = omega (arith, ap length begins.whole, length-append begins.front rest, begins.layout.layout.len)

-- the packet with another code point or notification, from what was written to it
pub marks_ipv4 : {before rest : List ℕ} {header next : Ipv4Header} (marked : Ipv4Header → Ipv4Header) (byte : ℕ) (after : List ℕ) → BeginsWith IsIpv4Layout before header rest
    → next ≡ record (marked header) { header_checksum = updated_checksum header.header_checksum (ipv4_first_word header) (ipv4_first_word (marked header)) }
    → ChangesInPlace header next 1 (byte ∷ []) → byte ≡ next.dscp * 2 ^ 2 + ecn_value next.ecn
    → after ≡ with_field_and_checksum 1 ((next.dscp * 2 ^ 2 + ecn_value next.ecn) ∷ []) next.header_checksum before → MarksIpv4 marked before after
marks_ipv4 {before = before} {rest = rest} {header = header} {next = next} marked byte after begins set in_place is written =
    record {
      header = header;
      rest = rest;
      begins = begins;
      next = next;
      set = set;
      changed = written;
      becomes = rw (written, ← is) (in_place before rest begins);
    }
