-- Fields of an IP packet that are changed where they stand, with the checksums that cover them
-- (RFC 1624, RFC 3022).
use Rattle.std.specs.Prelude.{ℕ, ◌≡◌, ◌≢◌, ◌==◌, ◌||◌, ◌+◌, ◌*◌, ◌/◌, ◌%◌, ◌^◌, ◌<◌, ◌≤◌, ◌⊎◌}
use Rattle.std.specs.Prelude.{Bool, List, [], ◌∷◌, ◌++◌, None, Option, Some}
use Rattle.std.specs.Prelude.{codes, false, if◌then◌else◌, length, slice_index, slice_range, true}
use Rattle.std.specs.Int.{to_be_bytes, w16}
use Rattle.etherparse.specs.HeaderChecksum.{BecomesPacketOf, with_field_and_checksum, with_part}
use Rattle.etherparse.specs.IpEcn.{ecn_value}
use Rattle.etherparse.specs.Ipv4Header.{IsIpv4Layout, ipv4_first_word}
use Rattle.etherparse.specs.Ipv6Header.{IsIpv6Layout}
use Rattle.etherparse.specs.Reading.{BeginsWith}
use Rattle.etherparse.specs.WordSums.{UpdatesChecksum, UpdatesChecksumWithNoZero}
use Rattle.etherparse.specs.WordSums.{network_order_word_sum, updated_checksum}
use Rattle.etherparse.specs.WordSums.{updated_checksum_of_words}
use Rattle.etherparse.specs.WordSums.{with_no_zero}
use Rattle.etherparse.specs.declared.IpEcn.{IpEcn}
use Rattle.etherparse.specs.declared.net.ipv4_header.Ipv4Header.{Ipv4Header}
use Rattle.etherparse.specs.declared.net.ipv6_header.Ipv6Header.{Ipv6Header}
use Rattle.packet_parts.specs.Checksum.{IsVerdictBetween, IsVerdictIpv4, IsVerdictOver}
use Rattle.packet_parts.specs.FinalDestination.{GoesToIpv4, GoesToIpv6}
use Rattle.packet_parts.specs.IpSlice.{IsIpPacket, RefusesIp, header_bytes, header_len_of}
use Rattle.packet_parts.specs.IpSlice.{ip_slice_error_text}
use Rattle.packet_parts.specs.OriginalSource.{ComesFromIpv6}
use Rattle.packet_parts.specs.declared.checksum.Verdict.TheVariants.{Right}
use Rattle.packet_parts.specs.declared.ip_slice.IpHeaderSlice.{IpHeaderSlice}
use Rattle.packet_parts.specs.declared.ip_slice.IpHeaderSlice.TheVariants as header
use Rattle.packet_parts.specs.declared.ip_slice.IpSlice.{IpSlice}
use Rattle.packet_parts.specs.declared.ip_slice.IpSliceError.{IpSliceError}
use Rattle.packet_parts.specs.declared.ip_slice.IpSliceError.TheVariants as ip_error
use Rattle.packet_rewriting.specs.UpperChecksum.{checksum_field, with_checksum}
use Rattle.packet_rewriting.specs.declared.fields.Cut.{Cut}
use Rattle.packet_rewriting.specs.declared.fields.Reach.{Reach}
use Rattle.packet_rewriting.specs.declared.fields.Reach.TheVariants as reaching
use Rattle.packet_rewriting.specs.declared.fields.RewriteError.{RewriteError}
use Rattle.packet_rewriting.specs.declared.fields.RewriteError.TheVariants as error

-- The checksum of an upper layer after a change of so many words that it covers (RFC 1624 section
-- 3). In UDP (17) 0 says that there is none, and stays; 65535 stands for another 0 (RFC 768).
abbrev pub updated_upper : ℕ → ℕ → ℕ → List ℕ → List ℕ → ℕ
updated_upper words number checksum old new =
    let updated = updated_checksum_of_words words checksum old new in
    if number == 17 then (if checksum == 0 then 0 else with_no_zero updated) else updated

-- a payload with its checksum updated for that
abbrev pub with_updated : ℕ → ℕ → List ℕ → List ℕ → List ℕ → List ℕ
with_updated words number old new payload = with_checksum number
    (updated_upper words number (checksum_field number payload) old new) payload

-- how long the header of an upper layer is at least: 8 of UDP (17), 20 of TCP (6), 4 of ICMPv6
abbrev pub least_len : ℕ → ℕ
least_len number = if number == 17 then 8 else if number == 6 then 20 else 4

-- UDP (17) and TCP (6) have ports
abbrev pub has_ports : ℕ → Bool
has_ports number = (number == 17) || (number == 6)

-- The checksum of an upper layer covers the addresses of the packet, by its pseudo-header: of UDP
-- and TCP; and over IPv6 of ICMPv6 (58, RFC 4443 section 2.3).
abbrev pub covers_addresses : IpHeaderSlice → ℕ → Bool
covers_addresses (header.Ipv4 view) number = has_ports number
covers_addresses (header.Ipv6 view) number = has_ports number || (number == 58)

-- How far the change of an address reaches in a packet: into the header of the upper layer, which
-- is there; or it ends with that of IP, since the payload is a later fragment, or of a protocol
-- whose checksum does not cover the addresses, or of another one, which is not known here.
abbrev pub Reaches : IpSlice → Reach → Type 0
Reaches slice reaching.Upper = (slice.is_later_fragment ≡ false)
    × (covers_addresses slice.header slice.upper ≡ true)
    × (least_len slice.upper ≤ length slice.payload.now)
Reaches slice reaching.LaterFragment = slice.is_later_fragment ≡ true
Reaches slice reaching.OtherProtocol = (slice.is_later_fragment ≡ false)
    × (covers_addresses slice.header slice.upper ≡ false)

-- the payload after the change of an address
abbrev pub reached : Reach → ℕ → ℕ → List ℕ → List ℕ → List ℕ → List ℕ
reached reaching.Upper words number old new payload = with_updated words number old new payload
reached reaching.LaterFragment words number old new payload = payload
reached reaching.OtherProtocol words number old new payload = payload

-- the packet ends within the header of an upper layer whose checksum covers the addresses
abbrev pub EndsInUpper : IpSlice → Type 0
EndsInUpper slice = (slice.is_later_fragment ≡ false)
    × (covers_addresses slice.header slice.upper ≡ true)
    × (length slice.payload.now < least_len slice.upper)

-- the version of a header
abbrev pub version_in : IpHeaderSlice → ℕ
version_in (header.Ipv4 view) = 4
version_in (header.Ipv6 view) = 6

-- why an address of a packet is not changed, where the version has to be this one
abbrev pub RefusesAddress : ℕ → List ℕ → RewriteError → Type 0
RefusesAddress version packet (error.Ip e) = RefusesIp packet e
RefusesAddress version packet error.OtherVersion =
    (slice : IpSlice) × IsIpPacket packet slice × (version_in slice.header ≢ version)
RefusesAddress version packet error.Incomplete =
    (slice : IpSlice) × IsIpPacket packet slice × (version_in slice.header ≡ version)
    × EndsInUpper slice
RefusesAddress version packet error.LaterFragment = ⊥
RefusesAddress version packet error.OtherProtocol = ⊥

-- an IPv4 packet with this header, cut at its length field and after its headers
pub record CutsIpv4 (packet : List ℕ) (header : Ipv4Header) (cut : Cut) : Type 0 where
  pub slice : IpSlice
  pub parts : IsIpPacket packet slice
  pub version : version_in slice.header ≡ 4
  pub layout : IsIpv4Layout header (header_bytes slice.header)
  pub header_len : cut.header_len ≡ length (header_bytes slice.header)
  pub payload_len : cut.payload_len ≡ length slice.payload.now
  pub upper : cut.upper ≡ slice.upper
  pub reaches : Reaches slice cut.reach
  pub trailer : List ℕ
  pub whole : packet ≡ header_bytes slice.header ++ (slice.payload.now ++ trailer)

-- what is known of the updated checksum of an upper layer, by the sums of the old and the new words
pub record UpdatesUpper (number checksum old new answer : ℕ) : Type 0 where
  pub udp : number ≡ 17 → UpdatesChecksumWithNoZero checksum old new answer
  pub other : number ≢ 17 → UpdatesChecksum checksum old new answer

-- A payload after so many words became others that its checksum covers: the checksum is updated, or
-- the change does not reach the payload.
pub record UpdatesPayload (reach : Reach) (words number : ℕ) (old new before after : List ℕ)
    : Type 0 where
  pub is : after ≡ reached reach words number old new before
  pub updates : reach ≡ reaching.Upper → UpdatesUpper number (checksum_field number before)
      (network_order_word_sum old) (network_order_word_sum new)
      (updated_upper words number (checksum_field number before) old new)

-- A payload whose checksum is updated for so many words that became others. If the words are the
-- same, the payload stays.
abbrev pub UpdatesIfOther : ℕ → Reach → ℕ → List ℕ → List ℕ → List ℕ → List ℕ → Type 0
UpdatesIfOther words reach number old new before after = ((old ≡ new) × (after ≡ before))
    ⊎ ((old ≢ new) × UpdatesPayload reach words number old new before after)

-- a payload after a change of the source, for which its checksum is updated
abbrev pub UpdatesForSourceIpv4 : List ℕ → IpSlice → Ipv4Header → Reach → List ℕ → Type 0
UpdatesForSourceIpv4 source slice header reach payload =
    UpdatesPayload reach 2 slice.upper header.source source slice.payload.now payload

-- a payload after a change of the destination of its header, and so of the final destination, which
-- a source route can keep the same
pub record UpdatesForDestinationIpv4 (destination : List ℕ) (slice : IpSlice) (header : Ipv4Header)
    (reach : Reach) (payload : List ℕ) : Type 0 where
  pub old : List ℕ
  pub new : List ℕ
  pub goes_to_old : GoesToIpv4 header.destination header.options old
  pub goes_to_new : GoesToIpv4 destination header.options new
  pub updated : UpdatesIfOther 2 reach slice.upper old new slice.payload.now payload

-- if a payload was right for the final destination of a header, another one is right for that of
-- the next header
abbrev pub KeepsRightIpv4 : IpSlice → Ipv4Header → Ipv4Header → List ℕ → Type 0
KeepsRightIpv4 slice header next payload = (old new : List ℕ)
    → GoesToIpv4 header.destination header.options old
    → GoesToIpv4 next.destination next.options new
    → IsVerdictIpv4 header.source old slice.upper slice.payload.now Right
    → IsVerdictIpv4 next.source new slice.upper payload Right

-- An IPv4 packet has another address, at an offset in its header. The header checksum is updated
-- for it, that of the payload by `Updates`. What the link added after the packet stays.
pub record ReaddressesIpv4 (Updates : IpSlice → Ipv4Header → Reach → List ℕ → Type 0)
    (offset : ℕ) (address before after : List ℕ) (reach : Reach) : Type 0 where
  pub slice : IpSlice
  pub parts : IsIpPacket before slice
  pub version : version_in slice.header ≡ 4
  pub reaches : Reaches slice reach
  pub trailer : List ℕ
  pub whole : before ≡ header_bytes slice.header ++ (slice.payload.now ++ trailer)
  -- the header is another one, and its checksum is right exactly when it was before
  pub header : Ipv4Header
  pub layout : IsIpv4Layout header (header_bytes slice.header)
  pub next : Ipv4Header
  pub checksum : next.header_checksum ≡ updated_checksum_of_words 2 header.header_checksum
      (slice_range (header_bytes slice.header) offset (offset + 4)) address
  pub front : List ℕ
  pub written : front
      ≡ with_field_and_checksum offset address next.header_checksum (header_bytes slice.header)
  pub becomes : BecomesPacketOf (header_bytes slice.header) front next []
  -- the payload is another one, or the same
  pub payload : List ℕ
  pub updated : Updates slice header reach payload
  pub changed : after ≡ front ++ (payload ++ trailer)
  -- the checksum of a payload that is no later fragment is right if it was before
  pub keeps_right : slice.is_later_fragment ≡ false → KeepsRightIpv4 slice header next payload

-- a packet of IPv4 has another source; or another destination
abbrev pub HasOtherSourceIpv4 : List ℕ → List ℕ → List ℕ → Reach → Type 0
HasOtherSourceIpv4 source = ReaddressesIpv4 (UpdatesForSourceIpv4 source) 12 source

abbrev pub HasOtherDestinationIpv4 : List ℕ → List ℕ → List ℕ → Reach → Type 0
HasOtherDestinationIpv4 destination =
    ReaddressesIpv4 (UpdatesForDestinationIpv4 destination) 16 destination

-- an IPv6 packet with this header, cut at its length field and after its headers
pub record CutsIpv6 (packet : List ℕ) (header : Ipv6Header) (cut : Cut) : Type 0 where
  pub slice : IpSlice
  pub parts : IsIpPacket packet slice
  pub version : version_in slice.header ≡ 6
  pub layout : IsIpv6Layout header (header_bytes slice.header)
  pub header_len : cut.header_len ≡ header_len_of slice
  pub payload_len : cut.payload_len ≡ length slice.payload.now
  pub upper : cut.upper ≡ slice.upper
  pub reaches : Reaches slice cut.reach
  pub trailer : List ℕ
  pub whole : packet
      ≡ header_bytes slice.header ++ slice.extensions.now ++ (slice.payload.now ++ trailer)

-- A payload after a change of an address that its checksum covers: the checksum is updated for it.
-- The payload stays if the address is the same, or unknown.
abbrev pub UpdatesIfKnown : Reach → ℕ → Option (List ℕ) → Option (List ℕ) → List ℕ → List ℕ
    → Type 0
UpdatesIfKnown reach number (Some old) (Some new) before after =
    UpdatesIfOther 8 reach number old new before after
UpdatesIfKnown reach number old new before after = after ≡ before

-- A payload after an address of its header became another one, `next`. Its checksum covers the
-- address that `Follows` gives; the extension headers can keep that the same.
pub record UpdatesForIpv6 (Follows : List ℕ → ℕ → List ℕ → Option (List ℕ) → Type 0)
    (address next : List ℕ) (slice : IpSlice) (header : Ipv6Header) (reach : Reach)
    (payload : List ℕ) : Type 0 where
  pub old : Option (List ℕ)
  pub new : Option (List ℕ)
  pub follows_old : Follows address header.next_header slice.extensions.now old
  pub follows_new : Follows next header.next_header slice.extensions.now new
  pub updated : UpdatesIfKnown reach slice.upper old new slice.payload.now payload

-- a payload after a change of the source of its header, and so of the original source
abbrev pub UpdatesForSourceIpv6 : List ℕ → IpSlice → Ipv6Header → Reach → List ℕ → Type 0
UpdatesForSourceIpv6 source slice header reach payload =
    UpdatesForIpv6 ComesFromIpv6 header.source source slice header reach payload

-- a payload after a change of the destination of its header, and so of the final destination
abbrev pub UpdatesForDestinationIpv6 : List ℕ → IpSlice → Ipv6Header → Reach → List ℕ → Type 0
UpdatesForDestinationIpv6 destination slice header reach payload =
    UpdatesForIpv6 GoesToIpv6 header.destination destination slice header reach payload

-- if a payload was right between the covered addresses of the old header, another one is right
-- between those of the new header, with the same extension headers
abbrev pub KeepsRightIpv6 : IpSlice → Ipv6Header → Ipv6Header → List ℕ → Type 0
KeepsRightIpv6 slice old new payload = (old_source old_final new_source new_final : Option (List ℕ))
    → ComesFromIpv6 old.source old.next_header slice.extensions.now old_source
    → GoesToIpv6 old.destination old.next_header slice.extensions.now old_final
    → ComesFromIpv6 new.source new.next_header slice.extensions.now new_source
    → GoesToIpv6 new.destination new.next_header slice.extensions.now new_final
    → IsVerdictBetween old_source old_final slice.upper slice.payload.now Right
    → IsVerdictBetween new_source new_final slice.upper payload Right

-- An IPv6 packet has another address in place of the old one, and the checksum of its upper layer
-- is updated for it. Its extension headers and what the link added after it stay.
pub record ReaddressesIpv6 (Updates : IpSlice → Ipv6Header → Reach → List ℕ → Type 0)
    (readdressed : Ipv6Header → Ipv6Header) (before after : List ℕ) (reach : Reach) : Type 0 where
  pub slice : IpSlice
  pub parts : IsIpPacket before slice
  pub version : version_in slice.header ≡ 6
  pub reaches : Reaches slice reach
  pub trailer : List ℕ
  pub whole : before
      ≡ header_bytes slice.header ++ slice.extensions.now ++ (slice.payload.now ++ trailer)
  pub header : Ipv6Header
  pub layout : IsIpv6Layout header (header_bytes slice.header)
  pub front : List ℕ
  pub becomes : BeginsWith IsIpv6Layout front (readdressed header) slice.extensions.now
  -- the payload is another one, or the same
  pub payload : List ℕ
  pub updated : Updates slice header reach payload
  pub changed : after ≡ front ++ (payload ++ trailer)
  -- the checksum of a payload that is no later fragment is right if it was before
  pub keeps_right : slice.is_later_fragment ≡ false
      → KeepsRightIpv6 slice header (readdressed header) payload

-- a packet of IPv6 has another source; or another destination
abbrev pub HasOtherSourceIpv6 : List ℕ → List ℕ → List ℕ → Reach → Type 0
HasOtherSourceIpv6 source =
    ReaddressesIpv6 (UpdatesForSourceIpv6 source) (λ h. record h { source = source })

abbrev pub HasOtherDestinationIpv6 : List ℕ → List ℕ → List ℕ → Reach → Type 0
HasOtherDestinationIpv6 destination = ReaddressesIpv6 (UpdatesForDestinationIpv6 destination)
    (λ h. record h { destination = destination })

-- a word of two bytes, from an offset on
abbrev pub word_at : ℕ → List ℕ → List ℕ
word_at offset bytes = slice_index bytes offset ∷ slice_index bytes (offset + 1) ∷ []

-- a payload with another port, from an offset on, and its checksum updated for that
abbrev pub with_port : ℕ → ℕ → List ℕ → List ℕ → List ℕ
with_port number offset port payload =
    with_part offset port (with_updated 1 number (word_at offset payload) port payload)

-- the payload begins with a header of UDP or of TCP, which has ports
pub record HasPorts (slice : IpSlice) : Type 0 where
  pub first : slice.is_later_fragment ≡ false
  pub protocol : has_ports slice.upper ≡ true
  pub enough : least_len slice.upper ≤ length slice.payload.now

-- a packet with ports, cut at its length field and after its headers
pub record CutsAtPorts (packet : List ℕ) (cut : Cut) : Type 0 where
  pub slice : IpSlice
  pub parts : IsIpPacket packet slice
  pub ports : HasPorts slice
  pub header_len : cut.header_len ≡ header_len_of slice
  pub payload_len : cut.payload_len ≡ length slice.payload.now
  pub upper : cut.upper ≡ slice.upper
  pub trailer : List ℕ
  pub whole : packet
      ≡ header_bytes slice.header ++ slice.extensions.now ++ (slice.payload.now ++ trailer)

-- why a port is not changed
abbrev pub RefusesPort : List ℕ → RewriteError → Type 0
RefusesPort packet (error.Ip e) = RefusesIp packet e
RefusesPort packet error.OtherVersion = ⊥
RefusesPort packet error.Incomplete = (slice : IpSlice) × IsIpPacket packet slice
    × (slice.is_later_fragment ≡ false) × (has_ports slice.upper ≡ true)
    × (length slice.payload.now < least_len slice.upper)
RefusesPort packet error.LaterFragment = (slice : IpSlice) × IsIpPacket packet slice
    × (slice.is_later_fragment ≡ true)
RefusesPort packet error.OtherProtocol = (slice : IpSlice) × IsIpPacket packet slice
    × (slice.is_later_fragment ≡ false) × (has_ports slice.upper ≡ false)

-- A packet has another port, at an offset in its payload, whose checksum is updated for it. Its
-- headers and what the link added after it stay.
pub record ChangesPort (offset port : ℕ) (before after : List ℕ) : Type 0 where
  pub slice : IpSlice
  pub parts : IsIpPacket before slice
  pub ports : HasPorts slice
  pub trailer : List ℕ
  pub whole : before
      ≡ header_bytes slice.header ++ slice.extensions.now ++ (slice.payload.now ++ trailer)
  pub changed : after ≡ header_bytes slice.header ++ slice.extensions.now
      ++ (with_port slice.upper offset (to_be_bytes w16 port) slice.payload.now ++ trailer)
  pub updates : UpdatesUpper slice.upper (checksum_field slice.upper slice.payload.now)
      (network_order_word_sum (word_at offset slice.payload.now))
      (network_order_word_sum (to_be_bytes w16 port))
      (updated_upper 1 slice.upper (checksum_field slice.upper slice.payload.now)
      (word_at offset slice.payload.now) (to_be_bytes w16 port))
  -- a checksum that was right is right
  pub keeps_right :
      IsVerdictOver slice.header slice.extensions.now slice.upper slice.payload.now Right
      → IsVerdictOver slice.header slice.extensions.now slice.upper
      (with_port slice.upper offset (to_be_bytes w16 port) slice.payload.now) Right

-- An IPv4 header has another DSCP or ECN, in byte 1, and its checksum is updated for the first
-- word: it is right exactly when it was before. All else stays.
pub record MarksIpv4 (marked : Ipv4Header → Ipv4Header) (before after : List ℕ) : Type 0 where
  pub header : Ipv4Header
  pub rest : List ℕ
  pub begins : BeginsWith IsIpv4Layout before header rest
  pub next : Ipv4Header
  pub set : next ≡ record (marked header) {
    header_checksum = updated_checksum header.header_checksum (ipv4_first_word header)
        (ipv4_first_word (marked header));
  }
  pub changed : after ≡ with_field_and_checksum 1 ((next.dscp * 2 ^ 2 + ecn_value next.ecn) ∷ [])
      next.header_checksum before
  pub becomes : BecomesPacketOf before after next rest

-- an IPv6 header has another traffic class; all else stays
pub record MarksIpv6 (marked : ℕ → ℕ) (before after : List ℕ) : Type 0 where
  pub header : Ipv6Header
  pub rest : List ℕ
  pub begins : BeginsWith IsIpv6Layout before header rest
  pub becomes : BeginsWith IsIpv6Layout after
      (record header { traffic_class = marked header.traffic_class }) rest

-- a packet of either version has another DSCP: the upper 6 bits of the byte or of the traffic class
-- (RFC 2474 section 3)
abbrev pub HasOtherDscp : ℕ → List ℕ → List ℕ → Type 0
HasOtherDscp dscp before after = MarksIpv4 (λ h. record h { dscp = dscp }) before after
    ⊎ MarksIpv6 (λ class. dscp * 2 ^ 2 + class % 2 ^ 2) before after

-- and another ECN: the lower 2 bits (RFC 3168 section 5)
abbrev pub HasOtherEcn : IpEcn → List ℕ → List ℕ → Type 0
HasOtherEcn ecn before after = MarksIpv4 (λ h. record h { ecn = ecn }) before after
    ⊎ MarksIpv6 (λ class. class / 2 ^ 2 * 2 ^ 2 + ecn_value ecn) before after

-- why a packet has no IP header; what follows a header is no reason
abbrev pub HasNoIpHeader : List ℕ → IpSliceError → Type 0
HasNoIpHeader packet (ip_error.Empty e) = RefusesIp packet (ip_error.Empty e)
HasNoIpHeader packet (ip_error.UnexpectedVersion version) =
    RefusesIp packet (ip_error.UnexpectedVersion version)
HasNoIpHeader packet (ip_error.Ipv4Header e) = RefusesIp packet (ip_error.Ipv4Header e)
HasNoIpHeader packet (ip_error.Ipv6Header e) = RefusesIp packet (ip_error.Ipv6Header e)
HasNoIpHeader packet (ip_error.Packet e) = ⊥
HasNoIpHeader packet (ip_error.Extensions e) = ⊥

-- why a header is not marked
abbrev pub RefusesMark : List ℕ → RewriteError → Type 0
RefusesMark packet (error.Ip e) = HasNoIpHeader packet e
RefusesMark packet other = ⊥

-- the text of a refusal
abbrev pub rewrite_error_text : RewriteError → List ℕ
rewrite_error_text (error.Ip e) = ip_slice_error_text e
rewrite_error_text error.OtherVersion =
    codes "Rewrite Error: The packet has the other IP version."
rewrite_error_text error.Incomplete =
    codes "Rewrite Error: The packet ends within the header of its upper layer."
rewrite_error_text error.LaterFragment =
    codes "Rewrite Error: The packet is a later fragment, which has no ports."
rewrite_error_text error.OtherProtocol =
    codes "Rewrite Error: The packet carries neither UDP nor TCP."

-- the same under any width, precision or flag; of a packet's own error nothing is said
abbrev pub text_in_any_style : RewriteError → Option (List ℕ)
text_in_any_style (error.Ip e) = None
text_in_any_style other = Some (rewrite_error_text other)
