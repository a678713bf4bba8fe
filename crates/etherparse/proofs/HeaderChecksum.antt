-- The checksum of a header: what it is the sum of, when it is right, and how it stays right where a field is set, in a packet too.
use Rattle.std.proofs.Common.{ℕ, suc, ◌≡◌, ◌+◌, ◌-◌, ◌<◌, ◌≤◌, ◌^◌, List, [], ◌∷◌, ◌++◌, length, length-set, take_at, refl, sym, ap, ◌∙◌, arith, rules, w16}
use Rattle.std.specs.Prelude.{◌↔◌, ◌⊎◌, ◌*◌, slice_set}
use Rattle.std.specs.Int.{from_bool, to_be_bytes}
use Rattle.std.proofs.lemmas.List.{set-append_left}
use Rattle.etherparse_base.specs.Bytes.{IsBytes}
use Rattle.etherparse_base.specs.WordSums.{IsSumOf, StandsForWords, SumsToAllOnes, UpdatesChecksum, checksum_of, folded_sum, little_endian_word_sum, network_order_word_sum}
use Rattle.etherparse_base.proofs.FoldedSums.{folded_sum-positive}
use Rattle.etherparse_base.proofs.WordSumLaws.{little_endian_word_sum-append}
use Rattle.etherparse.proofs.Layouts.{written}
use Rattle.etherparse_fields.specs.IpEcn.{ecn_value}
use Rattle.etherparse_fields.specs.declared.net.ip_ecn.IpEcn.{IpEcn}
use Rattle.etherparse.proofs.Ipv4Layout.{HasFieldRanges, ecn_value-lt, fixed_fields, flags_word, front_spells, ranges_of, spelled, spelling, spells}
use Rattle.etherparse.proofs.Parts.{set_is_bytes, spread, word_is_bytes}
use Rattle.etherparse.specs.HeaderChecksum.{ChangesInPlace, KeepsChecksum, header_checksum_of, with_field_and_checksum, with_part}
use Rattle.etherparse.specs.Ipv4Header.{IsIpv4LayoutWith, ipv4_first_word}
use Rattle.etherparse.specs.declared.net.ipv4_header.Ipv4Header.{Ipv4Header}

-- a header with another checksum
abbrev with_checksum : ℕ → Ipv4Header → Ipv4Header
with_checksum checksum h = record h { header_checksum = checksum }

-- the sum of a header's words but its checksum; the first byte is not 0
words : Ipv4Header → ℕ → ℕ
words h r = network_order_word_sum (spelling (with_checksum 0 h) (flags_word h r))

words-positive : (h : Ipv4Header) (r : ℕ) → 0 < words h r
unfolding words
words-positive h r = omega arith

-- it is that of the bytes with the checksum cleared, and that of the bytes less the checksum
cleared_words : (h : Ipv4Header) (r : ℕ) (p : List ℕ) → IsIpv4LayoutWith h r p → network_order_word_sum (with_part 10 (0 ∷ 0 ∷ []) p) ≡ words h r
unfolding words
cleared_words h r p l = ap (λ x. network_order_word_sum (with_part 10 (0 ∷ 0 ∷ []) x)) (spelled h r p l)

whole_words : (h : Ipv4Header) (r : ℕ) (p : List ℕ) → IsIpv4LayoutWith h r p → network_order_word_sum p ≡ words h r + h.header_checksum
unfolding words
whole_words h r p l = let fits = (ranges_of h r p l).header_checksum in rw (spelled h r p l) (omega arith)

-- the bytes of a header sum to all ones where its checksum is the computed one, in either form of zero
pub right_checksum : (h : Ipv4Header) (r : ℕ) (p : List ℕ) → IsIpv4LayoutWith h r p
    → SumsToAllOnes p ↔ ((h.header_checksum ≡ header_checksum_of p) ⊎ ((h.header_checksum ≡ 65535) × (header_checksum_of p ≡ 0)))
right_checksum h r p l =
    rw (whole_words h r p l, cleared_words h r p l) (grind (arith, folded_sum-positive, words-positive, (ranges_of h r p l).header_checksum))

-- the complement of the sum of the fixed fields and of the options, in network order, is the computed checksum
pub computed_of : (h : Ipv4Header) (front options : List ℕ) (fixed sum answer : ℕ)
    → front ≡ written (fixed_fields (with_checksum 0 h) (from_bool h.dont_fragment * 2 ^ 14 + from_bool h.more_fragments * 2 ^ 13 + h.fragment_offset)) (h.source ++ h.destination)
    → options ≡ h.options → length front ≡ 20 → StandsForWords 0 front fixed → StandsForWords fixed options sum
    → ((bytes : List ℕ) → IsSumOf sum bytes → answer ≡ checksum_of (network_order_word_sum bytes))
    → ((stored : ℕ) (p : List ℕ) → IsIpv4LayoutWith (with_checksum stored h) 0 p → answer ≡ header_checksum_of p) × (answer < 65535)
unfolding words
computed_of h front options fixed sum answer f o len first second complement =
    let whole : front ++ options ≡ spelling (with_checksum 0 h) (flags_word h 0) = front_spells (with_checksum 0 h) front options (front ++ options) refl o f in
    let all = little_endian_word_sum-append front options (omega (arith, len)) in
    let folded : IsSumOf sum (front ++ options) = ap folded_sum (omega arith) ∙ second 0 ∙ first (0 + little_endian_word_sum options) ∙ ap folded_sum (omega arith) in
    let computed : answer ≡ checksum_of (words h 0) = complement (front ++ options) folded ∙ ap (λ p. checksum_of (network_order_word_sum p)) whole in (
      λ stored p layout. computed ∙ ap checksum_of (sym (cleared_words (with_checksum stored h) 0 p layout)),
      omega (arith, computed, folded_sum-positive (words h 0) (words-positive h 0)),
    )

-- a checksum that is updated for words that sum to the old number and become others is right as the one before
keeps_checksum : (h g : Ipv4Header) (old new : ℕ) → UpdatesChecksum h.header_checksum old new g.header_checksum
    → (HasFieldRanges h → (r : ℕ) → (old ≤ words h r) × (words g r ≡ words h r - old + new)) → KeepsChecksum h g
keeps_checksum h g old new updates changes = record {
  stays_computed = λ r p q k l computed.
      let (within, replaced) = changes (ranges_of h r p k) r in
      rw (cleared_words g r q l, replaced) (updates.anew (words h r) within (rw (cleared_words h r p k) at computed) (omega (arith, words-positive g r)));
  all_ones = λ r p q k l.
      let (within, replaced) = changes (ranges_of h r p k) r in
      rw (whole_words g r q l, whole_words h r p k, replaced, updates.received (words h r) within (words-positive h r) (omega (arith, words-positive g r)))
      (λ right. right, λ right. right);
}

-- a part that is written over others: there are as many bytes, they are bytes, and what follows stays
abbrev IsWrittenOver : (List ℕ → List ℕ) → List ℕ → Type 0
IsWrittenOver write p = (length (write p) ≡ length p) × IsBytes (write p) × ((rest : List ℕ) → write (p ++ rest) ≡ write p ++ rest)

part_written : (k : ℕ) (part p : List ℕ) → k + length part ≤ length p → IsBytes part → IsBytes p → IsWrittenOver (with_part k part) p
part_written k [] p within are_bytes bytes = (refl, bytes, λ rest. refl)
part_written k (b ∷ part) p within are_bytes bytes =
    let len = length-set p k b in
    let others = part_written (k + 1) part (slice_set p k b) (omega arith) (λ i. are_bytes (suc i)) (set_is_bytes p k b (omega arith) (are_bytes 0) bytes) in
    (others.0 ∙ len, others.1, λ rest. ap (with_part (k + 1) part) (set-append_left p rest k b (omega arith)) ∙ others.2 rest)

-- so are bytes, where another field, at an offset, and another checksum are written over those of a header
field_set : (h g : Ipv4Header) (offset : ℕ) (field : List ℕ) (old new : ℕ) → offset + length field ≤ 20 → IsBytes field → g.options ≡ h.options
    → (HasFieldRanges h → HasFieldRanges g) → (HasFieldRanges h → (r : ℕ) → (old ≤ words h r) × (words g r ≡ words h r - old + new)
    × (with_field_and_checksum offset field g.header_checksum (spelling h (flags_word h r)) ≡ spelling g (flags_word g r)))
    → UpdatesChecksum h.header_checksum old new g.header_checksum → KeepsChecksum h g × ChangesInPlace h g offset field
field_set h g offset field old new within are_bytes same_options ranges changes updates =
    let keeps = keeps_checksum h g old new updates (λ f r. ((changes f r).0, (changes f r).1)) in
    let checksum = to_be_bytes w16 g.header_checksum in
    let write = with_field_and_checksum offset field g.header_checksum in (
      keeps,
      λ packet rest b.
          let r = b.layout.reserved in
          let before = b.layout.layout in
          let old_ranges = ranges_of h r b.front before in
          let one = part_written offset field b.front (omega (arith, before.len)) are_bytes before.are_bytes in
          let both = part_written 10 checksum (with_part offset field b.front) (omega (arith, one.0, before.len)) (word_is_bytes g.header_checksum) one.1 in
          let same_rest : write (b.front ++ rest) ≡ write b.front ++ rest = ap (with_part 10 checksum) (one.2 rest) ∙ both.2 rest in
          let after : IsIpv4LayoutWith g r (write b.front) = spells g r (write b.front) (ranges old_ranges) (rw same_options before.options_len) before.reserved_fits both.1
          (ap write (spelled h r b.front before) ∙ (changes old_ranges r).2) in
          record {
            begins = record { front = write b.front; whole = ap write b.whole ∙ same_rest; layout = record { reserved = r; layout = after } };
            all_ones = rw (b.whole, same_rest, take_at b.front rest _ (sym (both.0 ∙ one.0) ∙ after.len), take_at (write b.front) rest _ after.len)
                (keeps.all_ones r b.front (write b.front) before after);
          },
    )

-- a header with another code point, notification, time to live, source or destination, and another checksum
abbrev pub with_dscp : ℕ → ℕ → Ipv4Header → Ipv4Header
with_dscp dscp checksum h = record h { dscp = dscp; header_checksum = checksum }

pub dscp_set : (h : Ipv4Header) (d c : ℕ) → d < 2 ^ 6 → c < 2 ^ 16
    → UpdatesChecksum h.header_checksum (ipv4_first_word h) (ipv4_first_word (with_dscp d c h)) c
    → KeepsChecksum h (with_dscp d c h) × ChangesInPlace h (with_dscp d c h) 1 ((d * 2 ^ 2 + ecn_value h.ecn) ∷ [])
unfolding words
dscp_set h d c d_fits c_fits updates =
    field_set h (with_dscp d c h) 1 ((d * 2 ^ 2 + ecn_value h.ecn) ∷ []) _ _ (omega arith) (λ i. grind (arith, ecn_value-lt)) refl (λ f. search (rules, f, d_fits, c_fits))
    (λ f r. (omega arith, omega arith, refl)) updates

abbrev pub with_ecn : IpEcn → ℕ → Ipv4Header → Ipv4Header
with_ecn ecn checksum h = record h { ecn = ecn; header_checksum = checksum }

pub ecn_set : (h : Ipv4Header) (ecn : IpEcn) (c : ℕ) → h.dscp < 2 ^ 6 → c < 2 ^ 16
    → UpdatesChecksum h.header_checksum (ipv4_first_word h) (ipv4_first_word (with_ecn ecn c h)) c
    → KeepsChecksum h (with_ecn ecn c h) × ChangesInPlace h (with_ecn ecn c h) 1 ((h.dscp * 2 ^ 2 + ecn_value ecn) ∷ [])
unfolding words
ecn_set h ecn c d_fits c_fits updates =
    field_set h (with_ecn ecn c h) 1 ((h.dscp * 2 ^ 2 + ecn_value ecn) ∷ []) _ _ (omega arith) (λ i. grind (arith, ecn_value-lt)) refl (λ f. search (rules, f, c_fits))
    (λ f r. (omega arith, omega arith, refl)) updates

abbrev pub with_time_to_live : ℕ → ℕ → Ipv4Header → Ipv4Header
with_time_to_live time_to_live checksum h = record h { time_to_live = time_to_live; header_checksum = checksum }

pub time_to_live_set : (h : Ipv4Header) (t c : ℕ) → t < 2 ^ 8 → c < 2 ^ 16
    → UpdatesChecksum h.header_checksum (h.time_to_live * 2 ^ 8 + h.protocol) (t * 2 ^ 8 + h.protocol) c
    → KeepsChecksum h (with_time_to_live t c h) × ChangesInPlace h (with_time_to_live t c h) 8 (t ∷ [])
unfolding words
time_to_live_set h t c t_fits c_fits updates =
    field_set h (with_time_to_live t c h) 8 (t ∷ []) _ _ (omega arith) (λ i. grind arith) refl (λ f. search (rules, f, c_fits))
    (λ f r. (omega arith, omega arith, refl)) updates

abbrev pub with_source : List ℕ → ℕ → Ipv4Header → Ipv4Header
with_source source checksum h = record h { source = source; header_checksum = checksum }

pub source_set : (h : Ipv4Header) (source : List ℕ) (c : ℕ) → length source ≡ 4 → IsBytes source → c < 2 ^ 16
    → UpdatesChecksum h.header_checksum (network_order_word_sum h.source) (network_order_word_sum source) c
    → KeepsChecksum h (with_source source c h) × ChangesInPlace h (with_source source c h) 12 source
unfolding words
source_set h source c four are_bytes c_fits updates =
    field_set h (with_source source c h) 12 source _ _ (omega arith) are_bytes refl (λ f. search (rules, f, c_fits, four))
    (λ f r. rw (spread h.source 4 f.source, spread source 4 four) (omega arith, omega arith, refl)) updates

abbrev pub with_destination : List ℕ → ℕ → Ipv4Header → Ipv4Header
with_destination destination checksum h = record h { destination = destination; header_checksum = checksum }

pub destination_set : (h : Ipv4Header) (destination : List ℕ) (c : ℕ) → length destination ≡ 4 → IsBytes destination → c < 2 ^ 16
    → UpdatesChecksum h.header_checksum (network_order_word_sum h.destination) (network_order_word_sum destination) c
    → KeepsChecksum h (with_destination destination c h) × ChangesInPlace h (with_destination destination c h) 16 destination
unfolding words
destination_set h destination c four are_bytes c_fits updates =
    field_set h (with_destination destination c h) 16 destination _ _ (omega arith) are_bytes refl (λ f. search (rules, f, c_fits, four))
    (λ f r. rw (spread h.source 4 f.source, spread h.destination 4 f.destination, spread destination 4 four) (omega arith, omega arith, refl)) updates
