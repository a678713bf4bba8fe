-- What the program prints.
use Rattle.std.specs.Prelude.{ℕ, ◌≡◌, ◌≤◌, ◌⊎◌, ◌==◌, ◌+◌, ◌-◌, Bool, List, [], ◌∷◌, ◌++◌, length}
use Rattle.std.specs.Prelude.{codes, drop, slice_index, take}
use Rattle.std.specs.Prelude.{if◌then◌else◌, MatchBool, Option, Result, Ok, Err}
use Rattle.std.specs.Io.KnownBytes.{Appends}
use Rattle.std.specs.Fmt.{decimal}
use Rattle.std.specs.Int.{to_be_bytes, w16}
use Rattle.hex.specs.Hex.{decode_of, encode_lower}
use Rattle.hex.specs.declared.error.FromHexError.{FromHexError}
use Rattle.etherparse.specs.ExtensionHeaderChain.{LimitedWalkAnswer, WalksUpTo}
use Rattle.etherparse.specs.FirstByte.{version_of}
use Rattle.etherparse.specs.HeaderChecksum.{header_checksum_of}
use Rattle.etherparse.specs.IpEcn.{ecn_value}
use Rattle.etherparse.specs.Ipv4Errors.{ipv4_header_slice_error_text}
use Rattle.etherparse.specs.Ipv4Header.{Ipv4Reading, ReadsIpv4, ipv4_header_len, ipv4_ihl}
use Rattle.etherparse.specs.Ipv4Header.{with_reserved_bit_cleared}
use Rattle.etherparse.specs.Ipv6Errors.{chain_error_moved, chain_error_text}
use Rattle.etherparse.specs.Ipv6Errors.{ipv6_header_slice_error_text}
use Rattle.etherparse.specs.Ipv6Header.{ReadsIpv6}
use Rattle.etherparse.specs.WordSums.{ones_complement_sum}
use Rattle.etherparse.specs.declared.err.ipv6.HeaderSliceError.{HeaderSliceError}
use Rattle.etherparse.specs.declared.net.ipv4_header.Ipv4Header.{Ipv4Header}
use Rattle.etherparse.specs.declared.net.ipv6_header.Ipv6Header.{Ipv6Header}
use Rattle.iphead.specs.Input.{digits_of, IsTooLong}
use Rattle.iphead.specs.declared.status.Status.{Status}
use Rattle.iphead.specs.declared.status.Status.TheVariants.{Done, Refused, BadInput}

-- a line of a name and a value
unfoldable pub line : List ℕ → List ℕ → List ℕ
line name value = name ++ (codes " " ++ (value ++ codes "\n"))

-- the one line of an input that is refused
abbrev pub error_line : List ℕ → List ℕ
error_line reason = line (codes "error:") reason

-- the fields of an IPv6 header: numbers in decimal, addresses in hex digits
abbrev pub ipv6_lines : Ipv6Header → List ℕ
ipv6_lines h =
    line (codes "version") (decimal 6) ++ (line (codes "traffic_class") (decimal h.traffic_class)
    ++ (line (codes "flow_label") (decimal h.flow_label)
    ++ (line (codes "payload_length") (decimal h.payload_length)
    ++ (line (codes "next_header") (decimal h.next_header)
    ++ (line (codes "hop_limit") (decimal h.hop_limit)
    ++ (line (codes "source") (encode_lower h.source)
    ++ line (codes "destination") (encode_lower h.destination)))))))

-- a flag in words
abbrev pub true_or_false : Bool → List ℕ
true_or_false flag = if flag then codes "true" else codes "false"

-- an IPv4 address: its four bytes in decimal, with dots between
abbrev pub dotted : List ℕ → List ℕ
dotted address = decimal (slice_index address 0) ++ (codes "." ++ (decimal (slice_index address 1)
    ++ (codes "." ++ (decimal (slice_index address 2)
    ++ (codes "." ++ decimal (slice_index address 3))))))

-- options in hex digits, or a dash if there are none
abbrev pub options_text : List ℕ → List ℕ
options_text [] = codes "-"
options_text (b ∷ bytes) = encode_lower (b ∷ bytes)

-- whether the fixed fields of a header and its options sum to all ones
abbrev pub good_or_bad : List ℕ → List ℕ
good_or_bad front = if ones_complement_sum (take 20 front ∷ drop 20 front ∷ []) == 65535
    then codes "good" else codes "bad"

-- the fields of an IPv4 header before its options
abbrev pub fixed_lines : Ipv4Header → List ℕ
fixed_lines h =
    line (codes "version") (decimal 4) ++ (line (codes "ihl") (decimal (ipv4_ihl h))
    ++ (line (codes "dscp") (decimal h.dscp) ++ (line (codes "ecn") (decimal (ecn_value h.ecn))
    ++ (line (codes "total_len") (decimal h.total_len)
    ++ (line (codes "identification") (decimal h.identification)
    ++ (line (codes "dont_fragment") (true_or_false h.dont_fragment)
    ++ (line (codes "more_fragments") (true_or_false h.more_fragments)
    ++ (line (codes "fragment_offset") (decimal h.fragment_offset)
    ++ (line (codes "time_to_live") (decimal h.time_to_live)
    ++ (line (codes "protocol") (decimal h.protocol)
    ++ (line (codes "header_checksum") (encode_lower (to_be_bytes w16 h.header_checksum))
    ++ (line (codes "source") (dotted h.source)
    ++ line (codes "destination") (dotted h.destination)))))))))))))

-- The fields of an IPv4 header; the checksum that it should have, and whether the bytes that were
-- read, with the reserved bit, sum to all ones; the number of bytes after it.
abbrev pub ipv4_lines : Ipv4Header → List ℕ → ℕ → List ℕ
ipv4_lines h front rest_len =
    fixed_lines h ++ (line (codes "options") (options_text h.options) ++ (line (codes "computed")
    (encode_lower (to_be_bytes w16 (header_checksum_of (with_reserved_bit_cleared front))))
    ++ (line (codes "sum") (good_or_bad front) ++ line (codes "rest") (decimal rest_len))))

-- the status of a run, and all that it prints
abbrev pub Outcome : Type 0
Outcome = Status × List ℕ

-- after an IPv6 header: the number of the upper layer, where its bytes start, how many they are
abbrev pub upper_layer_lines : ℕ → ℕ → ℕ → List ℕ
upper_layer_lines number place rest_len = line (codes "upper") (decimal number)
    ++ (line (codes "place") (decimal place) ++ line (codes "rest") (decimal rest_len))

-- the greatest number of extension headers that the walk goes past
abbrev pub max_extension_headers : ℕ
max_extension_headers = 32

-- the outcome of the walk over the bytes after an IPv6 header; places count from the header's start
abbrev pub walk_outcome : ℕ → LimitedWalkAnswer → Outcome
walk_outcome len (Ok x) = (Done, upper_layer_lines x.0 (40 + (len - length x.1)) (length x.1))
walk_outcome len (Err e) = (Refused, error_line (chain_error_text (chain_error_moved 0 40 e)))

-- an IPv6 header, what follows it, and the answer of the walk over that; or why there is no header
abbrev pub Ipv6Packet : Type 0
Ipv6Packet = Result (Ipv6Header × List ℕ × LimitedWalkAnswer) HeaderSliceError

-- reading an IPv6 packet and walking on
abbrev pub ReadsIpv6Packet : List ℕ → Ipv6Packet → Type 0
ReadsIpv6Packet packet (Ok x) = ReadsIpv6 packet (Ok (x.0, x.1))
    × WalksUpTo max_extension_headers x.1 x.0.next_header x.2
ReadsIpv6Packet packet (Err e) = ReadsIpv6 packet (Err e)

-- the outcome for an IPv6 packet: the fields of its header, and after them that of the walk
abbrev pub ipv6_outcome : Ipv6Packet → Outcome
ipv6_outcome (Ok x) =
    let walked = walk_outcome (length x.1) x.2 in (walked.0, ipv6_lines x.0 ++ walked.1)
ipv6_outcome (Err e) = (Refused, error_line (ipv6_header_slice_error_text e))

-- the outcome for an IPv4 packet, from the bytes that were read and their reading
abbrev pub ipv4_outcome : List ℕ → Ipv4Reading → Outcome
ipv4_outcome bytes (Ok x) = (Done, ipv4_lines x.0 (take (ipv4_header_len x.0) bytes) (length x.1))
ipv4_outcome bytes (Err e) = (Refused, error_line (ipv4_header_slice_error_text e))

-- the outcome is that of a reading that the bytes have; there is exactly one reading
pub record Reports {R : Type 0} (Reads : R → Type 0) (outcome_of : R → Outcome) (outcome : Outcome)
    : Type 0 where
  pub reading : R
  pub reads : Reads reading
  pub outcome_of_it : outcome ≡ outcome_of reading

-- bytes are read as IPv6 if their version is 6; otherwise, and if there are none, as IPv4
abbrev pub ReportsBytes : Result (List ℕ) FromHexError → Outcome → Type 0
ReportsBytes (Ok bytes) outcome = MatchBool (version_of bytes == 6)
    (Reports (ReadsIpv6Packet bytes) ipv6_outcome outcome)
    (Reports (ReadsIpv4 bytes) (ipv4_outcome bytes) outcome)
ReportsBytes (Err e) outcome = outcome ≡ (BadInput, error_line (codes "input is not hex"))

-- the outcome for an input
pub record IsOutput (input : List ℕ) (outcome : Outcome) : Type 0 where
  pub too_long : IsTooLong input → outcome ≡ (BadInput, error_line (codes "input is too long"))
  pub short : ¬ IsTooLong input → ReportsBytes (decode_of (digits_of input)) outcome

-- what the writer holds is what it held before, and after that the text of such an outcome
pub record Writes (P : Outcome → Type 0) (status : Status) (old new : Option (List ℕ))
    : Type 0 where
  pub text : List ℕ
  pub outcome : P (status, text)
  pub appended : Appends old new text

-- the writer gets the text of such an outcome, or a front of it if a write has failed
pub record WritesFront (P : Outcome → Type 0) (status : Status) (write_failed : Type 0)
    (old new : Option (List ℕ)) : Type 0 where
  pub outcome : Outcome
  pub is_outcome : P outcome
  pub len : ℕ
  pub appended : Appends old new (take len outcome.1)
  pub cause : write_failed ⊎ ((status ≡ outcome.0) × (length outcome.1 ≤ len))
