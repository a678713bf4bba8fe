-- The layout of a header of ICMP: bytes have one header, and a header has one list of bytes.
use Rattle.std.proofs.Common.{take-append-drop, drop_of_length-le, ℕ, ◌≡◌, ◌+◌, ◌≤◌, ◌<◌, ◌==◌, ◌%◌}
use Rattle.std.proofs.Common.{◌⊎◌, List, [], ◌∷◌, ◌++◌, length, length-append, length-drop, drop}
use Rattle.std.proofs.Common.{take, slice_index, if◌then◌else◌, inl, inr, ap, arith, refl, rules}
use Rattle.std.proofs.Common.{sym, subst, ◌∙◌, w16, w32}
use Rattle.std.specs.Int.{from_be_bytes, to_be_bytes}
use Rattle.std.proofs.Math.ListN.{get_or-append}
use Rattle.std.specs.List.{slice_range}
use Rattle.std.proofs.lemmas.Grind.{common_steps}
use Rattle.std.proofs.lemmas.Nat.{from_be_bytes-to_be_bytes_2}
use Rattle.etherparse.proofs.Fronts.{TellsHeaders}
use Rattle.etherparse.proofs.Layouts.{from_be_bytes-lt, told, u16, u32, u8}
use Rattle.etherparse.proofs.Parts.{same_append}
use Rattle.etherparse.specs.Bytes.{IsBytes}
use Rattle.etherparse.specs.Reading.{BeginsWith}
use Rattle.etherparse.specs.WordSums.{little_endian_word_sum}
use Rattle.etherparse.specs.declared.err.LenError.{LenError}
use Rattle.etherparse_icmp.proofs.Checksums.{HasWords}
use Rattle.etherparse_icmp.proofs.Icmpv4Codes.{exceeded_code, exceeded_told, problem_code}
use Rattle.etherparse_icmp.proofs.Icmpv4Codes.{problem_rest, problem_rest_is, problem_told}
use Rattle.etherparse_icmp.proofs.Icmpv4Codes.{redirect_code, redirect_told}
use Rattle.etherparse_icmp.proofs.Icmpv4Codes.{unreachable_code, unreachable_rest}
use Rattle.etherparse_icmp.proofs.Icmpv4Codes.{unreachable_rest_is, unreachable_told}
use Rattle.etherparse_icmp.proofs.Rests.{drop_is_bytes, echo_of, echo_spelled, echo_told}
use Rattle.etherparse_icmp.specs.IcmpTimestamps.{HasTimestamps}
use Rattle.etherparse_icmp.specs.Icmpv4.{HasIcmpv4Bytes, HasIcmpv4Name, HasIcmpv4Rest}
use Rattle.etherparse_icmp.specs.Icmpv4.{IsIcmpv4Layout, IsIcmpv4AsRead, IsIcmpv4Written}
use Rattle.etherparse_icmp.specs.Icmpv4.{RefusesIcmpv4, SaysIcmpv4}
use Rattle.etherparse_icmp.specs.Icmpv4.{icmpv4_cleared, icmpv4_code_number, icmpv4_len, icmpv4_len_of}
use Rattle.etherparse_icmp.specs.Icmpv4.{icmpv4_type_number}
use Rattle.etherparse_icmp.specs.declared.icmpv4.timestamp_message.TimestampMessage.{TimestampMessage}
use Rattle.etherparse_icmp.specs.declared.icmpv4_header.Icmpv4Header.{Icmpv4Header}
use Rattle.etherparse_icmp.specs.declared.icmpv4_type.Icmpv4Type.{Icmpv4Type}
use Rattle.etherparse_icmp.specs.declared.icmpv4_type.Icmpv4Type.TheVariants as icmp

-- a timestamp message by its bytes, and its bytes
abbrev timestamps_of : List ℕ → TimestampMessage
timestamps_of rest = record {
  id = from_be_bytes w16 (slice_range rest 0 2);
  seq = from_be_bytes w16 (slice_range rest 2 4);
  originate_timestamp = from_be_bytes w32 (slice_range rest 4 8);
  receive_timestamp = from_be_bytes w32 (slice_range rest 8 12);
  transmit_timestamp = from_be_bytes w32 (slice_range rest 12 16);
}

timestamps_told : (message : TimestampMessage) (rest : List ℕ) → HasTimestamps message rest
    → timestamps_of rest ≡ message
timestamps_told message rest h = search (rules, h)

abbrev timestamps_rest : TimestampMessage → List ℕ
timestamps_rest m =
    to_be_bytes w16 m.id ++
    (to_be_bytes w16 m.seq ++
    (to_be_bytes w32 m.originate_timestamp ++
    (to_be_bytes w32 m.receive_timestamp ++ to_be_bytes w32 m.transmit_timestamp)))

timestamps_spelled : (m : TimestampMessage) (rest : List ℕ) → length rest ≡ 16 → IsBytes rest
    → HasTimestamps m rest → rest ≡ timestamps_rest m
timestamps_spelled m rest len bytes h =
    told rest 0 (u16 m.id ∷ u16 m.seq ∷ u32 m.originate_timestamp ∷ u32 m.receive_timestamp
    ∷ u32 m.transmit_timestamp ∷ []) [] bytes (omega (arith, len)) (
      h.id,
      (
        h.seq,
        (
          h.originate,
          (h.receive, (h.transmit, drop_of_length-le rest {i = 16} (omega (arith, len)))),
        ),
      ),
    )

-- a type that has a name, by its numbers and the bytes after the checksum
abbrev type_of : ℕ → ℕ → List ℕ → Icmpv4Type
type_of n code rest = if n == 0 then icmp.EchoReply (echo_of rest)
    else if n == 3 then icmp.DestinationUnreachable
    (unreachable_code code (from_be_bytes w16 (slice_range rest 2 4)))
    else if n == 5 then icmp.Redirect
    (record { code = redirect_code code; gateway_internet_address = rest })
    else if n == 8 then icmp.EchoRequest (echo_of rest)
    else if n == 11 then icmp.TimeExceeded (exceeded_code code)
    else if n == 12 then icmp.ParameterProblem (problem_code code (slice_index rest 0))
    else if n == 13 then icmp.TimestampRequest (timestamps_of rest)
    else icmp.TimestampReply (timestamps_of rest)

-- a type has a name and is told by its numbers, or it is unknown
told_by_numbers : (t : Icmpv4Type) (rest : List ℕ) → HasIcmpv4Rest t rest
    → (HasIcmpv4Name t × (type_of (icmpv4_type_number t) (icmpv4_code_number t) rest ≡ t))
    ⊎ (icmp.Unknown (icmpv4_type_number t) (icmpv4_code_number t) rest ≡ t)
told_by_numbers (icmp.Unknown n code bytes) rest h = inr (ap (icmp.Unknown n code) h)
told_by_numbers (icmp.EchoReply echo) rest h = inl (tt, ap icmp.EchoReply (echo_told echo rest h))
told_by_numbers (icmp.DestinationUnreachable header) rest h =
    inl (tt, ap icmp.DestinationUnreachable (unreachable_told header _ h))
told_by_numbers (icmp.Redirect header) rest h =
    inl (tt, ap icmp.Redirect (search (rules, h, redirect_told header.code)))
told_by_numbers (icmp.EchoRequest echo) rest h =
    inl (tt, ap icmp.EchoRequest (echo_told echo rest h))
told_by_numbers (icmp.TimeExceeded code) rest h =
    inl (tt, ap icmp.TimeExceeded (exceeded_told code))
told_by_numbers (icmp.ParameterProblem header) rest h =
    inl (tt, ap icmp.ParameterProblem (problem_told header _ h))
told_by_numbers (icmp.TimestampRequest message) rest h =
    inl (tt, ap icmp.TimestampRequest (timestamps_told message rest h))
told_by_numbers (icmp.TimestampReply message) rest h =
    inl (tt, ap icmp.TimestampReply (timestamps_told message rest h))

-- an unknown type does not have the numbers of one that has a name
not_unknown : (n code : ℕ) (rest : List ℕ) (t named : Icmpv4Type) → icmp.Unknown n code rest ≡ t
    → IsIcmpv4AsRead t → HasIcmpv4Name named → SaysIcmpv4 n code rest named → ⊥
not_unknown n code rest t named e told name says =
    (subst IsIcmpv4AsRead (sym e) told) named name says.type_is says.code_is

-- numbers and bytes are of one type
same_type : (n code : ℕ) (rest : List ℕ) (g h : Icmpv4Type) → SaysIcmpv4 n code rest g
    → SaysIcmpv4 n code rest h → IsIcmpv4AsRead g → IsIcmpv4AsRead h → g ≡ h
same_type n code rest g h k l g_told h_told =
    which (rw (k.type_is, k.code_is) at (told_by_numbers g rest k.rest_is))
    (rw (l.type_is, l.code_is) at (told_by_numbers h rest l.rest_is)) where
      which : (HasIcmpv4Name g × (type_of n code rest ≡ g)) ⊎ (icmp.Unknown n code rest ≡ g)
          → (HasIcmpv4Name h × (type_of n code rest ≡ h)) ⊎ (icmp.Unknown n code rest ≡ h) → g ≡ h
      which (inl a) (inl b) = sym a.1 ∙ b.1
      which (inl a) (inr b) = absurd (not_unknown n code rest h g b h_told a.0 k)
      which (inr a) (inl b) = absurd (not_unknown n code rest g h a g_told b.0 l)
      which (inr a) (inr b) = sym a ∙ b

same_header : (g h : Icmpv4Header) (p : List ℕ) → IsIcmpv4Layout g p → IsIcmpv4Layout h p → g ≡ h
same_header g h p k l =
    let icmp_type =
    same_type _ _ _ g.icmp_type h.icmp_type k.layout.says l.layout.says k.as_read l.as_read in
    let checksum = sym k.layout.checksum_is ∙ l.layout.checksum_is in
    search (rules, icmp_type, checksum)

no_times : TimestampMessage
no_times = record {
  id = 0;
  seq = 0;
  originate_timestamp = 0;
  receive_timestamp =
      0;
  transmit_timestamp = 0;
}

unnamed_len : (n code : ℕ) → (n ≡ 13 → code ≡ 0 → ⊥) → (n ≡ 14 → code ≡ 0 → ⊥) → icmpv4_len_of n code ≡ 8
unnamed_len n code request reply = grind (arith, common_steps)

len_told : (t : Icmpv4Type) → IsIcmpv4AsRead t
    → icmpv4_len_of (icmpv4_type_number t) (icmpv4_code_number t) ≡ icmpv4_len t
len_told (icmp.Unknown n code bytes) told =
    unnamed_len n code (λ a b. told (icmp.TimestampRequest no_times) tt (sym a) (sym b))
    (λ a b. told (icmp.TimestampReply no_times) tt (sym a) (sym b))
len_told t told = grind (arith, common_steps)

len_at_least : (t : Icmpv4Type) → 8 ≤ icmpv4_len t
len_at_least t = grind (arith, common_steps)

-- the front of a slice has its first bytes, and is as long as they tell
record HasFrontLen (s front : List ℕ) : Type 0 where
  len : length front ≡ icmpv4_len_of (slice_index s 0) (slice_index s 1)
  enough : 8 ≤ length front
  within : length front ≤ length s

front_len : (s : List ℕ) (h : Icmpv4Header) (x : List ℕ) (b : BeginsWith IsIcmpv4Layout s h x)
    → HasFrontLen s b.front
front_len s h x b =
    let l = b.layout.layout in
    let enough : 8 ≤ length b.front = omega (arith, l.len, len_at_least h.icmp_type) in
    let first : slice_index s 0 ≡ slice_index b.front 0 =
    rw b.whole (get_or-append b.front x 0 0 (omega (arith, enough))) in
    let second : slice_index s 1 ≡ slice_index b.front 1 =
    rw b.whole (get_or-append b.front x 0 1 (omega (arith, enough))) in
    let told : icmpv4_len_of (slice_index b.front 0) (slice_index b.front 1) ≡ icmpv4_len h.icmp_type =
    rw (l.says.type_is, l.says.code_is) at (len_told h.icmp_type b.layout.as_read) in
    record {
      len = l.len ∙ sym told ∙ rw (first, second) refl;
      enough = enough;
      within = omega (arith, ap length b.whole, length-append b.front x);
    }

not_refused : (s : List ℕ) (h : Icmpv4Header) (x : List ℕ) (e : LenError)
    → BeginsWith IsIcmpv4Layout s h x → RefusesIcmpv4 s e → ⊥
not_refused s h x e b r = let f = front_len s h x b in grind (arith, f, r)

one_refusal : (s : List ℕ) (e f : LenError) → RefusesIcmpv4 s e → RefusesIcmpv4 s f → e ≡ f
one_refusal s e f p q = grind (arith, p, q)

pub tells_headers : TellsHeaders IsIcmpv4Layout RefusesIcmpv4
tells_headers = record {
  one_header = same_header;
  one_length = λ s g h x y p q. let f = front_len s g x p in let k = front_len s h y q in f.len
      ∙ sym k.len;
  not_refused = not_refused;
  one_refusal = one_refusal;
}

-- the bytes after the checksum of a type, those that are not used 0
abbrev rest_of : Icmpv4Type → List ℕ
rest_of (icmp.Unknown n code bytes) = bytes
rest_of (icmp.EchoReply echo) = to_be_bytes w16 echo.id ++ to_be_bytes w16 echo.seq
rest_of (icmp.DestinationUnreachable header) = unreachable_rest header
rest_of (icmp.Redirect header) = header.gateway_internet_address
rest_of (icmp.EchoRequest echo) = to_be_bytes w16 echo.id ++ to_be_bytes w16 echo.seq
rest_of (icmp.TimeExceeded code) = 0 ∷ 0 ∷ 0 ∷ 0 ∷ []
rest_of (icmp.ParameterProblem header) = problem_rest header
rest_of (icmp.TimestampRequest message) = timestamps_rest message
rest_of (icmp.TimestampReply message) = timestamps_rest message

cleared_spelled : (t : Icmpv4Type) (rest : List ℕ) → 4 + length rest ≡ icmpv4_len t → IsBytes rest
    → HasIcmpv4Rest t rest → icmpv4_cleared t rest ≡ rest_of t
cleared_spelled (icmp.Unknown n code b) rest len bytes h = h
cleared_spelled (icmp.EchoReply echo) rest len bytes h =
    echo_spelled echo rest (omega (arith, len)) bytes h
cleared_spelled (icmp.DestinationUnreachable header) rest len bytes h =
    unreachable_rest_is header rest (omega (arith, len)) bytes h
cleared_spelled (icmp.Redirect header) rest len bytes h = h
cleared_spelled (icmp.EchoRequest echo) rest len bytes h =
    echo_spelled echo rest (omega (arith, len)) bytes h
cleared_spelled (icmp.TimeExceeded code) rest len bytes h = refl
cleared_spelled (icmp.ParameterProblem header) rest len bytes h = problem_rest_is header rest h
cleared_spelled (icmp.TimestampRequest message) rest len bytes h =
    timestamps_spelled message rest (omega (arith, len)) bytes h
cleared_spelled (icmp.TimestampReply message) rest len bytes h =
    timestamps_spelled message rest (omega (arith, len)) bytes h

abbrev spelling : Icmpv4Type → ℕ → List ℕ
spelling t checksum = icmpv4_type_number t ∷ icmpv4_code_number t
    ∷ (to_be_bytes w16 checksum ++ rest_of t)

-- the bytes before the first that are of the type
front_spelled : (t : Icmpv4Type) (checksum : ℕ) (p : List ℕ) → HasIcmpv4Bytes t checksum p
    → p ≡ icmpv4_type_number t ∷ icmpv4_code_number t ∷ (to_be_bytes w16 checksum ++ drop 4 p)
front_spelled t checksum p l =
    let enough = len_at_least t in
    told p 0 (u8 (icmpv4_type_number t) ∷ u8 (icmpv4_code_number t) ∷ u16 checksum ∷ [])
    (drop 4 p) l.are_bytes (omega (arith, enough, l.len))
    (sym l.says.type_is, (sym l.says.code_is, (l.checksum_is, refl)))

rest_spelled : (t : Icmpv4Type) (checksum : ℕ) (p : List ℕ) → HasIcmpv4Bytes t checksum p
    → icmpv4_cleared t (drop 4 p) ≡ rest_of t
rest_spelled t checksum p l =
    let enough = len_at_least t in
    cleared_spelled t (drop 4 p) (omega (arith, enough, length-drop 4 p, l.len))
    (drop_is_bytes 4 p l.are_bytes) l.says.rest_is

-- bytes with those not used cleared
pub cleared : (t : Icmpv4Type) (checksum : ℕ) (p : List ℕ) → HasIcmpv4Bytes t checksum p
    → take 4 p ++ icmpv4_cleared t (drop 4 p) ≡ spelling t checksum
cleared t checksum p l =
    same_append (ap (take 4) (front_spelled t checksum p l)) (rest_spelled t checksum p l)

pub spelled : (t : Icmpv4Type) (checksum : ℕ) (p : List ℕ) → IsIcmpv4Written t checksum p
    → p ≡ spelling t checksum
spelled t checksum p w = sym (take-append-drop 4 p) ∙ ap (λ rest. take 4 p ++ rest) w.unused
    ∙ cleared t checksum p w.layout

-- type, code and checksum before the bytes of the type
pub written_joined : (t : Icmpv4Type) (checksum : ℕ) (rest p : List ℕ) → p ≡ icmpv4_type_number t
    ∷ icmpv4_code_number t ∷ (to_be_bytes w16 checksum ++ rest)
    → IsBytes p → checksum < 65536 → 4 + length rest ≡ icmpv4_len t → HasIcmpv4Rest t rest
    → rest ≡ icmpv4_cleared t rest → IsIcmpv4Written t checksum p
written_joined t checksum rest p e are_bytes fits len says unused =
    subst (IsIcmpv4Written t checksum) (sym e) (record {
      layout = record {
        len = omega (arith, len);
        are_bytes = subst IsBytes e are_bytes;
        says = record { type_is = refl; code_is = refl; rest_is = says };
        checksum_is = from_be_bytes-to_be_bytes_2 checksum fits;
      };
      unused = unused;
    })

len_even : (t : Icmpv4Type) → icmpv4_len t % 2 ≡ 0
len_even t = grind (arith, common_steps)

pub has_words : (t : Icmpv4Type) (zeroed p : List ℕ) (n : ℕ) → IsIcmpv4Written t 0 zeroed
    → IsIcmpv4Written t n p → HasWords (little_endian_word_sum zeroed) n p
has_words t zeroed p n k l = record {
  fits = rw (sym l.layout.checksum_is) (from_be_bytes-lt p 2 4 l.layout.are_bytes);
  even = omega (arith, l.layout.len, len_even t);
  words = rw (spelled t 0 zeroed k, spelled t n p l) (omega arith);
}
