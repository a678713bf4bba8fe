-- The bytes after the header of a message and after its checksum, and those of echo messages.
use Rattle.std.proofs.Common.{ℕ, ◌≡◌, ◌+◌, List, [], ◌∷◌, ◌++◌, length, length-drop, drop, sym, take}
use Rattle.std.proofs.Common.{slice_index, arith, rules, take-append-drop, w16}
use Rattle.std.specs.Int.{from_be_bytes, to_be_bytes}
use Rattle.std.specs.List.{slice_range}
use Rattle.std.proofs.lemmas.Grind.{common_steps}
use Rattle.std.proofs.lemmas.List.{get_or-drop}
use Rattle.std.proofs.lemmas.List.FromFn.{fill_by_all}
use Rattle.etherparse.proofs.Layouts.{told, u16}
use Rattle.etherparse.specs.Bytes.{IsBytes}
use Rattle.etherparse.specs.Reading.{BeginsWith}
use Rattle.etherparse_icmp.specs.IcmpEcho.{HasEcho}
use Rattle.etherparse_icmp.specs.declared.icmp_echo_header.IcmpEchoHeader.{IcmpEchoHeader}

-- a header of the first bytes is at the front of a message, and the bytes after it follow
pub begins_with : {H : Type 0} (Layout : H → List ℕ → Type 0) (n : ℕ) (header : H) (s : List ℕ)
    → Layout header (take n s) → BeginsWith Layout s header (drop n s)
begins_with Layout n header s layout =
    record { front = take n s; whole = sym (take-append-drop n s); layout = layout }

pub drop_is_bytes : (n : ℕ) (p : List ℕ) → IsBytes p → IsBytes (drop n p)
drop_is_bytes n p bytes i = rw (get_or-drop n p i 0) (bytes (n + i))

-- the 4 bytes after the checksum, one by one
pub rest_at : (p : List ℕ) → length p ≡ 8 → drop 4 p ≡ slice_index p 4 ∷ slice_index p 5
    ∷ slice_index p 6 ∷ slice_index p 7 ∷ []
rest_at p e =
    fill_by_all (λ i. slice_index p (4 + i)) (drop 4 p) 4 0 (omega (arith, length-drop 4 p, e))
    (λ k below. grind (arith, common_steps))

-- an echo header by its bytes, and its bytes
abbrev pub echo_of : List ℕ → IcmpEchoHeader
echo_of rest =
    record {
      id = from_be_bytes w16 (slice_range rest 0 2);
      seq =
          from_be_bytes w16 (slice_range rest 2 4);
    }

pub echo_told : (echo : IcmpEchoHeader) (rest : List ℕ) → HasEcho echo rest → echo_of rest ≡ echo
echo_told echo rest h = search (rules, h)

pub echo_spelled : (echo : IcmpEchoHeader) (rest : List ℕ) → length rest ≡ 4 → IsBytes rest
    → HasEcho echo rest → rest ≡ to_be_bytes w16 echo.id ++ to_be_bytes w16 echo.seq
echo_spelled echo rest len bytes h =
    told rest 0 (u16 echo.id ∷ u16 echo.seq ∷ []) [] bytes (omega (arith, len))
    (h.id, (h.seq, grind (arith, common_steps, len)))
