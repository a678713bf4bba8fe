-- The header chain of an IPv6 packet, all of which its first fragment has (RFC 7112).
use Rattle.std.specs.Prelude.{ℕ, ◌*◌, ◌/◌, ◌%◌, ◌^◌, ◌<◌, ◌≤◌, ◌==◌, ◌⊎◌, List, Option, None, Some}
use Rattle.std.specs.Prelude.{if◌then◌else◌, false, length, nat_lt, slice_index, true}
use Rattle.etherparse.specs.declared.err.LenError.{LenError}
use Rattle.packet_parts.specs.Extensions.{EndsAs}
use Rattle.etherparse_net.specs.declared.ipv6_fragment_header.Ipv6FragmentHeader.{
  Ipv6FragmentHeader,
}

-- How many bytes the upper-layer header of a number has at least, of those that RFC 8200 section
-- 4.5 names: 20 of TCP, or as many words of four bytes as its data offset says (RFC 9293 section
-- 3.1); 20 of IPv4, or as many as its IHL says (RFC 791 section 3.1); 8 of UDP (RFC 768); 40 of
-- IPv6 (RFC 8200 section 3); the 8 of ESP before its payload (RFC 4303 section 2); 4 of ICMPv6 (RFC
-- 4443 section 2.1). Nothing is asked of others.
abbrev pub upper_header_len : ℕ → List ℕ → ℕ
upper_header_len number bytes =
    if number == 6 then (if nat_lt (length bytes) 20 then 20 else slice_index bytes 12 / 2 ^ 4 * 4)
    else (if number == 4 then (if nat_lt (length bytes) 20 then 20
    else slice_index bytes 0 % 2 ^ 4 * 4)
    else (if number == 17 then 8
    else (if number == 41 then 40
    else (if number == 50 then 8
    else (if number == 58 then 4 else 0)))))

-- the payload of a first fragment, which has this number, has the rest of the header chain: whole
-- extension headers and the upper-layer header
pub record HasWholeChain (number : ℕ) (payload : List ℕ) : Type 0 where
  pub decided : Option Ipv6FragmentHeader
  pub upper : ℕ
  pub rest : List ℕ
  pub ends : EndsAs false None payload number decided upper rest
  pub enough : upper_header_len upper rest ≤ length rest

-- it ends within an extension header
pub record EndsInExtension (number : ℕ) (payload : List ℕ) : Type 0 where
  pub decided : Option Ipv6FragmentHeader
  pub upper : ℕ
  pub rest : List ℕ
  pub e : LenError
  pub ends : EndsAs false (Some e) payload number decided upper rest

-- it ends within the upper-layer header
pub record EndsInUpperHeader (number : ℕ) (payload : List ℕ) : Type 0 where
  pub decided : Option Ipv6FragmentHeader
  pub upper : ℕ
  pub rest : List ℕ
  pub ends : EndsAs false None payload number decided upper rest
  pub short : length rest < upper_header_len upper rest

-- it holds another fragment header, of a fragment that is not the first: a chain goes no further
pub record EndsInOtherFragment (number : ℕ) (payload : List ℕ) : Type 0 where
  pub decided : Option Ipv6FragmentHeader
  pub upper : ℕ
  pub rest : List ℕ
  pub ends : EndsAs true None payload number decided upper rest

-- it lacks a part of the chain
abbrev pub LacksChain : ℕ → List ℕ → Type 0
LacksChain number payload = EndsInExtension number payload
    ⊎ EndsInUpperHeader number payload ⊎ EndsInOtherFragment number payload
