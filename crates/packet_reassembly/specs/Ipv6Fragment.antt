-- An IPv6 packet that is a fragment, in its parts (RFC 8200 section 4.5).
use Rattle.std.specs.Prelude.{ℕ, ◌≡◌, ◌++◌, List, None, Some, false, IsTrue}
use Rattle.etherparse.specs.ExtensionHeaders.{IsSkippable}
use Rattle.etherparse.specs.Reading.{BeginsWith}
use Rattle.etherparse.specs.declared.err.LenError.{LenError}
use Rattle.packet_parts.specs.Extensions.{EndsAs, Passes}
use Rattle.etherparse_net.specs.Ipv6FragmentHeader.{IsFragmentLayout, is_part}
use Rattle.packet_reassembly.specs.Packet.{AreUnfragmentable}
use Rattle.packet_reassembly.specs.declared.ipv6_fragment.Ipv6FragmentParts.{Ipv6FragmentParts}

-- What follows an IPv6 header that names this number is extension headers, a fragment header and a
-- payload. The fragment header is the first that is not atomic (RFC 6946).
pub record AreFragmentParts (body : List ℕ) (first : ℕ) (parts : Ipv6FragmentParts) : Type 0 where
  pub at : List ℕ
  pub whole : body ≡ parts.before.now ++ (parts.last.now ++ at)
  pub headers : AreUnfragmentable first parts.before.now parts.last.now
  pub passes : Passes body first None 44 at
  pub begins : BeginsWith IsFragmentLayout at parts.fragment parts.payload.now
  pub is_part : IsTrue (is_part parts.fragment)

-- it has no fragment header that is not atomic
pub record HasNoFragment (body : List ℕ) (first : ℕ) : Type 0 where
  pub number : ℕ
  pub rest : List ℕ
  pub passes : Passes body first None number rest
  pub upper : ¬ IsSkippable number

-- it ends within an extension header, with no such fragment header before it
pub record EndsBefore (body : List ℕ) (first : ℕ) (e : LenError) : Type 0 where
  pub number : ℕ
  pub rest : List ℕ
  pub ends : EndsAs false (Some e) body first None number rest
