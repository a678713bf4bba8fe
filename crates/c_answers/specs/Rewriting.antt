-- What C gets for an answer of `packet_rewriting`.
use Rattle.std.specs.Prelude.{ℕ, ◌≡◌, List}
use Rattle.etherparse.specs.IpEcn.{ecn_value}
use Rattle.etherparse.specs.declared.IpEcn.{IpEcn}
use Rattle.packet_parts.specs.declared.ip_slice.IpSliceError.TheVariants as ip
use Rattle.packet_rewriting.specs.Fields.{HasOtherEcn}
use Rattle.packet_rewriting.specs.declared.checksum.ChecksumError.{ChecksumError}
use Rattle.packet_rewriting.specs.declared.checksum.ChecksumError.TheVariants as checksum
use Rattle.packet_rewriting.specs.declared.fields.Reach.{Reach}
use Rattle.packet_rewriting.specs.declared.fields.Reach.TheVariants as reaching
use Rattle.packet_rewriting.specs.declared.fields.RewriteError.{RewriteError}
use Rattle.packet_rewriting.specs.declared.fields.RewriteError.TheVariants as rewrite

-- the number of the error of a checksum
abbrev pub checksum_kind : ChecksumError → ℕ
checksum_kind checksum.OtherProtocol = 10
checksum_kind checksum.Incomplete = 8
checksum_kind checksum.TooLong = 11

-- and of that of a packet
abbrev pub rewrite_kind : RewriteError → ℕ
rewrite_kind (rewrite.Ip (ip.Empty e)) = 1
rewrite_kind (rewrite.Ip (ip.UnexpectedVersion version)) = 2
rewrite_kind (rewrite.Ip (ip.Ipv4Header e)) = 3
rewrite_kind (rewrite.Ip (ip.Ipv6Header e)) = 4
rewrite_kind (rewrite.Ip (ip.Packet e)) = 5
rewrite_kind (rewrite.Ip (ip.Extensions e)) = 6
rewrite_kind rewrite.OtherVersion = 7
rewrite_kind rewrite.Incomplete = 8
rewrite_kind rewrite.LaterFragment = 9
rewrite_kind rewrite.OtherProtocol = 10

-- the number of a reach
abbrev pub reach_in_c : Reach → ℕ
reach_in_c reaching.Upper = 1
reach_in_c reaching.LaterFragment = 2
reach_in_c reaching.OtherProtocol = 3

-- an error applies, and the number is its own
pub record IsRefused {E : Type 0} (Refuses : E → Type 0) (kind_of : E → ℕ) (kind : ℕ)
    : Type 0 where
  pub error : E
  pub refuses : Refuses error
  pub number : kind ≡ kind_of error

-- the packet is changed with a reach, and the number is its own
pub record IsReach (Changes : Reach → Type 0) (number : ℕ) : Type 0 where
  pub reach : Reach
  pub changes : Changes reach
  pub is : number ≡ reach_in_c reach

-- the packet has the ECN of this value
pub record IsOtherEcn (value : ℕ) (before after : List ℕ) : Type 0 where
  pub ecn : IpEcn
  pub is : ecn_value ecn ≡ value
  pub other : HasOtherEcn ecn before after
