-- A checksum is found wrong in one way: then no other verdict is one on the same packet.
use Rattle.std.proofs.Common.{◌≡◌, ◌≢◌, ℕ, List, Option, Some, None, arith, refl, subst}
use Rattle.packet.specs.SlicedPacket.{IsVerdictOn}
use Rattle.packet.specs.declared.error.SliceError.{SliceError}
use Rattle.packet.specs.declared.error.SliceError.TheVariants as error
use Rattle.packet_parts.specs.Checksum.{Covers, IsVerdictIpv4, IsVerdictIpv6, IsVerdictBetween, IsVerdictOver, IsWithoutChecksum, IsRightIpv4, IsRightIpv6}
use Rattle.packet_parts.proofs.FinalDestinations.{goes_once_ipv6, goes_once_ipv4}
use Rattle.packet_parts.proofs.OriginalSources.{comes_once_ipv6}
use Rattle.packet_parts.specs.IpSlice.{destination_of, source_of}
use Rattle.packet_parts.specs.declared.checksum.Absence.TheVariants as absence
use Rattle.packet_parts.specs.declared.checksum.Verdict.{Verdict}
use Rattle.packet_parts.specs.declared.checksum.Verdict.TheVariants.{Right, Wrong, Absent}
use Rattle.packet_parts.specs.declared.fragment.Fragment.{Fragment}
use Rattle.packet_parts.specs.declared.ip_slice.IpHeaderSlice.{IpHeaderSlice}
use Rattle.packet_parts.specs.declared.ip_slice.IpHeaderSlice.TheVariants as header
use Rattle.packet_parts.specs.declared.ip_slice.IpSlice.{IpSlice}
use Rattle.std.specs.Prelude.{MatchOption, drop, slice_index}

covers_once : (icmp number : ℕ) (payload a b : List ℕ) → icmp ≢ 17 → icmp ≢ 6 → Covers icmp number payload a → Covers icmp number payload b → a ≡ b
covers_once icmp number payload a b u t x y = grind arith

not_absent : (icmp number : ℕ) (payload covered : List ℕ) → Covers icmp number payload covered → (number ≢ 17) × (number ≢ 6) × (number ≢ icmp) → ⊥
not_absent icmp number payload covered x n = grind arith

ipv4_wrong : (source destination : List ℕ) (protocol : ℕ) (payload : List ℕ) (v : Verdict) → IsVerdictIpv4 source destination protocol payload Wrong → IsVerdictIpv4 source destination protocol payload v → v ≡ Wrong
ipv4_wrong s d p payload Right (a, j, n) (b, k, r) =
    absurd (n (subst (IsRightIpv4 s d p) (covers_once 1 p payload b a (omega arith) (omega arith) k.covers j.covers) r))
ipv4_wrong s d p payload Wrong w v = refl
ipv4_wrong s d p payload (Absent absence.Fragment) w v = absurd v
ipv4_wrong s d p payload (Absent absence.UnknownDestination) w v = absurd v
ipv4_wrong s d p payload (Absent absence.OtherProtocol) (a, j, n) v = absurd (not_absent 1 p payload a j.covers v)
ipv4_wrong s d p payload (Absent absence.Incomplete) (a, j, n) v = absurd (v.1 a j.covers)
ipv4_wrong s d p payload (Absent absence.NotComputed) (a, j, n) (b, k, r) =
    absurd (j.there (subst (IsWithoutChecksum p) (covers_once 1 p payload b a (omega arith) (omega arith) k j.covers) r))

ipv6_wrong : (source destination : List ℕ) (number : ℕ) (payload : List ℕ) (v : Verdict) → IsVerdictIpv6 source destination number payload Wrong → IsVerdictIpv6 source destination number payload v → v ≡ Wrong
ipv6_wrong s d p payload Right (a, j, n) (b, k, r) =
    absurd (n (subst (IsRightIpv6 s d p) (covers_once 58 p payload b a (omega arith) (omega arith) k j) r))
ipv6_wrong s d p payload Wrong w v = refl
ipv6_wrong s d p payload (Absent absence.Fragment) w v = absurd v
ipv6_wrong s d p payload (Absent absence.UnknownDestination) w v = absurd v
ipv6_wrong s d p payload (Absent absence.OtherProtocol) (a, j, n) v = absurd (not_absent 58 p payload a j v)
ipv6_wrong s d p payload (Absent absence.Incomplete) (a, j, n) v = absurd (v.1 a j)
ipv6_wrong s d p payload (Absent absence.NotComputed) w v = absurd v

between_wrong : (source final : Option (List ℕ)) (number : ℕ) (payload : List ℕ) (v : Verdict) → IsVerdictBetween source final number payload Wrong → IsVerdictBetween source final number payload v → v ≡ Wrong
between_wrong None final number payload v w h = absurd w
between_wrong (Some source) None number payload v w h = absurd w
between_wrong (Some source) (Some destination) number payload v w h = ipv6_wrong source destination number payload v w h

over_wrong : (h : IpHeaderSlice) (extensions : List ℕ) (number : ℕ) (payload : List ℕ) (v : Verdict) → IsVerdictOver h extensions number payload Wrong → IsVerdictOver h extensions number payload v → v ≡ Wrong
over_wrong (header.Ipv4 view) extensions number payload v (a, goes, w) (b, other, h) =
    let same = goes_once_ipv4 (destination_of (header.Ipv4 view)) (drop 20 view.slice.now) a b goes other in
    ipv4_wrong (source_of (header.Ipv4 view)) a number payload v w (subst (λ d. IsVerdictIpv4 (source_of (header.Ipv4 view)) d number payload v) same h)
over_wrong (header.Ipv6 view) extensions number payload v (a, b, comes, goes, w) (c, d, others, other, h) =
    let source = comes_once_ipv6 (source_of (header.Ipv6 view)) (slice_index view.slice.now 6) extensions c a others comes in
    let destination = goes_once_ipv6 (destination_of (header.Ipv6 view)) (slice_index view.slice.now 6) extensions d b other goes in
    between_wrong a b number payload v w (subst (λ x. IsVerdictBetween x b number payload v) source (subst (λ y. IsVerdictBetween c y number payload v) destination h))

slice_wrong : (ip : IpSlice) (fragment : Option Fragment) (v : Verdict) → MatchOption fragment (IsVerdictOver ip.header ip.extensions.now ip.upper ip.payload.now Wrong) (λ f. Wrong ≡ Absent absence.Fragment) → MatchOption fragment (IsVerdictOver ip.header ip.extensions.now ip.upper ip.payload.now v) (λ f. v ≡ Absent absence.Fragment) → v ≡ Wrong
slice_wrong ip None v w h = over_wrong ip.header ip.extensions.now ip.upper ip.payload.now v w h
slice_wrong ip (Some f) v w h = cc

pub only_wrong : (net : Option IpSlice) (stop : Option SliceError) (v : Verdict) → IsVerdictOn net stop (Some Wrong) → IsVerdictOn net stop (Some v) → v ≡ Wrong
only_wrong None stop v w h = cc
only_wrong (Some ip) (Some (error.Ip e)) v w h = cc
only_wrong (Some ip) stop v w h = slice_wrong ip ip.fragment v w h
