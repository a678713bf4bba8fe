use Rattle.std.proofs.Common.{ℕ, ◌≤◌, List, ap, arith, length, length-append, length-set}
use Rattle.etherparse.specs.Ipv4Header.{IsIpv4Layout}
use Rattle.etherparse.specs.Reading.{BeginsWith}
use Rattle.etherparse.specs.declared.net.ipv4_header.Ipv4Header.{Ipv4Header}
use Rattle.uses.proofs.forward.ipv4_forward_in_place.Goals as goal

-- a packet is as long as the shortest header
long : {packet rest : List ℕ} {h : Ipv4Header} → BeginsWith IsIpv4Layout packet h rest → 20 ≤ length packet
long {rest = rest} b = omega (arith, ap length b.whole, length-append b.front rest, b.layout.layout.len)

pub bounds-packet-8 : goal.bounds-packet-8
bounds-packet-8 c = omega (arith, long c.in_ok-header.ensures.reads.reads)

pub bounds-packet-10 : goal.bounds-packet-10
bounds-packet-10 c = omega (arith, long c.in_ok-header.ensures.reads.reads, length-set {A = ℕ})

pub bounds-packet-11 : goal.bounds-packet-11
bounds-packet-11 c = omega (arith, long c.in_ok-header.ensures.reads.reads, length-set {A = ℕ})
