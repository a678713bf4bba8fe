use Rattle.std.proofs.Common.{ℕ, ◌≡◌, List, Err, Ok, Result, refl}
use Rattle.std.proofs.lemmas.List.{take_rest}
use Rattle.etherparse.specs.Reading.{IsTooShort, Reads}
use Rattle.etherparse.specs.declared.err.LenError.{LenError}
use Rattle.etherparse.specs.declared.err.Layer.TheVariants as layer
use Rattle.etherparse_transport.specs.Tcp.{ViewsTcp}
use Rattle.etherparse_transport.specs.Udp.{ReadsUdp, UdpReading}
use Rattle.etherparse_transport.specs.declared.tcp.TcpError.{TcpError}
use Rattle.packet.specs.Transport.{Icmpv4Parts, Icmpv6Parts, IsIcmpLayout, ReadsHeader, icmp_reading, tcp_reading, udp_reading}
use Rattle.packet.specs.declared.transport.IcmpHeader.{IcmpHeader}
use Rattle.packet.specs.declared.transport.Protocol.{Protocol}
use Rattle.packet.specs.declared.transport.Protocol.TheVariants.{Icmpv4, Icmpv6, Tcp, Udp}
use Rattle.packet.proofs.transport.header_of.Goals as goal

module _ (read : Protocol) (place : ℕ) (payload : List ℕ) where
  udp : read ≡ Udp → (r : UdpReading) → ReadsUdp payload r → ReadsHeader read place payload (udp_reading place r)
  udp e r reads = rw e (record { inside = r; allowed = reads; becomes = refl })

  tcp : read ≡ Tcp → (r : Result (List ℕ) TcpError) → ViewsTcp payload r → ReadsHeader read place payload (tcp_reading place payload r)
  tcp e r views = rw e (record { inside = r; allowed = views; becomes = refl })

  icmpv4 : read ≡ Icmpv4 → (r : Result (IcmpHeader × List ℕ) LenError) → Reads IsIcmpLayout (IsTooShort layer.Icmpv4 4) payload r → ReadsHeader read place payload (icmp_reading Icmpv4Parts place r)
  icmpv4 e r reads = rw e (record { inside = r; allowed = reads; becomes = refl })

  icmpv6 : read ≡ Icmpv6 → (r : Result (IcmpHeader × List ℕ) LenError) → Reads IsIcmpLayout (IsTooShort layer.Icmpv6 4) payload r → ReadsHeader read place payload (icmp_reading Icmpv6Parts place r)
  icmpv6 e r reads = rw e (record { inside = r; allowed = reads; becomes = refl })

pub returns-in-Ok : goal.returns-in-Ok
returns-in-Ok c = record { reads = udp _ _ _ c.in-Udp.is (Ok (c.in-Ok.header, c.in-Ok.payload.now)) c.in-Ok.ensures.reads }

pub returns-in-Err : goal.returns-in-Err
returns-in-Err c = record { reads = rw c.add_offset.ensures.moved (udp _ _ _ c.in-Udp.is (Err c.in-Err.e) c.in-Err.ensures.reads) }

pub returns-in-Ok-from_slice : goal.returns-in-Ok-from_slice
returns-in-Ok-from_slice c = record { reads = rw (take_rest _ _) (tcp _ _ _ c.in-Tcp.is (Ok c.in-Ok-from_slice.header.slice.now) c.in-Ok-from_slice.ensures.views) }

pub returns-in-Err-from_slice : goal.returns-in-Err-from_slice
returns-in-Err-from_slice c = record { reads = rw c.tcp_error_moved.ensures.value (tcp _ _ _ c.in-Tcp.is (Err c.in-Err-from_slice.e) c.in-Err-from_slice.ensures.views) }

pub returns-in-Ok-icmp : goal.returns-in-Ok-icmp
returns-in-Ok-icmp c = record { reads = icmpv4 _ _ _ c.in-Icmpv4.is (Ok (c.in-Ok-icmp.header, c.in-Ok-icmp.payload.now)) c.in-Ok-icmp.ensures.reads }

pub returns-in-Err-icmp : goal.returns-in-Err-icmp
returns-in-Err-icmp c = record { reads = rw c.add_offset-in-Err-icmp.ensures.moved (icmpv4 _ _ _ c.in-Icmpv4.is (Err c.in-Err-icmp.e) c.in-Err-icmp.ensures.reads) }

pub returns-in-Ok-icmp-2 : goal.returns-in-Ok-icmp-2
returns-in-Ok-icmp-2 c = record { reads = icmpv6 _ _ _ c.in-Icmpv6.is (Ok (c.in-Ok-icmp-2.header, c.in-Ok-icmp-2.payload.now)) c.in-Ok-icmp-2.ensures.reads }

pub returns-in-Err-icmp-2 : goal.returns-in-Err-icmp-2
returns-in-Err-icmp-2 c = record { reads = rw c.add_offset-in-Err-icmp-2.ensures.moved (icmpv6 _ _ _ c.in-Icmpv6.is (Err c.in-Err-icmp-2.e) c.in-Err-icmp-2.ensures.reads) }
