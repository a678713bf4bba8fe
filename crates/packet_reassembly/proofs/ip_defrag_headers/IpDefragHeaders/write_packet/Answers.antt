use Rattle.std.proofs.Common.{arith, inl, inr, sym}
use Rattle.std.proofs.lemmas.List.{length-take-le}
use Rattle.packet_reassembly.proofs.ip_defrag_headers.IpDefragHeaders.write_packet.Goals as goal

pub slice_bounds-write_ipv4-end : goal.slice_bounds-write_ipv4-end
slice_bounds-write_ipv4-end c = let own = rw c.in-Ipv4.is at c.self.invariant in sym (length-take-le c.in-Ipv4.len c.self.inside.bytes.now (omega arith))

pub slice_bounds-write_ipv6-end : goal.slice_bounds-write_ipv6-end
slice_bounds-write_ipv6-end c = let own = rw c.in-Ipv6.is at c.self.invariant in sym (length-take-le c.in-Ipv6.len c.self.inside.bytes.now (omega arith))

pub write_ipv4-requires-clause-header : goal.write_ipv4-requires-clause-header
write_ipv4-requires-clause-header c = (rw c.in-Ipv4.is at c.self.invariant).2

pub write_ipv6-requires-clause-short : goal.write_ipv6-requires-clause-short
write_ipv6-requires-clause-short c = let own = rw c.in-Ipv6.is at c.self.invariant in omega (arith, own.1, length-take-le c.in-Ipv6.len c.self.inside.bytes.now)

pub write_ipv6-requires-clause-headers : goal.write_ipv6-requires-clause-headers
write_ipv6-requires-clause-headers c = (rw c.in-Ipv6.is at c.self.invariant).2

pub returns-in-Ok-clause-packet : goal.returns-in-Ok-clause-packet
returns-in-Ok-clause-packet c = rw (← c.self.view_is, c.in-Ipv4.is) (inl c.in-Ok.ensures.packet)

pub returns-in-Err-clause-refused : goal.returns-in-Err-clause-refused
returns-in-Err-clause-refused c = rw (← c.self.view_is, c.in-Ipv4.is) (inl c.in-Err.ensures.refused)

pub returns-in-Err-clause-error : goal.returns-in-Err-clause-error
returns-in-Err-clause-error c = rw (← c.self.view_is, c.in-Ipv4.is) (inl c.in-Err.ensures.error)

pub returns-in-Ok-write_ipv6-clause-packet : goal.returns-in-Ok-write_ipv6-clause-packet
returns-in-Ok-write_ipv6-clause-packet c = rw (← c.self.view_is, c.in-Ipv6.is) (inr c.in-Ok-write_ipv6.ensures.packet)

pub returns-in-Err-write_ipv6-clause-refused : goal.returns-in-Err-write_ipv6-clause-refused
returns-in-Err-write_ipv6-clause-refused c = rw (← c.self.view_is, c.in-Ipv6.is) (inr c.in-Err-write_ipv6.ensures.refused)

pub returns-in-Err-write_ipv6-clause-error : goal.returns-in-Err-write_ipv6-clause-error
returns-in-Err-write_ipv6-clause-error c = rw (← c.self.view_is, c.in-Ipv6.is) (inr c.in-Err-write_ipv6.ensures.error)
