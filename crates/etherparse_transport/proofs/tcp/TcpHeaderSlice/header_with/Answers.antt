use Rattle.std.proofs.Common.{rules, subst}
use Rattle.etherparse_transport.proofs.TcpLayout.{bool_of_bit, flags_told, header_at, ns_told}
use Rattle.etherparse_transport.specs.TcpHeader.{IsTcpLayout}
use Rattle.etherparse_transport.proofs.tcp.TcpHeaderSlice.header_with.Goals as goal

pub returns-clause-only : goal.returns-clause-only
returns-clause-only c = λ h k.
    let flags = flags_told h _ k.layout.flags in
    let fin = bool_of_bit _ h.fin _ c.fin.ensures.bit_0 flags.bit_0 in
    let syn = bool_of_bit _ h.syn _ c.syn.ensures.bit_1 flags.bit_1 in
    let rst = bool_of_bit _ h.rst _ c.rst.ensures.bit_2 flags.bit_2 in
    let psh = bool_of_bit _ h.psh _ c.psh.ensures.bit_3 flags.bit_3 in
    let ack = bool_of_bit _ h.ack _ c.ack.ensures.bit_4 flags.bit_4 in
    let urg = bool_of_bit _ h.urg _ c.urg.ensures.bit_5 flags.bit_5 in
    let ece = bool_of_bit _ h.ece _ c.ece.ensures.bit_6 flags.bit_6 in
    let cwr = bool_of_bit _ h.cwr _ c.cwr.ensures.bit_7 flags.bit_7 in
    let ns = bool_of_bit _ h.ns _ c.ns.ensures.lowest_of_byte_12
    (ns_told h k.reserved _ k.layout) in
    search (rules, k.layout)

pub returns-clause-layout : goal.returns-clause-layout
returns-clause-layout c =
    let v = c.args.self.now in
    let found = header_at v.slice.now v.offset v.len v.are_bytes in
    subst (λ h. IsTcpLayout h v.slice.now) (returns-clause-only c found.0 found.1) found.1
