use Rattle.std.proofs.Common.{◌∙◌, inl, rules, sym}
use Rattle.packet_reassembly.proofs.ip_fragment_slice.ipv4_fragment.Goals as goal

pub returns-then-not-is_fragmenting_payload-clause-none : goal.returns-then-not-is_fragmenting_payload-clause-none
returns-then-not-is_fragmenting_payload-clause-none c = λ packet header told enough begins front.
    let is_layout = rw front at begins.layout in
    inl (record { header = header; payload = c.args.payload.now; told = told; enough = enough; begins = begins; is_whole = λ f. let t = (c.is_fragmenting_payload.ensures.value header is_layout).1 f in let e = c.if-not-is_fragmenting_payload.true in cc })

pub returns-clause-found : goal.returns-clause-found
returns-clause-found c = λ packet header told enough begins front.
    let is_layout = rw front at begins.layout in
    let is_fragment = (c.is_fragmenting_payload.ensures.value header is_layout).0 c.if-not-is_fragmenting_payload.false in
    let source = c.source.ensures.value header is_layout in
    let destination = c.destination.ensures.value header is_layout in
    let protocol = c.result.view_is ∙ c.protocol.ensures.value header is_layout in
    let identification = c.identification.ensures.value header is_layout in
    let offset = c.fragments_offset.ensures.value header is_layout in
    let more = c.more_fragments.ensures.value header is_layout in
    let next = c.protocol-2.ensures.value header is_layout in
    let ecn = c.ecn.ensures.value header is_layout in
    let headers = c.slice-headers.ensures.value ∙ sym front in
    inl (search (rules, is_fragment, source, destination, protocol, identification, offset, more, next, ecn, headers))
