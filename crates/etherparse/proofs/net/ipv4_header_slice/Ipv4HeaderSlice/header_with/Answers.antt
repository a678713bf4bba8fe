use Rattle.std.proofs.Common.{rules, subst}
use Rattle.etherparse.proofs.Ipv4Layout.{header_at}
use Rattle.etherparse.specs.Ipv4Header.{IsIpv4Layout}
use Rattle.etherparse.proofs.net.ipv4_header_slice.Ipv4HeaderSlice.header_with.Goals as goal

pub returns-clause-only : goal.returns-clause-only
returns-clause-only c = λ h k. search (rules, k.layout, c.dcp.ensures.value h k, c.ecn.ensures.value h k, c.dont_fragment.ensures.value h k, c.more_fragments.ensures.value h k, c.fragments_offset.ensures.value h k)

pub returns-clause-layout : goal.returns-clause-layout
returns-clause-layout c =
    let v = c.args.self.now in
    let found = header_at v.slice.now v.version v.ihl v.len v.are_bytes in
    subst (λ h. IsIpv4Layout h v.slice.now) (returns-clause-only c found.0 found.1) found.1
