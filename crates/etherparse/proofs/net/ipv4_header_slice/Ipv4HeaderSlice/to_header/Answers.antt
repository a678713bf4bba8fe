use Rattle.etherparse.proofs.Ipv4Layout.{cleared_layout}
use Rattle.etherparse.proofs.net.ipv4_header_slice.Ipv4HeaderSlice.to_header.Goals as goal

pub returns-clause-cleared : goal.returns-clause-cleared
returns-clause-cleared c = cleared_layout _ _ c.header_with.ensures.layout
