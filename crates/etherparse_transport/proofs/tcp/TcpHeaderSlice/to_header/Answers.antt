use Rattle.etherparse_transport.proofs.TcpLayout.{cleared_layout}
use Rattle.etherparse_transport.proofs.tcp.TcpHeaderSlice.to_header.Goals as goal

pub returns-clause-cleared : goal.returns-clause-cleared
returns-clause-cleared c = cleared_layout _ _ c.header_with.ensures.layout
