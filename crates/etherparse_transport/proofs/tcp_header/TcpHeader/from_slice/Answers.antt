use Rattle.etherparse.proofs.Fronts.{read_once}
use Rattle.etherparse_transport.proofs.TcpReading.{Refuses, cleared_front, tells_headers}
use Rattle.etherparse_transport.specs.TcpHeader.{IsTcpLayout}
use Rattle.etherparse_transport.proofs.tcp_header.TcpHeader.from_slice.Goals as goal

pub returns-in-Err : goal.returns-in-Err
returns-in-Err c =
    let refused = c.in-Err.ensures.views in
    record {
      reads = refused;
      only = λ other o. read_once IsTcpLayout Refuses tells_headers _ other
          _ o refused;
      cleared = tt;
    }

pub returns-in-Ok : goal.returns-in-Ok
returns-in-Ok c =
    let begins = c.with_rest.ensures.begins in
    record {
      reads = begins;
      only = λ other o. read_once IsTcpLayout Refuses tells_headers _ other _ o begins;
      cleared = λ front whole. cleared_front _ front _ _ begins whole;
    }
