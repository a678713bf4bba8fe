use Rattle.std.proofs.Common.{arith}
use Rattle.etherparse.proofs.Fronts.{viewed_once}
use Rattle.etherparse_link.proofs.Ethernet2Layout.{header_at, tells_headers}
use Rattle.etherparse_link.proofs.Headers.{front_viewed}
use Rattle.etherparse_link.specs.Ethernet2Header.{IsEthernet2Layout, RefusesEthernet2}
use Rattle.etherparse_link.proofs.ethernet2_header_slice.Ethernet2HeaderSlice.from_slice.Goals
    as goal

pub returns : goal.returns
returns c =
    let views = front_viewed IsEthernet2Layout RefusesEthernet2 tells_headers 14 _ header_at
    c.if-slice-lt-LEN.false (λ i. omega (arith, c.type_inv.slice i)) in
    record {
      views = views;
      only = λ other o. viewed_once IsEthernet2Layout RefusesEthernet2
          tells_headers _ other _ o views;
    }
