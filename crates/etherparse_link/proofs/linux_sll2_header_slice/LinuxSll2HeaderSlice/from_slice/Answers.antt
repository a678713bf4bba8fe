use Rattle.std.proofs.Common.{arith}
use Rattle.etherparse.proofs.Fronts.{viewed_once}
use Rattle.etherparse_link.proofs.LinuxSll2Layout.{header_at, tells_headers}
use Rattle.etherparse_link.proofs.Headers.{front_viewed}
use Rattle.etherparse_link.specs.LinuxSll2Header.{IsLinuxSll2Layout, RefusesLinuxSll2}
use Rattle.etherparse_link.proofs.linux_sll2_header_slice.LinuxSll2HeaderSlice.from_slice.Goals
    as goal

pub returns : goal.returns
returns c =
    let views = front_viewed IsLinuxSll2Layout RefusesLinuxSll2 tells_headers 20 _ header_at
    c.if-slice-lt-LEN.false (λ i. omega (arith, c.type_inv.slice i)) in
    record {
      views = views;
      only = λ other o. viewed_once IsLinuxSll2Layout RefusesLinuxSll2
          tells_headers _ other _ o views;
    }
