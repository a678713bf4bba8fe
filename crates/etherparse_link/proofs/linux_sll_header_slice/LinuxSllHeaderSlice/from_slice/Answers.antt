use Rattle.std.proofs.Common.{arith}
use Rattle.etherparse.proofs.Fronts.{viewed_once}
use Rattle.etherparse_link.proofs.LinuxSllLayout.{header_at, tells_headers}
use Rattle.etherparse_link.proofs.Headers.{front_viewed}
use Rattle.etherparse_link.specs.LinuxSllHeader.{IsLinuxSllLayout, RefusesLinuxSll}
use Rattle.etherparse_link.proofs.linux_sll_header_slice.LinuxSllHeaderSlice.from_slice.Goals
    as goal

pub returns : goal.returns
returns c =
    let views = front_viewed IsLinuxSllLayout RefusesLinuxSll tells_headers 16 _ header_at
    c.if-slice-lt-LEN.false (λ i. omega (arith, c.type_inv.slice i)) in
    record {
      views = views;
      only = λ other o. viewed_once IsLinuxSllLayout RefusesLinuxSll
          tells_headers _ other _ o views;
    }
