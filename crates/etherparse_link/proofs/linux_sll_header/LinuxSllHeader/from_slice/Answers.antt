use Rattle.etherparse.proofs.Fronts.{read_once}
use Rattle.etherparse_link.proofs.LinuxSllLayout.{tells_headers}
use Rattle.etherparse_link.proofs.Headers.{front_read}
use Rattle.etherparse_link.specs.LinuxSllHeader.{IsLinuxSllLayout, RefusesLinuxSll}
use Rattle.etherparse_link.proofs.linux_sll_header.LinuxSllHeader.from_slice.Goals as goal

pub returns : goal.returns
returns c =
    let layout = c.to_header-header.ensures.layout in
    let reads = front_read IsLinuxSllLayout RefusesLinuxSll tells_headers 16 _ _ _
    c.in_ok-from_slice.ensures.views layout layout.len in
    let once = read_once IsLinuxSllLayout RefusesLinuxSll tells_headers _ in
    record { reads = reads; only = λ other o. once other _ o reads }
