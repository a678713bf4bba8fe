use Rattle.etherparse.proofs.Fronts.{read_once}
use Rattle.etherparse_link.proofs.LinuxSll2Layout.{tells_headers}
use Rattle.etherparse_link.proofs.Headers.{front_read}
use Rattle.etherparse_link.specs.LinuxSll2Header.{IsLinuxSll2Layout, RefusesLinuxSll2}
use Rattle.etherparse_link.proofs.linux_sll2_header.LinuxSll2Header.from_slice.Goals as goal

pub returns : goal.returns
returns c =
    let layout = c.to_header-header.ensures.layout in
    let reads = front_read IsLinuxSll2Layout RefusesLinuxSll2 tells_headers 20 _ _ _
    c.in_ok-from_slice.ensures.views layout layout.len in
    let once = read_once IsLinuxSll2Layout RefusesLinuxSll2 tells_headers _ in
    record { reads = reads; only = λ other o. once other _ o reads }
