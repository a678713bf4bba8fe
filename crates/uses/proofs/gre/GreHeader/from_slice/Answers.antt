use Rattle.etherparse.proofs.Fronts.{begins_with_front, read_once}
use Rattle.uses.specs.Gre.{IsGreLayout, RefusesGre}
use Rattle.uses.proofs.GreLayout.{tells_headers}
use Rattle.uses.proofs.gre.GreHeader.from_slice.Goals as goal

pub returns-in-Ok : goal.returns-in-Ok
returns-in-Ok c =
    let begins = begins_with_front IsGreLayout c.in-Ok.len _ c.args.slice.now c.header_of.ensures.layout in
    record { reads = begins; only = λ other o. read_once IsGreLayout RefusesGre tells_headers _ other _ o begins }
