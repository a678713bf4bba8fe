use Rattle.std.proofs.Common.{length, refl}
use Rattle.std.proofs.lemmas.Result.{err_from_is_err_and}
use Rattle.etherparse.proofs.Fronts.{begins_at, read_once}
use Rattle.etherparse_net.proofs.ExtensionHeaders.{tells_auth}
use Rattle.etherparse_net.specs.IpAuthHeader.{IsAuthLayout, RefusesAuth}
use Rattle.etherparse_net.proofs.ip_auth_header.IpAuthHeader.from_slice.Goals as goal

pub returns-in_err-view-clause-reads : goal.returns-in_err-view-clause-reads
returns-in_err-view-clause-reads c =
    let error = err_from_is_err_and c.from_residual.result c.from_residual.ensures.1 in
    rw (error.1, error.2) c.in_err-view.ensures.views

pub returns-in_err-view-clause-only : goal.returns-in_err-view-clause-only
returns-in_err-view-clause-only c = λ other o.
    read_once IsAuthLayout RefusesAuth tells_auth _ other _ o (returns-in_err-view-clause-reads c)

pub returns-clause-reads : goal.returns-clause-reads
returns-clause-reads c =
    let view = c.in_ok-view.view.slice.now in
    begins_at IsAuthLayout (length view) c.args.slice.now view _ c.to_header.result
    c.in_ok-view.ensures.views.whole c.to_header.ensures.layout refl

pub returns-clause-only : goal.returns-clause-only
returns-clause-only c = λ other o. read_once IsAuthLayout RefusesAuth tells_auth _ other _ o (returns-clause-reads c)
