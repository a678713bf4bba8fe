use Rattle.std.proofs.Common.{arith, length}
use Rattle.etherparse_base.specs.declared.err.ipv4.header_slice_error.HeaderSliceError.TheVariants.{Content, Len}
use Rattle.etherparse_base.specs.declared.err.layer.Layer.TheVariants.{Ipv4Header}
use Rattle.etherparse.proofs.Fronts.{shown, viewed_once}
use Rattle.etherparse.proofs.Ipv4Reading.{front_viewed, tells_headers}
use Rattle.etherparse.specs.Ipv4Header.{IsIpv4Layout, RefusesIpv4}
use Rattle.etherparse.specs.Reading.{too_short_error}
use Rattle.etherparse.proofs.net.ipv4_header_slice.Ipv4HeaderSlice.from_slice.Goals as goal

pub returns-in-Err : goal.returns-in-Err
returns-in-Err c =
    let e = Content c.in-Err.e in
    let refused : RefusesIpv4 c.args.slice.now e = c.in-Err.ensures.content in
    record {
      views = refused;
      only = λ other o. viewed_once IsIpv4Layout RefusesIpv4 tells_headers _ other _ o refused;
      shows = λ header rest b. tells_headers.not_refused _ header rest e b refused;
    }

pub returns-then-slice-header_len : goal.returns-then-slice-header_len
returns-then-slice-header_len c =
    let e = Len (too_short_error Ipv4Header c.in-Ok.header_len (length c.args.slice.now)) in
    let refused : RefusesIpv4 c.args.slice.now e = c.in-Ok.ensures.too_short c.if-slice-header_len.true in
    rw c.length_error.ensures (record {
      views = refused;
      only = λ other o. viewed_once IsIpv4Layout RefusesIpv4 tells_headers _ other _ o refused;
      shows = λ header rest b. tells_headers.not_refused _ header rest e b refused;
    })

pub returns : goal.returns
returns c =
    let fits = c.if-slice-header_len.false in
    let found = c.in-Ok.ensures.whole fits in
    let views = front_viewed c.args.slice.now _ found.0 found.1 found.2 fits (λ i. omega (arith, c.type_inv.slice i)) in
    record {
      views = views;
      only = λ other o. viewed_once IsIpv4Layout RefusesIpv4 tells_headers _ other _ o views;
      shows = λ header rest b. shown IsIpv4Layout RefusesIpv4 tells_headers _ _ rest header views b;
    }
