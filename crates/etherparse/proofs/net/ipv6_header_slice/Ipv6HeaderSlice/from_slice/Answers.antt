use Rattle.std.proofs.Common.{arith, refl}
use Rattle.etherparse_base.specs.declared.err.ipv6.header_error.HeaderError.TheVariants.{UnexpectedVersion}
use Rattle.etherparse_base.specs.declared.err.ipv6.header_slice_error.HeaderSliceError.TheVariants.{Content}
use Rattle.etherparse.proofs.Fronts.{shown, viewed_once}
use Rattle.etherparse.proofs.Ipv6Reading.{front_viewed, tells_headers}
use Rattle.etherparse.proofs.Parts.{part_is_bytes}
use Rattle.etherparse.specs.Ipv6Header.{IsIpv6Layout, RefusesIpv6}
use Rattle.etherparse.proofs.net.ipv6_header_slice.Ipv6HeaderSlice.from_slice.Goals as goal

pub returns-then-version_number-ne6 : goal.returns-then-version_number-ne6
returns-then-version_number-ne6 c =
    let refused : RefusesIpv6 c.args.slice.now (Content (UnexpectedVersion _)) = record { enough = c.if-slice-lt-LEN.false; other = c.if-version_number-ne6.true; found = refl } in
    record {
      views = refused;
      only = λ other o. viewed_once IsIpv6Layout RefusesIpv6 tells_headers _ other _ o refused;
      shows = λ header rest b. tells_headers.not_refused _ header rest (Content (UnexpectedVersion _)) b refused;
    }

pub invariant_of-result-clause-are_bytes : goal.invariant_of-result-clause-are_bytes
invariant_of-result-clause-are_bytes c = part_is_bytes c.args.slice.now 0 40 (λ i. omega (arith, c.type_inv.slice i))

pub returns : goal.returns
returns c =
    let views = front_viewed _ c.if-slice-lt-LEN.false (λ i. omega (arith, c.type_inv.slice i)) c.if-version_number-ne6.false in
    record {
      views = views;
      only = λ other o. viewed_once IsIpv6Layout RefusesIpv6 tells_headers _ other _ o views;
      shows = λ header rest b. shown IsIpv6Layout RefusesIpv6 tells_headers _ _ rest header views b;
    }
