use Rattle.std.proofs.Common.{◌<◌, arith, length, refl}
use Rattle.etherparse.specs.ExtensionHeaderChain.{required_len_of}
use Rattle.etherparse_net.proofs.Ipv6Extensions.{passed_header}
use Rattle.etherparse_net.proofs.ipv6_extension_slice_iter.first_extension.Goals as goal

pub returns-in-Err-clause-incomplete : goal.returns-in-Err-clause-incomplete
returns-in-Err-clause-incomplete c =
    let s = c.args.slice.now in
    let short : length s < required_len_of c.args.number s =
    grind (arith, (c.in-Err.ensures.accepted c.requires).1) in
    let refused = c.in-Err.ensures.refused c.requires short in
    record { skippable = c.requires; short = short; error = cc refused }

pub extension_of-requires : goal.extension_of-requires
extension_of-requires c =
    let enough = (c.in-Ok.ensures.accepted c.requires).0 refl in
    let skipped = c.in-Ok.ensures.skipped c.requires enough in
    (passed_header c.args.number _ c.args.slice.now _ c.requires enough skipped).0

pub returns-clause-header : goal.returns-clause-header
returns-clause-header c =
    let enough = (c.in-Ok.ensures.accepted c.requires).0 refl in
    let skipped = c.in-Ok.ensures.skipped c.requires enough in
    let passed = passed_header c.args.number _ c.args.slice.now _ c.requires enough skipped in
    let bytes = c.extension_of.ensures.bytes in
    record {
      whole = rw bytes passed.1;
      header = rw bytes passed.0;
      kind = c.extension_of.ensures.kind;
    }
