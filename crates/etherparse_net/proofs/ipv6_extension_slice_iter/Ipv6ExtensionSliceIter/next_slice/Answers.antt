use Rattle.std.proofs.Common.{ℕ, ap, arith, length, length-append}
use Rattle.etherparse_net.proofs.Ipv6Extensions.{moved_walk}
use Rattle.etherparse_net.proofs.ipv6_extension_slice_iter.Ipv6ExtensionSliceIter.next_slice.Goals
    as goal

pub returns-in-Ok-clause-header : goal.returns-in-Ok-clause-header
returns-in-Ok-clause-header c =
    let first = c.in-Ok.ensures in
    let len = ap length first.header.whole in
    (first.header, first.named, omega (arith, len, length-append {A = ℕ}))

pub returns-in-Err-clause-ends_incomplete : goal.returns-in-Err-clause-ends_incomplete
returns-in-Err-clause-ends_incomplete c = λ s first f at.
    moved_walk s first c.args.self.now.offset _ c.in-Err.e c.add_offset.result at
    c.add_offset.ensures.moved (c.in-Err.ensures.ends s first f)
