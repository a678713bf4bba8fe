use Rattle.std.proofs.Common.{Err, Ok, drop, rules}
use Rattle.std.proofs.lemmas.List.{take_rest}
use Rattle.etherparse.proofs.ExtensionHeaderChain.{one_skipped}
use Rattle.etherparse.proofs.Walks.{counted_walk, ends_incomplete}
use Rattle.etherparse.proofs.net.ipv6_header.Ipv6Header.skip_all_header_extensions_counted.Goals as goal

pub returns-then-not-is_skippable_header_extension : goal.returns-then-not-is_skippable_header_extension
returns-then-not-is_skippable_header_extension c =
    let w = counted_walk (Ok (c.headers.number, drop c.headers.offset c.args.slice.now)) c.headers.invariant
    (search (rules, c.is_skippable_header_extension.ensures.value.1)) in
    rw (take_rest c.args.slice.now c.headers.offset) (search rules)

pub returns-then-left-required_len : goal.returns-then-left-required_len
returns-then-left-required_len c =
    let w = counted_walk (Err c.incomplete_header.result) c.headers.invariant (search (rules, ends_incomplete, c.is_skippable_header_extension.ensures.value.0)) in
    search rules

pub headers-preserved : goal.headers-preserved
headers-preserved c = search (rules, one_skipped, c.is_skippable_header_extension.ensures.value.0)
