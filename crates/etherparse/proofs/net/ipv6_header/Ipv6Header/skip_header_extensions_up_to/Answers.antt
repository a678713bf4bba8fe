use Rattle.std.proofs.Common.{Err, Ok, drop, length-drop, rules}
use Rattle.std.proofs.lemmas.List.{take_rest}
use Rattle.etherparse_base.specs.declared.err.ipv6.chain_error.ChainError.TheVariants as chain_error
use Rattle.etherparse.proofs.ExtensionHeaderChain.{offset_of, one_skipped}
use Rattle.etherparse.proofs.Walks.{at_limit_after, ends_incomplete, limited_walk}
use Rattle.etherparse.proofs.net.ipv6_header.Ipv6Header.skip_header_extensions_up_to.Goals as goal

pub returns-then-not-is_skippable_header_extension : goal.returns-then-not-is_skippable_header_extension
returns-then-not-is_skippable_header_extension c =
    let w = limited_walk c.args.limit (Ok (c.headers.number, drop c.headers.offset c.args.slice.now)) c.headers.invariant.so_far
    (search (rules, c.is_skippable_header_extension.ensures.value.1)) in
    rw (take_rest c.args.slice.now c.headers.offset) (search (rules, length-drop c.headers.offset c.args.slice.now))

pub returns-then-skipped-limit : goal.returns-then-skipped-limit
returns-then-skipped-limit c =
    let w = limited_walk c.args.limit (Err (chain_error.TooMany c.args.limit c.headers.number c.headers.offset)) c.headers.invariant.so_far
    (search (rules, at_limit_after, offset_of c.headers.invariant.so_far, c.is_skippable_header_extension.ensures.value.0)) in
    rw c.number.view_is (search rules)

pub returns-then-left-required_len : goal.returns-then-left-required_len
returns-then-left-required_len c =
    let w = limited_walk c.args.limit (Err (chain_error.Len c.incomplete_header.result)) c.headers.invariant.so_far
    (search (rules, ends_incomplete, c.is_skippable_header_extension.ensures.value.0)) in
    search rules

pub headers-preserved : goal.headers-preserved
headers-preserved c = search (rules, one_skipped, c.is_skippable_header_extension.ensures.value.0)
