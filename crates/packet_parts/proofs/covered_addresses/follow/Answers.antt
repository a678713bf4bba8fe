use Rattle.std.proofs.Common.{◌≤◌, ◌∙◌, arith, length, ◌-◌, length-take, refl, sym}
use Rattle.std.proofs.lemmas.Bool.{false≢true}
use Rattle.etherparse.specs.ExtensionHeaderChain.{required_len_of}
use Rattle.packet_parts.proofs.CoveredAddresses.{as_passed, at_least_8}
use Rattle.packet_parts.specs.CoveredAddresses.{is_hidden, is_incomplete, is_lost, passes, stays}
use Rattle.packet_parts.proofs.covered_addresses.follow.Goals as goal

pub returns-then-not-is_skippable_header_extension :
    goal.returns-then-not-is_skippable_header_extension
returns-then-not-is_skippable_header_extension c = record {
  follows = c.headers.invariant _ (stays
      (λ is. false≢true (sym c.if-not-is_skippable_header_extension.true ∙ c.is_skippable_header_extension.ensures.value.1 is)));
}

pub returns-in-Err : goal.returns-in-Err
returns-in-Err c =
    let skippable = c.is_skippable_header_extension.ensures.value.0 c.if-not-is_skippable_header_extension.false in
    let cut : required_len_of c.headers.number c.headers.rest.now ≤ length c.headers.rest.now → ⊥ =
    λ enough. false≢true ((c.in-Err.ensures.accepted skippable).1 enough) in
    record { follows = c.headers.invariant _ (is_incomplete skippable (omega (arith, cut))) }

pub hides_addresses-requires : goal.hides_addresses-requires
hides_addresses-requires c =
    let skippable = c.is_skippable_header_extension.ensures.value.0 c.if-not-is_skippable_header_extension.false in
    let enough = (c.in-Ok.ensures.accepted skippable).0 refl in
    let passed = as_passed c.headers.number c.in-Ok.skipped.0 c.headers.rest.now c.in-Ok.skipped.1.now enough (c.in-Ok.ensures.skipped skippable enough) in
    record { enough = omega (arith, passed.2, enough, at_least_8 c.headers.number c.headers.rest.now enough, length-take (length c.headers.rest.now - length c.in-Ok.skipped.1.now) c.headers.rest.now) }

pub address_after-requires : goal.address_after-requires
address_after-requires c =
    let skippable = c.is_skippable_header_extension.ensures.value.0 c.if-not-is_skippable_header_extension.false in
    let enough = (c.in-Ok.ensures.accepted skippable).0 refl in
    let passed = as_passed c.headers.number c.in-Ok.skipped.0 c.headers.rest.now c.in-Ok.skipped.1.now enough (c.in-Ok.ensures.skipped skippable enough) in
    record { enough = omega (arith, passed.2, enough, at_least_8 c.headers.number c.headers.rest.now enough, length-take (length c.headers.rest.now - length c.in-Ok.skipped.1.now) c.headers.rest.now) }

pub returns-then-hides_addresses : goal.returns-then-hides_addresses
returns-then-hides_addresses c =
    let skippable = c.is_skippable_header_extension.ensures.value.0 c.if-not-is_skippable_header_extension.false in
    let enough = (c.in-Ok.ensures.accepted skippable).0 refl in
    let passed = as_passed c.headers.number c.in-Ok.skipped.0 c.headers.rest.now c.in-Ok.skipped.1.now enough (c.in-Ok.ensures.skipped skippable enough) in
    record { follows = c.headers.invariant _ (is_hidden skippable enough (rw (sym passed.2) (sym c.if-hides_addresses.ensures.value))) }

pub returns-in-None : goal.returns-in-None
returns-in-None c =
    let skippable = c.is_skippable_header_extension.ensures.value.0 c.if-not-is_skippable_header_extension.false in
    let enough = (c.in-Ok.ensures.accepted skippable).0 refl in
    let passed = as_passed c.headers.number c.in-Ok.skipped.0 c.headers.rest.now c.in-Ok.skipped.1.now enough (c.in-Ok.ensures.skipped skippable enough) in
    record { follows = c.headers.invariant _ (is_lost skippable enough (rw (sym passed.2) c.in-None.ensures.leaves)) }

pub headers-preserved : goal.headers-preserved
headers-preserved c = λ final goes.
    let skippable = c.is_skippable_header_extension.ensures.value.0 c.if-not-is_skippable_header_extension.false in
    let enough = (c.in-Ok.ensures.accepted skippable).0 refl in
    let passed = as_passed c.headers.number c.in-Ok.skipped.0 c.headers.rest.now c.in-Ok.skipped.1.now enough (c.in-Ok.ensures.skipped skippable enough) in
    c.headers.invariant final (passes {next = c.in-Some.next} skippable enough (rw (sym passed.2) (sym c.if-hides_addresses.ensures.value))
    (rw (sym passed.2) c.in-Some.ensures.leaves) (rw (sym passed.0, sym passed.1) goes))
