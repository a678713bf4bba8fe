use Rattle.std.proofs.Common.{ℕ, ◌≡◌, ◌+◌, ◌-◌, ◌<◌, ◌∙◌, None, ap, arith, drop, length, length-drop, refl, slice_index, sym}
use Rattle.std.proofs.lemmas.Bool.{false≢true}
use Rattle.std.proofs.lemmas.List.{length-take-le}
use Rattle.std.proofs.lemmas.List.Edits.{split_between}
use Rattle.std.proofs.lemmas.Result.{IfOk-at_ok}
use Rattle.etherparse.specs.ExtensionHeaderChain.{incomplete_header_error, required_len_of}
use Rattle.etherparse.specs.LenError.{len_error_moved}
use Rattle.packet_parts.specs.Extensions.{EndsInHeader}
use Rattle.packet_reassembly.proofs.Walked.{walked_more, walked_none}
use Rattle.packet_reassembly.proofs.ipv6_fragment.ipv6_fragment_parts.Goals as goal

pub headers-init : goal.headers-init
headers-init c = walked_none c.args.body.now c.args.first

pub returns-then-not-is_skippable_header_extension-clause-none :
    goal.returns-then-not-is_skippable_header_extension-clause-none
returns-then-not-is_skippable_header_extension-clause-none c = record {
  number = c.headers.number;
  rest = c.headers.rest.now;
  passes = c.headers.invariant.passes;
  upper = λ is. false≢true (sym c.if-not-is_skippable_header_extension.true ∙ c.is_skippable_header_extension.ensures.value.1 is);
}

pub add_offset-requires : goal.add_offset-requires
add_offset-requires c = record { fits = omega (arith, c.in-Err.ensures.at_front) }

pub returns-in-Err-clause-within : goal.returns-in-Err-clause-within
returns-in-Err-clause-within c =
    let w = c.headers.invariant in
    omega (arith, ap (λ e. e.layer_start_offset) c.add_offset.ensures.moved, c.in-Err.ensures.at_front)

pub returns-in-Err-clause-refused : goal.returns-in-Err-clause-refused
returns-in-Err-clause-refused c =
    let w = c.headers.invariant in
    let skippable = c.is_skippable_header_extension.ensures.value.0 c.if-not-is_skippable_header_extension.false in
    let short : length c.headers.rest.now < required_len_of c.headers.number c.headers.rest.now = grind (arith, c.in-Err.ensures.accepted skippable) in
    let n : 0 + c.headers.at ≡ length c.args.body.now - length c.headers.rest.now = omega (arith, w.within, ap length w.is, length-drop c.headers.at c.args.body.now) in
    let ends : EndsInHeader c.args.body.now c.args.first None c.headers.number c.headers.rest.now = record { passes = w.passes; skippable = skippable; short = short } in
    let e = c.in-Err.ensures.refused skippable short in
    let is : c.in-Err.e ≡ incomplete_header_error c.headers.number c.headers.rest.now 0 = cc in
    let moved = ap (len_error_moved c.headers.at) is ∙ ap (incomplete_header_error c.headers.number c.headers.rest.now) n in
    record { number = c.headers.number; rest = c.headers.rest.now; ends = (ends, c.add_offset.ensures.moved ∙ moved) }

pub returns-in-Some-clause-found : goal.returns-in-Some-clause-found
returns-in-Some-clause-found c =
    let w = c.headers.invariant in
    let found = c.in-Some.ensures.found in
    record {
      at = c.headers.rest.now;
      whole = rw w.is (split_between c.args.body.now c.headers.last c.headers.at w.order);
      headers = w.headers;
      passes = rw found.0 at w.passes;
      begins = found.1;
      is_part = found.2;
    }

pub slice_bounds-result-end : goal.slice_bounds-result-end
slice_bounds-result-end c =
    let w = c.headers.invariant in
    sym (length-take-le c.headers.last c.args.body.now (omega arith))

pub slice_bounds-result-count : goal.slice_bounds-result-count
slice_bounds-result-count c = c.headers.invariant.order

pub overflow_sub-at : goal.overflow_sub-at
overflow_sub-at c =
    let w = c.headers.invariant in
    let shorter = c.in-Ok.ensures.shorter (c.is_skippable_header_extension.ensures.value.0 c.if-not-is_skippable_header_extension.false) in
    omega (arith, shorter, ap length w.is, length-drop c.headers.at c.args.body.now)

pub headers-smaller : goal.headers-smaller
headers-smaller c =
    c.in-Ok.ensures.shorter (c.is_skippable_header_extension.ensures.value.0 c.if-not-is_skippable_header_extension.false)

pub headers-preserved : goal.headers-preserved
headers-preserved c =
    let w = c.headers.invariant in
    let k : ℕ = required_len_of c.headers.number c.headers.rest.now in
    let skippable = c.is_skippable_header_extension.ensures.value.0 c.if-not-is_skippable_header_extension.false in
    let fits = (c.in-Ok.ensures.accepted skippable).0 refl in
    let same : (c.in-Ok.skipped.0 ≡ slice_index c.headers.rest.now 0) × (c.in-Ok.skipped.1.now ≡ drop k c.headers.rest.now) =
    IfOk-at_ok (λ x. (x.0 ≡ slice_index c.headers.rest.now 0) × (x.1 ≡ drop k c.headers.rest.now)) (sym (c.in-Ok.ensures.skipped skippable fits)) (refl, refl) in
    rw (same.0, same.1) (walked_more w skippable fits (c.in_default.ensures.none c.args.body.now c.args.first w.passes) (length c.args.body.now - length (drop k c.headers.rest.now))
    (omega (arith, length-drop k c.headers.rest.now, ap length w.is, length-drop c.headers.at c.args.body.now)))

pub deciding-requires-clause-skippable : goal.deciding-requires-clause-skippable
deciding-requires-clause-skippable c = c.is_skippable_header_extension.ensures.value.0 c.if-not-is_skippable_header_extension.false

pub deciding-requires-clause-enough : goal.deciding-requires-clause-enough
deciding-requires-clause-enough c =
    (c.in-Ok.ensures.accepted (c.is_skippable_header_extension.ensures.value.0 c.if-not-is_skippable_header_extension.false)).0 refl
