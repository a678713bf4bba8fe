use Rattle.std.proofs.Common.{◌++◌, IfOk, Result, Ok, Err, ap, arith, get_or, length, sym, take_all}
use Rattle.std.proofs.Common.{◌∙◌}
use Rattle.std.specs.List.{flat_map}
use Rattle.etherparse_transport.proofs.TcpOptionBytes.{list_again, one_more, one_more_read}
use Rattle.etherparse_transport.proofs.TcpOptionBytes.{room_for}
use Rattle.etherparse_transport.specs.TcpOptions.{option_bytes}
use Rattle.etherparse_transport.specs.TcpPadding.{IsPadded}
use Rattle.etherparse_transport.specs.declared.tcp_option_element.TcpOptionElement.TheVariants
    as option
use Rattle.etherparse_transport.proofs.tcp_options.TcpOptions.try_from_elements.Goals as goal

-- a fact of the value gives another
if_ok : {A E : Type 0} (r : Result A E) (P Q : A → Type 0) → ((x : A) → P x → Q x) → IfOk r P
    → IfOk r Q
if_ok (Ok x) P Q f h = f x h
if_ok (Err e) P Q f h = tt

pub append-requires : goal.append-requires
append-requires c =
    let xs = c.args.elements.now in
    record {
      room = omega (
        arith,
        room_for xs c.loop-element.element-index option.Noop
            c.loop-element-test.true,
        ap length c.loop-element.invariant.0,
        c.len_of-len.ensures.value,
        c.if-len-gt-MAX_LEN.false,
      );
    }

pub loop-element-preserved : goal.loop-element-preserved
loop-element-preserved c =
    let xs = c.args.elements.now in
    let i = c.loop-element.element-index in
    let within = c.loop-element-test.true in
    let so_far = c.loop-element.invariant in (
      c.append.ensures.appended ∙ ap (λ t. t ++ option_bytes (get_or xs i option.Noop)) so_far.0
          ∙ sym (one_more xs i option.Noop within),
      one_more_read xs i option.Noop within so_far.1
          c.append.ensures.is_option,
    )

pub returns-clause-read_again : goal.returns-clause-read_again
returns-clause-read_again c =
    let xs = c.args.elements.now in
    let so_far = c.loop-element.invariant in
    let all = take_all c.loop-element.element-index xs c.loop-element-test.false in
    let written = c.as_slice.ensures.value ∙ so_far.0 ∙ ap (flat_map option_bytes) all in
    if_ok c.try_from_slice.result (IsPadded c.as_slice.result.now) _
    (λ padded p. list_again xs padded (rw all at so_far.1) (rw written at p))
    c.try_from_slice.ensures.padded
