use Rattle.std.proofs.Common.{ℕ, ◌≡◌, ◌≤◌, ◌∙◌, Ok, ap, arith, false, length, length-append, refl, sym, true}
use Rattle.std.proofs.lemmas.Bool.{false≢true}
use Rattle.std.proofs.lemmas.Result.{IfOk-at_ok}
use Rattle.uses.proofs.payload.ipv6_packet.Goals as goal

pub returns-in-Err-clause-found : goal.returns-in-Err-clause-found
returns-in-Err-clause-found c = λ header rest begins. cc (c.in-Err.ensures.reads.only (Ok (header, rest)) begins)

pub returns-then-rest-len : goal.returns-then-rest-len
returns-then-rest-len c =
    let len = c.from-len.ensures ∙ ap (λ h. h.payload_length) c.header.view_is in
    record {
      cut = tt;
      found = λ header rest begins. (
        λ e. absurd (false≢true e),
        IfOk-at_ok (λ x. x.0.payload_length ≤ length x.1 → false ≡ true)
            (sym (c.in-Ok.ensures.reads.only (Ok (header, rest)) begins)) (λ fits. absurd (omega (arith, len))),
      );
    }

pub returns : goal.returns
returns c =
    let b = c.in-Ok.ensures.reads.reads in
    let len = c.from-len.ensures ∙ ap (λ h. h.payload_length) c.header.view_is in
    record {
      cut = rw len (c.in-Ok.ensures.reads.cut _ _ refl (omega (arith, len, ap length b.whole, length-append {A = ℕ}, b.layout.len)));
      found = λ header rest begins. (
        IfOk-at_ok (λ x. true ≡ true → x.0.payload_length ≤ length x.1)
            (sym (c.in-Ok.ensures.reads.only (Ok (header, rest)) begins)) (λ _. rw len at c.if-rest-len.false),
        λ _. refl,
      );
    }
