use Rattle.std.proofs.Common.{◌<◌, ◌≡◌, ◌≢◌, ◌+◌, ◌∙◌, List, arith, slice_range, sym, w16, ℕ}
use Rattle.packet_capture.specs.Capture.{number_in}
use Rattle.packet_capture.specs.Pcapng.Interfaces.{HasOption, ends, is_wrong, none_left, option_code, options_end, reaches_past, tells}
use Rattle.packet_capture.specs.declared.capture.ByteOrder.{ByteOrder}
use Rattle.packet_capture.proofs.pcapng.interfaces.Interface.with_options.Goals as goal

option_at : {order : ByteOrder} {block : List ℕ} {place code len : ℕ} → place < options_end block → code ≡ option_code order block place
    → len ≡ number_in order w16 (slice_range block (place + 2) (place + 4)) → code ≢ 0 → HasOption order block place code len
option_at left is_code is_len goes_on = record { left = left; is_code = is_code; is_len = is_len; goes_on = goes_on }

pub returns-then-code-eq0 : goal.returns-then-code-eq0
returns-then-code-eq0 c = record {
  reads = c.options.invariant.reads _ (ends c.options-test.true (sym c.u16_of-code.ensures.value ∙ c.if-code-eq0.true));
}

pub returns-then-after-end : goal.returns-then-after-end
returns-then-after-end c =
    let option = option_at c.options-test.true c.u16_of-code.ensures.value c.u16_of-len.ensures.value c.if-code-eq0.false in
    record { reads = c.options.invariant.reads _ (reaches_past option (rw c.from-value_len.ensures at c.if-after-end.true)) }

pub returns-in-Err : goal.returns-in-Err
returns-in-Err c =
    let option = option_at c.options-test.true c.u16_of-code.ensures.value c.u16_of-len.ensures.value c.if-code-eq0.false in
    record {
      reads = c.options.invariant.reads _ (is_wrong option (rw c.from-value_len.ensures at c.if-after-end.false)
          (sym (rw c.from-value_len.ensures at c.with_option.ensures.value) ∙ c.in-Err.is));
    }

pub options-preserved : goal.options-preserved
options-preserved c =
    let option = option_at c.options-test.true c.u16_of-code.ensures.value c.u16_of-len.ensures.value c.if-code-eq0.false in
    record {
      in_words = omega arith;
      reads = λ answer rest. c.options.invariant.reads answer (tells option (rw c.from-value_len.ensures at c.if-after-end.false)
          (sym (rw c.from-value_len.ensures at c.with_option.ensures.value) ∙ c.in-Ok.is) (rw c.from-value_len.ensures at rest));
    }

pub returns : goal.returns
returns c = record { reads = c.options.invariant.reads _ (none_left c.options-test.false) }
