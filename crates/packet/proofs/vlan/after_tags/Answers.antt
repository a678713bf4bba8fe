use Rattle.std.proofs.Common.{ℕ, ◌++◌, ◌∙◌, Some, ap, append_assoc, arith, length, length-append, sym}
use Rattle.std.proofs.lemmas.List.{append-nil}
use Rattle.packet.proofs.vlan.after_tags.Goals as goal

pub overflow_sub-frame_len-in-None-tag : goal.overflow_sub-frame_len-in-None-tag
overflow_sub-frame_len-in-None-tag c = omega (arith, ap length c.in-Some.ensures.found, length-append {A = ℕ})

pub returns-in-None-clause-ends : goal.returns-in-None-clause-ends
returns-in-None-clause-ends c = record { few = omega arith; tag = sym c.if-not-is_tag.ensures.value; short = c.in-None.ensures.none; error = c.tag_error.ensures.value }

pub returns-then-not-is_tag-2-clause-tags : goal.returns-then-not-is_tag-2-clause-tags
returns-then-not-is_tag-2-clause-tags c =
    record { tags = (sym c.if-not-is_tag.ensures.value, c.in-Some.found.0.len, ap Some c.ether_type.ensures.bytes_2_3); whole = rw append-nil c.in-Some.ensures.found }

pub returns-in-Some-tag-clause-tags : goal.returns-in-Some-tag-clause-tags
returns-in-Some-tag-clause-tags c =
    let second = rw c.ether_type.ensures.bytes_2_3 at (sym c.if-not-is_tag-2.ensures.value) in
    record {
      tags = (sym c.if-not-is_tag.ensures.value, c.in-Some.found.0.len, (second, c.in-Some-tag.inner.len, ap Some c.ether_type-in-Some-tag.ensures.bytes_2_3));
      whole = rw (append-nil, append_assoc) (c.in-Some.ensures.found ∙ ap (λ x. c.in-Some.found.0.slice.now ++ x) c.in-Some-tag.ensures.found);
    }

pub returns-in-None-tag-clause-tags : goal.returns-in-None-tag-clause-tags
returns-in-None-tag-clause-tags c =
    record { tags = (sym c.if-not-is_tag.ensures.value, c.in-Some.found.0.len, ap Some c.ether_type.ensures.bytes_2_3); whole = rw append-nil c.in-Some.ensures.found }

pub returns-in-None-tag-clause-ends : goal.returns-in-None-tag-clause-ends
returns-in-None-tag-clause-ends c =
    record { few = omega arith; tag = sym c.if-not-is_tag-2.ensures.value; short = c.in-None-tag.ensures.none; error = c.tag_error-in-None-tag.ensures.value }
