use Rattle.uses.specs.Capture.{after_header, after_record}
use Rattle.uses.proofs.capture.first_wrong.Goals as goal

pub records-init : goal.records-init
records-init c = after_header c.in-Ok.ensures.reads c.if-header-ne101.false

pub records-preserved : goal.records-preserved
records-preserved c =
    let begins = rw c.in-Ok-Some.field-0-is at c.in-Ok-Some.ensures.reads in
    after_record c.records.invariant begins (rw c.if-is_wrong.false at c.is_wrong.ensures.no)
