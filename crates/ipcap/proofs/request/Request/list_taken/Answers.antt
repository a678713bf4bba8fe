use Rattle.std.proofs.Common.{None, Some, ap, length, length-take-le, sym, take, ◌≡◌, ◌∙◌}
use Rattle.ipcap.specs.Reassembled.{head_of_whole}
use Rattle.ipcap.proofs.Runs.{on_ok}
use Rattle.ipcap.proofs.Taken.{told_as}
use Rattle.ipcap.proofs.request.Request.list_taken.Goals as goal

pub returns-in_default-clause-told : goal.returns-in_default-clause-told
returns-in_default-clause-told g c = on_ok c.list_frame.result
    (λ t. told_as _ _ c.args.totals.now c.completed.new.totals c.list_frame.new.totals _ _ None c.args.head.now c.args.bytes.now c.args.frame.now _ _ (rw c.memory.view_is at c.in_default.ensures.completes) t)
    c.list_frame.ensures.told

pub returns-clause-told : goal.returns-clause-told
returns-clause-told g c =
    let whole = take c.in-Some.len c.completed.new.out in
    let len : length whole ≡ c.in-Some.len = length-take-le c.in-Some.len c.completed.new.out c.in-Some.ensures.within in
    let head : c.head_of_whole-head.result ≡ head_of_whole c.args.head.now (length whole) = c.head_of_whole-head.ensures.value ∙ ap (head_of_whole c.args.head.now) (sym len) in
    on_ok c.list_frame-2.result
    (λ t. told_as _ _ c.args.totals.now c.completed.new.totals c.list_frame-2.new.totals _ _ (Some whole) c.args.head.now c.args.bytes.now c.args.frame.now _ _ (rw c.memory.view_is at c.in-Some.ensures.completes) (rw head at t))
    c.list_frame-2.ensures.told
