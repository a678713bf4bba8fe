use Rattle.std.proofs.Common.{◌≡◌, [], arith, false, refl}
use Rattle.c_answers.proofs.Batch.{none, one_more}
use Rattle.c_answers.proofs.filter_frames.choose_none.Goals as goal

pub loop-i-init : goal.loop-i-init
loop-i-init c = none c.args.frames.now c.args.answers.now

pub loop-i-preserved : goal.loop-i-preserved
loop-i-preserved c = one_more c.args.frames.now c.args.answers.now c.loop-i.answers c.loop-i.i (record { bytes = record { ref_ptr = (0, 0); now = [] }; original_len = 0 }) false c.loop-i.invariant
    (omega (arith, c.loop-i-test.true, c.min-count.ensures)) (omega (arith, c.loop-i-test.true, c.min-count.ensures, c.loop-i.auto.answers)) refl

pub returns : goal.returns
returns c =
    let all : c.loop-i.i ≡ c.min-count.result = omega (arith, c.loop-i-test.false, c.loop-i.auto.i-end) in
    record { answers = record { as_many = c.min-count.ensures; answers = rw all at c.loop-i.invariant } }
