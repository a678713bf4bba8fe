use Rattle.std.proofs.Common.{[], ℕ, ◌≡◌, ◌+◌, ◌≤◌, List, ◌++◌, length, take, arith, sym, length-take-le}
use Rattle.std.proofs.lemmas.Grind.{common_steps}
use Rattle.std.proofs.Math.Seq.{take-append-add}
use Rattle.std.proofs.lemmas.List.{take-append-le}
use borrow.Rule.Slice.PartMut.{put_mid}
use Rattle.ipcap.proofs.input.Input.fill.Goals as goal

grown : (a k n : ℕ) (xs ys : List ℕ) → a ≤ length xs → n ≤ length ys → take (a + n) (put_mid a k xs ys) ≡ take a xs ++ take n ys
grown a k n xs ys fits few = grind (arith, take-append-le, take-append-add, length-take-le)

pub returns-clause-takes : goal.returns-clause-takes
returns-clause-takes g c = record {
  got = take c.in-Ok.n c.read.new.buf;
  reads = record { gave = c.in-Ok.ensures.bytes.0; count = omega (arith, length-take-le c.in-Ok.n c.read.new.buf c.in-Ok.ensures.bound.0) };
  takes = sym (grown c.args.self.now.len _ c.in-Ok.n c.args.self.now.bytes c.read.new.buf (omega arith) c.in-Ok.ensures.bound.0);
}

pub returns-clause-end : goal.returns-clause-end
returns-clause-end g c = grind (arith, common_steps)

pub returns-clause-failed : goal.returns-clause-failed
returns-clause-failed g c = grind (arith, common_steps)

pub returns-clause-more : goal.returns-clause-more
returns-clause-more g c = grind (arith, common_steps)

pub returns-clause-same : goal.returns-clause-same
returns-clause-same g c = grind (arith, common_steps)

pub returns-clause-unfailed : goal.returns-clause-unfailed
returns-clause-unfailed g c = grind (arith, common_steps)

pub returns-clause-unread : goal.returns-clause-unread
returns-clause-unread g c = grind (arith, common_steps)

pub returns-in_default : goal.returns-in_default
returns-in_default g c = record { end = grind (arith, common_steps); failed = grind (arith, common_steps); goes_on = grind (arith, common_steps); more = grind (arith, common_steps); same = grind (arith, common_steps); takes = record { got = []; reads = grind (arith, common_steps); takes = grind (arith, common_steps) }; unfailed = grind (arith, common_steps); unread = grind (arith, common_steps) }

pub returns-then-most-eq0 : goal.returns-then-most-eq0
returns-then-most-eq0 g c = record { end = grind (arith, common_steps); failed = grind (arith, common_steps); goes_on = grind (arith, common_steps); more = grind (arith, common_steps); same = grind (arith, common_steps); takes = grind (arith, common_steps); unfailed = grind (arith, common_steps); unread = grind (arith, common_steps) }
