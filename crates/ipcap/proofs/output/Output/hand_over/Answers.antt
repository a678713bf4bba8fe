use Rattle.std.proofs.Common.{ℕ, ◌≡◌, ◌+◌, List, ◌++◌, drop, take, arith, append_assoc, take-append-drop}
use Rattle.std.proofs.lemmas.Grind.{common_steps}
use Rattle.std.proofs.KnownBytes.{Appends-trans}
use Rattle.std.proofs.lemmas.List.{drop-drop, take_rest}
use Rattle.ipcap.proofs.output.Output.hand_over.Goals as goal

passed_more : (a b xs : List ℕ) (p n : ℕ) → a ≡ b ++ drop p xs → a ≡ (b ++ take n (drop p xs)) ++ drop (p + n) xs
passed_more a b xs p n e = let parts = take-append-drop n (drop p xs) in grind (arith, append_assoc, drop-drop)

pub writes-preserved : goal.writes-preserved
writes-preserved g c =
    let k = c.writes.invariant.kept in
    record {
      kept = record {
        passed = k.passed ++ take c.in-Ok.n (drop c.writes.self.passed c.writes.self.text.items);
        gets = Appends-trans _ _ _ _ _ k.gets (rw (c.as_slice.ensures.value, take_rest c.writes.self.text.items c.writes.self.passed) at c.in-Ok.ensures.bytes);
        prints = passed_more _ k.passed c.writes.self.text.items c.writes.self.passed c.in-Ok.n k.prints;
      };
      line = c.writes.invariant.line;
      unfailed_writes = λ x. c.writes.invariant.unfailed_writes (c.in-Ok.ensures.unfailed x);
    }

pub returns : goal.returns
returns g c = record { all = grind (arith, common_steps); failed = grind (arith, common_steps); kept = grind (arith, common_steps); line = grind (arith, common_steps); room = grind (arith, common_steps); unfailed_writes = grind (arith, common_steps) }

pub returns-in-Err : goal.returns-in-Err
returns-in-Err g c = record { all = grind (arith, common_steps); failed = grind (arith, common_steps); kept = grind (arith, common_steps); line = grind (arith, common_steps); room = grind (arith, common_steps); unfailed_writes = grind (arith, common_steps) }
