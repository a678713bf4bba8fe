use Rattle.std.proofs.Common.{ℕ, ◌*◌, ◌%◌, ◌^◌, ◌∙◌, arith}
use Rattle.std.proofs.lemmas.Simd.{zip2_splat}
use Rattle.etherparse_base.proofs.LaneSums.{lanes_joined}
use Rattle.etherparse_base.proofs.checksum.words.halves_sum_of.Goals as goal

pub returns : goal.returns
returns c =
    let high = zip2_splat (λ (a b : ℕ). a * 2 ^ b % 2 ^ 64) c.args.high 4 32 c.requires in
    record { halves = λ below. rw high (lanes_joined 0 c.args.total c.args.high (omega (arith, below)) ∙ omega arith) }
