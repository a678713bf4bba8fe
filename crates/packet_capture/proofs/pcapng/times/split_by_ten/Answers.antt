use Rattle.std.proofs.Common.{◌^◌, ◌*◌, ◌/◌, ap, arith, sym, ◌∙◌}
use Rattle.std.proofs.Math.Nat.{div-eq_of_lt, mod-eq_of_lt}
use Rattle.packet_capture.proofs.Powers.{power_of_ten_above}
use Rattle.packet_capture.proofs.pcapng.times.split_by_ten.Goals as goal

pub nanoseconds_by_ten-requires-else-power-lt20 : goal.nanoseconds_by_ten-requires-else-power-lt20
nanoseconds_by_ten-requires-else-power-lt20 c = power_of_ten_above c.args.power c.args.timestamp c.if-power-lt20.false (omega arith)

pub returns-else-power-lt20-clause-whole : goal.returns-else-power-lt20-clause-whole
returns-else-power-lt20-clause-whole c = sym (div-eq_of_lt (power_of_ten_above c.args.power c.args.timestamp c.if-power-lt20.false (omega arith)))

pub returns-else-power-lt20-clause-part : goal.returns-else-power-lt20-clause-part
returns-else-power-lt20-clause-part c =
    c.nanoseconds_by_ten-else-power-lt20.ensures.value
    ∙ ap (λ n. n * 10 ^ 9 / 10 ^ c.args.power) (sym (mod-eq_of_lt (power_of_ten_above c.args.power c.args.timestamp c.if-power-lt20.false (omega arith))))
