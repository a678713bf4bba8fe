use Rattle.std.proofs.Common.{arith, sym}
use Rattle.std.proofs.Math.Nat.{div-eq_of_lt}
use Rattle.packet_capture.proofs.Powers.{power_of_two_above, nanoseconds_in_power_above}
use Rattle.packet_capture.proofs.pcapng.times.split_by_two.Goals as goal

pub returns-else-power-lt128-clause-whole : goal.returns-else-power-lt128-clause-whole
returns-else-power-lt128-clause-whole c = sym (div-eq_of_lt (power_of_two_above c.args.power c.args.timestamp c.if-power-lt128.false (omega arith)))

pub returns-else-power-lt128-clause-part : goal.returns-else-power-lt128-clause-part
returns-else-power-lt128-clause-part c = grind (arith, nanoseconds_in_power_above)
