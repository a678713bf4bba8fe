use Rattle.std.proofs.Common.{arith}
use Rattle.std.proofs.lemmas.Grind.{common_steps}
use Rattle.packet_capture.specs.Pcapng.Times.{resolution_of}
use Rattle.packet_capture.proofs.Powers.{power_of_ten_fits, power_of_two_fits, ten_does_not_fit, two_does_not_fit}
use Rattle.packet_capture.proofs.pcapng.times.Resolution.from_byte.Goals as goal

pub returns-in-0-to-19 : goal.returns-in-0-to-19
unfolding resolution_of
returns-in-0-to-19 c = grind (arith, common_steps, power_of_ten_fits)

pub returns-in-128-to-191 : goal.returns-in-128-to-191
unfolding resolution_of
returns-in-128-to-191 c = grind (arith, common_steps, power_of_two_fits)

pub returns-in_default : goal.returns-in_default
unfolding resolution_of
returns-in_default c = grind (arith, common_steps, ten_does_not_fit)

pub returns-in_default-2 : goal.returns-in_default-2
unfolding resolution_of
returns-in_default-2 c = grind (arith, common_steps, two_does_not_fit)
