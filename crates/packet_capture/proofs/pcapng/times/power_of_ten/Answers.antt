use Rattle.std.proofs.Common.{arith}
use Rattle.packet_capture.proofs.Powers.{power_of_ten_fits, power_of_ten_positive}
use Rattle.packet_capture.proofs.pcapng.times.power_of_ten.Goals as goal

pub pow-requires : goal.pow-requires
pow-requires c = grind (arith, power_of_ten_fits)

pub returns-clause-positive : goal.returns-clause-positive
returns-clause-positive c = grind (arith, power_of_ten_positive)
