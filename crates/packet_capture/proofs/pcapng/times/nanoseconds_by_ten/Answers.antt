use Rattle.std.proofs.Common.{◌^◌, arith}
use Rattle.packet_capture.proofs.Powers.{nanoseconds_below, nanoseconds_of_long, nanoseconds_of_short, nanoseconds_of_shortest}
use Rattle.packet_capture.proofs.pcapng.times.nanoseconds_by_ten.Goals as goal
use Rattle.packet_capture.proofs.pcapng.times.nanoseconds_by_ten.Goals.{then-power-lt10, else-power-lt10+then-power-lt29, else-power-lt10+else-power-lt29}

value : goal.returns
value c = record {
  value = elim c.if-power-lt10.branch [
    | then-power-lt10 w ↦ grind (arith, nanoseconds_of_long)
    | else-power-lt10+then-power-lt29 w ↦ grind (arith, nanoseconds_of_short)
    | else-power-lt10+else-power-lt29 w ↦ grind (arith, nanoseconds_of_shortest)
  ];
}

pub overflow_cast-result : goal.overflow_cast-result
overflow_cast-result c = omega (arith, (value c).value, nanoseconds_below c.args.part (10 ^ c.args.power) c.requires)

pub returns : goal.returns
returns c = value c
