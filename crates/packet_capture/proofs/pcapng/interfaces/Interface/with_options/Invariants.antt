use Rattle.std.proofs.Common.{◌≡◌, ◌-◌, ◌%◌}
use Rattle.packet_capture.specs.Pcapng.Interfaces.{InterfaceReading, ReadsOptions}
use Rattle.packet_capture.proofs.pcapng.interfaces.Interface.with_options.Given as goal

abbrev pub invariant-options : goal.invariant-options
invariant-options l = record {
  in_words : l.place % 4 ≡ 0;
  reads : (answer : InterfaceReading) → ReadsOptions l.order l.block l.place l.interface answer
      → ReadsOptions l.order l.block 16 l.fn.self answer;
}

abbrev pub decreases-options : goal.decreases-options
decreases-options l = l.end - l.place
