use Rattle.std.proofs.Common.{◌≡◌, ◌-◌, length}
use Rattle.packet_parts.proofs.OriginalSources.{SourceAt}
use Rattle.packet_parts.proofs.original_source.after_options.Given as goal

abbrev pub invariant-options : goal.invariant-options
invariant-options l = (l.left.options.now ≡ l.fn.options) × SourceAt l.fn.source l.fn.options l.left.offset l.last

abbrev pub decreases-options : goal.decreases-options
decreases-options l = length l.fn.options - l.left.offset
