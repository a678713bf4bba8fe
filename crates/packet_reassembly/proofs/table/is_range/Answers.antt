use Rattle.std.proofs.Common.{◌≡◌, arith}
use Rattle.std.proofs.lemmas.Grind.{common_steps}
use Rattle.packet_reassembly.specs.Table.{has_more}
use Rattle.packet_reassembly.proofs.TableLaws.{same_if}
use Rattle.packet_reassembly.proofs.table.is_range.Goals as goal

pub returns-then-range-has_more : goal.returns-then-range-has_more
returns-then-range-has_more c =
    let more : c.args.range.more_fragments ≡ has_more c.args.extent c.args.range.end = grind (arith, common_steps) in
    let same = same_if c.requires.table c.requires.fits c.requires.begins c.div_ceil.result (omega (arith, c.div_ceil.ensures)) c.requires.alone c.requires.before_end more in
    record { same = (λ t. same.0 (c.ends_before.ensures.ends.0 t), λ e. c.ends_before.ensures.ends.1 (same.1 e)) }
