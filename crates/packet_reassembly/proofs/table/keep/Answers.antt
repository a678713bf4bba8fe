use Rattle.std.proofs.Common.{◌+◌, ◌-◌, arith}
use Rattle.packet_reassembly.proofs.TableLaws.{kept-new, takes-new}
use Rattle.packet_reassembly.proofs.table.keep.Goals as goal

pub returns-clause-kept : goal.returns-clause-kept
returns-clause-kept c =
    rw (c.copy_from_slice.ensures.after, c.max.ensures) (kept-new c.requires.kept c.requires.fits c.requires.new c.mark-count.ensures.marked (c.args.range.end - c.args.range.start) (c.args.extent.units + c.mark-count.result)
    (omega (arith, c.requires.fits.len)) (omega (arith, c.mark-count.ensures.count)))

pub returns-clause-takes : goal.returns-clause-takes
returns-clause-takes c =
    rw (c.copy_from_slice.ensures.after, c.max.ensures) (takes-new c.requires.kept c.requires.fits c.requires.new c.mark-count.ensures.marked (c.args.range.end - c.args.range.start) (c.args.extent.units + c.mark-count.result)
    (omega (arith, c.requires.fits.len)))
