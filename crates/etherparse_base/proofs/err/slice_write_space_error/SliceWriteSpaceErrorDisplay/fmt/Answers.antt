use Rattle.std.proofs.Common.{refl}
use Rattle.etherparse_base.proofs.TextParts.{three_written}
use Rattle.etherparse_base.proofs.err.slice_write_space_error.SliceWriteSpaceErrorDisplay.fmt.Goals as goal

pub returns : goal.returns
returns g c = record {
  writes = λ plain ok.
      let space = c.in_ok-fmt_space.ensures.text plain refl in
      let start = c.in_ok-fmt_start.ensures.text space.plain refl in
      three_written _ _ _ _ _ _ _ _ space start (c.write_str.ensures.writes start.plain ok);
  styled = tt;
}
