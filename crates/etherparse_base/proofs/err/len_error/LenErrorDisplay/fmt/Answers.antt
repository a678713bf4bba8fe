use Rattle.std.proofs.Common.{refl}
use Rattle.etherparse_base.proofs.TextParts.{three_written}
use Rattle.etherparse_base.proofs.err.len_error.LenErrorDisplay.fmt.Goals as goal

pub returns : goal.returns
returns g c = record {
  writes = λ plain ok.
      let lengths = c.in_ok-fmt_lengths.ensures.text plain refl in
      let place = c.in_ok-fmt_place.ensures.text lengths.plain refl in
      three_written _ _ _ _ _ _ _ _ lengths place (c.write_str.ensures.writes place.plain ok);
  styled = tt;
}
