use Rattle.std.proofs.KnownBytes.{Appends-trans}
use Rattle.iphead.proofs.lines.write_upper_layer.Goals as goal

pub returns : goal.returns
returns g c = record {
  appends = Appends-trans _ _ _ _ _ c.in_ok-write_field.ensures.appends
      (Appends-trans _ _ _ _ _ c.in_ok-write_field-2.ensures.appends c.in_ok-write_field-3.ensures.appends);
}
