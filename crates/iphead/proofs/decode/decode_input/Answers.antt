use Rattle.std.proofs.Common.{◌/◌, arith, length}
use Rattle.std.proofs.lemmas.List.{length-take-le}
use Rattle.hex.proofs.HexLemmas.{IsOk-decode_sized}
use Rattle.iphead.proofs.decode.decode_input.Goals as goal

pub returns-in_err-ok-clause-found : goal.returns-in_err-ok-clause-found
returns-in_err-ok-clause-found c =
    let sized = IsOk-decode_sized c.args.digits.now (length c.args.digits.now / 2) in grind (arith, sized, length-take-le, c.decode_to_slice.ensures.value)

pub returns-clause-found : goal.returns-clause-found
returns-clause-found c =
    let sized = IsOk-decode_sized c.args.digits.now (length c.args.digits.now / 2) in grind (arith, sized, length-take-le, c.decode_to_slice.ensures.value)
