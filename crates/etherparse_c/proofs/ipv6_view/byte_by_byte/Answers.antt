use Rattle.std.proofs.Common.{sym, arith}
use Rattle.etherparse.proofs.Parts.{spread}
use Rattle.etherparse_c.proofs.ipv6_view.byte_by_byte.Goals as goal

pub returns : goal.returns
returns c = sym (spread c.args.address 16 (omega (arith, c.well_formed)))
