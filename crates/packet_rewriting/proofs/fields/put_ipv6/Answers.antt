use Rattle.std.proofs.Common.{◌++◌, ap, arith, drop, length-take}
use Rattle.packet_rewriting.proofs.fields.put_ipv6.Goals as goal

pub copy_from_slice-requires : goal.copy_from_slice-requires
copy_from_slice-requires c = omega (arith, length-take 40 c.args.packet.now, c.to_bytes.ensures.layout.len, c.requires.enough)

pub returns : goal.returns
returns c = record {
  written = record { front = c.to_bytes.result; whole = ap (λ b. b ++ drop 40 c.args.packet.now) c.copy_from_slice.ensures.after; layout = c.to_bytes.ensures.layout };
}
