use Rattle.std.proofs.Common.{◌+◌, ◌*◌, ◌^◌, ap, sym}
use Rattle.etherparse.specs.IpEcn.{ecn_value}
use Rattle.packet_rewriting.proofs.Readdressed.{header_fits_ipv4, marks_ipv4}
use Rattle.packet_rewriting.proofs.fields.set_dscp_ipv4.Goals as goal

pub put_mark-requires : goal.put_mark-requires
put_mark-requires c = record { enough = header_fits_ipv4 c.in-Ok.ensures.reads.reads }

pub returns-clause-changed : goal.returns-clause-changed
returns-clause-changed c =
    let update = c.set_dscp.ensures in
    marks_ipv4 (λ h. record h { dscp = c.args.dscp }) _ _ c.in-Ok.ensures.reads.reads update.set update.in_place (ap (λ h. h.dscp * 2 ^ 2 + ecn_value h.ecn) (sym update.set)) c.put_mark.ensures.written
