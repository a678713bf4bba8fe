use Rattle.std.proofs.Common.{◌≡◌, ◌++◌, length, arith, refl, subst}
use Rattle.packet_parts.specs.Checksum.{ipv6_pseudo_header}
use Rattle.packet_rewriting.specs.UpperChecksum.{complement_of, with_checksum}
use Rattle.packet_rewriting.proofs.ChecksumWords.{even_header}
use Rattle.packet_rewriting.proofs.checksum.calc_checksum_ipv6.Goals as goal

pub returns-in-Ok-try_from-clause-computed : goal.returns-in-Ok-try_from-clause-computed
returns-in-Ok-try_from-clause-computed c =
    let told : c.in-Ok-try_from.len ≡ length c.in-Ok.covered.now = grind (arith, c.in-Ok-try_from.is, c.try_from.ensures) in
    record {
      covered = c.in-Ok.covered.now;
      covers = c.in-Ok.ensures.found;
      fits = grind (arith, c.in-Ok-try_from.is, c.try_from.ensures);
      value = subst (λ n. c.complement.result ≡ complement_of c.args.number (ipv6_pseudo_header c.args.source c.args.destination c.args.number n ++ with_checksum c.args.number 0 c.in-Ok.covered.now)) told
          (c.complement.ensures.value (ipv6_pseudo_header c.args.source c.args.destination c.args.number c.in-Ok-try_from.len) (even_header c.args.source c.args.destination _ (grind arith) (grind arith) refl) c.ipv6_pseudo_header-before.ensures.sum);
    }
