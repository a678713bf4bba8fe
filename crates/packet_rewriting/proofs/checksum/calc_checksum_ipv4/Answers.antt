use Rattle.std.proofs.Common.{ℕ, ◌≡◌, ◌≢◌, ◌∙◌, ◌++◌, [], ap, length, arith, refl, subst, sym}
use Rattle.std.proofs.lemmas.Bool.Decides.{nat_tests}
use Rattle.packet_parts.specs.Checksum.{ipv4_pseudo_header}
use Rattle.packet_rewriting.specs.UpperChecksum.{complement_of, with_checksum}
use Rattle.packet_rewriting.proofs.ChecksumWords.{before_segment, even_header}
use Rattle.packet_rewriting.proofs.checksum.calc_checksum_ipv4.Goals as goal

pub returns-then-eq-clause-computed : goal.returns-then-eq-clause-computed
returns-then-eq-clause-computed c =
    let icmp : c.args.protocol ≡ 1 = grind (arith, nat_tests, c.eq.ensures, c.if-eq.true) in
    record {
      covered = c.in-Ok.covered.now;
      covers = c.in-Ok.ensures.found;
      fits = λ other. absurd (other icmp);
      value = rw icmp (rw icmp at c.complement.ensures.value [] refl (λ n. grind (arith, c.new.ensures.zero)));
    }

pub returns-in-Ok-try_from-clause-computed : goal.returns-in-Ok-try_from-clause-computed
returns-in-Ok-try_from-clause-computed c =
    let told : c.in-Ok-try_from.len ≡ length c.in-Ok.covered.now = grind (arith, c.in-Ok-try_from.is, c.try_from.ensures) in
    let other : c.args.protocol ≢ 1 = λ icmp. grind (arith, nat_tests, c.eq.ensures, c.if-eq.false) in
    let front = λ (n : ℕ). ipv4_pseudo_header c.args.source c.args.destination c.args.protocol n in
    record {
      covered = c.in-Ok.covered.now;
      covers = c.in-Ok.ensures.found;
      fits = λ _. grind (arith, c.in-Ok-try_from.is, c.try_from.ensures);
      value = subst (λ f. c.complement-in-Ok-try_from.result ≡ complement_of c.args.protocol (f ++ with_checksum c.args.protocol 0 c.in-Ok.covered.now))
          (ap front told ∙ sym (before_segment c.args.protocol (front (length c.in-Ok.covered.now)) other))
          (c.complement-in-Ok-try_from.ensures.value (front c.in-Ok-try_from.len) (even_header c.args.source c.args.destination _ (grind arith) (grind arith) refl) c.ipv4_pseudo_header-before.ensures.sum);
    }
