use Rattle.std.proofs.Common.{◌≡◌, ◌++◌, ◌∙◌, arith, length}
use Rattle.std.proofs.lemmas.Grind.{common_steps}
use Rattle.etherparse.proofs.Ipv4Reading.{read_as}
use Rattle.uses.proofs.send.ipv4_front_for.Goals as goal

pub returns-clause-received : goal.returns-clause-received
returns-clause-received c = λ padding read h.
    let same = read_as (c.to_bytes.ensures.read_again (c.args.payload.now ++ padding)) h.begins in
    let len : h.len ≡ length c.args.payload.now = omega (arith, rw (same.0, c.set_checksum.ensures.set, c.in-Ok-set_payload_len.ensures.set) at h.says) in
    h.cut ∙ rw (same.1, len) (grind (arith, common_steps))
