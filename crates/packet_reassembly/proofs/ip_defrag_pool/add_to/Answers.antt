use Rattle.std.proofs.Common.{◌∙◌, arith, inl, inr}
use Rattle.packet_reassembly.proofs.ip_defrag_pool.add_to.Goals as goal

pub returns-clause-added : goal.returns-clause-added
returns-clause-added c =
    let p = c.place-slot.ensures.placed in
    let a = c.add_at-state.ensures in
    record {
      others = (a.others.0 ∙ p.others.0, λ j other. a.others.1 j other ∙ p.others.1 j other);
      has = (omega (arith, a.others.0, p.has.0), a.id ∙ p.has.1);
      takes = elim p.place [
        | inl (on, since, headers, ecn, buf) ↦ inl (on, a.since ∙ since, rw headers at a.headers, rw ecn at a.ecn, rw buf at a.takes)
        | inr (begins, since, headers, ecn, buf) ↦ inr (begins, a.since ∙ since, rw headers at a.headers, rw ecn at a.ecn, rw buf at a.takes)
      ];
      state = a.state;
    }
