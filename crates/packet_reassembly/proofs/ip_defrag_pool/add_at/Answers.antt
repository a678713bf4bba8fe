use Rattle.std.proofs.Common.{◌≡◌, ◌∙◌, ap, sym}
use Rattle.std.proofs.lemmas.List.{get_or-set_other, get_or-set_same, get_or_read, length-set}
use Rattle.packet_reassembly.specs.Pool.{no_slot, slot_at}
use Rattle.packet_reassembly.proofs.ip_defrag_pool.add_at.Goals.{in-Some, in_default}
use Rattle.packet_reassembly.proofs.ip_defrag_pool.add_at.Goals as goal

-- all but the headers of the slot is as it was
same : (c : goal.After-state_of) → let was = slot_at c.args.slots.now c.args.k in
    (c.match-first.slot.id ≡ was.id) × (c.match-first.slot.since ≡ was.since) × (c.match-first.slot.ecn ≡ was.ecn) × (c.match-first.slot.buf ≡ was.buf)
same c =
    let was = sym c.index-slots-k.is ∙ get_or_read c.args.slots.now c.args.k c.index-slots-k.result c.requires.within c.index-slots-k.is no_slot in
    elim c.match-first.branch [
      | in-Some w ↦ let s = rw was at w.slot-is in (ap (λ s. s.id) s, ap (λ s. s.since) s, ap (λ s. s.ecn) s, ap (λ s. s.buf) s)
      | in_default w ↦ let s = rw was at w.slot-is in (ap (λ s. s.id) s, ap (λ s. s.since) s, ap (λ s. s.ecn) s, ap (λ s. s.buf) s)
    ]

pub returns-clause-others : goal.returns-clause-others
returns-clause-others c = (length-set c.args.slots.now c.args.k _, λ j other. get_or-set_other c.args.slots.now c.args.k j _ no_slot other)

pub returns-clause-id : goal.returns-clause-id
returns-clause-id c = let within = c.requires.within in rw get_or-set_same (same c).0

pub returns-clause-since : goal.returns-clause-since
returns-clause-since c = let within = c.requires.within in rw get_or-set_same (same c).1

pub returns-clause-ecn : goal.returns-clause-ecn
returns-clause-ecn c = let within = c.requires.within in rw get_or-set_same (rw (← (same c).2) c.with-ecn.ensures.value)

pub returns-clause-takes : goal.returns-clause-takes
returns-clause-takes c = let within = c.requires.within in rw get_or-set_same (rw (← (same c).3) c.add_with.ensures.takes)

pub returns-clause-state : goal.returns-clause-state
returns-clause-state c = let within = c.requires.within in rw get_or-set_same c.state_of.ensures.state
