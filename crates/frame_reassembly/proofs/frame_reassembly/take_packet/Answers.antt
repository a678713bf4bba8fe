use Rattle.std.proofs.Common.{ap, arith, inl, inr, length, refl, ◌∙◌}
use Rattle.std.proofs.lemmas.Bool.{false≢true}
use Rattle.std.proofs.lemmas.List.{get_or-map, length-map}
use Rattle.packet_reassembly.specs.Pool.{no_slot}
use Rattle.packet_reassembly.specs.declared.ip_defrag_packet.IpDefragPacketError.TheVariants as why
use Rattle.frame_reassembly.specs.Known.{known_of}
use Rattle.frame_reassembly.proofs.frame_reassembly.take_packet.Goals as goal

pub returns-in-Ok-None-clause-takes : goal.returns-in-Ok-None-clause-takes
returns-in-Ok-None-clause-takes c = inr (record { why = inl (rw c.in-Ok-None.field-0-is at c.in-Ok-None.ensures.none); slots = refl; counts = refl; none = refl })

pub returns-in-Err-clause-takes : goal.returns-in-Err-clause-takes
returns-in-Err-clause-takes c = inr (record { why = inr (inl (why.Packet c.in-Err.field-0, c.in-Err.ensures.refused)); slots = refl; counts = refl; none = refl })

pub returns-then-has_wrong_header_checksum-clause-takes : goal.returns-then-has_wrong_header_checksum-clause-takes
returns-then-has_wrong_header_checksum-clause-takes c = inr (record { why = inr (inr (c.if-has_wrong_header_checksum.ensures.value.0 refl)); slots = refl; counts = refl; none = refl })

pub follow-requires-clause-has : goal.follow-requires-clause-has
follow-requires-clause-has c =
    let adds = rw c.in-Ok-Some-add_packet.field-0-is at c.in-Ok-Some-add_packet.ensures.added in (_, adds.is_added.has)

pub follow-requires-clause-state : goal.follow-requires-clause-state
follow-requires-clause-state c =
    let adds = rw c.in-Ok-Some-add_packet.field-0-is at c.in-Ok-Some-add_packet.ensures.added in adds.is_added.state

pub follow-requires-clause-headers : goal.follow-requires-clause-headers
follow-requires-clause-headers c = c.in-Ok-Some-add_packet.ensures.headers c.requires.headers

pub returns-in-Ok-None-add_packet-clause-headers :
    goal.returns-in-Ok-None-add_packet-clause-headers
returns-in-Ok-None-add_packet-clause-headers c = c.in-Ok-None-add_packet.ensures.headers c.requires.headers

pub returns-in-Err-add_packet-clause-headers : goal.returns-in-Err-add_packet-clause-headers
returns-in-Err-add_packet-clause-headers c = c.in-Err-add_packet.ensures.headers c.requires.headers

pub returns-in-Ok-Some-add_packet-clause-takes : goal.returns-in-Ok-Some-add_packet-clause-takes
returns-in-Ok-Some-add_packet-clause-takes c =
    let arm = c.in-Ok-Some-add_packet in
    let adds = rw (arm.field-0-is, c.requires.timeout) at arm.ensures.added in
    let within = rw adds.is_added.others.0 at adds.is_added.has.0 in
    let follows = rw (c.deref.ensures.0, c.all_known-known.ensures.all, get_or-map known_of c.args.pool.now.slots.now arm.added.slot no_slot _ within) at c.follow.ensures.follows in
    inl (record { intact = λ w. false≢true (c.if-has_wrong_header_checksum.ensures.value.1 w); mid = c.add_packet.new.self.slots.now; added = arm.added; adds = adds; follows = follows })

pub returns-in-Ok-None-add_packet-clause-takes : goal.returns-in-Ok-None-add_packet-clause-takes
returns-in-Ok-None-add_packet-clause-takes c =
    let arm = c.in-Ok-None-add_packet in
    inr (record { why = inl (rw arm.field-0-is at arm.ensures.none); slots = rw arm.field-0-is at arm.ensures.kept; counts = refl; none = refl })

pub returns-in-Err-add_packet-clause-takes : goal.returns-in-Err-add_packet-clause-takes
returns-in-Err-add_packet-clause-takes c =
    let arm = c.in-Err-add_packet in
    inr (record { why = inr (inl (arm.field-0, arm.ensures.refused)); slots = arm.ensures.unchanged; counts = refl; none = refl })

pub bounds-deref-added : goal.bounds-deref-added
bounds-deref-added c =
    let adds = rw c.in-Ok-Some-add_packet.field-0-is at c.in-Ok-Some-add_packet.ensures.added in
    rw (c.deref.ensures.0, c.all_known-known.ensures.all, length-map, ← adds.is_added.others.0) adds.is_added.has.0

pub offset_bounds-deref-added : goal.offset_bounds-deref-added
offset_bounds-deref-added c =
    let adds = rw c.in-Ok-Some-add_packet.field-0-is at c.in-Ok-Some-add_packet.ensures.added in
    omega (arith, adds.is_added.has.0, adds.is_added.others.0, c.requires.few)

pub returns-in-Ok-Some-add_packet-clause-slots : goal.returns-in-Ok-Some-add_packet-clause-slots
returns-in-Ok-Some-add_packet-clause-slots c =
    let adds = rw c.in-Ok-Some-add_packet.field-0-is at c.in-Ok-Some-add_packet.ensures.added in
    c.follow.ensures.slots ∙ adds.is_added.others.0

pub returns-in-Ok-Some-add_packet-clause-timeout : goal.returns-in-Ok-Some-add_packet-clause-timeout
returns-in-Ok-Some-add_packet-clause-timeout c = c.follow.ensures.timeout ∙ c.add_packet.ensures.timeout ∙ c.requires.timeout

pub returns-in-Ok-None-add_packet-clause-slots : goal.returns-in-Ok-None-add_packet-clause-slots
returns-in-Ok-None-add_packet-clause-slots c = let arm = c.in-Ok-None-add_packet in ap length (rw arm.field-0-is at arm.ensures.kept)

pub returns-in-Err-add_packet-clause-slots : goal.returns-in-Err-add_packet-clause-slots
returns-in-Err-add_packet-clause-slots c = ap length c.in-Err-add_packet.ensures.unchanged
