use Rattle.std.proofs.Common.{ℕ, ◌≡◌, Err, IfOk, IfSome, IsSome, List, None, Ok, Option, Result, Some, inl, inr, refl, subst}
use Rattle.packet_reassembly.specs.PacketAdded.{IsPacketAdded}
use Rattle.packet_reassembly.specs.Pool.{IsState, slot_at}
use Rattle.packet_reassembly.specs.declared.ip_defrag_pool.Added.{Added}
use Rattle.packet_reassembly.specs.declared.ip_defrag_pool.DatagramState.{DatagramState}
use Rattle.packet_reassembly.specs.declared.ip_defrag_pool.IpDefragSlot.{IpDefragSlot}
use Rattle.uses.proofs.monitor.watch.Goals as goal

no_packet : {E : Type 0} (r : Result (Option ℕ) E) (found : Option ℕ) → r ≡ Ok found → found ≡ None → IfOk r IsSome → ⊥
no_packet (Ok (Some len)) found is none some = absurd (cc)
no_packet (Ok None) found is none some = absurd (cc)
no_packet (Err e) found is none some = absurd (cc)

is_added : (old : List IpDefragSlot) (packet : List ℕ) (timeout now : ℕ) (new : List IpDefragSlot) (added : Added) (found : Option Added) → found ≡ Some added
    → IfSome found (IsPacketAdded old packet None None timeout now new) → IsPacketAdded old packet None None timeout now new added
is_added old packet timeout now new added found is has = subst (λ (o : Option Added). IfSome o (IsPacketAdded old packet None None timeout now new)) is has

pub returns-in_default : goal.returns-in_default
returns-in_default c =
    let slots = c.add_packet.new.self.slots.now in
    let p = is_added c.args.pool.now.slots.now c.args.packet.now c.args.pool.now.timeout c.args.now slots c.in-Ok-Some.added _ c.in-Ok-Some.field-0-is c.in-Ok-Some.ensures.added in
    record {
      seen = inr (record { after = slots; added = c.in-Ok-Some.added; is_added = p; state = inl c.in_default.not-Complete });
      headers = c.add_packet.ensures.headers c.requires.headers;
      pool = inr (inl (record { added = c.in-Ok-Some.added; is_added = p; state = c.in_default.not-Complete }));
      timeout = c.add_packet.ensures.timeout;
      written = refl;
    }

pub unreachable-requires : goal.unreachable-requires
unreachable-requires c =
    let slots = c.add_packet.new.self.slots.now in
    let p = is_added c.args.pool.now.slots.now c.args.packet.now c.args.pool.now.timeout c.args.now slots c.in-Ok-Some.added _ c.in-Ok-Some.field-0-is c.in-Ok-Some.ensures.added in
    let first = (c.add_packet.ensures.headers c.requires.headers).each c.in-Ok-Some.added.slot _ p.is_added.has in
    let (datagram, whole) = subst (λ (s : DatagramState). IsState (slot_at slots c.in-Ok-Some.added.slot).buf s) c.in-Complete.is p.is_added.state in
    no_packet c.write_packet-written.result c.in-Ok.found c.in-Ok.is c.in-None.is (c.write_packet-written.ensures.some first datagram whole)
