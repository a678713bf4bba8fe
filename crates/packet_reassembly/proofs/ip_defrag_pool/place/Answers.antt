use Rattle.std.proofs.Common.{◌∙◌, inl, inr, refl, sym}
use Rattle.std.proofs.lemmas.Bool.{false≢true}
use Rattle.std.proofs.lemmas.List.{get_or_read}
use Rattle.packet_reassembly.specs.Pool.{no_slot}
use Rattle.packet_reassembly.proofs.ip_defrag_pool.place.Goals as goal

pub returns-then-is_expired : goal.returns-then-is_expired
returns-then-is_expired c =
    let found = c.in-Some.ensures.found in
    let is = sym c.index-slots-k.is ∙ get_or_read c.args.slots.now c.in-Some.k c.index-slots-k.result found.0.0 c.index-slots-k.is no_slot in
    let old = rw is at (c.is_expired.ensures.expired.0 c.if-is_expired.true) in
    let t = c.take_at.ensures in
    record {
      placed = record {
        others = t.others;
        has = (rw t.others.0 found.0.0, t.id);
        place = inr (record { place = inl (found, old); gives_up = t.given_up }, t.since, t.headers, t.ecn, t.empty);
      };
    }

pub returns-in-Some : goal.returns-in-Some
returns-in-Some c =
    let found = c.in-Some.ensures.found in
    let is = sym c.index-slots-k.is ∙ get_or_read c.args.slots.now c.in-Some.k c.index-slots-k.result found.0.0 c.index-slots-k.is no_slot in
    record {
      placed = record {
        others = (refl, λ _ _. refl);
        has = found.0;
        place = inl (record { has = found; young = λ old. false≢true (sym c.if-is_expired.false ∙ c.is_expired.ensures.expired.1 (rw is old)); none = refl }, refl, refl, refl, refl);
      };
    }

pub returns : goal.returns
returns c =
    let free = c.free-k.ensures.free in
    let t = c.take_at-2.ensures in
    record {
      placed = record {
        others = t.others;
        has = (rw t.others.0 free.within, t.id);
        place = inr (record { place = inr (c.in_default.ensures.none, free); gives_up = t.given_up }, t.since, t.headers, t.ecn, t.empty);
      };
    }
