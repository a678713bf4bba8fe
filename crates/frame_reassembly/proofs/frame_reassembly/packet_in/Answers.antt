use Rattle.std.proofs.Common.{List, None, ap, append_assoc, arith, length, length-append, rules, sym, take, take_at, ◌-◌, ◌∙◌, ◌++◌, ◌≡◌}
use Rattle.std.specs.List.{concat}
use Rattle.packet.specs.Vlan.{tags_of}
use Rattle.frame_reassembly.proofs.frame_reassembly.packet_in.Goals as goal

-- what stands before the end of a list
before_end : {A : Type 0} (s t r : List A) → s ≡ t ++ r → s ≡ take (length s - length r) s ++ r
before_end s t r e = rw (e, take_at t r (length (t ++ r) - length r) (omega (arith, length-append t r)))

pub returns-clause-found : goal.returns-clause-found
returns-clause-found c =
    let has = c.in-Ok.ensures.found in
    let tags = tags_of c.in-Ok.layers.vlan in
    let whole = has.begins.whole ∙ (ap (λ s. has.begins.front ++ s) has.tags.whole ∙ sym (append_assoc has.begins.front (concat tags) c.in-Ok.layers.payload.now)) in
    let goes_on : c.in-Ok.layers.stop ≡ None = let none = c.if-is_some.ensures in grind arith in
    let ip = c.if-not-carries_ip.ensures.value in
    let front = before_end c.args.frame.now (has.begins.front ++ concat tags) c.in-Ok.layers.payload.now whole in
    (tags, search (rules, has, goes_on, ip, front), c.vlan_ids-outer.ensures.outer, c.vlan_ids-outer.ensures.inner)
