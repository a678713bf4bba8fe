use Rattle.std.proofs.Common.{ℕ, ◌≡◌, ◌↔◌, ◌<◌, [], List, None, Option, Some, arith, length, refl, rules, take}
use Rattle.std.proofs.lemmas.List.{map_more, take_all}
use Rattle.packet_reassembly.specs.Arrivals.{HaveConflict, StandsFor, came}
use Rattle.packet_reassembly.specs.Fragment.{Fragment, fragment}
use Rattle.packet_reassembly.specs.declared.reassemble.IpFragment.{IpFragment}
use Rattle.packet_reassembly.proofs.Arrivals.{whole_stands}
use Rattle.packet_reassembly.proofs.reassemble.reassemble.Goals as goal

none_stands : StandsFor (Some []) []
none_stands = search rules

discarded : (value : Option (List Fragment)) (xs : List Fragment) → StandsFor value xs → ((value ≡ None) ↔ HaveConflict xs)
discarded None xs stands = (λ _. stands, λ _. refl)
discarded (Some kept) xs stands = (λ is. absurd (cc), λ conflict. absurd (stands.1 conflict))

pub loop-fragment-init : goal.loop-fragment-init
loop-fragment-init c = rw c.new-buf.ensures.empty none_stands

pub loop-fragment-preserved : goal.loop-fragment-preserved
loop-fragment-preserved c =
    let i : ℕ = c.loop-fragment.fragment-index in
    let within : i < length c.args.fragments.now = omega arith in
    rw (map_more (λ (f : IpFragment). fragment f.offset f.more_fragments f.payload.now) c.args.fragments.now i c.fragment-item.result within, ← c.fragment-item.is)
    (c.add_or_pass.ensures.stands (came (take i c.args.fragments.now)) c.loop-fragment.invariant)

pub returns-clause-whole : goal.returns-clause-whole
returns-clause-whole c =
    let all = take_all c.loop-fragment.fragment-index c.args.fragments.now (omega arith) in
    whole_stands c.loop-fragment.buf (came c.args.fragments.now) (rw all at c.loop-fragment.invariant)

pub returns-clause-discarded : goal.returns-clause-discarded
returns-clause-discarded c =
    let all = take_all c.loop-fragment.fragment-index c.args.fragments.now (omega arith) in
    discarded c.loop-fragment.buf (came c.args.fragments.now) (rw all at c.loop-fragment.invariant)

pub returns-clause-stands : goal.returns-clause-stands
returns-clause-stands c =
    let all = take_all c.loop-fragment.fragment-index c.args.fragments.now (omega arith) in
    rw all at c.loop-fragment.invariant
