use Rattle.std.proofs.Common.{◌≡◌, ◌∙◌, ◌≤◌, Err, IsOk, Ok, Result, ap, arith, length, refl, rules}
use Rattle.std.proofs.lemmas.List.{length-take-le, take_all}
use Rattle.std.specs.Result.{MatchResult}
use Rattle.std.proofs.lemmas.Result.{MatchResult-at_ok}
use Rattle.etherparse.specs.declared.net.ipv4_header.Ipv4Header.{Ipv4Header}
use Rattle.packet_builder.proofs.Parts.{part_also}
use Rattle.packet_builder.proofs.writing.put_ipv4.Goals as goal

pub slice_bounds-put-end : goal.slice_bounds-put-end
slice_bounds-put-end c =
    let none = ap length (c.if-is_empty.ensures.empty.0 refl) in
    let enough : 20 ≤ length c.deref.result.now = omega (arith, c.to_bytes.ensures.layout.len, ap length c.deref.ensures.0, none) in
    omega (arith, length-take-le 20 c.deref.result.now enough)

pub put-requires : goal.put-requires
put-requires c =
    let none = ap length (c.if-is_empty.ensures.empty.0 refl) in
    let enough : 20 ≤ length c.deref.result.now = omega (arith, c.to_bytes.ensures.layout.len, ap length c.deref.ensures.0, none) in
    record { room = omega (arith, length-take-le 20 c.deref.result.now enough, c.requires.room, none) }

pub returns-then-is_empty-clause-end : goal.returns-then-is_empty-clause-end
returns-then-is_empty-clause-end c =
    let none = ap length (c.if-is_empty.ensures.empty.0 refl) in
    let enough : 20 ≤ length c.deref.result.now = omega (arith, c.to_bytes.ensures.layout.len, ap length c.deref.ensures.0, none) in
    omega (arith, length-take-le 20 c.deref.result.now enough, none, c.put.ensures.end)

pub returns-then-is_empty-clause-writes : goal.returns-then-is_empty-clause-writes
returns-then-is_empty-clause-writes c =
    let none = ap length (c.if-is_empty.ensures.empty.0 refl) in
    let all : length c.deref.result.now ≤ 20 = omega (arith, c.to_bytes.ensures.layout.len, ap length c.deref.ensures.0, none) in
    part_also c.put.ensures.writes (λ p is. rw (is ∙ take_all 20 c.deref.result.now all ∙ c.deref.ensures.0) c.to_bytes.ensures.layout)

-- an error that cannot be is none
no_error : {T E : Type 0} (r : Result T E) (P : T → Type 0) (N : Type 0) → MatchResult r P (λ _. ¬ N) → N → IsOk r
no_error (Ok x) P N h n = refl
no_error (Err e) P N h n = absurd (h n)

pub unwrap-requires : goal.unwrap-requires
unwrap-requires c = no_error c.clone.result _ _ c.clone.ensures.cases (search rules)

-- headers with the same fields are the same
same_header : (y h : Ipv4Header) → y.dscp ≡ h.dscp × (y.ecn ≡ h.ecn × (y.total_len ≡ h.total_len × (y.identification ≡ h.identification
    × (y.dont_fragment ≡ h.dont_fragment × (y.more_fragments ≡ h.more_fragments × (y.fragment_offset ≡ h.fragment_offset × (y.time_to_live ≡ h.time_to_live
    × (y.protocol ≡ h.protocol × (y.header_checksum ≡ h.header_checksum × (y.source ≡ h.source × (y.destination ≡ h.destination × y.options ≡ h.options)))))))))))
    → y ≡ h
same_header y h e = search rules

pub put_ipv4_with_options-requires : goal.put_ipv4_with_options-requires
put_ipv4_with_options-requires c =
    let same = same_header _ _ (MatchResult-at_ok _ _ _ c.unwrap.ensures c.clone.ensures.cases) in
    rw same c.requires

pub returns-clause-end : goal.returns-clause-end
returns-clause-end c =
    let same = same_header _ _ (MatchResult-at_ok _ _ _ c.unwrap.ensures c.clone.ensures.cases) in
    rw (← same) c.put_ipv4_with_options.ensures.end

pub returns-clause-writes : goal.returns-clause-writes
returns-clause-writes c =
    let same = same_header _ _ (MatchResult-at_ok _ _ _ c.unwrap.ensures c.clone.ensures.cases) in
    rw (← same) c.put_ipv4_with_options.ensures.writes
