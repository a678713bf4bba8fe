use Rattle.std.proofs.Common.{ℕ, ◌≡◌, ◌⊎◌, ◌∙◌, Bool, List, None, Option, Some, false, inl, inr, length, sym, true}
use Rattle.std.proofs.lemmas.Bool.{leb-false, leb-true}
use Rattle.std.specs.Option.{is_some}
use Rattle.etherparse.specs.declared.err.LenError.{LenError}
use Rattle.etherparse_net.specs.declared.ipv6_fragment_header.Ipv6FragmentHeader.{Ipv6FragmentHeader}
use Rattle.packet_parts.specs.Extensions.{EndsAs}
use Rattle.packet_reassembly.specs.HeaderChain.{LacksChain}
use Rattle.packet_reassembly.proofs.header_chain.has_whole_chain.Goals.{then-is_some-via-else-is_some+then-after, then-is_some-via-then-is_some}
use Rattle.packet_reassembly.proofs.header_chain.has_whole_chain.Goals as goal

-- the extension headers end within one, or in a later fragment
lacks : (later : Bool) (incomplete : Option LenError) (number : ℕ) (payload : List ℕ) (decided : Option Ipv6FragmentHeader) (upper : ℕ) (rest : List ℕ)
    → EndsAs later incomplete payload number decided upper rest → (is_some incomplete ≡ true) ⊎ (later ≡ true) → LacksChain number payload
lacks false (Some e) number payload decided upper rest ends cause = inl (record { decided = decided; upper = upper; rest = rest; e = e; ends = ends })
lacks true None number payload decided upper rest ends cause = inr (inr (record { decided = decided; upper = upper; rest = rest; ends = ends }))
lacks true (Some e) number payload decided upper rest ends cause = absurd ends
lacks false None number payload decided upper rest ends cause = elim cause [ inl e ↦ cc | inr e ↦ cc ]

-- they end before a header of the upper layer
ends_before : (later : Bool) (incomplete : Option LenError) (number : ℕ) (payload : List ℕ) (decided : Option Ipv6FragmentHeader) (upper : ℕ) (rest : List ℕ)
    → EndsAs later incomplete payload number decided upper rest → is_some incomplete ≡ false → later ≡ false → EndsAs false None payload number decided upper rest
ends_before false None number payload decided upper rest ends none first = ends
ends_before false (Some e) number payload decided upper rest ends none first = cc
ends_before true incomplete number payload decided upper rest ends none first = cc

pub returns-then-is_some-clause-lacks : goal.returns-then-is_some-clause-lacks
returns-then-is_some-clause-lacks c = λ _.
    let after = c.after_extensions-after.result in
    lacks after.is_later after.incomplete c.args.next_header c.args.payload.now after.fragment after.number after.rest.now c.after_extensions-after.ensures.ends (elim c.then-is_some.branch [
      | then-is_some-via-then-is_some w ↦ inl (sym c.is_some.ensures ∙ w.if-is_some.true)
      | then-is_some-via-else-is_some+then-after w ↦ inr w.if-after.true
    ])

pub returns-clause-whole : goal.returns-clause-whole
returns-clause-whole c = λ t.
    let after = c.after_extensions-after.result in
    record {
      decided = after.fragment;
      upper = after.number;
      rest = after.rest.now;
      ends = ends_before after.is_later after.incomplete c.args.next_header c.args.payload.now after.fragment after.number after.rest.now
          c.after_extensions-after.ensures.ends (sym c.is_some.ensures ∙ c.if-is_some.false) c.if-after.false;
      enough = rw c.upper_header_len.ensures.len at (leb-true c.upper_header_len.result (length after.rest.now) t);
    }

pub returns-clause-lacks : goal.returns-clause-lacks
returns-clause-lacks c = λ f.
    let after = c.after_extensions-after.result in
    inr (inl (record {
      decided = after.fragment;
      upper = after.number;
      rest = after.rest.now;
      ends = ends_before after.is_later after.incomplete c.args.next_header c.args.payload.now after.fragment after.number after.rest.now
          c.after_extensions-after.ensures.ends (sym c.is_some.ensures ∙ c.if-is_some.false) c.if-after.false;
      short = rw c.upper_header_len.ensures.len at (leb-false c.upper_header_len.result (length after.rest.now) f);
    }))
