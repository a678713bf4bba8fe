use Rattle.std.proofs.Common.{ℕ, ◌≡◌, ◌+◌, ◌≢◌, ◌<◌, ◌≤◌, ◌-◌, ◌++◌, ◌∙◌, [], ◌∷◌, List, ap, append_assoc, arith, drop, length, length-drop, length-take, refl, sym, take}
use Rattle.std.proofs.lemmas.List.{take_all}
use Rattle.std.proofs.lemmas.Bool.{eqb-false, eqb-true}
use Rattle.etherparse.specs.Ipv6Header.{IsIpv6Layout}
use Rattle.etherparse.specs.declared.net.ipv6_header.Ipv6Header.{Ipv6Header}
use Rattle.packet_reassembly.specs.Packet.{AreUnfragmentable, IsIpv6Packet}
use Rattle.packet_reassembly.proofs.Walked.{chain_more}
use Rattle.packet_reassembly.proofs.packet.write_ipv6_packet.Goals as goal

ipv6_written : (first header : Ipv6Header) (before last payload packet bytes : List ℕ) (number : ℕ) → AreUnfragmentable first.next_header before last → 0 < length last → IsIpv6Layout header bytes
    → header ≡ record first { payload_length = length before + length last + length payload } → packet ≡ bytes ++ (before ++ ((number ∷ drop 1 last) ++ payload))
    → IsIpv6Packet first before last number payload packet
ipv6_written first header before [] payload packet bytes number are some layout fields whole = absurd (omega arith)
ipv6_written first header before (byte ∷ rest) payload packet bytes number (m, chain, is) some layout fields whole =
    let follows = chain_more first.next_header before (number ∷ rest) payload m chain (record { skippable = is.skippable; len = is.len }) in
    record {
      header = header;
      body = before ++ ((number ∷ rest) ++ payload);
      begins = record { front = bytes; whole = whole; layout = layout };
      fields = fields;
      parts = refl;
      chain = rw fields follows;
    }

-- the same without extension headers
none_written : {header : Ipv6Header} {bytes : List ℕ} (first : Ipv6Header) (before last payload packet : List ℕ) (number : ℕ) → AreUnfragmentable first.next_header before last → length last ≡ 0 → IsIpv6Layout header bytes
    → header ≡ record first { payload_length = length before + length last + length payload; next_header = number } → packet ≡ bytes ++ payload
    → IsIpv6Packet first before last number payload packet
none_written {header = header} {bytes = bytes} first before [] payload packet number are none layout fields whole = record {
  header = header;
  body = payload;
  begins = record { front = bytes; whole = whole; layout = layout };
  fields = fields;
  parts = rw are refl;
  chain = rw fields (record { headers = []; begins = record { chain = refl; whole = refl } });
}
none_written first before (byte ∷ rest) payload packet number are none layout fields whole = absurd (omega arith)

up_to : {i j k l m : ℕ} (a b c d : ℕ) → j ≡ i + a → k ≡ j + b → l ≡ k + c → m ≡ l + d → (i ≤ m) × (j ≤ m) × (k ≤ m) × (l ≤ m) × (m ≤ m)
up_to _ _ _ _ a b c d = (omega arith, omega arith, omega arith, omega arith, omega arith)

above_none : (n : ℕ) → n ≢ 0 → 0 < n
above_none n some = omega arith

pub returns-clause-packet : goal.returns-clause-packet
returns-clause-packet c =
    let some = above_none (length c.args.last.now) (eqb-false (length c.args.last.now) 0 (sym c.is_empty.ensures ∙ c.if-is_empty.false)) in
    let named = rw c.next_header.view_is at c.put-at-3.ensures.joined in
    let rest = c.put-at-4.ensures.joined ∙ ap (λ tail. take c.put-at-3.result c.put-at-3.new.out ++ tail) (take_all (length c.args.last.now - 1) (drop 1 c.args.last.now) (simp length-drop (omega arith))) in
    ipv6_written c.args.first c.set_payload_length.new.self c.args.before.now c.args.last.now c.args.payload.now (take c.put.result c.put.new.out) c.to_bytes-2.result c.args.next_header
    c.requires.headers some c.to_bytes-2.ensures.layout c.in_ok-set_payload_length.ensures.set (rw (c.put.ensures.joined, rest, named, c.put-at-2.ensures.joined, c.put-at.ensures.joined) (simp append_assoc))

pub put-requires : goal.put-requires
put-requires c =
    let some = eqb-false (length c.args.last.now) 0 (sym c.is_empty.ensures ∙ c.if-is_empty.false) in
    let fits = c.in_ok-set_payload_length.ensures.accepted.0 refl in
    record { room = omega (arith, c.to_bytes-2.ensures.layout.len, length-take (length c.args.last.now - 1) (drop 1 c.args.last.now), length-drop 1 c.args.last.now) }

pub returns-then-is_empty-clause-packet : goal.returns-then-is_empty-clause-packet
returns-then-is_empty-clause-packet c =
    let fields = ap (λ (h : Ipv6Header). record h { next_header = c.args.next_header }) (c.header.view_is ∙ c.in_ok-set_payload_length.ensures.set) in
    none_written c.args.first c.args.before.now c.args.last.now c.args.payload.now (take c.join.result c.join.new.out) c.args.next_header
    c.requires.headers (eqb-true (length c.args.last.now) 0 (sym c.is_empty.ensures ∙ c.if-is_empty.true)) c.to_bytes.ensures.layout fields c.join.ensures.joined

pub returns-clause-after : goal.returns-clause-after
returns-clause-after c =
    let n : ℕ = c.put.result in
    let le = up_to _ _ _ _ c.put-at-2.ensures.end c.put-at-3.ensures.end c.put-at-4.ensures.end c.put.ensures.end in
    c.put.ensures.after n le.4 ∙ (c.put-at-4.ensures.after n le.3 ∙ (c.put-at-3.ensures.after n le.2 ∙ (c.put-at-2.ensures.after n le.1 ∙ c.put-at.ensures.after n le.0)))

pub returns-then-is_empty-clause-accepted : goal.returns-then-is_empty-clause-accepted
returns-then-is_empty-clause-accepted c = (λ _. c.in_ok-set_payload_length.ensures.accepted.0 refl, λ _. refl)

pub returns-then-is_empty-clause-within : goal.returns-then-is_empty-clause-within
returns-then-is_empty-clause-within c = rw (c.join.ensures.len, c.join.ensures.same_len) (omega (arith, c.to_bytes.ensures.layout.len, c.in_ok-set_payload_length.ensures.accepted.0 refl))

pub returns-then-is_empty-clause-after : goal.returns-then-is_empty-clause-after
returns-then-is_empty-clause-after c = c.join.ensures.after

pub slice_bounds-put-count : goal.slice_bounds-put-count
slice_bounds-put-count c =
    let some = eqb-false (length c.args.last.now) 0 (sym c.is_empty.ensures ∙ c.if-is_empty.false) in omega arith

pub put-at-requires : goal.put-at-requires
put-at-requires c = record { room = omega (arith, c.to_bytes-2.ensures.layout.len) }

pub put-at-requires-2 : goal.put-at-requires-2
put-at-requires-2 c = record { room = omega (arith, c.to_bytes-2.ensures.layout.len) }

pub put-at-requires-3 : goal.put-at-requires-3
put-at-requires-3 c =
    let some = eqb-false (length c.args.last.now) 0 (sym c.is_empty.ensures ∙ c.if-is_empty.false) in
    record { room = omega (arith, c.to_bytes-2.ensures.layout.len) }

pub put-at-requires-4 : goal.put-at-requires-4
put-at-requires-4 c =
    let some = eqb-false (length c.args.last.now) 0 (sym c.is_empty.ensures ∙ c.if-is_empty.false) in
    record { room = omega (arith, c.to_bytes-2.ensures.layout.len, length-take (length c.args.last.now - 1) (drop 1 c.args.last.now), length-drop 1 c.args.last.now) }

pub returns-clause-accepted : goal.returns-clause-accepted
returns-clause-accepted c = (λ _. c.in_ok-set_payload_length.ensures.accepted.0 refl, λ _. refl)
