use Rattle.std.proofs.Common.{ℕ, ◌≡◌, ◌++◌, ◌∙◌, None, Some, ap, arith, false, inr, length, length-append, refl, rules, subst, sym}
use Rattle.etherparse.specs.declared.LenSource.TheVariants.{Ipv6HeaderPayloadLen}
use Rattle.packet_parts.specs.Extensions.{EndsAs}
use Rattle.packet_parts.specs.IpSlice.{extension_error}
use Rattle.packet_reassembly.specs.Ipv6Fragment.{AreFragmentParts}
use Rattle.packet_reassembly.proofs.Kept.{before_payload}
use Rattle.packet_reassembly.proofs.ip_fragment_slice.ipv6_fragment.Goals as goal

pub slice_bounds-result-count : goal.slice_bounds-result-count
slice_bounds-result-count c =
    let p : AreFragmentParts c.args.body.now c.next_header.result c.in-Ok-Some.parts = rw c.in-Ok-Some.field-0-is at c.in-Ok-Some.ensures.found in
    omega (arith, c.requires.whole, ap length p.whole, ap length p.begins.whole, length-append {A = ℕ})

pub returns-clause-found : goal.returns-clause-found
returns-clause-found c = λ packet header enough begins front is_whole.
    let is_layout = rw front at begins.layout in
    let parts = c.in-Ok-Some.parts in
    let named : AreFragmentParts c.args.body.now c.next_header.result parts = rw c.in-Ok-Some.field-0-is at c.in-Ok-Some.ensures.found in
    let p = subst (λ (n : ℕ). AreFragmentParts c.args.body.now n parts) (c.next_header.ensures.value header is_layout) named in
    inr (record {
      header = header;
      body = c.args.body.now;
      enough = enough;
      begins = begins;
      parts = parts;
      are_parts = p;
      id = cc (c.source.ensures.value header is_layout, c.destination.ensures.value header is_layout);
      offset = refl;
      more = refl;
      next = refl;
      ecn = c.ecn.ensures.value header is_layout;
      payload = refl;
      headers = before_payload begins.front parts.before.now parts.last.now p.begins.front parts.payload.now c.args.whole.now
          (sym is_whole ∙ (begins.whole ∙ ap (λ x. begins.front ++ x) (p.whole ∙ ap (λ x. parts.before.now ++ (parts.last.now ++ x)) p.begins.whole)));
      last_extension = refl;
    })

pub returns-in-Err-clause-refused : goal.returns-in-Err-clause-refused
returns-in-Err-clause-refused c = λ packet header enough begins front.
    let is_layout = rw front at begins.layout in
    let q = c.in-Err.ensures.refused in
    let ends = subst (λ (n : ℕ). EndsAs false (Some c.in-Err.e) c.args.body.now n None q.number q.rest) (c.next_header.ensures.value header is_layout) q.ends in
    let moved : extension_error c.in-Err.e ≡ record c.add_offset.result { len_source = Ipv6HeaderPayloadLen } = rw c.add_offset.ensures.moved refl in
    record { ends = search (rules, begins, ends, moved); undecided = refl }
