use Rattle.std.proofs.Common.{◌++◌, ◌∙◌, arith, length-append, refl, sym, take-append-drop}
use Rattle.etherparse.proofs.Parts.{same_append}
use Rattle.etherparse_link.proofs.DoubleVlanLayout.{ether_type_at_front, two_tags, two_tags_len}
use Rattle.etherparse_link.specs.DoubleVlanHeader.{IsDoubleVlanLayout, IsTagType}
use Rattle.etherparse_link.proofs.double_vlan_header.DoubleVlanHeader.to_bytes.Goals as goal

pub returns : goal.returns
returns c =
    let h = c.args.self.now in
    let outer = c.to_bytes in
    let inner = c.to_bytes-2 in
    let p = outer.result ++ inner.result in
    let tags = two_tags h _ _ outer.ensures.layout inner.ensures.layout in
    let read_layout = λ (says : IsTagType h.outer.ether_type).
    let layout : IsDoubleVlanLayout h p = record { tags = tags; says = says } in layout in
    rw c.joined.ensures.parts (record {
      tags = tags;
      only = λ bytes l. sym (take-append-drop 4 bytes)
          ∙ same_append (outer.ensures.only _ l.outer) (inner.ensures.only _ l.inner);
      read_again = λ says rest. record { front = p; whole = refl; layout = read_layout says };
      refused_again = λ other rest. record {
        enough = omega (arith, length-append p rest, two_tags_len h p tags);
        found = sym (ether_type_at_front (p ++ rest) h p rest refl tags);
        other = other;
      };
    })
