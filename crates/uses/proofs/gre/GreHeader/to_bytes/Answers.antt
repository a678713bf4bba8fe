use Rattle.std.proofs.Common.{◌≡◌, refl, arith}
use Rattle.std.proofs.lemmas.Grind.{common_steps}
use Rattle.uses.specs.Gre.{IsGreLayout, gre_bytes}
use Rattle.uses.proofs.GreWritten.{written}
use Rattle.uses.proofs.gre.GreHeader.to_bytes.Goals as goal

pub returns : goal.returns
returns c =
    let h = c.args.self.now in
    let bytes = c.push_field-2.new.bytes.items in
    let same : bytes ≡ gre_bytes h = grind (arith, common_steps) in
    let are_bytes = rw same at c.push_field-2.ensures.are_bytes (c.push_field.ensures.are_bytes (c.push_checksum.ensures.are_bytes (c.push.ensures.are_bytes (λ i. grind (arith, common_steps))))) in
    let layout : IsGreLayout h bytes = rw same (written h.protocol_type h.checksum h.key h.sequence_number c.first_bytes.ensures.fits c.push_checksum.ensures.fits c.push_field.ensures.fits c.push_field-2.ensures.fits are_bytes) in
    record { value = same; layout = layout; read_again = λ rest. record { front = bytes; whole = refl; layout = layout } }
