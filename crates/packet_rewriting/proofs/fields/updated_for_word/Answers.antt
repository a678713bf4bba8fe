use Rattle.std.proofs.Common.{◌∙◌, arith, sym}
use Rattle.packet_rewriting.proofs.KeptRight.{is_no_udp, is_udp, word_updated, word_updated_udp, word_updates, word_updates_udp}
use Rattle.packet_rewriting.proofs.fields.updated_for_word.Goals as goal

pub returns-then-eq : goal.returns-then-eq
returns-then-eq c =
    let udp = is_udp c.args.number (sym c.eq.ensures ∙ c.if-eq.true) in
    let update = c.update_2bytes_with_no_zero.ensures in
    record {
      value = update.value ∙ word_updated_udp c.args.number c.args.checksum c.args.old c.args.new (omega arith) (omega arith) udp;
      updates = word_updates_udp c.args.number c.args.checksum _ c.args.old c.args.new (omega arith) (omega arith) udp update.updates;
    }

pub returns-else-eq : goal.returns-else-eq
returns-else-eq c =
    let other = is_no_udp c.args.number (sym c.eq.ensures ∙ c.if-eq.false) in
    let update = c.update_2bytes.ensures in
    record {
      value = update.value ∙ word_updated c.args.number c.args.checksum c.args.old c.args.new (omega arith) (omega arith) other;
      updates = word_updates c.args.number c.args.checksum _ c.args.old c.args.new (omega arith) (omega arith) other update.updates;
    }
