use Rattle.std.proofs.Common.{refl, rules, sym}
use Rattle.etherparse.proofs.Parts.{words_are_bytes, words_written}
use Rattle.etherparse_transport.proofs.UdpLayout.{spelled}
use Rattle.etherparse_transport.specs.Udp.{IsUdpLayout, udp_words}
use Rattle.etherparse_transport.proofs.udp.UdpHeader.to_bytes.Goals as goal

pub returns : goal.returns
returns c =
    let e = c.words.ensures.value in
    let words = udp_words c.args.self.now in
    let layout : IsUdpLayout c.args.self.now c.words.result = rw e (record { len = refl; are_bytes = words_are_bytes words; words = words_written words c.words.ensures.fit }) in
    search (rules, spelled, sym e)
