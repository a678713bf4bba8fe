use Rattle.std.proofs.Common.{◌+◌, sym, ◌∙◌, take}
use Rattle.packet_filter.proofs.Words.{place_at, word_at}
use Rattle.packet_filter.proofs.text.first_word.Goals as goal

pub returns-then-not-is_space-clause-some : goal.returns-then-not-is_space-clause-some
returns-then-not-is_space-clause-some c =
    let s = c.args.text.now in
    let i = c.loop-at.at in
    let n = c.len_after-len.result in
    record {
      space = take i s;
      whole = place_at s i (1 + n);
      words = word_at s i n c.loop-at.invariant c.loop-at-test.true (sym c.is_space.ensures.value ∙ c.if-not-is_space.true) c.len_after-len.ensures.value;
    }
