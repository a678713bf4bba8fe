use Rattle.std.proofs.Common.{ℕ, ◌≡◌, ◌≤◌, ◌+◌, ◌/◌, ◌%◌, ◌^◌, ◌∙◌, arith, drop, drop-drop, sym}
use Rattle.std.proofs.lemmas.Grind.{common_steps}
use Rattle.std.proofs.lemmas.List.{length-map}
use Rattle.std.proofs.lemmas.Simd.{zip2_splat}
use Rattle.std.specs.Int.{from_bool}
use Rattle.etherparse_base.proofs.LaneSums.{lanes_more, length-lanes_added}
use Rattle.etherparse_base.proofs.checksum.wide_u64.add_turn.Goals as goal

pub returns : goal.returns
returns c =
    let at = c.args.at in
    let words = c.split_four_words.result.0 in
    let four = c.split_four_words.ensures.four in
    let after : c.split_four_words-3.result.1.now ≡ drop 96 c.args.bytes.now =
    c.split_four_words-3.ensures.rest ∙ rw (c.split_four_words-2.ensures.rest, c.split_four_words.ensures.rest) (simp drop-drop) in
    let carry : from_bool c.add_to_each-carry-2.result.1 ≤ 1 = grind (arith, common_steps) in
    record {
      adds = λ slice beside rest few is i.
          let carries : (at.carries + c.from.result) % 2 ^ 64 ≡ at.carries + from_bool c.add_to_each-carry-2.result.1 = omega (arith, few) in
          let more = lanes_more at.total beside at.high words (omega (arith, i.as_many)) (omega (arith, i.four)) (omega (arith, few)) in
          rw (is, carries, sym after, zip2_splat (λ (a b : ℕ). a / 2 ^ b) words 4 32 four) record {
            four = omega (arith, length-lanes_added, length-map words (λ w. w / 2 ^ 32));
            as_many = omega (arith, length-lanes_added);
            stands_for = record { apart = omega arith; none = grind arith; some = grind arith };
            carries_fit = omega arith;
            eighths = omega arith;
            halves_fit = omega arith;
          };
    }
