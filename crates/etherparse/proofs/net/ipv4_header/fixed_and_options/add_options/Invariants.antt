use Rattle.std.proofs.Common.{ℕ, ◌≡◌, ◌+◌, ◌*◌, drop}
use Rattle.etherparse_base.specs.WordSums.{folded_sum, little_endian_word_sum}
use Rattle.etherparse.proofs.net.ipv4_header.fixed_and_options.add_options.Given as goal

-- in any longer sum, what is summed and what is left are what was to be summed
abbrev pub invariant-loop-word : goal.invariant-loop-word
invariant-loop-word l = (n : ℕ) → folded_sum (n + little_endian_word_sum (drop (4 * l.word) l.options) + l.sum)
    ≡ folded_sum (n + little_endian_word_sum l.options + l.fn.fixed)
