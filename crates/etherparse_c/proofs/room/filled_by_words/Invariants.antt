use Rattle.std.proofs.Common.{ℕ, ◌≡◌, ◌*◌, ◌<◌, get_or, length}
use Rattle.etherparse_c.proofs.room.filled_by_words.Given as goal

-- the words so far are those of the bytes, or 0 after the last one
abbrev pub invariant-loop-word : goal.invariant-loop-word
invariant-loop-word l = (length l.room ≡ 40)
    × ((i : ℕ) → i < 4 * l.word → get_or l.room i 0 ≡ get_or l.options i 0)
