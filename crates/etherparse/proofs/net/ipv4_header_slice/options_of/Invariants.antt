use Rattle.std.proofs.Common.{ℕ, ◌≡◌, ◌+◌, ◌*◌, ◌<◌, get_or, length}
use Rattle.etherparse.proofs.net.ipv4_header_slice.options_of.Given as goal

-- the words so far are those of the bytes, as far as there are so many
abbrev pub invariant-loop-word : goal.invariant-loop-word
invariant-loop-word l = (length l.room ≡ 40)
    × ((i : ℕ) → i < 4 * l.word → i < l.last + 4 → get_or l.room i 0 ≡ get_or l.bytes i 0)
