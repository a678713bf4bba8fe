-- What the room for options is at the end, if its front was lent.
use Rattle.std.specs.Prelude.{ℕ, List, ◌++◌, length, drop}
use Rattle.std.specs.Borrow.{Lends, MutBor, Fml, Array, u8}
use Rattle.etherparse_fields.specs.declared.net.ipv4_options.buffer.Buffer.{Buffer}
use Rattle.etherparse_fields.specs.contracts.net.ipv4_options.buffer.Buffer.{the_row}

-- the room once it begins with these bytes
abbrev pub with_front : Buffer → List ℕ → Buffer
with_front buffer front = record { bytes = front ++ drop (length front) buffer.bytes }

-- once the slice is given back, the room begins with what was left in it
abbrev pub LendsFront : MutBor Buffer → MutBor (List ℕ) → Fml
LendsFront buffer slice = Lends the_row (Array u8 0) buffer slice (with_front buffer.now)
