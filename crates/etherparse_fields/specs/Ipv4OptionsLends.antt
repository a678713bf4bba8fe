-- What IPv4 options are at the end, if a `&mut` to their bytes was returned.
use Rattle.std.specs.Prelude.{ℕ, List, length}
use Rattle.std.specs.List.{refill}
use Rattle.std.specs.Borrow.{Lends, MutBor, Fml, Array, u8}
use Rattle.etherparse_fields.specs.contracts.net.ipv4_options.Ipv4Options.{the_row}

-- once the slice is given back, the options are what was left in it; `refill` would cut or fill
-- this to as many bytes as before, but a slice keeps its length
abbrev pub LendsBytes : MutBor (List ℕ) → MutBor (List ℕ) → Fml
LendsBytes options slice =
    Lends the_row (Array u8 0) options slice (λ left. refill (length options.now) options.now left)
