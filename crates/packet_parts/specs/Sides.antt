-- The two sides of a packet: where it comes from, and where it goes to.
use Rattle.std.specs.Prelude.{ℕ, List, Option}
use Rattle.packet_parts.specs.FinalDestination.{LeavesDestination}
use Rattle.packet_parts.specs.OriginalSource.{LeavesSource}
use Rattle.packet_parts.specs.declared.covered_addresses.Side.{Side}
use Rattle.packet_parts.specs.declared.covered_addresses.Side.TheVariants as side

-- what an extension header of a number leaves as the address of a side
abbrev pub LeavesAt : Side → List ℕ → ℕ → List ℕ → Option (List ℕ) → Type 0
LeavesAt side.Source = LeavesSource
LeavesAt side.Destination = LeavesDestination
