-- The slots of a pool, and how long a datagram is kept in them.
use Rattle.std.specs.Prelude.{ℕ, List}
use Rattle.packet_reassembly.specs.declared.ip_defrag_pool.IpDefragSlot.{IpDefragSlot}

pub record Slots : Type 0 where
  pub slots : List IpDefragSlot
  pub timeout : ℕ
