-- The library's value, lent out of the struct that C has. No public clause cites it.
use Rattle.std.specs.Borrow.{Lends, MutBor, Fml}
use Rattle.etherparse_c.specs.DefragMemory.{pool_row}
use Rattle.c_answers.specs.DefragSlots.{Slots}
use Rattle.etherparse_c.specs.contracts.defrag_pool.DefragPool.{the_row}
use Rattle.etherparse_c.specs.declared.defrag_pool.DefragPool.{DefragPool}

-- the struct, once the pool is this
abbrev pub with_pool : DefragPool → Slots → DefragPool
with_pool p pool = record p { pool = pool }

abbrev pub LendsPool : MutBor DefragPool → MutBor Slots → Fml
LendsPool s r = Lends the_row pool_row s r (with_pool s.now)
