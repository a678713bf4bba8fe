-- How many datagrams there were.
use Rattle.std.specs.Prelude.{ℕ, ◌+◌, ◌-◌, ◌^◌, Bool, if◌then◌else◌, min}
use Rattle.frame_reassembly.specs.declared.datagrams.Datagrams.{Datagrams}

-- one more, if there is one more to count; no more than 64 bits can count
abbrev pub counted_if : Bool → ℕ → ℕ
counted_if is count = if is then min (count + 1) (2 ^ 64 - 1) else count

-- before any fragment
abbrev pub no_datagrams : Datagrams
no_datagrams = record { begun = 0; put_together = 0; discarded = 0 }

-- those that are left over: they have begun, and are neither put together nor discarded
abbrev pub left_over : Datagrams → ℕ
left_over datagrams = datagrams.begun - (datagrams.put_together + datagrams.discarded)

-- with one more fragment, with which a datagram begins, or is whole, or is discarded
abbrev pub counted : Bool → Bool → Bool → Datagrams → Datagrams
counted begins is_whole is_discarded before = record {
  begun = counted_if begins before.begun;
  put_together = counted_if is_whole before.put_together;
  discarded = counted_if is_discarded before.discarded;
}
