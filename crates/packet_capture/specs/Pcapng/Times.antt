-- The times of packets (draft-ietf-opsawg-pcapng sections 4.2 and 4.3).
use Rattle.std.specs.Prelude.{ℕ, ◌+◌, ◌-◌, ◌*◌, ◌/◌, ◌%◌, ◌^◌, nat_lt, Option, Some, None}
use Rattle.std.specs.Prelude.{if◌then◌else◌}
use Rattle.packet_capture.specs.declared.pcapng.times.Resolution.{Resolution}
use Rattle.packet_capture.specs.declared.pcapng.times.Resolution.TheVariants.{PowerOfTen}
use Rattle.packet_capture.specs.declared.pcapng.times.Resolution.TheVariants.{PowerOfTwo}

-- how many units a second has
abbrev pub units : Resolution → ℕ
units (PowerOfTen power) = 10 ^ power
units (PowerOfTwo power) = 2 ^ power

-- The value of if_tsresol is a negative power of 10, or of 2 if its most significant bit is set;
-- the other bits are the power (section 4.2).
abbrev pub power_in : ℕ → Resolution
power_in value = if nat_lt value 128 then PowerOfTen value else PowerOfTwo (value - 128)

-- the resolution that a value of if_tsresol says, if the units of a second fit 64 bits
unfoldable pub resolution_of : ℕ → Option Resolution
resolution_of value =
    if nat_lt (units (power_in value)) (2 ^ 64) then Some (power_in value) else None

-- The seconds since the start of 1970: the whole seconds of a timestamp, and if_tsoffset, which is
-- added (section 4.2). Both are numbers of 64 bits, the offset in two's complement, and so is the
-- sum.
abbrev pub seconds : Resolution → ℕ → ℕ → ℕ
seconds resolution offset timestamp = (timestamp / units resolution + offset) % 2 ^ 64

-- the whole nanoseconds in the rest of the second
abbrev pub nanoseconds : Resolution → ℕ → ℕ
nanoseconds resolution timestamp =
    timestamp % units resolution * 10 ^ 9 / units resolution
