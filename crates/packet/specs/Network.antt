-- The IP packet of a frame and its transport header.
use Rattle.std.specs.Prelude.{ℕ, ◌≡◌, ◌+◌, List, Option, Some, None}
use Rattle.packet_parts.specs.IpSlice.{HasLaxIpParts, HasNoIpParts, header_len_of}
use Rattle.packet_parts.specs.declared.ip_slice.IpSlice.{IpSlice}
use Rattle.packet_parts.specs.declared.ip_slice.IpSliceError.{IpSliceError}
use Rattle.packet.specs.Error.{ip_error_moved}
use Rattle.packet.specs.Transport.{ReadsTransport}
use Rattle.packet.specs.declared.error.SliceError.{SliceError}
use Rattle.packet.specs.declared.error.SliceError.TheVariants as error
use Rattle.packet.specs.declared.transport.TransportSlice.{TransportSlice}

-- of two errors the one of the lower layer: that of a packet at a place, or else the other
abbrev pub first_error : ℕ → Option IpSliceError → Option SliceError → Option SliceError
first_error place (Some e) missing = Some (error.Ip (ip_error_moved place e))
first_error place None missing = missing

-- the packet at a place has no parts
pub record LacksIp (place : ℕ) (packet : List ℕ) (transport : Option TransportSlice)
    (stop : Option SliceError) : Type 0 where
  pub e : IpSliceError
  pub lacks : HasNoIpParts packet e
  pub no_transport : transport ≡ None
  pub stops : stop ≡ Some (error.Ip (ip_error_moved place e))

-- the packet at a place has these parts, of which the payload has this transport header
pub record HasIp (place : ℕ) (packet : List ℕ) (slice : IpSlice)
    (transport : Option TransportSlice) (stop : Option SliceError) : Type 0 where
  pub ip_stop : Option IpSliceError
  pub parts : HasLaxIpParts packet (record { slice = slice; stop = ip_stop })
  pub missing : Option SliceError
  pub reads : ReadsTransport (place + header_len_of slice) slice transport missing
  pub stops : stop ≡ first_error place ip_stop missing

-- the packet at a place, as far as it can be read, and why it cannot be read further
abbrev pub HasNetwork : ℕ → List ℕ → Option IpSlice → Option TransportSlice → Option SliceError
    → Type 0
HasNetwork place packet None transport stop = LacksIp place packet transport stop
HasNetwork place packet (Some slice) transport stop = HasIp place packet slice transport stop
