-- A view of the UDP header at the front of a slice (RFC 768).
use Rattle.std.specs.Prelude.{ℕ, List, Result}
use Rattle.etherparse.specs.Reading.{IsTooShort, Views}
use Rattle.etherparse.specs.declared.err.LenError.{LenError}
use Rattle.etherparse.specs.declared.err.Layer.TheVariants as layer
use Rattle.etherparse_transport.specs.Udp.{IsUdpLayout}

-- viewing: this front of the slice is a header; or the slice is too short
abbrev pub ViewsUdp : List ℕ → Result (List ℕ) LenError → Type 0
ViewsUdp s front = Views IsUdpLayout (IsTooShort layer.UdpHeader 8) s front
