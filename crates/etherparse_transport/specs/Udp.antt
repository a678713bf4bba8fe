-- The UDP header (RFC 768).
use Rattle.std.specs.Prelude.{ℕ, ◌≡◌, List, [], ◌∷◌, length, Result}
use Rattle.etherparse.specs.Bytes.{IsBytes, words_of}
use Rattle.etherparse.specs.Reading.{IsTooShort, Reads}
use Rattle.etherparse.specs.declared.err.LenError.{LenError}
use Rattle.etherparse.specs.declared.err.Layer.TheVariants as layer
use Rattle.etherparse_transport.specs.declared.udp.UdpHeader.{UdpHeader}

-- the words of a header, in their order
abbrev pub udp_words : UdpHeader → List ℕ
udp_words h = h.source_port ∷ h.destination_port ∷ h.length ∷ h.checksum ∷ []

-- the 8 bytes of a header
pub record IsUdpLayout (header : UdpHeader) (bytes : List ℕ) : Type 0 where
  pub len : length bytes ≡ 8
  pub are_bytes : IsBytes bytes
  pub words : words_of bytes ≡ udp_words header

-- a header and the bytes after it, or why there is no header
abbrev pub UdpReading : Type 0
UdpReading = Result (UdpHeader × List ℕ) LenError

-- reading: the front of the slice is this header, and the rest follows; or the slice is too short
abbrev pub ReadsUdp : List ℕ → UdpReading → Type 0
ReadsUdp s reading = Reads IsUdpLayout (IsTooShort layer.UdpHeader 8) s reading
