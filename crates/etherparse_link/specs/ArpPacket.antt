-- An ARP packet with addresses of up to 255 bytes (RFC 826).
use Rattle.std.specs.Prelude.{ℕ, ◌≡◌, ◌≢◌, ◌<◌, ◌⊎◌, List, length, Result, Ok, Err}
use Rattle.etherparse.specs.Bytes.{IsBytes}
use Rattle.etherparse.specs.Reading.{IsTooShort}
use Rattle.etherparse.specs.declared.err.LenError.{LenError}
use Rattle.etherparse.specs.declared.err.Layer.TheVariants as layer
use Rattle.etherparse_link.specs.AddressPair.{HaveOneLength}
use Rattle.etherparse_link.specs.ArpPacketSlice.{LacksAddresses, arp_len_of}
use Rattle.etherparse_link.specs.ArpPacketSlice.{sender_hw_addr_in, sender_protocol_addr_in}
use Rattle.etherparse_link.specs.ArpPacketSlice.{target_hw_addr_in, target_protocol_addr_in}
use Rattle.etherparse_link.specs.Bytes.{number_at}
use Rattle.etherparse_link.specs.declared.arp_packet.ArpPacket.{ArpPacket}
use Rattle.etherparse_link.specs.declared.err.arp.ArpHwAddrError.{ArpHwAddrError}
use Rattle.etherparse_link.specs.declared.err.arp.ArpHwAddrError.TheVariants as hardware
use Rattle.etherparse_link.specs.declared.err.arp.ArpNewError.{ArpNewError}
use Rattle.etherparse_link.specs.declared.err.arp.ArpNewError.TheVariants as new
use Rattle.etherparse_link.specs.declared.err.arp.ArpProtoAddrError.{ArpProtoAddrError}
use Rattle.etherparse_link.specs.declared.err.arp.ArpProtoAddrError.TheVariants as protocol

-- the addresses of a packet
abbrev pub sender_hw_addr_of : ArpPacket → List ℕ
sender_hw_addr_of packet = packet.hw_addrs.sender

abbrev pub sender_protocol_addr_of : ArpPacket → List ℕ
sender_protocol_addr_of packet = packet.protocol_addrs.sender

abbrev pub target_hw_addr_of : ArpPacket → List ℕ
target_hw_addr_of packet = packet.hw_addrs.target

abbrev pub target_protocol_addr_of : ArpPacket → List ℕ
target_protocol_addr_of packet = packet.protocol_addrs.target

-- the bytes of a packet, as many as its lengths of addresses say
pub record IsArpLayout (packet : ArpPacket) (bytes : List ℕ) : Type 0 where
  pub len : length bytes ≡ arp_len_of bytes
  pub are_bytes : IsBytes bytes
  pub hw_addr_type : number_at 0 bytes ≡ packet.hw_addr_type
  pub proto_addr_type : number_at 2 bytes ≡ packet.proto_addr_type
  pub operation : number_at 6 bytes ≡ packet.operation
  pub sender_hw_addr : sender_hw_addr_in bytes ≡ sender_hw_addr_of packet
  pub sender_protocol_addr : sender_protocol_addr_in bytes ≡ sender_protocol_addr_of packet
  pub target_hw_addr : target_hw_addr_in bytes ≡ target_hw_addr_of packet
  pub target_protocol_addr : target_protocol_addr_in bytes ≡ target_protocol_addr_of packet

-- why the front of a slice is no packet: it is shorter than what stands before the addresses; or
-- else it is shorter than the lengths of the addresses say
abbrev pub RefusesArp : List ℕ → LenError → Type 0
RefusesArp s e = IsTooShort layer.Arp 8 s e ⊎ LacksAddresses s e

-- why two hardware addresses cannot: their lengths differ; or else they are too long
abbrev pub RefusesHwAddrs : List ℕ → List ℕ → ArpHwAddrError → Type 0
RefusesHwAddrs sender target (hardware.LenNonMatching m n) =
    (m ≡ length sender) × (n ≡ length target) × (m ≢ n)
RefusesHwAddrs sender target (hardware.LenTooBig n) =
    (length sender ≡ length target) × (n ≡ length sender) × (255 < n)

-- and why two protocol addresses cannot
abbrev pub RefusesProtoAddrs : List ℕ → List ℕ → ArpProtoAddrError → Type 0
RefusesProtoAddrs sender target (protocol.LenNonMatching m n) =
    (m ≡ length sender) × (n ≡ length target) × (m ≢ n)
RefusesProtoAddrs sender target (protocol.LenTooBig n) =
    (length sender ≡ length target) × (n ≡ length sender) × (255 < n)

-- the addresses of a packet that is made
pub record HasAddresses (packet : ArpPacket)
    (sender_hw sender_protocol target_hw target_protocol : List ℕ) : Type 0 where
  pub sender_hw_addr : sender_hw_addr_of packet ≡ sender_hw
  pub sender_protocol_addr : sender_protocol_addr_of packet ≡ sender_protocol
  pub target_hw_addr : target_hw_addr_of packet ≡ target_hw
  pub target_protocol_addr : target_protocol_addr_of packet ≡ target_protocol

-- a packet is made with these addresses; or the hardware addresses cannot stand in one packet; or
-- else the protocol addresses cannot
abbrev pub TakesAddresses : List ℕ → List ℕ → List ℕ → List ℕ → Result ArpPacket ArpNewError
    → Type 0
TakesAddresses sender_hw sender_protocol target_hw target_protocol (Ok packet) =
    HaveOneLength sender_hw target_hw × HaveOneLength sender_protocol target_protocol
    × HasAddresses packet sender_hw sender_protocol target_hw target_protocol
TakesAddresses sender_hw sender_protocol target_hw target_protocol (Err (new.HwAddr e)) =
    RefusesHwAddrs sender_hw target_hw e
TakesAddresses sender_hw sender_protocol target_hw target_protocol (Err (new.ProtoAddr e)) =
    HaveOneLength sender_hw target_hw × RefusesProtoAddrs sender_protocol target_protocol e

-- a packet and the bytes after it, or why there is none
abbrev pub ArpReading : Type 0
ArpReading = Result (ArpPacket × List ℕ) LenError
