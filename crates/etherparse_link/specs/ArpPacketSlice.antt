-- An ARP packet (RFC 826), by the lengths of its addresses.
use Rattle.std.specs.Prelude.{ℕ, ◌≡◌, ◌+◌, ◌<◌, ◌≤◌, ◌⊎◌, List, length, Result, Ok, Err}
use Rattle.std.specs.Prelude.{slice_index, slice_range, take}
use Rattle.etherparse.specs.Reading.{IsTooShort, too_short_error}
use Rattle.etherparse.specs.declared.err.LenError.{LenError}
use Rattle.etherparse.specs.declared.err.Layer.TheVariants as layer
use Rattle.etherparse.specs.declared.LenSource.TheVariants.{ArpAddrLengths}

-- the length of each hardware address and of each protocol address: bytes 4 and 5
abbrev pub hw_addr_size_of : List ℕ → ℕ
hw_addr_size_of s = slice_index s 4

abbrev pub proto_addr_size_of : List ℕ → ℕ
proto_addr_size_of s = slice_index s 5

-- where the addresses begin, in their order: the sender's hardware address right after the 8 bytes
-- before them, the sender's protocol address, the target's hardware address, the target's protocol
-- address
abbrev pub sender_protocol_addr_at : List ℕ → ℕ
sender_protocol_addr_at s = 8 + hw_addr_size_of s

abbrev pub target_hw_addr_at : List ℕ → ℕ
target_hw_addr_at s = sender_protocol_addr_at s + proto_addr_size_of s

abbrev pub target_protocol_addr_at : List ℕ → ℕ
target_protocol_addr_at s = target_hw_addr_at s + hw_addr_size_of s

-- and where the packet ends
abbrev pub arp_len_of : List ℕ → ℕ
arp_len_of s = target_protocol_addr_at s + proto_addr_size_of s

-- the addresses in the bytes of a packet
abbrev pub sender_hw_addr_in : List ℕ → List ℕ
sender_hw_addr_in s = slice_range s 8 (sender_protocol_addr_at s)

abbrev pub sender_protocol_addr_in : List ℕ → List ℕ
sender_protocol_addr_in s = slice_range s (sender_protocol_addr_at s) (target_hw_addr_at s)

abbrev pub target_hw_addr_in : List ℕ → List ℕ
target_hw_addr_in s = slice_range s (target_hw_addr_at s) (target_protocol_addr_at s)

abbrev pub target_protocol_addr_in : List ℕ → List ℕ
target_protocol_addr_in s = slice_range s (target_protocol_addr_at s) (arp_len_of s)

-- the slice begins with this packet, which is as long as its lengths of addresses say
pub record HasArpFront (s front : List ℕ) : Type 0 where
  pub enough : arp_len_of s ≤ length s
  pub cut : front ≡ take (arp_len_of s) s

-- the slice has the lengths of addresses, and is shorter than they say
pub record LacksAddresses (s : List ℕ) (e : LenError) : Type 0 where
  pub enough : 8 ≤ length s
  pub short : length s < arp_len_of s
  pub error : e ≡ record (too_short_error layer.Arp (arp_len_of s) (length s)) {
    len_source = ArpAddrLengths;
  }

-- what is seen: the packet at the front; or it is refused, since the slice is shorter than what
-- stands before the addresses; or else it is shorter than the lengths of the addresses say
abbrev pub ViewsArp : List ℕ → Result (List ℕ) LenError → Type 0
ViewsArp s (Ok front) = HasArpFront s front
ViewsArp s (Err e) = IsTooShort layer.Arp 8 s e ⊎ LacksAddresses s e
