-- What a timestamp message of ICMP says (RFC 792).
use Rattle.std.specs.Prelude.{ℕ, ◌≡◌, List, slice_range}
use Rattle.std.specs.Int.{from_be_bytes, w16, w32}
use Rattle.etherparse_icmp.specs.declared.icmpv4.timestamp_message.TimestampMessage.{
  TimestampMessage,
}

-- the 16 bytes after the checksum: the identifier, the sequence number, and three times
pub record HasTimestamps (message : TimestampMessage) (rest : List ℕ) : Type 0 where
  pub id : from_be_bytes w16 (slice_range rest 0 2) ≡ message.id
  pub seq : from_be_bytes w16 (slice_range rest 2 4) ≡ message.seq
  pub originate : from_be_bytes w32 (slice_range rest 4 8) ≡ message.originate_timestamp
  pub receive : from_be_bytes w32 (slice_range rest 8 12) ≡ message.receive_timestamp
  pub transmit : from_be_bytes w32 (slice_range rest 12 16) ≡ message.transmit_timestamp
