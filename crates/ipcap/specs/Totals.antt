-- What is counted.
use Rattle.std.specs.Prelude.{ℕ, ◌+◌, ◌-◌, ◌^◌, ◌<◌, Bool, Option, Some, None, min}
use Rattle.std.specs.Bool.{then_some}
use Rattle.std.specs.Int.{from_bool}
use Rattle.frame_reassembly.specs.Counts.{no_datagrams}
use Rattle.packet_capture.specs.declared.any.PacketHead.{PacketHead}
use Rattle.packet_parts.specs.declared.ip_slice.IpHeaderSlice.{IpHeaderSlice}
use Rattle.packet_parts.specs.declared.ip_slice.IpHeaderSlice.TheVariants as header
use Rattle.ipcap.specs.Reading.{has_wrong_checksum, is_cut}
use Rattle.ipcap.specs.declared.reading.Reading.{Reading}
use Rattle.ipcap.specs.declared.reading.Reading.TheVariants.{Other, Packet, Refused, Skipped}
use Rattle.ipcap.specs.declared.totals.Totals.{Totals}

-- before any record
abbrev pub nothing_counted : Totals
nothing_counted = record {
  records = 0;
  listed = 0;
  ipv4 = 0;
  ipv6 = 0;
  other = 0;
  refused = 0;
  skipped = 0;
  cut = 0;
  wrong = 0;
  bytes = 0;
  datagrams = None;
}

-- the same if packets are put together, or not: then no datagram has begun
abbrev pub first_totals : Bool → Totals
first_totals reassembles =
    record nothing_counted { datagrams = then_some reassembles no_datagrams }

-- with one more packet that is shown, of either version
abbrev pub counted_packet : IpHeaderSlice → Totals → Totals
counted_packet (header.Ipv4 view) totals = record totals { ipv4 = totals.ipv4 + 1 }
counted_packet (header.Ipv6 view) totals = record totals { ipv6 = totals.ipv6 + 1 }

-- with one more record of its kind
abbrev pub counted_as : Reading → Totals → Totals
counted_as (Packet shown) totals = counted_packet shown.lax.slice.header totals
counted_as (Other e) totals = record totals { other = totals.other + 1 }
counted_as (Refused e) totals = record totals { refused = totals.refused + 1 }
counted_as Skipped totals = record totals { skipped = totals.skipped + 1 }

-- with one more packet, which has this head, and this reading if it is listed; one in a block that
-- is too long counts as skipped, listed or not
abbrev pub counted_packet_of : Bool → PacketHead → Option Reading → Totals → Totals
counted_packet_of is_long head (Some reading) totals = record (counted_as reading totals) {
  records = totals.records + 1;
  listed = totals.listed + 1;
  cut = totals.cut + from_bool (is_cut head);
  wrong = totals.wrong + from_bool (has_wrong_checksum reading);
}
counted_packet_of is_long head None totals = record totals {
  records = totals.records + 1;
  skipped = totals.skipped + from_bool is_long;
}

-- what is told of a block: of a packet whether it is put together, its head, and its reading if it
-- is listed; of another block nothing
pub data Told : Type 0 where
  packet : Bool → PacketHead → Option Reading → Told
  no_packet : Told

-- with one more block, of a packet or not
abbrev pub counted_block : Bool → Told → Totals → Totals
counted_block is_long (packet is_reassembled head found) totals =
    counted_packet_of is_long head found totals
counted_block is_long no_packet totals = totals

-- the same with its bytes, as far as 64 bits can count them
abbrev pub counted : ℕ → Bool → Told → Totals → Totals
counted len is_long told totals = record (counted_block is_long told totals) {
  bytes = min (totals.bytes + len) (2 ^ 64 - 1);
}

-- each count is less than 2^64 - 1, so one more packet can be counted
abbrev pub HasRoom : Totals → Type 0
HasRoom totals = (totals.records < 2 ^ 64 - 1) × (totals.listed < 2 ^ 64 - 1)
    × (totals.ipv4 < 2 ^ 64 - 1) × (totals.ipv6 < 2 ^ 64 - 1) × (totals.other < 2 ^ 64 - 1)
    × (totals.refused < 2 ^ 64 - 1) × (totals.skipped < 2 ^ 64 - 1) × (totals.cut < 2 ^ 64 - 1)
    × (totals.wrong < 2 ^ 64 - 1)
