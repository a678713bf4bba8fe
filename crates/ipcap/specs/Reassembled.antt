-- The packets that are put together of fragments.
use Rattle.std.specs.Prelude.{ℕ, ◌≡◌, ◌+◌, ◌-◌, ◌*◌, ◌%◌, ◌^◌, Bool, List, MatchOption, Option}
use Rattle.std.specs.Prelude.{None, Some, false, length, min, true}
use Rattle.frame_reassembly.specs.Step.{TakesFrame}
use Rattle.frame_reassembly.specs.declared.datagrams.Datagrams.{Datagrams}
use Rattle.packet.specs.Link.{link_type_of}
use Rattle.packet.specs.declared.link.LinkType.{LinkType}
use Rattle.packet_capture.specs.Any.{nanoseconds_of, seconds_of}
use Rattle.packet_capture.specs.declared.any.PacketHead.{PacketHead}
use Rattle.packet_capture.specs.declared.any.Stamp.{Stamp}
use Rattle.packet_reassembly.specs.declared.ip_defrag_pool.IpDefragSlot.{IpDefragSlot}
use Rattle.ipcap.specs.declared.totals.Totals.{Totals}

-- what has come of datagrams, if packets are put together: their slots
abbrev pub Memory : Type 0
Memory = Option (List IpDefragSlot)

-- nothing changes, and no packet is put together
pub record Stays (before after : Totals) (old new : Memory) (whole : Option (List ℕ))
    : Type 0 where
  pub totals : after ≡ before
  pub memory : new ≡ old
  pub none : whole ≡ None

-- The time of a packet in nanoseconds, by a clock that shows 2^63 at the start of 1970, so that
-- times before that have their order too. Before 1677-09-21 it shows 0, and after 2262-04-11
-- 2^64 - 1.
abbrev pub nanoseconds_at : Stamp → ℕ
nanoseconds_at stamp = min ((seconds_of stamp + 2 ^ 63) % 2 ^ 64 * 10 ^ 9 + nanoseconds_of stamp
    - 2 ^ 63 * (10 ^ 9 - 1)) (2 ^ 64 - 1)

-- the frame is taken at the time of its packet, by slots and counts as they were before
pub record Takes (link_type : LinkType) (head : PacketHead) (frame : List ℕ)
    (before after : Totals) (slots : List IpDefragSlot) (counts : Datagrams) (new : Memory)
    (whole : Option (List ℕ)) : Type 0 where
  pub left : List IpDefragSlot
  pub datagrams : Datagrams
  pub takes : TakesFrame link_type frame (nanoseconds_at head.stamp) slots left counts datagrams
      whole
  pub totals : after ≡ record before { datagrams = Some datagrams }
  pub memory : new ≡ Some left

-- What a packet with this head and this frame does to what is counted and to what has come of
-- datagrams, if packets are put together and frames of its link type are read; and the frame that
-- it completes, if it does.
abbrev pub Reassembles : PacketHead → List ℕ → Totals → Memory → Totals → Memory
    → Option (List ℕ) → Type 0
Reassembles head frame before old after new whole =
    MatchOption old (Stays before after old new whole)
    (λ slots. MatchOption before.datagrams (Stays before after old new whole)
    (λ counts. MatchOption (link_type_of head.link_type) (Stays before after old new whole)
    (λ link_type. Takes link_type head frame before after slots counts new whole)))

-- the head of a packet that is put together: its frame, of this length, is all there
abbrev pub head_of_whole : PacketHead → ℕ → PacketHead
head_of_whole head len = record head { captured_len = len; original_len = len }

-- what is told in place of a packet: whether it is put together, its head, and its frame
pub record Seen : Type 0 where
  pub is_reassembled : Bool
  pub head : PacketHead
  pub frame : List ℕ

-- the frame that it completes, or else the packet as it came
abbrev pub seen_as : PacketHead → List ℕ → Option (List ℕ) → Seen
seen_as head frame None =
    record { is_reassembled = false; head = head; frame = frame }
seen_as head frame (Some whole) = record {
  is_reassembled = true;
  head = head_of_whole head (length whole);
  frame = whole;
}
