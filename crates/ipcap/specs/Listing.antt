-- What is written of the blocks of a capture, in their order.
use Rattle.std.specs.Prelude.{ℕ, ◌≡◌, ◌≢◌, ◌+◌, ◌-◌, ◌<◌, ◌≤◌, ◌⊎◌, Bool, true, false}
use Rattle.std.specs.Prelude.{List, [], ◌++◌, MatchOption, None, Option, Some, drop, length, take}
use Rattle.std.specs.Bool.{then_some}
use Rattle.std.specs.Option.{is_none}
use Rattle.packet.specs.Link.{link_type_of}
use Rattle.packet_capture.specs.Any.{BeginsWith, RefusesBlock, Said}
use Rattle.packet_capture.specs.Any as said
use Rattle.packet_capture.specs.Skip.{HasBlockFront, HasOtherEnd, front_len}
use Rattle.packet_capture.specs.declared.any.Capture.{Capture}
use Rattle.packet_capture.specs.declared.any.PacketHead.{PacketHead}
use Rattle.packet_capture.specs.declared.capture.CutOff as cut
use Rattle.packet_capture.specs.declared.pcapng.blocks.BlockError.{BlockError}
use Rattle.packet_capture.specs.declared.pcapng.blocks.BlockError.TheVariants as error
use Rattle.packet_capture.specs.declared.skip.BlockFront.{BlockFront}
use Rattle.packet_capture.specs.declared.skip.Content.{Content}
use Rattle.packet_capture.specs.declared.skip.Content.TheVariants as content
use Rattle.packet_filter.specs.Frame.{Answers}
use Rattle.packet_filter.specs.Program.{expression_of}
use Rattle.packet_filter.specs.declared.filter.Filter.{Filter}
use Rattle.ipcap.specs.Lines.{record_line}
use Rattle.ipcap.specs.Reading.{ReadsNumbered, left_out, max_len}
use Rattle.ipcap.specs.Reassembled.{Memory, Reassembles, seen_as}
use Rattle.ipcap.specs.Request.{copies, has_enough}
use Rattle.ipcap.specs.Streams.{kept_if}
use Rattle.ipcap.specs.Totals.{Told, counted, no_packet, packet}
use Rattle.ipcap.specs.declared.place.End.{End}
use Rattle.ipcap.specs.declared.place.End.TheVariants.{CutOff, Refused, TooLong}
use Rattle.ipcap.specs.declared.place.Place.{Place}
use Rattle.ipcap.specs.declared.reading.Reading.{Reading}
use Rattle.ipcap.specs.declared.reading.Reading.TheVariants.{Skipped}
use Rattle.ipcap.specs.declared.request.Mode.{Mode}
use Rattle.ipcap.specs.declared.request.Mode.TheVariants.{Lines, Packets}
use Rattle.ipcap.specs.declared.request.Request.{Request}
use Rattle.ipcap.specs.declared.totals.Totals.{Totals}

-- what a filter says of a packet: what its expression is of the frame, with the packet's original
-- length as that on the wire; none is true of a frame of a link type that is not read
abbrev pub Says : Filter → PacketHead → List ℕ → Bool → Type 0
Says filter head frame is = MatchOption (link_type_of head.link_type) (is ≡ false)
    (λ link_type. Answers (expression_of filter) link_type frame head.original_len is)

-- whether a packet with this head and this frame is listed: each is, or those are of which the
-- expression is true
abbrev pub IsChosen : Request → PacketHead → List ℕ → Bool → Type 0
IsChosen request head frame is =
    MatchOption request.filter (is ≡ true) (λ filter. Says filter head frame is)

-- the reading of a packet whose frame is read, if the packet is listed
abbrev pub ReadsChosen : Request → PacketHead → List ℕ → Option Reading → Type 0
ReadsChosen request head frame (Some reading) = IsChosen request head frame true
    × ReadsNumbered head.link_type (left_out head) frame reading
ReadsChosen request head frame None = IsChosen request head frame false

-- this is told of a packet with this head and this frame: it is told as what is seen in its place
pub record TellsPacket (request : Request) (head : PacketHead) (frame : List ℕ)
    (before : Totals) (old : Memory) (after : Totals) (new : Memory) (is_reassembled : Bool)
    (same : PacketHead) (found : Option Reading) : Type 0 where
  pub whole : Option (List ℕ)
  pub reassembles : Reassembles head frame before old after new whole
  pub is_mark : is_reassembled ≡ (seen_as head frame whole).is_reassembled
  pub is_head : same ≡ (seen_as head frame whole).head
  pub reads : ReadsChosen request (seen_as head frame whole).head (seen_as head frame whole).frame
      found

-- what is told of a block that says this, if it is not too long; and what it does to what is
-- counted and to what has come of datagrams
abbrev pub ToldOf : Request → Said → Totals → Memory → Totals → Memory → Told → Type 0
ToldOf request (said.packet head frame) before old after new (packet is_reassembled same found) =
    TellsPacket request head frame before old after new is_reassembled same found
ToldOf request said.other before old after new no_packet = (after ≡ before) × (new ≡ old)
ToldOf request of before old after new told = ⊥

-- the reading of a packet in a block that is too long to be read, if it is listed: no expression is
-- true of it
abbrev pub if_too_long : Request → Option Reading
if_too_long request = then_some (is_none request.filter) Skipped

-- what is told of a block that is too long
abbrev pub ToldOfLong : Request → Content → Told → Type 0
ToldOfLong request (content.Packet head) told = told ≡ packet false head (if_too_long request)
ToldOfLong request content.Other told = told ≡ no_packet
ToldOfLong request of told = ⊥

-- what is written of a listed packet after those counted: its line, or its block as it came, or
-- nothing
abbrev pub written_as : Mode → Bool → Totals → Bool → PacketHead → List ℕ → Reading → List ℕ
written_as Lines is_utc before is_reassembled head bytes reading =
    record_line is_utc (before.records + 1) is_reassembled head reading
written_as Packets is_utc before is_reassembled head bytes reading = bytes
written_as mode is_utc before is_reassembled head bytes reading = []

-- The same of any block, which has these bytes. Of a packet that is not listed nothing is written.
-- A block without a packet is written if packets are.
abbrev pub written : Request → Totals → Told → List ℕ → List ℕ
written request before (packet is_reassembled head (Some reading)) bytes =
    written_as request.mode request.is_utc before is_reassembled head bytes reading
written request before (packet is_reassembled head None) bytes = []
written request before no_packet bytes = kept_if (copies request.mode) bytes

-- the place after a block of this length
abbrev pub passed : ℕ → Bool → Told → Place → Place
passed len is_long told place = record place { totals = counted len is_long told place.totals }

-- The block is cut off, and it is no longer than what is read; or even its front is not there.
pub record CutsOff (capture : Capture) (s : List ℕ) (e : cut.CutOff) : Type 0 where
  pub refuses : RefusesBlock capture s (error.CutOff e)
  pub short : (e.required_len ≤ max_len capture) ⊎ (length s < front_len capture)

-- A block is refused for another reason, and no more than what is read is needed to see it.
pub record Refuses (capture : Capture) (s : List ℕ) (e : BlockError) : Type 0 where
  pub refuses : RefusesBlock capture (take (max_len capture) s) e
  pub other : (of : cut.CutOff) → e ≢ error.CutOff of

-- the data begins with a block that is longer than what is read, and has this front
pub record HasLongFront (capture : Capture) (s : List ℕ) (front : BlockFront) : Type 0 where
  pub enough : front_len capture ≤ length s
  pub has : HasBlockFront capture s front
  pub long : max_len capture < front.len

-- such a block ends the listing, if it is refused, or says how those after it are read
abbrev pub EndsAt : ℕ → Content → End → Type 0
EndsAt len (content.Refused e) end = end ≡ Refused e
EndsAt len content.Description end = end ≡ TooLong len
EndsAt len of end = ⊥

-- or it ends with another length
pub record EndsOtherwise (s : List ℕ) (front : BlockFront) (e : BlockError) : Type 0 where
  pub enough : front.len ≤ length s
  pub other : HasOtherEnd front.head (drop (front.len - 4) (take front.len s)) e

-- The text is what is written of the blocks that the data consists of, one after the other, and
-- each is counted. After a block the capture, and what has come of datagrams, are what the next one
-- is told by. The listing ends with the data; or at a block that is cut off or refused. One that is
-- too long is told before its end is seen, with the bytes that are there; its length counts once it
-- is whole. Once as many packets are listed as were asked for, nothing more is read, whatever
-- follows; but a block that is too long is read to its end, also if it has the last of these.
pub data Lists (request : Request) : Place → List ℕ → List ℕ → Totals → Option End → Type 0 where
  ends : {place : Place} → Lists request place [] [] place.totals None
  stops : {place : Place} {s : List ℕ} → has_enough request place.totals.listed ≡ true
      → Lists request place s [] place.totals None
  lists : {before : Place} {last : Totals} {s rest text : List ℕ} {end : Option End}
      (after : Place) (of : Said) (told : Told) → has_enough request before.totals.listed ≡ false
      → BeginsWith before.capture s after.capture of rest
      → length s - length rest ≤ max_len before.capture
      → ToldOf request of before.totals before.memory after.totals after.memory told
      → Lists request (passed (length s - length rest) false told after) rest text last end
      → Lists request before s (written request after.totals told
      (take (length s - length rest) s) ++ text) last end
  lists_long : {before : Place} {last : Totals} {s rest text : List ℕ} {front : BlockFront}
      {end : Option End} (of : Said) (told : Told)
      → has_enough request before.totals.listed ≡ false → HasLongFront before.capture s front
      → ToldOfLong request front.content told
      → BeginsWith before.capture s before.capture of rest
      → Lists request (passed front.len true told before) rest text last end
      → Lists request before s (written request before.totals told (take front.len s) ++ text)
      last end
  is_cut_off : {place : Place} {s : List ℕ} {e : cut.CutOff}
      → has_enough request place.totals.listed ≡ false → CutsOff place.capture s e
      → Lists request place s [] place.totals (Some (CutOff e))
  is_refused : {place : Place} {s : List ℕ} {e : BlockError}
      → has_enough request place.totals.listed ≡ false → Refuses place.capture s e
      → Lists request place s [] place.totals (Some (Refused e))
  is_cut_off_long : {before : Place} {s : List ℕ} {front : BlockFront} (told : Told)
      → has_enough request before.totals.listed ≡ false → HasLongFront before.capture s front
      → ToldOfLong request front.content told → length s < front.len
      → Lists request before s (written request before.totals told s)
      (counted 0 true told before.totals)
      (Some (CutOff (record { required_len = front.len; len = length s })))
  is_refused_long : {place : Place} {s : List ℕ} {front : BlockFront} {end : End}
      → has_enough request place.totals.listed ≡ false → HasLongFront place.capture s front
      → EndsAt front.len front.content end → Lists request place s [] place.totals (Some end)
  ends_otherwise : {before : Place} {s : List ℕ} {front : BlockFront} {e : BlockError}
      (told : Told) → has_enough request before.totals.listed ≡ false
      → HasLongFront before.capture s front → ToldOfLong request front.content told
      → EndsOtherwise s front e
      → Lists request before s (written request before.totals told (take front.len s))
      (counted 0 true told before.totals) (Some (Refused e))
