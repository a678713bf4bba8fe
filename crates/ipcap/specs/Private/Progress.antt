-- How much of a capture has been listed.
use Rattle.std.specs.Prelude.{ℕ, ◌≡◌, ◌≢◌, ◌<◌, ◌≤◌, ◌⊎◌, List, [], ◌++◌, Option, Some, None}
use Rattle.std.specs.Prelude.{Bool, ◌&&◌, ◌∷◌, drop, false, length, true}
use Rattle.std.specs.Option.{is_none}
use Rattle.std.specs.Io.KnownBytes.{IsAtEnd}
use Rattle.packet_capture.specs.Any.{RefusesBlock, Said}
use Rattle.packet_capture.specs.Any as said
use Rattle.packet_capture.specs.declared.any.PacketHead.{PacketHead}
use Rattle.packet_capture.specs.declared.capture.CutOff as cut
use Rattle.packet_capture.specs.declared.pcapng.blocks.BlockError.TheVariants as error
use Rattle.packet_capture.specs.declared.skip.BlockFront.{BlockFront}
use Rattle.packet_capture.specs.declared.skip.Content.{Content}
use Rattle.packet_capture.specs.declared.skip.Content.TheVariants as content
use Rattle.ipcap.specs.Listing.{Lists, ReadsChosen, ToldOf, ToldOfLong, written}
use Rattle.ipcap.specs.Reassembled.{Memory}
use Rattle.ipcap.specs.Request.{copies, has_enough}
use Rattle.ipcap.specs.Streams.{CannotRead, Prints, Reads, Takes, kept_if, unread}
use Rattle.ipcap.specs.Totals.{HasRoom, Told, counted, packet}
use Rattle.ipcap.specs.declared.failure.Failure.{Failure}
use Rattle.ipcap.specs.declared.failure.Failure.TheVariants as failure
use Rattle.ipcap.specs.declared.input.Input.{Input}
use Rattle.ipcap.specs.declared.listing.Stop.{Stop}
use Rattle.ipcap.specs.declared.listing.Stop.TheVariants as stop
use Rattle.ipcap.specs.declared.listing.Turn.{Turn}
use Rattle.ipcap.specs.declared.listing.Turn.TheVariants as turn
use Rattle.ipcap.specs.declared.output.Output.{Output}
use Rattle.ipcap.specs.declared.place.End.{End}
use Rattle.ipcap.specs.declared.place.End.TheVariants.{CutOff}
use Rattle.ipcap.specs.declared.place.Place.{Place}
use Rattle.ipcap.specs.declared.reading.Reading.{Reading}
use Rattle.ipcap.specs.declared.request.Request.{Request}
use Rattle.ipcap.specs.declared.totals.Totals.{Totals}

-- why no whole block is read at the front of the data: enough are listed; or there are no data; or
-- they begin with a block that is cut off, or refused for another reason
abbrev pub Stops : Request → Place → List ℕ → Stop → Type 0
Stops request place rest stop.Enough = has_enough request place.totals.listed ≡ true
Stops request place rest stop.Empty =
    (has_enough request place.totals.listed ≡ false) × (rest ≡ [])
Stops request place rest (stop.CutOff e) = (has_enough request place.totals.listed ≡ false)
    × RefusesBlock place.capture rest (error.CutOff e)
Stops request place rest (stop.Refused e) = (has_enough request place.totals.listed ≡ false)
    × RefusesBlock place.capture rest e × ((of : cut.CutOff) → e ≢ error.CutOff of)

-- fewer are listed than were asked for, or the last block is cut off
abbrev pub WantsMore : Request → Totals → Option End → Type 0
WantsMore request last None = has_enough request last.listed ≡ false
WantsMore request last (Some (CutOff e)) = Unit {0}
WantsMore request last (Some end) = ⊥

-- Why no more is told: more is wanted, nothing is left of what was read, all is printed, and a read
-- failed; or a write did; or a count is full, and all before it is printed.
abbrev pub Because : Type 0 → Type 0 → Type 0 → Failure → Type 0 → List ℕ → List ℕ → Type 0
Because read_failed write_failed is_full failure.Read wants rest left =
    wants × (rest ≡ []) × (left ≡ []) × read_failed
Because read_failed write_failed is_full failure.Write wants rest left = write_failed
Because read_failed write_failed is_full failure.Count wants rest left = is_full × (left ≡ [])

-- the bytes are kept of a block that is too long
abbrev pub keeps : Request → Content → Bool
keeps request (content.Packet head) = copies request.mode && is_none request.filter
keeps request of = copies request.mode

-- the last four bytes, if there are as many; zeros stand for those that there are not
abbrev pub last_four : List ℕ → List ℕ
last_four bytes = drop (length bytes) ((0 ∷ 0 ∷ 0 ∷ 0 ∷ []) ++ bytes)

-- this many bytes were taken, of so many that were wanted, and are printed if they are kept; if
-- these are fewer, nothing is left
pub record Skips {R W : Type 0} (remaining : R → Option (List ℕ)) (contents : W → Option (List ℕ))
    (keeps : Bool) (wanted : ℕ) (old new : Input R) (old_output new_output : Output W) (len : ℕ)
    (last : List ℕ) : Type 0 where
  pub taken : List ℕ
  pub takes : Takes remaining old new taken
  pub many : length taken ≡ len
  pub within : len ≤ wanted
  pub all : len < wanted → unread new ≡ []
  pub prints : Prints contents old_output new_output (kept_if keeps taken)
  pub is_last : last ≡ last_four taken

-- of so many bytes that were wanted some were told, of which the first are printed if they are
-- kept; then a call failed
pub record Lacks {R W : Type 0} (remaining : R → Option (List ℕ)) (contents : W → Option (List ℕ))
    (read_failed write_failed : Type 0) (keeps : Bool) (wanted : ℕ) (e : Failure)
    (old new : Input R) (old_output new_output : Output W) : Type 0 where
  pub got : List ℕ
  pub reads : Reads remaining old new got
  pub first : List ℕ
  pub piece : List ℕ
  pub rest : List ℕ
  pub whole : unread old ++ got ≡ (first ++ piece) ++ rest
  pub within : length (first ++ piece) ≤ wanted
  pub all : length (first ++ piece) < wanted → rest ≡ []
  pub prints : Prints contents old_output new_output (kept_if keeps first)
  pub cause : Because read_failed write_failed ⊥ e (length (first ++ piece) < wanted) rest piece

-- a frame is no longer than what is read of a block
abbrev pub IsShort : Said → Type 0
IsShort (said.packet head frame) = length frame ≤ 327680
IsShort said.other = Unit {0}

module _ {W : Type 0} (contents : W → Option (List ℕ)) (request : Request) where
  -- a block of this length, of which this is told, is counted, and what is written of it is printed
  pub record TellsBlock (len : ℕ) (is_long : Bool) (told : Told) (before after : Totals)
      (bytes : List ℕ) (old new : Output W) : Type 0 where
    pub counts : after ≡ counted len is_long told before
    pub prints : Prints contents old new (written request before told bytes)

  -- the same of a packet whose frame is read
  pub record TellsFrame (is_reassembled : Bool) (before after : Totals) (head : PacketHead)
      (bytes frame : List ℕ) (old new : Output W) : Type 0 where
    pub found : Option Reading
    pub reads : ReadsChosen request head frame found
    pub tells : TellsBlock (length bytes) false (packet is_reassembled head found) before after
        bytes old new

  -- the same of any block that says this
  pub record TellsSaid (before : Totals) (old : Memory) (after : Totals) (new : Memory)
      (of : Said) (bytes : List ℕ) (old_output new_output : Output W) : Type 0 where
    pub told : Told
    pub mid : Totals
    pub is : ToldOf request of before old mid new told
    pub counts : after ≡ counted (length bytes) false told mid
    pub prints : Prints contents old_output new_output (written request mid told bytes)

  -- the same of a block that is too long, but for its bytes and its length
  pub record TellsFrontOf (front : BlockFront) (before after : Totals) (old new : Output W)
      : Type 0 where
    pub told : Told
    pub is : ToldOfLong request front.content told
    pub counts : after ≡ counted 0 true told before
    pub line : List ℕ
    pub prints : Prints contents old new line
    pub all : (bytes : List ℕ) → written request before told bytes
        ≡ line ++ kept_if (keeps request front.content) bytes

  -- these are blocks of which something is written, and it is printed
  pub record IsTold (before : Place) (last : Totals) (end : Option End) (old new : Output W)
      (blocks : List ℕ) : Type 0 where
    pub text : List ℕ
    pub lists : Lists request before blocks text last end
    pub prints : Prints contents old new text

  -- this data is told: what is written of it stands before what is written of all that follows
  pub record Tells (before after : Place) (taken : List ℕ) (old new : Output W) : Type 0 where
    pub text : List ℕ
    pub lists : (last : Totals) (end : Option End) (more end_text : List ℕ)
        → Lists request after more end_text last end
        → Lists request before (taken ++ more) (text ++ end_text) last end
    pub prints : Prints contents old new text

  -- a front of the data is told, and the front of what is written of it is printed
  pub record TellsFront (read_failed write_failed : Type 0) (before : Place) (e : Failure)
      (bytes : List ℕ) (old new : Output W) : Type 0 where
    pub front : List ℕ
    pub rest : List ℕ
    pub whole : bytes ≡ front ++ rest
    pub last : Totals
    pub end : Option End
    pub printed : List ℕ
    pub left : List ℕ
    pub lists : Lists request before front (printed ++ left) last end
    pub prints : Prints contents old new printed
    pub cause : Because read_failed write_failed (¬ HasRoom last) e (WantsMore request last end)
        rest left

module _ {R W : Type 0} (remaining : R → Option (List ℕ)) (contents : W → Option (List ℕ))
    (request : Request) where
  -- the blocks that were taken are told, and more was read
  pub record GoesOn (before after : Place) (old new : Input R) (old_output new_output : Output W)
      : Type 0 where
    pub taken : List ℕ
    pub takes : Takes remaining old new taken
    pub tells : Tells contents request before after taken old_output new_output
    pub more : old.count < new.count

  -- All blocks are told: the input is at its end; or enough are listed, or a block is refused,
  -- whatever follows.
  pub record Ends (before : Place) (last : Totals) (end : Option End) (old new : Input R)
      (old_output new_output : Output W) : Type 0 where
    pub got : List ℕ
    pub reads : Reads remaining old new got
    pub told : IsTold contents request before last end old_output new_output (unread old ++ got)
    pub all : IsAtEnd (remaining new.source) ⊎ ((rest : List ℕ) → IsTold contents request before
        last end old_output new_output ((unread old ++ got) ++ rest))

  -- what a turn does
  abbrev pub Turns : Place → Place → Turn → Input R → Input R → Output W → Output W → Type 0
  Turns before after turn.GoesOn old new old_output new_output =
      GoesOn before after old new old_output new_output
  Turns before after (turn.Ends end) old new old_output new_output =
      Ends before after.totals end old new old_output new_output

  -- a front of what was read is told, and then a call failed
  pub record Breaks (read_failed : R → Type 0) (write_failed : W → Type 0) (before : Place)
      (e : Failure) (old new : Input R) (old_output new_output : Output W) : Type 0 where
    pub got : List ℕ
    pub reads : Reads remaining old new got
    pub tells : TellsFront contents request (CannotRead read_failed new)
        (write_failed new_output.sink) before e (unread old ++ got) old_output new_output
