-- What the program writes.
use Rattle.std.specs.Prelude.{ℕ, ◌≡◌, ◌⊎◌, ◌%◌, ◌^◌, Bool, List, [], ◌++◌, IsSome, Option, Some}
use Rattle.std.specs.Prelude.{Err, None, Ok, false, take}
use Rattle.std.specs.Option.{is_some}
use Rattle.packet.specs.Link.{link_type_of}
use Rattle.packet_capture.specs.Any.{ReadsFront}
use Rattle.packet_capture.specs.declared.any.Capture.{Capture}
use Rattle.packet_capture.specs.declared.any.Capture.TheVariants.{Pcap, Pcapng}
use Rattle.packet_capture.specs.declared.capture.CaptureError.{CaptureError}
use Rattle.packet_capture.specs.declared.capture.CaptureError.TheVariants as capture
use Rattle.packet_capture.specs.declared.capture.CutOff as cut
use Rattle.packet_capture.specs.declared.capture.FileHeader.{FileHeader}
use Rattle.ipcap.specs.Ends.{end_text}
use Rattle.ipcap.specs.Lines.{capture_error_line, closing_text, link_type_line}
use Rattle.ipcap.specs.Lines.{report_text}
use Rattle.ipcap.specs.Listing.{Lists}
use Rattle.ipcap.specs.Reassembled.{Memory}
use Rattle.ipcap.specs.Request.{copies, has_enough}
use Rattle.ipcap.specs.Streams.{CannotRead, Gets, GetsFront, NoReadFails, Reads, Reports, kept_if}
use Rattle.ipcap.specs.Streams.{unread}
use Rattle.ipcap.specs.Totals.{HasRoom, first_totals, nothing_counted}
use Rattle.ipcap.specs.declared.failure.Failure.{Failure}
use Rattle.ipcap.specs.declared.failure.Failure.TheVariants as failure
use Rattle.ipcap.specs.declared.input.Input.{Input}
use Rattle.ipcap.specs.declared.output.Output.{Output}
use Rattle.ipcap.specs.declared.place.End.{End}
use Rattle.ipcap.specs.declared.place.End.TheVariants.{CutOff}
use Rattle.ipcap.specs.declared.place.Place.{Place}
use Rattle.ipcap.specs.declared.request.Request.{Request}
use Rattle.ipcap.specs.declared.status.Status.{Status}
use Rattle.ipcap.specs.declared.status.Status.TheVariants as status
use Rattle.ipcap.specs.declared.totals.Totals.{Totals}

-- a status, what is counted, and the texts: for standard output what is written of the blocks and
-- what stands after that, and the text for standard error
pub record Outcome : Type 0 where
  pub status : Status
  pub totals : Totals
  pub blocks : List ℕ
  pub closing : List ℕ
  pub errors : List ℕ

-- the status if all blocks are whole, or if the last one is cut off, or refused
abbrev pub status_at : Option End → Status
status_at None = status.Done
status_at (Some (CutOff e)) = status.CutOff
status_at (Some end) = status.Refused

-- a run that lists packets
abbrev pub listed : Request → List ℕ → Totals → Option End → Outcome
listed request text totals end = record {
  status = status_at end;
  totals = totals;
  blocks = text;
  closing = closing_text request.mode (is_some request.filter) totals;
  errors = end_text totals.bytes end
      ++ report_text request.mode (is_some request.filter) totals;
}

-- a run that ends before any block
abbrev pub refused : List ℕ → Outcome
refused line = record {
  status = status.NoCapture;
  totals = nothing_counted;
  blocks = [];
  closing = [];
  errors = line;
}

-- the place before any block
abbrev pub first_place : Memory → Capture → Place
first_place memory capture = record {
  totals = first_totals (is_some memory);
  capture = capture;
  memory = memory;
}

-- how many bytes stand before the first block: the file header; in pcapng all bytes are blocks
abbrev pub header_len : Capture → ℕ
header_len (Pcap header) = 24
header_len (Pcapng section) = 0

-- what stands before the blocks: if they are written as they came, the file header as it came
abbrev pub front_of : Request → Capture → List ℕ → List ℕ
front_of request capture input = kept_if (copies request.mode) (take (header_len capture) input)

-- the outcome for a capture with these blocks, of which something stands before them
pub record IsListing (request : Request) (memory : Memory) (capture : Capture)
    (front blocks : List ℕ) (outcome : Outcome) : Type 0 where
  pub text : List ℕ
  pub totals : Totals
  pub end : Option End
  pub lists : Lists request (first_place memory capture) blocks text totals end
  pub outcome_of : outcome ≡ listed request (front ++ text) totals end

-- the number of the link type, without the bits above it, which are about a frame check sequence
abbrev pub number_of : FileHeader → ℕ
number_of header = header.link_type % 2 ^ 16

-- the link type that a file header says for all packets is read; in pcapng each interface has one
-- of its own
abbrev pub HasReadFrames : Capture → Type 0
HasReadFrames (Pcap header) = IsSome (link_type_of (number_of header))
HasReadFrames (Pcapng section) = Unit {0}

-- The input is a capture that is read, in either format, and these are its blocks.
pub record IsCapture (input : List ℕ) (capture : Capture) (blocks : List ℕ) : Type 0 where
  pub front : ReadsFront input (Ok (capture, blocks))
  pub is_read : HasReadFrames capture

-- Its blocks are listed.
pub record IsListed (request : Request) (memory : Memory) (input : List ℕ) (outcome : Outcome)
    : Type 0 where
  pub capture : Capture
  pub blocks : List ℕ
  pub is : IsCapture input capture blocks
  pub lists : IsListing request memory capture (front_of request capture input) blocks outcome

-- The input is a capture in the classic format, of another link type.
pub record HasOtherFrames (input : List ℕ) (outcome : Outcome) : Type 0 where
  pub header : FileHeader
  pub blocks : List ℕ
  pub front : ReadsFront input (Ok (Pcap header, blocks))
  pub other : link_type_of (number_of header) ≡ None
  pub outcome_of : outcome ≡ refused (link_type_line (number_of header))

-- The input is no capture.
pub record IsNoCapture (input : List ℕ) (outcome : Outcome) : Type 0 where
  pub error : CaptureError
  pub front : ReadsFront input (Err error)
  pub outcome_of : outcome ≡ refused (capture_error_line error)

-- the outcome of a request for an input, with slots if packets are put together
abbrev pub IsOutcome : Request → Memory → List ℕ → Outcome → Type 0
IsOutcome request memory input outcome = IsListed request memory input outcome
    ⊎ HasOtherFrames input outcome ⊎ IsNoCapture input outcome

-- the sinks get the texts of such an outcome; standard error, if it takes its text
pub record Writes {W E : Type 0} (contents : W → Option (List ℕ))
    (contents_of_errors : E → Option (List ℕ)) (error_failed : E → Type 0)
    (P : Outcome → Type 0) (status : Status) (old new : Output W)
    (old_errors new_errors : Output E) : Type 0 where
  pub outcome : Outcome
  pub is_outcome : P outcome
  pub ended : status ≡ outcome.status
  pub output : Gets contents old new (outcome.blocks ++ outcome.closing)
  pub errors : Reports contents_of_errors error_failed old_errors new_errors outcome.errors

-- The outcome if the blocks end before the rest of what was read.
pub record IsListedTo (request : Request) (memory : Memory) (read rest : List ℕ)
    (outcome : Outcome) : Type 0 where
  pub capture : Capture
  pub blocks : List ℕ
  pub is : IsCapture read capture (blocks ++ rest)
  pub lists : IsListing request memory capture (front_of request capture read) blocks outcome

-- What was read is no capture yet: there are too few bytes.
pub record IsNoCaptureYet (read : List ℕ) (outcome : Outcome) : Type 0 where
  pub error : cut.CutOff
  pub front : ReadsFront read (Err (capture.CutOff error))
  pub outcome_of : outcome ≡ refused (capture_error_line (capture.CutOff error))

-- more has to be read: fewer packets are listed than were asked for; or the last block is cut off;
-- or what was read is no capture yet
abbrev pub WantsMoreAt : Bool → Status → Type 0
WantsMoreAt has_enough status.Done = has_enough ≡ false
WantsMoreAt has_enough status.CutOff = Unit {0}
WantsMoreAt has_enough status.Refused = ⊥
WantsMoreAt has_enough status.NoCapture = Unit {0}

abbrev pub IsOpen : Request → Outcome → Type 0
IsOpen request outcome = WantsMoreAt (has_enough request outcome.totals.listed) outcome.status

-- Why a run fails, if all that is read is listed but a rest: a read has failed, more is wanted, and
-- nothing is left to list; or a write has failed; or a count is full. Unless a write has failed,
-- all is written that is of the blocks.
abbrev pub IsCause : Type 0 → Type 0 → Type 0 → Type 0 → Type 0 → Failure → Type 0
IsCause read_failed nothing_left write_failed is_full is_written failure.Read =
    read_failed × nothing_left × is_written
IsCause read_failed nothing_left write_failed is_full is_written failure.Write = write_failed
IsCause read_failed nothing_left write_failed is_full is_written failure.Count =
    is_full × is_written

-- A run that fails got these bytes from the source. All that was read is listed but for a rest. The
-- sink got a front of what it gets if the blocks end before that. Standard error got nothing. If a
-- read has failed, more was wanted, and nothing was left to list.
pub record Fails {R W E : Type 0} (remaining : R → Option (List ℕ))
    (contents : W → Option (List ℕ)) (read_failed : R → Type 0) (write_failed : W → Type 0)
    (request : Request) (memory : Memory) (e : Failure) (input left : Input R) (old new : Output W)
    (old_errors new_errors : Output E) : Type 0 where
  pub got : List ℕ
  pub reads : Reads remaining input left got
  pub rest : List ℕ
  pub outcome : Outcome
  pub is_outcome : IsListedTo request memory (unread input ++ got) rest outcome
      ⊎ ((rest ≡ []) × IsNoCaptureYet (unread input ++ got) outcome)
  pub output : GetsFront contents old new (outcome.blocks ++ outcome.closing)
  pub errors : new_errors ≡ old_errors
  pub wanted : NoReadFails read_failed input left ⊎ (IsOpen request outcome × (rest ≡ []))
  pub cause : IsCause (CannotRead read_failed left × IsOpen request outcome) (rest ≡ [])
      (write_failed new.sink) (¬ HasRoom outcome.totals)
      (Gets contents old new outcome.blocks) e
