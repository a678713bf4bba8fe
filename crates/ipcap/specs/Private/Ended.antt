-- How a listing ends.
use Rattle.std.specs.Prelude.{ℕ, ◌≡◌, ◌⊎◌, List, [], ◌++◌, Err, None, Option}
use Rattle.packet.specs.Link.{link_type_of}
use Rattle.packet_capture.specs.Any.{ReadsFront}
use Rattle.packet_capture.specs.declared.any.Capture.{Capture}
use Rattle.packet_capture.specs.declared.any.Capture.TheVariants.{Pcap}
use Rattle.packet_capture.specs.declared.capture.CaptureError.TheVariants as capture
use Rattle.packet_capture.specs.declared.capture.CutOff as cut
use Rattle.packet_capture.specs.declared.capture.FileHeader.{FileHeader}
use Rattle.ipcap.specs.Listing.{Lists}
use Rattle.ipcap.specs.Output.{IsCause, first_place, listed, number_of, status_at}
use Rattle.ipcap.specs.Private.Progress.{WantsMore}
use Rattle.ipcap.specs.Reassembled.{Memory}
use Rattle.ipcap.specs.Streams.{CannotRead, NoReadFails, Prints, Reads, Reports, pending, unread}
use Rattle.ipcap.specs.Totals.{HasRoom}
use Rattle.ipcap.specs.declared.failure.Failure.{Failure}
use Rattle.ipcap.specs.declared.input.Input.{Input}
use Rattle.ipcap.specs.declared.output.Output.{Output}
use Rattle.ipcap.specs.declared.place.End.{End}
use Rattle.ipcap.specs.declared.request.Request.{Request}
use Rattle.ipcap.specs.declared.status.Status.{Status}
use Rattle.ipcap.specs.declared.totals.Totals.{Totals}

-- there are too few bytes for the front of a capture
abbrev pub LacksFront : List ℕ → Type 0
LacksFront bytes = (e : cut.CutOff) × ReadsFront bytes (Err (capture.CutOff e))

-- the frames of the capture are all of a link type with this number, which is not read
pub record HasUnreadFrames (capture : Capture) (number : ℕ) : Type 0 where
  pub header : FileHeader
  pub is : capture ≡ Pcap header
  pub is_number : number ≡ number_of header
  pub other : link_type_of number ≡ None

-- the blocks are listed, and all is passed to the sinks
pub record WritesListing {W E : Type 0} (contents : W → Option (List ℕ))
    (contents_of_errors : E → Option (List ℕ)) (error_failed : E → Type 0) (request : Request)
    (memory : Memory) (capture : Capture) (blocks : List ℕ) (status : Status) (old new : Output W)
    (old_errors new_errors : Output E) : Type 0 where
  pub text : List ℕ
  pub totals : Totals
  pub end : Option End
  pub lists : Lists request (first_place memory capture) blocks text totals end
  pub ended : status ≡ status_at end
  pub prints : Prints contents old new (text ++ (listed request text totals end).closing)
  pub all : pending new ≡ []
  pub errors : Reports contents_of_errors error_failed old_errors new_errors
      (listed request text totals end).errors

-- a front of what was read is listed, and then a call failed or a count was full
pub record FailsListing {R W E : Type 0} (remaining : R → Option (List ℕ))
    (contents : W → Option (List ℕ)) (read_failed : R → Type 0) (write_failed : W → Type 0)
    (request : Request) (memory : Memory) (capture : Capture) (e : Failure) (input left : Input R)
    (old new : Output W) (old_errors new_errors : Output E) : Type 0 where
  pub got : List ℕ
  pub reads : Reads remaining input left got
  pub front : List ℕ
  pub rest : List ℕ
  pub whole : unread input ++ got ≡ front ++ rest
  pub text : List ℕ
  pub totals : Totals
  pub end : Option End
  pub lists : Lists request (first_place memory capture) front text totals end
  pub printed : List ℕ
  pub unprinted : List ℕ
  pub parts : text ++ (listed request text totals end).closing ≡ printed ++ unprinted
  pub prints : Prints contents old new printed
  pub errors : new_errors ≡ old_errors
  pub wanted : NoReadFails read_failed input left ⊎ (WantsMore request totals end × (rest ≡ []))
  pub cause : IsCause (CannotRead read_failed left × WantsMore request totals end) (rest ≡ [])
      (write_failed new.sink) (¬ HasRoom totals)
      (Prints contents old new text × (pending new ≡ [])) e
