-- Interface Description Blocks and their options (draft-ietf-opsawg-pcapng sections 3.5 and 4.2).
use Rattle.std.specs.Prelude.{ℕ, ◌≡◌, ◌≢◌, ◌+◌, ◌-◌, ◌*◌, ◌/◌, ◌<◌, ◌≤◌, List, length, slice_range}
use Rattle.std.specs.Prelude.{Option, Some, None, Result, Ok, Err, if◌then◌else◌, nat_eq}
use Rattle.std.specs.Prelude.{slice_index}
use Rattle.std.specs.Int.{w16, w32, w64}
use Rattle.packet_capture.specs.Capture.{number_in}
use Rattle.packet_capture.specs.Pcapng.Times.{resolution_of}
use Rattle.packet_capture.specs.declared.capture.ByteOrder.{ByteOrder}
use Rattle.packet_capture.specs.declared.pcapng.blocks.BlockError.{BlockError}
use Rattle.packet_capture.specs.declared.pcapng.blocks.BlockError.TheVariants as error
use Rattle.packet_capture.specs.declared.pcapng.interfaces.Interface.{Interface}
use Rattle.packet_capture.specs.declared.pcapng.times.Resolution.{Resolution}
use Rattle.packet_capture.specs.declared.pcapng.times.Resolution.TheVariants.{PowerOfTen}

-- an interface, or why it is refused
abbrev pub InterfaceReading : Type 0
InterfaceReading = Result Interface BlockError

-- The interface before its options: the link type, two bytes that say nothing, and the snap length;
-- timestamps in microseconds, with no offset (section 4.2).
abbrev pub before_options : ByteOrder → List ℕ → Interface
before_options order block = record {
  link_type = number_in order w16 (slice_range block 8 10);
  snap_len = number_in order w32 (slice_range block 12 16);
  resolution = PowerOfTen 6;
  offset = 0;
}

-- the interface with the resolution that a byte says
abbrev pub with_resolution : Interface → ℕ → Option Resolution → InterfaceReading
with_resolution interface byte (Some resolution) =
    Ok (record interface { resolution = resolution })
with_resolution interface byte None = Err (error.Resolution byte)

-- The interface with what one option says, by its code and its value: if_tsresol, code 9, has one
-- byte; if_tsoffset, code 14, has eight; all others say nothing here (section 4.2). The place of
-- the option in its block is told if its length is another one.
abbrev pub with_option : ByteOrder → ℕ → ℕ → List ℕ → Interface → InterfaceReading
with_option order place code value interface =
    if nat_eq code 9 then
    (if nat_eq (length value) 1 then
    with_resolution interface (slice_index value 0) (resolution_of (slice_index value 0))
    else Err (error.OptionLength code (length value) place))
    else if nat_eq code 14 then
    (if nat_eq (length value) 8 then
    Ok (record interface { offset = number_in order w64 value })
    else Err (error.OptionLength code (length value) place))
    else Ok interface

-- the end of the options of a block, which its total length follows once more (section 3.1)
abbrev pub options_end : List ℕ → ℕ
options_end block = length block - 4

-- the place after an option with a value of this length, which is padded to 32 bits (section 3.5)
abbrev pub after_option : ℕ → ℕ → ℕ
after_option place len = place + 4 + (len + 3) / 4 * 4

-- the code of the option at a place of the block (section 3.5)
abbrev pub option_code : ByteOrder → List ℕ → ℕ → ℕ
option_code order block place = number_in order w16 (slice_range block place (place + 2))

-- An option with this code and a value of this length begins at a place of the block, and it is not
-- opt_endofopt, whose code is 0 (section 3.5).
pub record HasOption (order : ByteOrder) (block : List ℕ) (place code len : ℕ) : Type 0 where
  pub left : place < options_end block
  pub is_code : code ≡ option_code order block place
  pub is_len : len ≡ number_in order w16 (slice_range block (place + 2) (place + 4))
  pub goes_on : code ≢ 0

-- The options from a place of the block to the end or to opt_endofopt, one after the other, change
-- what is known of the interface. The first that reaches past the end, or that is wrong, is
-- refused.
pub data ReadsOptions (order : ByteOrder) (block : List ℕ) : ℕ → Interface → InterfaceReading
    → Type 0 where
  none_left : {place : ℕ} {interface : Interface} → options_end block ≤ place
      → ReadsOptions order block place interface (Ok interface)
  ends : {place : ℕ} {interface : Interface} → place < options_end block
      → option_code order block place ≡ 0 → ReadsOptions order block place interface (Ok interface)
  reaches_past : {place code len : ℕ} {interface : Interface}
      → HasOption order block place code len → options_end block < after_option place len
      → ReadsOptions order block place interface (Err (error.OptionLength code len place))
  is_wrong : {place code len : ℕ} {interface : Interface} {e : BlockError}
      → HasOption order block place code len → after_option place len ≤ options_end block
      → with_option order place code (slice_range block (place + 4) (place + 4 + len)) interface
      ≡ Err e → ReadsOptions order block place interface (Err e)
  tells : {place code len : ℕ} {interface next : Interface} {answer : InterfaceReading}
      → HasOption order block place code len → after_option place len ≤ options_end block
      → with_option order place code (slice_range block (place + 4) (place + 4 + len)) interface
      ≡ Ok next → ReadsOptions order block (after_option place len) next answer
      → ReadsOptions order block place interface answer

-- reading an Interface Description Block (section 4.2): its options begin at byte 16
abbrev pub ReadsInterface : ByteOrder → List ℕ → InterfaceReading → Type 0
ReadsInterface order block answer =
    ReadsOptions order block 16 (before_options order block) answer
