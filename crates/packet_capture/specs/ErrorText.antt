-- The texts of the errors of captures.
use Rattle.std.specs.Prelude.{ℕ, ◌-◌, ◌++◌, List, codes, decimal, false, length, replicate}
use Rattle.std.specs.Fmt.{digits}
use Rattle.packet_capture.specs.declared.capture.CutOff.{CutOff}
use Rattle.packet_capture.specs.declared.capture.CaptureError.{CaptureError}
use Rattle.packet_capture.specs.declared.capture.CaptureError.TheVariants as capture
use Rattle.packet_capture.specs.declared.pcapng.blocks.BlockError.{BlockError}
use Rattle.packet_capture.specs.declared.pcapng.blocks.BlockError.TheVariants as block

-- digits, with leading zeros to this width
abbrev pub zero_padded : ℕ → List ℕ → List ℕ
zero_padded width number = replicate (width - length number) 48 ++ number

-- a number of four bytes in eight hex digits, in lower case
abbrev pub word_text : ℕ → List ℕ
word_text number = zero_padded 8 (digits 16 false number)

-- the text of an error for bytes that are too few
unfoldable pub cut_off_text : CutOff → List ℕ
cut_off_text e = codes "Capture Error: " ++ (decimal e.required_len
    ++ (codes " byte(s) are needed, but there are only " ++ (decimal e.len ++ codes ".")))

-- the text of an error for the front of a file
unfoldable pub capture_error_text : CaptureError → List ℕ
capture_error_text (capture.CutOff e) = cut_off_text e
capture_error_text (capture.Magic magic) =
    codes "Capture Error: The magic number 0x" ++ (word_text magic ++ codes " is not known.")
capture_error_text (capture.Version major minor) = codes "Capture Error: Version "
    ++ (decimal major ++ (codes "." ++ (decimal minor ++ codes " is not read.")))

-- the text of an error for a block
unfoldable pub block_error_text : BlockError → List ℕ
block_error_text (block.CutOff e) = cut_off_text e
block_error_text (block.Magic magic) = codes "Capture Error: No section has begun, and 0x"
    ++ (word_text magic ++ codes " begins none.")
block_error_text (block.ByteOrderMagic magic) =
    codes "Capture Error: 0x" ++ (word_text magic ++ codes " is no byte-order magic.")
block_error_text (block.BlockLength of len) =
    codes "Capture Error: A block of its type cannot have the length " ++ (decimal len ++ codes ".")
block_error_text (block.Lengths front back) =
    codes "Capture Error: The block has the length " ++ (decimal front
    ++ (codes ", and " ++ (decimal back ++ codes " at its end.")))
block_error_text (block.Version major minor) = codes "Capture Error: Version "
    ++ (decimal major ++ (codes "." ++ (decimal minor ++ codes " is not read.")))
block_error_text block.TooManyInterfaces =
    codes "Capture Error: The section has 256 interfaces already."
block_error_text (block.OptionLength code len place) = codes "Capture Error: The option "
    ++ (decimal code ++ (codes " at byte " ++ (decimal place
    ++ (codes " of the block cannot have the length " ++ (decimal len ++ codes ".")))))
block_error_text (block.Resolution value) =
    codes "Capture Error: The unit of time is too small (if_tsresol " ++ (decimal value
    ++ codes ").")
block_error_text (block.Interface id count) = codes "Capture Error: The packet is of interface "
    ++ (decimal id ++ (codes ", counted from 0, and there are " ++ (decimal count ++ codes ".")))
block_error_text (block.CapturedLength captured room) =
    codes "Capture Error: The packet has " ++ (decimal captured
    ++ (codes " byte(s), but the block has room for " ++ (decimal room ++ codes ".")))
