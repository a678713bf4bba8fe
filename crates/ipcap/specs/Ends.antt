-- The line on how a listing ends before the capture does.
use Rattle.std.specs.Prelude.{ℕ, List, [], ◌++◌, codes, decimal, Option, Some, None, false}
use Rattle.std.specs.Fmt.{digits}
use Rattle.packet_capture.specs.declared.capture.CutOff as cut
use Rattle.packet_capture.specs.declared.pcapng.blocks.BlockError.{BlockError}
use Rattle.packet_capture.specs.declared.pcapng.blocks.BlockError.TheVariants as error
use Rattle.ipcap.specs.Digits.{zero_padded}
use Rattle.ipcap.specs.declared.place.End.{End}
use Rattle.ipcap.specs.declared.place.End.TheVariants.{CutOff, Refused, TooLong}

-- eight hex digits, in lower case
abbrev pub word_text : ℕ → List ℕ
word_text number = zero_padded 8 (digits 16 false number)

-- why a block of pcapng is refused
unfoldable pub block_error_text : BlockError → List ℕ
block_error_text (error.CutOff e) =
    codes "it needs " ++ (decimal e.required_len ++ (codes " bytes, and there are "
    ++ decimal e.len))
block_error_text (error.Magic magic) =
    codes "it begins with 0x" ++ (word_text magic ++ codes ", and no section")
block_error_text (error.ByteOrderMagic magic) =
    codes "the byte-order magic is 0x" ++ word_text magic
block_error_text (error.BlockLength of len) = codes "its length is " ++ (decimal len
    ++ codes " bytes")
block_error_text (error.Lengths front back) = codes "its length is " ++ (decimal front
    ++ (codes " bytes, and " ++ (decimal back ++ codes " at its end")))
block_error_text (error.Version major minor) =
    codes "the version is " ++ (decimal major ++ (codes "." ++ decimal minor))
block_error_text error.TooManyInterfaces = codes "the section has 256 interfaces already"
block_error_text (error.OptionLength code len place) = codes "its option " ++ (decimal code
    ++ (codes " at byte " ++ (decimal place ++ (codes " has " ++ (decimal len
    ++ codes " bytes")))))
block_error_text (error.Resolution value) =
    codes "its unit of time is too small (if_tsresol " ++ (decimal value ++ codes ")")
block_error_text (error.Interface id count) = codes "its packet is of interface " ++ (decimal id
    ++ (codes ", and there are " ++ decimal count))
block_error_text (error.CapturedLength captured room) = codes "it has room for " ++ (decimal room
    ++ (codes " bytes of its packet, and not for " ++ decimal captured))

-- the line on a last block that is cut off
unfoldable pub cut_off_line : cut.CutOff → List ℕ
cut_off_line e =
    codes "error: the last record is cut off: it needs " ++ (decimal e.required_len
    ++ (codes " bytes, and there are " ++ (decimal e.len ++ codes "\n")))

-- the line on a block that is refused; `place` is how many bytes of blocks stand before it
unfoldable pub refused_line : ℕ → BlockError → List ℕ
refused_line place e = codes "error: the block at byte " ++ (decimal place
    ++ (codes " is refused: " ++ (block_error_text e ++ codes "\n")))

-- the line on one that is too long
unfoldable pub too_long_line : ℕ → ℕ → List ℕ
too_long_line place len = codes "error: the block at byte " ++ (decimal place
    ++ (codes " is refused: it is too long (" ++ (decimal len ++ codes " bytes)\n")))

-- the line on how a listing ends
abbrev pub end_line : ℕ → End → List ℕ
end_line place (CutOff e) = cut_off_line e
end_line place (Refused e) = refused_line place e
end_line place (TooLong len) = too_long_line place len

-- none if the capture is listed to its end
abbrev pub end_text : ℕ → Option End → List ℕ
end_text place None = []
end_text place (Some end) = end_line place end
