-- A length error: its text, and the same error further on in a packet.
use Rattle.std.specs.Prelude.{ℕ, ◌+◌, List, [], ◌∷◌, ◌++◌}
use Rattle.std.specs.Prelude.{codes, nat_lt, if◌then◌else◌}
use Rattle.std.specs.Fmt.{decimal}
use Rattle.std.specs.List.{concat}
use Rattle.etherparse_base.specs.declared.err.len_error.LenError.{LenError}
use Rattle.etherparse_base.specs.Layer.{layer_text, layer_title}
use Rattle.etherparse_base.specs.LenSource.{len_source_text}

-- what was needed or, if the length is not below that, what was allowed; and what was there
abbrev pub lengths_text : LenError → List ℕ
lengths_text e = if nat_lt e.len e.required_len then concat (layer_title e.layer
    ∷ codes ": Not enough data to decode '" ∷ layer_text e.layer ∷ codes "'. "
    ∷ decimal e.required_len ∷ codes " byte(s) would be required, but only " ∷ decimal e.len
    ∷ codes " byte(s) are available based on the " ∷ len_source_text e.len_source ∷ [])
    else concat (layer_title e.layer ∷ codes ": Length of " ∷ decimal e.len
    ∷ codes " byte(s) is too big for an '" ∷ layer_text e.layer ∷ codes "' (maximum is "
    ∷ decimal e.required_len ∷ codes " bytes). The " ∷ len_source_text e.len_source
    ∷ codes " was used to determine the length" ∷ [])

-- where the layer starts in the data, left out at byte 0
abbrev pub place_text : LenError → List ℕ
place_text e =
    if nat_lt 0 e.layer_start_offset
    then codes " ('" ++ layer_text e.layer ++ codes "' starts at overall parsed byte "
    ++ decimal e.layer_start_offset ++ codes ")"
    else []

-- the text of a length error
abbrev pub len_error_text : LenError → List ℕ
len_error_text e = lengths_text e ++ place_text e ++ codes "."

-- the error of the same layer, which starts this many bytes further on
abbrev pub len_error_moved : ℕ → LenError → LenError
len_error_moved offset e = record e { layer_start_offset = e.layer_start_offset + offset }
