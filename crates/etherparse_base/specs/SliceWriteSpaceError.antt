-- The text of the error of a slice with too little room.
use Rattle.std.specs.Prelude.{ℕ, List, [], ◌∷◌, ◌++◌, codes, nat_lt, if◌then◌else◌}
use Rattle.std.specs.Fmt.{decimal}
use Rattle.std.specs.List.{concat}
use Rattle.etherparse_base.specs.declared.err.slice_write_space_error.SliceWriteSpaceError as error
use Rattle.etherparse_base.specs.Layer.{layer_text}

-- what was written, what it needed, and what was there
abbrev pub space_text : error.SliceWriteSpaceError → List ℕ
space_text e = concat (
    codes "Not enough space to write " ∷ layer_text e.layer ∷ codes " to slice. Needed "
    ∷ decimal e.required_len ∷ codes " byte(s), but only " ∷ decimal e.len
    ∷ codes " byte(s) were available" ∷ [])

-- where the layer starts in what is written, left out at byte 0
abbrev pub write_start_text : error.SliceWriteSpaceError → List ℕ
write_start_text e =
    if nat_lt 0 e.layer_start_offset
    then codes " (start offset of " ++ layer_text e.layer ++ codes " write was "
    ++ decimal e.layer_start_offset ++ codes " byte(s))"
    else []

-- the text of the error
abbrev pub slice_write_space_error_text : error.SliceWriteSpaceError → List ℕ
slice_write_space_error_text e = space_text e ++ write_start_text e ++ codes "."
