-- The lines on arguments that are refused.
use Rattle.std.specs.Prelude.{ℕ, ◌&&◌, List, ◌++◌, codes, if◌then◌else◌, length, map, nat_lt}
use Rattle.std.specs.Prelude.{min, replicate, unwrap_or}
use Rattle.packet_filter.specs.Language.{filter_error_place, filter_error_text}
use Rattle.packet_filter.specs.Text.{is_space}
use Rattle.packet_filter.specs.declared.reading.FilterError.{FilterError}

-- A byte of an expression as it is shown: printable ASCII as it is, and a blank for what parts
-- words, so that the text is one line; a question mark for any other, which could drive a terminal.
abbrev pub shown_byte : ℕ → ℕ
shown_byte c = if is_space c then 32 else if nat_lt 32 c && nat_lt c 127 then c else 63

-- where the mark stands: under the place where the word begins that cannot stand there, or after
-- the end
abbrev pub mark_at : List ℕ → FilterError → ℕ
mark_at text error = min (unwrap_or (filter_error_place error) (length text)) (length text)

-- the lines on a text that is no expression: why, the text, and the mark
unfoldable pub refusal_lines : List ℕ → FilterError → List ℕ
refusal_lines text error = filter_error_text error ++ (codes "\n" ++ (map shown_byte text
    ++ (codes "\n" ++ (replicate (mark_at text error) 32 ++ codes "^\n"))))
