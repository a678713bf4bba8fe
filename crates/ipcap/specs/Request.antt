-- What a run is asked for.
use Rattle.std.specs.Prelude.{ℕ, ◌≤◌, Bool, true, false, not, nat_lt, Option, Some, None, IsFalse}
use Rattle.std.specs.Prelude.{IsTrue, List, MatchOption, length}
use Rattle.std.specs.List.{list_all}
use Rattle.packet_filter.specs.Language.{IsText, Refuses}
use Rattle.packet_filter.specs.Program.{expression_of}
use Rattle.packet_filter.specs.Text.{is_space, words_of}
use Rattle.packet_filter.specs.declared.filter.Filter.{Filter}
use Rattle.packet_filter.specs.declared.reading.FilterError.{FilterError}
use Rattle.ipcap.specs.declared.request.Mode.{Mode}
use Rattle.ipcap.specs.declared.request.Mode.TheVariants.{Packets}
use Rattle.ipcap.specs.declared.request.Request.{Request}

-- as many are listed as a limit says
abbrev pub reaches : Option ℕ → ℕ → Bool
reaches None listed = false
reaches (Some limit) listed = not (nat_lt listed limit)

-- as many records are listed as were asked for
abbrev pub has_enough : Request → ℕ → Bool
has_enough request listed = reaches request.limit listed

-- the records are written as they came
abbrev pub copies : Mode → Bool
copies Packets = true
copies mode = false

-- the filter that a text of up to 64 words is; none if it has no word
abbrev pub IsFilter : List ℕ → Option Filter → Type 0
IsFilter text filter = MatchOption filter (IsTrue (list_all is_space text))
    (λ filter. IsText text (expression_of filter) × (length (words_of text) ≤ 64))

-- it has a word, and is no expression for this reason
abbrev pub IsNoFilter : List ℕ → FilterError → Type 0
IsNoFilter text e = Refuses text e × IsFalse (list_all is_space text)
