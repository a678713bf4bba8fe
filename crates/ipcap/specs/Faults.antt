-- The line on what failed.
use Rattle.std.specs.Prelude.{ℕ, ◌⊎◌, List, ◌++◌, None, Option, Some, codes}
use Rattle.std.specs.declared.io.Error.{Error}
use Rattle.ipcap.specs.Streams.{Gets, GetsFront}
use Rattle.ipcap.specs.declared.output.Output.{Output}

-- why it failed, if that is known, and the end of the line
abbrev pub reason_text : Option (List ℕ) → List ℕ
reason_text None = codes "\n"
reason_text (Some reason) = codes ": " ++ (reason ++ codes "\n")

-- the line: what failed, and why
abbrev pub fault_line : List ℕ → Option (List ℕ) → List ℕ
fault_line what reason = codes "error: " ++ (what ++ reason_text reason)

-- the text of why it failed
abbrev pub IsReason : (Error → List ℕ → Type 0) → Option Error → Option (List ℕ) → Type 0
IsReason is_text None None = Unit {0}
IsReason is_text (Some e) (Some text) = is_text e text
IsReason is_text why reason = ⊥

-- the sink got such a line
pub record GetsFault {W : Type 0} (contents : W → Option (List ℕ))
    (is_text : Error → List ℕ → Type 0) (what : List ℕ) (why : Option Error) (old new : Output W)
    : Type 0 where
  pub reason : Option (List ℕ)
  pub is_reason : IsReason is_text why reason
  pub gets : Gets contents old new (fault_line what reason)

-- or else a call of it failed, after a front of a line
abbrev pub Says : {W : Type 0} → (W → Option (List ℕ)) → (W → Type 0)
    → (Error → List ℕ → Type 0) → List ℕ → Option Error → Output W → Output W → Type 0
Says contents has_failed is_text what why old new = GetsFault contents is_text what why old new
    ⊎ (has_failed new.sink
    × ((reason : Option (List ℕ)) × GetsFront contents old new (fault_line what reason)))
