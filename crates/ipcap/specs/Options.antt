-- The options that there are, as the crate `clap` has them.
use Rattle.std.specs.Prelude.{ℕ, List, [], ◌∷◌, Some, codes, true}
use Rattle.clap.specs.Lexer.{usize_max}
use Rattle.clap.specs.Simple.{new_shape}
use Rattle.clap.specs.Words.{App, Rule, new_app, new_rule}
use Rattle.clap.specs.declared.builder.action.ArgAction.TheVariants.{Append, SetTrue}
use Rattle.clap.specs.declared.builder.action.ArgAction.TheVariants as action
use Rattle.clap.specs.declared.builder.value_parser.ValueParser.TheVariants.{Unsigned}

-- an option without a value, by its long name
abbrev pub flag : List ℕ → Rule
flag name = record (new_rule name) { long = Some name; action = Some SetTrue }

-- an option with a value, by its letter
abbrev pub option_with_value : List ℕ → ℕ → Rule
option_with_value id letter = record (new_rule id) { short = Some letter; value_names = 1 }

-- `-c N`: a number from 1 on, of 64 bits
abbrev pub limit : Rule
limit = record (option_with_value (codes "limit") 99) {
  parser = Some (Unsigned 1 18446744073709551615);
}

-- `-n`, any number of times
abbrev pub numbers : Rule
numbers = record (new_rule (codes "numbers")) { short = Some 110; action = Some action.Count }

-- one word
abbrev pub file : Rule
file = new_rule (codes "FILE")

-- any number of words
abbrev pub expression : Rule
expression = record (new_rule (codes "EXPRESSION")) {
  action = Some Append;
  range = Some (record { start_inclusive = 0; end_inclusive = usize_max });
}

-- all options, and the words that are none: one, and any number after it
unfoldable pub options : List Rule
options =
    option_with_value (codes "read") 114 ∷ option_with_value (codes "write") 119 ∷ limit
    ∷ flag (codes "count") ∷ flag (codes "quiet") ∷ numbers ∷ flag (codes "utc")
    ∷ flag (codes "reassemble") ∷ file ∷ expression ∷ []

abbrev pub app_with : List Rule → App
app_with rules = record (new_app (codes "ipcap")) {
  top = record (new_shape (codes "ipcap")) { rules = rules; has_version = true };
}
