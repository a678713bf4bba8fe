-- The words of the command line.
use Rattle.std.specs.Prelude.{ℕ, ◌≡◌, ◌<◌, ◌^◌, ◌&&◌, ◌⊎◌, ◌++◌, ◌∷◌, Bool, IsTrue, List, []}
use Rattle.std.specs.Prelude.{None, Option, Some, codes, false, find, if◌then◌else◌, length, map}
use Rattle.std.specs.Prelude.{option_map, take, true, unwrap_or}
use Rattle.std.specs.Borrow.{Bor}
use Rattle.std.specs.List.{cons_option, list_all}
use Rattle.std.specs.Option.{is_some, option_map_or}
use Rattle.std.specs.Str.{bytes_eq}
use Rattle.std.specs.Str.Parse.{IsNumeral, digits_value, without_leading_plus}
use Rattle.clap.specs.Words.{found_of, first_value, matched_of, one_text, raw_values}
use Rattle.clap.specs.declared.parser.matches.ArgMatches.{ArgMatches}
use Rattle.packet_filter.specs.Language.{IsText, Refuses}
use Rattle.packet_filter.specs.Meaning.{Expression}
use Rattle.packet_filter.specs.Text.{is_space}
use Rattle.packet_filter.specs.declared.expected.Expected.{Expected}
use Rattle.packet_filter.specs.declared.reading.FilterError.{FilterError}
use Rattle.packet_filter.specs.declared.reading.FilterError.TheVariants.{Unexpected}
use Rattle.ipcap.specs.declared.arguments.Arguments.{Arguments}
use Rattle.ipcap.specs.declared.arguments.ArgumentsError.{ArgumentsError}
use Rattle.ipcap.specs.declared.arguments.ArgumentsError.TheVariants.{Excluded, TooLong}
use Rattle.ipcap.specs.declared.arguments.Exclusion.{Exclusion}
use Rattle.ipcap.specs.declared.arguments.Exclusion.TheVariants.{CountAndWrite, QuietAndCount}
use Rattle.ipcap.specs.declared.arguments.Exclusion.TheVariants.{QuietAndWrite, ReassembleAndWrite}
use Rattle.ipcap.specs.declared.request.Mode.{Mode}
use Rattle.ipcap.specs.declared.request.Mode.TheVariants.{Count, Lines, Packets, Quiet}

-- at this place the first word of an argument begins: only blanks stand before it
abbrev pub IsFirst : List ℕ → ℕ → Type 0
IsFirst word place = (place < length word) × IsTrue (list_all is_space (take place word))

-- No expression can begin with the first word of this argument.
pub record NamesFile (word : List ℕ) : Type 0 where
  pub place : ℕ
  pub expected : Expected
  pub refused : Refuses word (Unexpected place expected)
  pub first : IsFirst word place

-- the first word is not what an error is about
abbrev pub IsElsewhere : List ℕ → FilterError → Type 0
IsElsewhere word (Unexpected place expected) = ¬ IsFirst word place
IsElsewhere word e = Unit {0}

-- An expression can begin with its first word: it is an expression, or what is wrong is another
-- word, or what is missing. Two more count as such a beginning: a word of pcap-filter(7) that the
-- language lacks, and an argument with no word.
abbrev pub BeginsExpression : List ℕ → Type 0
BeginsExpression word = ((e : Expression) × IsText word e)
    ⊎ ((e : FilterError) × Refuses word e × IsElsewhere word e)

-- a word after the words before it: a blank parts it from them
abbrev pub joined : Bool → List ℕ → List ℕ → List ℕ
joined has_begun text word = if has_begun then text ++ 32 ∷ word else text ++ word

-- words with a blank before each; before the first one only if a word stands before it
abbrev pub words_after : Bool → List (List ℕ) → List ℕ
words_after has_begun [] = []
words_after true (word ∷ words) = 32 ∷ word ++ words_after true words
words_after false (word ∷ words) = word ++ words_after true words

-- the texts that references point to
abbrev pub texts_of : List (Bor (List ℕ)) → List (List ℕ)
texts_of words = map (λ word. word.now) words

-- whether an option without a value is given
abbrev pub is_given : ArgMatches → List ℕ → Bool
is_given matches id = option_map_or (λ text. bytes_eq text (codes "true"))
    (one_text (found_of matches) id) false

-- whether an option with a value is
abbrev pub has_value : ArgMatches → List ℕ → Bool
has_value matches id = is_some (matched_of (found_of matches) id)

-- whether both options of a pair are given
abbrev pub has_both : ArgMatches → Exclusion → Bool
has_both matches CountAndWrite =
    is_given matches (codes "count") && has_value matches (codes "write")
has_both matches QuietAndCount =
    is_given matches (codes "quiet") && is_given matches (codes "count")
has_both matches QuietAndWrite =
    is_given matches (codes "quiet") && has_value matches (codes "write")
has_both matches ReassembleAndWrite =
    is_given matches (codes "reassemble") && has_value matches (codes "write")

-- the pairs that exclude each other, in the order in which they are refused
abbrev pub exclusions : List Exclusion
exclusions = CountAndWrite ∷ QuietAndCount ∷ QuietAndWrite ∷ ReassembleAndWrite ∷ []

-- the first of them of which both options are given
abbrev pub exclusion_of : ArgMatches → Option Exclusion
exclusion_of matches = find (has_both matches) exclusions

-- What is written, of options that do not exclude each other: packets, if a file is given for them;
-- how many there are, if that is asked for; the closing line alone, if that is; or else lines.
pub record IsModeOf (matches : ArgMatches) (mode : Mode) : Type 0 where
  pub packets : has_value matches (codes "write") ≡ true → mode ≡ Packets
  pub count : is_given matches (codes "count") ≡ true → mode ≡ Count
  pub quiet : is_given matches (codes "quiet") ≡ true → mode ≡ Quiet
  pub lines : has_value matches (codes "write") ≡ false → is_given matches (codes "count") ≡ false
      → is_given matches (codes "quiet") ≡ false → mode ≡ Lines

-- the limit that a text says in decimal; none without a text
abbrev pub IsLimit : Option (List ℕ) → Option ℕ → Type 0
IsLimit None limit = limit ≡ None
IsLimit (Some text) limit = IsNumeral 10 (without_leading_plus text)
    → digits_value 10 (without_leading_plus text) < 2 ^ 64
    → limit ≡ Some (digits_value 10 (without_leading_plus text))

-- the text that a reference points to, if there is one
abbrev pub text_of : Option (Bor (List ℕ)) → Option (List ℕ)
text_of word = option_map (λ word. word.now) word

-- `-` and no name stand for a standard stream
abbrev pub is_standard : Option (List ℕ) → Bool
is_standard None = true
is_standard (Some name) = bytes_eq name (codes "-")

-- Which file is read, by the value of `-r` and the first word that is no option, and which word the
-- expression begins with: that word names the file if `-r` names none and no expression can begin
-- with it.
abbrev pub NamesInput : Option (List ℕ) → Option (List ℕ) → Option (List ℕ) → Option (List ℕ)
    → Type 0
NamesInput (Some name) first input word = (input ≡ Some name) × (word ≡ first)
NamesInput None None input word = (input ≡ None) × (word ≡ None)
NamesInput None (Some first) input word = (NamesFile first × (input ≡ Some first) × (word ≡ None))
    ⊎ (BeginsExpression first × (input ≡ None) × (word ≡ Some first))

-- the words after the first one
abbrev pub other_words : ArgMatches → List (List ℕ)
other_words matches =
    unwrap_or (option_map raw_values (matched_of (found_of matches) (codes "EXPRESSION"))) []

-- the file that is read, and the text of the expression
pub record ReadsWords (matches : ArgMatches) (input : Option (List ℕ)) (text : List ℕ)
    : Type 0 where
  pub first : Option (List ℕ)
  pub names : NamesInput (first_value (found_of matches) (codes "read"))
      (first_value (found_of matches) (codes "FILE")) input first
  pub is_text : text ≡ words_after false (cons_option first (other_words matches))

-- the expression has more bytes than there is room for
pub record HasLongText (matches : ArgMatches) : Type 0 where
  pub input : Option (List ℕ)
  pub text : List ℕ
  pub reads : ReadsWords matches input text
  pub long : 4096 < length text

-- why a command line gives no arguments: two options exclude each other, or else the expression is
-- too long
abbrev pub RefusesMatches : ArgMatches → ArgumentsError → Type 0
RefusesMatches matches (Excluded pair) = exclusion_of matches ≡ Some pair
RefusesMatches matches TooLong = (exclusion_of matches ≡ None) × HasLongText matches

-- what is said of it
abbrev pub arguments_error_text : ArgumentsError → List ℕ
arguments_error_text (Excluded CountAndWrite) = codes "--count cannot be used with -w"
arguments_error_text (Excluded QuietAndCount) = codes "--quiet cannot be used with --count"
arguments_error_text (Excluded QuietAndWrite) = codes "--quiet cannot be used with -w"
arguments_error_text (Excluded ReassembleAndWrite) = codes "--reassemble cannot be used with -w"
arguments_error_text TooLong = codes "the expression has more than 4096 bytes"

-- what the arguments are that a command line gives
pub record IsArguments (matches : ArgMatches) (arguments : Arguments) : Type 0 where
  pub apart : exclusion_of matches ≡ None
  pub mode : IsModeOf matches arguments.mode
  pub utc : arguments.is_utc ≡ is_given matches (codes "utc")
  pub reassembles : arguments.reassembles ≡ is_given matches (codes "reassemble")
  pub limit : IsLimit (one_text (found_of matches) (codes "limit")) arguments.limit
  pub output : text_of arguments.output ≡ first_value (found_of matches) (codes "write")
  pub input : ReadsWords matches (text_of arguments.input) arguments.text.items
