-- The texts that are expressions, and why others are none.
use Rattle.std.specs.Prelude.{ℕ, ◌≡◌, ◌<◌, ◌≤◌, ◌||◌, Bool, IsTrue, List, [], ◌∷◌, ◌++◌, All}
use Rattle.std.specs.Prelude.{Option, Some, None, codes, decimal, length}
use Rattle.packet_filter.specs.Expected.{expected_text, has_to_follow, leaves_out}
use Rattle.packet_filter.specs.Expected.{leaves_out_at_end, names, possible}
use Rattle.packet_filter.specs.Grammar.{IsExpression}
use Rattle.packet_filter.specs.Meaning.{Expression}
use Rattle.packet_filter.specs.Text.{Spells, words_of}
use Rattle.packet_filter.specs.declared.expected.Expected.{Expected}
use Rattle.packet_filter.specs.declared.expression.Operator.{Operator}
use Rattle.packet_filter.specs.declared.expression.Operator.TheVariants.{And, Or}
use Rattle.packet_filter.specs.declared.reading.FilterError.{FilterError}
use Rattle.packet_filter.specs.declared.reading.FilterError.TheVariants as error
use Rattle.packet_filter.specs.declared.token.Token.{Token}
use Rattle.packet_filter.specs.declared.token.Token.TheVariants as token

-- each word says what stands at its place
abbrev pub AreSpelled : List (List ℕ) → List Token → Type 0
AreSpelled [] [] = Unit {0}
AreSpelled [] (t ∷ ts) = ⊥
AreSpelled (w ∷ ws) [] = ⊥
AreSpelled (w ∷ ws) (t ∷ ts) = Spells w t × AreSpelled ws ts

-- the words, as bytes, are this expression
pub record IsSentence (words : List (List ℕ)) (e : Expression) : Type 0 where
  pub tokens : List Token
  pub spelled : AreSpelled words tokens
  pub is : IsExpression tokens e

-- the text is this expression
abbrev pub IsText : List ℕ → Expression → Type 0
IsText text e = IsSentence (words_of text) e

-- some text after these words makes an expression of them all
pub record CanGoOn (words : List (List ℕ)) : Type 0 where
  pub more : List ℕ
  pub expression : Expression
  pub sentence : IsSentence (words ++ words_of more) expression

-- At this place in the text, in bytes, stands a word that cannot stand there: the words before it
-- can go on, and with it they cannot. They are fewer than 64.
pub record IsUnexpected (text : List ℕ) (place : ℕ) : Type 0 where
  pub front : List ℕ
  pub word : List ℕ
  pub rest : List ℕ
  pub before : List (List ℕ)
  pub whole : text ≡ front ++ (word ++ rest)
  pub at : place ≡ length front
  pub words : words_of text ≡ before ++ word ∷ words_of rest
  pub few : length before < 64
  pub can : CanGoOn before
  pub cannot : ¬ CanGoOn (before ++ word ∷ [])

-- each word that the error has as an example can stand after these; so can `not` before a value
abbrev pub CanFollow : List (List ℕ) → Expected → Type 0
CanFollow words expected = All (λ word. CanGoOn (words ++ word ∷ [])) (possible expected)

-- each word that can stand after these is such a word
abbrev pub NothingElse : List (List ℕ) → (Token → Bool) → Type 0
NothingElse words is = (word : List ℕ) → CanGoOn (words ++ word ∷ [])
    → (t : Token) × Spells word t × IsTrue (is t)

abbrev pub operator_word : Operator → List ℕ
operator_word And = codes "and"
operator_word Or = codes "or"

abbrev pub other : Operator → Operator
other And = Or
other Or = And

-- The word is this operator, and the other could stand in its place: two operators stand on one
-- level, and nothing else is wrong.
pub record IsMixed (before : List (List ℕ)) (word : List ℕ) (o : Operator) : Type 0 where
  pub says : Spells word (token.Operator o)
  pub other_can : CanGoOn (before ++ operator_word (other o) ∷ [])

-- at this place stands a word of pcap-filter(7) that the language does not have
pub record HasUnsupported (text : List ℕ) (place : ℕ) : Type 0 where
  pub at : IsUnexpected text place
  pub foreign : Spells at.word token.Foreign

-- at this place stands an operator that is mixed with the other
pub record HasMixed (text : List ℕ) (place : ℕ) (o : Operator) : Type 0 where
  pub at : IsUnexpected text place
  pub mixed : IsMixed at.before at.word o

-- At this place stands any other word that cannot stand there. All that the error has as examples
-- can, and nothing can that it neither names nor leaves out.
pub record HasUnexpected (text : List ℕ) (place : ℕ) (expected : Expected) : Type 0 where
  pub at : IsUnexpected text place
  pub examples_can : CanFollow at.before expected
  pub no_others : NothingElse at.before (λ t. names expected t || leaves_out expected t)
  pub no_foreign : ¬ Spells at.word token.Foreign
  pub not_mixed : (o : Operator) → ¬ IsMixed at.before at.word o

-- The words are no expression, but can go on, with all that the error has as examples, and with
-- nothing that it neither names nor leaves out; and what it names has to follow.
pub record IsIncomplete (text : List ℕ) (expected : Expected) : Type 0 where
  pub few : length (words_of text) ≤ 64
  pub can : CanGoOn (words_of text)
  pub no_expression : (e : Expression) → ¬ IsText text e
  pub examples_can : CanFollow (words_of text) expected
  pub no_others : NothingElse (words_of text)
      (λ t. names expected t || leaves_out_at_end expected t)
  pub follows : IsTrue (has_to_follow expected)

-- At this place in the text, in bytes, stands a word after 64 others, which can go on.
pub record IsTooLong (text : List ℕ) (place : ℕ) : Type 0 where
  pub front : List ℕ
  pub word : List ℕ
  pub rest : List ℕ
  pub before : List (List ℕ)
  pub whole : text ≡ front ++ (word ++ rest)
  pub at : place ≡ length front
  pub words : words_of text ≡ before ++ word ∷ words_of rest
  pub many : length before ≡ 64
  pub can : CanGoOn before

-- Why a text is no filter. There are more than 64 words, of which the first 64 can go on; or one of
-- the first 64 cannot stand where it stands; or there are no more, and they are no expression, but
-- can go on.
abbrev pub Refuses : List ℕ → FilterError → Type 0
Refuses text (error.TooLong place) = IsTooLong text place
Refuses text (error.Unexpected place expected) = HasUnexpected text place expected
Refuses text (error.Mixed place o) = HasMixed text place o
Refuses text (error.Unsupported place) = HasUnsupported text place
Refuses text (error.Incomplete expected) = IsIncomplete text expected

-- where the word begins that a refusal is about; none: the end of the text
abbrev pub filter_error_place : FilterError → Option ℕ
filter_error_place (error.Unexpected place expected) = Some place
filter_error_place (error.Mixed place o) = Some place
filter_error_place (error.Unsupported place) = Some place
filter_error_place (error.Incomplete expected) = None
filter_error_place (error.TooLong place) = Some place

-- both readings of three expressions with two operators between them, of which this is the second
abbrev pub readings_text : Operator → List ℕ
readings_text And = codes "`(a or b) and c` or `a or (b and c)`"
readings_text Or = codes "`(a and b) or c` or `a and (b or c)`"

-- the text of a refusal
abbrev pub filter_error_text : FilterError → List ℕ
filter_error_text (error.Unexpected place expected) = codes "Expression Error: The word at byte "
    ++ (decimal place ++ (codes " cannot stand there: expected "
    ++ (expected_text expected ++ codes ".")))
filter_error_text (error.Mixed place o) =
    codes "Expression Error: `and` and `or` stand together at byte " ++ (decimal place
    ++ (codes ": parentheses have to say which comes first, as in "
    ++ (readings_text o ++ codes ".")))
filter_error_text (error.Unsupported place) =
    codes "Expression Error: The word of pcap-filter(7) at byte " ++ (decimal place
    ++ codes " is not part of the language.")
filter_error_text (error.Incomplete expected) =
    codes "Expression Error: It ends where more words have to follow: expected "
    ++ (expected_text expected ++ codes ".")
filter_error_text (error.TooLong place) =
    codes "Expression Error: It has more than 64 words: the first beyond them is at byte "
    ++ (decimal place ++ codes ".")
