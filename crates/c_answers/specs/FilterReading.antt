-- What C gets for the text of a filter.
use Rattle.std.specs.Prelude.{ℕ, ◌≡◌, ◌≤◌, Bool, IsFalse, IsTrue, List, length}
use Rattle.packet.specs.declared.lax_sliced_packet.LaxSlicedPacket.{LaxSlicedPacket}
use Rattle.packet_filter.specs.Language.{IsText, Refuses}
use Rattle.packet_filter.specs.Meaning.{Expression, Matches}
use Rattle.packet_filter.specs.Program.{expression_of}
use Rattle.packet_filter.specs.Text.{words_of}
use Rattle.packet_filter.specs.declared.filter.Step.{Step}
use Rattle.packet_filter.specs.declared.reading.FilterError.{FilterError}
use Rattle.c_answers.specs.FilterRefusal.{no_refusal, refusal_in_c}
use Rattle.c_answers.specs.declared.filter_refusal.FilterRefusal.{FilterRefusal}

-- the library refuses the text, and these are the numbers of the refusal
pub record RefusesInC (text : List ℕ) (refusal : FilterRefusal) : Type 0 where
  pub error : FilterError
  pub refused : Refuses text error
  pub numbers : refusal ≡ refusal_in_c (length text) error

-- the filter of these steps chooses no packet
abbrev pub ChoosesNothing : List Step → Type 0
ChoosesNothing steps = (lax : LaxSlicedPacket) → (len : ℕ) → ¬ Matches (expression_of steps) lax len

-- A text was read, or not: if it was, it is the expression of the filter, has up to 64 words, and
-- there is no refusal; if not, the refusal says why. A text of the language, of up to 64 words, is
-- read.
pub record ReadsText (text : List ℕ) (filter : List Step) (refusal : FilterRefusal)
    (is_read : Bool) : Type 0 where
  pub read : IsTrue is_read → IsText text (expression_of filter)
  pub few : IsTrue is_read → length (words_of text) ≤ 64
  pub none : IsTrue is_read → refusal ≡ no_refusal
  pub refused : IsFalse is_read → RefusesInC text refusal
  pub accepted : (e : Expression) → IsText text e → length (words_of text) ≤ 64
      → IsTrue is_read × (expression_of filter ≡ e)

-- The same, and without a text the filter chooses nothing.
pub record GivesFilter (text : List ℕ) (filter : List Step) (refusal : FilterRefusal)
    (is_read : Bool) : Type 0 where
  pub reads : ReadsText text filter refusal is_read
  pub nothing : IsFalse is_read → ChoosesNothing filter

-- The same, and without a text the filter stays as it was.
pub record PutsFilter (text : List ℕ) (before filter : List Step) (refusal : FilterRefusal)
    (is_read : Bool) : Type 0 where
  pub reads : ReadsText text filter refusal is_read
  pub stays : IsFalse is_read → filter ≡ before
