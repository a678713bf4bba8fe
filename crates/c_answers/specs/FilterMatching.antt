-- What C gets for frames that a filter is asked about.
use Rattle.std.specs.Prelude.{ℕ, ◌≡◌, Bool, false, List, MatchOption}
use Rattle.packet.specs.Link.{link_type_of}
use Rattle.c_answers.specs.Batch.{AreAnswers}
use Rattle.packet_filter.specs.Frame.{Answers}
use Rattle.packet_filter.specs.Meaning.{Expression}
use Rattle.c_answers.specs.declared.frame.Frame.{Frame}

-- The answer for a frame of the link type with this number is the library's. If frames of that type
-- are not read, it is no, whatever the expression says.
abbrev pub AnswersNumber : Expression → ℕ → List ℕ → ℕ → Bool → Type 0
AnswersNumber expression number frame len answer = MatchOption (link_type_of number)
    (answer ≡ false) (λ link_type. Answers expression link_type frame len answer)

-- each answer is that for the frame at its place, as far as both lists go; the others stay
abbrev pub AnswersEach : Expression → ℕ → List Frame → List Bool → List Bool → ℕ → Type 0
AnswersEach expression number frames before after count = AreAnswers
    (λ frame answer. AnswersNumber expression number frame.bytes.now frame.original_len answer)
    frames before after count
