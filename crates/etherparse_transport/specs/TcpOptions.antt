-- The options of a TCP header (RFC 9293 sections 3.1 and 3.2; RFC 7323; RFC 2018).
use Rattle.std.specs.Prelude.{ℕ, ◌≡◌, ◌≢◌, ◌+◌, ◌-◌, ◌*◌, ◌^◌, ◌<◌, ◌≤◌, ◌⊎◌, List, [], ◌∷◌, ◌++◌}
use Rattle.std.specs.Prelude.{Option, None, Some, Result, Ok, Err, length, map, replicate}
use Rattle.std.specs.Prelude.{slice_index}
use Rattle.std.specs.Int.{to_be_bytes, w16, w32}
use Rattle.std.specs.List.{AllByRecursion, filter_map, flat_map}
use Rattle.etherparse_transport.specs.declared.tcp_option_element.TcpOptionElement
    as option
use Rattle.etherparse_transport.specs.declared.tcp_option_read_error.TcpOptionReadError
    as refused

-- the two edges of a block that was received (RFC 2018 section 3)
abbrev pub edges : ℕ × ℕ → List ℕ
edges block = to_be_bytes w32 block.0 ++ to_be_bytes w32 block.1

-- the blocks that are there, in their order
abbrev pub blocks_of : List (Option (ℕ × ℕ)) → List (ℕ × ℕ)
blocks_of places = filter_map (λ block. block) places

-- The bytes of an option: its kind alone; or its kind, its length, which counts all its bytes, and
-- its data.
abbrev pub option_bytes : option.TcpOptionElement → List ℕ
option_bytes option.TheVariants.Noop = 1 ∷ []
option_bytes (option.TheVariants.MaximumSegmentSize size) = 2 ∷ 4 ∷ to_be_bytes w16 size
option_bytes (option.TheVariants.WindowScale shift) = 3 ∷ 3 ∷ shift ∷ []
option_bytes option.TheVariants.SelectiveAcknowledgementPermitted = 4 ∷ 2 ∷ []
option_bytes (option.TheVariants.SelectiveAcknowledgement first others) =
    let blocks = first ∷ blocks_of others in 5 ∷ (2 + 8 * length blocks) ∷ flat_map edges blocks
option_bytes (option.TheVariants.Timestamp value echo) =
    8 ∷ 10 ∷ (to_be_bytes w32 value ++ to_be_bytes w32 echo)

-- both edges are sequence numbers
abbrev pub IsBlock : ℕ × ℕ → Type 0
IsBlock block = (block.0 < 2 ^ 32) × (block.1 < 2 ^ 32)

-- three places for blocks, with those that are there in front
abbrev pub in_front : List (ℕ × ℕ) → List (Option (ℕ × ℕ))
in_front blocks = map Some blocks ++ replicate (3 - length blocks) None

-- blocks after the first: at most three, in front
pub record AreOtherBlocks (others : List (Option (ℕ × ℕ))) : Type 0 where
  pub few : length (blocks_of others) ≤ 3
  pub front : others ≡ in_front (blocks_of others)
  pub edges : AllByRecursion IsBlock (blocks_of others)

-- the numbers of an option fit into its bytes
abbrev pub IsOption : option.TcpOptionElement → Type 0
IsOption option.TheVariants.Noop = Unit {0}
IsOption (option.TheVariants.MaximumSegmentSize size) = size < 2 ^ 16
IsOption (option.TheVariants.WindowScale shift) = shift < 2 ^ 8
IsOption option.TheVariants.SelectiveAcknowledgementPermitted = Unit {0}
IsOption (option.TheVariants.SelectiveAcknowledgement first others) =
    IsBlock first × AreOtherBlocks others
IsOption (option.TheVariants.Timestamp value echo) = (value < 2 ^ 32) × (echo < 2 ^ 32)

-- the bytes begin with this option, and the rest follows
pub record BeginsWithOption (bytes : List ℕ) (element : option.TcpOptionElement) (rest : List ℕ)
    : Type 0 where
  pub whole : bytes ≡ option_bytes element ++ rest
  pub is_option : IsOption element

-- no more options: the bytes end, or here is End of Option List, whose kind is 0
abbrev pub EndsOptions : List ℕ → Type 0
EndsOptions [] = Unit {0}
EndsOptions (kind ∷ bytes) = kind ≡ 0

-- the bytes are these options, one after the other, up to the end of the options
pub record IsOptionList (options : List option.TcpOptionElement) (bytes : List ℕ) : Type 0 where
  pub rest : List ℕ
  pub whole : bytes ≡ flat_map option_bytes options ++ rest
  pub are_options : AllByRecursion IsOption options
  pub ends : EndsOptions rest

-- the one length that options of this kind have
abbrev pub HasLength : ℕ → ℕ → Type 0
HasLength kind len = ((kind ≡ 2) × (len ≡ 4)) ⊎ ((kind ≡ 3) × (len ≡ 3))
    ⊎ ((kind ≡ 4) × (len ≡ 2)) ⊎ ((kind ≡ 8) × (len ≡ 10))

-- a length of Selective Acknowledgement, with one to four blocks
abbrev pub HasBlocksLength : ℕ → Type 0
HasBlocksLength len = (len ≡ 10) ⊎ (len ≡ 18) ⊎ (len ≡ 26) ⊎ (len ≡ 34)

-- so many bytes are needed for Selective Acknowledgement: two for kind and length, or those that a
-- length with one to four blocks says
abbrev pub NeedsForBlocks : List ℕ → ℕ → Type 0
NeedsForBlocks s needed = ((length s < 2) × (needed ≡ 2))
    ⊎ ((2 ≤ length s) × (needed ≡ slice_index s 1) × HasBlocksLength needed)

-- Why the bytes, which are not at the end of the options, begin with none: they end before the
-- option does; or its length is none that its kind has; or the kind is not known. That such a kind
-- ends the list is the Rust crate's rule: a host ignores it and goes on (RFC 9293, MUST-6).
abbrev pub RefusesOption : List ℕ → refused.TcpOptionReadError → Type 0
RefusesOption s (refused.TheVariants.UnexpectedEndOfSlice kind needed len) =
    (kind ≡ slice_index s 0) × (len ≡ length s) × (length s < needed)
    × (HasLength kind needed ⊎ ((kind ≡ 5) × NeedsForBlocks s needed))
RefusesOption s (refused.TheVariants.UnexpectedSize kind len) =
    (kind ≡ slice_index s 0) × (len ≡ slice_index s 1)
    × (((right : ℕ) × HasLength kind right × (right ≤ length s) × (len ≢ right))
    ⊎ ((kind ≡ 5) × (2 ≤ length s) × (¬ HasBlocksLength len)))
RefusesOption s (refused.TheVariants.UnknownId kind) =
    (kind ≡ slice_index s 0) × (kind ≢ 0) × (kind ≢ 1) × (kind ≢ 5)
    × ((len : ℕ) → ¬ HasLength kind len)

-- an option; or an error; or nothing, at the end of the options
abbrev pub Step : Type 0
Step = Option (Result option.TcpOptionElement refused.TcpOptionReadError)

-- what comes next, and the bytes after it; after the end and after an error nothing is read
abbrev pub NextOption : List ℕ → Step → List ℕ → Type 0
NextOption s None rest = EndsOptions s × (rest ≡ [])
NextOption s (Some (Ok element)) rest = BeginsWithOption s element rest
NextOption s (Some (Err e)) rest = RefusesOption s e × (rest ≡ [])

-- this comes next and leaves these bytes, and nothing else does
pub record GivesOption (s : List ℕ) (next : Step) (rest : List ℕ) : Type 0 where
  pub gives : NextOption s next rest
  pub only : (other : Step) (bytes : List ℕ) → NextOption s other bytes
      → (other ≡ next) × (bytes ≡ rest)
  -- so the options of a list come one after the other
  pub in_list : (first : option.TcpOptionElement) (options : List option.TcpOptionElement)
      → IsOptionList (first ∷ options) s → (next ≡ Some (Ok first)) × IsOptionList options rest
  pub at_end : IsOptionList [] s → next ≡ None

-- the option that is read again: of Selective Acknowledgement, with the blocks in front
abbrev pub read_again : option.TcpOptionElement → option.TcpOptionElement
read_again (option.TheVariants.SelectiveAcknowledgement first others) =
    option.TheVariants.SelectiveAcknowledgement first (in_front (blocks_of others))
read_again element = element

-- how many bytes options have
abbrev pub options_len : List option.TcpOptionElement → ℕ
options_len options = length (flat_map option_bytes options)
