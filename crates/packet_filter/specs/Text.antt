-- The words of a text, and what each says.
use Rattle.std.specs.Prelude.{ℕ, zero, suc, ◌≡◌, ◌==◌, ◌&&◌, ◌||◌, not, Bool, false, cond}
use Rattle.std.specs.Prelude.{List, [], ◌∷◌, ◌++◌, take, Option, MatchOption, option_map}
use Rattle.std.specs.List.{prefix_len}
use Rattle.std.specs.Option.{option_or}
use Rattle.packet_filter.specs.Addresses.{SpellsAddress, hardware_of, short_net_of}
use Rattle.packet_filter.specs.Names.{name_of}
use Rattle.packet_filter.specs.Numbers.{place_of, range_of, sized_place_of}
use Rattle.packet_filter.specs.Values.{named_value_of}
use Rattle.packet_filter.specs.declared.token.Token.{Token}
use Rattle.packet_filter.specs.declared.token.Token.TheVariants as token

-- ---- words

-- a space, a tab, or the end of a line, which only part words
abbrev pub is_space : ℕ → Bool
is_space c = (c == 32) || (c == 9) || (c == 10) || (c == 13)

-- `(`, `)`, `[` or `]`, which are words wherever they stand
abbrev pub is_bracket : ℕ → Bool
is_bracket c = (c == 40) || (c == 41) || (c == 91) || (c == 93)

-- `&`, `|`, `=`, `<`, `>` or `!`, which operators are made of
abbrev pub is_operator : ℕ → Bool
is_operator c = (c == 38) || (c == 124) || (c == 61) || (c == 60) || (c == 62) || (c == 33)

-- any other byte
abbrev pub is_plain : ℕ → Bool
is_plain c = not (is_space c || is_bracket c || is_operator c)

-- the two bytes are one operator: `&&`, `||`, `==`, `!=`, `<=` or `>=`
abbrev pub is_pair : ℕ → ℕ → Bool
is_pair c d = ((c == d) && ((c == 38) || (c == 124)))
    || ((d == 61) && ((c == 61) || (c == 33) || (c == 60) || (c == 62)))

-- the byte and the text after it begin with such an operator
abbrev pub begins_pair : ℕ → List ℕ → Bool
begins_pair c [] = false
begins_pair c (d ∷ s) = is_pair c d

-- How many bytes the word that begins with a byte has in the text after it: as many as run on, one
-- if they are an operator of two, and none after a bracket.
abbrev pub len_after : ℕ → List ℕ → ℕ
len_after c s = cond (is_plain c) (prefix_len is_plain s)
    (cond (is_operator c) (cond (begins_pair c s) 1 0) 0)

-- a word and the words after it; a space is no word
abbrev pub and_words : ℕ → List ℕ → List (List ℕ) → List (List ℕ)
and_words c s ws = cond (is_space c) ws ((c ∷ take (len_after c s) s) ∷ ws)

-- the words of a text after so many bytes at its front
abbrev pub words_past : ℕ → List ℕ → List (List ℕ)
words_past n [] = []
words_past (suc n) (c ∷ s) = words_past n s
words_past zero (c ∷ s) = and_words c s (words_past (len_after c s) s)

-- The words of a text. A bracket is a word; so is an operator, the longest that stands there; and
-- all other bytes run on as one word up to a space, a bracket or an operator.
abbrev pub words_of : List ℕ → List (List ℕ)
words_of text = words_past 0 text

-- the text begins with this word, after any space, and goes on with the rest
pub record BeginsWithWord (text word rest : List ℕ) : Type 0 where
  pub space : List ℕ
  pub whole : text ≡ space ++ (word ++ rest)
  pub words : words_of text ≡ word ∷ words_of rest

-- ---- what they say

-- What a word says that is no address: the first of these that it is. A name; a number, or the name
-- of a place; a place and its size; two numbers; a network in short; an Ethernet address. Only one
-- octet alone is two of them, and here it is a number: no name begins with a digit or has `:`, `.`
-- or `/` in it, and the others differ in how many of `:`, `-`, `.` and `/` they have.
abbrev pub keyword_of : List ℕ → Option Token
keyword_of w = option_or (name_of w) (option_or (named_value_of w)
    (option_or (option_map token.Number (place_of w)) (option_or (sized_place_of w)
    (option_or (range_of w) (option_or (short_net_of w) (hardware_of w))))))

-- What a word says. An address is none of the above: one of IPv4 has three dots, and one of IPv6
-- has two colons side by side, or six at least.
abbrev pub Spells : List ℕ → Token → Type 0
Spells word t = MatchOption (keyword_of word) (SpellsAddress word t) (λ k. t ≡ k)
