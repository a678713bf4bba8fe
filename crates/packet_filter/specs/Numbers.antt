-- Words that are numbers.
use Rattle.std.specs.Prelude.{ℕ, ◌==◌, ◌&&◌, ◌||◌, ◌+◌, ◌*◌, ◌^◌, not, Bool, false, cond}
use Rattle.std.specs.Prelude.{if◌then◌else◌, List, [], ◌∷◌, codes, length, take, drop}
use Rattle.std.specs.Prelude.{Option, Some, None, nat_lt}
use Rattle.std.specs.Char.{digit_value}
use Rattle.std.specs.List.{prefix_len}
use Rattle.std.specs.Option.{option_or}
use Rattle.std.specs.Str.{bytes_eq}
use Rattle.packet_filter.specs.declared.expression.Size.{Size}
use Rattle.packet_filter.specs.declared.expression.Size.TheVariants.{One, Two, Four}
use Rattle.packet_filter.specs.declared.token.Token.{Token}
use Rattle.packet_filter.specs.declared.token.Token.TheVariants as token

-- the number whose digits, of this base, follow those of n; it is below 2 ^ 32
abbrev pub with_digits : ℕ → ℕ → List ℕ → Option ℕ
with_digits base n [] = Some n
with_digits base n (c ∷ s) =
    cond (nat_lt (digit_value c) base && nat_lt (base * n + digit_value c) (2 ^ 32))
    (with_digits base (base * n + digit_value c) s) None

-- the number that digits of this base are, one or more
abbrev pub digits_of : ℕ → List ℕ → Option ℕ
digits_of base [] = None
digits_of base (c ∷ s) = with_digits base 0 (c ∷ s)

-- the word begins with a zero, and goes on
abbrev pub has_leading_zero : List ℕ → Bool
has_leading_zero [] = false
has_leading_zero (c ∷ []) = false
has_leading_zero (c ∷ d ∷ s) = c == 48

-- the word begins with `0x` or `0X`
abbrev pub is_hexadecimal : List ℕ → Bool
is_hexadecimal [] = false
is_hexadecimal (c ∷ []) = false
is_hexadecimal (c ∷ d ∷ s) = (c == 48) && ((d == 120) || (d == 88))

-- the decimal number below 2 ^ 32 that the word is, without leading zeros: with these libpcap reads
-- most numbers as octal
abbrev pub decimal_of : List ℕ → Option ℕ
decimal_of word = if has_leading_zero word then None else digits_of 10 word

-- the number below 2 ^ 32 that the word is, decimal, or hexadecimal after `0x`
abbrev pub number_of : List ℕ → Option ℕ
number_of word = if is_hexadecimal word then digits_of 16 (drop 2 word) else decimal_of word

-- ---- parts of a word

-- where a byte first stands in a word; its length if it does not
abbrev pub index_of : ℕ → List ℕ → ℕ
index_of c word = prefix_len (λ d. not (d == c)) word

-- the byte stands in the word
abbrev pub has : ℕ → List ℕ → Bool
has c word = nat_lt (index_of c word) (length word)

-- what stands before the first such byte, and what after it
abbrev pub before : ℕ → List ℕ → List ℕ
before c word = take (index_of c word) word

abbrev pub beyond : ℕ → List ℕ → List ℕ
beyond c word = drop (index_of c word + 1) word

-- the bytes `-`, `.`, `/` and `:`
abbrev pub hyphen : ℕ
hyphen = 45

abbrev pub dot : ℕ
dot = 46

abbrev pub slash : ℕ
slash = 47

abbrev pub colon : ℕ
colon = 58

-- ---- ranges and places

-- both numbers, if they are there
abbrev pub ranged : Option ℕ → Option ℕ → Option Token
ranged (Some low) (Some high) = Some (token.Range low high)
ranged None high = None
ranged (Some low) None = None

-- two numbers with a hyphen between them
abbrev pub range_of : List ℕ → Option Token
range_of word = ranged (number_of (before hyphen word)) (number_of (beyond hyphen word))

-- the place of a field, in bytes from the front of its header: the flags of TCP (RFC 9293 section
-- 3.1), and the type and the code of ICMP (RFC 792) and ICMPv6 (RFC 4443 section 2.1)
abbrev pub field_of : List ℕ → Option ℕ
field_of word =
    if bytes_eq word (codes "tcpflags") then Some 13
    else if bytes_eq word (codes "icmptype") then Some 0
    else if bytes_eq word (codes "icmpcode") then Some 1
    else if bytes_eq word (codes "icmp6type") then Some 0
    else if bytes_eq word (codes "icmp6code") then Some 1
    else None

-- a number, or the name of a place
abbrev pub place_of : List ℕ → Option ℕ
place_of word = option_or (number_of word) (field_of word)

-- a number of bytes that are loaded
abbrev pub size_of : List ℕ → Option Size
size_of word =
    if bytes_eq word (codes "1") then Some One
    else if bytes_eq word (codes "2") then Some Two
    else if bytes_eq word (codes "4") then Some Four
    else None

-- both, if they are there
abbrev pub sized : Option ℕ → Option Size → Option Token
sized (Some place) (Some size) = Some (token.Place place size)
sized None size = None
sized (Some place) None = None

-- a place and a size with a colon between them
abbrev pub sized_place_of : List ℕ → Option Token
sized_place_of word = sized (place_of (before colon word)) (size_of (beyond colon word))
