-- The padding after the options of a TCP header (RFC 9293 section 3.1).
use Rattle.std.specs.Prelude.{ℕ, ◌≡◌, ◌%◌, ◌<◌, List, ◌++◌, length, replicate}

-- the bytes, and after them as many zeros as are missing up to a whole word of four bytes
pub record IsPadded (bytes padded : List ℕ) : Type 0 where
  pub padding : ℕ
  pub less : padding < 4
  pub whole : padded ≡ bytes ++ replicate padding 0
  pub in_words : length padded % 4 ≡ 0
