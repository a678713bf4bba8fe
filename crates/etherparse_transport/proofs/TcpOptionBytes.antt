-- Options and their bytes: some bytes begin with one option at most, and are refused for one
-- reason.
use Rattle.std.proofs.Common.{ℕ, zero, suc, ◌≡◌, ◌≢◌, ◌+◌, ◌-◌, ◌*◌, ◌^◌, ◌<◌, ◌≤◌, List, []}
use Rattle.std.proofs.Common.{◌∷◌, ◌++◌, length, take, drop, refl, sym, ap, ◌∙◌, arith}
use Rattle.std.proofs.Common.{append_assoc, append-nil, get_or, length-append, Some, None}
use Rattle.std.proofs.Common.{Ok, Err, w16, w32}
use Rattle.std.specs.Prelude.{map, replicate, slice_index}
use Rattle.std.specs.Int.{from_be_bytes, to_be_bytes}
use Rattle.std.specs.List.{AllByRecursion, flat_map, slice_range}
use Rattle.etherparse.specs.Bytes.{IsBytes}
use Rattle.etherparse.proofs.Layouts.{told, u32}
use Rattle.std.proofs.lemmas.List.{take_more}
use Rattle.std.proofs.lemmas.Grind.{flat_map-append}
use Rattle.std.proofs.lemmas.Nat.{from_be_bytes-to_be_bytes_2, from_be_bytes-to_be_bytes_4}
use Rattle.etherparse_transport.specs.TcpOptions.{EndsOptions}
use Rattle.etherparse_transport.specs.TcpOptions.{GivesOption, HasBlocksLength, HasLength, IsBlock}
use Rattle.etherparse_transport.specs.TcpOptions.{IsOption, IsOptionList, NextOption, RefusesOption}
use Rattle.etherparse_transport.specs.TcpOptions.{Step, blocks_of, edges, in_front, option_bytes}
use Rattle.etherparse_transport.specs.TcpOptions.{read_again}
use Rattle.etherparse_transport.specs.TcpPadding.{IsPadded}
use Rattle.etherparse_transport.specs.declared.tcp_option_element.TcpOptionElement
    as option
use Rattle.etherparse_transport.specs.declared.tcp_option_read_error.TcpOptionReadError
    as refused

-- numbers and what follows them are told by their bytes
told_16 : (m n : ℕ) (r q : List ℕ) → m < 2 ^ 16 → n < 2 ^ 16
    → to_be_bytes w16 m ++ r ≡ to_be_bytes w16 n ++ q → (m ≡ n) × (r ≡ q)
told_16 m n r q small less e = (
  sym (from_be_bytes-to_be_bytes_2 m small) ∙ ap (λ s. from_be_bytes w16 (take 2 s)) e
      ∙ from_be_bytes-to_be_bytes_2 n less,
  ap (drop 2) e,
)

told_32 : (m n : ℕ) (r q : List ℕ) → m < 2 ^ 32 → n < 2 ^ 32
    → to_be_bytes w32 m ++ r ≡ to_be_bytes w32 n ++ q → (m ≡ n) × (r ≡ q)
told_32 m n r q small less e = (
  sym (from_be_bytes-to_be_bytes_4 m small) ∙ ap (λ s. from_be_bytes w32 (take 4 s)) e
      ∙ from_be_bytes-to_be_bytes_4 n less,
  ap (drop 4) e,
)

-- so are two numbers
told_pair : (a b : ℕ × ℕ) (r q : List ℕ) → IsBlock a → IsBlock b → edges a ++ r ≡ edges b ++ q
    → (a ≡ b) × (r ≡ q)
told_pair a b r q small less e =
    let first = told_32 a.0 b.0 (to_be_bytes w32 a.1 ++ r)
    (to_be_bytes w32 b.1 ++ q) small.0 less.0 e in
    let second = told_32 a.1 b.1 r q small.1 less.1 first.1 in
    (ap (λ x. (x, a.1)) first.0 ∙ ap (λ y. (b.0, y)) second.0, second.1)

-- and as many blocks
told_blocks : (xs ys : List (ℕ × ℕ)) (r q : List ℕ) → length xs ≡ length ys
    → AllByRecursion IsBlock xs → AllByRecursion IsBlock ys
    → flat_map edges xs ++ r ≡ flat_map edges ys ++ q → (xs ≡ ys) × (r ≡ q)
told_blocks [] [] r q len small less e = (refl, e)
told_blocks (a ∷ xs) [] r q len small less e = absurd (omega (arith, len))
told_blocks [] (b ∷ ys) r q len small less e = absurd (omega (arith, len))
told_blocks (a ∷ xs) (b ∷ ys) r q len small less e =
    let here = told_pair a b (flat_map edges xs ++ r) (flat_map edges ys ++ q) small.0 less.0
    (sym (append_assoc (edges a) (flat_map edges xs) r) ∙ e
    ∙ append_assoc (edges b) (flat_map edges ys) q) in
    let later = told_blocks xs ys r q (omega (arith, len)) small.1 less.1 here.1 in
    (cc, later.1)

-- some bytes begin with one option
pub option_once : (x y : option.TcpOptionElement) (r q : List ℕ) → IsOption x → IsOption y
    → option_bytes x ++ r ≡ option_bytes y ++ q → (x ≡ y) × (r ≡ q)
option_once option.TheVariants.Noop option.TheVariants.Noop r q i j e = (refl, ap (drop 1) e)
option_once (option.TheVariants.MaximumSegmentSize m) (option.TheVariants.MaximumSegmentSize n) r q
    i j e = let told = told_16 m n r q i j (ap (drop 2) e) in
    (ap option.TheVariants.MaximumSegmentSize told.0, told.1)
option_once (option.TheVariants.WindowScale m) (option.TheVariants.WindowScale n) r q i j e =
    (cc, ap (drop 3) e)
option_once option.TheVariants.SelectiveAcknowledgementPermitted
    option.TheVariants.SelectiveAcknowledgementPermitted r q i j e = (refl, ap (drop 2) e)
option_once (option.TheVariants.SelectiveAcknowledgement a xs)
    (option.TheVariants.SelectiveAcknowledgement b ys) r q i j e =
    let len : 2 + 8 * length (a ∷ blocks_of xs) ≡ 2 + 8 * length (b ∷ blocks_of ys) =
    ap (λ s. slice_index s 1) e in
    let told = told_blocks (a ∷ blocks_of xs) (b ∷ blocks_of ys) r q (omega (arith, len))
    (i.0, i.1.edges) (j.0, j.1.edges) (ap (drop 2) e) in
    let others : blocks_of xs ≡ blocks_of ys = ap (drop 1) told.0 in
    let same : xs ≡ ys = i.1.front ∙ ap in_front others ∙ sym j.1.front in
    (cc, told.1)
option_once (option.TheVariants.Timestamp m k) (option.TheVariants.Timestamp n l) r q i j e =
    let told = told_pair (m, k) (n, l) r q i j (ap (drop 2) e) in
    (ap (λ pair. option.TheVariants.Timestamp pair.0 pair.1) told.0, told.1)
option_once x y r q i j e = absurd (cc)

-- the end of the options, if there are bytes, has the kind 0
ends_with_0 : (s : List ℕ) → EndsOptions s → slice_index s 0 ≡ 0
ends_with_0 [] e = refl
ends_with_0 (k ∷ s) e = e

-- no option has it
option_kind : (x : option.TcpOptionElement) (r : List ℕ) → slice_index (option_bytes x ++ r) 0 ≡ 0
    → ⊥
option_kind x r e = grind (arith, e)

-- nor what is refused
refused_kind : (s : List ℕ) (e : refused.TcpOptionReadError) → RefusesOption s e
    → slice_index s 0 ≡ 0 → ⊥
refused_kind s e refused at_end = grind (arith, refused, at_end)

-- how many bytes blocks have
pub length-edges : (blocks : List (ℕ × ℕ)) → length (flat_map edges blocks) ≡ 8 * length blocks
length-edges [] = omega arith
length-edges (b ∷ blocks) = omega (
  arith,
  length-edges blocks,
  length-append (edges b) (flat_map edges blocks),
)

-- the bytes have the kind and the length of an option, and are enough for it
abbrev HasShape : option.TcpOptionElement → List ℕ → Type 0
HasShape option.TheVariants.Noop s = slice_index s 0 ≡ 1
HasShape (option.TheVariants.MaximumSegmentSize size) s =
    (slice_index s 0 ≡ 2) × (slice_index s 1 ≡ 4) × (4 ≤ length s)
HasShape (option.TheVariants.WindowScale shift) s = (slice_index s 0 ≡ 3) × (slice_index s 1 ≡ 3) ×
    (3 ≤ length s)
HasShape option.TheVariants.SelectiveAcknowledgementPermitted s =
    (slice_index s 0 ≡ 4) × (slice_index s 1 ≡ 2) × (2 ≤ length s)
HasShape (option.TheVariants.SelectiveAcknowledgement first others) s =
    (slice_index s 0 ≡ 5) × HasBlocksLength (slice_index s 1) × (2 ≤ length s) ×
    (slice_index s 1 ≤ length s)
HasShape (option.TheVariants.Timestamp value echo) s = (slice_index s 0 ≡ 8) ×
    (slice_index s 1 ≡ 10) × (10 ≤ length s)

-- one to four blocks have one of four lengths
blocks_length : (n : ℕ) → n ≤ 3 → HasBlocksLength (2 + 8 * suc n)
blocks_length n few = grind arith

shape_of : (x : option.TcpOptionElement) (r : List ℕ) → IsOption x
    → HasShape x (option_bytes x ++ r)
shape_of (option.TheVariants.SelectiveAcknowledgement first others) r i =
    let blocks = first ∷ blocks_of others in (
      refl,
      blocks_length (length (blocks_of others)) i.1.few,
      omega arith,
      omega (arith, length-append (flat_map edges blocks) r, length-edges blocks),
    )
shape_of x r i = grind arith

-- what is refused for its kind has none that is known
abbrev HasNoKind : refused.TcpOptionReadError → Type 0
HasNoKind (refused.TheVariants.UnknownId kind) = (kind ≢ 2) × (kind ≢ 3) × (kind ≢ 4) × (kind ≢ 8)
HasNoKind e = Unit {0}

no_length : (kind : ℕ) → ((len : ℕ) → ¬ HasLength kind len)
    → (kind ≢ 2) × (kind ≢ 3) × (kind ≢ 4) × (kind ≢ 8)
no_length kind none = (
  λ e. none 4 (grind (arith, e)),
  λ e. none 3 (grind (arith, e)),
  λ e. none 2 (grind (arith, e)),
  λ e. none 10 (grind (arith, e)),
)

no_kind : (s : List ℕ) (e : refused.TcpOptionReadError) → RefusesOption s e → HasNoKind e
no_kind s (refused.TheVariants.UnexpectedEndOfSlice kind needed len) refused = tt
no_kind s (refused.TheVariants.UnexpectedSize kind len) refused = tt
no_kind s (refused.TheVariants.UnknownId kind) refused = no_length kind refused.4

-- an option is not refused
shape_taken : (x : option.TcpOptionElement) (s : List ℕ) (e : refused.TcpOptionReadError)
    → HasShape x s → RefusesOption s e → HasNoKind e → ⊥
shape_taken x s e shape refused none = grind (arith, shape, refused, none)

option_taken : (x : option.TcpOptionElement) (r : List ℕ) (e : refused.TcpOptionReadError)
    → IsOption x → RefusesOption (option_bytes x ++ r) e → ⊥
option_taken x r e i refused = shape_taken x (option_bytes x ++ r) e (shape_of x r i) refused
    (no_kind (option_bytes x ++ r) e refused)

-- there is one reason to refuse
refused_by : (s : List ℕ) (e f : refused.TcpOptionReadError) → RefusesOption s e → RefusesOption s f
    → HasNoKind e → HasNoKind f → e ≡ f
refused_by s e f p q none neither = grind (arith, p, q, none, neither)

refused_once : (s : List ℕ) (e f : refused.TcpOptionReadError) → RefusesOption s e
    → RefusesOption s f → e ≡ f
refused_once s e f p q = refused_by s e f p q (no_kind s e p) (no_kind s f q)

-- one thing comes next
pub next_once : (s : List ℕ) (a b : Step) (r q : List ℕ) → NextOption s a r → NextOption s b q
    → (b ≡ a) × (q ≡ r)
next_once s None None r q g h = (refl, h.1 ∙ sym g.1)
next_once s None (Some (Ok y)) r q g h = absurd (option_kind y q
    (sym (ap (λ t. slice_index t 0) h.whole) ∙ ends_with_0 s g.0))
next_once s None (Some (Err f)) r q g h = absurd (refused_kind s f h.0 (ends_with_0 s g.0))
next_once s (Some (Ok x)) None r q g h = absurd (option_kind x r
    (sym (ap (λ t. slice_index t 0) g.whole) ∙ ends_with_0 s h.0))
next_once s (Some (Ok x)) (Some (Ok y)) r q g h =
    let told = option_once y x q r h.is_option g.is_option (sym h.whole ∙ g.whole) in
    (ap (λ o. Some (Ok o)) told.0, told.1)
next_once s (Some (Ok x)) (Some (Err f)) r q g h = absurd
    (option_taken x r f g.is_option (rw g.whole at h.0))
next_once s (Some (Err e)) None r q g h = absurd (refused_kind s e g.0 (ends_with_0 s h.0))
next_once s (Some (Err e)) (Some (Ok y)) r q g h = absurd
    (option_taken y q e h.is_option (rw h.whole at g.0))
next_once s (Some (Err e)) (Some (Err f)) r q g h = (
  ap (λ o. Some (Err o))
      (refused_once s f e h.0 g.0),
  h.1 ∙ sym g.1,
)

-- all that is known of what comes next
pub gives_option : (s : List ℕ) (next : Step) (rest : List ℕ) → NextOption s next rest
    → GivesOption s next rest
gives_option s next rest gives = record {
  gives = gives;
  only = λ other bytes o. next_once s next other rest bytes gives o;
  in_list = λ first options l.
      let after = flat_map option_bytes options ++ l.rest in
      let same = next_once s next (Some (Ok first)) rest after gives (record {
        whole = l.whole ∙ append_assoc (option_bytes first) (flat_map option_bytes options) l.rest;
        is_option = l.are_options.0;
      }) in (
        sym same.0,
        record {
          rest = l.rest;
          whole = sym same.1;
          are_options = l.are_options.1;
          ends = l.ends;
        },
      );
  at_end = λ l. sym (next_once s next None rest [] gives (rw l.whole l.ends, refl)).0;
}

-- a block is at the place where its edges are
pub block_told : (s : List ℕ) (at a b : ℕ) → IsBytes s → at + 8 ≤ length s
    → a ≡ from_be_bytes w32 (slice_range s at (at + 4))
    → b ≡ from_be_bytes w32 (slice_range s (at + 4) (at + 4 + 4))
    → drop at s ≡ edges (a, b) ++ drop (at + 8) s
block_told s at a b bytes enough first second =
    let place : at + 4 + 4 ≡ at + 8 = omega arith in
    told s at (u32 a ∷ u32 b ∷ []) (drop (at + 4 + 4) s) bytes (omega arith)
    (sym first, (sym second, refl))
    ∙ ap (λ n. edges (a, b) ++ drop n s) place

-- there is room for the next of some options where there is for all
pub room_for : (xs : List option.TcpOptionElement) (i : ℕ) (d : option.TcpOptionElement)
    → i < length xs
    → length (flat_map option_bytes (take i xs)) + length (option_bytes (get_or xs i d)) ≤ length
    (flat_map option_bytes xs)
room_for [] i d h = absurd (omega arith)
room_for (x ∷ xs) zero d h = omega (
  arith,
  length-append (option_bytes x)
      (flat_map option_bytes xs),
)
room_for (x ∷ xs) (suc i) d h =
    omega (
      arith,
      room_for xs i d (omega arith),
      length-append (option_bytes x)
          (flat_map option_bytes xs),
      length-append (option_bytes x)
          (flat_map option_bytes (take i xs)),
    )

-- one more option is written after those so far
pub one_more : (xs : List option.TcpOptionElement) (i : ℕ) (d : option.TcpOptionElement)
    → i < length xs
    → flat_map option_bytes (take (i + 1) xs) ≡ flat_map option_bytes (take i xs)
    ++ option_bytes (get_or xs i d)
one_more xs i d h =
    let x = get_or xs i d in
    ap (flat_map option_bytes) (take_more xs i d h) ∙ flat_map-append option_bytes (take i xs)
    (x ∷ [])
    ∙ ap (λ t. flat_map option_bytes (take i xs) ++ t) (append-nil (option_bytes x))

-- what is read again of some options is an option each
abbrev pub AreReadAgain : List option.TcpOptionElement → Type 0
AreReadAgain xs = AllByRecursion (λ x. IsOption (read_again x)) xs

read_again_push : (xs : List option.TcpOptionElement) (x : option.TcpOptionElement)
    → AreReadAgain xs → IsOption (read_again x) → AreReadAgain (xs ++ x ∷ [])
read_again_push [] x all here = (here, tt)
read_again_push (y ∷ xs) x all here = (all.0, read_again_push xs x all.1 here)

pub one_more_read : (xs : List option.TcpOptionElement) (i : ℕ) (d : option.TcpOptionElement)
    → i < length xs → AreReadAgain (take i xs)
    → IsOption (read_again (get_or xs i d)) → AreReadAgain (take (i + 1) xs)
one_more_read xs i d h all here = rw (take_more xs i d h)
    (read_again_push (take i xs) (get_or xs i d) all here)

-- blocks that are moved to the front are the same blocks
blocks_of-none : (k : ℕ) → blocks_of (replicate k None) ≡ []
blocks_of-none zero = refl
blocks_of-none (suc k) = blocks_of-none k

blocks_of-front : (blocks : List (ℕ × ℕ)) (k : ℕ) → blocks_of
    (map Some blocks ++ replicate k None) ≡ blocks
blocks_of-front [] k = blocks_of-none k
blocks_of-front (b ∷ blocks) k = ap (λ t. b ∷ t) (blocks_of-front blocks k)

-- what is read again has the same bytes
same_bytes : (x : option.TcpOptionElement) → option_bytes (read_again x) ≡ option_bytes x
same_bytes (option.TheVariants.SelectiveAcknowledgement first others) =
    let blocks = blocks_of others in
    ap (λ rest. 5 ∷ (2 + 8 * length (first ∷ rest)) ∷ flat_map edges (first ∷ rest))
    (blocks_of-front blocks (3 - length blocks))
same_bytes x = grind arith

all_same_bytes : (xs : List option.TcpOptionElement) → flat_map option_bytes
    (map read_again xs) ≡ flat_map option_bytes xs
all_same_bytes [] = refl
all_same_bytes (x ∷ xs) = ap (λ t. t ++ flat_map option_bytes (map read_again xs)) (same_bytes x)
    ∙ ap (λ t. option_bytes x ++ t) (all_same_bytes xs)

are_options : (xs : List option.TcpOptionElement) → AreReadAgain xs
    → AllByRecursion IsOption (map read_again xs)
are_options [] all = tt
are_options (x ∷ xs) all = (all.0, are_options xs all.1)

-- zeros are the end of the options
zeros_end : (k : ℕ) → EndsOptions (replicate k 0)
zeros_end zero = tt
zeros_end (suc k) = refl

-- options that are written and padded are read again
pub list_again : (xs : List option.TcpOptionElement) (padded : List ℕ) → AreReadAgain xs
    → IsPadded (flat_map option_bytes xs) padded → IsOptionList (map read_again xs) padded
list_again xs padded all p = record {
  rest = replicate p.padding 0;
  whole = p.whole ∙ ap (λ t. t ++ replicate p.padding 0) (sym (all_same_bytes xs));
  are_options = are_options xs all;
  ends = zeros_end p.padding;
}
