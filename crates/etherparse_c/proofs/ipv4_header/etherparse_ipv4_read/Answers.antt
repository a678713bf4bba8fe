use Rattle.std.proofs.Common.{ℕ, ◌≡◌, ◌+◌, ◌-◌, ◌++◌, List, [], ◌∷◌, Ok, Err, ap, arith, drop, eqb-true, length}
use Rattle.std.proofs.Common.{length-append, refl, replicate, rules, sym, ◌∙◌}
use Rattle.std.proofs.lemmas.List.{drop-append-le, length-drop, take_at}
use Rattle.std.specs.Prelude.{slice_range}
use Rattle.etherparse.specs.Ipv4Header.{ReadsIpv4}
use Rattle.etherparse.specs.declared.net.ipv4_header.Ipv4Header.{Ipv4Header}
use Rattle.etherparse_c.proofs.Answered.{answered}
use Rattle.c_answers.specs.Answer.{rest_of}
use Rattle.c_answers.specs.declared.error.Rest.{Rest}
use Rattle.etherparse_c.proofs.ipv4_header.etherparse_ipv4_read.Goals as goal

-- a slice is the first 20 bytes of the header that was read, its options and the rest
lengths : (s rest : List ℕ) (h : Ipv4Header) → ReadsIpv4 s (Ok (h, rest)) → 20 + length h.options + length rest ≡ length s
lengths s rest h read = omega (arith, ap length read.whole, length-append read.front rest, read.layout.layout.len)

offset_is : (s rest : List ℕ) (h : Ipv4Header) (place : Rest) → ReadsIpv4 s (Ok (h, rest)) → place ≡ rest_of s rest
    → place.offset ≡ 20 + length h.options
offset_is s rest h place read is = omega (arith, lengths s rest h read, ap (λ (r : Rest). r.offset) is)

options_at : (s rest : List ℕ) (h : Ipv4Header) (place : Rest) → ReadsIpv4 s (Ok (h, rest)) → place ≡ rest_of s rest
    → slice_range s 20 place.offset ≡ h.options
options_at s rest h place read is =
    let l = read.layout.layout in
    let len = offset_is s rest h place read is in
    rw (read.whole, drop-append-le 20 read.front rest (omega (arith, l.len)))
    (take_at (drop 20 read.front) rest (place.offset - 20) (omega (arith, len, l.len, length-drop 20 read.front)) ∙ l.options)

-- without options the array is all 0
no_options : (options : List ℕ) → length options ≡ 0 → replicate 40 0 ≡ options ++ replicate (40 - length options) 0
no_options [] none = refl
no_options (x ∷ xs) none = absurd (omega arith)

pub of-rest-requires : goal.of-rest-requires
of-rest-requires c = omega (arith, lengths _ _ _ c.in-Ok.ensures.reads.reads)

pub slice_bounds-options-count : goal.slice_bounds-options-count
slice_bounds-options-count c = omega (arith, offset_is _ _ _ _ c.in-Ok.ensures.reads.reads c.of-rest.ensures.value)

pub slice_bounds-options-start : goal.slice_bounds-options-start
slice_bounds-options-start c = omega (arith, offset_is _ _ _ _ c.in-Ok.ensures.reads.reads c.of-rest.ensures.value)

pub fields_with-requires : goal.fields_with-requires
fields_with-requires c = rw (options_at _ _ _ _ c.in-Ok.ensures.reads.reads c.of-rest.ensures.value)
    at (no_options _ (eqb-true _ _ (sym c.is_empty.ensures ∙ c.if-is_empty.true)))

pub filled_by_words-requires-clause-options_len : goal.filled_by_words-requires-clause-options_len
filled_by_words-requires-clause-options_len c =
    rw (options_at _ _ _ _ c.in-Ok.ensures.reads.reads c.of-rest.ensures.value) c.in-Ok.ensures.reads.reads.layout.layout.options_len

pub fields_with-requires-in-Ok : goal.fields_with-requires-in-Ok
fields_with-requires-in-Ok c =
    rw (options_at _ _ _ _ c.in-Ok.ensures.reads.reads c.of-rest.ensures.value) at c.filled_by_words.ensures.value

pub returns-then-is_empty : goal.returns-then-is_empty
returns-then-is_empty c =
    record { reads = answered (Ok (c.in-Ok.header, c.in-Ok.rest.now)) c.in-Ok.ensures.reads.reads c.in-Ok.ensures.reads.only (search rules) }

pub returns-in-Ok : goal.returns-in-Ok
returns-in-Ok c = record { reads = answered (Ok (c.in-Ok.header, c.in-Ok.rest.now)) c.in-Ok.ensures.reads.reads c.in-Ok.ensures.reads.only (search rules) }

pub returns-in-Err : goal.returns-in-Err
returns-in-Err c = record { reads = answered (Err c.in-Err.e) c.in-Err.ensures.reads.reads c.in-Err.ensures.reads.only (search rules) }
