use Rattle.std.proofs.Common.{◌≡◌, ◌≤◌, ◌<◌, ℕ, suc, ◌+◌, Bool, true, false, List, [], ◌∷◌, ◌++◌, ◌∙◌, ap, append_assoc, sym, drop, length, length-append, arith, Bor}
use Rattle.std.proofs.Math.Seq.{drop-cons}
use Rattle.std.proofs.lemmas.Result.{err_from_is_err_and}
use Rattle.std.specs.List.{slice_index_or}
use Rattle.ipcap.specs.Arguments.{joined, texts_of, words_after}
use Rattle.ipcap.proofs.arguments.join_all.Goals as goal

abbrev no_word : Bor (List ℕ)
no_word = record { ref_ptr = (0, 0); now = [] }

-- the first of some words is joined, and then the others
words_front : (has_begun : Bool) (text word : List ℕ) (words : List (List ℕ)) → text ++ words_after has_begun (word ∷ words) ≡ joined has_begun text word ++ words_after true words
words_front true text word words = sym (append_assoc text (32 ∷ word) (words_after true words))
words_front false text word words = sym (append_assoc text word (words_after true words))

-- so is the next one
next_joined : (has_begun : Bool) (text word : List ℕ) (words : List (Bor (List ℕ))) (i : ℕ) → i < length words → word ≡ (slice_index_or words i no_word).now
    → text ++ words_after has_begun (texts_of (drop i words)) ≡ joined has_begun text word ++ words_after true (texts_of (drop (i + 1) words))
next_joined has_begun text word words i lt is =
    let others = texts_of (drop (i + 1) words) in
    let next : suc i ≡ i + 1 = omega arith in
    let split : drop i words ≡ slice_index_or words i no_word ∷ drop (i + 1) words = drop-cons words i no_word lt ∙ ap (λ k. slice_index_or words i no_word ∷ drop k words) next in
    ap (λ ws. text ++ words_after has_begun (texts_of ws)) split
    ∙ (ap (λ w. text ++ words_after has_begun (w ∷ others)) (sym is) ∙ words_front has_begun text word others)

kept : (has_begun begun : Bool) (text new word all : List ℕ) (words : List (Bor (List ℕ))) (i : ℕ) → i < length words → word ≡ (slice_index_or words i no_word).now
    → new ≡ joined has_begun text word → begun ≡ true → text ++ words_after has_begun (texts_of (drop i words)) ≡ all
    → new ++ words_after begun (texts_of (drop (i + 1) words)) ≡ all
kept has_begun begun text new word all words i lt is joins begins was = rw (joins, begins) (sym (next_joined has_begun text word words i lt is) ∙ was)

-- a text with a word more is no longer than with all of them
longer : (has_begun : Bool) (text word all : List ℕ) (words : List (Bor (List ℕ))) (i : ℕ) → i < length words → word ≡ (slice_index_or words i no_word).now
    → text ++ words_after has_begun (texts_of (drop i words)) ≡ all → length (joined has_begun text word) ≤ length all
longer has_begun text word all words i lt is was =
    let others = words_after true (texts_of (drop (i + 1) words)) in
    omega (arith, ap length (sym was ∙ next_joined has_begun text word words i lt is), length-append (joined has_begun text word) others)

pub loop-word-preserved : goal.loop-word-preserved
loop-word-preserved c = kept c.loop-word.has_begun c.in_ok-has_begun.has_begun c.loop-word.text.items _ c.as_bytes.result.now _ c.args.words.now c.loop-word.word-index c.loop-word-test.true c.as_bytes.ensures.value
    c.in_ok-has_begun.ensures.joins c.in_ok-has_begun.ensures.begins c.loop-word.invariant

false_is : ¬ (false ≡ true)
false_is e = grind arith

pub returns-in_err-has_begun-clause-long : goal.returns-in_err-has_begun-clause-long
returns-in_err-has_begun-clause-long c =
    let all = longer c.loop-word.has_begun c.loop-word.text.items c.as_bytes.result.now _ c.args.words.now c.loop-word.word-index c.loop-word-test.true c.as_bytes.ensures.value c.loop-word.invariant in
    let long : ¬ (length (joined c.loop-word.has_begun c.loop-word.text.items c.as_bytes.result.now) ≤ 4096) = λ few. false_is (c.in_err-has_begun.ensures.fits.1 few) in
    let p = err_from_is_err_and c.from_residual.result c.from_residual.ensures.1 in
    rw p.1 (omega (arith, all, long))
