use Rattle.std.proofs.Common.{◌≡◌, ◌≤◌, ◌<◌, ℕ, List, Option, Some, Bor, arith, length, length-append, false, rules, true}
use Rattle.std.proofs.lemmas.Result.{err_from_is_err_and}
use Rattle.std.specs.List.{cons_option}
use Rattle.ipcap.specs.Arguments.{text_of, texts_of, words_after}
use Rattle.ipcap.proofs.arguments.expression_text.Goals as goal

false_is : ¬ (false ≡ true)
false_is e = grind arith

-- where the first word is too long, so are all
long_front : (first : Option (Bor (List ℕ))) (word : Bor (List ℕ)) (others : List (List ℕ)) → first ≡ Some word → ¬ (length word.now ≤ 4096)
    → 4096 < length (words_after false (cons_option (text_of first) others))
long_front first word others is long = rw is (omega (arith, long, length-append word.now (words_after true others)))

pub returns-in_err-has_begun-in-Some-clause-long :
    goal.returns-in_err-has_begun-in-Some-clause-long
returns-in_err-has_begun-in-Some-clause-long c =
    let long : ¬ (length c.in-Some.word.now ≤ 4096) = λ few. false_is (c.in_err-has_begun-in-Some.ensures.fits.1 (search rules)) in
    let p = err_from_is_err_and c.from_residual.result c.from_residual.ensures.1 in
    rw p.1 (long_front c.args.first c.in-Some.word (texts_of c.args.others.now) c.in-Some.is long)
