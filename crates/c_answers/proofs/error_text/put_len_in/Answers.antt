use Rattle.std.proofs.Common.{ℕ, ◌≡◌, ◌<◌, ◌++◌, List, [], ap, append_assoc, arith, codes, decimal, lt-ltb, refl, subst}
use Rattle.c_answers.specs.Text.{GivesText}
use Rattle.c_answers.specs.declared.error.Error.{Error}
use Rattle.c_answers.proofs.error_text.put_len_in.Goals as goal

-- nine pieces, and two after them, of which the first may be five
in_pieces : (a b c d e f g h i place dot : List ℕ) → a ++ (b ++ (c ++ (d ++ (e ++ (f ++ (g ++ (h ++ (i ++ (place ++ dot)))))))))
    ≡ (a ++ (b ++ (c ++ (d ++ (e ++ (f ++ (g ++ (h ++ (i ++ []))))))))) ++ place ++ dot
in_pieces a b c d e f g h i place dot = simp append_assoc refl

five : (a b c d e dot : List ℕ) → a ++ (b ++ (c ++ (d ++ (e ++ dot)))) ≡ (a ++ b ++ c ++ d ++ e) ++ dot
five a b c d e dot = simp append_assoc refl

pub returns-then-error-eq0 : goal.returns-then-error-eq0
returns-then-error-eq0 c = record {
  gives = λ l is title layer source.
      let e = c.args.error.now in
      let text = rw (c.digits.ensures.text, c.digits-then-error-eq0.ensures.text) at c.put.ensures.gives in
      rw (← ap (λ (n : Error). n.required_len) is, ← ap (λ (n : Error). n.len) is, ← ap (λ (n : Error). n.layer_start_offset) is, c.if-error-eq0.true, lt-ltb _ _ c.requires.below, ← title, ← layer, ← source) (subst (λ x. GivesText x c.args.text.now c.put.new.text c.put.result)
      (in_pieces c.args.title.now (codes ": Not enough data to decode '") c.args.layer.now (codes "'. ") (decimal e.required_len) (codes " byte(s) would be required, but only ") (decimal e.len)
      (codes " byte(s) are available based on the ") c.args.source.now [] (codes ".")) text);
}

pub returns : goal.returns
returns c = record {
  gives = λ l is title layer source.
      let e = c.args.error.now in
      let some : 0 < e.layer_start_offset = omega (arith, c.if-error-eq0.false) in
      let place = five (codes " ('") c.args.layer.now (codes "' starts at overall parsed byte ") (decimal e.layer_start_offset) (codes ")") (codes ".") in
      let text = rw (c.digits-2.ensures.text, c.digits-3.ensures.text, c.digits-4.ensures.text) at c.put-2.ensures.gives in
      rw (← ap (λ (n : Error). n.required_len) is, ← ap (λ (n : Error). n.len) is, ← ap (λ (n : Error). n.layer_start_offset) is, lt-ltb 0 e.layer_start_offset some, lt-ltb _ _ c.requires.below, ← title, ← layer, ← source) (subst (λ x. GivesText x c.args.text.now c.put-2.new.text c.put-2.result)
      (in_pieces c.args.title.now (codes ": Not enough data to decode '") c.args.layer.now (codes "'. ") (decimal e.required_len) (codes " byte(s) would be required, but only ") (decimal e.len)
      (codes " byte(s) are available based on the ") c.args.source.now _ (codes ".")) (rw place at text));
}
