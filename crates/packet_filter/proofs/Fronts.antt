-- Reading words from the first on.
use Rattle.std.proofs.Common.{◌≡◌, ◌||◌, Bool, IsTrue, ℕ, ◌+◌, ◌-◌, ◌<◌, ◌≤◌, List, [], ◌∷◌, ◌++◌, Option, Some, None, refl, sym, ap, ◌∙◌, subst, append_assoc, length, length-append, arith}
use Rattle.std.specs.Option.{unwrap_or}
use Rattle.std.proofs.lemmas.List.{append-nil}
use Rattle.packet_filter.specs.Meaning.{Expression, one, negation, compound}
use Rattle.packet_filter.specs.Program.{and_then, built, Computes, expression_of, top_of}
use Rattle.packet_filter.specs.Grammar.{IsExpression}
use Rattle.packet_filter.specs.Language.{AreSpelled, CanFollow, CanGoOn, IsIncomplete, IsSentence, IsText, IsUnexpected, NothingElse, Refuses, operator_word, other}
use Rattle.packet_filter.specs.Expected.{has_to_follow, leaves_out, leaves_out_at_end, names}
use Rattle.packet_filter.specs.Private.Machine.{State, expected_of, finish, level_of, outcome, qualifiers_doing, refusal, settled, size_of, step_of, start}
use Rattle.packet_filter.specs.Text.{BeginsWithWord, Spells, words_of}
use Rattle.packet_filter.specs.declared.expected.Expected.{Expected}
use Rattle.packet_filter.specs.declared.expression.Operator.{Operator as Joiner}
use Rattle.packet_filter.specs.declared.filter.Step.{Step}
use Rattle.packet_filter.specs.declared.filter.Step.TheVariants as step
use Rattle.packet_filter.specs.declared.reading.FilterError.{FilterError}
use Rattle.packet_filter.specs.declared.reading.FilterError.TheVariants as error
use Rattle.packet_filter.specs.declared.token.Token.{Token}
use Rattle.packet_filter.specs.declared.token.Token.TheVariants as token
use Rattle.packet_filter.proofs.Complete.{postfix, expression_is_read}
use Rattle.packet_filter.proofs.Follows.{stands_can_go_on}
use Rattle.packet_filter.proofs.Sound.{Stands, stands_on, stands_first, read_at_end}
use Rattle.packet_filter.proofs.Runs.{then_some}
use Rattle.packet_filter.proofs.Others.{Only, end_only, only, refused_only}
use Rattle.packet_filter.proofs.Refusals.{Other, end_offers, other_operator, other_word, settled_follows, word_follows}
use Rattle.packet_filter.proofs.Spelled.{one_token, spelled_apart, spelled_once, spelled_together}

-- the program of an expression puts it on the stack
built_postfix : (e : Expression) (rest : List Step) (es : List Expression) → built (postfix e ++ rest) es ≡ built rest (e ∷ es)
built_postfix (one p) rest es = refl
built_postfix (negation e) rest es =
    ap (λ l. built l es) (append_assoc (postfix e) (step.Not ∷ []) rest) ∙ built_postfix e (step.Not ∷ rest) es
built_postfix (compound o a b) rest es =
    let flat : (postfix a ++ (postfix b ++ step.Operator o ∷ [])) ++ rest ≡ postfix a ++ (postfix b ++ step.Operator o ∷ rest) = simp append_assoc in
    ap (λ l. built l es) flat ∙ built_postfix a (postfix b ++ step.Operator o ∷ rest) es ∙ built_postfix b (step.Operator o ∷ rest) (a ∷ es)

computes : (e : Expression) → Computes (postfix e) e
computes e = ap (λ l. built l []) (sym (append-nil (postfix e))) ∙ built_postfix e [] []

some_equal : {A : Type 0} (x y : A) → Some x ≡ Some y → x ≡ y
some_equal x y h = cc

front_equal : (a b : Expression) → Some (a ∷ []) ≡ Some (b ∷ []) → a ≡ b
front_equal a b h = cc

one_expression : (words : List Token) (a b : Expression) → IsExpression words a → IsExpression words b → a ≡ b
one_expression words a b x y =
    let same : postfix a ≡ postfix b = some_equal _ _ (sym (expression_is_read words a x) ∙ expression_is_read words b y) in
    front_equal a b (sym (computes a) ∙ ap (λ l. built l []) same ∙ computes b)

pub one_text : (text : List ℕ) (a b : Expression) → IsText text a → IsText text b → a ≡ b
one_text text a b x y =
    one_expression y.tokens a b (subst (λ t. IsExpression t a) (spelled_once (words_of text) x.tokens y.tokens x.spelled y.spelled) x.is) y.is

expression_of_computed : (steps : List Step) (e : Expression) → Computes steps e → expression_of steps ≡ e
unfolding expression_of
expression_of_computed steps e h = ap top_of h

-- the text is these words, then the rest, and the words lead to the state, whatever follows them
pub record Reached (s : State) (text rest : List ℕ) (count : ℕ) : Type 0 where
  pub front : List ℕ
  pub before : List (List ℕ)
  pub tokens : List Token
  pub whole : text ≡ front ++ rest
  pub words : words_of text ≡ before ++ words_of rest
  pub counted : count ≡ length before
  pub spelled : AreSpelled before tokens
  pub stands : Stands s tokens
  pub leads : (more : List Token) → outcome (tokens ++ more) start ≡ outcome more s

reached_first : (text : List ℕ) → Reached start text text 0
reached_first text = record { front = []; before = []; tokens = []; whole = refl; words = refl; counted = refl; spelled = tt; stands = stands_first; leads = λ more. refl }

pub from_start : (s : State) (text : List ℕ) → s ≡ start → (size_of s ≤ 0) × Reached s text text 0
from_start s text h = subst (λ x. (size_of x ≤ 0) × Reached x text text 0) (sym h) (omega arith, reached_first text)

pub reached_more : (s next : State) (text rest word after : List ℕ) (count : ℕ) (t : Token) → Reached s text rest count → BeginsWithWord rest word after → Spells word t → step_of s t ≡ Some next → Reached next text after (count + 1)
reached_more s next text rest word after count t r b h e = record {
  front = r.front ++ (b.space ++ word);
  before = r.before ++ word ∷ [];
  tokens = r.tokens ++ t ∷ [];
  whole =
      let flat : r.front ++ (b.space ++ (word ++ after)) ≡ (r.front ++ (b.space ++ word)) ++ after = simp append_assoc in
      r.whole ∙ ap (λ l. r.front ++ l) b.whole ∙ flat;
  words = r.words ∙ ap (λ l. r.before ++ l) b.words ∙ sym (append_assoc r.before (word ∷ []) (words_of after));
  counted = omega (arith, r.counted, length-append r.before (word ∷ []));
  spelled = spelled_together r.before (word ∷ []) r.tokens (t ∷ []) r.spelled (h, tt);
  stands = stands_on s t r.tokens next r.stands e;
  leads = λ more. ap (λ l. outcome l start) (append_assoc r.tokens (t ∷ []) more) ∙ r.leads (t ∷ more) ∙ ap (λ o. and_then o (outcome more)) e;
}

none_some : {A : Type 0} (x : A) → None ≡ Some x → ⊥
none_some x h = cc

can_go_on : (s : State) (text rest : List ℕ) (count : ℕ) (r : Reached s text rest count) → CanGoOn r.before
can_go_on s text rest count r =
    let x = stands_can_go_on s r.tokens r.stands in
    record { more = x.more; expression = x.expression; sentence = record { tokens = r.tokens ++ x.tokens; spelled = spelled_together r.before (words_of x.more) r.tokens x.tokens r.spelled x.spelled; is = x.is } }

-- a word that can stand next is taken
record Next (s : State) (word : List ℕ) : Type 0 where
  token : Token
  says : Spells word token
  state : State
  taken : step_of s token ≡ Some state

next_word : (word : List ℕ) (ts : List Token) → AreSpelled (word ∷ []) ts → (t : Token) × Spells word t × (ts ≡ t ∷ [])
next_word word [] h = absurd h
next_word word (t ∷ []) h = (t, h.0, refl)
next_word word (t ∷ u ∷ ts) h = absurd h.1

goes_next : (s : State) (text rest word : List ℕ) (count : ℕ) (r : Reached s text rest count) → CanGoOn (r.before ++ word ∷ []) → Next s word
goes_next s text rest word count r c =
    let p = spelled_apart (r.before ++ word ∷ []) (words_of c.more) c.sentence.tokens c.sentence.spelled in
    let q = spelled_apart r.before (word ∷ []) p.left p.front in
    let t = next_word word q.right q.back in
    let same : p.left ≡ r.tokens ++ t.0 ∷ [] = q.whole ∙ ap (λ l. l ++ q.right) (spelled_once r.before q.left r.tokens q.front r.spelled) ∙ ap (λ l. r.tokens ++ l) t.2 in
    let n = then_some (step_of s t.0) (outcome p.right) (postfix c.expression)
    (sym (ap (λ l. outcome l start) (p.whole ∙ ap (λ l. l ++ p.right) same ∙ append_assoc r.tokens (t.0 ∷ []) p.right) ∙ r.leads (t.0 ∷ p.right))
    ∙ expression_is_read c.sentence.tokens c.expression c.sentence.is) in
    record { token = t.0; says = t.1; state = n.0; taken = n.1 }

cannot_go_on : (s : State) (text rest word : List ℕ) (count : ℕ) (t : Token) (r : Reached s text rest count) → Spells word t → step_of s t ≡ None → ¬ CanGoOn (r.before ++ word ∷ [])
cannot_go_on s text rest word count t r h e = λ c.
    let n = goes_next s text rest word count r c in
    none_some n.state (sym e ∙ ap (step_of s) (one_token word t n.token h n.says) ∙ n.taken)

nothing_else : (s : State) (text rest : List ℕ) (count : ℕ) (r : Reached s text rest count) (is : Token → Bool) → ((w : Token) → Only (is w) (step_of s w)) → NothingElse r.before is
nothing_else s text rest count r is f = λ word c.
    let n = goes_next s text rest word count r c in
    (n.token, n.says, only (is n.token) (step_of s n.token) n.state (f n.token) n.taken)

-- where the next word stands
record Place (text word after : List ℕ) (before : List (List ℕ)) (place : ℕ) : Type 0 where
  front : List ℕ
  whole : text ≡ front ++ (word ++ after)
  at : place ≡ length front
  words : words_of text ≡ before ++ word ∷ words_of after

placed : (s : State) (text rest word after : List ℕ) (count place : ℕ) (r : Reached s text rest count) → BeginsWithWord rest word after → place ≡ length text - length after - length word → Place text word after r.before place
placed s text rest word after count place r b at =
    let flat : r.front ++ (b.space ++ (word ++ after)) ≡ (r.front ++ b.space) ++ (word ++ after) = simp append_assoc in
    let whole : text ≡ (r.front ++ b.space) ++ (word ++ after) = r.whole ∙ ap (λ l. r.front ++ l) b.whole ∙ flat in
    let len : length text ≡ length (r.front ++ b.space) + (length word + length after) = ap length whole ∙ length-append (r.front ++ b.space) (word ++ after) ∙ ap (λ n. length (r.front ++ b.space) + n) (length-append word after) in
    record {
      front = r.front ++ b.space;
      whole = whole;
      at = omega (arith, at, len);
      words = r.words ∙ ap (λ l. r.before ++ l) b.words;
    }

abbrev unexpected : (s : State) (text rest word after : List ℕ) (count place : ℕ) (t : Token) → (r : Reached s text rest count) → count < 64 → BeginsWithWord rest word after → Spells word t → step_of s t ≡ None → place ≡ length text - length after - length word → IsUnexpected text place
unexpected s text rest word after count place t r few b h e at =
    let p = placed s text rest word after count place r b at in
    record {
      front = p.front;
      word = word;
      rest = after;
      before = r.before;
      whole = p.whole;
      at = p.at;
      words = p.words;
      few = omega (arith, r.counted, few);
      can = can_go_on s text rest count r;
      cannot = cannot_go_on s text rest word count t r h e;
    }

-- which error says so
why : (t : Token) (c : Option Joiner) (e : Expected) (s : State) (text : List ℕ) (place : ℕ) (u : IsUnexpected text place) → Spells u.word t → CanFollow u.before e → NothingElse u.before (λ w. names e w || leaves_out e w) → ((o : Joiner) → t ≡ token.Operator o → Other c s u.before o) → ((o : Joiner) → step_of s (token.Operator o) ≡ None → ¬ CanGoOn (u.before ++ operator_word o ∷ [])) → Refuses text (refusal place t c e)
why token.Foreign c e s text place u h k l f g = record { at = u; foreign = h }
why (token.Operator o) (Some c) e s text place u h k l f g = record { at = u; mixed = record { says = h; other_can = f o refl } }
why (token.Operator o) None e s text place u h k l f g = record {
  at = u;
  examples_can = k;
  no_others = l;
  no_foreign = λ x. let same : token.Operator o ≡ token.Foreign = one_token u.word _ _ h x in cc;
  not_mixed = λ p m. g (other p) (f p (one_token u.word _ _ h m.says)) m.other_can;
}
why t c e s text place u h k l f g = record {
  at = u;
  examples_can = k;
  no_others = l;
  no_foreign = λ x. let same : t ≡ token.Foreign = one_token u.word _ _ h x in cc;
  not_mixed = λ p m. let same : t ≡ token.Operator p = one_token u.word _ _ h m.says in cc;
}

pub refused : (s next : State) (text rest word after : List ℕ) (count place : ℕ) (t : Token) (q : Option Expected) (x : FilterError) → Reached s text rest count → count < 64 → BeginsWithWord rest word after → Spells word t → step_of s t ≡ None → place ≡ length text - length after - length word → next ≡ settled s → q ≡ qualifiers_doing s.doing → x ≡ refusal place t (level_of next.doing) (unwrap_or q (expected_of next)) → Refuses text x
refused s next text rest word after count place t q x r few b h e at left l f =
    let u = unexpected s text rest word after count place t r few b h e at in
    let k = word_follows q s r.before r.tokens (sym l) r.stands r.spelled in
    let n = nothing_else s text rest count r (λ w. names (unwrap_or q (expected_of (settled s))) w || leaves_out (unwrap_or q (expected_of (settled s))) w) (λ w. refused_only q s.doing w s.waiting s.steps (sym l)) in
    let w = why t (level_of (settled s).doing) (unwrap_or q (expected_of (settled s))) s text place u h k n (λ o y. other_operator s r.before r.tokens o r.stands r.spelled (subst (λ z. step_of s z ≡ None) y e)) (λ o y. cannot_go_on s text rest (operator_word o) count (token.Operator o) r (other_word o) y) in
    subst (Refuses text) (sym (f ∙ ap (λ (n : State). refusal place t (level_of n.doing) (unwrap_or q (expected_of n))) left)) w

pub too_long : (s : State) (text rest word after : List ℕ) (place : ℕ) → Reached s text rest 64 → BeginsWithWord rest word after → place ≡ length text - length after - length word → Refuses text (error.TooLong place)
too_long s text rest word after place r b at =
    let p = placed s text rest word after 64 place r b at in
    record {
      front = p.front;
      word = word;
      rest = after;
      before = r.before;
      whole = p.whole;
      at = p.at;
      words = p.words;
      many = sym r.counted;
      can = can_go_on s text rest 64 r;
    }

all_words : (s : State) (text rest : List ℕ) (count : ℕ) (r : Reached s text rest count) → words_of rest ≡ [] → words_of text ≡ r.before
all_words s text rest count r h = r.words ∙ ap (λ l. r.before ++ l) h ∙ append-nil r.before

pub few_words : (s : State) (text rest : List ℕ) (count : ℕ) → Reached s text rest count → count ≤ 64 → words_of rest ≡ [] → length (words_of text) ≤ 64
few_words s text rest count r few h = omega (arith, r.counted, ap length (all_words s text rest count r h), few)

pub accepted : (s : State) (text rest : List ℕ) (count : ℕ) (o : List Step) → Reached s text rest count → words_of rest ≡ [] → finish s ≡ Some o → IsText text (expression_of o) × Computes o (expression_of o)
accepted s text rest count o r h e =
    let x = read_at_end s o r.tokens r.stands e in
    let c : Computes o x.expression = subst (λ l. Computes l x.expression) (sym x.program) (computes x.expression) in
    let same : x.expression ≡ expression_of o = sym (expression_of_computed o x.expression c) in
    let is : IsText text x.expression = subst (λ w. IsSentence w x.expression) (sym (all_words s text rest count r h)) (record { tokens = r.tokens; spelled = r.spelled; is = x.text }) in
    (subst (IsText text) same is, subst (Computes o) same c)

pub incomplete : (s next : State) (text rest : List ℕ) (count : ℕ) → Reached s text rest count → count ≤ 64 → words_of rest ≡ [] → finish s ≡ None → next ≡ settled s → IsIncomplete text (expected_of next)
incomplete s next text rest count r few h e left =
    let all = all_words s text rest count r h in
    record {
      few = few_words s text rest count r few h;
      can = subst CanGoOn (sym all) (can_go_on s text rest count r);
      no_expression = λ x t.
          let same : t.tokens ≡ r.tokens = spelled_once r.before t.tokens r.tokens (subst (λ w. AreSpelled w t.tokens) all t.spelled) r.spelled in
          none_some (postfix x) (sym (ap (λ l. outcome l start) (same ∙ sym (append-nil r.tokens)) ∙ r.leads [] ∙ e) ∙ expression_is_read t.tokens x t.is);
      examples_can = subst (λ w. CanFollow w (expected_of next)) (sym all) (subst (λ (n : State). CanFollow r.before (expected_of n)) (sym left) (end_offers s r.before r.tokens r.stands r.spelled));
      no_others = subst (λ v. NothingElse v (λ w. names (expected_of next) w || leaves_out_at_end (expected_of next) w)) (sym all)
          (subst (λ (n : State). NothingElse r.before (λ w. names (expected_of n) w || leaves_out_at_end (expected_of n) w)) (sym left)
          (nothing_else s text rest count r (λ w. names (expected_of (settled s)) w || leaves_out_at_end (expected_of (settled s)) w) (λ w. end_only s.doing w s.waiting s.steps)));
      follows = subst (λ (n : State). IsTrue (has_to_follow (expected_of n))) (sym left) (settled_follows s.doing s.waiting s.steps r.tokens r.stands e);
    }

-- a text of the language that is not too long is not refused
not_unexpected : (text : List ℕ) (e : Expression) (place : ℕ) → IsText text e → IsUnexpected text place → ⊥
not_unexpected text e place t u =
    u.cannot (record { more = u.rest; expression = e; sentence = subst (λ w. IsSentence w e) (u.words ∙ sym (append_assoc u.before (u.word ∷ []) (words_of u.rest))) t })

pub not_refused : (text : List ℕ) (e : Expression) (x : FilterError) → IsText text e → length (words_of text) ≤ 64 → Refuses text x → ⊥
not_refused text e (error.TooLong place) t few r = omega (arith, few, r.many, ap length r.words, length-append r.before (r.word ∷ words_of r.rest))
not_refused text e (error.Unexpected place expected) t few r = not_unexpected text e place t r.at
not_refused text e (error.Mixed place o) t few r = not_unexpected text e place t r.at
not_refused text e (error.Unsupported place) t few r = not_unexpected text e place t r.at
not_refused text e (error.Incomplete expected) t few r = r.no_expression e t
