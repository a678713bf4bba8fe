use Rattle.std.proofs.Common.{arith, refl, subst}
use Rattle.packet_filter.specs.Language.{IsText, Refuses}
use Rattle.packet_filter.specs.Program.{expression_of}
use Rattle.packet_filter.specs.declared.reading.FilterError.TheVariants as error
use Rattle.packet_filter.proofs.Fronts.{Reached, accepted, few_words, from_start, incomplete, not_refused, one_text, reached_more, refused, too_long}
use Rattle.packet_filter.proofs.filter.Filter.from_text.Goals as goal

pub words-init : goal.words-init
words-init c = let r = from_start _ c.args.text.now c.new-machine.ensures.first in record { few = omega arith; size = r.0; reached = r.1 }

pub words-preserved : goal.words-preserved
words-preserved c = record {
  few = omega (arith, c.words.invariant.few, c.if-count-eq-MAX_WORDS.false);
  size = omega (arith, c.step.ensures.size c.if-not-step.false, c.words.invariant.size);
  reached = reached_more _ _ _ _ _ _ _ _ c.words.invariant.reached c.in-Some.ensures.some c.token_of-token.ensures.says (c.step.ensures.yes c.if-not-step.false);
}

pub returns-then-count-eq-MAX_WORDS : goal.returns-then-count-eq-MAX_WORDS
returns-then-count-eq-MAX_WORDS c =
    let r = too_long _ _ _ _ _ _ (subst (Reached _ c.args.text.now c.words.rest.now) c.if-count-eq-MAX_WORDS.true c.words.invariant.reached) c.in-Some.ensures.some refl in
    record { read = tt; few = tt; refused = r; accepted = λ e t few. absurd (not_refused c.args.text.now e (error.TooLong _) t few r) }

pub returns-then-not-step : goal.returns-then-not-step
returns-then-not-step c =
    let r = refused _ _ _ _ _ _ _ _ _ _ c.refusal.result c.words.invariant.reached (omega (arith, c.words.invariant.few, c.if-count-eq-MAX_WORDS.false)) c.in-Some.ensures.some c.token_of-token.ensures.says (c.step.ensures.no c.if-not-step.true) refl (c.step.ensures.left c.if-not-step.true) c.qualifiers-qualifiers.ensures.value (cc (c.refusal.ensures.value, c.operator.ensures.value, c.unwrap_or-expected.ensures, c.expected.ensures.value)) in
    record { read = tt; few = tt; refused = r; accepted = λ e t few. absurd (not_refused c.args.text.now e c.refusal.result t few r) }

pub of_steps-requires : goal.of_steps-requires
of_steps-requires c =
    let r = accepted _ _ _ _ _ c.words.invariant.reached c.in_default.ensures.none (c.finish.ensures.yes c.if-finish.true) in
    record { computes = rw c.into_steps.ensures.value r.1 }

pub returns-then-finish : goal.returns-then-finish
returns-then-finish c =
    let r = accepted _ _ _ _ _ c.words.invariant.reached c.in_default.ensures.none (c.finish.ensures.yes c.if-finish.true) in
    let is : IsText c.args.text.now (expression_of c.of_steps.result) = rw (c.of_steps.ensures.value, c.into_steps.ensures.value) r.0 in
    record { read = is; few = few_words _ _ _ _ c.words.invariant.reached c.words.invariant.few c.in_default.ensures.none; refused = tt; accepted = λ e t few. one_text c.args.text.now (expression_of c.of_steps.result) e is t }

pub returns-else-finish : goal.returns-else-finish
returns-else-finish c =
    let r = incomplete _ _ _ _ _ c.words.invariant.reached c.words.invariant.few c.in_default.ensures.none (c.finish.ensures.no c.if-finish.false) (c.finish.ensures.left c.if-finish.false) in
    let x : Refuses c.args.text.now (error.Incomplete c.expected-else-finish.result) = rw c.expected-else-finish.ensures.value r in
    record { read = tt; few = tt; refused = x; accepted = λ e t few. absurd (not_refused c.args.text.now e (error.Incomplete c.expected-else-finish.result) t few x) }
