-- Jumps end at the right answer.
use Rattle.std.proofs.Common.{◌≡◌, ◌↔◌, IsTrue, Bool, true, false, if◌then◌else◌, ◌==◌, ℕ, ◌+◌, ◌-◌, ◌<◌, ◌≤◌, ◌⊎◌, List, [], ◌∷◌, ◌++◌, ◌∙◌, ap, length, length-append, length-drop, drop, drop-cons, get_or, take, Option, Some, None, arith, inl, inr, refl, subst, suc, sym, unwrap_or}
use Rattle.std.proofs.lemmas.List.{drop_all, get_or_append_left, get_or_at, take-append-drop}
use Rattle.std.proofs.lemmas.Bool.Decides.{Decides-eqb}
use Rattle.std.specs.Prelude.{IfSome}
use Rattle.packet.specs.declared.lax_sliced_packet.LaxSlicedPacket.{LaxSlicedPacket}
use Rattle.packet_filter.specs.Private.Jumps.{Operands, but_last, jump_before, decisions_of, jump_by, operands_of, with_operands}
use Rattle.packet_filter.specs.Meaning.{Expression, Holds, Matches, compound, negation, one}
use Rattle.packet_filter.specs.Program.{and_then, built, stepped}
use Rattle.packet_filter.specs.Private.Quick.{Asks, quick_of, quick_of_step}
use Rattle.packet_filter.proofs.Asked.{asks_what_holds}
use Rattle.packet_filter.specs.declared.expression.Operator.TheVariants.{And, Or}
use Rattle.packet_filter.specs.declared.expression.Primitive.{Primitive}
use Rattle.packet_filter.specs.declared.filter.Step.{Step}
use Rattle.packet_filter.specs.declared.filter.Step.TheVariants as step
use Rattle.packet_filter.specs.declared.jumps.Decision.{Decision}
use Rattle.packet_filter.specs.declared.jumps.Jump.{Jump}
use Rattle.packet_filter.specs.declared.jumps.Operand.{Operand}

pub then_some : {A B : Type 0} (o : Option A) (f : A → Option B) (y : B) → and_then o f ≡ Some y → (x : A) × (o ≡ Some x) × (f x ≡ Some y)
then_some None f y h = cc
then_some (Some x) f y h = (x, refl, h)

-- the fact holds, and then the first, or it does not, and then the second
abbrev pub Decides : Type 0 → Type 0 → Type 0 → Type 0
Decides P Y N = (P × Y) ⊎ ((¬ P) × N)

-- where the answers of the operands lead: a place, or what comes next
abbrev pub Leads : LaxSlicedPacket → ℕ → Operands → List Expression → Option ℕ → Type 0
Leads lax len [] es o = o ≡ None
Leads lax len (c ∷ cs) [] o = o ≡ None
Leads lax len (c ∷ cs) (e ∷ es) o = ((t : ℕ) × Leads lax len cs es (Some t) × (o ≡ Some t))
    ⊎ (Leads lax len cs es None × Decides (Matches e lax len) (o ≡ c.yes) (o ≡ c.no))

-- where they lead after one more step, if it is to the same place
record LeadsOn (lax : LaxSlicedPacket) (len : ℕ) (operands : Operands) (es : List Expression) (next place : ℕ) : Type 0 where
  pub to : Option ℕ
  pub leads : Leads lax len operands es to
  pub same : place ≡ unwrap_or to next

abbrev free : Operand
free = record { yes = None; no = None }

-- an operand whose answers both lead to what comes next is as good as none
without : (lax : LaxSlicedPacket) (len : ℕ) (es : List Expression) (next place : ℕ) → LeadsOn lax len (free ∷ []) es next place → LeadsOn lax len [] es next place
without lax len [] next place l = record { to = l.to; leads = l.leads; same = l.same }
without lax len (e ∷ es) next place l =
    let none : l.to ≡ None = elim l.leads [ inl w ↦ cc (w.1) | inr w ↦ elim w.1 [ inl d ↦ d.1 | inr d ↦ d.1 ] ] in
    record { to = l.to; leads = none; same = l.same }

-- the answer of the last operand leads where it says
last_leads : (lax : LaxSlicedPacket) (len : ℕ) (c : Operand) (cs : Operands) (e : Expression) (es : List Expression) (next place : ℕ) → Leads lax len cs es None
    → Decides (Matches e lax len) (place ≡ unwrap_or c.yes next) (place ≡ unwrap_or c.no next) → LeadsOn lax len (c ∷ cs) (e ∷ es) next place
last_leads lax len c cs e es next place l (inl d) = record { to = c.yes; leads = inr (l, inl (d.0, refl)); same = d.1 }
last_leads lax len c cs e es next place l (inr d) = record { to = c.no; leads = inr (l, inr (d.0, refl)); same = d.1 }

-- and if one before it leads to a place, it is not asked
others_lead : (lax : LaxSlicedPacket) (len : ℕ) (c : Operand) (cs : Operands) (e : Expression) (es : List Expression) (next place : ℕ)
    → (t : ℕ) × Leads lax len cs es (Some t) × (Some place ≡ Some t) → LeadsOn lax len (c ∷ cs) (e ∷ es) next place
others_lead lax len c cs e es next place w = record { to = Some place; leads = inl w; same = refl }

-- operands that lead to a place lead there by what a step makes of them
goes_past : (lax : LaxSlicedPacket) (len : ℕ) (s : Step) (c : Operand) (cs : Operands) (next : ℕ) (es : List Expression) (place : ℕ)
    → Leads lax len (with_operands s (jump_by (c ∷ cs) next) cs) es (Some place) → IfSome (stepped s es) (λ more. LeadsOn lax len (c ∷ cs) more next place)
goes_past lax len (step.Test p) c cs next es place l = others_lead lax len c cs (one p) es next place (place, l, refl)
goes_past lax len step.Not c cs next [] place l = tt
goes_past lax len step.Not c cs next (e ∷ es) place (inl w) = others_lead lax len c cs (negation e) es next place w
goes_past lax len step.Not c cs next (e ∷ es) place (inr (l, inl d)) = last_leads lax len c cs (negation e) es next place l (inr (λ n. n d.0, cc (d.1)))
goes_past lax len step.Not c cs next (e ∷ es) place (inr (l, inr d)) = last_leads lax len c cs (negation e) es next place l (inl (d.0, cc (d.1)))
goes_past lax len (step.Operator o) c cs next [] place l = tt
goes_past lax len (step.Operator o) c cs next (b ∷ []) place l = tt
goes_past lax len (step.Operator And) c cs next (b ∷ a ∷ es) place (inl (t, inl w, same)) = others_lead lax len c cs (compound And a b) es next place (w.0, w.1, cc (same, w.2))
goes_past lax len (step.Operator And) c cs next (b ∷ a ∷ es) place (inl (t, inr (l, inl d), same)) = cc (d.1)
goes_past lax len (step.Operator And) c cs next (b ∷ a ∷ es) place (inl (t, inr (l, inr d), same)) = last_leads lax len c cs (compound And a b) es next place l (inr (λ m. d.0 m.0, cc (same, d.1)))
goes_past lax len (step.Operator And) c cs next (b ∷ a ∷ es) place (inr (inl w, f)) = cc (w.2)
goes_past lax len (step.Operator And) c cs next (b ∷ a ∷ es) place (inr (inr (l, inl d), inl f)) = last_leads lax len c cs (compound And a b) es next place l (inl ((d.0, f.0), cc (f.1)))
goes_past lax len (step.Operator And) c cs next (b ∷ a ∷ es) place (inr (inr (l, inl d), inr f)) = last_leads lax len c cs (compound And a b) es next place l (inr (λ m. f.0 m.1, cc (f.1)))
goes_past lax len (step.Operator And) c cs next (b ∷ a ∷ es) place (inr (inr (l, inr d), f)) = cc (d.1)
goes_past lax len (step.Operator Or) c cs next (b ∷ a ∷ es) place (inl (t, inl w, same)) = others_lead lax len c cs (compound Or a b) es next place (w.0, w.1, cc (same, w.2))
goes_past lax len (step.Operator Or) c cs next (b ∷ a ∷ es) place (inl (t, inr (l, inl d), same)) = last_leads lax len c cs (compound Or a b) es next place l (inl (inl d.0, cc (same, d.1)))
goes_past lax len (step.Operator Or) c cs next (b ∷ a ∷ es) place (inl (t, inr (l, inr d), same)) = cc (d.1)
goes_past lax len (step.Operator Or) c cs next (b ∷ a ∷ es) place (inr (inl w, f)) = cc (w.2)
goes_past lax len (step.Operator Or) c cs next (b ∷ a ∷ es) place (inr (inr (l, inl d), f)) = cc (d.1)
goes_past lax len (step.Operator Or) c cs next (b ∷ a ∷ es) place (inr (inr (l, inr d), inl f)) = last_leads lax len c cs (compound Or a b) es next place l (inl (inr f.0, cc (f.1)))
goes_past lax len (step.Operator Or) c cs next (b ∷ a ∷ es) place (inr (inr (l, inr d), inr f)) = last_leads lax len c cs (compound Or a b) es next place l (inr (λ m. elim m [ inl x ↦ d.0 x | inr x ↦ f.0 x ], cc (f.1)))

-- the same of any operands
goes_past_any : (lax : LaxSlicedPacket) (len : ℕ) (s : Step) (cs : Operands) (next : ℕ) (es more : List Expression) (place : ℕ) → stepped s es ≡ Some more
    → Leads lax len (with_operands s (jump_by cs next) (but_last cs)) es (Some place) → LeadsOn lax len cs more next place
goes_past_any lax len s [] next es more place h l = without lax len more next place (rw h at (goes_past lax len s free [] next es place l))
goes_past_any lax len s (c ∷ cs) next es more place h l = rw h at (goes_past lax len s c cs next es place l)

-- and of the place after a test
leads_after_test : (lax : LaxSlicedPacket) (len : ℕ) (p : Primitive) (cs : Operands) (es : List Expression) (next place : ℕ) → Leads lax len (but_last cs) es None
    → Decides (Holds p lax len) (place ≡ (jump_by cs next).yes) (place ≡ (jump_by cs next).no) → LeadsOn lax len cs (one p ∷ es) next place
leads_after_test lax len p [] es next place l d = without lax len (one p ∷ es) next place (last_leads lax len free [] (one p) es next place l d)
leads_after_test lax len p (c ∷ cs) es next place l d = last_leads lax len c cs (one p) es next place l d

-- what is left of a program computes the expression from operands that lead to it
pub record Goes (lax : LaxSlicedPacket) (len : ℕ) (rest : List Step) (e : Expression) : Type 0 where
  pub operands : List Expression
  pub computes : built rest operands ≡ Some (e ∷ [])
  pub leads : Leads lax len (operands_of rest) operands None

-- the place is where what is left goes on, or there is none since the expression does not match
abbrev pub IsRight : LaxSlicedPacket → ℕ → List Step → Expression → ℕ → Type 0
IsRight lax len rest e place = ((place ≡ 0) × (¬ Matches e lax len))
    ⊎ ((0 < place) × (place ≤ length rest + 1) × Goes lax len (drop (length rest + 1 - place) rest) e)

-- a step further back, too
goes_on : (lax : LaxSlicedPacket) (len : ℕ) (e : Expression) (s : Step) (rest : List Step) (place : ℕ) → IsRight lax len rest e place → IsRight lax len (s ∷ rest) e place
goes_on lax len e s rest place (inl w) = inl w
goes_on lax len e s rest place (inr (some, within, goes)) =
    let one_more : suc (length rest + 1 - place) ≡ length (s ∷ rest) + 1 - place = omega arith in
    inr (some, omega arith, subst (λ k. Goes lax len (drop k (s ∷ rest)) e) one_more goes)

-- after the last step the expression matches if its answer leads to no place
matches_at_end : (lax : LaxSlicedPacket) (len : ℕ) (e : Expression) → Leads lax len (operands_of []) (e ∷ []) None → Matches e lax len
matches_at_end lax len e (inl w) = cc (w.2)
matches_at_end lax len e (inr (l, inl d)) = d.0
matches_at_end lax len e (inr (l, inr d)) = cc (d.1)

fails_at_end : (lax : LaxSlicedPacket) (len : ℕ) (e : Expression) (place : ℕ) → Leads lax len (operands_of []) (e ∷ []) (Some place) → (place ≡ 0) × (¬ Matches e lax len)
fails_at_end lax len e place (inl w) = cc (w.1)
fails_at_end lax len e place (inr (l, inl d)) = cc (d.1)
fails_at_end lax len e place (inr (l, inr d)) = (cc (d.1), d.0)

-- operands lead to the right place
is_right : (lax : LaxSlicedPacket) (len : ℕ) (e : Expression) (rest : List Step) (es : List Expression) (o : Option ℕ) → built rest es ≡ Some (e ∷ [])
    → Leads lax len (operands_of rest) es o → IsRight lax len rest e (unwrap_or o (length rest + 1))
is_right lax len e rest es None h l =
    let all : 0 ≡ length rest + 1 - (length rest + 1) = omega arith in
    inr (omega arith, omega arith, subst (λ k. Goes lax len (drop k rest) e) all (record { operands = es; computes = h; leads = l }))
is_right lax len e [] es (Some place) h l =
    let same : es ≡ e ∷ [] = cc in inl (fails_at_end lax len e place (subst (λ x. Leads lax len (operands_of []) x (Some place)) same l))
is_right lax len e (s ∷ rest) es (Some place) h l =
    let n = then_some (stepped s es) (built rest) (e ∷ []) h in
    let m = goes_past_any lax len s (operands_of rest) (length rest + 1) es n.0 place n.1 l in
    goes_on lax len e s rest place (subst (IsRight lax len rest e) (sym m.same) (is_right lax len e rest n.0 m.to n.2 m.leads))

-- at the start, after a test, and at the end
none_lead : (lax : LaxSlicedPacket) (len : ℕ) (cs : Operands) → Leads lax len cs [] None
none_lead lax len [] = refl
none_lead lax len (c ∷ cs) = refl

pub right_at_start : (lax : LaxSlicedPacket) (len : ℕ) (steps : List Step) (e : Expression) → built steps [] ≡ Some (e ∷ []) → IsRight lax len steps e (length steps + 1)
right_at_start lax len steps e h = is_right lax len e steps [] None h (none_lead lax len (operands_of steps))

right_after_test : (lax : LaxSlicedPacket) (len : ℕ) (e : Expression) (p : Primitive) (after : List Step) (place : ℕ) → Goes lax len (step.Test p ∷ after) e
    → Decides (Holds p lax len) (place ≡ (jump_before after).yes) (place ≡ (jump_before after).no) → IsRight lax len after e place
right_after_test lax len e p after place g d =
    let m = leads_after_test lax len p (operands_of after) g.operands (length after + 1) place g.leads d in
    subst (IsRight lax len after e) (sym m.same) (is_right lax len e after (one p ∷ g.operands) m.to g.computes m.leads)

ends : (lax : LaxSlicedPacket) (len : ℕ) (e : Expression) → Goes lax len [] e → Matches e lax len
ends lax len e g =
    let same : g.operands ≡ e ∷ [] = cc (g.computes) in
    matches_at_end lax len e (subst (λ x. Leads lax len (operands_of []) x None) same g.leads)

-- only a test is gone on at
not_led : (lax : LaxSlicedPacket) (len : ℕ) (a b : ℕ) (cs : Operands) (e : Expression) (es : List Expression) → Leads lax len (record { yes = Some a; no = Some b } ∷ cs) (e ∷ es) None → ⊥
not_led lax len a b cs e es (inl w) = cc (w.2)
not_led lax len a b cs e es (inr (l, inl d)) = cc (d.1)
not_led lax len a b cs e es (inr (l, inr d)) = cc (d.1)

is_test : (lax : LaxSlicedPacket) (len : ℕ) (s : Step) (j : Jump) (cs : Operands) (es more : List Expression) → stepped s es ≡ Some more → Leads lax len (with_operands s j cs) es None
    → (p : Primitive) × (s ≡ step.Test p)
is_test lax len (step.Test p) j cs es more h l = (p, refl)
is_test lax len step.Not j cs [] more h l = cc
is_test lax len step.Not j cs (e ∷ es) more h l = absurd (not_led lax len j.no j.yes cs e es l)
is_test lax len (step.Operator o) j cs [] more h l = cc
is_test lax len (step.Operator o) j cs (b ∷ []) more h l = cc
is_test lax len (step.Operator And) j cs (b ∷ a ∷ es) more h l = absurd (not_led lax len j.yes j.no (record { yes = None; no = Some j.no } ∷ cs) b (a ∷ es) l)
is_test lax len (step.Operator Or) j cs (b ∷ a ∷ es) more h l = absurd (not_led lax len j.yes j.no (record { yes = Some j.yes; no = None } ∷ cs) b (a ∷ es) l)

goes_at_test : (lax : LaxSlicedPacket) (len : ℕ) (e : Expression) (s : Step) (after : List Step) → Goes lax len (s ∷ after) e → (p : Primitive) × (s ≡ step.Test p)
goes_at_test lax len e s after g =
    let n = then_some (stepped s g.operands) (built after) (e ∷ []) g.computes in
    is_test lax len s (jump_before after) (but_last (operands_of after)) g.operands n.0 n.1 g.leads

-- the decision of a step is found by how many steps come after it
pub length_decisions : (steps : List Step) → length (decisions_of steps) ≡ length steps
length_decisions [] = refl
length_decisions (s ∷ steps) = omega (arith, length-append (decisions_of steps) (record { quick = quick_of_step s; jump = jump_before steps } ∷ []), length_decisions steps)

decision_at : (front after : List Step) (s : Step) (d : Decision) → get_or (decisions_of (front ++ s ∷ after)) (length after) d ≡ record { quick = quick_of_step s; jump = jump_before after }
decision_at [] after s d = get_or_at (decisions_of after) (record { quick = quick_of_step s; jump = jump_before after }) [] d (length after) (length_decisions after)
decision_at (x ∷ front) after s d =
    let rest = front ++ s ∷ after in
    let within : length after < length (decisions_of rest) = omega (arith, length_decisions rest, length-append front (s ∷ after)) in
    get_or_append_left (decisions_of rest) (record { quick = quick_of_step x; jump = jump_before rest } ∷ []) d (length after) within ∙ decision_at front after s d

decides : (holds : Bool) (P : Type 0) (place a b : ℕ) → IsTrue holds ↔ P → place ≡ (if holds then a else b) → Decides P (place ≡ a) (place ≡ b)
decides true P place a b i h = inl (i.0 refl, h)
decides false P place a b i h = inr (λ p. cc (i.1 p), h)

goes_on_all : (lax : LaxSlicedPacket) (len : ℕ) (e : Expression) (front rest : List Step) (place : ℕ) → IsRight lax len rest e place → IsRight lax len (front ++ rest) e place
goes_on_all lax len e [] rest place r = r
goes_on_all lax len e (s ∷ front) rest place r = goes_on lax len e s (front ++ rest) place (goes_on_all lax len e front rest place r)

-- the step at a right place is a test, and its jump leads to a right place further on
pub record HasStep (lax : LaxSlicedPacket) (len : ℕ) (steps : List Step) (e : Expression) (place : ℕ) (s : Step) : Type 0 where
  pub front : List Step
  pub after : List Step
  pub parts : steps ≡ front ++ s ∷ after
  pub left : length after + 2 ≡ place
  pub goes : Goes lax len (s ∷ after) e

pub step_at : (lax : LaxSlicedPacket) (len : ℕ) (steps : List Step) (e : Expression) (place : ℕ) (s d : Step) → IsRight lax len steps e place → 1 < place
    → get_or steps (length steps + 1 - place) d ≡ s → HasStep lax len steps e place s
step_at lax len steps e place s d (inl w) many is = absurd (omega arith)
step_at lax len steps e place s d (inr (some, few, goes)) many is =
    let k = length steps + 1 - place in
    let here : drop k steps ≡ s ∷ drop (suc k) steps = drop-cons steps k d (omega arith) ∙ ap (λ x. x ∷ drop (suc k) steps) is in
    record {
      front = take k steps;
      after = drop (suc k) steps;
      parts = sym (take-append-drop k steps) ∙ ap (λ r. take k steps ++ r) here;
      left = omega (arith, length-drop (suc k) steps);
      goes = subst (λ r. Goes lax len r e) here goes;
    }

pub next_place : (lax : LaxSlicedPacket) (len : ℕ) (steps : List Step) (e : Expression) (place next : ℕ) (s : Step) (decisions : List Decision) (d : Decision) (holds : Bool)
    → HasStep lax len steps e place s → decisions ≡ decisions_of steps → IsTrue holds ↔ Asks (get_or decisions (place - 2) d).quick s lax len
    → next ≡ (if holds then (get_or decisions (place - 2) d).jump.yes else (get_or decisions (place - 2) d).jump.no) → IsRight lax len steps e next × (next < place)
next_place lax len steps e place next s decisions d holds h j holds_iff value =
    let t = goes_at_test lax len e s h.after h.goes in
    let last : place - 2 ≡ length h.after = omega (arith, h.left) in
    let found : get_or decisions (place - 2) d ≡ record { quick = quick_of_step s; jump = jump_before h.after } = rw (last, j, h.parts) (decision_at h.front h.after s d) in
    let asked : IsTrue holds ↔ Asks (quick_of_step s) s lax len = rw found at holds_iff in
    let asked_test : IsTrue holds ↔ Asks (quick_of t.0) (step.Test t.0) lax len = rw t.1 at asked in
    let same = asks_what_holds t.0 lax len in
    let holds_test : IsTrue holds ↔ Holds t.0 lax len = (λ b. same.0 (asked_test.0 b), λ p. asked_test.1 (same.1 p)) in
    let goes = subst (λ x. Goes lax len (x ∷ h.after) e) t.1 h.goes in
    let right = right_after_test lax len e t.0 h.after next goes (decides holds (Holds t.0 lax len) next (jump_before h.after).yes (jump_before h.after).no holds_test (rw found at value)) in (
      subst (λ x. IsRight lax len x e next) (sym h.parts) (goes_on_all lax len e h.front (s ∷ h.after) next (goes_on lax len e s h.after next right)),
      elim right [ inl w ↦ omega (arith, h.left) | inr w ↦ omega (arith, h.left) ],
    )

pub within : (lax : LaxSlicedPacket) (len : ℕ) (e : Expression) (steps : List Step) (place : ℕ) → IsRight lax len steps e place → place ≤ length steps + 1
within lax len e steps place (inl w) = omega arith
within lax len e steps place (inr w) = w.1

-- at the last place the expression matches
pub right_at_end : (lax : LaxSlicedPacket) (len : ℕ) (steps : List Step) (e : Expression) (place : ℕ) → IsRight lax len steps e place → place ≤ 1 → IsTrue (place == 1) ↔ Matches e lax len
right_at_end lax len steps e place (inl w) few = (λ t. absurd (omega (arith, (Decides-eqb place 1).0 t)), λ m. absurd (w.1 m))
right_at_end lax len steps e place (inr (some, within, goes)) few =
    let all : drop (length steps + 1 - place) steps ≡ [] = drop_all (length steps + 1 - place) steps (omega arith) in
    (λ t. ends lax len e (subst (λ r. Goes lax len r e) all goes), λ m. (Decides-eqb place 1).1 (omega arith))
