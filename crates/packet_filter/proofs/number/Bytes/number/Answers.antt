use Prim.Native.Nat.{suc}
use Rattle.std.proofs.Common.{◌≡◌, ◌+◌, ◌-◌, ◌<◌, ◌≤◌, ◌∙◌, List, [], ◌∷◌, None, Some, ap, arith, drop, drop-cons, length, slice_get, slice_range, sym, take, ℕ}
use Rattle.std.proofs.lemmas.Option.{get_or_from_slice_get, slice_get-get_or, slice_get_within}
use Rattle.std.specs.Prelude.{◌↔◌}
use Rattle.packet_filter.specs.Meaning.{IsNumberAt, number_of, size_len}
use Rattle.packet_filter.specs.declared.expression.Size.{Size}
use Rattle.packet_filter.specs.declared.expression.Size.TheVariants.{Four, One, Two}
use Rattle.packet_filter.proofs.number.Bytes.number.Goals as goal

-- a byte at a place, and those after it
byte_and_rest : (s : List ℕ) (i a : ℕ) → slice_get s i ≡ Some a → drop i s ≡ a ∷ drop (i + 1) s
byte_and_rest s i a at =
    let next : suc i ≡ i + 1 = omega arith in
    drop-cons s i 0 (slice_get_within s i a at) ∙ (ap (λ x. x ∷ drop (suc i) s) (get_or_from_slice_get s i a 0 at) ∙ ap (λ j. a ∷ drop j s) next)

taken : (s t : List ℕ) (i n : ℕ) → drop i s ≡ t → slice_range s i (i + n) ≡ take n t
taken s t i n is = let len : (i + n) - i ≡ n = omega arith in ap (λ k. take k (drop i s)) len ∙ ap (take n) is

one : (s : List ℕ) (i a : ℕ) → slice_get s i ≡ Some a → slice_range s i (i + 1) ≡ a ∷ []
one s i a at = taken s _ i 1 (byte_and_rest s i a at)

two : (s : List ℕ) (i a b : ℕ) → slice_get s i ≡ Some a → slice_get s (i + 1) ≡ Some b → slice_range s i (i + 2) ≡ a ∷ b ∷ []
two s i a b at next =
    let at_next : (i + 1) + 1 ≡ i + 2 = omega arith in
    taken s _ i 2 (byte_and_rest s i a at ∙ ap (λ l. a ∷ l) (byte_and_rest s (i + 1) b next))

four : (s : List ℕ) (i a b c d : ℕ) → slice_get s i ≡ Some a → slice_get s (i + 1) ≡ Some b → slice_get s (i + 2) ≡ Some c → slice_get s (i + 3) ≡ Some d
    → slice_range s i (i + 4) ≡ a ∷ b ∷ c ∷ d ∷ []
four s i a b c d p q r t =
    let second : (i + 1) + 1 ≡ i + 2 = omega arith in
    let third : (i + 2) + 1 ≡ i + 3 = omega arith in
    taken s _ i 4 (byte_and_rest s i a p ∙ (ap (λ l. a ∷ l) (byte_and_rest s (i + 1) b q ∙ ap (λ j. b ∷ drop j s) second)
    ∙ ap (λ l. a ∷ b ∷ l) (byte_and_rest s (i + 2) c r ∙ ap (λ j. c ∷ drop j s) third) ∙ ap (λ l. a ∷ b ∷ c ∷ l) (byte_and_rest s (i + 3) d t)))

-- all the bytes are there, and this is their number
is_there : (size : Size) (place : ℕ) (s bytes : List ℕ) (found : ℕ) → place + size_len size ≤ length s → slice_range s place (place + size_len size) ≡ bytes → found ≡ number_of size bytes
    → (number : ℕ) → IsNumberAt size place s number ↔ (Some found ≡ Some number)
is_there size place s bytes found within are is number =
    let same : found ≡ number_of size (slice_range s place (place + size_len size)) = is ∙ ap (number_of size) (sym are) in
    (λ h. ap Some (same ∙ sym h.1), λ e. let found_is : found ≡ number = cc in (within, sym found_is ∙ same))

-- one of the bytes is not there
is_not_there : (size : Size) (place i : ℕ) (s : List ℕ) → i < place + size_len size → slice_get s i ≡ None → (number : ℕ) → IsNumberAt size place s number ↔ (None ≡ Some number)
is_not_there size place i s within none number = (
  λ h. let there = slice_get-get_or s i 0 (omega (arith, h.0)) in cc (there, none),
  λ e. cc,
)

pub returns-in-Some : goal.returns-in-Some
returns-in-Some c =
    let at : slice_get c.args.self.now c.args.place ≡ Some c.in-Some.a = sym c.byte-first.ensures.value ∙ c.in-Some.is in
    let within : c.args.place + 1 ≤ length c.args.self.now = omega (arith, slice_get_within c.args.self.now c.args.place c.in-Some.a at) in
    rw c.in-One.is (record { value = is_there One c.args.place c.args.self.now _ _ within (one c.args.self.now c.args.place c.in-Some.a at) c.from.ensures })

pub returns-in-None : goal.returns-in-None
returns-in-None c = rw c.in-One.is (record { value = is_not_there One c.args.place c.args.place c.args.self.now (omega arith) (sym c.byte-first.ensures.value ∙ c.in-None.is) })

pub returns-in-Some-Some : goal.returns-in-Some-Some
returns-in-Some-Some c =
    let place = c.args.place in
    let s = c.args.self.now in
    let second : slice_get s (place + 1) ≡ Some c.in-Some-Some.b = sym c.byte.ensures.value ∙ c.in-Some-Some.is-1 in
    let within : place + 2 ≤ length s = omega (arith, slice_get_within s (place + 1) c.in-Some-Some.b second) in
    rw c.in-Two.is (record { value = is_there Two place s _ _ within (two s place c.in-Some-Some.a c.in-Some-Some.b (sym c.byte-first.ensures.value ∙ c.in-Some-Some.is-0) second) (c.from-in-Some-Some.ensures ∙ c.from_be_bytes.ensures) })

pub returns-in-Some-Some-Some-Some : goal.returns-in-Some-Some-Some-Some
returns-in-Some-Some-Some-Some c =
    let place = c.args.place in
    let s = c.args.self.now in
    let are = c.in-Some-Some-Some-Some in
    let last : slice_get s (place + 3) ≡ Some are.d = sym c.byte-in-Four-3.ensures.value ∙ are.is-3 in
    let within : place + 4 ≤ length s = omega (arith, slice_get_within s (place + 3) are.d last) in
    let bytes = four s place are.a are.b are.c are.d (sym c.byte-first.ensures.value ∙ are.is-0) (sym c.byte-in-Four.ensures.value ∙ are.is-1) (sym c.byte-in-Four-2.ensures.value ∙ are.is-2) last in
    rw c.in-Four.is (record { value = is_there Four place s _ _ within bytes c.from_be_bytes-in-Some-Some-Some-Some.ensures })

pub returns-in_default : goal.returns-in_default
returns-in_default c = rw c.in-Two.is (record { value = is_not_there Two c.args.place (c.args.place + 1) c.args.self.now (omega arith) (sym c.byte.ensures.value ∙ c.in_default.is-1) })

pub returns-in_default-2 : goal.returns-in_default-2
returns-in_default-2 c = rw c.in-Four.is (record { value = is_not_there Four c.args.place (c.args.place + 3) c.args.self.now (omega arith) (sym c.byte-in-Four-3.ensures.value ∙ c.in_default-2.is-3) })

pub returns-in_default-3 : goal.returns-in_default-3
returns-in_default-3 c = rw c.in-Two.is (record { value = is_not_there Two c.args.place c.args.place c.args.self.now (omega arith) (sym c.byte-first.ensures.value ∙ c.in_default.is-0) })

pub returns-in_default-2-2 : goal.returns-in_default-2-2
returns-in_default-2-2 c = rw c.in-Four.is (record { value = is_not_there Four c.args.place (c.args.place + 2) c.args.self.now (omega arith) (sym c.byte-in-Four-2.ensures.value ∙ c.in_default-2.is-2) })

pub returns-in_default-2-3 : goal.returns-in_default-2-3
returns-in_default-2-3 c = rw c.in-Four.is (record { value = is_not_there Four c.args.place (c.args.place + 1) c.args.self.now (omega arith) (sym c.byte-in-Four.ensures.value ∙ c.in_default-2.is-1) })

pub returns-in_default-2-4 : goal.returns-in_default-2-4
returns-in_default-2-4 c = rw c.in-Four.is (record { value = is_not_there Four c.args.place c.args.place c.args.self.now (omega arith) (sym c.byte-first.ensures.value ∙ c.in_default-2.is-0) })
