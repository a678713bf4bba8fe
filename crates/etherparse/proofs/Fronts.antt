-- A slice that begins with a header, in any layout: that it does so once, and where it is cut.
use Rattle.std.proofs.Common.{ℕ, ◌≡◌, ◌+◌, ◌-◌, ◌≤◌, List, ◌++◌, length, take, drop, sym, ap, ◌∙◌, arith, length-append, Ok, Err, Result, take-append-drop, take_at}
use Rattle.std.proofs.Math.Seq.{take-append-add}
use Rattle.std.proofs.lemmas.List.{append_cancel_left, take_rest}
use Rattle.etherparse_base.specs.declared.err.layer.Layer.{Layer}
use Rattle.etherparse.proofs.Parts.{same_front}
use Rattle.etherparse.specs.Reading.{BeginsWith, HasFront, IsTooShort, Reads, Views}

-- What makes a slice be read in one way: bytes have one header, headers at one front have one length, a slice with a header is
-- not refused, and a refused one has one reason.
pub record TellsHeaders {H E : Type 0} (Layout : H → List ℕ → Type 0) (Refuses : List ℕ → E → Type 0) : Type 0 where
  pub one_header : (g h : H) (p : List ℕ) → Layout g p → Layout h p → g ≡ h
  pub one_length : (s : List ℕ) (g h : H) (x y : List ℕ) (p : BeginsWith Layout s g x) (q : BeginsWith Layout s h y) → length p.front ≡ length q.front
  pub not_refused : (s : List ℕ) (h : H) (x : List ℕ) (e : E) → BeginsWith Layout s h x → Refuses s e → ⊥
  pub one_refusal : (s : List ℕ) (e f : E) → Refuses s e → Refuses s f → e ≡ f

-- it does so where each header has one length
pub fixed_tells : {H : Type 0} (Layout : H → List ℕ → Type 0) (layer : Layer) (n : ℕ) → ((g h : H) (p : List ℕ) → Layout g p → Layout h p → g ≡ h)
    → ((h : H) (p : List ℕ) → Layout h p → length p ≡ n) → TellsHeaders Layout (IsTooShort layer n)
fixed_tells Layout layer n one_header len = record {
  one_header = one_header;
  one_length = λ s g h x y p q. len g p.front p.layout ∙ sym (len h q.front q.layout);
  not_refused = λ s h x e b short. omega (arith, short.short, ap length b.whole, length-append b.front x, len h b.front b.layout);
  one_refusal = λ s e f p q. p.error ∙ sym q.error;
}

module _ {H E : Type 0} (Layout : H → List ℕ → Type 0) (Refuses : List ℕ → E → Type 0) (t : TellsHeaders Layout Refuses) (s : List ℕ) where
  -- two headers at the front of a slice have one front
  one_front : (g h : H) (x y : List ℕ) (p : BeginsWith Layout s g x) (q : BeginsWith Layout s h y) → p.front ≡ q.front
  one_front g h x y p q = same_front p.front q.front x y (t.one_length s g h x y p q) (sym p.whole ∙ q.whole)

  -- a slice is read in one way
  pub read_once : (a b : Result (H × List ℕ) E) → Reads Layout Refuses s a → Reads Layout Refuses s b → a ≡ b
  read_once (Ok (g, x)) (Ok (h, y)) p q =
      let front = one_front g h x y p q in
      let header = t.one_header g h q.front (rw front at p.layout) q.layout in
      let rest = append_cancel_left q.front x y (rw front at (sym p.whole ∙ q.whole)) in
      cc
  read_once (Ok x) (Err f) p q = absurd (t.not_refused s x.0 x.1 f p q)
  read_once (Err e) (Ok y) p q = absurd (t.not_refused s y.0 y.1 e q p)
  read_once (Err e) (Err f) p q = ap Err (t.one_refusal s e f p q)

  abbrev begins : (front : List ℕ) (v : HasFront Layout s front) → BeginsWith Layout s v.header v.rest
  begins front v = record { front = front; whole = v.whole; layout = v.layout }

  -- and viewed in one way
  pub viewed_once : (a b : Result (List ℕ) E) → Views Layout Refuses s a → Views Layout Refuses s b → a ≡ b
  viewed_once (Ok x) (Ok y) p q = ap Ok (one_front p.header q.header p.rest q.rest (begins x p) (begins y q))
  viewed_once (Ok x) (Err f) p q = absurd (t.not_refused s p.header p.rest f (begins x p) q)
  viewed_once (Err e) (Ok y) p q = absurd (t.not_refused s q.header q.rest e (begins y q) p)
  viewed_once (Err e) (Err f) p q = ap Err (t.one_refusal s e f p q)

  -- the front that is seen is in the layout of each header at the front
  pub shown : (front rest : List ℕ) (h : H) → HasFront Layout s front → BeginsWith Layout s h rest → Layout h front
  shown front rest h v b = rw (one_front h v.header rest v.rest b (begins front v)) at b.layout

-- what the first bytes are in the layout of is at the front, and the bytes after it by their place
pub begins_with_front : {H : Type 0} (Layout : H → List ℕ → Type 0) (n : ℕ) (header : H) (s : List ℕ) → Layout header (take n s)
    → BeginsWith Layout s header (take (length s - n) (drop n s))
begins_with_front Layout n header s layout =
    record { front = take n s; whole = sym (take-append-drop n s) ∙ ap (λ x. take n s ++ x) (sym (take_rest s n)); layout = layout }

-- so is a header that is known to be there
pub begins_at : {H : Type 0} (Layout : H → List ℕ → Type 0) (n : ℕ) (s p t : List ℕ) (h : H) → s ≡ p ++ t → Layout h p → length p ≡ n
    → BeginsWith Layout s h (take (length s - n) (drop n s))
begins_at Layout n s p t h e l len = begins_with_front Layout n h s (rw (e, take_at p t n len) l)

-- a packet that is cut some bytes after a header begins with that header still
pub cut_after : {H : Type 0} (Layout : H → List ℕ → Type 0) (k : ℕ) (s : List ℕ) (header : H) (rest : List ℕ) (b : BeginsWith Layout s header rest)
    → length b.front ≡ k → (n len : ℕ) → k + n ≡ len → len ≤ length s → BeginsWith Layout (take len s) header (take n rest)
cut_after Layout k s header rest b front n len sum within =
    let told : len ≡ length b.front + n = omega (arith, front, sum) in
    record { front = b.front; whole = ap (take len) b.whole ∙ rw told (take-append-add b.front rest n); layout = b.layout }
