-- The GRE layout: a slice is read in one way.
use Rattle.std.proofs.Common.{ℕ, ◌≡◌, ◌<◌, ◌∙◌, sym, List, ap, length, length-append, slice_index, arith, rules}
use Rattle.std.proofs.Math.ListN.{get_or-append}
use Rattle.etherparse.proofs.Fronts.{TellsHeaders}
use Rattle.etherparse.specs.Reading.{BeginsWith}
use Rattle.uses.specs.Gre.{IsGreLayout, RefusesAs, RefusesGre, gre_len_of}
use Rattle.uses.specs.declared.gre.GreCause.{GreCause}
use Rattle.uses.specs.declared.gre.GreCause.TheVariants as cause
use Rattle.uses.specs.declared.gre.GreHeader.{GreHeader}

module _ (s : List ℕ) (h : GreHeader) (x : List ℕ) (b : BeginsWith IsGreLayout s h x) where
  -- the bytes with the flags and the version are those of the header
  same_byte : (i : ℕ) → i < 4 → slice_index s i ≡ slice_index b.front i
  same_byte i first = rw b.whole (get_or-append b.front x 0 i (omega (arith, b.layout.len)))

  -- so are the length and what is tested
  pub same_len : gre_len_of s ≡ gre_len_of b.front
  same_len = let e = same_byte 0 (omega arith) in cc

  pub not_refused : (why : GreCause) → RefusesAs s why → ⊥
  not_refused (cause.TooShort n len) r = grind (arith, ap length b.whole, length-append b.front x, same_len, b.layout.len, r)
  not_refused (cause.Unsupported word) r = b.layout.supported (rw (same_byte 0 (omega arith), same_byte 1 (omega arith)) at r.1)

one_cause : (s : List ℕ) (a b : GreCause) → RefusesAs s a → RefusesAs s b → a ≡ b
one_cause s a b p q = grind arith

pub tells_headers : TellsHeaders IsGreLayout RefusesGre
tells_headers = record {
  one_header = λ g h p k l. search rules;
  one_length = λ s g h x y p q. p.layout.len ∙ sym (same_len s g x p) ∙ same_len s h y q ∙ sym q.layout.len;
  not_refused = λ s h x e b r. not_refused s h x b e.cause r.why;
  one_refusal = λ s e f p q. grind (arith, one_cause s e.cause f.cause p.why q.why);
}
