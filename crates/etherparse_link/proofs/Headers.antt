-- Headers of one length: how a slice is viewed and read.
use Rattle.std.proofs.Common.{ℕ, ◌≡◌, ◌-◌, ◌≤◌, List, Ok, length, take, drop, arith, subst}
use Rattle.std.proofs.Common.{sym, take-append-drop, length-take-le}
use Rattle.etherparse.proofs.Fronts.{TellsHeaders, begins_at}
use Rattle.etherparse.proofs.Parts.{part_is_bytes}
use Rattle.etherparse.specs.Bytes.{IsBytes}
use Rattle.etherparse.specs.Reading.{HasFront, Reads, Views}
use Rattle.etherparse.specs.declared.err.LenError.{LenError}

module _ {H : Type 0} (Layout : H → List ℕ → Type 0) (Refuses : List ℕ → LenError → Type 0)
    (t : TellsHeaders Layout Refuses) (n : ℕ) (s : List ℕ) where
  -- a front of enough bytes is seen
  pub front_viewed : ((p : List ℕ) → length p ≡ n → IsBytes p → (h : H) × Layout h p)
      → n ≤ length s → IsBytes s → Views Layout Refuses s (Ok (take n s))
  front_viewed header_at enough bytes =
      let none_before : n - 0 ≡ n = omega arith in
      let front_bytes = subst (λ k. IsBytes (take k s)) none_before (part_is_bytes s 0 n bytes) in
      let h = header_at (take n s) (length-take-le n s enough) front_bytes in
      record { header = h.0; rest = drop n s; whole = sym (take-append-drop n s); layout = h.1 }

  -- what is seen in front is read
  pub front_read : (front : List ℕ) (h : H) → HasFront Layout s front → Layout h front
      → length front ≡ n → Reads Layout Refuses s (Ok (h, take (length s - n) (drop n s)))
  front_read front h v layout len = begins_at Layout n s front v.rest h v.whole layout len
