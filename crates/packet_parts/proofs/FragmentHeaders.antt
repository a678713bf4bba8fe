-- A fragment header that is skipped as any other extension header.
use Rattle.std.proofs.Common.{ℕ, ◌≡◌, ◌≤◌, ◌∙◌, List, Ok, Result, ap, arith, drop, length, length-append, slice_index, sym}
use Rattle.std.proofs.Math.ListN.{get_or-append}
use Rattle.std.proofs.Math.Seq.{drop-append_seam}
use Rattle.std.proofs.lemmas.Grind.{common_steps}
use Rattle.std.proofs.lemmas.Result.{IfOk-at_ok}
use Rattle.etherparse.specs.ExtensionHeaderChain.{required_len_of}
use Rattle.etherparse.specs.Reading.{BeginsWith}
use Rattle.etherparse_net.specs.Ipv6FragmentHeader.{IsFragmentLayout}
use Rattle.etherparse_net.specs.declared.ipv6_fragment_header.Ipv6FragmentHeader.{Ipv6FragmentHeader}

-- it has 8 bytes
required_len_of-44 : (s : List ℕ) → 8 ≤ length s → required_len_of 44 s ≡ 8
required_len_of-44 s enough = grind (arith, common_steps)

-- what a skip finds is the number that the header names, and what follows it
pub as_skipped : {E : Type 0} (s rest after : List ℕ) (header : Ipv6FragmentHeader) (number next : ℕ) → number ≡ 44 → BeginsWith IsFragmentLayout s header rest
    → ◌≡◌ {A = Result (ℕ × List ℕ) E} (Ok (next, after)) (Ok (slice_index s 0, drop (required_len_of number s) s))
    → (next ≡ header.next_header) × (after ≡ rest)
as_skipped s rest after header number next is_fragment b skipped =
    let enough : 8 ≤ length s = omega (arith, ap length b.whole, length-append {A = ℕ}, b.layout.len) in
    let named : slice_index s 0 ≡ header.next_header = rw b.whole (get_or-append b.front rest 0 0 (omega (arith, b.layout.len))) ∙ b.layout.next_header in
    let after_it : drop (required_len_of number s) s ≡ rest = rw (is_fragment, required_len_of-44 s enough, b.whole, sym b.layout.len) (drop-append_seam b.front rest) in
    IfOk-at_ok (λ x. (x.0 ≡ header.next_header) × (x.1 ≡ rest)) (sym skipped) (named, after_it)
