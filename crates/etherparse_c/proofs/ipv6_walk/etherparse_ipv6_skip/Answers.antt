use Rattle.std.proofs.Common.{ℕ, ◌≡◌, ◌<◌, ◌≤◌, ◌∙◌, ap, if◌then◌else◌, inl, inr, le-leb, length, nat_le}
use Rattle.std.proofs.lemmas.Bool.{cases_lt, lt-leb}
use Rattle.etherparse.specs.ExtensionHeaderChain.{required_len_of}
use Rattle.c_answers.specs.Answer.{answer_in_c}
use Rattle.c_answers.specs.Error.{len_error_in_c}
use Rattle.etherparse_c.specs.declared.ipv6_walk.Ipv6WalkAnswer.{Ipv6WalkAnswer}
use Rattle.etherparse_c.proofs.ipv6_walk.etherparse_ipv6_skip.Goals as goal

-- a if m is at most n, and otherwise b
one_of : {A : Type 0} {x a b : A} (m n : ℕ) → (m ≤ n → x ≡ a) → (n < m → x ≡ b) → x ≡ (if nat_le m n then a else b)
one_of m n is_a is_b = elim (cases_lt n m) [
  | inl above ↦ rw (lt-leb m n above) (is_b above)
  | inr within ↦ rw (le-leb m n within) (is_a within)
]

pub returns-in-Err : goal.returns-in-Err
returns-in-Err c =
    let s = c.args.slice.now in
    let in_c = answer_in_c (λ (number : ℕ). number) 0 len_error_in_c s in
    let given = ap (λ (a : Ipv6WalkAnswer). (a.next_header, a.error, a.rest)) c.refused.ensures.value
    ∙ λ i. (0, c.of_len.ensures.value i, record { offset = 0; len = 0 }) in
    let skip = c.in-Err.ensures in record {
      kept = λ not. given ∙ ap in_c (skip.kept not);
      skips = λ is. given ∙ ap in_c (one_of (required_len_of c.args.next_header s) (length s) (skip.skipped is) (skip.refused is));
    }
