use Rattle.std.proofs.Common.{ℕ, ◌≡◌, ◌+◌, ◌-◌, ◌*◌, ◌/◌, ◌≤◌, List, ◌++◌, length, take, drop}
use Rattle.std.proofs.Common.{replicate, ap, refl, ◌∙◌, arith, length-append}
use Rattle.std.proofs.Math.Seq.{take-append-add}
use Rattle.std.proofs.lemmas.List.{drop-replicate, length-replicate, take-replicate}
use Rattle.etherparse_transport.specs.TcpPadding.{IsPadded}
use Rattle.etherparse_transport.proofs.tcp_options.TcpOptions.try_from_slice.Goals as goal

-- bytes in front of a room of zeros
filled : (bytes padded : List ℕ) (padding : ℕ) → padding ≤ 40 - length bytes
    → padded ≡ take (length bytes + padding) (bytes ++ drop (length bytes) (replicate 40 0))
    → padded ≡ bytes ++ replicate padding 0
filled bytes padded padding less taken =
    taken ∙ take-append-add bytes (drop (length bytes) (replicate 40 0)) padding
    ∙ ap (λ zeros. bytes ++ zeros) (ap (take padding) (drop-replicate {X = ℕ} (length bytes) 40 0)
    ∙ take-replicate {X = ℕ} padding (40 - length bytes) 0 less)

-- as far as the next whole word
is_padded : (bytes padded room : List ℕ) (n : ℕ) → length bytes ≤ 40
    → n ≡ (length bytes + 3) / 4 * 4
    → room ≡ bytes ++ drop (length bytes) (replicate 40 0) → padded ≡ take n room
    → IsPadded bytes padded
is_padded bytes padded room n fits words zeros taken =
    let padding = n - length bytes in
    let sum : n ≡ length bytes + padding = omega (arith, words) in
    let whole = filled bytes padded padding (omega (arith, words)) (rw (sum, zeros) at taken) in
    record {
      padding = padding;
      less = omega (arith, words);
      whole = whole;
      in_words = omega (
        arith,
        words,
        ap length whole,
        length-append bytes (replicate padding 0),
        length-replicate {A = ℕ} padding 0,
      );
    }

pub returns-clause-padded : goal.returns-clause-padded
returns-clause-padded c =
    is_padded c.args.slice.now c.from_front.result _ _ c.if-len-gt-MAX_LEN.false refl
    (ap (λ front. front ++ drop (length c.args.slice.now) (replicate 40 0))
    c.copy_from_slice.ensures.after) c.from_front.ensures.value
