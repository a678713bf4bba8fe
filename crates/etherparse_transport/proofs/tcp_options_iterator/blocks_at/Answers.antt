use Rattle.std.proofs.Common.{List, ◌≡◌, ◌+◌, ◌*◌, ◌++◌, [], ◌∷◌, length, drop, ap, arith, refl}
use Rattle.std.proofs.Common.{◌∙◌, ℕ}
use Rattle.std.specs.List.{flat_map}
use Rattle.etherparse.proofs.Layouts.{told, u8}
use Rattle.etherparse_transport.specs.TcpOptions.{blocks_of, edges}
use Rattle.etherparse_transport.proofs.tcp_options_iterator.blocks_at.Goals as goal

pub returns : goal.returns
returns c =
    let s = c.args.s.now in
    let n = c.args.len in
    let first = c.block_at-first in
    let others = c.other_blocks-others in
    let rest = flat_map edges (blocks_of others.result) ++ drop n s in
    let len : n ≡ 2 + 8 * length (first.result ∷ blocks_of others.result) =
    omega (arith, others.ensures.count) in
    let front = told s 0 (u8 5 ∷ u8 n ∷ []) (drop 2 s) (λ i. omega (arith, c.type_inv.s i))
    (omega (arith, len, c.requires.enough)) (c.requires.kind, (c.requires.right, refl)) in
    record {
      read = record {
        whole = front ∙ ap (λ (after : List ℕ). 5 ∷ n ∷ after)
            (first.ensures.told ∙ ap (λ after. edges first.result ++ after) others.ensures.told)
            ∙ ap (λ k. 5 ∷ k ∷ (edges first.result ++ rest)) len;
        is_option = (first.ensures.is_block, others.ensures.blocks);
      };
    }
