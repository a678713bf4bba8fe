use Rattle.std.proofs.Common.{◌≡◌, Bool, Option, arith, rules, subst, sym, tests}
use Rattle.std.proofs.lemmas.Bool.Decides.{nat_tests}
use Rattle.std.specs.Prelude.{◌&&◌, ◌==◌, ◌↔◌, IsTrue}
use Rattle.std.specs.Option.{option_eq}
use Rattle.packet_capture.specs.contracts.pcapng.blocks.BlockHeadPartialEq.TheImpl as head_derived
use Rattle.packet_capture.specs.contracts.skip.ContentPartialEq.TheImpl as content_derived
use Rattle.packet_capture.specs.declared.pcapng.blocks.BlockHead.{BlockHead}
use Rattle.packet_capture.specs.declared.skip.BlockFront.{BlockFront}
use Rattle.packet_capture.specs.declared.skip.Content.{Content}
use Rattle.packet_capture.proofs.laws.block_front_equality.Goals as goal

same_content : (a b : Content) → IsTrue ((content_derived.ghosts).eq a b) ↔ (a ≡ b)
same_content a b = search (tests, rules)

same_head : (a b : Option BlockHead) → IsTrue (option_eq (head_derived.ghosts).eq a b) ↔ (a ≡ b)
same_head a b = search (tests, rules)

same_parts : (t u : Bool) (a b : BlockFront) → (IsTrue t ↔ (a.content ≡ b.content)) → (IsTrue u ↔ (a.head ≡ b.head)) → IsTrue (t && ((a.len == b.len) && u)) ↔ (a ≡ b)
same_parts t u a b h k = grind (arith, nat_tests)

pub returns : goal.returns
returns c =
    let a : BlockFront = c.args.a.now in let b : BlockFront = c.args.b.now in
    record { same_value = subst (λ (r : Bool). IsTrue r ↔ (a ≡ b)) (sym c.eq.ensures) (same_parts _ _ a b (same_content a.content b.content) (same_head a.head b.head)) }
