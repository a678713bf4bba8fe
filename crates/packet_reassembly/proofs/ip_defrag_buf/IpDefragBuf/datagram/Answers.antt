use Rattle.std.proofs.Common.{arith, inl, inr}
use Rattle.packet_reassembly.proofs.TableLaws.{not_whole_view, only_view, whole_view}
use Rattle.packet_reassembly.proofs.ip_defrag_buf.IpDefragBuf.datagram.Goals.{then-not-self-via-else-not-self+then-self-div_ceil, then-not-self-via-then-not-self}
use Rattle.packet_reassembly.proofs.ip_defrag_buf.IpDefragBuf.datagram.Goals as goal

pub returns-then-not-self-clause-not_yet : goal.returns-then-not-self-clause-not_yet
returns-then-not-self-clause-not_yet c =
    let own = c.self.inside in
    not_whole_view own.bytes.now own.units.now own.extent own.discarded c.args.self.now c.self.view_is c.if-self.false c.self.invariant (elim c.then-not-self.branch [
      | then-not-self-via-then-not-self w ↦ inl w.if-not-self.true
      | then-not-self-via-else-not-self+then-self-div_ceil w ↦ inr (omega (arith, w.div_ceil.ensures))
    ])

pub returns-then-not-self-clause-only : goal.returns-then-not-self-clause-only
returns-then-not-self-clause-only c = λ _ _. tt

pub returns-clause-whole : goal.returns-clause-whole
returns-clause-whole c =
    whole_view c.self.invariant c.self.inside.discarded c.args.self.now c.self.view_is c.if-self.false c.if-not-self.false (omega (arith, c.div_ceil.ensures))

pub returns-clause-only : goal.returns-clause-only
returns-clause-only c =
    only_view c.self.invariant c.self.inside.discarded c.args.self.now c.self.view_is c.if-self.false c.if-not-self.false (omega (arith, c.div_ceil.ensures))
