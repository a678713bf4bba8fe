use Rattle.std.proofs.Common.{arith, ◌∙◌}
use Rattle.etherparse.proofs.Parts.{same_append}
use Rattle.etherparse_icmp.proofs.Icmpv4Layout.{written_joined}
use Rattle.etherparse_icmp.proofs.icmpv4_type.Icmpv4Type.bytes_with.Goals as goal

pub returns : goal.returns
returns c =
    let rest = c.rest.result.items in
    let bytes = c.joined.ensures in
    let parts = bytes.parts ∙ same_append c.front.ensures.value c.as_slice.ensures.value in
    record {
      written =
          written_joined c.args.self.now c.args.checksum rest _ parts bytes.are_bytes
          (omega arith) c.rest.ensures.len c.rest.ensures.rest c.rest.ensures.unused;
    }
