use Rattle.std.proofs.Common.{arith, ◌∙◌}
use Rattle.etherparse.proofs.Ipv4Reading.{options_in_room}
use Rattle.etherparse_transport.proofs.TcpReading.{front_read, front_whole}
use Rattle.etherparse_transport.proofs.tcp_header.with_rest.Goals as goal

pub header_with-requires : goal.header_with-requires
header_with-requires c =
    let view = c.args.view.now in
    let room = (rw c.unwrap-bytes.ensures at c.first_chunk.ensures.cases).same in
    c.from_front-options.ensures.value
    ∙ options_in_room c.args.slice.now view.slice.now _ _ (front_whole _ _ c.requires)
    (omega (arith, view.offset, view.len)) (omega (arith, view.len, view.are_bytes 12)) room

pub returns-then-slice-ge-MAX_LEN : goal.returns-then-slice-ge-MAX_LEN
returns-then-slice-ge-MAX_LEN c = record {
  begins = front_read _ _ _ c.requires
      c.header_with.ensures.layout;
}

pub returns : goal.returns
returns c = record { begins = front_read _ _ _ c.requires c.header_with-2.ensures.layout }
