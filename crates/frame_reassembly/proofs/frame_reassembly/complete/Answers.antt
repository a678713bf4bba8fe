use Rattle.frame_reassembly.proofs.frame_reassembly.complete.Goals as goal

pub unreachable-requires : goal.unreachable-requires
unreachable-requires c = let no_packet = rw c.in-Ok-None.field-0-is at (c.in-Ok-None.ensures.some (c.requires.headers.each c.args.slot c.requires.has.0 c.requires.has.1) c.requires.whole.0 c.requires.whole.1) in cc

pub returns-in-Ok-Some-clause-headers : goal.returns-in-Ok-Some-clause-headers
returns-in-Ok-Some-clause-headers c = c.release.ensures.headers (rw c.write_packet.ensures.slots c.requires.headers)

pub returns-in-Err-clause-headers : goal.returns-in-Err-clause-headers
returns-in-Err-clause-headers c = c.release-in-Err.ensures.headers (rw c.write_packet.ensures.slots c.requires.headers)
