use Rattle.std.proofs.Common.{◌∙◌}
use Rattle.etherparse_base.proofs.WordNumbers.{four_alone}
use Rattle.etherparse_base.proofs.checksum.words.half_word.Goals as goal

pub returns-clause-stands_for : goal.returns-clause-stands_for
returns-clause-stands_for c =
    let split = rw c.unwrap.ensures at c.split_first_chunk.ensures.cases in
    four_alone _ _ _ c.requires split.0 (c.from.ensures ∙ c.from_le_bytes.ensures)
