use Rattle.etherparse_base.proofs.WordNumbers.{eight_in_front}
use Rattle.etherparse_base.proofs.checksum.words.split_word.Goals as goal

pub returns-clause-stands_for : goal.returns-clause-stands_for
returns-clause-stands_for c =
    let split = rw c.unwrap.ensures at c.split_first_chunk.ensures.cases in
    eight_in_front _ _ _ _ c.requires split.0 split.1 c.from_le_bytes.ensures
