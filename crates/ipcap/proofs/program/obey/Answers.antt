use Rattle.std.proofs.Common.{inl, inr, refl}
use Rattle.ipcap.proofs.program.obey.Goals as goal

pub returns-in-Err-clause-obeys : goal.returns-in-Err-clause-obeys
returns-in-Err-clause-obeys g c = inl (record {
  e = c.in-Err.e;
  code = _;
  read = rw (c.in_ok-matches.was, c.in-Err.is) at c.read.ensures.reads;
  none = rw c.in-Err.is at c.in_ok-matches.ensures.none;
  is_code = c.code_of_error.ensures.code;
  shown = c.in_ok-show-in-Err.ensures.shows;
  ends = c.unopened.ensures.value;
  asks = c.show.ensures.asked;
  silent = refl;
})

pub returns-in-Ok-from_matches-clause-obeys : goal.returns-in-Ok-from_matches-clause-obeys
returns-in-Ok-from_matches-clause-obeys g c =
    let said = c.in-Ok-from_matches.ensures in
    inr (record {
      matches = c.in-Ok.matches;
      read = rw (c.in_ok-matches.was, c.in-Ok.is) at c.read.ensures.reads;
      is = rw c.in-Ok.is at c.in_ok-matches.ensures.matches;
      answers = inr (c.in-Ok-from_matches.arguments, record { apart = said.apart; mode = said.mode; utc = said.utc; reassembles = said.reassembles; limit = said.limit; output = said.output; input = said.input }, c.answer.ensures.answers);
    })

pub returns-clause-obeys : goal.returns-clause-obeys
returns-clause-obeys g c = inr (record {
  matches = c.in-Ok.matches;
  read = rw (c.in_ok-matches.was, c.in-Ok.is) at c.read.ensures.reads;
  is = rw c.in-Ok.is at c.in_ok-matches.ensures.matches;
  answers = inl (record { error = c.in-Err-from_matches.e; refused = c.in-Err-from_matches.ensures.refused; said = rw (c.as_bytes.ensures.value, c.text.ensures.value) at c.say.ensures.says; ends = c.unopened-in-Err-from_matches.ensures.value; asks = c.requires.first });
})
