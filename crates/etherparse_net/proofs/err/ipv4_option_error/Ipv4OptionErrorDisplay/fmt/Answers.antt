use Rattle.etherparse_net.proofs.err.ipv4_option_error.Ipv4OptionErrorDisplay.fmt.Goals as goal

pub returns-in-LengthBelowTwo-clause-writes : goal.returns-in-LengthBelowTwo-clause-writes
returns-in-LengthBelowTwo-clause-writes g c = rw c.in-LengthBelowTwo.is c.write.ensures.writes
