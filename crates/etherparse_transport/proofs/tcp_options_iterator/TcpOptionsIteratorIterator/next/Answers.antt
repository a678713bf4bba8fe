use Rattle.etherparse_transport.proofs.TcpOptionBytes.{gives_option}
use Rattle.etherparse_transport.proofs.tcp_options_iterator.TcpOptionsIteratorIterator.next.Goals as
    goal

pub returns-clause-steps : goal.returns-clause-steps
returns-clause-steps c = gives_option _ _ _ c.next_option-next.ensures.next
