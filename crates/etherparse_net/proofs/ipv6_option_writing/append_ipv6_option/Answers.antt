use Rattle.std.proofs.Common.{arith}
use Rattle.etherparse_net.proofs.IpOptions.{written_again}
use Rattle.etherparse_net.proofs.ipv6_option_writing.append_ipv6_option.Goals as goal

pub returns-clause-read_again : goal.returns-clause-read_again
returns-clause-read_again g c = λ before listed.
    written_again c.args.option_type c.args.option_data.now c.args.options.now.items _ before
    (omega (arith, c.max_data_len.ensures.value)) c.push_option.ensures.items listed
