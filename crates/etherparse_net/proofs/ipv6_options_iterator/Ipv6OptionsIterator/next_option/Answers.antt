use Rattle.std.proofs.Common.{arith, length, refl, Some, None, Ok, Err}
use Rattle.std.proofs.lemmas.Grind.{common_steps}
use Rattle.etherparse_net.proofs.IpOptions.{tells_ipv6_options}
use Rattle.etherparse_net.proofs.OptionLists.{further, lists_on}
use Rattle.etherparse_net.specs.Ipv6Options.{EndsIpv6Options, IsIpv6Option, RefusesIpv6Option}
use Rattle.etherparse_net.proofs.ipv6_options_iterator.Ipv6OptionsIterator.next_option.Goals as goal

pub returns-then-is_empty-clause-ends : goal.returns-then-is_empty-clause-ends
returns-then-is_empty-clause-ends c = lists_on IsIpv6Option EndsIpv6Options RefusesIpv6Option
    tells_ipv6_options c.args.self.now.options.now c.args.self.now.offset None
    c.args.self.now.offset (omega arith) (grind (arith, common_steps), refl)

pub returns-in-Ok-clause-goes_on : goal.returns-in-Ok-clause-goes_on
returns-in-Ok-clause-goes_on c = lists_on IsIpv6Option EndsIpv6Options RefusesIpv6Option
    tells_ipv6_options c.args.self.now.options.now c.args.self.now.offset
    (Some (Ok c.in-Ok.option.slice.now)) _ (omega arith) (
      c.in-Ok.option.is_option,
      further c.args.self.now.options.now _ c.in-Ok.option.slice.now c.args.self.now.offset
          c.bytes_from-rest.ensures.value c.in-Ok.ensures.found,
    )

pub returns-in-Err-clause-ends_refused : goal.returns-in-Err-clause-ends_refused
returns-in-Err-clause-ends_refused c = lists_on IsIpv6Option EndsIpv6Options RefusesIpv6Option
    tells_ipv6_options c.args.self.now.options.now c.args.self.now.offset
    (Some (Err c.in-Err.e)) (length c.args.self.now.options.now) (omega arith)
    (rw c.bytes_from-rest.ensures.value at c.in-Err.ensures.refused, refl)
