use Rattle.std.proofs.Common.{arith}
use Rattle.std.proofs.lemmas.Grind.{common_steps}
use Rattle.packet_filter.proofs.addresses.hardware_of.Goals as goal

pub returns : goal.returns
returns c = grind (arith, common_steps)

pub returns-in_err-octet_at : goal.returns-in_err-octet_at
returns-in_err-octet_at c = grind (arith, common_steps)

pub returns-in_err-octet_at-2 : goal.returns-in_err-octet_at-2
returns-in_err-octet_at-2 c = grind (arith, common_steps)

pub returns-in_err-octet_at-3 : goal.returns-in_err-octet_at-3
returns-in_err-octet_at-3 c = grind (arith, common_steps)

pub returns-in_err-octet_at-4 : goal.returns-in_err-octet_at-4
returns-in_err-octet_at-4 c = grind (arith, common_steps)

pub returns-in_err-octet_at-5 : goal.returns-in_err-octet_at-5
returns-in_err-octet_at-5 c = grind (arith, common_steps)

pub returns-in_err-octet_at-6 : goal.returns-in_err-octet_at-6
returns-in_err-octet_at-6 c = grind (arith, common_steps)

pub returns-then-not-has_colons : goal.returns-then-not-has_colons
returns-then-not-has_colons c = grind (arith, common_steps)
