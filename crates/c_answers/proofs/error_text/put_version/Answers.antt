use Rattle.c_answers.proofs.error_text.put_version.Goals as goal

pub returns-in-1-clause-ipv4_version : goal.returns-in-1-clause-ipv4_version
returns-in-1-clause-ipv4_version c = λ _. rw c.from.ensures at c.put_number.ensures.gives

pub returns-in-3-clause-ipv6_version : goal.returns-in-3-clause-ipv6_version
returns-in-3-clause-ipv6_version c = λ _. rw c.from-in-3.ensures at c.put_number-in-3.ensures.gives

pub returns-in-7-clause-ip_version : goal.returns-in-7-clause-ip_version
returns-in-7-clause-ip_version c = λ _. rw c.from-in-7.ensures at c.put_number-in-7.ensures.gives

pub returns-in_default-clause-none : goal.returns-in_default-clause-none
returns-in_default-clause-none c = λ _ _ _. c.put.ensures.gives
