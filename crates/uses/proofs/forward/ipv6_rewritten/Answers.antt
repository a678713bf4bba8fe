use Rattle.uses.proofs.forward.ipv6_rewritten.Goals as goal

pub returns : goal.returns
returns c =
    let begins = c.in_ok-header.ensures.reads.reads in
    record { rest = (_, begins); whole = rw (c.to_bytes.ensures.only _ begins.layout) at begins.whole; refused = tt }
