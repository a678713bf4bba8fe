use Rattle.etherparse_base.proofs.checksum.wide_u64.add_turns.Goals as goal

pub threes-preserved : goal.threes-preserved
threes-preserved c =
    let slice = c.args.slice.now in
    let first = c.add_turn-first.ensures.adds slice _ _ c.requires c.after_turn-after_first.ensures.after c.threes.invariant in
    let second = c.add_turn-second.ensures.adds slice _ _ c.requires c.after_turn-after_second.ensures.after (c.with_total.ensures.adds slice _ _ first) in
    let third = c.add_turn-third.ensures.adds slice _ _ c.requires c.after_turn-rest.ensures.after (c.with_total-in-threes.ensures.adds slice _ _ second) in
    c.with_total-at.ensures.adds slice _ _ third

pub ones-preserved : goal.ones-preserved
ones-preserved c = c.add_turn-at.ensures.adds _ _ _ c.requires c.after_turn-rest-in-ones.ensures.after c.ones.invariant
