use Rattle.std.proofs.Common.{◌∙◌, refl, rules, sym}
use Rattle.c_answers.proofs.Stored.{none_of, stores, with_network, without_network}
use Rattle.c_answers.proofs.store.put_whole.Goals as goal

pub returns-then-carries_ip : goal.returns-then-carries_ip
returns-then-carries_ip c = record {
  taken = λ yes. with_network _ _ c.in-Ok.layers _ c.in-Ok.ensures.found (none_of c.in-Ok.layers.stop (sym c.is_some.ensures ∙ c.if-is_some.false))
      (stores c.in-Ok.layers _ _ _ c.put_link.ensures.value c.link_of-link.ensures.value (search rules) refl refl)
      (sym c.carries_ip.ensures.value ∙ c.if-carries_ip.true) (c.put_network.ensures.taken yes);
}

pub returns : goal.returns
returns c = record {
  taken = λ yes. without_network _ _ c.in-Ok.layers _ c.in-Ok.ensures.found (none_of c.in-Ok.layers.stop (sym c.is_some.ensures ∙ c.if-is_some.false))
      (stores c.in-Ok.layers _ _ _ c.put_link.ensures.value c.link_of-link.ensures.value (search rules) refl refl)
      (sym c.carries_ip.ensures.value ∙ c.if-carries_ip.false) (search rules) (search rules);
}
