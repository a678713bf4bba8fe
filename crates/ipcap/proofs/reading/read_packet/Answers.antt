use Rattle.std.proofs.Common.{MatchOption, Some, ap, inr, subst, sym, ◌∙◌}
use Rattle.std.proofs.lemmas.Bool.Decides.{not_from_Decides}
use Rattle.ipcap.specs.Shown.{IsShownAt}
use Rattle.ipcap.proofs.reading.read_packet.Goals as goal

pub returns-in-Some : goal.returns-in-Some
returns-in-Some c =
    let stops = c.in-Some.is ∙ sym (ap Some c.in-Some.e-is) in
    record {
      reads = inr (record {
        lax = c.in-Ok.lax;
        parts = c.in-Ok.ensures.found;
        stop = stops;
        why = λ shown. not_from_Decides _ c.is_shown.ensures.value c.if-is_shown.false (subst (λ s. MatchOption s (Unit {0}) (IsShownAt c.args.left_out c.in-Ok.lax)) (sym stops) shown);
      });
    }
