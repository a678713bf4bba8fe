use Rattle.std.proofs.Common.{ℕ, ◌≡◌, List, Ok, Result, arith}
use Rattle.std.specs.Prelude.{codes}
use Rattle.hex.specs.declared.error.FromHexError.{FromHexError}
use Rattle.hex.proofs.HexLemmas.{decode_of-ok}
use Rattle.iphead.specs.Output.{ReportsBytes, error_line}
use Rattle.iphead.specs.declared.status.Status.TheVariants.{BadInput}
use Rattle.iphead.proofs.run.report.Goals as goal

-- what does not decode is reported as no hex
reports_not_hex : (d : Result (List ℕ) FromHexError) → ((bytes : List ℕ) → d ≡ Ok bytes → ⊥) → ReportsBytes d (BadInput, error_line (codes "input is not hex"))
reports_not_hex d h = grind arith

pub returns-in_default : goal.returns-in_default
returns-in_default g c = record {
  output = record {
    text = _;
    outcome = reports_not_hex _ (λ bytes e. let hex = decode_of-ok c.args.digits.now bytes e in grind (arith, c.in_default.ensures.found, hex));
    appended = c.in_ok-write_error.ensures.appends;
  };
}
