use Rattle.std.proofs.Common.{◌≡◌, ℕ, ◌/◌, ◌∙◌, sym, arith, pos, to_z, of_z, to_z-of_z, w16, w64, Fits}
use Rattle.std.proofs.lemmas.Int.{to_z_pos}
use Rattle.jiff_core.specs.declared.civil.date.Date.{Date}
use Rattle.jiff_core.proofs.SignedLemmas.{signed_arith, fits_between}
use Rattle.ipcap.proofs.Calendar.{date_after-is, date_time_of-none, date_time_of-some}
use Rattle.ipcap.proofs.dates.date_time_of.Goals as goal

-- days fit the type that jiff takes them in
days_fit : (seconds : ℕ) → Fits w64 seconds → to_z w64 (seconds / 86400) ≡ pos (seconds / 86400)
days_fit seconds h = to_z_pos w64 (seconds / 86400) (omega arith)

-- and years the type that jiff has them in
year_fits : (date : Date) → to_z w16 (of_z w16 date.year) ≡ date.year
year_fits date = to_z-of_z (fits_between w16 date.year (omega (arith, signed_arith, date.year_in), omega (arith, signed_arith, date.year_in)))

pub overflow_cast-result : goal.overflow_cast-result
overflow_cast-result c =
    let days = days_fit c.args.seconds c.ranges.seconds in
    let is = date_after-is (c.args.seconds / 86400) c.in-Ok.date (c.in-Ok.ensures.value ∙ days) in
    let bound = rw is.0 at c.in-Ok.date.year_in in
    rw (year_fits c.in-Ok.date, is.0) (tt, omega (arith, signed_arith))

pub returns-clause-value : goal.returns-clause-value
returns-clause-value c =
    let days = days_fit c.args.seconds c.ranges.seconds in
    let is = date_time_of-some c.args.seconds c.in-Ok.date c.from_second-time.result (c.in-Ok.ensures.value ∙ days) c.from_second-time.ensures.seconds in
    rw (year_fits c.in-Ok.date) (sym is)

pub returns-in_default-clause-value : goal.returns-in_default-clause-value
returns-in_default-clause-value c =
    let none = rw (days_fit c.args.seconds c.ranges.seconds) at c.in_default.ensures.succeeds in
    sym (date_time_of-none c.args.seconds (grind (arith, signed_arith)))
