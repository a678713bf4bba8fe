-- The days after 1 January 1970 have the day numbers of jiff.
use Rattle.std.proofs.Common.{◌≡◌, ℕ, zero, suc, ◌+◌, ◌/◌, ◌%◌, ◌<◌, ◌≤◌, Some, None, inl, inr, refl, sym, ◌∙◌, arith, pos, unsigned_abs}
use Rattle.std.specs.Int.{IsInRange}
use Rattle.std.proofs.lemmas.Bool.{lt-ltb, le-ltb, cases_lt}
use Rattle.jiff_core.specs.Calendar.{IsCivilDate, day_count}
use Rattle.jiff_core.specs.Date.{epoch_day}
use Rattle.jiff_core.specs.Time.{time_seconds}
use Rattle.jiff_core.specs.declared.civil.date.Date as jiff
use Rattle.jiff_core.specs.declared.civil.time.Time.{Time}
use Rattle.jiff_core.proofs.SignedLemmas.{signed_arith}
use Rattle.jiff_core.proofs.CalendarLemmas.{days_from_civil-day_count, day_count-day, day_count-day_of_year, day_count-end, day_count-epoch, day_count-last_of_year, day_count-later_year, day_count-next_month, day_count-next_year, day_count_bounds, days_in_month_bounds}
use Rattle.jiff_core.proofs.DateLemmas.{epoch_day_injective, epoch_day_range}
use Rattle.ipcap.specs.Dates.{date_after, date_time_of, last_day, next_day}
use Rattle.ipcap.specs.declared.dates.Date.{Date}

-- a day of the calendar, this many days after 1 January 1970
abbrev pub IsDay : ℕ → Date → Type 0
IsDay days date =
    IsInRange 1 12 date.month × IsInRange 1 (last_day date.year date.month) date.day
    × (day_count (pos date.year) date.month date.day ≡ days + 4_371_953)

-- the day after a day that is not the last of its month
next_day-day : (days : ℕ) (date : Date) → IsDay days date → date.day < last_day date.year date.month → IsDay (suc days) (next_day date)
next_day-day days date h lt =
    let later = day_count-day (pos date.year) date.month date.day (date.day + 1) h.1.0 (omega arith) in
    rw (lt-ltb date.day (last_day date.year date.month) lt)
    (h.0, (omega arith, omega arith), omega arith)

-- the day after the last day of a month but December
next_day-month : (days : ℕ) (date : Date) → IsDay days date → last_day date.year date.month ≤ date.day → date.month < 12 → IsDay (suc days) (next_day date)
next_day-month days date h last lt =
    let bounds = days_in_month_bounds (pos date.year) (date.month + 1) in
    let next = day_count-next_month (pos date.year) date.month h.0.0 in
    let first = day_count-day (pos date.year) date.month date.day 1 h.1.0 (omega arith) in
    rw (le-ltb date.day (last_day date.year date.month) last, lt-ltb date.month 12 lt)
    ((omega arith, omega arith), (omega arith, omega arith), omega arith)

-- the day after 31 December
next_day-year : (days : ℕ) (date : Date) → IsDay days date → last_day date.year date.month ≤ date.day → 12 ≤ date.month → IsDay (suc days) (next_day date)
next_day-year days date h last le =
    let december : date.month ≡ 12 = omega arith in
    let day : date.day ≡ 31 = let l = rw december at last in let m = rw december at h.1.1 in omega arith in
    let count : day_count (pos date.year) 12 31 ≡ days + 4_371_953 = rw (december, day) at h.2 in
    let next = day_count-next_year (pos date.year) (pos (date.year + 1)) (omega (arith, signed_arith)) (omega (arith, signed_arith)) in
    let end = day_count-last_of_year (pos date.year) in
    rw (le-ltb date.day (last_day date.year date.month) last, le-ltb date.month 12 le)
    ((omega arith, omega arith), (omega arith, omega arith), omega arith)

-- the day after any day
next_day-is : (days : ℕ) (date : Date) → IsDay days date → IsDay (suc days) (next_day date)
next_day-is days date h =
    elim (cases_lt date.day (last_day date.year date.month)) [
      | inl lt ↦ next_day-day days date h lt
      | inr last ↦ elim (cases_lt date.month 12) [
        | inl lt ↦ next_day-month days date h last lt
        | inr le ↦ next_day-year days date h last le
      ]
    ]

-- so many days after 1 January 1970 is such a day
pub date_after-is_day : (days : ℕ) → IsDay days (date_after days)
unfolding date_after
date_after-is_day zero = ((omega arith, omega arith), (omega arith, omega arith), day_count-epoch)
date_after-is_day (suc days) = next_day-is days (date_after days) (date_after-is_day days)

-- the last day that jiff has, and each before it, is in a year of four digits
pub date_after-year : (days : ℕ) → days ≤ 2_932_896 → (date_after days).year ≤ 9999
date_after-year days h =
    let date = date_after days in
    let is = date_after-is_day days in
    elim (cases_lt 9999 date.year) [
      | inl lt ↦
          let first = day_count-later_year (pos 9999) (pos date.year) (omega (arith, signed_arith)) (omega (arith, signed_arith)) in
          let end = day_count-next_year (pos 9999) (pos 10000) (omega (arith, signed_arith)) (omega (arith, signed_arith)) in
          let in_year = day_count-day_of_year (pos date.year) date.month date.day is.1.0 in
          absurd (omega (arith, day_count-end))
      | inr le ↦ le
    ]

-- a day in a year of four digits is one that jiff has
is_civil : (date : Date) → IsInRange 1 12 date.month → IsInRange 1 (last_day date.year date.month) date.day → date.year ≤ 9999 → IsCivilDate (pos date.year) date.month date.day
is_civil date month day year = ((omega (arith, signed_arith), omega (arith, signed_arith)), month, day)

-- and no later one is
pub date_after-late : (days : ℕ) → 2_932_896 < days → 9999 < (date_after days).year
date_after-late days h =
    let date = date_after days in
    let is = date_after-is_day days in
    elim (cases_lt 9999 date.year) [
      | inl lt ↦ lt
      | inr le ↦
          let bounds = day_count_bounds (pos date.year) date.month date.day (is_civil date is.0 is.1 le) in
          absurd (omega arith)
    ]

-- the last day number that jiff has
epoch_day-last : (days : ℕ) (found : jiff.Date) → epoch_day found ≡ pos days → days ≤ 2_932_896
epoch_day-last days found e = let range = rw e at (epoch_day_range found) in omega (arith, signed_arith)

-- what jiff finds for a number of days is the day after so many days
pub date_after-is : (days : ℕ) (found : jiff.Date) → epoch_day found ≡ pos days → (found.year ≡ pos (date_after days).year) × (found.month ≡ (date_after days).month) × (found.day ≡ (date_after days).day)
date_after-is days found e =
    let date = date_after days in
    let is = date_after-is_day days in
    let year = date_after-year days (epoch_day-last days found e) in
    let civil = is_civil date is.0 is.1 year in
    let same : jiff.Date = record { year = pos date.year; month = date.month; day = date.day; year_in = civil.0; month_in = civil.1; day_in = civil.2 } in
    let count = days_from_civil-day_count (pos date.year) date.month date.day in
    let number : epoch_day same ≡ pos days = omega (arith, signed_arith) in
    epoch_day_injective found same (e ∙ sym number)

-- and the parts of what it finds for a number of days and of seconds are those of the definition
pub date_time_of-some : (seconds : ℕ) (date : jiff.Date) (time : Time) → epoch_day date ≡ pos (seconds / 86400) → time_seconds time ≡ seconds % 86400 → date_time_of seconds ≡ Some (record { date = record { year = unsigned_abs date.year; month = date.month; day = date.day }; hour = time.hour; minute = time.minute; second = time.second })
date_time_of-some seconds date time days clock =
    let is = date_after-is (seconds / 86400) date days in
    let year = date_after-year (seconds / 86400) (epoch_day-last (seconds / 86400) date days) in
    let hour : seconds % 86400 / 3600 ≡ time.hour = omega (arith, time.minute_in, time.second_in) in
    let minute : seconds % 86400 / 60 % 60 ≡ time.minute = omega (arith, time.minute_in, time.second_in) in
    let second : seconds % 86400 % 60 ≡ time.second = omega (arith, time.minute_in, time.second_in) in
    rw (lt-ltb (date_after (seconds / 86400)).year 10000 (omega arith), is.0, is.1, is.2, hour, minute, second) refl

-- seconds of a day that jiff does not have
pub date_time_of-none : (seconds : ℕ) → 2_932_896 < seconds / 86400 → date_time_of seconds ≡ None
date_time_of-none seconds late =
    let year = date_after-late (seconds / 86400) late in
    rw (le-ltb (date_after (seconds / 86400)).year 10000 (omega arith)) refl
