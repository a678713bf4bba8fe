-- The date and the time of day of a number of seconds.
use Rattle.std.specs.Prelude.{ℕ, zero, suc, ◌+◌, ◌/◌, ◌%◌, ◌==◌, ◌&&◌, ◌||◌, Bool, not, nat_lt}
use Rattle.std.specs.Prelude.{if◌then◌else◌, Option, Some, None, List, ◌++◌, codes, decimal}
use Rattle.ipcap.specs.Digits.{zero_padded}
use Rattle.ipcap.specs.declared.dates.Date.{Date}
use Rattle.ipcap.specs.declared.dates.DateTime.{DateTime}

-- every fourth year is a leap year, but not every hundredth, but every four hundredth (RFC 3339
-- appendix C)
abbrev pub is_leap_year : ℕ → Bool
is_leap_year year = (year % 4 == 0) && (not (year % 100 == 0) || (year % 400 == 0))

-- the last day of a month: 30 days have April, June, September and November (RFC 3339 section 5.7)
abbrev pub last_day : ℕ → ℕ → ℕ
last_day year month =
    if month == 2 then (if is_leap_year year then 29 else 28)
    else (if (month == 4) || (month == 6) || (month == 9) || (month == 11) then 30 else 31)

-- the day after a day: in the same month if there is one more, else the first of the next month, or
-- of the next year
abbrev pub next_day : Date → Date
next_day date =
    if nat_lt date.day (last_day date.year date.month) then record date { day = date.day + 1 }
    else (if nat_lt date.month 12 then record date { month = date.month + 1; day = 1 }
    else record { year = date.year + 1; month = 1; day = 1 })

-- 1 January 1970
abbrev pub epoch : Date
epoch = record { year = 1970; month = 1; day = 1 }

-- the day that is so many days after 1 January 1970
unfoldable pub date_after : ℕ → Date
date_after zero = epoch
date_after (suc days) = next_day (date_after days)

-- a day, and the time of day at which so many of its seconds have passed
abbrev pub date_time_at : Date → ℕ → DateTime
date_time_at date passed = record {
  date = date;
  hour = passed / 3600;
  minute = passed / 60 % 60;
  second = passed % 60;
}

-- the day and the time of day so many seconds after 1970 began; each day has 86400, since there are
-- no leap seconds
abbrev pub date_time_after : ℕ → DateTime
date_time_after seconds = date_time_at (date_after (seconds / 86400)) (seconds % 86400)

-- the same if the year has four digits, as each has in RFC 3339
abbrev pub date_time_of : ℕ → Option DateTime
date_time_of seconds =
    if nat_lt (date_after (seconds / 86400)).year 10000 then Some (date_time_after seconds)
    else None

-- the form `full-date` of RFC 3339 section 5.6
abbrev pub date_text : Date → List ℕ
date_text date = zero_padded 4 (decimal date.year) ++ (codes "-"
    ++ (zero_padded 2 (decimal date.month) ++ (codes "-" ++ zero_padded 2 (decimal date.day))))

-- the form `date-time` of RFC 3339 section 5.6, without a fraction of a second and without the
-- offset from UTC
abbrev pub date_time_text : DateTime → List ℕ
date_time_text time = date_text time.date ++ (codes "T" ++ (zero_padded 2 (decimal time.hour)
    ++ (codes ":" ++ (zero_padded 2 (decimal time.minute) ++ (codes ":"
    ++ zero_padded 2 (decimal time.second))))))
