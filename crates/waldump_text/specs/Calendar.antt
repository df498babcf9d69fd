-- The days of the Gregorian calendar, one after another, also before it came into use.
use Rattle.std.specs.Prelude.{ℕ, zero, suc, ◌+◌, ◌-◌, ◌%◌, ℤ, pos, negsuc, Bool, not, ◌&&◌, ◌||◌, ◌==◌, nat_lt, if◌then◌else◌}
use Rattle.waldump_text.specs.declared.calendar.Day.{Day}

-- every fourth year, but of the centuries only every fourth
abbrev pub is_leap_year : ℕ → Bool
is_leap_year y = (y % 4 == 0) && (not (y % 100 == 0) || (y % 400 == 0))

-- thirty days have September, April, June and November
abbrev pub days_in_month : ℕ → ℕ → ℕ
days_in_month y m =
    if m == 2 then (if is_leap_year y then 29 else 28)
    else (if (m == 4) || (m == 6) || (m == 9) || (m == 11) then 30 else 31)

-- the day behind a day: of the same month, or the first of the next month or of the next year
abbrev pub day_after : Day → Day
day_after d =
    if nat_lt d.day (days_in_month d.year d.month) then record d { day = d.day + 1 }
    else (if nat_lt d.month 12 then record { year = d.year; month = d.month + 1; day = 1 }
    else record { year = d.year + 1; month = 1; day = 1 })

-- the day that lies so many days after a day
unfoldable pub days_after : ℕ → Day → Day
days_after zero d = d
days_after (suc n) d = day_after (days_after n d)

-- the day before a day: of the same month, or the last of the month or of the year before
abbrev pub day_before : Day → Day
day_before d =
    if nat_lt 1 d.day then record d { day = d.day - 1 }
    else (if nat_lt 1 d.month
    then record { year = d.year; month = d.month - 1; day = days_in_month d.year (d.month - 1) }
    else record { year = d.year - 1; month = 12; day = 31 })

-- the day that lies so many days before a day
unfoldable pub days_before : ℕ → Day → Day
days_before zero d = d
days_before (suc n) d = day_before (days_before n d)

-- 1 January of the years 1, 2000 and 9999
abbrev pub first_day : Day
first_day = record { year = 1; month = 1; day = 1 }

abbrev pub first_day_of_2000 : Day
first_day_of_2000 = record { year = 2000; month = 1; day = 1 }

abbrev pub first_day_of_9999 : Day
first_day_of_9999 = record { year = 9999; month = 1; day = 1 }

-- how many days lie between the first two, and between the last two
abbrev pub days_to_2000 : ℕ
days_to_2000 = 730119

abbrev pub days_from_2000 : ℕ
days_from_2000 = 2921575

-- how many days the years 1 to 9998 have
abbrev pub dated_days : ℕ
dated_days = days_to_2000 + days_from_2000

-- the day that lies so many days after 2000-01-01, or before it
abbrev pub day_from_2000 : ℤ → Day
day_from_2000 (pos n) = days_after n first_day_of_2000
day_from_2000 (negsuc n) = days_before (suc n) first_day_of_2000
