-- The text of a commit's time.
use Rattle.std.specs.Prelude.{ℕ, ◌-◌, ◌*◌, ◌/◌, ◌%◌, ◌&&◌, List, ◌++◌, codes, ℤ, pos, neg_ℤ, int_le, unsigned_abs, if◌then◌else◌}
use Rattle.std.specs.Fmt.{signed_decimal}
use Rattle.std.specs.Int.{int_div_euclid, int_rem_euclid}
use Rattle.waldump_text.specs.Calendar.{day_from_2000, days_from_2000, days_to_2000}
use Rattle.waldump_text.specs.Digits.{four_digits, six_digits, two_digits}
use Rattle.waldump_text.specs.declared.calendar.Day.{Day}

-- the microseconds of a day
abbrev pub day_length : ℕ
day_length = 86400000000

-- the first microsecond of the year 1 and the last of the year 9998, counted from 2000-01-01
abbrev pub first_time : ℤ
first_time = neg_ℤ (pos (days_to_2000 * day_length))

abbrev pub last_time : ℤ
last_time = pos (days_from_2000 * day_length - 1)

-- a day, as 2000-01-01
abbrev pub day_text : Day → List ℕ
day_text d =
    four_digits d.year ++ codes "-" ++ two_digits d.month ++ codes "-" ++ two_digits d.day

-- a time of day by the microseconds since midnight, as 23:59:59.999999
abbrev pub time_of_day_text : ℕ → List ℕ
time_of_day_text since =
    two_digits (since / 3600000000) ++ codes ":" ++ two_digits (since / 60000000 % 60) ++ codes ":"
    ++ two_digits (since / 1000000 % 60) ++ codes "." ++ six_digits (since % 1000000)

-- a day, and the microseconds since its midnight
abbrev pub date_text : Day → ℕ → List ℕ
date_text day since =
    codes " at " ++ day_text day ++ codes " " ++ time_of_day_text since ++ codes " UTC"

-- a number of microseconds
abbrev pub microseconds_text : ℤ → List ℕ
microseconds_text time = codes " at " ++ signed_decimal time ++ codes " us"

-- a time in microseconds since 2000-01-01: in the years 1 to 9998 the day that lies as many days
-- after 2000-01-01 as they are whole days, rounded down, and the rest; else the number
abbrev pub time_text : ℤ → List ℕ
time_text time =
    if int_le first_time time && int_le time last_time
    then date_text (day_from_2000 (int_div_euclid time (pos day_length)))
    (unsigned_abs (int_rem_euclid time (pos day_length)))
    else microseconds_text time
