-- The calendar's days, counted as the crate jiff_core counts them.
use Rattle.std.proofs.Common.{◌≡◌, ℕ, zero, suc, ◌+◌, ◌-◌, ◌<◌, ◌≤◌, inl, inr, Bool, true, false, cond, nat_lt, ℤ, pos, negsuc, ◌+ℤ◌, refl, ap, sym, subst, ◌∙◌, arith}
use Rattle.std.proofs.lemmas.Bool.{cases_order, lt-ltb, ltb-true, ltb-false}
use Rattle.jiff_core.specs.Calendar.{IsCivilDate, day_count}
use Rattle.jiff_core.specs.Date.{epoch_day}
use Rattle.jiff_core.specs.declared.civil.date.Date.{Date}
use Rattle.jiff_core.proofs.SignedLemmas.{signed_arith}
use Rattle.jiff_core.proofs.CalendarLemmas.{days_from_civil-day_count, days_in_month_bounds, day_count-day, day_count-next_month, day_count-next_year, day_count-last_of_year, day_count-end}
use Rattle.jiff_core.proofs.DateLemmas.{epoch_day_injective}
use Rattle.jiff_core.proofs.MarchLemmas.{day_count-early}
use Rattle.waldump_text.specs.Calendar.{dated_days, day_after, day_before, day_from_2000, days_after, days_before, days_from_2000, days_in_month, days_to_2000, first_day, first_day_of_2000, first_day_of_9999}
use Rattle.waldump_text.specs.declared.calendar.Day.{Day}

-- a day that the calendar has, so many days after 1 January of the year -10000
record IsDayAt (d : Day) (n : ℕ) : Type 0 where
  civil : IsCivilDate (pos d.year) d.month d.day
  counted : day_count (pos d.year) d.month d.day ≡ n

first_day-counted : IsDayAt first_day 3652791
first_day-counted = record {
  civil = (omega (arith, signed_arith), omega arith, omega arith);
  counted = day_count-early (pos 1) 10000 1 1 refl (omega arith) (omega arith) (omega arith);
}

-- the last day of the library's years
last_day-counted : day_count (pos 9999) 12 31 ≡ 7304849
last_day-counted = omega (arith, day_count-end, day_count-last_of_year (pos 9999), day_count-next_year (pos 9999) (pos 10000) (omega (arith, signed_arith)) refl)

day_after-of_month : (d : Day) (n : ℕ) → IsDayAt d n → d.day < days_in_month d.year d.month → IsDayAt (record d { day = d.day + 1 }) (n + 1)
day_after-of_month d n is more =
    let first = is.civil.2.0 in
    record {
      civil = (is.civil.0, is.civil.1, omega arith);
      counted = omega (arith, is.counted, day_count-day (pos d.year) d.month d.day (d.day + 1) first (omega arith));
    }

day_after-of_year : (d : Day) (n : ℕ) → IsDayAt d n → d.day ≡ days_in_month d.year d.month → d.month < 12 → IsDayAt (record { year = d.year; month = d.month + 1; day = 1 }) (n + 1)
day_after-of_year d n is last more =
    let first = is.civil.2.0 in
    let month = is.civil.1.0 in
    let long = days_in_month_bounds (pos d.year) (d.month + 1) in
    record {
      civil = (is.civil.0, omega arith, omega arith);
      counted = omega (arith, is.counted, day_count-day (pos d.year) d.month d.day 1 first (omega arith), day_count-next_month (pos d.year) d.month month);
    }

day_after-of_last : (d : Day) (n : ℕ) → IsDayAt d n → n < 7304849 → d.day ≡ 31 → d.month ≡ 12 → IsDayAt (record { year = d.year + 1; month = 1; day = 1 }) (n + 1)
day_after-of_last d n is low day month =
    let december : day_count (pos d.year) 12 31 ≡ n = subst (λ m. day_count (pos d.year) m 31 ≡ n) month (subst (λ k. day_count (pos d.year) d.month k ≡ n) day is.counted) in
    let below : d.year ≤ 9999 = omega (arith, signed_arith, is.civil.0) in
    let year : d.year < 9999 = elim (cases_order d.year 9999) [
      | inl same ↦ absurd (let all : 7304849 ≡ n = sym last_day-counted ∙ subst (λ y. day_count (pos y) 12 31 ≡ n) same december in omega arith)
      | inr (inl lt) ↦ lt
      | inr (inr gt) ↦ absurd (omega arith)
    ] in
    let long = days_in_month_bounds (pos (d.year + 1)) 1 in
    record {
      civil = (omega (arith, signed_arith), omega arith, omega arith);
      counted = omega (arith, december, day_count-last_of_year (pos d.year), day_count-next_year (pos d.year) (pos (d.year + 1)) (omega (arith, signed_arith)) (omega (arith, signed_arith)));
    }

december_length : (y m : ℕ) → m ≡ 12 → days_in_month y m ≡ 31
december_length y m is = rw is refl

module _ (d : Day) (n : ℕ) (is : IsDayAt d n) (low : n < 7304849) where
  next_month_or_year : (in_year : Bool) → nat_lt d.month 12 ≡ in_year → d.day ≡ days_in_month d.year d.month
      → IsDayAt (cond in_year (record { year = d.year; month = d.month + 1; day = 1 }) (record { year = d.year + 1; month = 1; day = 1 })) (n + 1)
  next_month_or_year true same last = day_after-of_year d n is last (ltb-true d.month 12 same)
  next_month_or_year false same last =
      let month : d.month ≡ 12 = omega (arith, ltb-false d.month 12 same, is.civil.1.1) in
      day_after-of_last d n is low (last ∙ december_length d.year d.month month) month

  next_day : (in_month : Bool) → nat_lt d.day (days_in_month d.year d.month) ≡ in_month
      → IsDayAt (cond in_month (record d { day = d.day + 1 }) (cond (nat_lt d.month 12) (record { year = d.year; month = d.month + 1; day = 1 }) (record { year = d.year + 1; month = 1; day = 1 }))) (n + 1)
  next_day true same = day_after-of_month d n is (ltb-true d.day (days_in_month d.year d.month) same)
  next_day false same = next_month_or_year (nat_lt d.month 12) refl (omega (arith, ltb-false d.day (days_in_month d.year d.month) same, is.civil.2.1))

  day_after-counted : IsDayAt (day_after d) (n + 1)
  day_after-counted = next_day (nat_lt d.day (days_in_month d.year d.month)) refl

-- each day up to the last of the library's years
days_after-counted : (n : ℕ) → n + 3652791 ≤ 7304849 → IsDayAt (days_after n first_day) (n + 3652791)
unfolding days_after
days_after-counted zero low = first_day-counted
days_after-counted (suc n) low =
    let next = day_after-counted (days_after n first_day) (n + 3652791) (days_after-counted n (omega arith)) (omega arith) in
    let same : n + 3652791 + 1 ≡ suc n + 3652791 = omega arith in
    subst (IsDayAt (day_after (days_after n first_day))) same next

day_of_parts : (a b : Day) → a.year ≡ b.year → a.month ≡ b.month → a.day ≡ b.day → a ≡ b
day_of_parts a b year month day = let whole : record { year = a.year; month = a.month; day = a.day } ≡ b = rw (year, month, day) refl in whole

-- a date of the library, by the day's numbers
date_of : (d : Day) (n : ℕ) → IsDayAt d n → Date
date_of d n is = record { year = pos d.year; month = d.month; day = d.day; year_in = is.civil.0; month_in = is.civil.1; day_in = is.civil.2 }

-- the parts of a date are a day's
pub record IsDayOf (date : Date) (d : Day) : Type 0 where
  pub year : date.year ≡ pos d.year
  pub month : date.month ≡ d.month
  pub day : date.day ≡ d.day
  pub low : d.year ≤ 9999

-- the date that the library has for a count of days is the calendar's day
pub days_after-date : (date : Date) (n : ℕ) → n < 3651694 → epoch_day date +ℤ pos 4371587 ≡ pos (n + 3652425) → IsDayOf date (days_after n first_day)
unfolding date_of
days_after-date date n low is =
    let d = days_after n first_day in
    let at = days_after-counted n (omega arith) in
    let counted : day_count date.year date.month date.day ≡ n + 3652791 = omega (arith, signed_arith, days_from_civil-day_count date.year date.month date.day) in
    let same : epoch_day date ≡ epoch_day (date_of d _ at) = omega (arith, signed_arith, days_from_civil-day_count date.year date.month date.day, days_from_civil-day_count (pos d.year) d.month d.day, counted, at.counted) in
    let parts = epoch_day_injective date (date_of d _ at) same in
    record { year = parts.0; month = parts.1; day = parts.2; low = omega (arith, signed_arith, at.civil.0) }

-- two days at one count are the same
same_day : (a b : Day) (n m : ℕ) → IsDayAt a n → IsDayAt b m → n ≡ m → a ≡ b
unfolding date_of
same_day a b n m at other same =
    let one : epoch_day (date_of a n at) ≡ epoch_day (date_of b m other) = omega (arith, signed_arith, days_from_civil-day_count (pos a.year) a.month a.day, days_from_civil-day_count (pos b.year) b.month b.day, at.counted, other.counted) in
    let parts = epoch_day_injective (date_of a n at) (date_of b m other) one in
    let year : a.year ≡ b.year = omega (arith, signed_arith, parts.0) in
    day_of_parts a b year parts.1 parts.2

first_day_of_2000-counted : IsDayAt first_day_of_2000 4382910
first_day_of_2000-counted = record {
  civil = (omega (arith, signed_arith), omega arith, omega arith);
  counted = day_count-early (pos 2000) 11999 1 1 refl (omega arith) (omega arith) (omega arith);
}

first_day_of_9999-counted : IsDayAt first_day_of_9999 7304485
first_day_of_9999-counted = record {
  civil = (omega (arith, signed_arith), omega arith, omega arith);
  counted = day_count-early (pos 9999) 19998 1 1 refl (omega arith) (omega arith) (omega arith);
}

-- so many days after 1 January of the year 1 lies 1 January 2000, and that of the year 9999
days_to_2000_are : (n : ℕ) → n ≡ days_to_2000 → days_after n first_day ≡ first_day_of_2000
days_to_2000_are n is = same_day (days_after n first_day) first_day_of_2000 _ _ (days_after-counted n (omega arith)) first_day_of_2000-counted (omega arith)

days_to_9999_are : (n : ℕ) → n ≡ dated_days → days_after n first_day ≡ first_day_of_9999
days_to_9999_are n is = same_day (days_after n first_day) first_day_of_9999 _ _ (days_after-counted n (omega arith)) first_day_of_9999-counted (omega arith)

-- ---- days before a day

first_of_month : (y m : ℕ) → 1 < m → day_before (record { year = y; month = m; day = 1 }) ≡ record { year = y; month = m - 1; day = days_in_month y (m - 1) }
first_of_month y m later = rw (lt-ltb 1 m later) refl

later_in_month : (y m k : ℕ) → 1 < k → day_before (record { year = y; month = m; day = k }) ≡ record { year = y; month = m; day = k - 1 }
later_in_month y m k later = rw (lt-ltb 1 k later) refl

module _ (d : Day) (n : ℕ) (is : IsDayAt d n) where
  before_next_month_or_year : (in_year : Bool) → nat_lt d.month 12 ≡ in_year → d.day ≡ days_in_month d.year d.month
      → day_before (cond in_year (record { year = d.year; month = d.month + 1; day = 1 }) (record { year = d.year + 1; month = 1; day = 1 })) ≡ d
  before_next_month_or_year true same last =
      let back : d.month + 1 - 1 ≡ d.month = omega arith in
      first_of_month d.year (d.month + 1) (omega (arith, is.civil.1.0))
      ∙ day_of_parts _ d refl back (ap (days_in_month d.year) back ∙ sym last)
  before_next_month_or_year false same last =
      let month : d.month ≡ 12 = omega (arith, ltb-false d.month 12 same, is.civil.1.1) in
      day_of_parts _ d (omega arith) (sym month) (sym (last ∙ december_length d.year d.month month))

  before_next : (in_month : Bool) → nat_lt d.day (days_in_month d.year d.month) ≡ in_month
      → day_before (cond in_month (record d { day = d.day + 1 }) (cond (nat_lt d.month 12) (record { year = d.year; month = d.month + 1; day = 1 }) (record { year = d.year + 1; month = 1; day = 1 }))) ≡ d
  before_next true same = later_in_month d.year d.month (d.day + 1) (omega (arith, is.civil.2.0)) ∙ day_of_parts _ d refl refl (omega arith)
  before_next false same = before_next_month_or_year (nat_lt d.month 12) refl (omega (arith, ltb-false d.day (days_in_month d.year d.month) same, is.civil.2.1))

  day_before-after : day_before (day_after d) ≡ d
  day_before-after = before_next (nat_lt d.day (days_in_month d.year d.month)) refl

-- to count days back undoes what it is to count them forth
pub days_before-after : (count upto : ℕ) → count + upto ≤ dated_days → days_before count (days_after (count + upto) first_day) ≡ days_after upto first_day
unfolding days_after days_before
days_before-after zero upto low = let none : 0 + upto ≡ upto = omega arith in ap (λ n. days_after n first_day) none
days_before-after (suc count) upto low =
    let moved : suc count + upto ≡ count + suc upto = omega arith in
    ap (λ n. day_before (days_before count (days_after n first_day))) moved
    ∙ ap day_before (days_before-after count (suc upto) (omega arith))
    ∙ day_before-after (days_after upto first_day) (upto + 3652791) (days_after-counted upto (omega arith))

-- days after days
days_after-more : (n m : ℕ) (d : Day) → days_after n (days_after m d) ≡ days_after (n + m) d
unfolding days_after
days_after-more zero m d = let none : m ≡ 0 + m = omega arith in ap (λ n. days_after n d) none
days_after-more (suc n) m d =
    let moved : suc (n + m) ≡ suc n + m = omega arith in
    ap day_after (days_after-more n m d) ∙ ap (λ k. days_after k d) moved

-- ---- days from 2000-01-01 on

pub first_days_before : (n : ℕ) → n ≡ days_to_2000 → days_before n first_day_of_2000 ≡ first_day
unfolding days_after
first_days_before n is =
    ap (days_before n) (sym (days_to_2000_are (n + 0) (omega arith))) ∙ days_before-after n 0 (omega arith)

pub days_to_9999 : (n : ℕ) → n ≡ days_from_2000 → days_after n first_day_of_2000 ≡ first_day_of_9999
days_to_9999 n is = with_2000 days_to_2000 refl
  where
    with_2000 : (m : ℕ) → m ≡ days_to_2000 → days_after n first_day_of_2000 ≡ first_day_of_9999
    with_2000 m known =
        ap (days_after n) (sym (days_to_2000_are m known)) ∙ days_after-more n m first_day ∙ days_to_9999_are (n + m) (omega arith)

-- a day so many days after 1 January of the year 1 lies by 730119 fewer after 2000-01-01
pub days_after-from_2000 : (days : ℤ) (n m : ℕ) → m ≡ days_to_2000 → n ≤ dated_days → pos n ≡ days +ℤ pos m → days_after n first_day ≡ day_from_2000 days
days_after-from_2000 (pos k) n m known low is =
    let more : n ≡ k + m = omega (arith, signed_arith, is) in
    ap (λ i. days_after i first_day) more ∙ sym (days_after-more k m first_day) ∙ ap (days_after k) (days_to_2000_are m known)
days_after-from_2000 (negsuc k) n m known low is =
    let less : suc k + n ≡ m = omega (arith, signed_arith, is) in
    sym (days_before-after (suc k) n (omega arith)) ∙ ap (days_before (suc k)) (days_to_2000_are (suc k + n) (less ∙ known))
