-- A time's date by the microseconds since 0001-01-01.
use Rattle.std.proofs.Common.{◌≡◌, ℕ, ◌*◌, ◌/◌, ◌%◌, true, ℤ, pos, ◌+ℤ◌, int_le, unsigned_abs, refl, ap, sym, ◌∙◌, arith}
use Rattle.std.specs.Int.{int_div_euclid, int_rem_euclid}
use Rattle.jiff_core.proofs.SignedLemmas.{int_div_euclid-parts, int_rem_euclid-parts, signed_arith}
use Rattle.waldump_text.specs.Calendar.{day_from_2000, days_after, days_to_2000, first_day}
use Rattle.waldump_text.specs.TimeText.{date_text, day_length, first_time, last_time, time_text}
use Rattle.waldump_text.specs.declared.calendar.Day.{Day}
use Rattle.waldump_text.proofs.DayCounts.{days_after-from_2000}

module _ (time : ℤ) (since : ℕ) (is : pos since ≡ time +ℤ pos (days_to_2000 * day_length)) (low : int_le first_time time ≡ true) (high : int_le time last_time ≡ true) where
  day_is : days_after (since / day_length) first_day ≡ day_from_2000 (int_div_euclid time (pos day_length))
  day_is =
      let parts = int_div_euclid-parts time day_length (omega arith) in
      days_after-from_2000 (int_div_euclid time (pos day_length)) (since / day_length) days_to_2000 refl (omega (arith, signed_arith, is, high)) (omega (arith, signed_arith, is, parts))

  rest_is : since % day_length ≡ unsigned_abs (int_rem_euclid time (pos day_length))
  rest_is = omega (arith, signed_arith, is, int_rem_euclid-parts time day_length (omega arith), int_div_euclid-parts time day_length (omega arith))

  within : time_text time ≡ date_text (day_from_2000 (int_div_euclid time (pos day_length))) (unsigned_abs (int_rem_euclid time (pos day_length)))
  within = rw (low, high) refl

  pub date_since-is_time : date_text (days_after (since / day_length) first_day) (since % day_length) ≡ time_text time
  date_since-is_time = ap (λ (day : Day). date_text day (since % day_length)) day_is ∙ ap (date_text _) rest_is ∙ sym within
