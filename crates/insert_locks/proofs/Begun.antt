-- What is met as reserved reaches the log's start at least, and ends at a word.
use Rattle.std.proofs.Common.{◌≡◌, ℕ, ◌%◌, ◌≤◌, map, sym, subst, arith}
use Rattle.byte_position.proofs.Words.{end_address_of-mod_word}
use Rattle.wal_page.proofs.PlaceLaws.{end-whole_from}
use Rattle.machine_laws.proofs.OrderSteps.{unlocked-is}
use Rattle.machine_state.specs.declared.setup.Setup.{Setup}
use Rattle.machine_state.specs.Words.{end_form, position_word, prev_word, order_end}
use Rattle.machine_state.specs.Views.{reserving_of, View}
use Rattle.machine_state.specs.Moves.{unlocked}
use Rattle.machine_state.specs.Steps.{load_position}
use Rattle.wal_rule.specs.Stepping.{Meets, Stands}

module _ (v : View) (met : ℕ) (m : Meets v load_position met) where
  abbrev s : Stands v
  s = m.before

  abbrev setup : Setup
  setup = (v.opening).setup

  abbrev end : ℕ
  end = order_end v.opening (s.sound).order

  end_is_met : unlocked met ≡ end
  end_is_met = subst (λ (n : ℕ). unlocked n ≡ end) (sym m.met_is)
      (unlocked-is v.opening (s.sound).order (position_word s.words)
      (prev_word s.words) (map reserving_of s.views) (s.sound).reserved
      ((s.sound).setup_is).size)

  -- the flushed address is no less than the log's start, and all that is flushed is written, and
  -- all that is written reserved
  pub start_is_met : setup.seg_size ≤ end_form setup (unlocked met)
  start_is_met =
      let begun = ((s.sound).positions).begun in
      let flushed = ((s.sound).positions).flushed_low in
      let written = ((s.sound).positions).written_low in
      let reserved = ((s.sound).positions).reserved in
      let all : setup.seg_size ≤ end_form setup end =
      omega (arith, begun, flushed, written, reserved) in
      subst (λ (n : ℕ). setup.seg_size ≤ end_form setup n) (sym end_is_met) all

  pub end_is_whole : end_form setup (unlocked met) % 8 ≡ 0
  end_is_whole =
      let size : ℕ = setup.seg_size in
      let valid = ((s.sound).setup_is).size in
      subst (λ (n : ℕ). end_form setup n % 8 ≡ 0) (sym end_is_met)
      (end_address_of-mod_word size valid end
      (end-whole_from size valid ((v.opening).place).position (s.sound).order
      ((s.sound).reserved).chained (((s.sound).reserved).placed).whole))
