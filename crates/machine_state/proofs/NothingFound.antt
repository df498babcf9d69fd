-- A new log may be opened: it ends where segment 1 begins, and has no words.
use Rattle.std.proofs.Common.{◌≡◌, ℕ, ◌*◌, ◌≤◌, [], refl, sym, ap, ◌∙◌, subst, arith}
use Rattle.byte_position.specs.Geometry.{IsSegmentSize}
use Rattle.byte_position.specs.Position.{end_address_of, first_position}
use Rattle.wal_page.specs.LogPlace.{IsPlace, LogPlace, new_place, word_from}
use Rattle.wal_page.proofs.LogWordLaws.{log_word-unowned}
use Rattle.wal_page.proofs.PlaceLaws.{new_place-stands, word_from-new}
use Rattle.wal_page.proofs.WordPositions.{end_address_of-first_position}
use Rattle.machine_state.specs.Words.{Opening, found_end, found_position, log_limit}
use Rattle.machine_state.specs.Opened.{IsOpenable}
use Rattle.machine_state.specs.Ringed.{log_word_of}
use Rattle.machine_state.specs.Sound.{IsSetup}

module _ (opening : Opening) (sized : IsSegmentSize (opening.setup).seg_size)
    (fresh : opening.place ≡ new_place (opening.setup).seg_size) where
  pub nothing_stands : found_position opening ≡ first_position (opening.setup).seg_size
  nothing_stands = ap (λ (p : LogPlace). p.position) fresh

  pub nothing_ends : found_end opening ≡ (opening.setup).seg_size
  nothing_ends = ap (end_address_of (opening.setup).seg_size) nothing_stands
      ∙ end_address_of-first_position (opening.setup).seg_size sized

  pub nothing_has_no_words : (k : ℕ) → log_word_of opening [] (8 * k) ≡ 0
  nothing_has_no_words k =
      let size = (opening.setup).seg_size in
      let sysid = (opening.setup).sysid in
      ap (λ (p : LogPlace). word_from size sysid p [] (8 * k)) fresh
      ∙ word_from-new size sysid sized [] tt (8 * k) (omega arith)
      ∙ log_word-unowned size sysid sized [] tt (8 * k) (omega arith) refl

pub nothing_opens : (opening : Opening) → IsSetup opening.setup
    → opening.place ≡ new_place (opening.setup).seg_size
    → opening.made ≤ (opening.setup).cap_segments → IsOpenable opening
nothing_opens opening valid fresh few = record {
  setup_is = valid;
  placed = subst (IsPlace (opening.setup).seg_size) (sym fresh)
      (new_place-stands (opening.setup).seg_size (opening.setup).sysid valid.size);
  within = omega (arith, nothing_stands opening valid.size fresh);
  made_within = few;
  reaches = omega (arith, nothing_ends opening valid.size fresh);
}
