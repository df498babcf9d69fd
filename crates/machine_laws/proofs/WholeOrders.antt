-- Images of a log behind a place are images of the whole log, where that is known entry by entry.
use Rattle.std.proofs.Common.{◌≡◌, ℕ, ◌+◌, ◌*◌, ◌<◌, ltb, inl, inr, List, [], ◌++◌, IsSome, refl, sym, ap, subst, ◌∙◌, arith}
use Rattle.std.specs.Int.{w64, to_le_bytes}
use Rattle.std.proofs.lemmas.Bool.{cases_lt, cond-true, lt-ltb}
use Rattle.std.proofs.lemmas.List.Elements.{All-nil}
use Rattle.byte_position.specs.Position.{end_address_of, first_position}
use Rattle.byte_position.specs.Geometry.{IsSegmentSize}
use Rattle.segment_disk.specs.DiskImage.{DiskImage}
use Rattle.segment_disk.specs.ImageWords.{HasPageAt, image_word}
use Rattle.wal_page.specs.Order.{Entry, FollowsFrom, IsChained, end_position, rooms_of}
use Rattle.wal_page.specs.Log.{IsLawfulWord, log_word_bytes, owner_at}
use Rattle.wal_page.specs.LogPlace.{LogPlace, new_place}
use Rattle.wal_page.proofs.LogWordLaws.{log_word-unowned}
use Rattle.wal_page.proofs.OrderLaws.{FollowsFrom-append, rooms_of-append}
use Rattle.wal_page.proofs.PlaceLaws.{word_from-all}
use Rattle.wal_page.proofs.WordPositions.{end_address_of-first_position}
use Rattle.flush_core.specs.Lawful.{IsLawful}
use Rattle.flush_core.proofs.LawfulLaws.{no_owner_before}
use Rattle.machine_state.specs.Words.{GoesOnAtPlace, Opening}
use Rattle.machine_state.specs.Ringed.{log_bytes_of}
use Rattle.machine_laws.specs.Crashes.{IsLawfulBehind}
use Rattle.machine_laws.specs.WholeOrders.{IsWholeOrder, LiesBehind}

module _ (opening : Opening) (order whole : List Entry) (image : DiskImage) (upto : ℕ)
    (valid : IsSegmentSize opening.setup.seg_size) (w : IsWholeOrder opening order whole)
    (lawful : IsLawfulBehind opening order image upto) where
  abbrev size : ℕ
  size = opening.setup.seg_size

  abbrev sysid : ℕ
  sysid = opening.setup.sysid

  same_bytes : (k : ℕ) → log_bytes_of opening order (8 * k) ≡ log_word_bytes size sysid whole (8 * k)
  same_bytes k = ap (to_le_bytes w64) (w.words (8 * k) (omega arith))

  whole_words : (k : ℕ) → IsLawfulWord size sysid whole (8 * k) (image_word size image (8 * k))
  whole_words k = elim (lawful.words k) [
    | inl zeros ↦ inl zeros
    | inr own ↦ inr (own ∙ same_bytes k)
  ]

  -- where an entry owns the word, it is not in segment 0
  whole_there : (k : ℕ) → 8 * k < upto → IsSome (owner_at size whole (8 * k))
      → HasPageAt size image (8 * k)
  whole_there k below owned = elim (cases_lt (8 * k) size) [
    | inl before ↦ absurd (no_owner_before size sysid valid whole w.chained k before owned)
    | inr from ↦ lawful.there k below from
  ]

  pub IsLawful-whole : IsLawful size sysid image whole upto
  IsLawful-whole = record {
    words = whole_words;
    below = λ k below. lawful.below k below ∙ same_bytes k;
    there = whole_there;
  }

-- the entries that lie below the place, and those behind it, are one order
pub whole_order : (opening : Opening) → IsSegmentSize opening.setup.seg_size
    → (front : List Entry) → LiesBehind opening front → (order : List Entry)
    → GoesOnAtPlace opening order → IsWholeOrder opening order (front ++ order)
whole_order opening valid front lies order follows =
    let size = opening.setup.seg_size in
    let first = first_position size in
    let behind : FollowsFrom size (first + rooms_of size front) order =
    subst (λ (p : ℕ). FollowsFrom size p order) lies.position_is follows in
    let chain : IsChained size (front ++ order) =
    FollowsFrom-append size first front order lies.chained behind in
    record {
      chained = chain;
      end = omega (arith, lies.position_is, rooms_of-append size front order);
      words = λ address whole. word_from-all size opening.setup.sysid valid front opening.place
          lies.position_is lies.prev_is lies.words_are order chain address whole;
    }

-- below a new log's place nothing lies
pub LiesBehind-new : (opening : Opening) → IsSegmentSize opening.setup.seg_size
    → opening.place ≡ new_place opening.setup.seg_size → LiesBehind opening []
LiesBehind-new opening valid fresh =
    let size = opening.setup.seg_size in
    let sysid = opening.setup.sysid in
    let start : end_position size [] ≡ first_position size = omega arith in
    let position = ap (λ (p : LogPlace). p.position) fresh in
    record {
      chained = tt;
      position_is = position ∙ sym start;
      prev_is = ap (λ (p : LogPlace). p.prev) fresh;
      words_are = λ address whole below.
          let before : address < size = subst (λ (n : ℕ). address < n)
          (ap (end_address_of size) position ∙ end_address_of-first_position size valid) below in
          cond-true (ltb address size) 0 _ (lt-ltb address size before)
          ∙ sym (log_word-unowned size sysid valid [] tt address whole refl);
      nobodys = All-nil _;
    }
