-- Where records are torn, and what the reader's checks have to do with it.
use Rattle.std.proofs.Common.{◌≡◌, ℕ, ◌+◌, ◌≤◌, Bool, true, false, not, eqb, cond, List, ◌++◌, take, drop, Some, None, inl, inr, refl, sym, ap, ◌∙◌, arith}
use Rattle.std.specs.Prelude.{◌≢◌, IsSome}
use Rattle.std.specs.Int.{w32, w64}
use Rattle.std.proofs.lemmas.Bool.{eqb-true, eq-eqb, ne_eqb, false≢true, true≢false}
use Rattle.wal_crc32c.specs.Crc32c.{crc32c}
use Rattle.wal_spelling.specs.Spelling.{assembled, room_of, size_of, word_at}
use Rattle.wal_spelling.specs.Numbers.{number_at}
use Rattle.wal_spelling.proofs.SpellingLaws.{room_is}
use Rattle.wal_page.specs.Order.{Entry}
use Rattle.wal_reader.specs.Pages.{Pages, bytes_from, pages_in}
use Rattle.wal_reader.proofs.PagesLaws.{take-bytes_from}
use Rattle.wal_reader.proofs.RowLaws.{number_at-take}
use Rattle.written_log_laws.proofs.LawfulLaws.{around}
use Rattle.written_log_laws.proofs.LawfulPages.{image_has_pages}
use Rattle.written_log_laws.proofs.LawfulRecords.{whole_upto}
use Rattle.written_log_laws.specs.Torn.{IsSeenTorn, bytes_in}
use Rattle.written_log_laws.specs.TornLaws.{EntriesUptoAreWhole, FailsOwnChecks, SeenTornFailsChecks}

-- ---- a record is seen to be torn where the reader stops

is_not : (a b : ℕ) → eqb a b ≡ false → a ≢ b
is_not a b e same = true≢false (sym (eq-eqb a b same) ∙ e)

told : {A : Type 0} (holds : Bool) (answer : A) → holds ≡ false → IsSome (cond (not holds) (Some answer) None)
told true answer e = absurd (true≢false e)
told false answer e = refl

untold : {A : Type 0} (holds : Bool) (answer : A) → IsSome (cond (not holds) (Some answer) None) → holds ≡ false
untold true answer e = absurd (false≢true e)
untold false answer e = refl

module _ (size : ℕ) (pages : Pages) (e : Entry) (prev : ℕ) where
  -- its own bytes, and whether their CRC is right
  abbrev own : List ℕ
  own = take (size_of e.value) (bytes_in size pages e)

  abbrev right_crc : List ℕ → Bool
  right_crc bytes = eqb (crc32c (drop 24 bytes ++ take 20 bytes)) (number_at w32 bytes 20)

  whole_is : bytes_from size pages (size_of e.value) e.start ≡ own
  whole_is = let is = room_is (assembled e.value) in sym (take-bytes_from size pages (size_of e.value) (room_of e.value) e.start (omega (arith, is)))

  number_is : (at : ℕ) → at + 8 ≤ 24 → number_at w64 (bytes_from size pages 24 e.start) at ≡ number_at w64 own at
  number_is at within =
      let is = room_is (assembled e.value) in
      let here = bytes_in size pages e in
      ap (λ (bytes : List ℕ). number_at w64 bytes at) (sym (take-bytes_from size pages 24 (room_of e.value) e.start (omega (arith, is))))
      ∙ number_at-take w64 here 24 at within ∙ sym (number_at-take w64 here (size_of e.value) at (omega (arith, within)))

  seen_fails : IsSeenTorn size pages e prev → FailsOwnChecks size pages e prev
  seen_fails (inl none) = inl (eq-eqb _ _ (number_is 0 (omega arith) ∙ none))
  seen_fails (inr (inl other)) = inr (inl (ne_eqb _ _ (λ same. other (sym (number_is 8 (omega arith)) ∙ same))))
  seen_fails (inr (inr other)) = inr (inr (told (right_crc (bytes_from size pages (size_of e.value) e.start)) _ (ap right_crc whole_is ∙ ne_eqb _ _ (λ same. other (sym same)))))

  fails_seen : FailsOwnChecks size pages e prev → IsSeenTorn size pages e prev
  fails_seen (inl none) = inl (sym (number_is 0 (omega arith)) ∙ eqb-true _ _ none)
  fails_seen (inr (inl other)) = inr (inl (λ same. is_not _ _ other (number_is 8 (omega arith) ∙ same)))
  fails_seen (inr (inr other)) = inr (inr (λ same. is_not _ _ (sym (ap right_crc whole_is) ∙ untold (right_crc (bytes_from size pages (size_of e.value) e.start)) _ other) (sym same)))

pub seen_torn_fails_checks : SeenTornFailsChecks
seen_torn_fails_checks size pages e prev = (seen_fails size pages e prev, fails_seen size pages e prev)

-- ---- an entry up to where an image is lawful is not torn

pub entries_upto_are_whole : EntriesUptoAreWhole
entries_upto_are_whole size sysid upto image es valid chained bounded lawful k e got finish torn =
    let are = image_has_pages size image valid sysid es upto chained bounded lawful in
    let front = take k es in
    let whole = whole_upto size sysid (pages_in size image) es upto valid chained are front (drop (k + 1) es) e (around es k e got) finish in
    torn.missing.2 (ap (λ (bytes : List ℕ). word_at bytes torn.missing.0) whole)
