-- The entry behind those that were found: it is never whole where a crash leaves nothing but words as they are read and zeros, and where it never is, images decode to a front of what was found.
use Rattle.std.proofs.Common.{◌≡◌, ◌≢◌, ◌⊎◌, ℕ, zero, suc, ◌+◌, ◌-◌, ◌*◌, ◌/◌, ◌%◌, ◌<◌, ◌≤◌, List, [], ◌∷◌, ◌++◌, length, take, drop, get_or, Option, Some, None, slice_get, inl, inr, refl, sym, ap, subst, ◌∙◌, arith}
use Rattle.std.specs.Int.{w64, from_le_bytes, to_le_bytes}
use Rattle.std.proofs.lemmas.Bool.{cases_Bool, cases_eq, cases_lt}
use Rattle.std.proofs.lemmas.List.{length-take-le, take-append-drop, take-take, take_more}
use Rattle.std.proofs.lemmas.Nat.{div-mul-add, div_below, le-div}
use Rattle.std.proofs.lemmas.Option.{get_or_from_slice_get, slice_get_cases, slice_get_within}
use Rattle.std.proofs.Math.Nat.{mul-div-le, mul-le-mul_right, mul_comm}
use Rattle.byte_position.specs.Geometry.{IsSegmentSize, pages_of}
use Rattle.byte_position.specs.Position.{address_of, end_address_of, first_position, position_of}
use Rattle.byte_position.proofs.EndAddresses.{end_address_of-mono}
use Rattle.byte_position.proofs.HeaderSizes.{header_size_bounds}
use Rattle.byte_position.proofs.PositionLaws.{position_of-address_of}
use Rattle.byte_position.proofs.Rising.{position_of-mono}
use Rattle.byte_position.proofs.SegmentSizes.{segment_size_in_pages}
use Rattle.byte_position.proofs.Words.{end_address_of-mod_word}
use Rattle.segment_disk.specs.Assured.{DiskImageFits, SegmentFits}
use Rattle.segment_disk.specs.DiskImage.{DiskImage, image_as_read}
use Rattle.segment_disk.specs.ImageWords.{HasPageAt, image_word, segment_word, zero_word}
use Rattle.segment_disk.specs.Tape.{DiskState, Segment}
use Rattle.wal_spelling.specs.Spelling.{assembled, is_assembled_switch, room_of, size_of}
use Rattle.wal_spelling.proofs.SpellingLaws.{room_is}
use Rattle.wal_page.specs.Order.{Entry, IsChained, end_position, finish_of, position_behind, rooms_of}
use Rattle.wal_page.specs.Log.{IsLawfulWord, log_byte, log_word, log_word_bytes, remaining_at}
use Rattle.wal_page.specs.Page.{page_header}
use Rattle.wal_page.specs.Placed.{Owns}
use Rattle.wal_page.proofs.LogByteLaws.{header_byte-own}
use Rattle.wal_page.proofs.LogWordLaws.{log_word-behind, log_word_byte, log_word_bytes as bytes_of_log_word}
use Rattle.wal_page.proofs.OrderLaws.{FollowsFrom-parts, rooms_of-append, rooms_of_push}
use Rattle.wal_page.proofs.OwnerLaws.{Owns-from_between, end_position-whole, owner_of-entry, start-whole}
use Rattle.wal_page.proofs.PaddingLaws.{assembled_room_at-inserted, position_behind_switch}
use Rattle.flush_core.specs.Lawful.{IsLawful}
use Rattle.flush_core.specs.Settled.{IsAmong, IsOldOrZero, MayStand}
use Rattle.flush_core.specs.SettledLog.{AreOnly, IsZeroOrLogWord}
use Rattle.flush_core.proofs.LawfulLaws.{no_owner_before, word_fits, word_stands_at}
use Rattle.flush_core.proofs.SettledLogs.{settling_keeps_lawful, stands_fit}
use Rattle.wal_reader.specs.declared.found.Answer.{Answer}
use Rattle.wal_reader.specs.declared.found.FoundRecord.{FoundRecord}
use Rattle.wal_reader.specs.Pages.{pages_in}
use Rattle.wal_reader.specs.Decodes.{Decodes}
use Rattle.written_log_laws.specs.FoundLog.{ReadsUntorn, end_behind}
use Rattle.written_log_laws.specs.SettledFound.{AreNeverWhole, IsReadOrLost, LossesNeverMakeNextWhole, MayOnlyLose, NextIsNeverWhole, UnsyncedLogsDecodeToFronts}
use Rattle.written_log_laws.specs.Torn.{NoTornPass}
use Rattle.written_log_laws.specs.Written.{found_entry, found_from, found_of}
use Rattle.written_log_laws.proofs.FoundImages.{chained_front, front, own_word}
use Rattle.written_log_laws.proofs.FoundLogs.{among as first_count, log_word-front, reached, read_front, read_lawful, read_whole}
use Rattle.written_log_laws.proofs.LawfulFronts.{ReadsFront}
use Rattle.written_log_laws.proofs.LawfulLaws.{around, lawful_images_decode_to_fronts, length-found_from}
use Rattle.written_log_laws.proofs.LogPages.{log_byte-page_header, offset_in_page}
use Rattle.written_log_laws.proofs.ReadImages.{as_read_fits, read_is}

-- ---- the log's words

-- a word of zeros is that of the number 0
zero_is : (size sysid : ℕ) (es : List Entry) (a : ℕ) → IsChained size es → zero_word ≡ log_word_bytes size sysid es a → log_word size sysid es a ≡ 0
zero_is size sysid es a chained same = sym (ap (from_le_bytes w64) (same ∙ bytes_of_log_word size sysid es chained a))

module _ (size sysid : ℕ) (valid : IsSegmentSize size) where
  -- the first word of a page is not zero where the page's first position lies in an entry's record
  header_is_some : (front back : List Entry) (e : Entry) → IsChained size (front ++ e ∷ back) → (page : ℕ) → Owns size (assembled e.value) e.start (page * 8192) → position_of size (page * 8192) < e.start + room_of e.value → log_word size sysid (front ++ e ∷ back) (page * 8192) ≢ 0
  header_is_some front back e chained page owns inside none =
      let es = front ++ e ∷ back in
      let p = position_of size (page * 8192) in
      let owner = owner_of-entry size (first_position size) front back e chained p owns.0 owns.1 in
      let first : get_or (page_header size sysid ((page * 8192 + 0) / 8192) (remaining_at e p)) ((page * 8192 + 0) % 8192) 0 ≡ 19 = rw (offset_in_page page 0 (omega arith)) refl in
      let byte : log_byte size sysid es (page * 8192 + 0) ≡ 19 =
      log_byte-page_header size sysid es page 0 (Some e) valid (omega (arith, header_size_bounds size valid page)) owner
      ∙ header_byte-own size sysid (page * 8192 + 0) p e inside ∙ first in
      let word = log_word_byte size sysid es chained (page * 8192) 0 (omega arith) in
      let none_there : get_or (to_le_bytes w64 0) 0 0 ≡ 19 = ap (λ (n : ℕ). get_or (to_le_bytes w64 n) 0 0) (sym none) ∙ word ∙ byte in
      absurd (omega (arith, none_there))

  -- a record that owns a segment's start reaches behind it
  reaches_inside : (e : Entry) → e.start % 8 ≡ 0 → (segment : ℕ) → Owns size (assembled e.value) e.start (segment * size) → position_of size (segment * size) < e.start + room_of e.value
  reaches_inside e whole segment owns = elim (cases_Bool (is_assembled_switch (assembled e.value))) [
    | inr plain ↦ omega (arith, owns.1, assembled_room_at-inserted size e.start (assembled e.value) plain)
    | inl switches ↦ elim (cases_lt (position_of size (segment * size)) (e.start + room_of e.value)) [
      | inl inside ↦ inside
      | inr behind ↦
          (let last = e.start + size_of e.value - 1 in
          let n = address_of size last / size in
          let next : position_behind size e ≡ position_of size (size * (n + 1)) = position_behind_switch size valid e.start (assembled e.value) whole switches in
          let high : segment * size < size * (n + 1) = elim (cases_lt (segment * size) (size * (n + 1))) [
            | inl below ↦ below
            | inr above ↦ absurd (omega (arith, owns.1, next, position_of-mono size (size * (n + 1)) (segment * size) above))
          ] in
          let upto : segment ≤ n = elim (cases_lt n segment) [
            | inl more ↦ (let scaled : (n + 1) * size ≤ segment * size = mul-le-mul_right size (omega (arith, more)) in absurd (omega (arith, scaled, high, mul_comm (n + 1) size)))
            | inr is ↦ is
          ] in
          let scaled : segment * size ≤ n * size = mul-le-mul_right size upto in
          let low : segment * size ≤ address_of size last = omega (arith, scaled, mul-div-le (address_of size last) size, mul_comm n size) in
          let is = room_is (assembled e.value) in
          absurd (omega (arith, behind, is, position_of-mono size (segment * size) (address_of size last) low, position_of-address_of size valid last)))
    ]
  ]

-- ---- a word that an image lacks

record Lacks (size sysid : ℕ) (image : DiskImage) (es : List Entry) (bound : ℕ) : Type 0 where
  k : ℕ
  low : k < bound
  wanted : log_word size sysid es (8 * k) ≢ 0
  lacked : image_word size image (8 * k) ≡ zero_word

module _ (size sysid : ℕ) (image : DiskImage) (es : List Entry) (words : (k : ℕ) → IsLawfulWord size sysid es (8 * k) (image_word size image (8 * k))) where
  abbrev HasWord : ℕ → Type 0
  HasWord k = image_word size image (8 * k) ≡ log_word_bytes size sysid es (8 * k)

  one_word : (k : ℕ) → HasWord k ⊎ ((log_word size sysid es (8 * k) ≢ 0) × (image_word size image (8 * k) ≡ zero_word))
  one_word k = elim (words k) [
    | inr own ↦ inl own
    | inl zeros ↦ elim (cases_eq (log_word size sysid es (8 * k)) 0) [
      | inl none ↦ inl (zeros ∙ ap (to_le_bytes w64) (sym none))
      | inr some ↦ inr (some, zeros)
    ]
  ]

  -- it has all words below a bound, or lacks one of them
  all_or_lacks : (bound : ℕ) → ((k : ℕ) → k < bound → HasWord k) ⊎ Lacks size sysid image es bound
  all_or_lacks zero = inl (λ k low. absurd (omega (arith, low)))
  all_or_lacks (suc bound) = elim (all_or_lacks bound) [
    | inr lacks ↦ inr (record { k = lacks.k; low = omega (arith, lacks.low); wanted = lacks.wanted; lacked = lacks.lacked })
    | inl all ↦ elim (one_word bound) [
      | inr lacked ↦ inr (record { k = bound; low = omega arith; wanted = lacked.0; lacked = lacked.1 })
      | inl own ↦ inl (λ k low. elim (cases_lt k bound) [
        | inl less ↦ all k less
        | inr last ↦ (let same : bound ≡ k = omega (arith, low, last) in subst HasWord same own)
      ])
    ]
  ]

-- ---- fronts of an order

found_from-take : (size prev n : ℕ) (es : List Entry) → take n (found_from size prev es) ≡ found_from size prev (take n es)
found_from-take size prev zero es = refl
found_from-take size prev (suc n) [] = refl
found_from-take size prev (suc n) (e ∷ es) = ap (λ (l : List FoundRecord). found_entry size prev e ∷ l) (found_from-take size (address_of size e.start) n es)

-- a front ends no higher than a longer one
front_ends_below : (size : ℕ) → IsSegmentSize size → (m n : ℕ) (es : List Entry) → m ≤ n → end_address_of size (end_position size (take m es)) ≤ end_address_of size (end_position size (take n es))
front_ends_below size valid m n es less =
    let longer = take n es in
    let same = ap (rooms_of size) (take-take m n es less) in
    let parts = ap (rooms_of size) (take-append-drop m longer) in
    let both = rooms_of-append size (take m longer) (drop m longer) in
    end_address_of-mono size valid (end_position size (take m es)) (end_position size longer) (omega (arith, same, parts, both))

module _ (size sysid count : ℕ) (es : List Entry) (state : DiskState) (found : List FoundRecord) (has : ReadsUntorn size sysid count es state found) where
  abbrev firsts : ℕ
  firsts = first_count size sysid count es state found has

  abbrev read : DiskImage
  read = image_as_read state

  chained_firsts : (n : ℕ) → IsChained size (take n es)
  chained_firsts n = chained_front size sysid es has.may.valid has.may.known has.may.narrow has.may.chained has.may.bounded n

  firsts_are : length found ≡ firsts
  firsts_are =
      let is = read_front size sysid count es state found has in
      ap (λ (l : List FoundRecord). length l) is.found_is ∙ length-found_from size 0 (take firsts es) ∙ length-take-le firsts es is.within

  -- an order has the words of its front below the front's end
  word_of_front : (n a : ℕ) → a % 8 ≡ 0 → a < end_address_of size (end_position size (take n es)) → log_word size sysid es a ≡ log_word size sysid (take n es) a
  word_of_front n a whole low =
      let parts = take-append-drop n es in
      let end = end_address_of-mod_word size has.may.valid (end_position size (take n es)) (end_position-whole size has.may.valid (take n es) (chained_firsts n)) in
      ap (λ (l : List Entry). log_word size sysid l a) (sym parts)
      ∙ log_word-front size sysid has.may.valid (take n es) (drop n es) (subst (λ (l : List Entry). IsChained size l) (sym parts) has.may.chained) a (omega (arith, low, whole, end))

  -- ---- the next entry, as it is read

  module _ (only : AreOnly count state) (e : Entry) (got : slice_get es firsts ≡ Some e) where
    abbrev entries_before : List Entry
    entries_before = take firsts es

    abbrev entries_behind : List Entry
    entries_behind = drop (firsts + 1) es

    abbrev entry_end : ℕ
    entry_end = finish_of size e

    in_parts : es ≡ entries_before ++ e ∷ entries_behind
    in_parts = around es firsts e got

    in_order : IsChained size (entries_before ++ e ∷ entries_behind)
    in_order = subst (λ (l : List Entry). IsChained size l) in_parts has.may.chained

    starts_at : e.start ≡ end_position size entries_before
    starts_at = (FollowsFrom-parts size (first_position size) entries_before (e ∷ entries_behind) in_order).1.0

    next_ends : end_address_of size (end_position size (take (firsts + 1) es)) ≡ entry_end
    next_ends =
        let within = slice_get_within es firsts e got in
        let longer : take (firsts + 1) es ≡ entries_before ++ e ∷ [] = take_more es firsts e within ∙ ap (λ (x : Entry). entries_before ++ x ∷ []) (get_or_from_slice_get es firsts e e got) in
        let rooms = ap (rooms_of size) longer in
        let position : end_position size (take (firsts + 1) es) ≡ position_behind size e = omega (arith, rooms, rooms_of_push size entries_before e, starts_at) in
        ap (end_address_of size) position

    -- a segment that is not there reads as zeros
    none_read : (segment k : ℕ) → 8 * k ≡ segment * size → count < segment → image_word size read (8 * k) ≡ zero_word
    none_read segment k at beyond =
        let whole = segment_size_in_pages size has.may.valid in
        let from : segment * size + 0 ≡ 8 * k = omega (arith, at) in
        let here : 8 * k / size ≡ segment = ap (λ (a : ℕ). a / size) (sym from) ∙ div-mul-add segment size 0 (omega (arith, whole)) in
        ap (λ (o : Option Segment). segment_word (image_as_read (λ (m : ℕ). o) (8 * k / size)) (8 * k % size)) (only (8 * k / size) (λ there. omega (arith, there.1, here, beyond)))

    module _ (all : (k : ℕ) → 8 * k < entry_end → image_word size read (8 * k) ≡ log_word_bytes size sysid es (8 * k)) where
      -- it has no word in a segment that is not there
      within_segments : (k : ℕ) → 8 * k < entry_end → 8 * k < (count + 1) * size
      within_segments k low = elim (cases_lt (8 * k) ((count + 1) * size)) [
        | inl below ↦ below
        | inr above ↦
            (let whole = segment_size_in_pages size has.may.valid in
            let n = pages_of size in
            let page = (count + 1) * n in
            let at : page * 8192 ≡ (count + 1) * size = scaled (count + 1) n ∙ ap (λ (m : ℕ). (count + 1) * m) (sym whole.0) in
            let words : 8 * (page * 1024) ≡ (count + 1) * size = omega (arith, at) in
            let from : end_address_of size e.start ≤ (count + 1) * size = omega (arith, ap (end_address_of size) starts_at, reached size sysid count es state found has only, one_more count size) in
            let owns : Owns size (assembled e.value) e.start ((count + 1) * size) = Owns-from_between size has.may.valid (assembled e.value) e.start ((count + 1) * size) from (omega (arith, above, low)) in
            let inside = reaches_inside size sysid has.may.valid e (start-whole size has.may.valid entries_before entries_behind e in_order) (count + 1) owns in
            let some = header_is_some size sysid has.may.valid entries_before entries_behind e in_order page (subst (Owns size (assembled e.value) e.start) (sym at) owns) (subst (λ (a : ℕ). position_of size a < e.start + room_of e.value) (sym at) inside) in
            let zeros = none_read (count + 1) (page * 1024) words (omega arith) in
            let own = all (page * 1024) (omega (arith, words, above, low)) in
            let none = zero_is size sysid es (8 * (page * 1024)) has.may.chained (sym zeros ∙ own) in
            let here : 8 * (page * 1024) ≡ page * 8192 = omega arith in
            absurd (some (ap (λ (l : List Entry). log_word size sysid l (page * 8192)) (sym in_parts) ∙ ap (log_word size sysid es) (sym here) ∙ none)))
      ]
        where
          scaled : (a n : ℕ) → a * n * 8192 ≡ a * (8192 * n)
          scaled a n = omega arith

          one_more : (a n : ℕ) → (a + 1) * n ≡ a * n + n
          one_more a n = omega arith

      page_there : (k : ℕ) → size ≤ 8 * k → 8 * k < entry_end → HasPageAt size read (8 * k)
      page_there k from low =
          let whole = segment_size_in_pages size has.may.valid in
          let some : 0 < size = omega (arith, whole) in
          let place = word_stands_at size has.may.valid k in
          let one : 1 * size ≡ size = omega arith in
          let is_there : IsAmong count (8 * k / size) = (le-div 1 (8 * k) size some (omega (arith, one, from)), omega (arith, div_below (8 * k) size (count + 1) some (within_segments k low))) in
          let fits = as_read_fits size (IsAmong count) (IsZeroOrLogWord size sysid es) state has.may.lawful (8 * k / size) in
          elim (word_fits size (IsAmong count) (IsZeroOrLogWord size sysid es) (8 * k / size) (8 * k % size) (read (8 * k / size)) place.within place.low fits) [
            | inl none ↦ absurd (subst (SegmentFits size (IsAmong count) (IsZeroOrLogWord size sysid es) (8 * k / size)) none.0 fits is_there)
            | inr there ↦ there.0
          ]

      -- so it would have been read
      would_be_read : ⊥
      would_be_read =
          let lawful : IsLawful size sysid read es entry_end = record {
            words = (read_lawful size sysid count es state found has).words;
            below = all;
            there = λ k low owned. elim (cases_lt (8 * k) size) [
              | inl first ↦ absurd (no_owner_before size sysid has.may.valid es has.may.chained k first owned)
              | inr from ↦ page_there k from low
            ];
          } in
          let reads = lawful_images_decode_to_fronts size sysid entry_end read es has.may.valid has.may.known has.may.narrow has.may.chained has.may.bounded lawful has.none_torn found has.answer has.decodes in
          let more = reads.holds firsts e got (omega arith) in
          let counted : length found ≡ reads.count = ap (λ (l : List FoundRecord). length l) reads.found_is ∙ length-found_from size 0 (take reads.count es) ∙ length-take-le reads.count es reads.within in
          omega (arith, more, counted, firsts_are)

    never_whole : MayOnlyLose size count state → AreNeverWhole size sysid (take (length found + 1) es) state
    never_whole loses = elim (all_or_lacks size sysid read es (read_lawful size sysid count es state found has).words ((entry_end + 7) / 8)) [
      | inl all ↦ absurd (would_be_read (λ k low. all k (omega (arith, low))))
      | inr lacks ↦
          (let k = lacks.k in
          let place = word_stands_at size has.may.valid k in
          let number = 8 * k / size * pages_of size + 8 * k % size / 8192 in
          let word = 8 * k % size % 8192 / 8 in
          let longer : take (length found + 1) es ≡ take (firsts + 1) es = ap (λ (n : ℕ). take (n + 1) es) firsts_are in
          let at : 8 * (number * 1024 + word) ≡ 8 * k = omega (arith, place.at) in
          record {
            page = number;
            word = word;
            small = place.low;
            wanted = λ none. lacks.wanted
                (word_of_front (firsts + 1) (8 * k) (omega arith) (omega (arith, lacks.low, next_ends))
                ∙ ap (λ (l : List Entry). log_word size sysid l (8 * k)) (sym longer)
                ∙ ap (log_word size sysid (take (length found + 1) es)) (sym place.at) ∙ none);
            lacked = λ bytes may. elim (stands_fit size (IsAmong count) (IsReadOrLost size state) state has.may.valid loses number word bytes (state (number / pages_of size)) refl place.low may) [
              | inl is ↦ read_is size state number word bytes has.may.valid (read_whole size sysid count es state found has) place.low is ∙ ap (image_word size read) at ∙ lacks.lacked
              | inr zeros ↦ zeros
            ];
          })
    ]

  -- ---- an image that has nothing but old words and zeros

  module _ (image : DiskImage) (old : DiskImageFits size (IsAmong count) (IsOldOrZero size state (end_behind size found)) image) (lawful : IsLawful size sysid image es 0) (none_torn : NoTornPass size (pages_in size image) es) (told : List FoundRecord) (answer : Answer) (decodes : Decodes size (pages_in size image) size None told answer) where
    abbrev told_front : ReadsFront size sysid (pages_in size image) es [] es told
    told_front = front size sysid es has.may.valid has.may.known has.may.narrow has.may.chained has.may.bounded image lawful none_torn told answer decodes

    module _ (never : AreNeverWhole size sysid (take (length found + 1) es) state) where
      abbrev lacked_word : ℕ
      lacked_word = never.page * 1024 + never.word

      lacked_at : 8 * lacked_word ≡ never.page * 8192 + 8 * never.word
      lacked_at = omega arith

      still_lacked : image_word size image (8 * lacked_word) ≡ zero_word
      still_lacked =
          let end = end_behind size found in
          let place = word_stands_at size has.may.valid lacked_word in
          let segment = 8 * lacked_word / size in
          let number = segment * pages_of size + 8 * lacked_word % size / 8192 in
          let word = 8 * lacked_word % size % 8192 / 8 in
          let same_page : number ≡ never.page = omega (arith, place.at, place.low, never.small) in
          let same_word : word ≡ never.word = omega (arith, place.at, place.low, never.small) in
          let bytes = image_word size image (8 * lacked_word) in
          elim (word_fits size (IsAmong count) (IsOldOrZero size state end) segment (8 * lacked_word % size) (image segment) place.within place.low (old segment)) [
            | inl none ↦ none.1
            | inr there ↦ elim there.1.1 [
              | inl stands ↦ never.lacked bytes (subst (λ (p : ℕ). MayStand size state p never.word bytes) same_page (subst (λ (w : ℕ). MayStand size state number w bytes) same_word stands))
              | inr zeros ↦ zeros.1
            ]
          ]

      -- so it does not decode to the next entry
      no_more : firsts < told_front.count → ⊥
      no_more more =
          let next = take (length found + 1) es in
          let low : 8 * lacked_word < end_address_of size (end_position size next) = elim (cases_lt (8 * lacked_word) (end_address_of size (end_position size next))) [
            | inl below ↦ below
            | inr above ↦ absurd (never.wanted (log_word-behind size sysid has.may.valid next (chained_firsts (length found + 1)) (never.page * 8192 + 8 * never.word) (omega (arith, above, lacked_at))))
          ] in
          let longer = front_ends_below size has.may.valid (length found + 1) told_front.count es (omega (arith, more, firsts_are)) in
          let own = own_word size sysid es has.may.valid has.may.known has.may.narrow has.may.chained has.may.bounded image lawful none_torn told answer decodes lacked_word (omega (arith, low, longer)) in
          let none = zero_is size sysid es (8 * lacked_word) has.may.chained (sym still_lacked ∙ own) in
          absurd (never.wanted (ap (log_word size sysid next) (sym lacked_at) ∙ sym (word_of_front (length found + 1) (8 * lacked_word) (omega arith) low) ∙ none))

    fronts : NextIsNeverWhole size sysid es found state → (behind : List FoundRecord) × (found ≡ told ++ behind)
    fronts never =
        let n = told_front.count in
        let less : n ≤ firsts = elim (cases_lt firsts n) [
          | inl more ↦ absurd (no_more (never (omega (arith, more, firsts_are, told_front.within))) more)
          | inr is ↦ is
        ] in
        let is = read_front size sysid count es state found has in
        let first : take n found ≡ told = ap (take n) is.found_is ∙ found_from-take size 0 n (take firsts es) ∙ ap (found_of size) (take-take n firsts es less) ∙ sym told_front.found_is in
        (drop n found, sym (take-append-drop n found) ∙ ap (λ (l : List FoundRecord). l ++ drop n found) first)

pub losses_never_make_next_whole : LossesNeverMakeNextWhole
losses_never_make_next_whole size sysid count es state found has only loses within =
    elim (slice_get_cases es (first_count size sysid count es state found has)).1 [
      | inl next ↦ never_whole size sysid count es state found has only next.0 next.2 loses
      | inr past ↦ absurd (omega (arith, past.0, within, firsts_are size sysid count es state found has))
    ]

pub unsynced_logs_decode_to_fronts : UnsyncedLogsDecodeToFronts
unsynced_logs_decode_to_fronts size sysid count moment m es before found tape image has only never keeps later leaves none_torn told answer decodes =
    let old = keeps.left m later image leaves in
    let lawful = settling_keeps_lawful size sysid count (end_behind size found) moment m es before tape image has.may.valid has.may.chained has.may.lawful keeps later leaves in
    fronts size sysid count es before found has image old lawful none_torn told answer decodes never
