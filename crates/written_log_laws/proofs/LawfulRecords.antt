-- A record that is read in pages that hold nothing but words of a log is the entry that stands there, where no torn record passes.
use Rattle.std.proofs.Common.{◌≡◌, ◌⊎◌, ℕ, zero, suc, ◌+◌, ◌-◌, ◌*◌, ◌/◌, ◌%◌, ◌^◌, ◌<◌, ◌≤◌, Bool, true, eqb, List, [], ◌∷◌, ◌++◌, get_or, take, drop, Option, Some, None, Ok, inl, inr, refl, sym, ap, subst, ◌∙◌, append-nil, arith}
use Rattle.std.specs.Prelude.{◌≢◌}
use Rattle.std.specs.Int.{w32, w64}
use Rattle.std.proofs.lemmas.Bool.{eqb-true, eq-eqb, true≢false}
use Rattle.std.proofs.lemmas.List.{ext_get_or, get_or_past}
use Rattle.std.proofs.lemmas.Nat.{from_le_bytes-to_le_bytes_4, from_le_bytes-to_le_bytes_8}
use Rattle.byte_position.specs.Geometry.{IsSegmentSize}
use Rattle.byte_position.specs.Position.{address_of, first_position}
use Rattle.byte_position.proofs.PositionLaws.{position_of-address_of, is_in_header-address_of}
use Rattle.byte_position.proofs.Words.{address_of-mod_word, address_of-in_word}
use Rattle.wal_crc32c.specs.Crc32c.{crc32c}
use Rattle.wal_spelling.specs.Spelling.{IsLogRecord, assembled, filled, room_of, size_of, word_at}
use Rattle.wal_spelling.specs.Numbers.{number_at}
use Rattle.wal_spelling.proofs.SpellingLaws.{length-filled, room_is}
use Rattle.wal_spelling.proofs.SwitchLaws.{logged_size}
use Rattle.wal_record.specs.Reading.{reading_of}
use Rattle.wal_record.proofs.SpellingReads.{spelling_reads}
use Rattle.wal_types.specs.declared.lsn.Lsn.{Lsn}
use Rattle.wal_page.specs.Order.{Entry, FollowsFrom, IsChained, rooms_of, room_at, end_position, prev_of, finish_of, position_behind}
use Rattle.wal_page.specs.Log.{stream_of, log_byte}
use Rattle.wal_page.proofs.LogByteLaws.{log_byte-fits, log_byte-stream, stream_of-entry}
use Rattle.wal_page.proofs.OrderLaws.{FollowsFrom-parts}
use Rattle.wal_page.proofs.OwnerLaws.{end_position-whole}
use Rattle.wal_page.proofs.StreamLaws.{length-stream_of}
use Rattle.wal_reader.specs.declared.record_place.RecordPlace.{RecordPlace}
use Rattle.wal_reader.specs.declared.found.FoundRecord.{FoundRecord}
use Rattle.wal_reader.specs.Pages.{Pages, as_byte, byte_at, bytes_from}
use Rattle.wal_reader.specs.Decodes.{is_right_prev}
use Rattle.wal_reader.specs.ReadAt.{found_or, read_at}
use Rattle.wal_reader.proofs.PagesLaws.{as_byte-of, length-bytes_from, take-bytes_from}
use Rattle.wal_reader.proofs.RowLaws.{number_at-take}
use Rattle.wal_reader.proofs.SettledLaws.{same_read, size_in_header}
use Rattle.written_log_laws.specs.Torn.{IsSeenTorn, IsTorn, bytes_in}
use Rattle.written_log_laws.specs.Written.{found_entry}
use Rattle.written_log_laws.proofs.LawfulPages.{ArePagesOf}
use Rattle.written_log_laws.proofs.LogPositions.{address_of-below_end}
use Rattle.written_log_laws.proofs.NextEntries.{found_as_entry}
use Rattle.written_log_laws.proofs.ReadRecord.{IsFoundAt, found_at}
use Rattle.written_log_laws.proofs.RecordBytes.{take-filled}
use Rattle.written_log_laws.proofs.WordsOfBytes.{SameWord, ZeroWord, all_or_one, same_eight, same_four, zero_eight}

-- ---- the bytes from a position on

get_or-bytes_from : (size : ℕ) (pages : Pages) (n p j : ℕ) → j < n → get_or (bytes_from size pages n p) j 0 ≡ as_byte (byte_at pages (address_of size (p + j)))
unfolding bytes_from
get_or-bytes_from size pages zero p j lt = absurd (omega arith)
get_or-bytes_from size pages (suc n) p zero lt = ap (λ (q : ℕ). as_byte (byte_at pages (address_of size q))) (omega arith)
get_or-bytes_from size pages (suc n) p (suc j) lt = get_or-bytes_from size pages n (p + 1) j (omega arith) ∙ ap (λ (q : ℕ). as_byte (byte_at pages (address_of size q))) (omega arith)

module _ (size sysid : ℕ) (pages : Pages) (es : List Entry) (upto : ℕ) (valid : IsSegmentSize size) (chained : IsChained size es) (are : ArePagesOf size sysid pages es upto) where
  -- what stands there are bytes
  byte-fits : (address : ℕ) → byte_at pages address < 256
  byte-fits address =
      let at : 8 * (address / 8) + address % 8 ≡ address = omega arith in
      elim (are.words (address / 8)) [
        | inl zeros ↦ omega (arith, ap (byte_at pages) at, zeros (address % 8) (omega arith))
        | inr own ↦ omega (arith, ap (byte_at pages) at, own (address % 8) (omega arith), log_byte-fits size sysid es chained (8 * (address / 8) + address % 8))
      ]

  byte_from : (n p j : ℕ) → j < n → get_or (bytes_from size pages n p) j 0 ≡ byte_at pages (address_of size (p + j))
  byte_from n p j lt = get_or-bytes_from size pages n p j lt ∙ as_byte-of (byte_at pages (address_of size (p + j))) (byte-fits (address_of size (p + j)))

  -- a word of the records, by its position
  word_at_position : (p : ℕ) → p % 8 ≡ 0 → ((i : ℕ) → i < 8 → byte_at pages (address_of size (p + i)) ≡ 0) ⊎ ((i : ℕ) → i < 8 → byte_at pages (address_of size (p + i)) ≡ log_byte size sysid es (address_of size (p + i)))
  word_at_position p whole =
      let k = address_of size p / 8 in
      let at : (i : ℕ) → i < 8 → 8 * k + i ≡ address_of size (p + i) = λ i lt. omega (arith, address_of-mod_word size valid p whole, address_of-in_word size valid p i whole lt) in
      elim (are.words k) [
        | inl zeros ↦ inl (λ i lt. ap (byte_at pages) (sym (at i lt)) ∙ zeros i lt)
        | inr own ↦ inr (λ i lt. ap (byte_at pages) (sym (at i lt)) ∙ own i lt ∙ ap (log_byte size sysid es) (at i lt))
      ]

  log_byte-position : (p : ℕ) → first_position size ≤ p → log_byte size sysid es (address_of size p) ≡ get_or (stream_of size es) (p - first_position size) 0
  log_byte-position p from =
      let position = position_of-address_of size valid p in
      log_byte-stream size sysid es (address_of size p) (is_in_header-address_of size valid p) (omega (arith, position))
      ∙ ap (λ (q : ℕ). get_or (stream_of size es) (q - first_position size) 0) position

  -- no record is read behind the last one
  pub no_record_behind : (place : RecordPlace) (found : FoundRecord) → place.position ≡ end_position size es → read_at size pages None place ≡ Ok found → ⊥
  no_record_behind place found at reads =
      let p = place.position in
      let whole : p % 8 ≡ 0 = omega (arith, at, end_position-whole size valid es chained) in
      let zeros : (i : ℕ) → i < 8 → byte_at pages (address_of size (p + i)) ≡ 0 = elim (word_at_position p whole) [
        | inl nothing ↦ nothing
        | inr own ↦ (λ i lt. own i lt ∙ log_byte-position (p + i) (omega arith) ∙ get_or_past (stream_of size es) (p + i - first_position size) 0 (omega (arith, length-stream_of size es)))
      ] in
      let bytes = bytes_from size pages 24 p in
      let word = zero_eight bytes 0 (λ i lt. let at : 0 + i ≡ i = omega arith in
      ap (λ (j : ℕ). get_or bytes j 0) at ∙ byte_from 24 p i (omega arith) ∙ zeros i lt) in
      let some = (found_at size pages place found reads).some_word in
      true≢false (sym (eq-eqb (number_at w64 bytes 0) 0 word) ∙ some)

  -- ---- an entry of the order

  module _ (front others : List Entry) (e : Entry) (parts : es ≡ front ++ e ∷ others) where
    -- the record before it, its room and its own bytes, and those that stand there
    abbrev prev : ℕ
    prev = prev_of size 0 front

    abbrev room : ℕ
    room = room_of e.value

    abbrev own : List ℕ
    own = filled (assembled e.value) prev

    abbrev here : List ℕ
    here = bytes_in size pages e

    own_parts : IsChained size front × FollowsFrom size (first_position size + rooms_of size front) (e ∷ others)
    own_parts = FollowsFrom-parts size (first_position size) front (e ∷ others) (subst (λ (l : List Entry). IsChained size l) parts chained)

    pub entry_start : e.start ≡ end_position size front
    entry_start = own_parts.1.0

    pub entry_logged : IsLogRecord e.value
    entry_logged = own_parts.1.1

    pub entry_whole : e.start % 8 ≡ 0
    entry_whole = omega (arith, entry_start, end_position-whole size valid front own_parts.0)

    -- its bytes, and behind them 0
    pub own_byte : (j : ℕ) → j < room_at size e.start e.value → log_byte size sysid es (address_of size (e.start + j)) ≡ get_or own j 0
    own_byte j lt =
        let at : e.start + j - first_position size ≡ rooms_of size front + j = omega (arith, entry_start) in
        log_byte-position (e.start + j) (omega (arith, entry_start)) ∙ ap (λ (q : ℕ). get_or (stream_of size es) q 0) at
        ∙ ap (λ (l : List Entry). get_or (stream_of size l) (rooms_of size front + j) 0) parts ∙ stream_of-entry size front others e j lt

    pub here_byte : (j : ℕ) → j < room → get_or here j 0 ≡ byte_at pages (address_of size (e.start + j))
    here_byte j lt = byte_from room e.start j lt

    -- each word of the record is zero or its own
    own_word : (k : ℕ) → 8 * k < room → ZeroWord here k ⊎ SameWord here own k
    own_word k lt =
        let is = room_is (assembled e.value) in
        let within : (i : ℕ) → i < 8 → 8 * k + i < room = λ i less. omega (arith, is) in
        let further : (i : ℕ) → e.start + 8 * k + i ≡ e.start + (8 * k + i) = λ i. omega arith in
        elim (word_at_position (e.start + 8 * k) (omega (arith, entry_whole))) [
          | inl zeros ↦ inl (λ i less. here_byte (8 * k + i) (within i less) ∙ ap (λ (p : ℕ). byte_at pages (address_of size p)) (sym (further i)) ∙ zeros i less)
          | inr owned ↦ inr (λ i less. here_byte (8 * k + i) (within i less) ∙ ap (λ (p : ℕ). byte_at pages (address_of size p)) (sym (further i)) ∙ owned i less ∙ ap (λ (p : ℕ). log_byte size sysid es (address_of size p)) (further i) ∙ own_byte (8 * k + i) (omega (arith, within i less)))
        ]

    -- bytes of which each word is its own are its own
    whole_record : ((k : ℕ) → k < room / 8 → SameWord here own k) → here ≡ own
    whole_record same =
        let is = room_is (assembled e.value) in
        let long = length-bytes_from size pages room e.start in
        ext_get_or 0 here own (long ∙ sym (length-filled (assembled e.value) prev)) (λ j lt.
        let split : 8 * (j / 8) + j % 8 ≡ j = omega arith in
        subst (λ (i : ℕ). get_or here i 0 ≡ get_or own i 0) split (same (j / 8) (omega (arith, is, long)) (j % 8) (omega arith)))

    -- so are those of an entry that ends at or below where the pages are the log's
    pub whole_upto : finish_of size e ≤ upto → here ≡ own
    whole_upto finish =
        let is = room_is (assembled e.value) in
        whole_record (λ k lt i less.
        let j : ℕ = 8 * k + i in
        let within : j < room = omega (arith, is, lt) in
        let below = address_of-below_end size valid (e.start + j) (position_behind size e) (omega (arith, within)) in
        here_byte j within ∙ are.below (address_of size (e.start + j)) (omega (arith, below, finish)) ∙ own_byte j (omega (arith, within)))

    is_torn : (k : ℕ) → k < room / 8 → word_at here k ≢ word_at own k → IsTorn size pages e prev
    is_torn k lt other = record {
      words = λ i within. elim (own_word i within) [ inl zeros ↦ inr (zero_eight here (8 * i) zeros) | inr same ↦ inl (same_eight here own (8 * i) same) ];
      missing = (k, omega (arith, lt), other);
    }

    -- its first word says its size, where it is its own
    size_in_own : SameWord here own 0 → number_at w32 here 0 ≡ size_of e.value
    size_in_own same =
        let small = logged_size e.value entry_logged in
        same_four here own 0 (λ i lt. same i (omega arith)) ∙ from_le_bytes-to_le_bytes_4 (size_of e.value) (omega arith)

    module _ (before : Option Lsn) (timeline : ℕ) (found : FoundRecord) (prev_fits : prev < 2 ^ 64) (known : (before ≡ Some (record { 0 = prev })) ⊎ (front ≡ [])) where
      abbrev place : RecordPlace
      place = record { position = e.start; prev = before; timeline = timeline }

      front_of : (n : ℕ) → n ≤ room → bytes_from size pages n e.start ≡ take n here
      front_of n within = sym (take-bytes_from size pages n room e.start within)

      -- the prev that it names is its own
      own_prev : is_right_prev before (address_of size e.start) (number_at w64 here 8) ≡ true → number_at w64 here 8 ≡ prev
      own_prev right =
          let is = room_is (assembled e.value) in
          elim known [
            | inl behind ↦ eqb-true (number_at w64 here 8) prev (subst (λ (b : Option Lsn). is_right_prev b (address_of size e.start) (number_at w64 here 8) ≡ true) behind right)
            | inr first ↦
                (let none : prev ≡ 0 = ap (λ (l : List Entry). prev_of size 0 l) first in
                elim (own_word 1 (omega (arith, is))) [
                  | inl zeros ↦ zero_eight here 8 zeros ∙ sym none
                  | inr same ↦ same_eight here own 8 same ∙ from_le_bytes-to_le_bytes_8 prev prev_fits
                ])
          ]

      module _ (read : IsFoundAt size pages place found) where
        header_is : bytes_from size pages 24 e.start ≡ take 24 here
        header_is = let is = room_is (assembled e.value) in front_of 24 (omega (arith, is))

        first_word_is : number_at w64 (bytes_from size pages 24 e.start) 0 ≡ number_at w64 here 0
        first_word_is = ap (λ (bytes : List ℕ). number_at w64 bytes 0) header_is ∙ number_at-take w64 here 24 0 (omega arith)

        prev_is : number_at w64 (bytes_from size pages 24 e.start) 8 ≡ prev
        prev_is =
            let same = ap (λ (bytes : List ℕ). number_at w64 bytes 8) header_is ∙ number_at-take w64 here 24 8 (omega arith) in
            same ∙ own_prev (sym (ap (is_right_prev before (address_of size e.start)) same) ∙ read.right_prev)

        not_zero : number_at w64 here 0 ≡ 0 → ⊥
        not_zero none = true≢false (sym (eq-eqb (number_at w64 (bytes_from size pages 24 e.start) 0) 0 (first_word_is ∙ none)) ∙ read.some_word)

        first_is_own : SameWord here own 0
        first_is_own =
            let is = room_is (assembled e.value) in
            elim (own_word 0 (omega (arith, is))) [ inl zeros ↦ absurd (not_zero (zero_eight here 0 zeros)) | inr same ↦ same ]

        pub total_is : number_at w32 (bytes_from size pages 8 e.start) 0 ≡ size_of e.value
        total_is =
            let is = room_is (assembled e.value) in
            ap (λ (bytes : List ℕ). number_at w32 bytes 0) (front_of 8 (omega (arith, is))) ∙ number_at-take w32 here 8 0 (omega arith)
            ∙ size_in_own first_is_own

        record_is : bytes_from size pages (size_of e.value) e.start ≡ take (size_of e.value) here
        record_is = let is = room_is (assembled e.value) in front_of (size_of e.value) (omega (arith, is))

        -- it is not seen to be torn
        unseen : IsSeenTorn size pages e prev → ⊥
        unseen seen =
            let is = room_is (assembled e.value) in
            let small = logged_size e.value entry_logged in
            let long : 24 ≤ size_of e.value = omega arith in
            let crc_right : List ℕ → Bool = λ whole. eqb (crc32c (drop 24 whole ++ take 20 whole)) (number_at w32 whole 20) in
            elim seen [
              | inl none ↦ not_zero (sym (number_at-take w64 here (size_of e.value) 0 (omega (arith, long))) ∙ none)
              | inr (inl other) ↦ other (number_at-take w64 here (size_of e.value) 8 (omega (arith, long)) ∙ sym (number_at-take w64 here 24 8 (omega arith)) ∙ sym (ap (λ (bytes : List ℕ). number_at w64 bytes 8) header_is) ∙ prev_is)
              | inr (inr other) ↦
                  (let passes : crc_right (take (size_of e.value) here) ≡ true = ap crc_right (sym record_is) ∙ ap (λ (n : ℕ). crc_right (bytes_from size pages n e.start)) (sym total_is) ∙ read.right_crc in
                  other (sym (eqb-true _ _ passes)))
            ]

        -- so it is whole
        pub is_whole : (IsTorn size pages e prev → IsSeenTorn size pages e prev) → here ≡ own
        is_whole no_pass =
            let is = room_is (assembled e.value) in
            elim (all_or_one here own (room / 8) (λ k lt. own_word k (omega (arith, lt)))) [
              | inl same ↦ whole_record same
              | inr other ↦ absurd (unseen (no_pass (is_torn other.0 other.1 other.2)))
            ]

        -- and is read as the entry
        is_entry : (IsTorn size pages e prev → IsSeenTorn size pages e prev) → found ≡ found_entry size prev e
        is_entry no_pass =
            let whole = is_whole no_pass in
            let n = size_of e.value in
            let claimed = number_at w32 (bytes_from size pages 24 e.start) 0 in
            let claimed_is : claimed ≡ n = size_in_header size pages None place ∙ total_is in
            let bytes : bytes_from size pages claimed e.start ≡ take n (own ++ []) = ap (λ (m : ℕ). bytes_from size pages m e.start) claimed_is ∙ record_is ∙ ap (take n) (whole ∙ sym (append-nil own)) in
            let reads = ap reading_of (bytes ∙ take-filled (assembled e.value) prev []) ∙ spelling_reads e.value prev entry_logged prev_fits in
            let told = sym read.spelled ∙ ap (found_or size place claimed (number_at w64 (bytes_from size pages 24 e.start) 8)) reads
            ∙ ap (λ (m : ℕ). found_or size place m (number_at w64 (bytes_from size pages 24 e.start) 8) (Ok e.value)) claimed_is
            ∙ ap (λ (m : ℕ). found_or size place n m (Ok e.value)) prev_is
            ∙ ap (λ (f : FoundRecord). Ok f) (found_as_entry size valid place prev e entry_whole refl) in
            same_read found (found_entry size prev e) told

      -- an entry that is read where it stands is read as it is
      pub entry_or_nothing : (IsTorn size pages e prev → IsSeenTorn size pages e prev) → read_at size pages None place ≡ Ok found → found ≡ found_entry size prev e
      entry_or_nothing no_pass reads = is_entry (found_at size pages place found reads) no_pass
