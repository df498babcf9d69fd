-- Laws of the log's words, for the proofs of this crate and of those above.
use Rattle.std.proofs.Common.{◌≡◌, ℕ, zero, suc, ◌+◌, ◌-◌, ◌*◌, ◌/◌, ◌%◌, ◌<◌, ◌≤◌, cond, ltb, true, false, List, [], ◌∷◌, ◌++◌, length, get_or, take, drop, All, None, refl, ap, subst, sym, ◌∙◌, inl, inr, arith}
use Rattle.std.specs.Int.{w64, from_le_bytes, to_le_bytes}
use Rattle.std.proofs.lemmas.Bool.{cases_Bool, cases_lt, cond-true, cond-false, le-ltb, lt-ltb}
use Rattle.std.proofs.lemmas.List.{get_or-take, get_or-drop, get_or_past, length-take, length-drop}
use Rattle.std.proofs.lemmas.List.Elements.{All-from_recursion}
use Rattle.byte_position.specs.Geometry.{IsSegmentSize}
use Rattle.byte_position.specs.Position.{is_in_header, position_of, end_address_of, first_position}
use Rattle.byte_position.proofs.HeaderSizes.{header_size_bounds}
use Rattle.wal_spelling.specs.Record.{switch_record}
use Rattle.wal_spelling.specs.Spelling.{Assembled, assembled, assembled_room, filled, room_of, word_at}
use Rattle.wal_spelling.proofs.SpellingLaws.{length-filled}
use Rattle.wal_spelling.proofs.SwitchLaws.{room-switch}
use Rattle.wal_spelling.proofs.Bytes.{IsBytes-from_All, IsBytes-take, IsBytes-drop, wide64}
use Rattle.wal_page.specs.Order.{Entry, IsChained, position_behind, rooms_of, prev_of}
use Rattle.wal_page.specs.Page.{header_size, page_header}
use Rattle.wal_page.specs.Log.{stream_of, owner_of, owner_at, remaining_at, header_byte, log_byte, log_word}
use Rattle.wal_page.specs.LogPage.{IsLogPage}
use Rattle.wal_page.specs.Placed.{IsWordOfLog, Owns, entry_word, header_word, still_to_come}
use Rattle.wal_page.proofs.OrderLaws.{FollowsFrom-parts, prev_in-entry}
use Rattle.wal_page.proofs.WordPositions.{is_in_header-word, position_of-header_word, position_of-own_word, position_of-whole, first_position-whole, in_header-page, position_of-header_of_page}
use Rattle.wal_page.proofs.OwnerLaws.{owner_at-entry_iff, owner_of-entry, owner_of-none_where, owner_of-none_before, owner_of-none_behind, owns_or_not, end_position-whole, rooms_of-whole, start-whole}
use Rattle.wal_page.proofs.PaddingLaws.{assembled_room_at-whole, room_at-whole}
use Rattle.wal_page.proofs.LogByteLaws.{header_byte-own, header_byte-padding, log_byte-header, log_byte-stream, stream_of-entry, log_byte_push, log_byte-unowned, log_byte-behind, log_byte-fits}

-- ---- a word is its bytes

log_word-reads : (size sysid : ℕ) (es : List Entry) (a : ℕ) (bytes : List ℕ) → ((i : ℕ) → i < 8 → log_byte size sysid es (a + i) ≡ get_or bytes i 0) → log_word size sysid es a ≡ from_le_bytes w64 bytes
log_word-reads size sysid es a bytes h =
    rw (h 0 (omega arith), h 1 (omega arith), h 2 (omega arith), h 3 (omega arith), h 4 (omega arith), h 5 (omega arith), h 6 (omega arith), h 7 (omega arith)) refl

log_word-zero : (size sysid : ℕ) (es : List Entry) (a : ℕ) → ((i : ℕ) → i < 8 → log_byte size sysid es (a + i) ≡ 0) → log_word size sysid es a ≡ 0
log_word-zero size sysid es a h = log_word-reads size sysid es a [] h

word_at-reads : (bytes : List ℕ) (n i : ℕ) → i < 8 → get_or bytes (8 * n + i) 0 ≡ get_or (take 8 (drop (8 * n) bytes)) i 0
word_at-reads bytes n i lt = sym (get_or-take 8 (drop (8 * n) bytes) i 0 lt ∙ get_or-drop (8 * n) bytes i 0)

-- the bytes of a word
abbrev pub bytes_at : ℕ → ℕ → List Entry → ℕ → List ℕ
bytes_at size sysid es a =
    let byte = λ (k : ℕ). log_byte size sysid es (a + k) in
    byte 0 ∷ byte 1 ∷ byte 2 ∷ byte 3 ∷ byte 4 ∷ byte 5 ∷ byte 6 ∷ byte 7 ∷ []

pub log_word_bytes : (size sysid : ℕ) (es : List Entry) → IsChained size es → (a : ℕ) → to_le_bytes w64 (log_word size sysid es a) ≡ bytes_at size sysid es a
log_word_bytes size sysid es chain a =
    let fits = λ (k : ℕ). log_byte-fits size sysid es chain (a + k) in
    let all : All (λ b. b < 256) (bytes_at size sysid es a) = All-from_recursion (λ b. b < 256) (bytes_at size sysid es a) (fits 0, (fits 1, (fits 2, (fits 3, (fits 4, (fits 5, (fits 6, (fits 7, tt)))))))) in
    wide64.back (bytes_at size sysid es a) refl (IsBytes-from_All (bytes_at size sysid es a) all)

bytes_at-reads : (size sysid : ℕ) (es : List Entry) (a i : ℕ) → i < 8 → get_or (bytes_at size sysid es a) i 0 ≡ log_byte size sysid es (a + i)
bytes_at-reads size sysid es a zero lt = refl
bytes_at-reads size sysid es a (suc zero) lt = refl
bytes_at-reads size sysid es a (suc (suc zero)) lt = refl
bytes_at-reads size sysid es a (suc (suc (suc zero))) lt = refl
bytes_at-reads size sysid es a (suc (suc (suc (suc zero)))) lt = refl
bytes_at-reads size sysid es a (suc (suc (suc (suc (suc zero))))) lt = refl
bytes_at-reads size sysid es a (suc (suc (suc (suc (suc (suc zero)))))) lt = refl
bytes_at-reads size sysid es a (suc (suc (suc (suc (suc (suc (suc zero))))))) lt = refl
bytes_at-reads size sysid es a (suc (suc (suc (suc (suc (suc (suc (suc i)))))))) lt = absurd (omega arith)

pub log_word_byte : (size sysid : ℕ) (es : List Entry) → IsChained size es → (a i : ℕ) → i < 8 → get_or (to_le_bytes w64 (log_word size sysid es a)) i 0 ≡ log_byte size sysid es (a + i)
log_word_byte size sysid es chain a i lt = ap (λ (bytes : List ℕ). get_or bytes i 0) (log_word_bytes size sysid es chain a) ∙ bytes_at-reads size sysid es a i lt

-- ---- a page is its words

pub IsLogPage-from_words : (size sysid : ℕ) (es : List Entry) → IsChained size es → (page : ℕ) (bytes : List ℕ) → length bytes ≡ 8192 → ((n : ℕ) → n < 1024 → take 8 (drop (8 * n) bytes) ≡ to_le_bytes w64 (log_word size sysid es (page * 8192 + 8 * n))) → IsLogPage size sysid es page bytes
IsLogPage-from_words size sysid es chain page bytes long words = record {
  long = long;
  each = λ k lt.
      let n = k / 8 in
      let i = k % 8 in
      let split : 8 * n + i ≡ k = omega arith in
      let at : page * 8192 + 8 * n + i ≡ page * 8192 + k = omega arith in
      ap (λ (j : ℕ). get_or bytes j 0) (sym split)
      ∙ word_at-reads bytes n i (omega arith)
      ∙ ap (λ (word : List ℕ). get_or word i 0) (words n (omega arith))
      ∙ log_word_byte size sysid es chain (page * 8192 + 8 * n) i (omega arith)
      ∙ ap (log_byte size sysid es) at;
}

pub IsLogPage-from_numbers : (size sysid : ℕ) (es : List Entry) → IsChained size es → (page : ℕ) (bytes : List ℕ) → length bytes ≡ 8192 → All (λ b. b < 256) bytes → ((n : ℕ) → n < 1024 → word_at bytes n ≡ log_word size sysid es (page * 8192 + 8 * n)) → IsLogPage size sysid es page bytes
IsLogPage-from_numbers size sysid es chain page bytes long fits words =
    IsLogPage-from_words size sysid es chain page bytes long (λ n lt.
    let word = take 8 (drop (8 * n) bytes) in
    let eight : length word ≡ 8 = omega (arith, length-take 8 (drop (8 * n) bytes), length-drop (8 * n) bytes) in
    sym (wide64.back word eight (IsBytes-take 8 (drop (8 * n) bytes) (IsBytes-drop (8 * n) bytes (IsBytes-from_All bytes fits)))) ∙ ap (to_le_bytes w64) (words n lt))

-- ---- the words of an entry

module _ (size sysid : ℕ) (valid : IsSegmentSize size) where
  log_byte-of_header : (front back : List Entry) (e : Entry) → IsChained size (front ++ e ∷ back) → (a : ℕ) → a % 8 ≡ 0 → Owns size (assembled e.value) e.start a → is_in_header size a ≡ true → position_of size a < e.start + room_of e.value → (i : ℕ) → i < 8
      → log_byte size sysid (front ++ e ∷ back) (a + i) ≡ get_or (page_header size sysid (a / 8192) (remaining_at e (position_of size a))) (8 * (a % 8192 / 8) + i) 0
  log_byte-of_header front back e chain a whole owns inside below i lt =
      let es = front ++ e ∷ back in
      let p = position_of size a in
      let same = position_of-header_word size valid a i whole (omega arith) inside in
      let page : (a + i) / 8192 ≡ a / 8192 = omega arith in
      let place : (a + i) % 8192 ≡ 8 * (a % 8192 / 8) + i = omega arith in
      let owner = owner_of-entry size (first_position size) front back e chain p owns.0 owns.1 in
      log_byte-header size sysid es (a + i) (is_in_header-word size valid a i whole lt ∙ inside)
      ∙ ap (λ (q : ℕ). header_byte size sysid (a + i) q (owner_of size es q)) same
      ∙ ap (header_byte size sysid (a + i) p) owner
      ∙ header_byte-own size sysid (a + i) p e below
      ∙ ap (λ (q : ℕ). get_or (page_header size sysid q (remaining_at e p)) ((a + i) % 8192) 0) page
      ∙ ap (λ (q : ℕ). get_or (page_header size sysid (a / 8192) (remaining_at e p)) q 0) place

  log_byte-of_record : (front back : List Entry) (e : Entry) → IsChained size (front ++ e ∷ back) → (a : ℕ) → a % 8 ≡ 0 → Owns size (assembled e.value) e.start a → is_in_header size a ≡ false → (i : ℕ) → i < 8
      → log_byte size sysid (front ++ e ∷ back) (a + i) ≡ get_or (filled (assembled e.value) (prev_of size 0 front)) (8 * ((position_of size a - e.start) / 8) + i) 0
  log_byte-of_record front back e chain a whole owns outside i lt =
      let es = front ++ e ∷ back in
      let p = position_of size a in
      let first = first_position size in
      let next = position_of-own_word size valid a i whole (omega arith) outside in
      let parts = FollowsFrom-parts size first front (e ∷ back) chain in
      let whole_start = start-whole size valid front back e chain in
      let whole_position = position_of-whole size valid a whole in
      let room = room_at-whole size valid e.start e.value whole_start in
      let k : ℕ = 8 * ((p - e.start) / 8) + i in
      let at : position_of size (a + i) - first ≡ rooms_of size front + k = omega (arith, next, parts.1.0, whole_start, whole_position, owns.0) in
      log_byte-stream size sysid es (a + i) (is_in_header-word size valid a i whole lt ∙ outside) (omega (arith, next, parts.1.0, owns.0))
      ∙ ap (λ (q : ℕ). get_or (stream_of size es) q 0) at
      ∙ stream_of-entry size front back e k (omega (arith, whole_start, whole_position, room, owns.0, owns.1))

  -- behind a switch's bytes, which are whole words, its headers and its own bytes are 0
  log_byte-of_padding : (front back : List Entry) (e : Entry) → IsChained size (front ++ e ∷ back) → (a : ℕ) → a % 8 ≡ 0 → Owns size (assembled e.value) e.start a → e.start + room_of e.value ≤ position_of size a → (i : ℕ) → i < 8
      → log_byte size sysid (front ++ e ∷ back) (a + i) ≡ 0
  log_byte-of_padding front back e chain a whole owns behind i lt =
      let es = front ++ e ∷ back in
      let p = position_of size a in
      let whole_start = start-whole size valid front back e chain in
      let whole_position = position_of-whole size valid a whole in
      let own = filled (assembled e.value) (prev_of size 0 front) in
      elim (cases_Bool (is_in_header size a)) [
        | inl inside ↦ (
            let same = position_of-header_word size valid a i whole (omega arith) inside in
            let owner = owner_of-entry size (first_position size) front back e chain p owns.0 owns.1 in
            log_byte-header size sysid es (a + i) (is_in_header-word size valid a i whole lt ∙ inside)
            ∙ ap (λ (q : ℕ). header_byte size sysid (a + i) q (owner_of size es q)) same
            ∙ ap (header_byte size sysid (a + i) p) owner
            ∙ header_byte-padding size sysid (a + i) p e behind
            )
        | inr outside ↦ log_byte-of_record front back e chain a whole owns outside i lt ∙ get_or_past own (8 * ((p - e.start) / 8) + i) 0 (omega (arith, length-filled (assembled e.value) (prev_of size 0 front), whole_start, whole_position, behind))
      ]

  pub log_word-padding : (front back : List Entry) (e : Entry) → IsChained size (front ++ e ∷ back) → (a : ℕ) → a % 8 ≡ 0 → Owns size (assembled e.value) e.start a → e.start + room_of e.value ≤ position_of size a → log_word size sysid (front ++ e ∷ back) a ≡ 0
  log_word-padding front back e chain a whole owns behind = log_word-zero size sysid (front ++ e ∷ back) a (log_byte-of_padding front back e chain a whole owns behind)

  -- so are all words between a switch and the next entry
  pub log_word-behind_switch : (front back : List Entry) (e : Entry) → IsChained size (front ++ e ∷ back) → e.value ≡ switch_record → (a : ℕ) → a % 8 ≡ 0 → e.start + 24 ≤ position_of size a → position_of size a < position_behind size e → log_word size sysid (front ++ e ∷ back) a ≡ 0
  log_word-behind_switch front back e chain switch a whole behind within =
      let room : room_of e.value ≡ 24 = ap room_of switch ∙ room-switch in
      log_word-padding front back e chain a whole (omega arith, within) (omega (arith, room, behind))

  -- what a record gives: a header's word or its own up to its room's end, and 0 behind it
  pub entry_word-inside : (a : Assembled) (start prev address : ℕ) → position_of size address < start + assembled_room a
      → entry_word size sysid a start prev address ≡ cond (is_in_header size address) (word_at (page_header size sysid (address / 8192) (still_to_come a start (position_of size address))) (address % 8192 / 8)) (word_at (filled a prev) ((position_of size address - start) / 8))
  entry_word-inside a start prev address below =
      cond-true (ltb (position_of size address) (start + assembled_room a)) _ 0 (lt-ltb (position_of size address) (start + assembled_room a) below)

  pub entry_word-padding : (a : Assembled) (start prev address : ℕ) → start + assembled_room a ≤ position_of size address → entry_word size sysid a start prev address ≡ 0
  entry_word-padding a start prev address behind =
      cond-false (ltb (position_of size address) (start + assembled_room a)) _ 0 (le-ltb (position_of size address) (start + assembled_room a) behind)

  -- the log's word at an address that an entry owns is the word that the entry gives
  pub log_word-entry : (front back : List Entry) (e : Entry) → IsChained size (front ++ e ∷ back) → (a : ℕ) → a % 8 ≡ 0 → Owns size (assembled e.value) e.start a
      → log_word size sysid (front ++ e ∷ back) a ≡ entry_word size sysid (assembled e.value) e.start (prev_of size 0 front) a
  log_word-entry front back e chain a whole owns =
      let es = front ++ e ∷ back in
      let p = position_of size a in
      let prev = prev_of size 0 front in
      let header = page_header size sysid (a / 8192) (remaining_at e p) in
      let own = filled (assembled e.value) prev in
      elim (cases_lt p (e.start + room_of e.value)) [
        | inl below ↦ elim (cases_Bool (is_in_header size a)) [
          | inl inside ↦ log_word-reads size sysid es a (take 8 (drop (8 * (a % 8192 / 8)) header)) (λ i lt. log_byte-of_header front back e chain a whole owns inside below i lt ∙ word_at-reads header (a % 8192 / 8) i lt) ∙ sym (cond-true (is_in_header size a) (word_at header (a % 8192 / 8)) (word_at own ((p - e.start) / 8)) inside)
          | inr outside ↦ log_word-reads size sysid es a (take 8 (drop (8 * ((p - e.start) / 8)) own)) (λ i lt. log_byte-of_record front back e chain a whole owns outside i lt ∙ word_at-reads own ((p - e.start) / 8) i lt) ∙ sym (cond-false (is_in_header size a) (word_at header (a % 8192 / 8)) (word_at own ((p - e.start) / 8)) outside)
        ] ∙ sym (entry_word-inside (assembled e.value) e.start prev a below)
        | inr behind ↦ log_word-padding front back e chain a whole owns behind ∙ sym (entry_word-padding (assembled e.value) e.start prev a behind)
      ]

  -- what a record gives at its place is the log's word, in each order that holds it there
  pub entry_word-is_word_of_log : (a : Assembled) (start prev next address word : ℕ) → address % 8 ≡ 0 → Owns size a start address → word ≡ entry_word size sysid a start prev address
      → IsWordOfLog (record { size = size; sysid = sysid; body = a; start = start; prev = prev; next = next }) address word
  entry_word-is_word_of_log a start prev next address word whole owns gives front back e chain at same behind =
      let owns_at : Owns size a e.start address = subst (λ (s : ℕ). Owns size a s address) (sym at) owns in
      let owns_e : Owns size (assembled e.value) e.start address = subst (λ (b : Assembled). Owns size b e.start address) (sym same) owns_at in (
        (owner_at-entry_iff size front back e chain address).1 owns_e,
        gives
            ∙ ap (λ (s : ℕ). entry_word size sysid a s prev address) (sym at)
            ∙ ap (λ (b : Assembled). entry_word size sysid b e.start prev address) (sym same)
            ∙ ap (λ (q : ℕ). entry_word size sysid (assembled e.value) e.start q address) (sym behind ∙ prev_in-entry size front back e chain)
            ∙ sym (log_word-entry front back e chain address whole owns_e),
      )

  -- a header's words are the header's
  pub entry_word-header_word : (a : Assembled) (start prev page n : ℕ) → 8 * n < header_size size page → entry_word size sysid a start prev (page * 8192 + 8 * n) ≡ header_word size sysid page a start n
  entry_word-header_word a start prev page n within =
      let at = page * 8192 + 8 * n in
      let first = position_of size (page * 8192) in
      let bounds = header_size_bounds size valid page in
      let inside = in_header-page size valid page n within in
      let same = position_of-header_of_page size valid page n within in
      let page_is : at / 8192 ≡ page = omega (arith, bounds.1) in
      let place : at % 8192 / 8 ≡ n = omega (arith, bounds.1) in
      let header : ℕ = word_at (page_header size sysid page (still_to_come a start first)) n in
      elim (cases_lt first (start + assembled_room a)) [
        | inl below ↦ entry_word-inside a start prev at (omega (arith, same, below))
            ∙ cond-true (is_in_header size at) _ _ inside
            ∙ ap (λ (q : ℕ). word_at (page_header size sysid (at / 8192) (still_to_come a start q)) (at % 8192 / 8)) same
            ∙ ap (λ (q : ℕ). word_at (page_header size sysid q (still_to_come a start first)) (at % 8192 / 8)) page_is
            ∙ ap (word_at (page_header size sysid page (still_to_come a start first))) place
            ∙ sym (cond-true (ltb first (start + assembled_room a)) header 0 (lt-ltb first (start + assembled_room a) below))
        | inr behind ↦ entry_word-padding a start prev at (omega (arith, same, behind)) ∙ sym (cond-false (ltb first (start + assembled_room a)) header 0 (le-ltb first (start + assembled_room a) behind))
      ]

  -- ---- words that an entry leaves

  position_in_word : (a i : ℕ) → a % 8 ≡ 0 → i < 8 → (position_of size a % 8 ≡ 0) × (position_of size a ≤ position_of size (a + i)) × (position_of size (a + i) < position_of size a + 8)
  position_in_word a i whole lt =
      let here = position_of-whole size valid a whole in
      elim (cases_Bool (is_in_header size a)) [
        | inl inside ↦ (let same = position_of-header_word size valid a i whole (omega arith) inside in (here, omega arith, omega arith))
        | inr outside ↦ (let next = position_of-own_word size valid a i whole (omega arith) outside in (here, omega arith, omega arith))
      ]

  -- a whole word is an entry's or none of its bytes is
  owns_in_word : (a : Assembled) (start : ℕ) → start % 8 ≡ 0 → (address i : ℕ) → address % 8 ≡ 0 → i < 8 → (Owns size a start address → ⊥) → Owns size a start (address + i) → ⊥
  owns_in_word a start whole_start address i whole lt not_owned owns =
      let at = position_in_word address i whole lt in
      let room = assembled_room_at-whole size valid start a whole_start in
      elim (owns_or_not size a start address not_owned) [ inl before ↦ omega (arith, at.0, at.1, at.2, owns.0) | inr behind ↦ omega (arith, at.0, at.1, at.2, room, owns.1) ]

  pub log_word_push : (es : List Entry) (e : Entry) → IsChained size es → e.start ≡ first_position size + rooms_of size es → (a : ℕ) → a % 8 ≡ 0 → (Owns size (assembled e.value) e.start a → ⊥) → log_word size sysid (es ++ e ∷ []) a ≡ log_word size sysid es a
  log_word_push es e chain at a whole not_owned =
      let whole_start : e.start % 8 ≡ 0 = omega (arith, at, end_position-whole size valid es chain) in
      log_word-reads size sysid (es ++ e ∷ []) a (bytes_at size sysid es a) (λ i lt. log_byte_push size sysid es e at (a + i) (owns_in_word (assembled e.value) e.start whole_start a i whole lt not_owned) ∙ sym (bytes_at-reads size sysid es a i lt))

  pub log_word-unowned : (es : List Entry) → IsChained size es → (a : ℕ) → a % 8 ≡ 0 → owner_at size es a ≡ None → log_word size sysid es a ≡ 0
  log_word-unowned es chain a whole none =
      let first = first_position size in
      let wholes : (first % 8 ≡ 0) × (rooms_of size es % 8 ≡ 0) = (first_position-whole size valid, rooms_of-whole size valid es chain) in
      log_word-zero size sysid es a (λ i lt.
      let at = position_in_word a i whole lt in
      log_byte-unowned size sysid es chain (a + i) (elim (owner_of-none_where size first es chain (position_of size a) none) [
        | inl before ↦ owner_of-none_before size first es chain (position_of size (a + i)) (omega (arith, at.0, at.2, wholes.0))
        | inr behind ↦ owner_of-none_behind size first es chain (position_of size (a + i)) (omega (arith, at.1))
      ]))

  pub log_word-behind : (es : List Entry) → IsChained size es → (a : ℕ) → end_address_of size (first_position size + rooms_of size es) ≤ a → log_word size sysid es a ≡ 0
  log_word-behind es chain a behind = log_word-zero size sysid es a (λ i lt. log_byte-behind size sysid valid es chain (a + i) (omega arith))
