-- Laws of the log's bytes, for the proofs of this crate and of those above.
use Rattle.std.proofs.Common.{◌≡◌, ℕ, ◌+◌, ◌-◌, ◌*◌, ◌/◌, ◌%◌, ◌<◌, ◌≤◌, ltb, true, false, cond, List, [], ◌∷◌, ◌++◌, get_or, replicate, Option, Some, None, refl, ap, sym, subst, ◌∙◌, append_assoc, inl, inr, arith}
use Rattle.std.specs.Int.{w32, w64, to_le_bytes}
use Rattle.std.proofs.lemmas.Bool.{cases_lt, cases_Bool, lt-ltb, le-ltb, cond-true, cond-false, cond_both}
use Rattle.std.proofs.lemmas.List.{get_or_append_left, get_or-append_right, get_or_past}
use Rattle.std.proofs.lemmas.List.Elements.{All-nil, All-from_recursion, All-replicate}
use Rattle.byte_position.specs.Geometry.{IsSegmentSize}
use Rattle.byte_position.specs.Position.{is_in_header, position_of, address_of, end_address_of, first_position}
use Rattle.wal_spelling.specs.Spelling.{assembled, filled, room_of}
use Rattle.wal_spelling.proofs.Bytes.{IsBytes-from_All}
use Rattle.wal_spelling.proofs.AfterHeader.{AreBytes, bytes_and, bytes16, bytes32, bytes64}
use Rattle.wal_spelling.proofs.SpellingLaws.{ready, bytes_filled}
use Rattle.wal_page.specs.Order.{Entry, FollowsFrom, IsChained, padding_at, position_behind, rooms_of, prev_of, room_at}
use Rattle.wal_page.specs.Page.{is_first_page, page_header}
use Rattle.wal_page.specs.Log.{bytes_of_entry, stream_from, stream_of, owner_of, owner_at, remaining_at, header_byte, log_byte}
use Rattle.wal_page.specs.Placed.{Owns}
use Rattle.wal_page.proofs.OrderLaws.{rooms_of_push}
use Rattle.wal_page.proofs.StreamLaws.{bytes_of_entry-reads, length-bytes_of_entry, stream_of_push, length-stream_of}
use Rattle.wal_page.proofs.OwnerLaws.{owner_of_push, owner_of-none_where, owns_or_not, owner_at-none_behind}

-- ---- the three cases: a header's byte, one before the log's first position, a record's

pub log_byte-header : (size sysid : ℕ) (es : List Entry) (a : ℕ) → is_in_header size a ≡ true → log_byte size sysid es a ≡ header_byte size sysid a (position_of size a) (owner_of size es (position_of size a))
log_byte-header size sysid es a inside = cond-true (is_in_header size a) _ _ inside

pub log_byte-before : (size sysid : ℕ) (es : List Entry) (a : ℕ) → is_in_header size a ≡ false → position_of size a < first_position size → log_byte size sysid es a ≡ 0
log_byte-before size sysid es a outside before =
    cond-false (is_in_header size a) _ _ outside ∙ cond-true (ltb (position_of size a) (first_position size)) _ _ (lt-ltb (position_of size a) (first_position size) before)

pub log_byte-stream : (size sysid : ℕ) (es : List Entry) (a : ℕ) → is_in_header size a ≡ false → first_position size ≤ position_of size a → log_byte size sysid es a ≡ get_or (stream_of size es) (position_of size a - first_position size) 0
log_byte-stream size sysid es a outside from =
    cond-false (is_in_header size a) _ _ outside ∙ cond-false (ltb (position_of size a) (first_position size)) _ _ (le-ltb (position_of size a) (first_position size) from)

-- a header's byte is its entry's, and 0 where the page holds nothing but the zeros behind a switch

pub header_byte-own : (size sysid a p : ℕ) (e : Entry) → p < e.start + room_of e.value → header_byte size sysid a p (Some e) ≡ get_or (page_header size sysid (a / 8192) (remaining_at e p)) (a % 8192) 0
header_byte-own size sysid a p e below =
    cond-true (ltb p (e.start + room_of e.value)) (get_or (page_header size sysid (a / 8192) (remaining_at e p)) (a % 8192) 0) 0 (lt-ltb p (e.start + room_of e.value) below)

pub header_byte-padding : (size sysid a p : ℕ) (e : Entry) → e.start + room_of e.value ≤ p → header_byte size sysid a p (Some e) ≡ 0
header_byte-padding size sysid a p e behind =
    cond-false (ltb p (e.start + room_of e.value)) (get_or (page_header size sysid (a / 8192) (remaining_at e p)) (a % 8192) 0) 0 (le-ltb p (e.start + room_of e.value) behind)

-- ---- the records' bytes

pub stream_from-append : (size prev : ℕ) (es fs : List Entry) → stream_from size prev (es ++ fs) ≡ stream_from size prev es ++ stream_from size (prev_of size prev es) fs
stream_from-append size prev [] fs = refl
stream_from-append size prev (e ∷ es) fs =
    let first = bytes_of_entry size prev e in
    let start = address_of size e.start in
    ap (λ (bytes : List ℕ). first ++ bytes) (stream_from-append size start es fs) ∙ sym (append_assoc first (stream_from size start es) (stream_from size (prev_of size start es) fs))

-- an entry's bytes stand behind those of the entries before it; behind the record's own they are 0, as what is read behind a list is
pub stream_of-entry : (size : ℕ) (front back : List Entry) (e : Entry) (k : ℕ) → k < room_at size e.start e.value → get_or (stream_of size (front ++ e ∷ back)) (rooms_of size front + k) 0 ≡ get_or (filled (assembled e.value) (prev_of size 0 front)) k 0
stream_of-entry size front back e k within =
    let before = stream_of size front in
    let own = bytes_of_entry size (prev_of size 0 front) e in
    let rest = stream_from size (address_of size e.start) back in
    let split : stream_of size (front ++ e ∷ back) ≡ before ++ (own ++ rest) = stream_from-append size 0 front (e ∷ back) in
    let at : rooms_of size front + k - rooms_of size front ≡ k = omega arith in
    ap (λ (bytes : List ℕ). get_or bytes (rooms_of size front + k) 0) split
    ∙ get_or-append_right before (own ++ rest) (rooms_of size front) (rooms_of size front + k) 0 (length-stream_of size front) (omega arith)
    ∙ ap (λ (i : ℕ). get_or (own ++ rest) i 0) at
    ∙ get_or_append_left own rest 0 k (omega (arith, length-bytes_of_entry size (prev_of size 0 front) e))
    ∙ bytes_of_entry-reads size (prev_of size 0 front) e k

-- ---- an entry that follows

-- an entry that follows gives no byte that it does not own
pub log_byte_push : (size sysid : ℕ) (es : List Entry) (e : Entry) → e.start ≡ first_position size + rooms_of size es → (a : ℕ) → (Owns size (assembled e.value) e.start a → ⊥) → log_byte size sysid (es ++ e ∷ []) a ≡ log_byte size sysid es a
log_byte_push size sysid es e at a not_owned =
    let p = position_of size a in
    let more = es ++ e ∷ [] in
    let away = owns_or_not size (assembled e.value) e.start a not_owned in
    let long = length-stream_of size es in
    let own = bytes_of_entry size (prev_of size 0 es) e in
    elim (cases_Bool (is_in_header size a)) [
      | inl inside ↦ log_byte-header size sysid more a inside ∙ ap (header_byte size sysid a p) (owner_of_push size es e p away) ∙ sym (log_byte-header size sysid es a inside)
      | inr outside ↦ elim (cases_lt p (first_position size)) [
        | inl before ↦ log_byte-before size sysid more a outside before ∙ sym (log_byte-before size sysid es a outside before)
        | inr from ↦ log_byte-stream size sysid more a outside from ∙ elim away [
          | inl below ↦ ap (λ (bytes : List ℕ). get_or bytes (p - first_position size) 0) (stream_of_push size es e) ∙ get_or_append_left (stream_of size es) own 0 (p - first_position size) (omega (arith, at, long))
          | inr behind ↦ get_or_past (stream_of size more) (p - first_position size) 0 (omega (arith, at, length-stream_of size more, rooms_of_push size es e)) ∙ sym (get_or_past (stream_of size es) (p - first_position size) 0 (omega (arith, at, long)))
        ] ∙ sym (log_byte-stream size sysid es a outside from)
      ]
    ]

-- ---- bytes that nobody owns

pub log_byte-unowned : (size sysid : ℕ) (es : List Entry) → IsChained size es → (a : ℕ) → owner_at size es a ≡ None → log_byte size sysid es a ≡ 0
log_byte-unowned size sysid es chain a none =
    let p = position_of size a in
    elim (cases_Bool (is_in_header size a)) [
      | inl inside ↦ log_byte-header size sysid es a inside ∙ ap (header_byte size sysid a p) none
      | inr outside ↦ elim (cases_lt p (first_position size)) [
        | inl before ↦ log_byte-before size sysid es a outside before
        | inr from ↦ elim (owner_of-none_where size (first_position size) es chain p none) [
          | inl below ↦ absurd (omega arith)
          | inr behind ↦ log_byte-stream size sysid es a outside from ∙ get_or_past (stream_of size es) (p - first_position size) 0 (omega (arith, length-stream_of size es))
        ]
      ]
    ]

pub log_byte-behind : (size sysid : ℕ) → IsSegmentSize size → (es : List Entry) → IsChained size es → (a : ℕ) → end_address_of size (first_position size + rooms_of size es) ≤ a → log_byte size sysid es a ≡ 0
log_byte-behind size sysid valid es chain a behind = log_byte-unowned size sysid es chain a (owner_at-none_behind size valid es chain a behind)

-- ---- bytes fit

page_header_bytes : (size sysid page remaining : ℕ) → AreBytes (page_header size sysid page remaining)
page_header_bytes size sysid page remaining =
    let zeros : AreBytes (0 ∷ 0 ∷ 0 ∷ 0 ∷ []) = record { each = All-from_recursion (λ b. b < 256) (0 ∷ 0 ∷ 0 ∷ 0 ∷ []) (omega arith, (omega arith, (omega arith, (omega arith, tt)))) } in
    let long : List ℕ = to_le_bytes w64 sysid ++ to_le_bytes w32 size ++ to_le_bytes w32 8192 in
    let behind : AreBytes (cond (is_first_page size page) long []) = cond_both (is_first_page size page) long [] AreBytes (λ _. bytes_and (bytes_and (bytes64 sysid) (bytes32 size)) (bytes32 8192)) (λ _. record { each = All-nil (λ b. b < 256) }) in
    bytes_and (bytes_and (bytes_and (bytes_and (bytes_and (bytes_and (bytes16 0xD113) (bytes16 _)) (bytes32 1)) (bytes64 (page * 8192))) (bytes32 remaining)) zeros) behind

stream_from_bytes : (size prev position : ℕ) (es : List Entry) → FollowsFrom size position es → AreBytes (stream_from size prev es)
stream_from_bytes size prev position [] chain = record { each = All-nil (λ b. b < 256) }
stream_from_bytes size prev position (e ∷ es) chain =
    let own : AreBytes (filled (assembled e.value) prev) = record { each = bytes_filled (assembled e.value) prev (ready e.value chain.1) } in
    let padding = padding_at size e.start e.value in
    let zeros : AreBytes (replicate padding 0) = record { each = All-replicate (λ b. b < 256) padding 0 (omega arith) } in
    bytes_and (bytes_and own zeros) (stream_from_bytes size (address_of size e.start) (position_behind size e) es chain.2)

header_byte-fits : (size sysid a p : ℕ) (owner : Option Entry) → header_byte size sysid a p owner < 256
header_byte-fits size sysid a p None = omega arith
header_byte-fits size sysid a p (Some e) =
    let header = page_header size sysid (a / 8192) (remaining_at e p) in
    cond_both (ltb p (e.start + room_of e.value)) (get_or header (a % 8192) 0) 0 (λ b. b < 256) (λ _. IsBytes-from_All header (page_header_bytes size sysid (a / 8192) (remaining_at e p)).each (a % 8192)) (λ _. omega arith)

pub log_byte-fits : (size sysid : ℕ) (es : List Entry) → IsChained size es → (a : ℕ) → log_byte size sysid es a < 256
log_byte-fits size sysid es chain a =
    let p = position_of size a in
    elim (cases_Bool (is_in_header size a)) [
      | inl inside ↦ subst (λ (b : ℕ). b < 256) (sym (log_byte-header size sysid es a inside)) (header_byte-fits size sysid a p (owner_of size es p))
      | inr outside ↦ elim (cases_lt p (first_position size)) [
        | inl before ↦ omega (arith, log_byte-before size sysid es a outside before)
        | inr from ↦ subst (λ (b : ℕ). b < 256) (sym (log_byte-stream size sysid es a outside from)) (IsBytes-from_All (stream_of size es) (stream_from_bytes size 0 (first_position size) es chain).each (p - first_position size))
      ]
    ]
