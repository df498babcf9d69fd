-- Laws of the records' bytes, for the proofs of this crate and of those above.
use Rattle.std.proofs.Common.{◌≡◌, ℕ, ◌-◌, List, [], ◌∷◌, ◌++◌, length, get_or, replicate, sym, refl, ap, ◌∙◌, inl, inr, arith}
use Rattle.std.proofs.lemmas.Bool.{cases_lt}
use Rattle.std.proofs.lemmas.List.{append_assoc, append-nil, get_or_append_left, get_or-append_right, get_or-replicate, get_or_past, length-append, length-replicate}
use Rattle.byte_position.specs.Position.{address_of}
use Rattle.wal_spelling.specs.Spelling.{assembled, filled, room_of}
use Rattle.wal_spelling.proofs.SpellingLaws.{length-filled}
use Rattle.wal_page.specs.Order.{Entry, padding_at, rooms_of, room_at, prev_of}
use Rattle.wal_page.specs.Log.{bytes_of_entry, stream_from, stream_of}
use Rattle.wal_page.proofs.OrderLaws.{rooms_of_cons}

-- ---- one entry's bytes

pub length-bytes_of_entry : (size prev : ℕ) (e : Entry) → length (bytes_of_entry size prev e) ≡ room_at size e.start e.value
length-bytes_of_entry size prev e =
    let padding = padding_at size e.start e.value in
    omega (arith, length-append (filled (assembled e.value) prev) (replicate padding 0), length-filled (assembled e.value) prev, length-replicate {A = ℕ} padding 0)

zeros_read : (n k : ℕ) → get_or (replicate {A = ℕ} n 0) k 0 ≡ 0
zeros_read n k = elim (cases_lt k n) [ inl lt ↦ get_or-replicate n k 0 0 lt | inr le ↦ get_or_past (replicate {A = ℕ} n 0) k 0 (omega (arith, length-replicate {A = ℕ} n 0)) ]

-- behind the record's own they are 0, as what is read behind a list is
pub bytes_of_entry-reads : (size prev : ℕ) (e : Entry) (k : ℕ) → get_or (bytes_of_entry size prev e) k 0 ≡ get_or (filled (assembled e.value) prev) k 0
bytes_of_entry-reads size prev e k =
    let own = filled (assembled e.value) prev in
    let padding = padding_at size e.start e.value in
    let long = length-filled (assembled e.value) prev in
    elim (cases_lt k (room_of e.value)) [
      | inl lt ↦ get_or_append_left own (replicate padding 0) 0 k (omega (arith, long))
      | inr le ↦ get_or-append_right own (replicate padding 0) (room_of e.value) k 0 long le ∙ zeros_read padding (k - room_of e.value) ∙ sym (get_or_past own k 0 (omega (arith, long)))
    ]

-- ---- those of an order

-- the bytes of an entry that follows
pub stream_from_push : (size prev : ℕ) (es : List Entry) (e : Entry) → stream_from size prev (es ++ e ∷ []) ≡ stream_from size prev es ++ bytes_of_entry size (prev_of size prev es) e
stream_from_push size prev [] e = append-nil (bytes_of_entry size prev e)
stream_from_push size prev (f ∷ es) e =
    let first = bytes_of_entry size prev f in
    let start = address_of size f.start in
    ap (λ (bytes : List ℕ). first ++ bytes) (stream_from_push size start es e) ∙ sym (append_assoc first (stream_from size start es) (bytes_of_entry size (prev_of size start es) e))

pub stream_of_push : (size : ℕ) (es : List Entry) (e : Entry) → stream_of size (es ++ e ∷ []) ≡ stream_of size es ++ bytes_of_entry size (prev_of size 0 es) e
stream_of_push size es e = stream_from_push size 0 es e

-- records take up their rooms
pub length-stream_from : (size prev : ℕ) (es : List Entry) → length (stream_from size prev es) ≡ rooms_of size es
length-stream_from size prev [] = refl
length-stream_from size prev (e ∷ es) =
    let first = bytes_of_entry size prev e in
    let start = address_of size e.start in
    omega (arith, length-append first (stream_from size start es), length-bytes_of_entry size prev e, length-stream_from size start es, rooms_of_cons size e es)

pub length-stream_of : (size : ℕ) (es : List Entry) → length (stream_of size es) ≡ rooms_of size es
length-stream_of size es = length-stream_from size 0 es
