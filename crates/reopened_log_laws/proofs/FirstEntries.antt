-- Nobody's entries whose records were found are the first ones of the order that was found.
use Rattle.std.proofs.Common.{◌≡◌, ℕ, ◌+◌, All, List, [], ◌∷◌, ◌++◌, map, take, Option, Some, None, cond, true, false, refl, sym, ap, subst, ◌∙◌}
use Rattle.std.specs.Prelude.{Bool, ◌&&◌, nat_le, nat_lt}
use Rattle.std.proofs.lemmas.List.Elements.{All-head, All-tail}
use Rattle.byte_position.specs.Position.{address_of, first_position, position_of}
use Rattle.wal_page.specs.Order.{Entry, FollowsFrom, IsChained, position_behind, room_at}
use Rattle.wal_page.specs.Log.{bytes_of_entry, header_byte, log_byte, log_word, owner_of, stream_from}
use Rattle.wal_types.specs.declared.record.Record.{Record}
use Rattle.wal_reader.specs.declared.found.FoundRecord.{FoundRecord}
use Rattle.wal_reader.proofs.SettledLaws.{decoding_is_settled}
use Rattle.segment_disk.specs.DiskImage.{image_as_read}
use Rattle.segment_disk.specs.Tape.{DiskState, state_now}
use Rattle.written_log_laws.specs.FoundLog.{ReadsUntorn, ReadsFirstEntries}
use Rattle.written_log_laws.specs.Written.{found_entry, found_from, found_of}
use Rattle.written_log_laws.proofs.FoundImages.{chained_front}
use Rattle.written_log_laws.proofs.FoundLogs.{found_logs_read_as_log}
use Rattle.reopened_log_laws.specs.FoundFirst.{FoundEntriesComeFirst, LeftLogsAreRead, as_found}

-- ---- entries

entry_as_found : (e f : Entry) → e.pass ≡ None → e.value ≡ f.value → e.start ≡ f.start → e ≡ as_found f
entry_as_found e f pass value start =
    let entry : Option ℕ → Record → ℕ → Entry = λ p v s. record { pass = p; value = v; start = s } in
    ap (λ (p : Option ℕ). entry p e.value e.start) pass ∙ ap (λ (v : Record). entry None v e.start) value ∙ ap (λ (s : ℕ). entry None f.value s) start

pub same_entries : (size position p q : ℕ) (es fs : List Entry) → FollowsFrom size position es → FollowsFrom size position fs → All (λ (e : Entry). e.pass ≡ None) es → found_from size p es ≡ found_from size q fs → es ≡ map as_found fs
same_entries size position p q [] [] one other nobodys same = refl
same_entries size position p q [] (f ∷ fs) one other nobodys same = absurd (let no : ⊥ = cc in no)
same_entries size position p q (e ∷ es) [] one other nobodys same = absurd (let no : ⊥ = cc in no)
same_entries size position p q (e ∷ es) (f ∷ fs) one other nobodys same =
    let head : found_entry size p e ≡ found_entry size q f = cc in
    let tail : found_from size (address_of size e.start) es ≡ found_from size (address_of size f.start) fs = cc in
    let value : e.value ≡ f.value = ap (λ (r : FoundRecord). r.value) head in
    let start : e.start ≡ f.start = one.0 ∙ sym other.0 in
    let behind : position_behind size f ≡ position_behind size e = ap (λ (s : ℕ). s + room_at size s f.value) (sym start) ∙ ap (λ (v : Record). e.start + room_at size e.start v) (sym value) in
    let first : e ≡ as_found f = entry_as_found e f (All-head (λ (d : Entry). d.pass ≡ None) e es nobodys) value start in
    let rest = same_entries size (position_behind size e) (address_of size e.start) (address_of size f.start) es fs one.2 (subst (λ (n : ℕ). FollowsFrom size n fs) behind other.2) (All-tail (λ (d : Entry). d.pass ≡ None) e es nobodys) tail in
    ap (λ (l : List Entry). e ∷ l) rest ∙ ap (λ (g : Entry). g ∷ map as_found fs) first

-- ---- the words that they give the log

stream-as_found : (size prev : ℕ) (es : List Entry) → stream_from size prev (map as_found es) ≡ stream_from size prev es
stream-as_found size prev [] = refl
stream-as_found size prev (e ∷ es) = ap (λ (l : List ℕ). bytes_of_entry size prev e ++ l) (stream-as_found size (address_of size e.start) es)

header-either : (size sysid a p : ℕ) (here : Bool) (e : Entry) (one other : Option Entry) → header_byte size sysid a p one ≡ header_byte size sysid a p other → header_byte size sysid a p (cond here (Some (as_found e)) one) ≡ header_byte size sysid a p (cond here (Some e) other)
header-either size sysid a p true e one other same = refl
header-either size sysid a p false e one other same = same

header-as_found : (size sysid a p : ℕ) (es : List Entry) → header_byte size sysid a p (owner_of size (map as_found es) p) ≡ header_byte size sysid a p (owner_of size es p)
header-as_found size sysid a p [] = refl
header-as_found size sysid a p (e ∷ es) =
    header-either size sysid a p (nat_le e.start p && nat_lt p (position_behind size e)) e (owner_of size (map as_found es) p) (owner_of size es p) (header-as_found size sysid a p es)

byte-as_found : (size sysid a : ℕ) (es : List Entry) → log_byte size sysid (map as_found es) a ≡ log_byte size sysid es a
byte-as_found size sysid a es = rw (header-as_found size sysid a (position_of size a) es, stream-as_found size 0 es) refl

pub word-as_found : (size sysid a : ℕ) (es : List Entry) → log_word size sysid (map as_found es) a ≡ log_word size sysid es a
word-as_found size sysid a es =
    let h : (k : ℕ) → log_byte size sysid (map as_found es) (a + k) ≡ log_byte size sysid es (a + k) = λ k. byte-as_found size sysid (a + k) es in
    rw (h 0, h 1, h 2, h 3, h 4, h 5, h 6, h 7) refl

-- ---- what was found

-- read so far, as that many of the order's entries
pub same_as_read : (size sysid count : ℕ) (order es : List Entry) (state : DiskState) (found : List FoundRecord) → ReadsUntorn size sysid count order state found → (read : ReadsFirstEntries size sysid count order state found) → IsChained size es → All (λ (e : Entry). e.pass ≡ None) es → found_of size es ≡ found → es ≡ map as_found (take read.among order)
same_as_read size sysid count order es state found has read chained nobodys is =
    let front = chained_front size sysid order has.may.valid has.may.known has.may.narrow has.may.chained has.may.bounded read.among in
    same_entries size (first_position size) 0 0 es (take read.among order) chained front nobodys (is ∙ read.found_is)

pub same_words : (size sysid : ℕ) (es fs : List Entry) → es ≡ map as_found fs → (address : ℕ) → log_word size sysid es address ≡ log_word size sysid fs address
same_words size sysid es fs same address = ap (λ (l : List Entry). log_word size sysid l address) same ∙ word-as_found size sysid address fs

pub found_entries_come_first : FoundEntriesComeFirst
found_entries_come_first size sysid count order es state found has chained nobodys is =
    let read = found_logs_read_as_log size sysid count order state found has in
    let same = same_as_read size sysid count order es state found has read chained nobodys is in
    record {
      among = read.among;
      within = read.within;
      same = same;
      words = same_words size sysid es (take read.among order) same;
    }

pub left_logs_are_read : LeftLogsAreRead
left_logs_are_read size sysid t found others answer left decodes =
    let has = left.has_found in
    let settled = decoding_is_settled size (image_as_read (state_now t)) size None has.may.valid in
    (settled.3 others answer decodes).0 ∙ sym (settled.3 found has.answer has.decodes).0
