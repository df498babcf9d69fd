-- What stands from a given end on, or from address 2 ^ 60 on, is not read.
use Rattle.std.proofs.Common.{◌≡◌, ℕ, ◌↔◌, ◌/◌, ◌^◌, ◌≤◌, Bool, false, Option, Some, None, Err, inl, inr, ap, ◌∙◌, arith}
use Rattle.std.specs.Prelude.{IsTrue}
use Rattle.std.proofs.lemmas.Bool.{cases_Bool}
use Rattle.byte_position.specs.Position.{address_of}
use Rattle.segment_disk.specs.DiskImage.{image_as_read}
use Rattle.segment_disk.specs.Tape.{Tape, state_now}
use Rattle.wal_reader.specs.declared.record_place.RecordPlace.{RecordPlace}
use Rattle.wal_reader.specs.declared.page_cache.PageCache.{PageCache}
use Rattle.wal_reader.specs.PageCursor.{Sees}
use Rattle.wal_reader.specs.Decodes.{ended, is_at_end}
use Rattle.wal_reader.specs.ReadAt.{read_at, read_in}
use Rattle.wal_reader.specs.Pages.{Pages}
use Rattle.wal_reader.specs.RecordPlace.{IsOutOfReach}
use Rattle.wal_reader.proofs.RecordAt.{read_at-before, read_at-end}
use Rattle.wal_reader.proofs.SettledLaws.{pages_in-bounded}

-- no page of a disk's log ends above address 2 ^ 60
pub no_page_above : (tape : Option Tape) (cache : PageCache) (pages : Pages) → Sees tape cache pages → (page : ℕ) → 2 ^ 47 ≤ page → pages page ≡ None
no_page_above None cache pages sees page high = absurd sees.log
no_page_above (Some t) cache pages sees page high =
    ap (λ (p : Pages). p page) sees.log ∙ pages_in-bounded cache.geometry (image_as_read (state_now t)) page high

pub read_at-out_of_reach : (size : ℕ) (pages : Pages) (end : Option ℕ) (place : RecordPlace) → IsOutOfReach size end place.position
    → ((page : ℕ) → 2 ^ 47 ≤ page → pages page ≡ None) → read_at size pages end place ≡ Err (ended size place.position)
read_at-out_of_reach size pages end place out none =
    elim out [
      | inl at_end ↦ read_at-end size pages end place at_end
      | inr high ↦
          (let page : 2 ^ 47 ≤ address_of size place.position / 8192 = omega arith in
          elim (cases_Bool (is_at_end end (address_of size place.position))) [
            | inl at_end ↦ read_at-end size pages end place at_end
            | inr before ↦ read_at-before size pages end place before ∙ ap (read_in size pages end place) (none (address_of size place.position / 8192) page)
          ])
    ]

-- a position that is not out of reach is before a given end
pub is_before_end : (size : ℕ) (end : Option ℕ) (position : ℕ) (out : Bool) → (IsTrue out ↔ IsOutOfReach size end position) → out ≡ false → is_at_end end (address_of size position) ≡ false
is_before_end size end position out tells denied =
    elim (cases_Bool (is_at_end end (address_of size position))) [
      | inl at_end ↦ (let yes = tells.1 (inl at_end) in
          absurd (cc))
      | inr before ↦ before
    ]

-- nothing that is out of reach is read on
pub is_in_reach : {fact : Type 0} (size : ℕ) (end : Option ℕ) (position : ℕ) (out : Bool) → (IsTrue out ↔ IsOutOfReach size end position) → out ≡ false → IsOutOfReach size end position → fact
is_in_reach size end position out tells denied reaches =
    let yes = tells.1 reaches in
    absurd (cc)
