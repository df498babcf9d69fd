-- A disk that holds nothing is one that this program left, with the log of no entries.
use Rattle.std.proofs.Common.{◌≡◌, ℕ, zero, suc, ◌+◌, ◌*◌, ◌/◌, ◌%◌, ◌^◌, ◌<◌, ◌≤◌, Bool, true, false, List, [], length, Option, None, nat_le, if◌then◌else◌, refl, sym, ap, subst, ◌∙◌, arith}
use Rattle.std.specs.Prelude.{IfSome, Err}
use Rattle.std.proofs.lemmas.Option.{none-some}
use Rattle.std.proofs.Math.Nat.{le-div_iff_mul-le}
use Rattle.byte_position.specs.Geometry.{pages_of}
use Rattle.byte_position.specs.Position.{end_address_of, first_position, position_of}
use Rattle.byte_position.proofs.SegmentSizes.{segment_size_tests}
use Rattle.segment_disk.specs.Assured.{SegmentAssures, StateAssures}
use Rattle.segment_disk.specs.DiskImage.{image_as_read}
use Rattle.segment_disk.specs.Tape.{DiskState, Segment, page_as_read, state_now}
use Rattle.flush_core.specs.Settled.{HaveWholePages, IsAmong}
use Rattle.flush_core.specs.SettledLog.{IsZeroOrLogWord}
use Rattle.wal_page.proofs.WordPositions.{end_address_of-first_position}
use Rattle.wal_reader.specs.Pages.{Pages, page_of_image, pages_in}
use Rattle.wal_reader.specs.Decodes.{Decodes, ReadsFrom, begin_at, begin_in, ended}
use Rattle.reopened_log_laws.specs.Empty.{EmptyDisksWereLeft}

-- ---- what a reader finds where no page is there

nothing_begins : (turns size page timeline : ℕ) (pages : Pages) → pages page ≡ None
    → begin_at turns size pages page timeline
    ≡ Err (ended size (position_of size (page * 8192)))
unfolding begin_at
nothing_begins zero size page timeline pages none = refl
nothing_begins (suc turns) size page timeline pages none =
    ap (begin_in (begin_at turns size pages) size page timeline) none

either_way : (o : Option (List ℕ)) (b : Bool) → (if b then o else o) ≡ o
either_way o true = refl
either_way o false = refl

module _ (size : ℕ) (state : DiskState) (nothing : (segment : ℕ) → state segment ≡ None) where
  no_page : (page : ℕ) → pages_in size (image_as_read state) page ≡ None
  no_page page =
      let at = page / pages_of size in
      ap (λ (s : Option Segment). if nat_le ((page + 1) * 8192) (2 ^ 60)
      then page_of_image (image_as_read (λ (m : ℕ). s) at) (page % pages_of size) else None)
      (nothing at)
      ∙ either_way None (nat_le ((page + 1) * 8192) (2 ^ 60))

  nothing_found : Decodes size (pages_in size (image_as_read state)) size None []
      (ended size (position_of size (size / 8192 * 8192)))
  nothing_found =
      let pages = pages_in size (image_as_read state) in
      record {
        read = [];
        reads = subst (λ b. ReadsFrom size pages None b []
            (ended size (position_of size (size / 8192 * 8192))))
            (sym (nothing_begins (2 ^ 47) size (size / 8192) 0 pages (no_page (size / 8192))))
            (refl, refl);
        given = refl;
      }

  assures_nothing : (Fits : ℕ → ℕ → List ℕ → Type 0)
      → StateAssures size (IsAmong 0) Fits state
  assures_nothing Fits segment =
      subst (SegmentAssures size (IsAmong 0) Fits segment) (sym (nothing segment))
      (λ among. omega (arith, among.0, among.1))

  nothing_whole : HaveWholePages size state
  nothing_whole segment = subst
      (λ (o : Option Segment). IfSome o (λ s. (s.pages ≡ pages_of size)
      × ((page : ℕ) → page < s.pages → length (page_as_read s page) ≡ 8192)))
      (sym (nothing segment)) tt

pub empty_disks_were_left : EmptyDisksWereLeft
empty_disks_were_left size sysid t valid known narrow nothing =
    let state = state_now t in
    let tests = segment_size_tests size valid in
    let some : 0 < size = omega (arith, tests.1) in
    let start : end_address_of size (first_position size + 0) ≡ size =
    ap (end_address_of size) (omega arith) ∙ end_address_of-first_position size valid in
    let room : 1 ≤ 2 ^ 60 / size = (le-div_iff_mul-le some).1 (omega (arith, tests.2)) in (
      record {
        order = [];
        count = 0;
        has_found = record {
          may = record {
            valid = valid;
            known = known;
            narrow = narrow;
            chained = tt;
            bounded = omega (arith, start, tests.2);
            lawful = assures_nothing size state nothing (IsZeroOrLogWord size sysid []);
          };
          none_torn = λ k e at torn. absurd (none-some e at);
          answer = ended size (position_of size (size / 8192 * 8192));
          decodes = nothing_found size state nothing;
        };
        only = λ segment apart. nothing segment;
        never_whole = λ more. absurd (omega (arith, more));
        whole = nothing_whole size state nothing;
        low = room;
      },
      refl,
    )
