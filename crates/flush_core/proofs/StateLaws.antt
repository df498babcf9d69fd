-- What each call leaves of the pages that a disk holds.
use Rattle.std.proofs.Common.{◌≡◌, ◌≢◌, ℕ, ◌+◌, ◌-◌, ◌*◌, ◌/◌, ◌<◌, ◌≤◌, inl, inr, true, List, [], ◌∷◌, ◌++◌, Option, Some, None, refl, sym, ap, subst, ◌∙◌, ◌==◌, if◌then◌else◌, arith}
use Rattle.std.proofs.lemmas.Bool.{cases_eq, eq-eqb, ne_eqb}
use Rattle.std.proofs.lemmas.Nat.{div-mul-add}
use Rattle.byte_position.specs.Geometry.{pages_of}
use Rattle.segment_disk.specs.declared.disk.Call.{Call}
use Rattle.segment_disk.specs.declared.disk.CallKind.TheVariants.{Write, Sync}
use Rattle.segment_disk.specs.Tape.{Segment, DiskState, zero_page, after_writes, segment_after, after_call, create_call, write_call, sync_call}
use Rattle.segment_disk.specs.DiskImage.{image_as_read}
use Rattle.flush_core.specs.Pages.{PutPages, with_page, HoldsSegment, HoldsPages, unsynced_writes}

-- what a disk holds while only one segment may have writes that wait for a sync
pub record Stands (size last under_way : ℕ) (state : DiskState) (pages : PutPages) : Type 0 where
  pub read : HoldsPages size last (image_as_read state) pages
  pub synced : (segment : ℕ) → segment ≢ under_way → unsynced_writes (state segment) ≡ []

-- a segment of a disk, as it is read, is as it was put
abbrev ReadsAsPut : ℕ → PutPages → ℕ → Option Segment → Type 0
ReadsAsPut size pages segment s = HoldsSegment size pages segment (image_as_read (λ (n : ℕ). s) segment)

-- a segment of a disk is not there
abbrev IsAbsent : Option Segment → Type 0
IsAbsent s = image_as_read (λ (n : ℕ). s) 0 ≡ None

module _ (state : DiskState) (call : Call) where
  -- what a call leaves of its own segment, and of each other
  after_here : (segment : ℕ) → segment ≡ call.segment → after_call state call segment ≡ segment_after call.kind call.geometry call.done (state segment)
  after_here segment here = rw (eq-eqb segment call.segment here) refl

  after_elsewhere : (segment : ℕ) → segment ≢ call.segment → after_call state call segment ≡ state segment
  after_elsewhere segment other = rw (ne_eqb segment call.segment other) refl

  -- of each segment what holds of what the call leaves, by cases
  pub after_each : (P : Option Segment → Type 0) (segment : ℕ) → (segment ≡ call.segment → P (segment_after call.kind call.geometry call.done (state segment))) → (segment ≢ call.segment → P (state segment)) → P (after_call state call segment)
  after_each P segment here elsewhere =
      elim (cases_eq segment call.segment) [
        | inl same ↦ subst P (sym (after_here segment same)) (here same)
        | inr other ↦ subst P (sym (after_elsewhere segment other)) (elsewhere other)
      ]

-- a segment of zeros is made
pub stands_created : (size segment : ℕ) (state : DiskState) (pages : PutPages) → 0 < segment → ((page : ℕ) → page < pages_of size → pages (segment * pages_of size + page) ≡ zero_page) → Stands size (segment - 1) segment state pages
    → Stands size segment segment (after_call state (create_call size segment)) pages
stands_created size segment state pages positive zeros stands = record {
  read = record {
    there = λ n low high. after_each state (create_call size segment) (ReadsAsPut size pages n) n
        (λ same. (refl, λ page within. sym (subst (λ (m : ℕ). pages (m * pages_of size + page) ≡ zero_page) (sym same) (zeros page within))))
        (λ other. stands.read.there n low (omega arith));
    others = λ n none. after_each state (create_call size segment) IsAbsent n (λ same. absurd (elim none [ inl z ↦ omega arith | inr h ↦ omega arith ])) (λ other. stands.read.others n (elim none [ inl z ↦ inl z | inr h ↦ inr (omega arith) ]));
  };
  synced = λ n other. after_each state (create_call size segment) (λ (s : Option Segment). unsynced_writes s ≡ []) n (λ same. absurd (other same)) (λ _. stands.synced n other);
}

pub after_writes-push : (writes : List (ℕ × List ℕ)) (w : ℕ × List ℕ) (page : ℕ) (bytes : List ℕ) → after_writes (writes ++ w ∷ []) page bytes ≡ (if w.0 == page then w.1 else after_writes writes page bytes)
after_writes-push [] w page bytes = refl
after_writes-push (v ∷ writes) w page bytes = after_writes-push writes w page (if v.0 == page then v.1 else bytes)

-- pages of two places are the same only where the places are
same_place : (count a b j k : ℕ) → j < count → k < count → a * count + j ≡ b * count + k → a ≡ b
same_place count a b j k low high same =
    sym (div-mul-add a count j low) ∙ ap (λ (n : ℕ). n / count) same ∙ div-mul-add b count k high

module _ (size segment page : ℕ) (pages : PutPages) (bytes : List ℕ) (within : page < pages_of size) where
  -- the page's number in the log
  abbrev number : ℕ
  number = segment * pages_of size + page

  -- of other segments nothing is put
  put_elsewhere : (n : ℕ) (s : Option Segment) → n ≢ segment → ReadsAsPut size pages n s → ReadsAsPut size (with_page pages number bytes) n s
  put_elsewhere n None other holds = holds
  put_elsewhere n (Some s) other holds = (
    holds.0,
    λ j low. holds.1 j low ∙ sym (let apart : n * pages_of size + j ≢ number = (λ same. other (same_place (pages_of size) n segment j page low within same)) in rw (ne_eqb (n * pages_of size + j) number apart) refl),
  )

  -- of its own segment a write puts its page
  put_here : (s : Option Segment) → ReadsAsPut size pages segment s → ReadsAsPut size (with_page pages number bytes) segment (segment_after (Write page (record { bytes = bytes })) size true s)
  put_here None holds = holds
  put_here (Some s) holds = (
    holds.0,
    λ j low. after_writes-push s.writes (page, bytes) j (s.durable j) ∙ elim (cases_eq page j) [
      | inl same ↦ (let at : segment * pages_of size + j ≡ number = omega arith in rw (eq-eqb page j same, eq-eqb (segment * pages_of size + j) number at) refl)
      | inr other ↦ (let apart : segment * pages_of size + j ≢ number = (λ same. other (omega arith)) in rw (ne_eqb page j other, ne_eqb (segment * pages_of size + j) number apart) (holds.1 j low))
    ],
  )

  -- a page is written
  pub stands_written : (last : ℕ) (state : DiskState) → 0 < segment → segment ≤ last → Stands size last segment state pages → Stands size last segment (after_call state (write_call size segment page bytes)) (with_page pages number bytes)
  stands_written last state positive made stands =
      let call = write_call size segment page bytes in
      record {
        read = record {
          there = λ n low high. after_each state call (ReadsAsPut size (with_page pages number bytes) n) n
              (λ same. subst (λ (m : ℕ). ReadsAsPut size (with_page pages number bytes) m (segment_after call.kind call.geometry call.done (state m))) (sym same) (put_here (state segment) (stands.read.there segment positive made)))
              (λ other. put_elsewhere n (state n) other (stands.read.there n low high));
          others = λ n none. after_each state call IsAbsent n (λ same. absurd (elim none [ inl z ↦ omega arith | inr h ↦ omega arith ])) (λ other. stands.read.others n none);
        };
        synced = λ n other. after_each state call (λ (s : Option Segment). unsynced_writes s ≡ []) n (λ same. absurd (other same)) (λ _. stands.synced n other);
      }

-- a sync changes nothing of what is read
synced_reads : (size n : ℕ) (s : Option Segment) → image_as_read (λ (m : ℕ). segment_after Sync size true s) n ≡ image_as_read (λ (m : ℕ). s) n
synced_reads size n None = refl
synced_reads size n (Some s) = refl

no_writes : (size : ℕ) (s : Option Segment) → unsynced_writes (segment_after Sync size true s) ≡ []
no_writes size None = refl
no_writes size (Some s) = refl

-- the segment under way is synced: nothing waits any more
pub stands_synced : (size last segment other : ℕ) (state : DiskState) (pages : PutPages) → Stands size last segment state pages → Stands size last other (after_call state (sync_call size segment)) pages
stands_synced size last segment other state pages stands =
    let call = sync_call size segment in
    let same = λ (n : ℕ). after_each state call (λ (s : Option Segment). image_as_read (λ (m : ℕ). s) n ≡ image_as_read state n) n (λ _. synced_reads size n (state n)) (λ _. refl) in
    record {
      read = record {
        there = λ n low high. subst (HoldsSegment size pages n) (sym (same n)) (stands.read.there n low high);
        others = λ n none. same n ∙ stands.read.others n none;
      };
      synced = λ n _. after_each state call (λ (s : Option Segment). unsynced_writes s ≡ []) n (λ _. no_writes size (state n)) (λ apart. stands.synced n apart);
    }
