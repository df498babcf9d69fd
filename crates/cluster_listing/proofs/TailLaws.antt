-- The last of what is listed.
use Rattle.std.proofs.Common.{◌≡◌, ℕ, ◌+◌, ◌-◌, ◌<◌, ◌≤◌, true, false, List, [], ◌∷◌, ◌++◌, length, map, drop, Option, Some, None, Result, Ok, Err, ap, sym, subst, ◌∙◌, length-append, append_assoc, arith}
use Rattle.std.proofs.lemmas.List.{drop-append-le, drop-drop, drop-map, length-drop, length-map, map-append}
use Rattle.std.proofs.Math.ListN.{drop_of_length-le}
use Rattle.segment_disk.specs.Tape.{Tape}
use Rattle.wal_types.specs.declared.lsn.Lsn.{Lsn}
use Rattle.wal_reader.specs.declared.found.Answer.{Answer}
use Rattle.wal_reader.specs.declared.found.FoundRecord.{FoundRecord}
use Rattle.wal_reader.specs.declared.standing.ReadErr.TheVariants.{Memory, Disk, Stopped}
use Rattle.waldump_filter.specs.declared.Filter.{Filter}
use Rattle.waldump_filter.specs.declared.listed.Listed.{Listed}
use Rattle.waldump_text.specs.Put.{joined}
use Rattle.waldump_text.specs.declared.putting.SinkFault.{SinkFault}
use Rattle.cluster_listing.specs.Form.{record_text}
use Rattle.cluster_listing.specs.Listing.{PutAll, PutFront}
use Rattle.cluster_listing.specs.Tail.{AreAllListed, IsGathered, PutsKept, kept_cut, kept_hidden, kept_put, is_shown, last_so_many, tail_text, texts_of}
use Rattle.cluster_listing.specs.Walk.{EndsWalk, HasWalkCause, IsWalk}
use Rattle.cluster_listing.specs.declared.form.Form.{Form}
use Rattle.cluster_listing.specs.declared.taking.TakeErr.{TakeErr}
use Rattle.cluster_listing.specs.declared.taking.TakeErr.TheVariants as taking
use Rattle.cluster_listing.specs.declared.walking.ListErr.{ListErr}
use Rattle.cluster_listing.specs.declared.walking.ListErr.TheVariants as errors
use Rattle.cluster_listing.specs.declared.walking.Walked.{Walked}

module _ {X : Type 0} where
  -- no more than so many are all kept
  pub last_so_many-few : (n : ℕ) (xs : List X) → length xs ≤ n → last_so_many n xs ≡ xs
  last_so_many-few n xs few = let none : length xs - n ≡ 0 = omega arith in ap (λ k. drop k xs) none

  -- of more than so many the first may go
  pub last_so_many-shorter : (n : ℕ) (xs : List X) → n < length xs → last_so_many n (drop 1 xs) ≡ last_so_many n xs
  last_so_many-shorter n xs more =
      let count : 1 + (length (drop 1 xs) - n) ≡ length xs - n = omega (arith, length-drop 1 xs) in
      drop-drop (length (drop 1 xs) - n) 1 xs ∙ ap (λ k. drop k xs) count

  -- the last of the last and more is the last of all
  pub last_so_many-more : (n : ℕ) (xs ys : List X) → last_so_many n (last_so_many n xs ++ ys) ≡ last_so_many n (xs ++ ys)
  last_so_many-more n xs ys =
      let k : ℕ = length xs - n in
      let both : drop k xs ++ ys ≡ drop k (xs ++ ys) = sym (drop-append-le k xs ys (omega arith)) in
      let size : length (drop k xs ++ ys) ≡ (length xs - k) + length ys = length-append (drop k xs) ys ∙ ap (λ m. m + length ys) (length-drop k xs) in
      let count : k + (length (drop k xs ++ ys) - n) ≡ length (xs ++ ys) - n = omega (arith, size, length-append xs ys) in
      ap (λ (zs : List X). drop (length (drop k xs ++ ys) - n) zs) both
      ∙ drop-drop (length (drop k xs ++ ys) - n) k (xs ++ ys)
      ∙ ap (λ m. drop m (xs ++ ys)) count

pub last_so_many-none : {X : Type 0} (n : ℕ) → last_so_many {X = X} n [] ≡ []
last_so_many-none n = drop_of_length-le [] (omega arith)

-- what was kept from nothing on
pub kept_from_none : (form : Form) (most : ℕ) (first lines : List (List ℕ)) (records : List Listed) → first ≡ [] → lines ≡ last_so_many most (first ++ texts_of form records) → joined lines ≡ tail_text form most records
kept_from_none form most first lines records none is = ap joined (is ∙ ap (λ (fs : List (List ℕ)). last_so_many most (fs ++ texts_of form records)) none)

-- and at first it is nothing
pub kept_at_first : (form : Form) (most : ℕ) (first : List (List ℕ)) → first ≡ [] → first ≡ last_so_many most (first ++ texts_of form [])
kept_at_first form most first none = none ∙ sym (last_so_many-none most) ∙ ap (λ (fs : List (List ℕ)). last_so_many most (fs ++ [])) (sym none)

pub last_so_many-map : {X Y : Type 0} (f : X → Y) (n : ℕ) (xs : List X) → map f (last_so_many n xs) ≡ last_so_many n (map f xs)
last_so_many-map f n xs =
    sym (drop-map f (length xs - n) xs) ∙ ap (λ k. drop (k - n) (map f xs)) (sym (length-map xs f))

-- one more text, and the last are kept
pub kept_more : {L : Type 0} (text_of : L → List ℕ) (form : Form) (most : ℕ) (first old new : List L) (line : L) (before : List Listed) (r : Listed) → new ≡ last_so_many most (old ++ line ∷ []) → text_of line ≡ record_text form r
    → map text_of old ≡ last_so_many most (map text_of first ++ texts_of form before) → map text_of new ≡ last_so_many most (map text_of first ++ texts_of form (before ++ r ∷ []))
kept_more text_of form most first old new line before r is text was =
    let past = map text_of first ++ texts_of form before in
    ap (map text_of) is
    ∙ last_so_many-map text_of most (old ++ line ∷ [])
    ∙ ap (last_so_many most) (map-append text_of old (line ∷ []) ∙ ap (λ (ts : List (List ℕ)). ts ++ text_of line ∷ []) was ∙ ap (λ (t : List ℕ). last_so_many most past ++ t ∷ []) text)
    ∙ last_so_many-more most past (record_text form r ∷ [])
    ∙ ap (last_so_many most) (append_assoc (map text_of first) (texts_of form before) (record_text form r ∷ []) ∙ ap (λ (ts : List (List ℕ)). map text_of first ++ ts) (sym (map-append (record_text form) before (r ∷ []))))

-- a walk that ended at an end of the log, or at its limit, has all that is listed
all_at_end : (by : Filter) (found : List FoundRecord) (told : Option Answer) (end : Option Lsn) → EndsWalk by found told end → AreAllListed by found told
all_at_end by found (Some answer) end ends = tt
all_at_end by found None (Some at) ends = absurd cc
all_at_end by found None None ends = ends

module _ (size : ℕ) (by : Filter) (told : List Listed → List ℕ) (t : Tape) (old new : Option (List ℕ)) (before after : ℕ) (text : List ℕ) (Took : List Listed → Type 0) (Cut : TakeErr → List Listed → Type 0)
    (kept : (records : List Listed) → Took records → text ≡ told records) (cut : (e : TakeErr) (records : List Listed) → Cut e records → e ≡ taking.Memory) where
  all_of : (records : List Listed) → Took records → PutAll old new before after text → PutAll old new before after (told records)
  all_of records took all = subst (PutAll old new before after) (kept records took) all

  front_of : (records : List Listed) → Took records → (fault : SinkFault) → PutFront old new before after (taking.Sink fault) text → PutFront old new before after (taking.Sink fault) (told records)
  front_of records took fault front = subst (PutFront old new before after (taking.Sink fault)) (kept records took) front

  shown_all : (walked : Result Walked ListErr) → is_shown walked ≡ true → IsWalk size by t Took Cut walked → PutAll old new before after text → IsGathered size by told t old new before after walked
  shown_all (Ok walked) shown walk all = record { found = walk.found; told = walk.told; decodes = walk.decodes; ends = walk.ends; count_is = walk.count_is; taken = all_of _ walk.taken all }
  shown_all (Err (errors.Read (Stopped stop))) shown walk all = record { found = walk.found; decodes = walk.decodes; below_limit = walk.below_limit; taken = all_of _ walk.taken all }
  shown_all (Err (errors.Read Memory)) shown walk all = absurd cc
  shown_all (Err (errors.Read (Disk faults))) shown walk all = absurd cc
  shown_all (Err (errors.Take e)) shown walk all = absurd cc

  shown_front : (walked : Result Walked ListErr) (fault : SinkFault) → is_shown walked ≡ true → IsWalk size by t Took Cut walked → PutFront old new before after (taking.Sink fault) text → IsGathered size by told t old new before after (Err (errors.Take (taking.Sink fault)))
  shown_front (Ok walked) fault shown walk front = record { found = walk.found; told = walk.told; decodes = walk.decodes; all = all_at_end by walk.found walk.told walked.end walk.ends; taken = front_of _ walk.taken fault front }
  shown_front (Err (errors.Read (Stopped stop))) fault shown walk front = record { found = walk.found; told = _; decodes = walk.decodes; all = tt; taken = front_of _ walk.taken fault front }
  shown_front (Err (errors.Read Memory)) fault shown walk front = absurd cc
  shown_front (Err (errors.Read (Disk faults))) fault shown walk front = absurd cc
  shown_front (Err (errors.Take e)) fault shown walk front = absurd cc

  not_shown : (walked : Result Walked ListErr) → is_shown walked ≡ false → IsWalk size by t Took Cut walked → PutAll old new before after [] → IsGathered size by told t old new before after walked
  not_shown (Ok walked) hidden walk none = absurd cc
  not_shown (Err (errors.Read (Stopped stop))) hidden walk none = absurd cc
  not_shown (Err (errors.Read Memory)) hidden walk none = none
  not_shown (Err (errors.Read (Disk faults))) hidden walk none = none
  not_shown (Err (errors.Take taking.Memory)) hidden walk none = none
  not_shown (Err (errors.Take (taking.Sink fault))) hidden walk none = absurd (let never = cut _ _ walk.taken in cc)

  pub tail_of_walk : (walked result : Result Walked ListErr) → IsWalk size by t Took Cut walked → PutsKept old new before after text walked result → IsGathered size by told t old new before after result
  tail_of_walk walked result walk (kept_put _ shown all) = shown_all walked shown walk all
  tail_of_walk walked result walk (kept_cut _ fault shown front) = shown_front walked fault shown walk front
  tail_of_walk walked result walk (kept_hidden _ hidden none) = not_shown walked hidden walk none

-- the disk's faults are as they were where a walk is shown
pub shown_cause : (disk disk_after : ℕ) (walked : Result Walked ListErr) → is_shown walked ≡ true → HasWalkCause disk disk_after walked → disk_after ≡ disk
shown_cause disk disk_after (Ok walked) shown cause = cause
shown_cause disk disk_after (Err (errors.Read (Stopped stop))) shown cause = cause
shown_cause disk disk_after (Err (errors.Read Memory)) shown cause = absurd cc
shown_cause disk disk_after (Err (errors.Read (Disk faults))) shown cause = absurd cc
shown_cause disk disk_after (Err (errors.Take e)) shown cause = absurd cc

-- so are they behind what is put of it
pub cause_kept : (disk disk_after : ℕ) (old new : Option (List ℕ)) (before after : ℕ) (text : List ℕ) (walked result : Result Walked ListErr) → HasWalkCause disk disk_after walked → PutsKept old new before after text walked result → HasWalkCause disk disk_after result
cause_kept disk disk_after old new before after text walked result cause (kept_put _ shown all) = cause
cause_kept disk disk_after old new before after text walked result cause (kept_hidden _ hidden none) = cause
cause_kept disk disk_after old new before after text walked result cause (kept_cut _ fault shown front) = shown_cause disk disk_after walked shown cause
