-- The outside of a command, before and after it.
use Rattle.std.specs.Prelude.{◌≡◌, ℕ, ◌⊎◌, List, take, Option}
use Rattle.segment_disk.specs.Stream.{with_behind}
use Rattle.segment_disk.specs.Tape.{Tape}
use Rattle.segment_disk.specs.Cause.{Rose}

-- a sink took a text; where its count of faults rose, a front of it
abbrev pub Took : Option (List ℕ) → Option (List ℕ) → ℕ → ℕ → List ℕ → Type 0
Took old new before after text =
    (new ≡ with_behind old text)
    ⊎ (Rose before after × ((n : ℕ) × (new ≡ with_behind old (take n text))))

-- a source as clauses see it: the bytes that it has left, where it tells them, all that it has
-- handed out so far, how often it has answered that nothing is left, and its count of faults
pub record SourceView : Type 0 where
  pub left : Option (List ℕ)
  pub handed : List ℕ
  pub ends_told : ℕ
  pub faults : ℕ

abbrev pub source_view : {S : Type 0} → (S → Option (List ℕ)) → (S → List ℕ) → (S → ℕ)
    → (S → ℕ) → S → SourceView
source_view left handed ends_told faults source = record {
  left = left source;
  handed = handed source;
  ends_told = ends_told source;
  faults = faults source;
}

-- the outside of a command as clauses see it: the source before and after it, the disk's tape,
-- moment and count of faults, and the sink's bytes and count
pub record Outside : Type 0 where
  pub source_before : SourceView
  pub source_after : SourceView
  pub tape_before : Option Tape
  pub tape_after : Option Tape
  pub moment_before : ℕ
  pub moment_after : ℕ
  pub disk_before : ℕ
  pub disk_after : ℕ
  pub taken_before : Option (List ℕ)
  pub taken_after : Option (List ℕ)
  pub sink_before : ℕ
  pub sink_after : ℕ

-- a command's outside, by what its source, disk and sink were and are: the disk's tape, moment and
-- count of faults are told by three functions, the sink's bytes and count by two
abbrev pub outside_of : {D O : Type 0} → SourceView → SourceView
    → (D → Option Tape) → (D → ℕ) → (D → ℕ) → D → D
    → (O → Option (List ℕ)) → (O → ℕ) → O → O → Outside
outside_of source_before source_after tape moment faults disk disk_now
    taken sink_faults sink sink_now =
    record {
      source_before = source_before;
      source_after = source_after;
      tape_before = tape disk;
      tape_after = tape disk_now;
      moment_before = moment disk;
      moment_after = moment disk_now;
      disk_before = faults disk;
      disk_after = faults disk_now;
      taken_before = taken sink;
      taken_after = taken sink_now;
      sink_before = sink_faults sink;
      sink_after = sink_faults sink_now;
    }

-- the same of a command that has no disk at hand, whose tape, moment and count of faults are these
abbrev pub outside_with : {O : Type 0} → SourceView → SourceView → Option Tape → (moment faults : ℕ)
    → (O → Option (List ℕ)) → (O → ℕ) → O → O → Outside
outside_with source_before source_after tape moment faults taken sink_faults sink sink_now =
    outside_of source_before source_after (λ (n : ℕ). tape) (λ n. moment) (λ n. faults) 0 0
    taken sink_faults sink sink_now

-- a command's disk as it was handed in and as it comes back, with what tells its tape, its moment
-- and its count of faults
pub record DiskSeen (D : Type 0) : Type 0 where
  pub tape : D → Option Tape
  pub moment : D → ℕ
  pub faults : D → ℕ
  pub before : D
  pub after : D

abbrev pub disk_seen : {D : Type 0} → (D → Option Tape) → (D → ℕ) → (D → ℕ) → D → D → DiskSeen D
disk_seen tape moment faults disk disk_now = record {
  tape = tape;
  moment = moment;
  faults = faults;
  before = disk;
  after = disk_now;
}

-- no counted call of the disk was made, and nothing was printed
pub record IsUntouched (outside : Outside) : Type 0 where
  pub tape_same : outside.tape_after ≡ outside.tape_before
  pub moment_same : outside.moment_after ≡ outside.moment_before
  pub nothing_printed : outside.taken_after ≡ outside.taken_before
  pub sink_faults_same : outside.sink_after ≡ outside.sink_before
