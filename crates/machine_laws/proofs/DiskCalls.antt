-- What is read of the writer's disk behind its next call, however the call ended.
use Rattle.std.proofs.Common.{◌≡◌, ℕ, ◌+◌, ◌*◌, ◌/◌, ◌<◌, ◌≤◌, true, false, All, List, [], ◌∷◌, ◌++◌, IsSomeAnd, sym, subst, ap, ◌∙◌, if◌then◌else◌, arith}
use Rattle.std.specs.Int.{w64, to_le_bytes}
use Rattle.std.proofs.lemmas.List.Elements.{All-contains}
use mathlib.Core.Option.{none, some}
use Rattle.byte_position.specs.Geometry.{IsSegmentSize, pages_of}
use Rattle.segment_disk.specs.Tape.{Segment, Tape, after_call, create_call, failed_call, state_now, sync_call, write_call}
use Rattle.segment_disk.specs.declared.disk.Call.{Call}
use Rattle.segment_disk.specs.DiskImage.{word_of}
use Rattle.wal_page.specs.Order.{Entry}
use Rattle.machine_state.specs.Views.{Plain}
use Rattle.machine_state.specs.Moves.{CallOutcome, Done, Failed, is_done}
use Rattle.machine_state.specs.Steps.{IsPageLoaded}
use Rattle.machine_state.specs.Positioned.{ReadsBelow}
use Rattle.machine_state.specs.Durable.{IsStaged}
use Rattle.machine_state.proofs.Tapes.{state_behind, tape_behind}
use Rattle.machine_laws.proofs.LoadedLast.{loaded_there}
use Rattle.machine_laws.proofs.LogReading.{ReadsBelow-create, ReadsBelow-sync, ReadsBelow-write}
use Rattle.machine_state.specs.Ringed.{log_bytes_of}
use Rattle.machine_state.specs.Words.{Opening}

-- the words of a page that were loaded are the log's, where all is copied below an address
pub loaded_words : (opening : Opening) (order : List Entry) (known number : ℕ) (bytes : List ℕ)
    (staged : List (ℕ × ℕ)) → IsPageLoaded number bytes staged
    → All (IsStaged opening order known) staged → (n : ℕ) → n < 1024
    → number * 8192 + 8 * n < known → word_of bytes n
    ≡ log_bytes_of opening order (number * 8192 + 8 * n)
loaded_words opening order known number bytes staged loaded all n low below =
    let l = loaded n low in
    let s = All-contains (IsStaged opening order known) staged (number * 1024 + n, l.0) all
    (loaded_there (number * 1024 + n) l.0 staged l.1) in
    let at : 8 * (number * 1024 + n) ≡ number * 8192 + 8 * n = omega arith in
    l.2 ∙ ap (to_le_bytes w64) (s.below (omega (arith, at, below)))
    ∙ ap (λ (a : ℕ). log_bytes_of opening order a) at

module _ (opening : Opening) (valid : IsSegmentSize opening.setup.seg_size) (order : List Entry) (w : Plain)
  where
    abbrev size : ℕ
    size = opening.setup.seg_size

    abbrev ReadUpto : ℕ → Tape → Type 0
    ReadUpto address t = ReadsBelow opening order address (state_now t)

    -- what is read behind a call that was counted
    read_behind : (address : ℕ) (t : Tape) (call : Call)
        → ReadsBelow opening order address (after_call (state_now t) call)
        → ReadUpto address (record t { calls = t.calls ++ call ∷ [] })
    read_behind address t call reads =
        subst (ReadsBelow opening order address) (sym (state_behind t call)) reads

    pub create_reads : (segment : ℕ) (outcome : CallOutcome) → w.written ≤ segment * size → (t : Tape)
        → ReadUpto w.written t
        → ReadUpto w.written (tape_behind outcome (create_call size segment) t)
    create_reads segment Done above t reads = read_behind w.written t (create_call size segment)
        (ReadsBelow-create opening valid order (state_now t) w.written segment size true true above
        reads)
    create_reads segment (Failed faults none) above t reads = reads
    create_reads segment (Failed faults (some made)) above t reads =
        read_behind w.written t (failed_call made (create_call size segment))
        (ReadsBelow-create opening valid order (state_now t) w.written segment size made false above
        reads)

    pub sync_reads : (segment : ℕ) (outcome : CallOutcome) (t : Tape) → ReadUpto w.written t
        → ReadUpto w.written (tape_behind outcome (sync_call size segment) t)
    sync_reads segment Done t reads = read_behind w.written t (sync_call size segment)
        (ReadsBelow-sync opening valid order (state_now t) w.written segment size true reads)
    sync_reads segment (Failed faults none) t reads = reads
    sync_reads segment (Failed faults (some made)) t reads =
        read_behind w.written t (failed_call made (sync_call size segment))
        (ReadsBelow-sync opening valid order (state_now t) w.written segment size false reads)

    module _ (segment page upto : ℕ) (bytes : List ℕ) (within : page < pages_of opening.setup.seg_size)
        (page_is : segment * pages_of opening.setup.seg_size + page ≡ w.written / 8192)
        (rises : w.written ≤ upto) (ends : upto ≤ (w.written / 8192 + 1) * 8192)
        (words : (n : ℕ) → n < 1024 → w.written / 8192 * 8192 + 8 * n < upto → word_of bytes n
        ≡ log_bytes_of opening order (w.written / 8192 * 8192 + 8 * n))
        (t : Tape) (reads : ReadUpto w.written t)
        (there : IsSomeAnd (state_now t segment)
        (λ (s : Segment). s.pages ≡ pages_of opening.setup.seg_size)) where
      pub write_reads : (outcome : CallOutcome)
          → ReadUpto (if is_done outcome then upto else w.written)
          (tape_behind outcome (write_call size segment page bytes) t)
      write_reads Done = read_behind upto t (write_call size segment page bytes)
          (ReadsBelow-write opening valid order (state_now t) segment page
          (w.written / 8192) w.written
          upto size (record { bytes = bytes }) true within page_is there (omega arith) ends words
          reads)
      write_reads (Failed faults none) = reads
      write_reads (Failed faults (some made)) =
          read_behind w.written t (failed_call made (write_call size segment page bytes))
          (ReadsBelow-write opening valid order (state_now t) segment page
          (w.written / 8192) w.written
          w.written size (record { bytes = bytes }) false within page_is there (omega arith)
          (omega (arith, rises, ends)) (λ n low below. words n low (omega (arith, below, rises)))
          reads)
