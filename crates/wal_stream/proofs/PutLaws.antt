-- Frames that are put into a sink, one behind another.
use Rattle.std.proofs.Common.{◌≡◌, ℕ, ◌+◌, ◌-◌, ◌*◌, ◌/◌, ◌%◌, ◌<◌, Bool, true, false, List, [], ◌∷◌, ◌++◌, length, take, Option, Some, None, IfSome, Err, refl, sym, ap, subst, ◌∙◌, arith}
use Rattle.std.specs.List.{flat_map, range_with_len}
use Rattle.std.specs.Option.{unwrap_or}
use Rattle.std.proofs.lemmas.Grind.{flat_map-append}
use Rattle.std.proofs.lemmas.List.{append-nil, length-append}
use Rattle.segment_disk.specs.Stream.{with_behind}
use Rattle.byte_position.specs.Geometry.{pages_of}
use Rattle.segment_disk.specs.Tape.{IsPageRead, Tape, page_of_segment, state_now, zero_page}
use Rattle.flush_core.proofs.SettleCalls.{range_around, range_more}
use Rattle.waldump_text.specs.Put.{HasPut}
use Rattle.waldump_text.proofs.SinkLaws.{HasPut-front_of_next, with_behind-append, with_behind-nil}
use Rattle.wal_reader.specs.declared.standing.ReadErr.TheVariants as reading
use Rattle.wal_stream.specs.declared.fault.SendErr.{SendErr}
use Rattle.wal_stream.specs.declared.fault.SendErr.TheVariants.{Read, Sink}
use Rattle.wal_stream.specs.Putting.{IsFrameOfPage, PutsAllFrames, PutsFrame, PutsFrames, PutsFrontOfFrames}
use Rattle.wal_stream.specs.SentFrames.{frame_count, frame_of, frames_between, page_read}

-- ---- one page

-- a page that is not there counts as zeros
pub none_read : (tape : Option Tape) (size number pages : ℕ) (there : Bool) (bytes : List ℕ) → pages ≡ pages_of size → IfSome tape (λ t. IsPageRead (page_of_segment (state_now t (number / pages)) (number % pages)) there bytes) → there ≡ false → IfSome tape (λ t. zero_page ≡ page_read size (state_now t) number)
none_read None size number pages there bytes is reads none = tt
none_read (Some t) size number pages true bytes is reads none = absurd (cc none)
none_read (Some t) size number pages false bytes is reads none =
    by_page (page_of_segment (state_now t (number / pages_of size)) (number % pages_of size)) (subst (λ (n : ℕ). IsPageRead (page_of_segment (state_now t (number / n)) (number % n)) false bytes) is reads)
  where
    by_page : (page : Option (List ℕ)) → IsPageRead page false bytes → zero_page ≡ unwrap_or page zero_page
    by_page None reads = refl
    by_page (Some page) reads = absurd (cc reads.0)

-- ---- frames so far

-- the frames of so many pages were put, from one on
pub record HavePut (size end : ℕ) (tape : Option Tape) (first count : ℕ) (old now : Option (List ℕ)) : Type 0 where
  pub frames : List ℕ
  pub are : IfSome tape (λ t. frames ≡ flat_map (frame_of size (page_read size (state_now t)) end) (range_with_len first count))
  pub long : length frames ≡ 8224 * count
  pub put : now ≡ with_behind old frames

module _ (size end : ℕ) where
  pub HavePut-none : (tape : Option Tape) (first : ℕ) (old : Option (List ℕ)) → HavePut size end tape first 0 old old
  HavePut-none None first old = record { frames = []; are = tt; long = refl; put = sym (with_behind-nil old) }
  HavePut-none (Some t) first old = record { frames = []; are = refl; long = refl; put = sym (with_behind-nil old) }

  more_are : (tape : Option Tape) (first count : ℕ) (frames bytes : List ℕ) → IfSome tape (λ t. frames ≡ flat_map (frame_of size (page_read size (state_now t)) end) (range_with_len first count)) → IsFrameOfPage size (first + count) end tape bytes
      → IfSome tape (λ t. frames ++ bytes ≡ flat_map (frame_of size (page_read size (state_now t)) end) (range_with_len first (count + 1)))
  more_are None first count frames bytes before next = tt
  more_are (Some t) first count frames bytes before next =
      let each = frame_of size (page_read size (state_now t)) end in
      ap (λ (l : List ℕ). l ++ bytes) before ∙ ap (λ (l : List ℕ). flat_map each (range_with_len first count) ++ l) (next ∙ sym (append-nil (each (first + count))))
      ∙ sym (flat_map-append each (range_with_len first count) ((first + count) ∷ [])) ∙ ap (flat_map each) (sym (range_more first count))

  pub HavePut-more : (tape : Option Tape) (first count : ℕ) (old mid new : Option (List ℕ)) (bytes : List ℕ) → HavePut size end tape first count old mid → IsFrameOfPage size (first + count) end tape bytes → length bytes ≡ 8224 → new ≡ with_behind mid bytes → HavePut size end tape first (count + 1) old new
  HavePut-more tape first count old mid new bytes before is long put = record {
    frames = before.frames ++ bytes;
    are = more_are tape first count before.frames bytes before.are is;
    long = omega (arith, length-append before.frames bytes, before.long, long);
    put = put ∙ ap (λ (taken : Option (List ℕ)). with_behind taken bytes) before.put ∙ with_behind-append old before.frames bytes;
  }

  pub PutsAllFrames-done : (from : ℕ) (tape : Option Tape) (old mid : Option (List ℕ)) (count : ℕ) → count ≡ frame_count from end → HavePut size end tape (from / 8192) count old mid → PutsAllFrames size from end tape old mid count
  PutsAllFrames-done from tape old mid count is before = record {
    frames = before.frames;
    are = subst (λ (n : ℕ). IfSome tape (λ t. before.frames ≡ flat_map (frame_of size (page_read size (state_now t)) end) (range_with_len (from / 8192) n))) is before.are;
    long = before.long;
    put = before.put;
  }

  -- ---- a front of them

  front_behind : (old mid new : Option (List ℕ)) (whole frames bytes rest : List ℕ) → whole ≡ frames ++ (bytes ++ rest) → mid ≡ with_behind old frames → (n : ℕ) × (new ≡ with_behind mid (take n bytes)) → (n : ℕ) × (new ≡ with_behind old (take n whole))
  front_behind old mid new whole frames bytes rest parts put took =
      let before : HasPut old mid 0 0 whole (bytes ++ rest) = record { front = frames; parts = parts; taken = put; faults = refl } in
      HasPut-front_of_next bytes rest before refl took

  -- all frames: those that were put, the next one, and the others
  parts_of : (t : Tape) (from sent : ℕ) → sent < frame_count from end → (frames bytes : List ℕ) → frames ≡ flat_map (frame_of size (page_read size (state_now t)) end) (range_with_len (from / 8192) sent) → bytes ≡ frame_of size (page_read size (state_now t)) end (from / 8192 + sent)
      → frames_between size (page_read size (state_now t)) from end ≡ frames ++ (bytes ++ flat_map (frame_of size (page_read size (state_now t)) end) (range_with_len (from / 8192 + sent + 1) (frame_count from end - sent - 1)))
  parts_of t from sent within frames bytes before next =
      let each = frame_of size (page_read size (state_now t)) end in
      let first = from / 8192 in
      let others = range_with_len (first + sent + 1) (frame_count from end - sent - 1) in
      ap (flat_map each) (range_around first (frame_count from end) sent within) ∙ flat_map-append each (range_with_len first sent) ((first + sent) ∷ others)
      ∙ ap (λ (l : List ℕ). l ++ (each (first + sent) ++ flat_map each others)) (sym before) ∙ ap (λ (l : List ℕ). frames ++ (l ++ flat_map each others)) (sym next)

  module _ (from sent : ℕ) (within : sent < frame_count from end) (old mid new : Option (List ℕ)) where
    -- a front of the next frame was put
    pub PutsFrontOfFrames-within : (tape : Option Tape) (bytes : List ℕ) → HavePut size end tape (from / 8192) sent old mid → IsFrameOfPage size (from / 8192 + sent) end tape bytes → (n : ℕ) × (new ≡ with_behind mid (take n bytes)) → PutsFrontOfFrames size from end tape old new
    PutsFrontOfFrames-within None bytes before is took =
        let whole = before.frames ++ (bytes ++ []) in
        let front = front_behind old mid new whole before.frames bytes [] refl before.put took in
        record { frames = whole; are = tt; count = front.0; put = front.1 }
    PutsFrontOfFrames-within (Some t) bytes before is took =
        let whole = frames_between size (page_read size (state_now t)) from end in
        let others = flat_map (frame_of size (page_read size (state_now t)) end) (range_with_len (from / 8192 + sent + 1) (frame_count from end - sent - 1)) in
        let front = front_behind old mid new whole before.frames bytes others (parts_of t from sent within before.frames bytes before.are is) before.put took in
        record { frames = whole; are = refl; count = front.0; put = front.1 }

    -- none of it was
    pub PutsFrontOfFrames-before : (tape : Option Tape) → HavePut size end tape (from / 8192) sent old mid → new ≡ mid → PutsFrontOfFrames size from end tape old new
    PutsFrontOfFrames-before None before same = PutsFrontOfFrames-within None [] before tt (0, same ∙ sym (with_behind-nil mid))
    PutsFrontOfFrames-before (Some t) before same =
        PutsFrontOfFrames-within (Some t) (frame_of size (page_read size (state_now t)) end (from / 8192 + sent)) before refl (0, same ∙ sym (with_behind-nil mid))

-- ---- how putting ends

pub puts_stopped : (size end from sent : ℕ) → sent < frame_count from end → (tape : Option Tape) (old mid new : Option (List ℕ)) (faults faults_after : ℕ) (error : SendErr) → HavePut size end tape (from / 8192) sent old mid → PutsFrame size (from / 8192 + sent) end tape mid new faults faults_after (Err error) → PutsFrames size from end tape old new (Err error)
puts_stopped size end from sent within tape old mid new faults faults_after (Read reading.Memory) before puts = absurd puts
puts_stopped size end from sent within tape old mid new faults faults_after (Read (reading.Stopped stop)) before puts = absurd puts
puts_stopped size end from sent within tape old mid new faults faults_after (Read (reading.Disk count)) before puts = PutsFrontOfFrames-before size end from sent within old mid new tape before puts
puts_stopped size end from sent within tape old mid new faults faults_after (Sink fault) before puts = PutsFrontOfFrames-within size end from sent within old mid new tape puts.bytes before puts.are puts.puts.0
