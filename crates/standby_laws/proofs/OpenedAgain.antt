-- A standby that is opened on a disk that holds nothing but words of one log follows that log,
-- whatever waits for a sync there.
use Rattle.std.proofs.Common.{◌≡◌, ℕ, ◌+◌, ◌*◌, ◌/◌, ◌%◌, ◌<◌, ◌≤◌, inl, inr, List, [], ◌++◌, length, Option, Some, None, IfSome, refl, sym, ap, subst, ◌∙◌, arith}
use Rattle.std.specs.List.{AllByRecursion}
use Rattle.std.specs.Option.{IsSomeAnd}
use Rattle.std.specs.Prelude.{IsSome}
use Rattle.std.proofs.lemmas.Bool.{cases_lt}
use Rattle.byte_position.specs.Geometry.{IsSegmentSize, pages_of}
use Rattle.segment_disk.specs.declared.disk.Call.{Call}
use Rattle.segment_disk.specs.Assured.{CallFits, IsMadeUpto, IsNowhere, SegmentAssures, StateAssures, TapeAssures}
use Rattle.segment_disk.specs.DiskImage.{image_as_read, word_of}
use Rattle.segment_disk.specs.Tape.{DiskState, Segment, Tape, after_calls, page_as_read, page_of_segment, state_now}
use Rattle.flush_core.specs.Calls.{with_calls}
use Rattle.flush_core.specs.Left.{IsKeptWord, IsWordPut}
use Rattle.flush_core.specs.Settled.{IfWhole, IsAmong, KeepsOld, settle_calls}
use Rattle.flush_core.specs.SettledLog.{IsLogWord, IsZeroOrLogWord}
use Rattle.flush_core.specs.Writer.{HoldsLogPages, writer_segment_size}
use Rattle.flush_core.proofs.GrowingTapes.{with_calls-some}
use Rattle.flush_core.proofs.SettledLeft.{at_number}
use Rattle.flush_core.proofs.SettledPages.{after_calls-append}
use Rattle.found_log.specs.Found.{FindsLog, IsDiskLog, place_of_log}
use Rattle.wal_spelling.specs.Spelling.{word_at}
use Rattle.wal_page.specs.Order.{Entry}
use Rattle.wal_page.specs.LogPlace.{LogPlace}
use Rattle.wal_reader.specs.declared.found.FoundRecord.{FoundRecord}
use Rattle.wal_reader.specs.Pages.{pages_in}
use Rattle.written_log_laws.specs.SettledFound.{NothingWaits}
use Rattle.written_log_laws.specs.Torn.{NoTornPass}
use Rattle.wal_stream.specs.Following.{FollowsLog, HaveLogBelow, KeepsLogUpto}
use Rattle.wal_stream.specs.Opened.{StandsAtFound}
use Rattle.wal_stream.specs.Standby.{HasResumed, own_page, standby_disk, standby_end}
use Rattle.wal_stream.specs.declared.standby.Standby.{Standby}
use Rattle.reopened_log_laws.proofs.SettlingCalls.{Settles, all_settle}
use Rattle.standby_laws.proofs.AgainPages.{holds_log_pages, settled_pages, stands_read, word_below}
use Rattle.standby_laws.proofs.EndPages.{own_word}
use Rattle.standby_laws.proofs.Holding.{HoldsOrder, IsHeld, IsLogBelow, KeepsUpto, pages_now, words_now}
use Rattle.standby_laws.proofs.LeftLogs.{ReadsOrder, end_from, end_whole, only_made, read_below}
use Rattle.standby_laws.proofs.LogPages.{log_is_put, log_pages, log_puts, page_word, put_is_log}
use Rattle.standby_laws.proofs.Moments.{assures_tape, runs_from}
use Rattle.standby_laws.proofs.Settling.{held_settled, keeps_settled, last_is, order_settled, reads_order, turn_settled}
use Rattle.standby_laws.proofs.Turns.{HasSegmentsInTurn, MakesInTurn}
use Rattle.standby_laws.proofs.Weaker.{TapeAssures-within}

-- ---- what is kept of a log, as a standby keeps it

pub keeps_log : {D : Type 0} (tape : D → Option Tape) (sysid : ℕ) (es : List Entry)
    (s : Standby D) (t : Tape) (moment upto : ℕ) → tape (standby_disk s) ≡ Some t
    → (s.writer).written.0 ≤ (s.writer).made * (s.writer).geometry + (s.writer).geometry
    → upto ≤ standby_end s → upto % 8 ≡ 0 → KeepsUpto s.geometry sysid es upto moment t
    → KeepsLogUpto tape sysid es s (moment, upto)
keeps_log tape sysid es s t moment upto told reached within whole keeps =
    let size = s.geometry in
    let pages = log_pages size sysid es in
    let kept = TapeAssures-within size (IsMadeUpto size upto) (IsMadeUpto size upto)
    (IsLogBelow size sysid es upto) (IsKeptWord upto pages) (λ segment made. made)
    (λ page word bytes low fits below. fits below ∙ sym (page_word size sysid es page word low))
    moment t
    (assures_tape size (IsMadeUpto size upto) (IsLogBelow size sysid es upto) moment t keeps) in
    record {
      pages = pages;
      kept = (
        reached,
        subst (λ (o : Option Tape). IfSome o (TapeAssures (writer_segment_size s.writer)
            (IsMadeUpto (writer_segment_size s.writer) upto) (IsKeptWord upto pages) moment))
            (sym told)
            (subst (λ (n : ℕ). TapeAssures n (IsMadeUpto n upto) (IsKeptWord upto pages) moment t)
            (sym s.sized) kept),
      );
      log = λ page word low below. page_word size sysid es page word low;
      within = within;
      whole = whole;
    }

-- ---- a standby that is opened

module _ {D : Type 0} (tape : D → Option Tape) (moment faults : D → ℕ) (size sysid cap : ℕ)
    (es : List Entry) (since : ℕ) (t : Tape) (h : HoldsOrder size sysid es since t) (disk : D)
    (s : Standby D) (few : cap ≤ 4096) (told : tape disk ≡ Some t)
    (none_torn : NoTornPass size (pages_in size (image_as_read (state_now t))) es)
    (stands : StandsAtFound tape moment faults size cap disk s) where
  abbrev records : List FoundRecord
  records = stands.found.records

  abbrev place : LogPlace
  place = place_of_log stands.log

  abbrev made : ℕ
  made = stands.log.made

  abbrev end : ℕ
  end = stands.log.end.0

  abbrev before : DiskState
  before = state_now t

  abbrev valid : IsSegmentSize size
  valid = h.order.valid

  abbrev o : ReadsOrder size sysid es t
  o = reads_order size sysid es since t h none_torn

  pub finds : FindsLog size cap (Some t) stands.log
  finds = subst (λ (tape : Option Tape). FindsLog size cap tape stands.log) told stands.found

  found : IsDiskLog size cap stands.found.records (place_of_log stands.log) stands.log.made t
  found = subst (λ (tape : Option Tape). IfSome tape (IsDiskLog size cap records place made)) told
      stands.found.tells

  whole_end : stands.log.end.0 % 8 ≡ 0
  whole_end = end_whole size sysid es t o cap made end records place found stands.found.end_is

  from_start : size ≤ stands.log.end.0
  from_start = end_from size sysid es t o cap made end records place found stands.found.end_is

  -- ---- the calls that settled it

  abbrev calls : List Call
  calls = stands.settled.calls.calls

  abbrev after : Tape
  after = record t { calls = t.calls ++ calls }

  pub told_now : tape (standby_disk s)
      ≡ Some (record t { calls = t.calls ++ stands.settled.calls.calls })
  told_now = stands.settled.calls.made.tape ∙ ap (λ (o : Option Tape). with_calls o calls) told
      ∙ with_calls-some t calls

  calls_are : stands.settled.calls.calls
      ≡ settle_calls size stands.log.end.0 stands.log.made (state_now t)
  calls_are = subst (λ (o : Option Tape). IfSome o (λ t. calls
      ≡ settle_calls size end made (state_now t))) told stands.settled.calls.are

  each : AllByRecursion (Settles size stands.log.made stands.log.end.0 h.order.valid
      (state_now t) (pages_now size sysid es since t h) found.counted.there.there)
      stands.settled.calls.calls
  each = subst (λ (l : List Call). AllByRecursion (Settles size made end valid before
      (pages_now size sysid es since t h) found.counted.there.there) l) (sym calls_are)
      (all_settle size made end valid before (pages_now size sysid es since t h)
      found.counted.there.there)

  pub last_made_is : h.last ≡ stands.log.made
  last_made_is = last_is size sysid es since t h none_torn cap stands.log finds

  pub opened_order : HoldsOrder size sysid es since
      (record t { calls = t.calls ++ stands.settled.calls.calls })
  opened_order = order_settled size sysid es since t h made end found.counted.there.there calls each
      (omega (arith, last_made_is, finds.within, few))

  are : (segment : ℕ) → state_now (record t { calls = t.calls ++ stands.settled.calls.calls }) segment
      ≡ after_calls (state_now t)
      (settle_calls size stands.log.end.0 stands.log.made (state_now t)) segment
  are segment =
      ap (λ (st : DiskState). st segment) (after_calls-append t.at_first t.calls calls)
      ∙ ap (λ (cs : List Call). after_calls before cs segment) calls_are

  old : KeepsOld size (state_now t) stands.log.made stands.log.end.0 (moment disk)
      (record t { calls = t.calls ++ stands.settled.calls.calls })
  old =
      let both = subst (λ (o : Option Tape). IfWhole size o (tape (standby_disk s))
      (λ b. KeepsOld size b made end (moment disk))) told stands.settled.keeps_old in
      let now = subst (λ (o : Option Tape). IfWhole size (Some t) o
      (λ b. KeepsOld size b made end (moment disk))) told_now both in
      now (pages_now size sysid es since t h)

  -- ---- what it holds

  holds_pages : HoldsLogPages size stands.log.end.0 stands.log.made
      (tape (standby_disk s)) (settled_pages size stands.log.end.0 (state_now t))
  holds_pages =
      subst (λ (o : Option Tape). HoldsLogPages size end made o (settled_pages size end before))
      (sym told_now)
      (holds_log_pages size sysid made end es valid h.order.chained before
      (pages_now size sysid es since t h)
      (only_made size sysid es t o cap made end records place found stands.found.end_is) found.counted.there.there
      from_start stands.found.reaches
      (read_below size sysid es t o cap made end records place found stands.found.end_is) (moment disk) after are
      old)

  resumed : HasResumed tape moment (standby_disk s) stands.log.end.0
      (settled_pages size stands.log.end.0 (state_now t)) s
  resumed = stands.resumes (settled_pages size end before) holds_pages

  log_below : HaveLogBelow size sysid es stands.log.end.0
      (settled_pages size stands.log.end.0 (state_now t))
  log_below number word low below =
      word_below size sysid made end es valid h.order.chained before
      (pages_now size sysid es since t h)
      (only_made size sysid es t o cap made end records place found stands.found.end_is) found.counted.there.there
      from_start stands.found.reaches
      (read_below size sysid es t o cap made end records place found stands.found.end_is) number word low below

  own_end : (k : ℕ) → stands.log.end.0 / 8192 * 8192 + 8 * k < stands.log.end.0
      → IsLogWord size sysid es (stands.log.end.0 / 8192) k (word_of (own_page s) k)
  own_end k below =
      own_word size sysid es t o cap made end records place found stands.found.end_is
      stands.found.reaches k below (own_page s) stands.whole stands.found.position_is
      (ap (λ (own : List ℕ). word_at own k) stands.page_is ∙ stands.found.page_is k below)

  writer_size : writer_segment_size s.writer ≡ size
  writer_size = s.sized ∙ stands.size_is

  only_log : TapeAssures size IsNowhere (IsWordPut (log_puts size sysid es)) since
      (record t { calls = t.calls ++ stands.settled.calls.calls })
  only_log =
      TapeAssures-within size IsNowhere IsNowhere (IsZeroOrLogWord size sysid es)
      (IsWordPut (log_puts size sysid es)) (λ segment none. none) (log_is_put size sysid es) since
      after (assures_tape size IsNowhere (IsZeroOrLogWord size sysid es) since after
      opened_order.words)

  pub opened_follows : FollowsLog tape sysid es since s
  opened_follows = record {
    whole = ap (λ (n : ℕ). n % 8) stands.end_is ∙ whole_end;
    own = subst (λ (e : ℕ). (k : ℕ) → e / 8192 * 8192 + 8 * k < e
        → IsLogWord s.geometry sysid es (e / 8192) k (word_of (own_page s) k)) (sym stands.end_is)
        (subst (λ (n : ℕ). (k : ℕ) → end / 8192 * 8192 + 8 * k < end
        → IsLogWord n sysid es (end / 8192) k (word_of (own_page s) k)) (sym stands.size_is)
        own_end);
    puts = record {
      puts = log_puts size sysid es;
      only = subst (λ (o : Option Tape). IfSome o (TapeAssures (writer_segment_size s.writer)
          IsNowhere (IsWordPut (log_puts size sysid es)) since)) (sym told_now)
          (subst (λ (n : ℕ). TapeAssures n IsNowhere (IsWordPut (log_puts size sysid es)) since
          after) (sym writer_size) only_log);
      log = subst (λ (n : ℕ). (number word : ℕ) (bytes : List ℕ) → word < 1024
          → IsWordPut (log_puts size sysid es) number word bytes
          → IsZeroOrLogWord n sysid es number word bytes) (sym stands.size_is)
          (put_is_log size sysid es);
    };
    holds = λ _. record {
      pages = settled_pages size end before;
      writer = resumed.holds;
      log = subst (λ (e : ℕ). HaveLogBelow s.geometry sysid es e (settled_pages size end before))
          (sym stands.end_is)
          (subst (λ (n : ℕ). HaveLogBelow n sysid es end (settled_pages size end before))
          (sym stands.size_is) log_below);
    };
  }

  pub opened_in_turn : MakesInTurn tape since s
  opened_in_turn = record {
    few = omega (arith, few, stands.cap_is);
    told = subst (λ (o : Option Tape). IfSome o (HasSegmentsInTurn since s)) (sym told_now)
        (record {
          last = h.last;
          made = turn_settled size sysid es since t h made end found.counted.there.there calls each;
          known = λ _. (
            last_made_is ∙ sym stands.made_is,
            omega (arith, last_made_is, finds.within, stands.cap_is),
          );
          low = omega (arith, last_made_is, finds.within, stands.cap_is);
        });
  }

  -- what was held before is held, and the standby stands at or behind it
  pub opened_held : (promise : ℕ × ℕ) → IsHeld size sysid es t promise
      → (held : IsHeld size sysid es (record t { calls = t.calls ++ stands.settled.calls.calls })
      promise) × KeepsLogUpto tape sysid es s (promise.0, held.upto)
  opened_held promise was =
      let held = held_settled size sysid es since t h none_torn cap stands.log finds made
      found.counted.there.there calls each promise was in (
        held.0,
        keeps_log tape sysid es s after promise.0 held.0.upto told_now resumed.kept.0
            (omega (arith, held.1, stands.end_is)) held.0.whole
            (subst (λ (n : ℕ). KeepsUpto n sysid es held.0.upto promise.0 after)
            (sym stands.size_is) held.0.keeps),
      )

  -- what it found is durable now
  pub opened_keeps : KeepsLogUpto tape sysid es s (moment (standby_disk s), standby_end s)
  opened_keeps = subst (λ (e : ℕ). KeepsLogUpto tape sysid es s (moment (standby_disk s), e))
      (sym stands.end_is) (record {
        pages = settled_pages size end before;
        kept = resumed.kept;
        log = subst (λ (n : ℕ). HaveLogBelow n sysid es end (settled_pages size end before))
            (sym stands.size_is) log_below;
        within = omega (arith, stands.end_is);
        whole = whole_end;
      })

  -- ---- where nothing waited for a sync

  module _ (quiet : NothingWaits (state_now t)) where
    among_made : (segment : ℕ) (x : Segment) → state_now t segment ≡ Some x
        → IsAmong stands.log.made segment
    among_made segment x is = elim (cases_lt 0 segment) [
      | inr none ↦ absurd (apart (λ among. omega (arith, among.0, none)))
      | inl some ↦ elim (cases_lt made segment) [
        | inl above ↦ absurd (apart (λ among. omega (arith, among.1, above)))
        | inr upto ↦ (omega (arith, some), omega (arith, upto))
      ]
    ]
      where
        apart : (IsAmong made segment → ⊥) → ⊥
        apart none =
            let gone = only_made size sysid es t o cap made end records place found stands.found.end_is segment none in
            let no : ⊥ = cc (is, gone) in
            no

    quiet_segment : (segment : ℕ) (x : Option Segment) → state_now t segment ≡ x
        → IfSome x (λ s. s.writes ≡ [])
        → SegmentAssures size IsNowhere (IsZeroOrLogWord size sysid es) segment x
        → SegmentAssures size (IsMadeUpto size stands.log.end.0)
        (IsLogBelow size sysid es stands.log.end.0) segment x
    quiet_segment segment None is none words = λ asked.
        let there = subst (λ (o : Option Segment). IsSome (page_of_segment o 0)) is
        (found.counted.there.there segment
        (asked.0, omega (arith, asked.1, holds_pages.made_as_far))) in
        absurd (let no : ⊥ = cc there in no)
    quiet_segment segment (Some x) is none words = (
      words.0,
      λ page word within low bytes may below.
          let number = segment * pages_of size + page in
          let read = stands_read x page word bytes none may in
          let among = at_number size end valid segment page within (λ d m. IsAmong made d)
          (among_made segment x is) in
          let here = at_number size end valid segment page within
          (λ d m. IsSomeAnd (before d) (λ s. bytes ≡ word_of (page_as_read s m) word))
          (subst (λ (o : Option Segment). IsSomeAnd o
          (λ s. bytes ≡ word_of (page_as_read s page) word)) (sym is) read) in
          read_below size sysid es t o cap made end records place found stands.found.end_is number word bytes among
          low (omega (arith, below)) here,
    )

    quiet_kept : KeepsUpto size sysid es stands.log.end.0 (length t.calls)
        (record t { calls = t.calls ++ stands.settled.calls.calls })
    quiet_kept =
        let IsThere = IsMadeUpto size end in
        let Fits = IsLogBelow size sysid es end in
        keeps_settled size sysid es since t h made end found.counted.there.there calls each
        (length t.calls) end (omega arith)
        (runs_from (StateAssures size IsThere Fits) (CallFits size Fits) t
        (λ segment. quiet_segment segment (state_now t segment) refl (quiet segment)
        (words_now size sysid es since t h segment)))

    -- it was durable when the disk was handed in
    pub quiet_held : moment disk ≡ length t.calls
        → (held : IsHeld size sysid es (record t { calls = t.calls ++ stands.settled.calls.calls })
        (moment disk, standby_end s)) × KeepsLogUpto tape sysid es s (moment disk, held.upto)
    quiet_held counted =
        let kept = subst (λ (n : ℕ). KeepsUpto size sysid es end n after) (sym counted) quiet_kept in (
          record {
            upto = end;
            whole = whole_end;
            reaches = λ i e got low. omega (arith, low, stands.end_is);
            keeps = kept;
          },
          keeps_log tape sysid es s after (moment disk) end told_now resumed.kept.0
              (omega (arith, stands.end_is)) whole_end
              (subst (λ (n : ℕ). KeepsUpto n sysid es end (moment disk) after) (sym stands.size_is)
              kept),
        )
