-- While a log is settled its disk is one that this program left, at each moment and with no crash of it: what is read stays, and what may be left is what might have been left before, or zeros.
use Rattle.std.proofs.Common.{◌≡◌, ◌⊎◌, ℕ, ◌+◌, ◌-◌, ◌*◌, ◌/◌, ◌^◌, ◌<◌, ◌≤◌, List, [], ◌++◌, ◌∷◌, slice_get, length, take, Option, Some, None, inl, inr, refl, sym, ap, subst, ◌∙◌, append-nil, arith}
use Rattle.std.specs.Prelude.{IsSome}
use Rattle.std.specs.List.{AllByRecursion}
use Rattle.std.proofs.lemmas.List.{append_assoc}
use Rattle.std.proofs.Math.Seq.{take-append-add, take-length}
use Rattle.byte_position.specs.Geometry.{IsSegmentSize, pages_of}
use Rattle.byte_position.proofs.SegmentSizes.{segment_size_in_pages}
use Rattle.segment_disk.specs.declared.disk.Call.{Call}
use Rattle.segment_disk.specs.Assured.{DiskImageFits, SegmentAssures, StateAssures}
use Rattle.segment_disk.specs.DiskImage.{image_as_read, word_of}
use Rattle.segment_disk.specs.Tape.{DiskState, Segment, Tape, page_of_segment, state_now}
use Rattle.wal_page.specs.Order.{Entry}
use Rattle.flush_core.specs.Calls.{AreMade, with_calls}
use Rattle.flush_core.specs.Lawful.{IsLawful}
use Rattle.flush_core.specs.Settled.{HasSettled, HaveWholePages, AreThere, IsAmong, IsOldOrZero, IsReadOrZero, NextFails, settle_calls}
use Rattle.flush_core.specs.SettledLog.{AreOnly, IsZeroOrLogWord}
use Rattle.flush_core.proofs.GrowingTapes.{with_calls-some}
use Rattle.flush_core.proofs.SettledLeft.{from_number}
use Rattle.flush_core.proofs.SettledLogs.{stands_fit}
use Rattle.wal_reader.specs.declared.found.FoundRecord.{FoundRecord}
use Rattle.wal_reader.specs.Pages.{pages_in}
use Rattle.wal_reader.specs.Decodes.{Decodes}
use Rattle.wal_reader.proofs.SettledLaws.{decoding_is_settled}
use Rattle.written_log_laws.specs.FoundLog.{ReadsUntorn, end_behind}
use Rattle.written_log_laws.specs.SettledFound.{NextIsNeverWhole}
use Rattle.written_log_laws.specs.Torn.{NoTornPass}
use Rattle.written_log_laws.proofs.ReadImages.{as_read_fits, fits_lawful}
use Rattle.written_log_laws.proofs.SettledFound.{read_images_decode_to_found}
use Rattle.found_log.specs.Found.{FindsLog, HasBegunToSettle}
use Rattle.found_log.specs.declared.finding.FoundLog.{FoundLog}
use Rattle.machine_state.specs.Words.{Opening}
use Rattle.reopened_log_laws.specs.Reopened.{IsReopenedOn}
use Rattle.reopened_log_laws.specs.Stopped.{ReopenedSettlingsWereLeft, StoppedSettlingsWereLeft, CompletedSettlingsWereLeft}
use Rattle.reopened_log_laws.specs.StopsAt.{IsCutShort, StopsAt, TapesStopAtTheirEnds, tape_until, write_to}
use Rattle.reopened_log_laws.specs.WasLeft.{WasLeft, WasLeftOf}
use Rattle.reopened_log_laws.proofs.FirstEntries.{left_logs_are_read}
use Rattle.reopened_log_laws.proofs.MadeSegments.{first_page}
use Rattle.reopened_log_laws.proofs.SettlingCalls.{Settles, all_settle, cut_settles, each_at, each_both, each_take, get_behind, made_settle, old_behind, reads_old, still_whole}
use Rattle.reopened_log_laws.proofs.SuitedDisks.{count_is, end_is, same_count}
use Rattle.reopened_log_laws.proofs.Surviving.{some_tape}

pub tapes_stop_at_their_ends : TapesStopAtTheirEnds
tapes_stop_at_their_ends t = inl (ap (λ (calls : List Call). record t { calls = calls }) (sym (take-length t.calls)))

-- ---- a disk that has nothing but old words and zeros

module _ (size sysid : ℕ) (t : Tape) (found : List FoundRecord) (left : WasLeft size sysid t found) where
  abbrev before : DiskState
  before = state_now t

  abbrev end : ℕ
  end = end_behind size found

  valid : IsSegmentSize size
  valid = left.has_found.may.valid

  some_pages : 0 < pages_of size
  some_pages = omega (arith, (segment_size_in_pages size valid).1)

  there_here : (segment : ℕ) (s : Option Segment) → SegmentAssures size (IsAmong left.count) (IsZeroOrLogWord size sysid left.order) segment s → IsAmong left.count segment → IsSome (page_of_segment s 0)
  there_here segment None assures among = absurd (assures among)
  there_here segment (Some s) assures among = first_page s (omega (arith, some_pages, assures.0))

  pub there : AreThere (state_now t) left.count
  there segment among = there_here segment (before segment) (left.has_found.may.lawful segment) among

  module _ (state : DiskState) (old : StateAssures size (IsAmong left.count) (IsOldOrZero size (state_now t) (end_behind size found)) state) (reads : DiskImageFits size (IsAmong left.count) (IsReadOrZero size (state_now t) left.count (end_behind size found)) (image_as_read state)) where
    word_lawful : (number word : ℕ) (bytes : List ℕ) → word < 1024 → IsOldOrZero size before end number word bytes → IsZeroOrLogWord size sysid left.order number word bytes
    word_lawful number word bytes low is = elim is.1 [
      | inl stands ↦ stands_fit size (IsAmong left.count) (IsZeroOrLogWord size sysid left.order) before valid left.has_found.may.lawful number word bytes (before (number / pages_of size)) refl low stands
      | inr zero ↦ inl zero.1
    ]

    lawful_here : (segment : ℕ) (s : Option Segment) → SegmentAssures size (IsAmong left.count) (IsOldOrZero size before end) segment s → SegmentAssures size (IsAmong left.count) (IsZeroOrLogWord size sysid left.order) segment s
    lawful_here segment None assures = assures
    lawful_here segment (Some s) assures = (assures.0, λ page word within low bytes may. word_lawful (segment * pages_of size + page) word bytes low (assures.1 page word within low bytes may))

    state_lawful : StateAssures size (IsAmong left.count) (IsZeroOrLogWord size sysid left.order) state
    state_lawful segment = lawful_here segment (state segment) (old segment)

    image_lawful : IsLawful size sysid (image_as_read state) left.order 0
    image_lawful = record {
      words = fits_lawful size sysid left.order (IsAmong left.count) (image_as_read state) valid (as_read_fits size (IsAmong left.count) (IsZeroOrLogWord size sysid left.order) state state_lawful);
      below = λ k low. absurd (omega (arith, low));
      there = λ k low. absurd (omega (arith, low));
    }

    found_again : NoTornPass size (pages_in size (image_as_read state)) left.order → ReadsUntorn size sysid left.count left.order state found
    found_again none_torn =
        let settled = decoding_is_settled size (image_as_read state) size None valid in
        let same = read_images_decode_to_found size sysid left.count left.order before found left.has_found left.only (image_as_read state) (as_read_fits size (IsAmong left.count) (IsOldOrZero size before end) state old) reads image_lawful none_torn settled.0 settled.1 settled.2 in
        record {
          may = record {
            valid = valid;
            known = left.has_found.may.known;
            narrow = left.has_found.may.narrow;
            chained = left.has_found.may.chained;
            bounded = left.has_found.may.bounded;
            lawful = state_lawful;
          };
          none_torn = none_torn;
          answer = settled.1;
          decodes = subst (λ (l : List FoundRecord). Decodes size (pages_in size (image_as_read state)) size None l settled.1) same settled.2;
        }

    -- no segment is there that was not
    none_more : (segment : ℕ) (s : Option Segment) → before segment ≡ None → SegmentAssures size (IsAmong left.count) (IsOldOrZero size before end) segment s → s ≡ None
    none_more segment None none assures = refl
    none_more segment (Some s) none assures =
        let was = from_number size end valid segment 0 some_pages (λ d. IsSome (before d)) (assures.1 0 0 some_pages (omega arith) (word_of (s.durable 0) 0) (inl refl)).0 in
        let gone : IsSome {T = Segment} None = subst (λ (o : Option Segment). IsSome o) none was in
        absurd (cc gone)

    still_only : AreOnly left.count state
    still_only segment apart = none_more segment (state segment) (left.only segment apart) (old segment)

    -- where nothing but zeros might be left, that stays so
    still_lacking : NextIsNeverWhole size sysid left.order found state
    still_lacking more =
        let never = left.never_whole more in
        record {
          page = never.page;
          word = never.word;
          small = never.small;
          wanted = never.wanted;
          lacked = λ bytes may. elim (stands_fit size (IsAmong left.count) (IsOldOrZero size before end) state valid old never.page never.word bytes (state (never.page / pages_of size)) refl never.small may).1 [
            | inl stands ↦ never.lacked bytes stands
            | inr zero ↦ zero.1
          ];
        }

  -- ---- behind some of the calls that settle its log

  left_as : (ended : Tape) (made : List Call) → ended ≡ record t { calls = t.calls ++ made } → AllByRecursion (Settles size left.count (end_behind size found) (left.has_found.may.valid) (state_now t) left.whole there) made → NoTornPass size (pages_in size (image_as_read (state_now ended))) left.order → WasLeftOf size sysid left.order ended found
  left_as ended made is each none_torn =
      let cut = record t { calls = t.calls ++ made } in
      let old = old_behind size left.count end valid before left.whole there t (length t.calls) refl refl made each in
      let reads = reads_old size left.count end valid before left.whole there t (length t.calls) refl refl made each in
      let torn = subst (λ (d : Tape). NoTornPass size (pages_in size (image_as_read (state_now d))) left.order) is none_torn in
      subst (λ (d : Tape). WasLeftOf size sysid left.order d found) (sym is) (
        record {
          order = left.order;
          count = left.count;
          has_found = found_again (state_now cut) old reads torn;
          only = still_only (state_now cut) old reads;
          never_whole = still_lacking (state_now cut) old reads;
          whole = still_whole size left.count end valid before left.whole there t (length t.calls) refl refl made each;
          low = left.low;
        },
        refl,
      )

  -- what stands behind the calls until a stop settles its log, or is a part of it
  abbrev pub StopsSettling : Tape → Type 0
  StopsSettling ended = (made : List Call) × (ended ≡ record t { calls = t.calls ++ made }) × AllByRecursion (Settles size left.count (end_behind size found) (left.has_found.may.valid) (state_now t) left.whole there) made

  pub left_so : (ended : Tape) → StopsSettling ended → NoTornPass size (pages_in size (image_as_read (state_now ended))) left.order → WasLeftOf size sysid left.order ended found
  left_so ended part none_torn = left_as ended part.0 part.1 part.2 none_torn

  -- below the end nothing is left but what might have been left before
  pub old_so : (ended : Tape) → StopsSettling ended → StateAssures size (IsAmong left.count) (IsOldOrZero size (state_now t) (end_behind size found)) (state_now ended)
  old_so ended part =
      subst (λ (d : Tape). StateAssures size (IsAmong left.count) (IsOldOrZero size before end) (state_now d)) (sym part.1)
      (old_behind size left.count end valid before left.whole there t (length t.calls) refl refl part.0 part.2)

  module _ (now : Tape) (calls : List Call) (now_is : now ≡ record t { calls = t.calls ++ calls }) (each : AllByRecursion (Settles size left.count (end_behind size found) (left.has_found.may.valid) (state_now t) left.whole there) calls) (moment : ℕ) (since : length t.calls ≤ moment) (ended : Tape) where
    abbrev made : List Call
    made = take (moment - length t.calls) calls

    abbrev cut : Tape
    cut = record t { calls = t.calls ++ made }

    cut_is : tape_until moment now ≡ cut
    cut_is =
        let at : moment ≡ length t.calls + (moment - length t.calls) = omega (arith, since) in
        ap (tape_until moment) now_is
        ∙ ap (λ (n : ℕ). record t { calls = take n (t.calls ++ calls) }) at
        ∙ ap (λ (l : List Call). record t { calls = l }) (take-append-add t.calls calls (moment - length t.calls))

    -- a write was cut short behind them
    cut_settle : (c : IsCutShort now moment ended) → AllByRecursion (Settles size left.count end valid before left.whole there) (made ++ write_to c.geometry c.segment c.page c.mix c.done ∷ [])
    cut_settle c =
        let Settling = Settles size left.count end valid before left.whole there in
        let made_settle_it = each_take Settling (moment - length t.calls) calls each in
        let next = write_to c.geometry c.segment c.page c.bytes c.done in
        let last = write_to c.geometry c.segment c.page c.mix c.done in
        let at : moment ≡ length t.calls + (moment - length t.calls) = omega (arith, since) in
        let next_is : slice_get calls (moment - length t.calls) ≡ Some next = sym (get_behind t.calls calls (moment - length t.calls) moment at) ∙ sym (ap (λ (d : Tape). slice_get d.calls moment) now_is) ∙ c.next in
        let is_there : state_now cut c.segment ≡ Some c.there = sym (ap (λ (d : Tape). state_now d c.segment) cut_is) ∙ c.is_there in
        let settles = each_at Settling (moment - length t.calls) calls next each next_is in
        each_both Settling made (last ∷ []) made_settle_it
        (cut_settles size left.count end valid before left.whole there t (length t.calls) refl refl made made_settle_it c.geometry c.segment c.page c.bytes c.mix c.done c.there settles is_there c.mixes, tt)

    stops_behind : StopsAt now moment ended → StopsSettling ended
    stops_behind (inl same) = (made, same ∙ cut_is, each_take (Settles size left.count end valid before left.whole there) (moment - length t.calls) calls each)
    stops_behind (inr c) =
        let last = write_to c.geometry c.segment c.page c.mix c.done in (
          made ++ last ∷ [],
          c.stopped_is ∙ ap (λ (d : Tape). record d { calls = d.calls ++ last ∷ [] }) cut_is ∙ ap (λ (l : List Call). record t { calls = l }) (append_assoc t.calls made (last ∷ [])),
          cut_settle c,
        )

  -- ---- where a call failed, and where all were made

  -- behind all calls of a settling its pages are whole
  settled_whole : (now : Tape) (handed last : ℕ) → handed ≡ length t.calls → (calls : List Call) → calls ≡ settle_calls size (end_behind size found) left.count (state_now t) → AreMade (Some t) (Some now) handed last calls → HaveWholePages size (state_now now)
  settled_whole now handed last counted calls are made =
      let each = subst (λ (l : List Call). AllByRecursion (Settles size left.count end valid before left.whole there) l) (sym are) (all_settle size left.count end valid before left.whole there) in
      let now_is = some_tape now (record t { calls = t.calls ++ calls }) (made.tape ∙ with_calls-some t calls) in
      subst (λ (d : Tape). HaveWholePages size (state_now d)) (sym now_is) (still_whole size left.count end valid before left.whole there t (length t.calls) refl refl calls each)

  -- at each moment of a settling, of which a front of the calls was made
  stops_meanwhile : (now : Tape) (handed last moment : ℕ) → handed ≡ length t.calls → (front others : List Call) → front ++ others ≡ settle_calls size (end_behind size found) left.count (state_now t)
      → (AreMade (Some t) (Some now) handed last front ⊎ NextFails (with_calls (Some t) front) (Some now) (handed + length front) last others)
      → handed ≤ moment → (ended : Tape) → StopsAt now moment ended → StopsSettling ended
  stops_meanwhile now handed last moment counted front others are ends since ended stops =
      let Settling = Settles size left.count end valid before left.whole there in
      let all = subst (λ (l : List Call). AllByRecursion Settling l) (sym are) (all_settle size left.count end valid before left.whole there) in
      let calls = made_settle size left.count end valid before left.whole there (Some t) (Some now) handed last front others all ends in
      let now_is = some_tape now (record t { calls = t.calls ++ calls.0 }) (calls.1 ∙ with_calls-some t calls.0) in
      stops_behind now calls.0 now_is calls.2 moment (omega (arith, counted, since)) ended stops

  -- no call was made
  pub stops_uncalled : (now : Tape) (moment : ℕ) → now ≡ t → length t.calls ≤ moment → (ended : Tape) → StopsAt now moment ended → StopsSettling ended
  stops_uncalled now moment same since ended stops =
      stops_behind now [] (same ∙ ap (λ (l : List Call). record t { calls = l }) (sym (append-nil t.calls))) tt moment since ended stops

  -- the end is that of what was found
  pub end_of_log : (cap : ℕ) (log : FoundLog) → FindsLog size cap (Some t) log → log.end.0 ≡ end_behind size found
  end_of_log cap log finds =
      finds.end_is ∙ ap (end_behind size) (left_logs_are_read size sysid t found finds.records finds.tells.ends.answer left finds.tells.ends.decodes)

  pub stopped : (cap handed last moment : ℕ) (now : Tape) → handed ≡ length t.calls → HasBegunToSettle size cap (Some t) (Some now) handed last → handed ≤ moment
      → (ended : Tape) → StopsAt now moment ended → StopsSettling ended
  stopped cap handed last moment now counted begun since ended stops =
      let settling = begun.stopped in
      elim settling.there [
        | inr none ↦ stops_uncalled now moment (some_tape now t none.1.same_tape) (omega (arith, counted, since)) ended stops
        | inl counts ↦
            (let count = same_count size settling.count left.count (IsZeroOrLogWord size sysid left.order) before (2 ^ 60 / size) some_pages left.has_found.may.lawful left.only left.low counts.there counts.others in
            let calls = subst (λ (n : ℕ). settling.calls.front ++ settling.calls.others ≡ settle_calls size n left.count before) (end_of_log cap begun.log begun.found)
            (subst (λ (n : ℕ). settling.calls.front ++ settling.calls.others ≡ settle_calls size begun.log.end.0 n before) (sym count) settling.calls.are) in
            stops_meanwhile now handed last moment counted settling.calls.front settling.calls.others calls settling.calls.ends since ended stops)
      ]

  completed : (cap handed last moment : ℕ) (log : FoundLog) (now : Tape) → handed ≡ length t.calls → FindsLog size cap (Some t) log → HasSettled size log.end.0 log.made (Some t) (Some now) handed last → handed ≤ moment
      → (ended : Tape) → StopsAt now moment ended → StopsSettling ended
  completed cap handed last moment log now counted finds settled since ended stops =
      let count = same_count size log.made left.count (IsZeroOrLogWord size sysid left.order) before (2 ^ 60 / size) some_pages left.has_found.may.lawful left.only left.low settled.there.there settled.there.others in
      let calls = settled.calls.calls in
      let are = subst (λ (n : ℕ). calls ≡ settle_calls size n left.count before) (end_of_log cap log finds)
      (subst (λ (n : ℕ). calls ≡ settle_calls size log.end.0 n before) (sym count) settled.calls.are) in
      stops_meanwhile now handed last moment counted calls [] (append-nil calls ∙ are) (inl settled.calls.made) since ended stops

pub stopped_settlings_were_left : StoppedSettlingsWereLeft
stopped_settlings_were_left size sysid cap handed last moment t now ended found left counted begun since stops none_torn =
    left_so size sysid t found left ended (stopped size sysid t found left cap handed last moment now counted begun since ended stops) none_torn

-- the calls of a settling that was made to its end
calls_are : (opening : Opening) (front : List Entry) (handed : ℕ) (t began : Tape) (found : List FoundRecord) (r : IsReopenedOn opening front handed t began found) → r.settled.calls.calls ≡ settle_calls (opening.setup).seg_size (end_behind (opening.setup).seg_size found) r.left.count (state_now t)
calls_are opening front handed t began found r =
    let size = (opening.setup).seg_size in
    let calls = r.settled.calls.calls in
    let at_end : calls ≡ settle_calls size (end_behind size found) opening.made (state_now t) = subst (λ (n : ℕ). calls ≡ settle_calls size n opening.made (state_now t)) (sym (end_is opening front handed t began found r)) r.settled.calls.are in
    subst (λ (n : ℕ). calls ≡ settle_calls size (end_behind size found) n (state_now t)) (sym (count_is opening front handed t began found r)) at_end

pub began_whole : (opening : Opening) (front : List Entry) (handed : ℕ) (t began : Tape) (found : List FoundRecord) → IsReopenedOn opening front handed t began found → HaveWholePages (opening.setup).seg_size (state_now began)
began_whole opening front handed t began found r =
    settled_whole (opening.setup).seg_size (opening.setup).sysid t found r.left began handed opening.moment r.counted r.settled.calls.calls (calls_are opening front handed t began found r) r.settled.calls.made

pub completed_settlings_were_left : CompletedSettlingsWereLeft
completed_settlings_were_left size sysid cap handed last moment log t now ended found left counted finds settled since stops none_torn =
    left_so size sysid t found left ended (completed size sysid t found left cap handed last moment log now counted finds settled since ended stops) none_torn

-- where a settling stops that was made to its end
pub reopened_stops : (opening : Opening) (front : List Entry) (handed moment : ℕ) (t began ended : Tape) (found : List FoundRecord) (r : IsReopenedOn opening front handed t began found) → handed ≤ moment → StopsAt began moment ended → StopsSettling (opening.setup).seg_size (opening.setup).sysid t found r.left ended
reopened_stops opening front handed moment t began ended found r since stops =
    let calls = r.settled.calls.calls in
    stops_meanwhile (opening.setup).seg_size (opening.setup).sysid t found r.left began handed opening.moment moment r.counted calls [] (append-nil calls ∙ calls_are opening front handed t began found r) (inl r.settled.calls.made) since ended stops

pub reopened_settlings_were_left : ReopenedSettlingsWereLeft
reopened_settlings_were_left opening front handed moment t began ended found r since stops none_torn =
    left_so (opening.setup).seg_size (opening.setup).sysid t found r.left ended (reopened_stops opening front handed moment t began ended found r since stops) none_torn
