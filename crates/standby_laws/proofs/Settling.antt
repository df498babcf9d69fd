-- A log that holds nothing but words of one order is settled, to the end or not: it holds nothing
-- else then, with each entry that was whole.
use Rattle.std.proofs.Common.{◌≡◌, ℕ, ◌+◌, ◌*◌, ◌/◌, ◌%◌, ◌<◌, ◌≤◌, List, [], ◌∷◌, ◌++◌, length, Bool, Option, Some, inl, inr, refl, sym, subst, ◌∙◌, arith}
use Rattle.std.specs.List.{AllByRecursion}
use Rattle.std.proofs.lemmas.Bool.{cases_lt}
use Rattle.byte_position.specs.Geometry.{pages_of}
use Rattle.segment_disk.specs.declared.disk.Call.{Call}
use Rattle.segment_disk.specs.declared.disk.CallKind.{CallKind}
use Rattle.segment_disk.specs.declared.disk.CallKind.TheVariants.{Create, Write, Sync}
use Rattle.segment_disk.specs.Assured.{CallFits, IsMadeUpto, IsNowhere, KindFits, StateAssures}
use Rattle.segment_disk.specs.DiskImage.{image_as_read}
use Rattle.segment_disk.specs.Tape.{DiskState, Tape, state_now}
use Rattle.flush_core.specs.Lawful.{IsLawful}
use Rattle.flush_core.specs.Settled.{AreThere, HaveWholePages, IsOldOrZero}
use Rattle.flush_core.specs.SettledLog.{IsZeroOrLogWord}
use Rattle.flush_core.proofs.GrowingTapes.{with_calls-some}
use Rattle.flush_core.proofs.SettledLogs.{stands_fit}
use Rattle.found_log.specs.Found.{FindsLog, HasBegunToSettle, place_of_log}
use Rattle.found_log.specs.declared.finding.FoundLog.{FoundLog}
use Rattle.wal_page.specs.Order.{Entry}
use Rattle.wal_page.specs.LogPlace.{LogPlace}
use Rattle.wal_reader.specs.Pages.{pages_in}
use Rattle.written_log_laws.specs.Torn.{NoTornPass}
use Rattle.written_log_laws.proofs.FoundImages.{end_of_front}
use Rattle.written_log_laws.proofs.LawfulLaws.{lawful_images_decode_to_fronts}
use Rattle.reopened_log_laws.proofs.SettlingCalls.{Settles, all_settle, made_settle}
use Rattle.standby_laws.specs.History.{ReachesEntries}
use Rattle.standby_laws.proofs.Holding.{HoldsOrder, IsHeld, IsLogBelow, KeepsUpto, image_held, keeps_less, lawful_now, pages_now, read_is_left, segments_now, words_now}
use Rattle.standby_laws.proofs.LeftLogs.{ReadsOrder, count_is, end_whole, finish_within}
use Rattle.standby_laws.proofs.Moments.{IsWhole, assures_now, runs_on}
use Rattle.standby_laws.proofs.Turns.{AreMadeInTurn, MakeNone, grown_in_turn, none_in_turn}

pub reaches_further : (size : ℕ) (es : List Entry) (a b c : ℕ) → ReachesEntries size es a b
    → ReachesEntries size es b c → ReachesEntries size es a c
reaches_further size es a b c first second i e got low = second i e got (first i e got low)

module _ (size sysid : ℕ) (es : List Entry) (since : ℕ) (t : Tape)
    (h : HoldsOrder size sysid es since t) where
  abbrev before : DiskState
  before = state_now t

  -- ---- the calls of a settling

  module _ (made end : ℕ) (there : AreThere (state_now t) made) where
    abbrev Settling : Call → Type 0
    Settling = Settles size made end h.order.valid before (pages_now size sysid es since t h) there

    -- a word is one that might have been left before, or zeros at or above the end
    module _ (IsThere : ℕ → Type 0) (Fits : ℕ → ℕ → List ℕ → Type 0)
        (assures : StateAssures size IsThere Fits (state_now t))
        (zeros : (page word : ℕ) (bytes : List ℕ) → end ≤ page * 8192 + 8 * word
        → IsZeroOrLogWord size sysid es page word bytes → Fits page word bytes) where
      old_fits : (page word : ℕ) (bytes : List ℕ) → word < 1024
          → IsOldOrZero size (state_now t) end page word bytes → Fits page word bytes
      old_fits page word bytes low old = elim old.1 [
        | inl may ↦ stands_fit size IsThere Fits before h.order.valid assures page word bytes
            (before (page / pages_of size)) refl low may
        | inr zero ↦ zeros page word bytes zero.0 (inl zero.1)
      ]

      kind_fits : (geometry segment : ℕ) (kind : CallKind)
          → KindFits size (IsOldOrZero size (state_now t) end) geometry segment kind
          → KindFits size Fits geometry segment kind
      kind_fits geometry segment (Create made) fits =
          (fits.0, λ page word within low. old_fits _ _ _ low (fits.1 page word within low))
      kind_fits geometry segment (Write page bytes) fits =
          (fits.0, fits.1, λ word low. old_fits _ _ _ low (fits.2 word low))
      kind_fits geometry segment Sync fits = tt

      pub calls_fit : (calls : List Call) → AllByRecursion Settling calls
          → AllByRecursion (CallFits size Fits) calls
      calls_fit [] each = tt
      calls_fit (call ∷ calls) each =
          (kind_fits call.geometry call.segment call.kind each.0.0, calls_fit calls each.1)

    whole_call : (geometry segment : ℕ) (done : Bool) (kind : CallKind)
        → Settling (record { geometry = geometry; segment = segment; kind = kind; done = done })
        → IsWhole size (record { geometry = geometry; segment = segment; kind = kind; done = done })
    whole_call geometry segment done (Create made) is = is.0.0
    whole_call geometry segment done (Write page bytes) is = is.2
    whole_call geometry segment done Sync is = tt

    calls_whole : (calls : List Call) → AllByRecursion Settling calls
        → AllByRecursion (IsWhole size) calls
    calls_whole [] each = tt
    calls_whole (call ∷ calls) each =
        (whole_call call.geometry call.segment call.done call.kind each.0, calls_whole calls each.1)

    call_none : (geometry segment : ℕ) (done : Bool) (kind : CallKind)
        → Settling (record { geometry = geometry; segment = segment; kind = kind; done = done })
        → MakeNone (record { geometry = geometry; segment = segment; kind = kind; done = done }
        ∷ [])
    call_none geometry segment done (Create made) is = absurd is.2
    call_none geometry segment done (Write page bytes) is = (tt, tt)
    call_none geometry segment done Sync is = (tt, tt)

    pub calls_none : (calls : List Call) → AllByRecursion Settling calls → MakeNone calls
    calls_none [] each = tt
    calls_none (call ∷ calls) each =
        ((call_none call.geometry call.segment call.done call.kind each.0).0, calls_none calls each.1)

    -- behind some of them
    module _ (calls : List Call)
        (each : AllByRecursion (Settles size made end h.order.valid (state_now t)
        (pages_now size sysid es since t h) there) calls) where
      pub turn_settled : AreMadeInTurn since h.last (record t { calls = t.calls ++ calls })
      turn_settled = grown_in_turn since h.last h.last t calls h.turn
          (none_in_turn h.last calls (calls_none calls each))

      pub order_settled : h.last ≤ 4097
          → HoldsOrder size sysid es since (record t { calls = t.calls ++ calls })
      order_settled few = record {
        order = h.order;
        words = runs_on (StateAssures size IsNowhere (IsZeroOrLogWord size sysid es))
            (CallFits size (IsZeroOrLogWord size sysid es)) since t calls h.words
            (calls_fit IsNowhere (IsZeroOrLogWord size sysid es) (words_now size sysid es since t h)
            (λ page word bytes above zero. zero) calls each);
        whole = runs_on (HaveWholePages size) (IsWhole size) since t calls h.whole
            (calls_whole calls each);
        last = h.last;
        turn = turn_settled;
        low = inl few;
      }

      pub keeps_settled : (moment upto : ℕ) → upto ≤ end → KeepsUpto size sysid es upto moment t
          → KeepsUpto size sysid es upto moment (record t { calls = t.calls ++ calls })
      keeps_settled moment upto low keeps =
          let IsThere = IsMadeUpto size upto in
          let Fits = IsLogBelow size sysid es upto in
          runs_on (StateAssures size IsThere Fits) (CallFits size Fits) moment t calls keeps
          (calls_fit IsThere Fits (assures_now size IsThere Fits moment t keeps)
          (λ page word bytes above zero below. absurd (omega (arith, above, below, low))) calls each)

  -- ---- what is found

  module _ (none_torn : NoTornPass size (pages_in size (image_as_read (state_now t))) es) where
    abbrev pub reads_order : ReadsOrder size sysid es t
    reads_order = record {
      order = h.order;
      segments = segments_now size sysid es since t h;
      lawful = lawful_now size sysid es since t h;
      whole = pages_now size sysid es since t h;
      none_torn = none_torn;
    }

    module _ (cap : ℕ) (log : FoundLog) (finds : FindsLog size cap (Some t) log) where
      abbrev place : LogPlace
      place = place_of_log log

      pub last_is : h.last ≡ log.made
      last_is = count_is size sysid es t reads_order cap log.made log.end.0 finds.records place
          finds.tells finds.end_is

      pub whole_end : log.end.0 % 8 ≡ 0
      whole_end = end_whole size sysid es t reads_order cap log.made log.end.0 finds.records place
          finds.tells finds.end_is

      -- it ends at or behind each entry that is whole
      found_reaches : (upto : ℕ) → IsLawful size sysid (image_as_read (state_now t)) es upto
          → ReachesEntries size es upto log.end.0
      found_reaches upto is i e got low =
          let order = h.order in
          let front = lawful_images_decode_to_fronts size sysid upto (image_as_read before) es
          order.valid order.known order.narrow order.chained order.bounded is none_torn
          finds.records finds.tells.ends.answer finds.tells.ends.decodes in
          let ends = end_of_front size es front.count finds.records order.valid order.chained
          front.found_is in
          let here = finish_within size order.valid es order.chained front.count i e got
          (front.holds i e got low) in
          omega (arith, here, ends, finds.end_is)

      -- so what is held is held below the end
      pub held_found : (promise : ℕ × ℕ) → IsHeld size sysid es t promise
          → (held : IsHeld size sysid es t promise) × (held.upto ≤ log.end.0)
      held_found promise held =
          let end = log.end.0 in
          let image = image_as_read before in
          let is = image_held size sysid es since t h (length t.calls) image h.words.counted
          (read_is_left size sysid es since t h) promise.0 held.upto held.whole held.keeps
          held.keeps.counted in
          let reaches = found_reaches held.upto is in
          elim (cases_lt end held.upto) [
            | inl less ↦ (
              record {
                upto = end;
                whole = whole_end;
                reaches = reaches_further size es promise.1 held.upto end held.reaches reaches;
                keeps = keeps_less size sysid es promise.0 held.upto end t h.order.valid
                    (omega (arith, less)) held.keeps;
              },
              omega arith,
            )
            | inr more ↦ (held, omega (arith, more))
          ]

      pub held_settled : (made : ℕ) (there : AreThere (state_now t) made) (calls : List Call)
          → AllByRecursion (Settles size made log.end.0 h.order.valid (state_now t)
          (pages_now size sysid es since t h) there) calls
          → (promise : ℕ × ℕ) → IsHeld size sysid es t promise
          → (held : IsHeld size sysid es (record t { calls = t.calls ++ calls }) promise)
          × (held.upto ≤ log.end.0)
      held_settled made there calls each promise was =
          let held = held_found promise was in (
            record {
              upto = held.0.upto;
              whole = held.0.whole;
              reaches = held.0.reaches;
              keeps = keeps_settled made log.end.0 there calls each promise.0 held.0.upto
                  held.1 held.0.keeps;
            },
            held.1,
          )

    -- ---- a settling that stopped

    pub record IsStopped (after : Tape) : Type 0 where
      pub order : HoldsOrder size sysid es since after
      pub held : (promise : ℕ × ℕ) → IsHeld size sysid es t promise
          → IsHeld size sysid es after promise

    pub stopped_settling : (cap old_moment new_moment : ℕ) (new : Option Tape) → cap ≤ 4096
        → HasBegunToSettle size cap (Some t) new old_moment new_moment
        → (after : Tape) × (new ≡ Some after) × IsStopped after
    stopped_settling cap old_moment new_moment new few begun =
        let stops = begun.stopped in
        let end = begun.log.end.0 in
        let there : AreThere before stops.count = elim stops.there [
          | inl all ↦ all.there
          | inr none ↦ (λ segment among. absurd (omega (arith, among.0, among.1, none.0)))
        ] in
        let whole = pages_now size sysid es since t h in
        let Settling = Settles size stops.count end h.order.valid before whole there in
        let all = subst (λ (calls : List Call). AllByRecursion Settling calls) (sym stops.calls.are)
        (all_settle size stops.count end h.order.valid before whole there) in
        let made = made_settle size stops.count end h.order.valid before whole there (Some t) new
        old_moment new_moment stops.calls.front stops.calls.others all stops.calls.ends in (
          record t { calls = t.calls ++ made.0 },
          made.1 ∙ with_calls-some t made.0,
          record {
            order = order_settled stops.count end there made.0 made.2
                (omega (arith, last_is cap begun.log begun.found, begun.found.within, few));
            held = λ promise was. (held_settled cap begun.log begun.found stops.count there made.0
                made.2 promise was).0;
          },
        )
