-- What is kept of a log over a life, by what the calls of `Wal` promise.
use Rattle.std.proofs.Common.{◌≡◌, ◌⊎◌, ℕ, ◌^◌, ◌<◌, All, List, [], ◌++◌, length, Option, Some, IfSome, inl, inr, sym, ap, subst, ◌∙◌, arith}
use Rattle.std.proofs.lemmas.List.{append-nil}
use Rattle.std.proofs.lemmas.List.Elements.{All-weaker}
use Rattle.segment_disk.specs.declared.disk.Call.{Call}
use Rattle.segment_disk.specs.Tape.{IsUncalled, Tape, state_now}
use Rattle.flush_core.specs.Calls.{with_calls}
use Rattle.flush_core.specs.Settled.{HasSettled}
use Rattle.flush_core.proofs.GrowingTapes.{with_calls-some}
use Rattle.wal_page.specs.LogPlace.{new_place}
use Rattle.wal_page.specs.Order.{Entry}
use Rattle.wal_reader.specs.declared.found.FoundRecord.{FoundRecord}
use Rattle.written_log_laws.specs.FoundLog.{end_behind}
use Rattle.written_log_laws.specs.Written.{found_of}
use Rattle.found_log.specs.Found.{HasBegunToSettle, IsDiskLog}
use Rattle.machine_state.specs.declared.setup.Setup.{Setup}
use Rattle.machine_state.specs.Words.{Opening, found_end}
use Rattle.wal_rule.specs.declared.pass.Pass.{Pass}
use Rattle.wal_rule.specs.Passes.{view_of_pass}
use Rattle.wal_rule.specs.Tables.{began_of_table}
use Rattle.wal_log.specs.declared.opening.OpenFaultKind.{OpenFaultKind}
use Rattle.wal_log.specs.declared.opening.OpenFaultKind.TheVariants.{BadSetup, Memory, Disk, NotEmpty, Beyond, Foreign}
use Rattle.wal_log.specs.declared.reopening.Found.{Found}
use Rattle.wal_log.specs.declared.wal.Wal.{Wal}
use Rattle.wal_log.specs.Logs.{opening_of_log, setup_of_log, table_of}
use Rattle.wal_log.specs.Reopening.{IsReopened, TellsReopenFault}
use Rattle.machine_laws.specs.WholeOrders.{LiesBehind}
use Rattle.machine_laws.proofs.WholeOrders.{LiesBehind-new}
use Rattle.run_laws.specs.Assured.{TapeGoesOn}
use Rattle.run_laws.proofs.ClosedRuns.{empty_suited}
use Rattle.reopened_log_laws.specs.FoundFirst.{AreFoundEntries}
use Rattle.reopened_log_laws.specs.Lives.{LifeEndsAt}
use Rattle.reopened_log_laws.specs.Reopened.{IsReopenedOn}
use Rattle.reopened_log_laws.specs.WasLeft.{WasLeft}
use Rattle.reopened_log_laws.proofs.FoundPlaces.{found_entries_are_one, found_places_lie_behind}
use Rattle.reopened_log_laws.proofs.KeptLives.{KeepsSure, begun_keeps, failed_keeps, none_kept, reopened_keeps, settled_keeps, uncalled_keeps, with_left}
use Rattle.reopened_log_laws.proofs.KeptRecords.{IsSureRecord}
use Rattle.reopened_log_laws.proofs.SuitedDisks.{reopened_logs_are_suited}
use Rattle.reopened_log_laws.proofs.Surviving.{calls_counted, some_tape}
use Rattle.wal_log_laws.specs.History.{BeginsWal, ContinuesWal, EndsReopening, FailsToReopen, IsHandedIn, IsLived, IsPromisedDurable, order_of}
use Rattle.wal_log_laws.proofs.Closing.{closed_there, closed_written, goes_on, promised_firm}

-- what holds of the log's own size and system id holds of those that are asked for
as_asked : (P : ℕ → ℕ → Type 0) (size sysid m n : ℕ) → m ≡ size → n ≡ sysid → P m n → P size sysid
as_asked P size sysid m n size_is sysid_is holds =
    subst (λ (k : ℕ). P size k) sysid_is (subst (λ (k : ℕ). P k n) size_is holds)

settled_as : (a b : ℕ) → a ≡ b → (c d : ℕ) → c ≡ d → (m n : ℕ) → m ≡ n → (o : Option Tape)
    (t : Tape) → o ≡ Some t → (q : Option Tape) (began : Tape) → q ≡ Some began → (h k : ℕ)
    → HasSettled a c m o q h k → HasSettled b d n (Some t) (Some began) h k
settled_as a b ab c d cd m n mn o t ot q began qb h k s =
    subst (λ (x : Option Tape). HasSettled b d n (Some t) x h k) qb
    (subst (λ (x : Option Tape). HasSettled b d n x q h k) ot
    (subst (λ (x : ℕ). HasSettled b d x o q h k) mn
    (subst (λ (x : ℕ). HasSettled b x m o q h k) cd
    (subst (λ (x : ℕ). HasSettled x c m o q h k) ab s))))

-- what is said of a tape that is told
pub at_some : (P : Tape → Type 0) (o : Option Tape) (t : Tape) → o ≡ Some t → IfSome o P → P t
at_some P o t is holds = subst (λ (x : Option Tape). IfSome x P) is holds

module _ {D : Type 0} (tape : D → Option Tape) (moment faults : D → ℕ)
    (counts : (disk : D) → IfSome (tape disk) (λ t. moment disk ≡ length t.calls)) where
  counted_at : (disk : D) (t : Tape) → tape disk ≡ Some t → moment disk ≡ length t.calls
  counted_at disk t is = at_some (λ (t : Tape). moment disk ≡ length t.calls) (tape disk) t is
      (counts disk)

  -- ---- a log that begins

  module _ (size sysid : ℕ) (t next : Tape) (order : List Entry) (more : List FoundRecord)
      (life : BeginsWal tape moment faults size sysid t next order more) (narrow : sysid < 2 ^ 64)
    where
      abbrev opening : Opening
      opening = opening_of_log life.wal

      abbrev l : IsLived tape moment faults size life.wal [] next order more
      l = life.lived

      setup_is : setup_of_log life.wal ≡ life.setup
      setup_is = ap (λ (o : Opening). o.setup) (life.opened).opening

      -- nothing lies below its place
      lies : LiesBehind (opening_of_log life.wal) []
      lies = LiesBehind-new opening ((l.closes.closes).sound).setup_is.size
          (ap (λ (o : Opening). o.place) (life.opened).opening
          ∙ ap (λ (s : Setup). new_place s.seg_size) (sym setup_is))

      sized : (setup_of_log life.wal).seg_size ≡ size
      sized = ap (λ (s : Setup). s.seg_size) setup_is ∙ (life.handed).sized

      named : (setup_of_log life.wal).sysid ≡ sysid
      named = ap (λ (s : Setup). s.sysid) setup_is ∙ (life.handed).named

      its_narrow : (setup_of_log life.wal).sysid < 2 ^ 64
      its_narrow = subst (λ (n : ℕ). n < 2 ^ 64) (sym named) narrow

      began_is : began_of_table tape (table_of life.wal) ≡ Some t
      began_is = (life.opened).began ∙ (life.handed).before

      none_made : (opening_of_log life.wal).made ≡ 0
      none_made = ap (λ (o : Opening). o.made) (life.opened).opening

      counted : (opening_of_log life.wal).moment ≡ length t.calls
      counted = ap (λ (o : Opening). o.moment) (life.opened).opening
          ∙ counted_at life.disk t (life.handed).before

      on : TapeGoesOn (Some t) (Some l.now)
      on = goes_on tape moment faults life.wal l.pass l.closed l.closes t l.now began_is l.after
          its_narrow

      begun_at : (hard : List FoundRecord) → All (λ (f : FoundRecord). ⊥) hard
          → LifeEndsAt (setup_of_log life.wal).seg_size
          (order_of tape moment faults life.wal l.pass l.closed l.closes) l.now l.at next
          → All (IsPromisedDurable (setup_of_log life.wal).seg_size l.at
          (order_of tape moment faults life.wal l.pass l.closed l.closes) (view_of_pass l.pass))
          more
          → KeepsSure (setup_of_log life.wal).seg_size (setup_of_log life.wal).sysid next
          (order_of tape moment faults life.wal l.pass l.closed l.closes) (hard ++ more)
      begun_at hard none ends promised =
          let its_order = order_of tape moment faults life.wal l.pass l.closed l.closes in
          let c = closed_there tape moment faults life.wal l.pass l.closed l.closes t l.now began_is
          l.after its_narrow counted (empty_suited opening (Some t) none_made life.empty) in
          begun_keeps opening l.at t l.now next its_order
          (closed_written opening [] its_order l.now (view_of_pass l.pass) c lies) on life.empty
          none_made counted its_narrow l.since ends.left ends.no_torn_pass more
          (promised_firm opening its_order l.now (view_of_pass l.pass) c [] l.at more promised) hard
          none

      begun_of : (hard : List FoundRecord) → All (λ (f : FoundRecord). ⊥) hard
          → KeepsSure size sysid next order (hard ++ more)
      begun_of hard none = as_asked (λ m n. LifeEndsAt m order l.now l.at next
          → All (IsPromisedDurable m l.at order (view_of_pass l.pass)) more
          → KeepsSure m n next order (hard ++ more)) size sysid (setup_of_log life.wal).seg_size
          (setup_of_log life.wal).sysid sized named
          (subst (λ (es : List Entry).
          LifeEndsAt (setup_of_log life.wal).seg_size es l.now l.at next
          → All (IsPromisedDurable (setup_of_log life.wal).seg_size l.at es
          (view_of_pass l.pass)) more
          → KeepsSure (setup_of_log life.wal).seg_size (setup_of_log life.wal).sysid next es
          (hard ++ more)) (sym l.order_is) (begun_at hard none)) l.ends l.promised

      -- none was sure on a disk that holds nothing
      pub begins_keeps : (before : List Entry) (hard : List FoundRecord)
          → KeepsSure size sysid t before hard → KeepsSure size sysid next order (hard ++ more)
      begins_keeps before hard k = begun_of hard (with_left size sysid t before hard
          (λ (o : List Entry). All (λ (f : FoundRecord). ⊥) hard) k (λ found left kept.
          All-weaker (IsSureRecord size sysid left.order (state_now t)) (λ (f : FoundRecord). ⊥)
          (none_kept size sysid t found left life.empty) hard kept))

  -- ---- a log that was reopened

  module _ (setup : Setup) (disk : D) (wal : Wal D) (first : Pass) (told : Found)
      (r : IsReopened tape moment faults setup disk wal first told) (t : Tape)
      (before : tape disk ≡ Some t) where
    abbrev its_size : ℕ
    its_size = (setup_of_log wal).seg_size

    abbrev its_sysid : ℕ
    its_sysid = (setup_of_log wal).sysid

    setup_as : setup_of_log wal ≡ setup
    setup_as = ap (λ (o : Opening). o.setup) r.opening

    abbrev calls : List Call
    calls = r.settled.calls.calls

    -- the tape at the opening
    abbrev began : Tape
    began = record t { calls = t.calls ++ calls }

    began_as : began_of_table tape (table_of wal) ≡ Some began
    began_as = r.settled.calls.made.tape ∙ ap (λ (o : Option Tape). with_calls o calls) before
        ∙ with_calls-some t calls

    ends_as : told.end.0 ≡ found_end (opening_of_log wal)
    ends_as = sym r.goes_on_at ∙ ap found_end (sym r.opening)

    is_found : IsDiskLog setup.seg_size setup.cap_segments r.records r.place r.made t
    is_found = at_some
        (IsDiskLog setup.seg_size setup.cap_segments r.records r.place r.made) (tape disk) t
        before r.read

    module _ (found : List FoundRecord)
        (left : WasLeft (setup_of_log wal).seg_size (setup_of_log wal).sysid t found) where
      -- the place lies behind the entries of the records that were left
      found_place : (front : List Entry)
          × AreFoundEntries (setup_of_log wal).seg_size t front
          × LiesBehind (opening_of_log wal) front
          × (found_of (setup_of_log wal).seg_size front ≡ found) × (r.records ≡ found)
      found_place = found_places_lie_behind (opening_of_log wal) setup.cap_segments r.made t found
          r.records left r.openable.placed
          (sym ends_as ∙ r.end_is
          ∙ ap (λ (s : Setup). end_behind s.seg_size r.records) (sym setup_as))
          (ap (λ (o : Opening). (o.place).prev) r.opening ∙ r.prev_is)
          (subst (λ (o : Opening). IsDiskLog (o.setup).seg_size setup.cap_segments r.records
          o.place r.made t) (sym r.opening) is_found)

      module _ (front : List Entry)
          (below : AreFoundEntries (setup_of_log wal).seg_size t front) where
        same_front : found_place.0 ≡ front
        same_front = found_entries_are_one its_size its_sysid t found found_place.0 front left
            found_place.1 below

        lies_behind : LiesBehind (opening_of_log wal) front
        lies_behind = subst (LiesBehind (opening_of_log wal)) same_front found_place.2

        abbrev reopened_on : IsReopenedOn (opening_of_log wal) front (moment disk) t
            (record t { calls = t.calls ++ r.settled.calls.calls }) found
        reopened_on = record {
          left = left;
          counted = counted_at disk t before;
          openable = r.openable;
          lies = lies_behind;
          found_is = ap (found_of its_size) (sym same_front) ∙ found_place.3;
          settled = settled_as setup.seg_size its_size
              (ap (λ (s : Setup). s.seg_size) (sym setup_as)) told.end.0
              (found_end (opening_of_log wal)) ends_as r.made (opening_of_log wal).made
              (ap (λ (o : Opening). o.made) (sym r.opening)) (tape disk) t before
              (began_of_table tape (table_of wal)) began began_as (moment disk)
              (opening_of_log wal).moment r.settled;
        }

  -- the log's own size and system id are those that are asked for
  module _ (size sysid : ℕ) (t : Tape) (setup : Setup) (disk : D) (wal : Wal D) (first : Pass)
      (told : Found) (handed : IsHandedIn tape moment faults size sysid t setup disk)
      (r : IsReopened tape moment faults setup disk wal first told) where
    own_size : (setup_of_log wal).seg_size ≡ size
    own_size = ap (λ (o : Opening). (o.setup).seg_size) r.opening ∙ handed.sized

    own_sysid : (setup_of_log wal).sysid ≡ sysid
    own_sysid = ap (λ (o : Opening). (o.setup).sysid) r.opening ∙ handed.named

    module _ (found : List FoundRecord) (left : WasLeft size sysid t found) where
      pub place_as_asked : (front : List Entry) × AreFoundEntries size t front
          × LiesBehind (opening_of_log wal) front × (found_of size front ≡ found)
          × (r.records ≡ found)
      place_as_asked = as_asked (λ m n. WasLeft m n t found → (front : List Entry)
          × AreFoundEntries m t front × LiesBehind (opening_of_log wal) front
          × (found_of m front ≡ found) × (r.records ≡ found)) size sysid
          (setup_of_log wal).seg_size (setup_of_log wal).sysid own_size own_sysid
          (found_place setup disk wal first told r t handed.before found) left

      pub lies_as_asked : (front : List Entry) → AreFoundEntries size t front
          → LiesBehind (opening_of_log wal) front
      lies_as_asked front below = subst (LiesBehind (opening_of_log wal))
          (found_entries_are_one size sysid t found place_as_asked.0 front left
          place_as_asked.1 below) place_as_asked.2

  -- that went on
  module _ (size sysid : ℕ) (t next : Tape) (before order : List Entry)
      (hard more : List FoundRecord)
      (life : ContinuesWal tape moment faults size sysid t next order more) where
    abbrev c_size : ℕ
    c_size = (setup_of_log life.wal).seg_size

    abbrev c_sysid : ℕ
    c_sysid = (setup_of_log life.wal).sysid

    abbrev lived : IsLived tape moment faults size life.wal life.front next order more
    lived = life.lived

    -- what was reserved, and the whole order
    abbrev its_order : List Entry
    its_order = order_of tape moment faults life.wal lived.pass lived.closed lived.closes

    abbrev its_whole : List Entry
    its_whole = life.front ++ its_order

    its_below : AreFoundEntries (setup_of_log life.wal).seg_size t life.front
    its_below = subst (λ (m : ℕ). AreFoundEntries m t life.front)
        (sym (own_size size sysid t life.setup life.disk life.wal life.first life.found
        life.handed life.reopened)) life.below

    module _ (found : List FoundRecord)
        (left : WasLeft (setup_of_log life.wal).seg_size (setup_of_log life.wal).sysid t found)
        (kept : All (IsSureRecord (setup_of_log life.wal).seg_size
        (setup_of_log life.wal).sysid left.order (state_now t)) hard) where
      continued : LifeEndsAt (setup_of_log life.wal).seg_size
          (life.front
          ++ order_of tape moment faults life.wal lived.pass lived.closed lived.closes) lived.now
          lived.at next
          → All (IsPromisedDurable (setup_of_log life.wal).seg_size lived.at
          (life.front
          ++ order_of tape moment faults life.wal lived.pass lived.closed lived.closes)
          (view_of_pass lived.pass)) more
          → KeepsSure (setup_of_log life.wal).seg_size (setup_of_log life.wal).sysid next
          (life.front
          ++ order_of tape moment faults life.wal lived.pass lived.closed lived.closes)
          (hard ++ more)
      continued ends promised =
          let began = record t { calls = t.calls ++ life.reopened.settled.calls.calls } in
          let its_opening = opening_of_log life.wal in
          let es = life.front in
          let on = reopened_on life.setup life.disk life.wal life.first life.found life.reopened t
          (life.handed).before found left es its_below in
          let is = began_as life.setup life.disk life.wal life.first life.found life.reopened t
          (life.handed).before in
          let narrow = left.has_found.may.narrow in
          let goes = goes_on tape moment faults life.wal lived.pass lived.closed lived.closes began
          lived.now is lived.after narrow in
          let c = closed_there tape moment faults life.wal lived.pass lived.closed lived.closes
          began lived.now is lived.after narrow
          (calls_counted its_opening es (moment life.disk) t began found on)
          (reopened_logs_are_suited its_opening es (moment life.disk) t began found on) in
          reopened_keeps its_opening es (moment life.disk) lived.at t began lived.now next found on
          its_order
          (closed_written its_opening es its_order lived.now (view_of_pass lived.pass) c
          on.lies) goes hard kept lived.since ends.left ends.no_torn_pass more
          (promised_firm its_opening its_order lived.now (view_of_pass lived.pass) c es lived.at more
          promised)

    continued_at : KeepsSure (setup_of_log life.wal).seg_size (setup_of_log life.wal).sysid t
        before hard
        → LifeEndsAt (setup_of_log life.wal).seg_size order lived.now lived.at next
        → All (IsPromisedDurable (setup_of_log life.wal).seg_size lived.at order
        (view_of_pass lived.pass)) more
        → KeepsSure (setup_of_log life.wal).seg_size (setup_of_log life.wal).sysid next order
        (hard ++ more)
    continued_at k = subst (λ (es : List Entry). LifeEndsAt c_size es lived.now lived.at next
        → All (IsPromisedDurable c_size lived.at es (view_of_pass lived.pass)) more
        → KeepsSure c_size c_sysid next es (hard ++ more)) (sym lived.order_is)
        (λ ends promised. with_left c_size c_sysid t before hard
        (λ (o : List Entry). KeepsSure c_size c_sysid next its_whole (hard ++ more)) k
        (λ found left kept. continued found left kept ends promised))

    pub continues_keeps : KeepsSure size sysid t before hard
        → KeepsSure size sysid next order (hard ++ more)
    continues_keeps k = as_asked (λ m n. KeepsSure m n t before hard
        → LifeEndsAt m order lived.now lived.at next
        → All (IsPromisedDurable m lived.at order (view_of_pass lived.pass)) more
        → KeepsSure m n next order (hard ++ more)) size sysid c_size c_sysid
        (own_size size sysid t life.setup life.disk life.wal life.first life.found life.handed
        life.reopened)
        (own_sysid size sysid t life.setup life.disk life.wal life.first life.found life.handed
        life.reopened) continued_at k lived.ends lived.promised

  -- that was cut short while it was settled
  module _ (size sysid : ℕ) (t next : Tape) (order : List Entry) (hard : List FoundRecord)
      (life : EndsReopening tape moment faults size sysid t next order) where
    abbrev s_size : ℕ
    s_size = (setup_of_log life.wal).seg_size

    abbrev s_sysid : ℕ
    s_sysid = (setup_of_log life.wal).sysid

    -- the tape that is told is that of the opening
    began_same : life.began ≡ record t { calls = t.calls ++ life.reopened.settled.calls.calls }
    began_same = some_tape life.began
        (record t { calls = t.calls ++ life.reopened.settled.calls.calls })
        (sym life.began_is ∙ began_as life.setup life.disk life.wal life.first life.found
        life.reopened t (life.handed).before)

    cut_at : KeepsSure (setup_of_log life.wal).seg_size (setup_of_log life.wal).sysid t order
        hard → LifeEndsAt (setup_of_log life.wal).seg_size order life.began life.at next
        → KeepsSure (setup_of_log life.wal).seg_size (setup_of_log life.wal).sysid next order
        hard
    cut_at k = with_left s_size s_sysid t order hard
        (λ (o : List Entry). LifeEndsAt s_size o life.began life.at next
        → KeepsSure s_size s_sysid next o hard) k
        (λ found left kept ends.
        let began : Tape = record t { calls = t.calls ++ life.reopened.settled.calls.calls } in
        let here = subst (λ (b : Tape). LifeEndsAt s_size left.order b life.at next) began_same ends
        in
        let place = found_place life.setup life.disk life.wal life.first life.found life.reopened t
        (life.handed).before found left in
        settled_keeps (opening_of_log life.wal) place.0 (moment life.disk) life.at t began
        began next found
        (reopened_on life.setup life.disk life.wal life.first life.found life.reopened t
        (life.handed).before found left place.0 place.1) (
          [],
          ap (λ (cs : List Call). Some (record began { calls = cs }))
              (sym (append-nil began.calls)),
        ) hard kept life.since life.early here.left
        here.no_torn_pass)

    pub ends_reopening_keeps : KeepsSure size sysid t order hard
        → KeepsSure size sysid next order hard
    ends_reopening_keeps k = as_asked (λ m n. KeepsSure m n t order hard
        → LifeEndsAt m order life.began life.at next → KeepsSure m n next order hard) size sysid
        s_size s_sysid
        (own_size size sysid t life.setup life.disk life.wal life.first life.found life.handed
        life.reopened)
        (own_sysid size sysid t life.setup life.disk life.wal life.first life.found life.handed
        life.reopened) cut_at k life.ends

  -- ---- one that was not opened

  -- nothing was called
  pub rests_keeps : (size sysid : ℕ) (t next : Tape) (order : List Entry)
      (hard : List FoundRecord) → LifeEndsAt size order t (length t.calls) next
      → KeepsSure size sysid t order hard → KeepsSure size sysid next order hard
  rests_keeps size sysid t next order hard ends k = with_left size sysid t order hard
      (λ (o : List Entry). LifeEndsAt size o t (length t.calls) next
      → KeepsSure size sysid next o hard) k
      (λ found left kept ends. uncalled_keeps size sysid t next found left hard kept ends.left
      ends.no_torn_pass) ends

  -- no call of the disk was made, or it failed while the log was settled
  uncalled_or : (setup : Setup) (old new : D) (kind : OpenFaultKind)
      → TellsReopenFault tape moment faults setup old new kind
      → IsUncalled tape moment old new
      ⊎ HasBegunToSettle setup.seg_size setup.cap_segments (tape old) (tape new)
      (moment old) (moment new)
  uncalled_or setup old new BadSetup tells = inl (record {
    same_tape = ap tape tells.1;
    same_moment = ap moment tells.1;
  })
  uncalled_or setup old new Memory tells = inl tells.1
  uncalled_or setup old new (Disk told) tells = tells.3
  uncalled_or setup old new NotEmpty tells = absurd tells
  uncalled_or setup old new (Beyond segment) tells = inl tells.1
  uncalled_or setup old new (Foreign stop) tells = inl tells.1

  module _ (size sysid : ℕ) (t next : Tape) (order : List Entry) (hard : List FoundRecord)
      (life : FailsToReopen tape moment faults size sysid t next order)
      (k : KeepsSure size sysid t order hard) where
    untouched : IsUncalled tape moment life.disk life.fault.disk
        → KeepsSure size sysid next order hard
    untouched none =
        let same : life.now ≡ t = some_tape life.now t (sym life.after ∙ none.same_tape
        ∙ (life.handed).before) in
        let last : life.at ≡ length t.calls = omega (
          arith,
          life.since,
          life.upto,
          none.same_moment,
          counted_at life.disk t (life.handed).before,
        ) in
        rests_keeps size sysid t next order hard
        (subst (λ (m : ℕ). LifeEndsAt size order t m next) last
        (subst (λ (d : Tape). LifeEndsAt size order d life.at next) same life.ends)) k

    begun : HasBegunToSettle (life.setup).seg_size (life.setup).cap_segments (tape life.disk)
        (tape life.fault.disk) (moment life.disk) (moment life.fault.disk) → KeepsSure size sysid next order hard
    begun settling =
        let cap = (life.setup).cap_segments in
        let asked = subst (λ (m : ℕ). HasBegunToSettle m cap (tape life.disk)
        (tape life.fault.disk) (moment life.disk) (moment life.fault.disk)) (life.handed).sized
        settling in
        let told = subst (λ (o : Option Tape). HasBegunToSettle size cap (Some t) o
        (moment life.disk) (moment life.fault.disk)) life.after
        (subst (λ (o : Option Tape). HasBegunToSettle size cap o (tape life.fault.disk)
        (moment life.disk) (moment life.fault.disk)) (life.handed).before asked) in
        with_left size sysid t order hard
        (λ (o : List Entry). LifeEndsAt size o life.now life.at next
        → KeepsSure size sysid next o hard) k
        (λ found left kept ends. failed_keeps size sysid t next found left hard kept cap
        (moment life.disk) (moment life.fault.disk) life.at life.now
        (counted_at life.disk t (life.handed).before) told life.since ends.left ends.no_torn_pass)
        life.ends

    pub fails_to_reopen_keeps : KeepsSure size sysid next order hard
    fails_to_reopen_keeps = elim (uncalled_or life.setup life.disk life.fault.disk
        life.fault.kind life.refused) [ inl none ↦ untouched none | inr settling ↦ begun settling ]
