-- Over all lives of a map what was answered Ok is kept.
use Rattle.std.proofs.Common.{◌≡◌, ◌⊎◌, ℕ, ◌≤◌, All, Contains, List, [], ◌∷◌, ◌++◌, append_assoc, drop, length, map, take, Option, Some, None, Result, IfSome, inl, inr, refl, sym, ap, subst, ◌∙◌, arith}
use Rattle.std.proofs.lemmas.List.{length-append, take-append-drop}
use Rattle.std.proofs.lemmas.List.Elements.{All-append, All-cons, All-contains, All-head, All-nil, All-tail, All-weaker, Contains-append_left, Contains-append_right, Contains-push}
use Rattle.byte_position.specs.Geometry.{IsSegmentSize}
use Rattle.segment_disk.specs.DiskImage.{image_as_read}
use Rattle.segment_disk.specs.Tape.{IsUncalled, Tape, state_now}
use Rattle.wal_spelling.specs.Spelling.{Assembled}
use Rattle.wal_types.specs.declared.answers.Refused.{Refused}
use Rattle.wal_types.specs.declared.answers.Sealed.{Sealed}
use Rattle.wal_page.specs.Order.{Entry, finish_of, prev_of, start_of}
use Rattle.wal_reader.specs.Cache.{log_of}
use Rattle.wal_reader.specs.Finds.{FindingIsDecoding, FindsRecords}
use Rattle.wal_reader.specs.Settled.{DecodingIsSettled}
use Rattle.wal_reader.specs.declared.found.FoundRecord.{FoundRecord}
use Rattle.written_log_laws.specs.Written.{found_entry, found_from, found_of}
use Rattle.machine_state.specs.declared.setup.Setup.{Setup}
use Rattle.machine_state.specs.Views.{View}
use Rattle.machine_state.specs.Words.{Opening}
use Rattle.wal_rule.specs.declared.pass.Pass.{Pass}
use Rattle.wal_rule.specs.Passes.{view_of_pass}
use Rattle.wal_log.specs.declared.wal.Wal.{Wal}
use Rattle.wal_log.specs.Committing.{AnswersCommit, IsSealed}
use Rattle.wal_log.specs.Logs.{setup_of_log}
use Rattle.wal_log.specs.PassLogs.{PassLog, log_of_pass}
use Rattle.wal_log.specs.Reopening.{TellsReopenFault}
use Rattle.wal_log.specs.declared.opening.OpenFaultKind.{OpenFaultKind}
use Rattle.reopened_log_laws.specs.FoundFirst.{AreFoundEntries}
use Rattle.reopened_log_laws.specs.Lives.{IsFrontWith, LifeEndsAt}
use Rattle.wal_log_laws.specs.Growing.{GrowsTo, HasGrown, HasLog, IsFrontOf, NumberedLog, logs_of_pass}
use Rattle.wal_log_laws.specs.History.{ContinuesWal, IsHandedIn, IsLived, IsPromisedDurable, WalHistory, order_of}
use Rattle.wal_log_laws.specs.History as wal_lives
use Rattle.wal_log_laws.specs.Lives.{CommitsArePromised, IsMadeBy, LonePassesMakeTheOrder, PassesMakeTheOrder, PromisedRecordsStay, StartsRise, entries_under}
use Rattle.durable_map.specs.Changes.{MapChange}
use Rattle.durable_map.specs.Calls.{begun_in}
use Rattle.durable_map.specs.History.{EndsMap, EndsOpening, FailsToOpen, LivesMap, MapHistory, SharesMap, WasAnswered}
use Rattle.durable_map.specs.History.{starts_empty, lives, shares, ends_opening, fails_to_open, rests}
use Rattle.durable_map.specs.Lives.{AnsweredChangesStay}
use Rattle.durable_map.specs.Opening.{AreSaid, IsAllOfLog, OpensMap, TellsMapFault}
use Rattle.durable_map.specs.Records.{SaysChange}
use Rattle.durable_map.specs.Stores.{log_under, part_under, view_of_part, view_under}
use Rattle.durable_map.specs.Weaving.{AreWoven, IsLane, PassChange, WasAnsweredInLane, changes_in, changes_under, log_of_lane, number_of_lane}
use Rattle.durable_map.specs.declared.fault.MapFaultKind.{MapFaultKind}
use Rattle.durable_map.specs.declared.fault.MapFaultKind.TheVariants.{Memory, Disk, NoChange, Log}
use Rattle.durable_map.specs.declared.store.DurableMap.{DurableMap}
use Rattle.durable_map.proofs.Begun.{IsCommitted, all_added, committed, entries_of, same_joined}
use Rattle.durable_map.proofs.Fronts.{SayEach, are_said_append, found_from-append, front_said, reaches, said_each, say_each_append}
use Rattle.durable_map.proofs.Weaving.{StandsAt, at_one_place, contains_map, its_lane, logged, own_first, same_long, stands_at, under_append, under_woven, woven_said}

some_tape : (a b : Tape) → Some a ≡ Some b → a ≡ b
some_tape a b same = cc

at_some : (P : Tape → Type 0) (o : Option Tape) (t : Tape) → o ≡ Some t → IfSome o P → P t
at_some P o t is holds = subst (λ (x : Option Tape). IfSome x P) is holds

-- ---- what is kept

-- a record that was promised, up to which these changes are said
record IsMarked (size : ℕ) (order : List Entry) (hard : List FoundRecord) (upto : List MapChange)
    : Type 0 where
  pub before : List FoundRecord
  pub mark : FoundRecord
  pub behind : List FoundRecord
  pub are : found_of size order ≡ before ++ mark ∷ behind
  pub promised : Contains hard mark
  pub said : AreSaid (before ++ mark ∷ []) upto

more_hard : (size : ℕ) (order : List Entry) (hard all : List FoundRecord)
    → ((r : FoundRecord) → Contains hard r → Contains all r) → (upto : List MapChange)
    → IsMarked size order hard upto → IsMarked size order all upto
more_hard size order hard all goes upto m = record {
  before = m.before;
  mark = m.mark;
  behind = m.behind;
  are = m.are;
  promised = goes m.mark m.promised;
  said = m.said;
}

-- what is found on the disk of a log
module _ (finding : FindingIsDecoding) (settled : DecodingIsSettled) (size : ℕ)
    (valid : IsSegmentSize size) (t : Tape) (records : List FoundRecord)
    (whole : IsAllOfLog size records t) where
  read_is_found : FindsRecords size (log_of t size) size records
  read_is_found = (finding size (image_as_read (state_now t)) size valid records).1
      (whole.answer, whole.decodes)

  found_is_read : (found : List FoundRecord) → FindsRecords size (log_of t size) size found
      → found ≡ records
  found_is_read found finds =
      let one = settled size (image_as_read (state_now t)) size None valid in
      let read = (finding size (image_as_read (state_now t)) size valid found).0 finds in
      (one.3 found read.0 read.1).0 ∙ sym (one.3 records whole.answer whole.decodes).0

-- records that are found are a front of the log
found_front : (size : ℕ) (order : List Entry) (hard records : List FoundRecord)
    (f : IsFrontWith size order hard records)
    → (back : List FoundRecord) × (found_of size order ≡ records ++ back)
found_front size order hard records f =
    let first = take f.count order in
    let rest = drop f.count order in (
      found_from size (prev_of size 0 first) rest,
      ap (found_of size) (sym (take-append-drop f.count order))
          ∙ found_from-append size 0 first rest
          ∙ ap (λ (l : List FoundRecord). l ++ found_from size (prev_of size 0 first) rest)
          (sym f.front),
    )

module _ {D : Type 0} (tape : D → Option Tape) (moment faults : D → ℕ)
    (counts : (disk : D) → IfSome (tape disk) (λ t. moment disk ≡ length t.calls))
    (stay : PromisedRecordsStay tape moment faults)
    (promised : CommitsArePromised tape moment faults)
    (lone : LonePassesMakeTheOrder tape moment faults)
    (makes : PassesMakeTheOrder tape moment faults)
    (commits : (setup : Setup) (body : Assembled) (old new : View)
    (answer : Result Sealed Refused) → AnswersCommit setup body old answer new
    → GrowsTo (log_of_pass old) (log_of_pass new))
    (stays : (l : PassLog) → GrowsTo l l)
    (again : (one two three : PassLog) → GrowsTo one two → GrowsTo two three
    → GrowsTo one three)
    (has_logs : (v : View) → All (λ (l : NumberedLog). HasLog l.log v) (logs_of_pass v))
    (finding : FindingIsDecoding) (settled : DecodingIsSettled) where
  -- a history of the log, whose records say the changes
  record KeepsChanges (size sysid : ℕ) (t : Tape) (order : List Entry) (begun : List MapChange)
      (answered : List (List MapChange)) : Type 0 where
    pub valid : IsSegmentSize size
    pub hard : List FoundRecord
    pub history : WalHistory tape moment faults size sysid t order hard
    pub said : AreSaid (found_of size order) begun
    pub marks : All (IsMarked size order hard) answered

  -- ---- what an opening finds

  module _ (size sysid : ℕ) (t : Tape) (order : List Entry) (begun : List MapChange)
      (answered : List (List MapChange))
      (k : KeepsChanges size sysid t order begun answered) (setup : Setup) (disk : D)
      (map : DurableMap D) (handed : IsHandedIn tape moment faults size sysid t setup disk)
      (opened : OpensMap tape moment faults setup disk map) where
    abbrev records : List FoundRecord
    records = opened.read.records

    abbrev found : List MapChange
    found = opened.read.changes

    whole : IsAllOfLog size opened.read.records t
    whole = subst (λ (n : ℕ). IsAllOfLog n records t) handed.sized
        (at_some (IsAllOfLog setup.seg_size records) (tape disk) t handed.before
        opened.read.whole)

    front : IsFrontWith size order k.hard opened.read.records
    front = (stay size sysid t order k.hard k.history).reads records
        (read_is_found finding settled size k.valid t records whole)

    all_front : (back : List FoundRecord) × (found_of size order ≡ opened.read.records ++ back)
    all_front = found_front size order k.hard records front

    found_begun : IsFrontOf opened.read.changes begun
    found_begun = front_said records all_front.0 found begun opened.read.said
        (subst (λ (rs : List FoundRecord). AreSaid rs begun) all_front.1 k.said)

    -- they reach up to each mark
    mark_found : (upto : List MapChange) (m : IsMarked size order k.hard upto)
        → (rest : List FoundRecord) × (opened.read.records ≡ m.before ++ m.mark ∷ rest)
    mark_found upto m = reaches 0 records all_front.0 m.before m.behind m.mark
        (subst (StartsRise 0) all_front.1 (stay size sysid t order k.hard k.history).apart)
        (sym all_front.1 ∙ m.are)
        (All-contains (Contains records) k.hard m.mark front.has m.promised)

    answered_found : (upto : List MapChange) → IsMarked size order k.hard upto
        → IsFrontOf upto opened.read.changes
    answered_found upto m =
        let rest = mark_found upto m in
        front_said (m.before ++ m.mark ∷ []) rest.0 upto found m.said
        (subst (λ (rs : List FoundRecord). AreSaid rs found)
        (rest.1 ∙ sym (append_assoc m.before (m.mark ∷ []) rest.0)) opened.read.said)

    all_answered : All (λ upto. IsFrontOf upto opened.read.changes) answered
    all_answered = All-weaker (IsMarked size order k.hard)
        (λ upto. IsFrontOf upto found) answered_found answered k.marks

    -- and so in an order that goes on behind them
    still_marked : (whole_order : List Entry) (back : List FoundRecord)
        → found_of size whole_order ≡ opened.read.records ++ back → (upto : List MapChange)
        → IsMarked size order k.hard upto → IsMarked size whole_order k.hard upto
    still_marked whole_order back goes upto m =
        let rest = mark_found upto m in
        record {
          before = m.before;
          mark = m.mark;
          behind = rest.0 ++ back;
          are = goes ∙ ap (λ (rs : List FoundRecord). rs ++ back) rest.1
              ∙ append_assoc m.before (m.mark ∷ rest.0) back;
          promised = m.promised;
          said = m.said;
        }

  -- ---- a life

  -- a commit told by a moment that an entry of the log is durable, and the closing pass has the log
  -- of the commit's pass; up to this entry these changes were found, and are said
  record IsPlaced (wal : Wal D) (own : List Entry) (v : View) (at : ℕ) (found upto : List MapChange)
      : Type 0 where
    pub body : Assembled
    pub old : View
    pub new : View
    pub sealed : Sealed
    pub by : sealed.moment ≤ at
    pub told : IsSealed (setup_of_log wal) body old new sealed
    pub grown : HasGrown (log_of_pass new) v
    pub more : List Entry
    pub rest : List Entry
    pub entries : own ≡ more ++ told.entry ∷ rest
    pub changes : List MapChange
    pub said : SayEach (more ++ told.entry ∷ []) changes
    pub upto_is : upto ≡ found ++ changes

  -- a life whose log says these changes, in its order, by one pass or several
  record SaysChanges (size sysid : ℕ) (t next : Tape) (order : List Entry)
      (begun : List MapChange) (answered : List (List MapChange)) : Type 0 where
    pub setup : Setup
    pub disk : D
    pub map : DurableMap D
    pub handed : IsHandedIn tape moment faults size sysid t setup disk
    pub opened : OpensMap tape moment faults setup disk map
    pub pass : Pass
    pub front : List Entry
    pub below : AreFoundEntries size t front
    pub at : ℕ
    pub ended : EndsMap tape moment faults size (log_under map) pass front next order at
    pub changes : List MapChange
    pub said : SayEach
        (order_of tape moment faults (log_under map) pass ended.closed ended.closes) changes
    pub begun_is : begun ≡ opened.read.changes ++ changes
    pub placed : All (IsPlaced (log_under map)
        (order_of tape moment faults (log_under map) pass ended.closed ended.closes)
        (view_of_pass pass) at opened.read.changes) answered

  module _ (size sysid : ℕ) (t next : Tape) (before order : List Entry)
      (old begun : List MapChange) (answered more : List (List MapChange))
      (k : KeepsChanges size sysid t before old answered)
      (life : SaysChanges size sysid t next order begun more) where
    abbrev its_records : List FoundRecord
    its_records = life.opened.read.records

    abbrev its_found : List MapChange
    its_found = life.opened.read.changes

    abbrev wal : Wal D
    wal = log_under life.map

    abbrev own : List Entry
    own = order_of tape moment faults (log_under life.map) life.pass
        (life.ended).closed (life.ended).closes

    sized : (setup_of_log (log_under life.map)).seg_size ≡ size
    sized = ap (λ (o : Opening). (o.setup).seg_size) life.opened.reopened.opening
        ∙ (life.handed).sized

    -- ---- the order

    front_is : found_of size life.front ≡ life.opened.read.records
    front_is = found_is_read finding settled size k.valid t its_records
        (whole size sysid t before old answered k life.setup life.disk life.map life.handed
        life.opened) (found_of size life.front) (life.below).finds

    all_said : (es : List Entry) (changes : List MapChange) → SayEach es changes
        → AreSaid (found_of size (life.front ++ es)) (life.opened.read.changes ++ changes)
    all_said es changes said =
        subst (λ (rs : List FoundRecord). AreSaid rs (its_found ++ changes))
        (sym (found_from-append size 0 life.front es
        ∙ ap (λ (rs : List FoundRecord). rs ++ found_from size (prev_of size 0 life.front) es)
        front_is))
        (are_said_append its_records (found_from size (prev_of size 0 life.front) es) its_found
        changes life.opened.read.said
        (said_each size (prev_of size 0 life.front) es changes said))

    order_said : AreSaid (found_of size order) begun
    order_said =
        subst (λ (cs : List MapChange). AreSaid (found_of size order) cs) (sym life.begun_is)
        (subst (λ (es : List Entry).
        AreSaid (found_of size es) (its_found ++ life.changes))
        (sym (life.ended).order_is) (all_said own life.changes life.said))

    -- ---- what was answered

    module _ (upto : List MapChange) (done : IsPlaced (log_under life.map)
        (order_of tape moment faults (log_under life.map) life.pass (life.ended).closed
        (life.ended).closes) (view_of_pass life.pass) life.at life.opened.read.changes upto) where
      abbrev e : Entry
      e = (done.told).entry

      abbrev below : List Entry
      below = life.front ++ done.more

      abbrev mark : FoundRecord
      mark = found_entry size (prev_of size 0 (life.front ++ done.more)) (done.told).entry

      abbrev behind : List FoundRecord
      behind = found_from size (start_of size (done.told).entry) done.rest

      order_there : order ≡ (life.front ++ done.more) ++ (done.told).entry ∷ done.rest
      order_there = (life.ended).order_is
          ∙ ap (λ (l : List Entry). life.front ++ l) done.entries
          ∙ sym (append_assoc life.front done.more (e ∷ done.rest))

      found_there : found_of size order ≡ found_of size (life.front ++ done.more)
          ++ found_entry size (prev_of size 0 (life.front ++ done.more)) (done.told).entry
          ∷ found_from size (start_of size (done.told).entry) done.rest
      found_there = ap (found_of size) order_there
          ∙ found_from-append size 0 below (e ∷ done.rest)

      upto_said : AreSaid (found_of size (life.front ++ done.more)
          ++ found_entry size (prev_of size 0 (life.front ++ done.more)) (done.told).entry ∷ [])
          upto
      upto_said =
          subst (λ (cs : List MapChange). AreSaid (found_of size below ++ mark ∷ []) cs)
          (sym done.upto_is)
          (subst (λ (rs : List FoundRecord).
          AreSaid rs (its_found ++ done.changes))
          (ap (found_of size) (sym (append_assoc life.front done.more (e ∷ [])))
          ∙ found_from-append size 0 below (e ∷ []))
          (all_said (done.more ++ e ∷ []) done.changes done.said))

      mark_promised : IsPromisedDurable size life.at order (view_of_pass life.pass)
          (found_entry size (prev_of size 0 (life.front ++ done.more)) (done.told).entry)
      mark_promised =
          let told = promised (log_under life.map) life.front life.pass
          (life.ended).closed (life.ended).closes done.body done.old done.new done.sealed life.at
          done.told done.grown done.by in
          let there : Contains (found_of size order) mark =
          subst (λ (rs : List FoundRecord). Contains rs mark) (sym found_there)
          (Contains-append_right (found_of size below) (mark ∷ behind) mark
          (Contains-append_left (mark ∷ []) behind mark (Contains-push [] mark))) in
          let ends : finish_of size e ≡ told.0.head.end.0 =
          ap (λ (n : ℕ). finish_of n e) (sym sized) ∙ sym (done.told).end_is ∙ sym told.2 in (
            there,
            told.4.1,
            told.4.2,
            told.4.3,
            told.4.4,
            omega (arith, ends, told.4.5),
          )

      is_marked : IsMarked size order (found_entry size
          (prev_of size 0 (life.front ++ done.more)) (done.told).entry ∷ []) upto
      is_marked = record {
        before = found_of size below;
        mark = mark;
        behind = behind;
        are = found_there;
        promised = Contains-push [] mark;
        said = upto_said;
      }

    abbrev IsOne : List MapChange → Type 0
    IsOne = IsPlaced wal own (view_of_pass life.pass) life.at its_found

    all_marked : (uptos : List (List MapChange))
        → All (IsPlaced (log_under life.map)
        (order_of tape moment faults (log_under life.map) life.pass (life.ended).closed
        (life.ended).closes) (view_of_pass life.pass) life.at life.opened.read.changes) uptos
        → (hard : List FoundRecord)
        × All (IsPromisedDurable size life.at order (view_of_pass life.pass)) hard
        × All (IsMarked size order hard) uptos
    all_marked [] told = (
      [],
      All-nil (IsPromisedDurable size life.at order (view_of_pass life.pass)),
      All-nil (IsMarked size order []),
    )
    all_marked (upto ∷ uptos) told =
        let a = All-head IsOne upto uptos told in
        let rest = all_marked uptos
        (All-tail IsOne upto uptos told) in
        let one = mark upto a in
        let all = one ∷ rest.0 in (
          all,
          All-cons (IsPromisedDurable size life.at order (view_of_pass life.pass)) one rest.0
              (mark_promised upto a) rest.1,
          All-cons (IsMarked size order all) upto uptos
              (more_hard size order (one ∷ []) all
              (λ r. Contains-append_left (one ∷ []) rest.0 r) upto (is_marked upto a))
              (All-weaker (IsMarked size order rest.0) (IsMarked size order all)
              (more_hard size order rest.0 all
              (λ r. Contains-append_right (one ∷ []) rest.0 r)) uptos rest.2),
        )

    -- ---- the log's life

    module _ (hard : List FoundRecord)
        (kept : All (IsPromisedDurable size life.at order (view_of_pass life.pass)) hard) where
      lived : IsLived tape moment faults size (log_under life.map) life.front next order hard
      lived = record {
        pass = life.pass;
        closed = (life.ended).closed;
        closes = (life.ended).closes;
        order_is = (life.ended).order_is;
        now = (life.ended).now;
        after = (life.ended).after;
        at = life.at;
        since = (life.ended).since;
        ends = (life.ended).ends;
        promised = kept;
      }

      continues : ContinuesWal tape moment faults size sysid t next order hard
      continues = record {
        setup = life.setup;
        disk = life.opened.handed;
        wal = log_under life.map;
        first = (part_under life.map).pass;
        found = life.opened.found;
        handed = record {
          sized = (life.handed).sized;
          named = (life.handed).named;
          before = life.opened.only_read.uncalled.same_tape ∙ (life.handed).before;
        };
        reopened = life.opened.reopened;
        front = life.front;
        below = life.below;
        lived = lived;
      }

    its_back : (back : List FoundRecord)
        × (found_of size order ≡ life.opened.read.records ++ back)
    its_back = (
      found_from size (prev_of size 0 life.front) own,
      ap (found_of size) (life.ended).order_is ∙ found_from-append size 0 life.front own
          ∙ ap (λ (rs : List FoundRecord). rs
          ++ found_from size (prev_of size 0 life.front) own) front_is,
    )

    life_keeps : KeepsChanges size sysid next order begun (answered ++ more)
    life_keeps =
        let new = all_marked more life.placed in
        let all = k.hard ++ new.0 in
        record {
          valid = k.valid;
          hard = all;
          history = wal_lives.reopens k.history (continues new.0 new.1);
          said = order_said;
          marks = All-append (IsMarked size order all) answered more
              (All-weaker (IsMarked size before k.hard) (IsMarked size order all)
              (λ upto m. more_hard size order k.hard all
              (λ r. Contains-append_left k.hard new.0 r) upto
              (still_marked size sysid t before old answered k life.setup life.disk life.map
              life.handed life.opened order its_back.0 its_back.1 upto m)) answered k.marks)
              (All-weaker (IsMarked size order new.0) (IsMarked size order all)
              (more_hard size order new.0 all
              (λ r. Contains-append_right k.hard new.0 r)) more new.2);
        }

  -- ---- a life with one pass

  module _ (size sysid : ℕ) (t next : Tape) (order : List Entry) (begun : List MapChange)
      (answered : List (List MapChange))
      (life : LivesMap tape moment faults size sysid t next order begun answered) where
    abbrev lone_wal : Wal D
    lone_wal = log_under life.map

    abbrev lone_own : List Entry
    lone_own = order_of tape moment faults (log_under life.map) (life.last).pass
        (life.ended).closed (life.ended).closes

    none_yet : entries_of (view_under life.map) ≡ []
    none_yet = ap entries_of life.opened.reopened.view

    own_is : (es : List Entry) → entries_of (view_of_part life.last)
        ≡ entries_of (view_under life.map) ++ es
        → order_of tape moment faults (log_under life.map) (life.last).pass (life.ended).closed
        (life.ended).closes ≡ es
    own_is es added = lone lone_wal (life.last).pass (life.ended).closed (life.ended).closes
        (same_joined lone_wal life.calls (part_under life.map) life.last life.called
        ∙ (life.kept).alone) ∙ added ∙ ap (λ (l : List Entry). l ++ es) none_yet

    lone_placed : (upto : List MapChange)
        → WasAnswered life.at life.opened.read.changes life.calls upto
        → IsPlaced (log_under life.map)
        (order_of tape moment faults (log_under life.map) (life.last).pass (life.ended).closed
        (life.ended).closes) (view_of_part life.last) life.at life.opened.read.changes upto
    lone_placed upto a =
        let done : IsCommitted lone_wal (part_under life.map) life.last life.at
        (begun_in a.before ++ a.change ∷ []) =
        committed lone_wal commits stays again life.calls a.before a.change a.sealed a.others
        (part_under life.map) life.last life.at life.called a.are a.by in
        record {
          body = done.body;
          old = done.old;
          new = done.new;
          sealed = done.sealed;
          by = done.by;
          told = done.told;
          grown = (log_of_pass (view_of_part life.last), done.grown, inl refl);
          more = done.more;
          rest = done.rest;
          entries = own_is (done.more ++ (done.told).entry ∷ done.rest) done.entries;
          changes = begun_in a.before ++ a.change ∷ [];
          said = done.said;
          upto_is = a.upto_is;
        }

    lone_says : SaysChanges size sysid t next order begun answered
    lone_says =
        let added = all_added lone_wal life.calls (part_under life.map) life.last life.called in
        record {
          setup = life.setup;
          disk = life.disk;
          map = life.map;
          handed = life.handed;
          opened = life.opened;
          pass = (life.last).pass;
          front = life.front;
          below = life.below;
          at = life.at;
          ended = life.ended;
          changes = begun_in life.calls;
          said = subst (λ (es : List Entry). SayEach es (begun_in life.calls))
              (sym (own_is added.0 added.1)) added.2;
          begun_is = life.begun_is;
          placed = All-weaker (WasAnswered life.at life.opened.read.changes life.calls)
              (IsPlaced lone_wal lone_own (view_of_part life.last) life.at
              life.opened.read.changes) lone_placed answered life.told;
        }

  -- ---- a life with several lanes

  module _ (size sysid : ℕ) (t next : Tape) (order : List Entry) (begun : List MapChange)
      (answered : List (List MapChange))
      (life : SharesMap tape moment faults size sysid t next order begun answered) where
    abbrev shared_wal : Wal D
    shared_wal = log_under life.map

    abbrev shared_own : List Entry
    shared_own = order_of tape moment faults (log_under life.map) life.pass (life.ended).closed
        (life.ended).closes

    its_made : IsMadeBy
        (order_of tape moment faults (log_under life.map) life.pass (life.ended).closed
        (life.ended).closes) (logs_of_pass (view_of_pass life.pass))
    its_made = makes shared_wal life.pass (life.ended).closed (life.ended).closes

    module _ (upto : List MapChange)
        (a : WasAnsweredInLane life.at life.opened.read.changes life.lanes life.woven upto) where
      abbrev its_number : ℕ
      its_number = number_of_lane a.lane

      abbrev its_change : PassChange
      its_change = record { number = number_of_lane a.lane; change = a.change }

      its_place : StandsAt
          (order_of tape moment faults (log_under life.map) life.pass (life.ended).closed
          (life.ended).closes) a.earlier
          (record { number = number_of_lane a.lane; change = a.change })
      its_place = stands_at shared_own a.earlier a.later its_change
          (subst (AreWoven shared_own) a.there life.are)

      its_lane_is : IsLane (log_under life.map) a.lane
      its_lane_is = its_lane shared_wal life.pass life.lanes life.all shared_own its_made a.lane
          a.one

      its_commit : IsCommitted (log_under life.map) (a.lane).first (a.lane).last life.at
          (begun_in a.before ++ a.change ∷ [])
      its_commit = committed shared_wal commits stays again (a.lane).calls a.before a.change
          a.sealed a.others (a.lane).first (a.lane).last life.at its_lane_is.called a.are a.by

      -- the entry that the commit told of stands there
      its_entry : its_place.entry ≡ its_commit.told.entry
      its_entry =
          let lane = a.lane in
          let e = its_commit.told.entry in
          let all = its_commit.more ++ e ∷ its_commit.rest in
          let one = logged shared_wal life.pass life.lanes life.all shared_own its_made lane
          a.one in
          let at_lane = sym (ap (λ (es : List Entry). es ++ all) its_lane_is.new.none)
          ∙ sym its_commit.entries ∙ one in
          let at_log = ap (entries_under its_number) its_place.are
          ∙ under_append its_number its_place.before (its_place.entry ∷ its_place.behind)
          ∙ ap (λ (es : List Entry). entries_under its_number its_place.before ++ es)
          (own_first its_number its_place.entry its_place.behind its_place.of_pass) in
          let here = same_long (entries_under its_number its_place.before)
          (changes_under its_number a.earlier)
          (under_woven its_number its_place.before a.earlier its_place.woven) in
          let said = same_long (its_commit.more ++ e ∷ []) (begun_in a.before ++ a.change ∷ [])
          its_commit.said in
          at_one_place (entries_under its_number its_place.before) its_commit.more
          (entries_under its_number its_place.behind) its_commit.rest its_place.entry e
          (sym at_log ∙ sym at_lane)
          (omega (
            arith,
            here,
            said,
            ap (λ (l : List MapChange). length l) a.own,
            length-append its_commit.more (e ∷ []),
            length-append (begun_in a.before) (a.change ∷ []),
          ))

      shared_placed : IsPlaced (log_under life.map)
          (order_of tape moment faults (log_under life.map) life.pass (life.ended).closed
          (life.ended).closes) (view_of_pass life.pass) life.at life.opened.read.changes upto
      shared_placed = record {
        body = its_commit.body;
        old = its_commit.old;
        new = its_commit.new;
        sealed = its_commit.sealed;
        by = its_commit.by;
        told = its_commit.told;
        grown = (
          log_of_pass (view_of_part (a.lane).last),
          its_commit.grown,
          All-contains (λ (l : NumberedLog). HasLog l.log (view_of_pass life.pass))
              (map log_of_lane life.lanes) (log_of_lane a.lane)
              (subst (All (λ (l : NumberedLog). HasLog l.log (view_of_pass life.pass)))
              (life.all).all (has_logs (view_of_pass life.pass)))
              (contains_map log_of_lane life.lanes a.lane a.one),
        );
        more = its_place.before;
        rest = its_place.behind;
        entries = its_place.are
            ∙ ap (λ (e : Entry). its_place.before ++ e ∷ its_place.behind) its_entry;
        changes = changes_in a.earlier ++ a.change ∷ [];
        said = say_each_append its_place.before (its_commit.told.entry ∷ [])
            (changes_in a.earlier) (a.change ∷ [])
            (woven_said its_place.before a.earlier its_place.woven)
            (subst (λ (e : Entry). SaysChange e.value a.change) its_entry its_place.says, tt);
        upto_is = a.upto_is;
      }

    shared_says : SaysChanges size sysid t next order begun answered
    shared_says = record {
      setup = life.setup;
      disk = life.disk;
      map = life.map;
      handed = life.handed;
      opened = life.opened;
      pass = life.pass;
      front = life.front;
      below = life.below;
      at = life.at;
      ended = life.ended;
      changes = changes_in life.woven;
      said = woven_said shared_own life.woven life.are;
      begun_is = life.begun_is;
      placed = All-weaker (WasAnsweredInLane life.at life.opened.read.changes life.lanes life.woven)
          (IsPlaced shared_wal shared_own (view_of_pass life.pass) life.at
          life.opened.read.changes) shared_placed answered life.told;
    }

  -- ---- an opening that gives no map

  -- nothing was called, or the log was handed to a reopening, which was refused
  refused_how : (setup : Setup) (old new : D) (kind : MapFaultKind)
      → TellsMapFault tape moment faults setup old new kind → IsUncalled tape moment old new
      ⊎ ((handed : D) × (why : OpenFaultKind) × IsUncalled tape moment old handed
      × TellsReopenFault tape moment faults setup handed new why)
  refused_how setup old new Memory tells = inl tells.uncalled
  refused_how setup old new (Disk told) tells = inl tells.0
  refused_how setup old new (NoChange at) tells = inl tells.0.uncalled
  refused_how setup old new (Log why) tells =
      inr (tells.1, why, tells.2.uncalled, tells.3)

  -- a disk on which nothing was called is handed on
  module _ (size sysid : ℕ) (t : Tape) (setup : Setup) (disk later_disk : D)
      (handed : IsHandedIn tape moment faults size sysid t setup disk)
      (none : IsUncalled tape moment disk later_disk) where
    still_handed : IsHandedIn tape moment faults size sysid t setup later_disk
    still_handed = record {
      sized = handed.sized;
      named = handed.named;
      before = none.same_tape ∙ handed.before;
    }

    still_since : (at : ℕ) → moment disk ≤ at → moment later_disk ≤ at
    still_since at since = omega (arith, since, none.same_moment)

  module _ (size sysid : ℕ) (t next : Tape) (order : List Entry) (hard : List FoundRecord)
      (history : WalHistory tape moment faults size sysid t order hard) where
    ends_so : EndsOpening tape moment faults size sysid t next order
        → WalHistory tape moment faults size sysid next order hard
    ends_so life = wal_lives.ends_reopening history (record {
      setup = life.setup;
      disk = life.opened.handed;
      wal = log_under life.map;
      first = (part_under life.map).pass;
      found = life.opened.found;
      handed = still_handed size sysid t life.setup life.disk life.opened.handed life.handed
          life.opened.only_read.uncalled;
      reopened = life.opened.reopened;
      began = life.began;
      began_is = life.began_is;
      at = life.at;
      since = still_since size sysid t life.setup life.disk life.opened.handed life.handed
          life.opened.only_read.uncalled life.at life.since;
      early = life.early;
      ends = life.ends;
    })

    fails_so : FailsToOpen tape moment faults size sysid t next order
        → WalHistory tape moment faults size sysid next order hard
    fails_so life = elim (refused_how life.setup life.disk (life.fault).disk (life.fault).kind
        life.refused) [
          | inl none ↦
              let told = some_tape life.now t (sym life.after ∙ none.same_tape
              ∙ (life.handed).before) in
              let last : life.at ≡ length t.calls = omega (
                arith,
                life.since,
                life.upto,
                none.same_moment,
                at_some (λ (t : Tape). moment life.disk ≡ length t.calls) (tape life.disk) t
                    (life.handed).before (counts life.disk),
              ) in
              wal_lives.rests history (subst (λ (m : ℕ). LifeEndsAt size order t m next) last
              (subst (λ (d : Tape). LifeEndsAt size order d life.at next) told life.ends))
          | inr refused ↦ wal_lives.fails_to_reopen history (record {
            setup = life.setup;
            disk = refused.0;
            fault = record { disk = (life.fault).disk; kind = refused.1 };
            handed = still_handed size sysid t life.setup life.disk refused.0 life.handed refused.2;
            refused = refused.3;
            now = life.now;
            after = life.after;
            at = life.at;
            since = still_since size sysid t life.setup life.disk refused.0 life.handed refused.2
                life.at life.since;
            upto = life.upto;
            ends = life.ends;
          })
        ]

  -- ---- all lives

  keeps : {size sysid : ℕ} {t : Tape} {order : List Entry} {begun : List MapChange}
      {answered : List (List MapChange)}
      → MapHistory tape moment faults size sysid t order begun answered
      → KeepsChanges size sysid t order begun answered
  keeps {size} {sysid} {t} (starts_empty valid known narrow nothing) = record {
    valid = valid;
    hard = [];
    history = wal_lives.starts_empty valid known narrow nothing;
    said = tt;
    marks = All-nil (IsMarked size [] []);
  }
  keeps {size} {sysid} (lives {t} {next} {before} {order} {old} {begun} {answered} {more} history
      life) = life_keeps size sysid t next before order old begun answered more (keeps history)
      (lone_says size sysid t next order begun more life)
  keeps {size} {sysid} (shares {t} {next} {before} {order} {old} {begun} {answered} {more} history
      life) = life_keeps size sysid t next before order old begun answered more (keeps history)
      (shared_says size sysid t next order begun more life)
  keeps {size} {sysid} (ends_opening {t} {next} {order} {begun} {answered} history life) =
      let k = keeps history in
      record {
        valid = k.valid;
        hard = k.hard;
        history = ends_so size sysid t next order k.hard k.history life;
        said = k.said;
        marks = k.marks;
      }
  keeps {size} {sysid} (fails_to_open {t} {next} {order} {begun} {answered} history life) =
      let k = keeps history in
      record {
        valid = k.valid;
        hard = k.hard;
        history = fails_so size sysid t next order k.hard k.history life;
        said = k.said;
        marks = k.marks;
      }
  keeps (rests history ends) =
      let k = keeps history in
      record {
        valid = k.valid;
        hard = k.hard;
        history = wal_lives.rests k.history ends;
        said = k.said;
        marks = k.marks;
      }

  pub answered_changes_stay : AnsweredChangesStay tape moment faults
  answered_changes_stay size sysid t order begun answered history setup disk map handed opened =
      let k = keeps history in (
        opened.read.held,
        found_begun size sysid t order begun answered k setup disk map handed opened,
        all_answered size sysid t order begun answered k setup disk map handed opened,
      )
