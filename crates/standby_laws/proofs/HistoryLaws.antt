-- What was promised is kept through the whole life of a standby's disk.
use Rattle.std.proofs.Common.{◌≡◌, ℕ, ◌≤◌, All, List, [], ◌∷◌, ◌++◌, length, Option, Some, None, IfSome, inl, inr, sym, subst, ◌∙◌, if◌then◌else◌, arith}
use Rattle.std.proofs.lemmas.Bool.{cases_lt, le-ltb, lt-ltb}
use Rattle.std.proofs.lemmas.List.Elements.{All-cons, All-head, All-nil, All-tail, All-weaker}
use Rattle.segment_disk.specs.DiskImage.{DiskImage, LeftAt}
use Rattle.segment_disk.specs.Tape.{IsNotMade, Tape, state_now}
use Rattle.found_log.specs.Found.{HasBegunToSettle, LeavesUnsettled}
use Rattle.found_log.specs.declared.fault.FindFault.{FindFault}
use Rattle.found_log.specs.declared.fault.FindFault.TheVariants.{Beyond, Disk, Foreign, Memory}
use Rattle.flush_core.specs.Lawful.{IsLawful}
use Rattle.wal_page.specs.Order.{Entry}
use Rattle.wal_reader.specs.declared.found.Answer.{Answer}
use Rattle.wal_reader.specs.declared.found.FoundRecord.{FoundRecord}
use Rattle.wal_reader.specs.Decodes.{Decodes}
use Rattle.wal_reader.specs.Pages.{pages_in}
use Rattle.written_log_laws.specs.LawfulLog.{IsFrontUpto}
use Rattle.written_log_laws.specs.SettledFound.{NothingWaits}
use Rattle.written_log_laws.specs.Torn.{NoTornPass}
use Rattle.written_log_laws.proofs.LawfulLaws.{lawful_images_decode_to_fronts}
use Rattle.wal_stream.specs.Following.{ComesOfLog, NotHardened, Offer}
use Rattle.wal_stream.specs.Opened.{StandsAtFound}
use Rattle.wal_stream.specs.Standby.{standby_disk, standby_end}
use Rattle.wal_stream.specs.declared.standby.Standby.{Standby}
use Rattle.wal_stream.proofs.FollowLaws.{never_diverges}
use Rattle.reopened_log_laws.specs.Again.{IsLeftByCrash}
use Rattle.reopened_log_laws.specs.StopsAt.{StopsAt}
use Rattle.standby_laws.specs.History.{Closed, IsFoundSince, KeepsStandbyPromises, Lived, NoneTornRead, Open, ReachesEntries, StandbyState, begins, closes, crashes, disk_standing, fails_to_harden, fails_to_open, hardens, is_killed, is_offered, opens, told_by, told_since}
use Rattle.standby_laws.proofs.Holding.{HoldsOrder, IsHeld, held_crashed, held_stopped, image_held, image_lawful, order_begun, order_crashed, order_stopped}
use Rattle.standby_laws.proofs.OpenSteps.{HoldsClosed, HoldsOpen, IsHeldBy, is_closed, open_promises, open_with, step_hardened, step_open}
use Rattle.standby_laws.proofs.OpenedAgain.{opened_follows, opened_held, opened_in_turn, opened_keeps, opened_order, quiet_held, told_now}
use Rattle.standby_laws.proofs.Settling.{stopped_settling}

-- ---- promises by a moment

told_by_then : (P Q : ℕ × ℕ → Type 0) (at : ℕ)
    → ((promise : ℕ × ℕ) → promise.0 ≤ at → P promise → Q promise) → (told : List (ℕ × ℕ))
    → All P told → All Q (told_by at told)
told_by_then P Q at weaker [] all = All-nil Q
told_by_then P Q at weaker (promise ∷ told) all =
    let rest = told_by_then P Q at weaker told (All-tail P promise told all) in
    elim (cases_lt at promise.0) [
      | inl later ↦ subst (λ b. All Q (if b then told_by at told else promise ∷ told_by at told))
          (sym (lt-ltb at promise.0 later)) rest
      | inr early ↦ subst (λ b. All Q (if b then told_by at told else promise ∷ told_by at told))
          (sym (le-ltb at promise.0 early))
          (All-cons Q promise (told_by at told)
          (weaker promise (omega (arith, early)) (All-head P promise told all)) rest)
    ]

told_as_of : (P Q : ℕ × ℕ → Type 0) (since : ℕ)
    → ((promise : ℕ × ℕ) → P promise → Q (since, promise.1)) → (told : List (ℕ × ℕ))
    → All P told → All Q (told_since since told)
told_as_of P Q since as_of [] all = All-nil Q
told_as_of P Q since as_of (promise ∷ told) all =
    All-cons Q (since, promise.1) (told_since since told)
    (as_of promise (All-head P promise told all))
    (told_as_of P Q since as_of told (All-tail P promise told all))

module _ {D : Type 0} (tape : D → Option Tape) (moment faults : D → ℕ)
    (counts : (disk : D) → IfSome (tape disk) (λ t. moment disk ≡ length t.calls))
    (size sysid : ℕ) (es : List Entry) where
  abbrev OpenSo : ℕ → List (ℕ × ℕ) → Standby D → Type 0
  OpenSo since told s = HoldsOpen tape moment faults size sysid es since told s

  abbrev ClosedSo : ℕ → List (ℕ × ℕ) → D → Type 0
  ClosedSo since told disk = HoldsClosed tape moment faults size sysid es since told disk

  abbrev Holds : ℕ → List (ℕ × ℕ) → StandbyState D → Type 0
  Holds since told (Closed disk) = ClosedSo since told disk
  Holds since told (Open s) = OpenSo since told s

  counted : (disk : D) (t : Tape) → tape disk ≡ Some t → moment disk ≡ length t.calls
  counted disk t told =
      subst (λ (o : Option Tape). IfSome o (λ t. moment disk ≡ length t.calls)) told (counts disk)

  any_closed : (since : ℕ) (told : List (ℕ × ℕ)) (standing : StandbyState D)
      → Holds since told standing → ClosedSo since told (disk_standing standing)
  any_closed since told (Closed disk) holds = holds
  any_closed since told (Open s) holds =
      is_closed tape moment faults size sysid es since told s holds

  some_tape : (one other : Tape) → Some one ≡ Some other → one ≡ other
  some_tape one other same = cc

  -- ---- openings

  abbrev opened : (since : ℕ) (told : List (ℕ × ℕ)) (cap : ℕ) (disk : D) (s : Standby D)
      → ClosedSo since told disk → cap ≤ 4096 → NoneTornRead size es (tape disk)
      → StandsAtFound tape moment faults size cap disk s → OpenSo since told s
  opened since told cap disk s was few none_torn stands =
      let t = was.t in
      let torn = subst (λ (o : Option Tape). NoneTornRead size es o) was.told_tape none_torn in
      record {
        t = record t { calls = t.calls ++ stands.settled.calls.calls };
        told_tape = told_now tape moment faults size sysid cap es since t was.order disk s few
            was.told_tape torn stands;
        size_is = stands.size_is;
        order = opened_order tape moment faults size sysid cap es since t was.order disk s few
            was.told_tape torn stands;
        follows = opened_follows tape moment faults size sysid cap es since t was.order disk s few
            was.told_tape torn stands;
        in_turn = opened_in_turn tape moment faults size sysid cap es since t was.order disk s few
            was.told_tape torn stands;
        held = All-weaker (IsHeld size sysid es t)
            (IsHeldBy tape moment faults size sysid es
            (record t { calls = t.calls ++ stands.settled.calls.calls }) s)
            (opened_held tape moment faults size sysid cap es since t was.order disk s few
            was.told_tape torn stands) told was.held;
      }

  found_holds : (since : ℕ) (told : List (ℕ × ℕ)) (cap from : ℕ) (disk : D) (s : Standby D)
      → ClosedSo since told disk → cap ≤ 4096 → NoneTornRead size es (tape disk)
      → StandsAtFound tape moment faults size cap disk s
      → IsFoundSince tape moment disk (standby_disk s) from
      → OpenSo since (told ++ (from, standby_end s) ∷ []) s
  found_holds since told cap from disk s was few none_torn stands (inl now) =
      let t = was.t in
      let torn = subst (λ (o : Option Tape). NoneTornRead size es o) was.told_tape none_torn in
      subst (λ (n : ℕ). OpenSo since (told ++ (n, standby_end s) ∷ []) s) (sym now)
      (open_promises tape moment faults size sysid es counts since told s (standby_end s)
      (opened since told cap disk s was few none_torn stands)
      (opened_keeps tape moment faults size sysid cap es since t was.order disk s few was.told_tape
      torn stands))
  found_holds since told cap from disk s was few none_torn stands (inr early) =
      let t = was.t in
      let torn = subst (λ (o : Option Tape). NoneTornRead size es o) was.told_tape none_torn in
      let quiet = subst (λ (o : Option Tape). IfSome o (λ t. NothingWaits (state_now t)))
      was.told_tape early.1 in
      let held = quiet_held tape moment faults size sysid cap es since t was.order disk s few
      was.told_tape torn stands quiet (counted disk t was.told_tape) in
      subst (λ (n : ℕ). OpenSo since (told ++ (n, standby_end s) ∷ []) s) (sym early.0)
      (open_with tape moment faults size sysid es since told s (moment disk, standby_end s)
      (opened since told cap disk s was few none_torn stands) held)

  -- no call was made
  uncalled : (since : ℕ) (told : List (ℕ × ℕ)) (disk refused : D) → ClosedSo since told disk
      → IsNotMade (tape disk) (tape refused) (moment disk) (moment refused)
      → ClosedSo since told refused
  uncalled since told disk refused was none = record {
    t = was.t;
    told_tape = none.same_tape ∙ was.told_tape;
    order = was.order;
    held = was.held;
  }

  begun : (since : ℕ) (told : List (ℕ × ℕ)) (cap : ℕ) (disk refused : D)
      → ClosedSo since told disk → cap ≤ 4096 → NoneTornRead size es (tape disk)
      → HasBegunToSettle size cap (tape disk) (tape refused) (moment disk) (moment refused)
      → ClosedSo since told refused
  begun since told cap disk refused was few none_torn stops =
      let torn = subst (λ (o : Option Tape). NoneTornRead size es o) was.told_tape none_torn in
      let stopped = stopped_settling size sysid es since was.t was.order torn cap (moment disk)
      (moment refused) (tape refused) few
      (subst (λ (o : Option Tape). HasBegunToSettle size cap o (tape refused) (moment disk)
      (moment refused)) was.told_tape stops) in
      record {
        t = stopped.0;
        told_tape = stopped.1;
        order = stopped.2.order;
        held = All-weaker (IsHeld size sysid es was.t) (IsHeld size sysid es stopped.0)
            stopped.2.held told was.held;
      }

  unsettled : (since : ℕ) (told : List (ℕ × ℕ)) (cap : ℕ) (disk refused : D) (fault : FindFault)
      → ClosedSo since told disk → cap ≤ 4096 → NoneTornRead size es (tape disk)
      → LeavesUnsettled size cap (tape disk) (tape refused) (moment disk) (moment refused)
      fault
      → ClosedSo since told refused
  unsettled since told cap disk refused Memory was few none_torn none =
      uncalled since told disk refused was none
  unsettled since told cap disk refused (Disk count) was few none_torn (inl none) =
      uncalled since told disk refused was none
  unsettled since told cap disk refused (Disk count) was few none_torn (inr stops) =
      begun since told cap disk refused was few none_torn stops
  unsettled since told cap disk refused (Beyond segment) was few none_torn none =
      uncalled since told disk refused was none
  unsettled since told cap disk refused (Foreign stop) was few none_torn none =
      uncalled since told disk refused was none

  -- ---- crashes and kills

  crashed : (since : ℕ) (told : List (ℕ × ℕ)) (before : D) (at : ℕ) (t left : Tape) (disk : D)
      → ClosedSo since told before → tape before ≡ Some t → since ≤ at
      → IsLeftByCrash t at left → tape disk ≡ Some left
      → ClosedSo (moment disk) (told_since (moment disk) (told_by at told)) disk
  crashed since told before at t left disk was told_t later crash told_left =
      let same = some_tape was.t t (sym was.told_tape ∙ told_t) in
      let order = subst (HoldsOrder size sysid es since) same was.order in
      let held = subst (λ (t : Tape). All (IsHeld size sysid es t) told) same was.held in
      let here = counted disk left told_left in
      let Early = λ (promise : ℕ × ℕ). IsHeld size sysid es left (length left.calls, promise.1) in
      record {
        t = left;
        told_tape = told_left;
        order = subst (λ (n : ℕ). HoldsOrder size sysid es n left) (sym here)
            (order_crashed size sysid es since at t left later crash order);
        held = told_as_of Early (IsHeld size sysid es left) (moment disk)
            (λ promise is. subst (λ (n : ℕ). IsHeld size sysid es left (n, promise.1)) (sym here)
            is) (told_by at told)
            (told_by_then (IsHeld size sysid es t) Early at
            (λ promise low is. held_crashed size sysid es at t left promise low crash is) told
            held);
      }

  killed : (since : ℕ) (told : List (ℕ × ℕ)) (before : D) (at : ℕ) (t stopped : Tape) (disk : D)
      → ClosedSo since told before → tape before ≡ Some t → since ≤ at
      → StopsAt t at stopped → tape disk ≡ Some stopped
      → ClosedSo since (told_by at told) disk
  killed since told before at t stopped disk was told_t later stops told_stopped =
      let same = some_tape was.t t (sym was.told_tape ∙ told_t) in
      let order = subst (HoldsOrder size sysid es since) same was.order in
      let held = subst (λ (t : Tape). All (IsHeld size sysid es t) told) same was.held in
      record {
        t = stopped;
        told_tape = told_stopped;
        order = order_stopped size sysid es since at t stopped later stops order;
        held = told_by_then (IsHeld size sysid es t) (IsHeld size sysid es stopped) at
            (λ promise low is. held_stopped size sysid es at t stopped promise low stops is) told
            held;
      }

  -- ---- all of it

  pub lived_holds : (since : ℕ) (told : List (ℕ × ℕ)) (standing : StandbyState D)
      → Lived tape moment faults size sysid es since told standing → Holds since told standing
  lived_holds _ _ _ (begins disk t told_t may) = record {
    t = t;
    told_tape = told_t;
    order = subst (λ (n : ℕ). HoldsOrder size sysid es n t) (sym (counted disk t told_t))
        (order_begun size sysid es t may);
    held = All-nil (IsHeld size sysid es t);
  }
  lived_holds _ _ _ (opens since told cap from disk s lived few none_torn stands found) =
      found_holds since told cap from disk s (lived_holds since told (Closed disk) lived) few
      none_torn stands found
  lived_holds _ _ _ (fails_to_open since told cap disk refused fault lived few none_torn leaves) =
      unsettled since told cap disk refused fault (lived_holds since told (Closed disk) lived) few
      none_torn leaves
  lived_holds _ _ _ (is_offered since told hardened old new bytes answer lived comes answers) =
      let was = lived_holds since told (Open old) lived in
      step_open tape moment faults size sysid es since told hardened old new (Offer bytes answer)
      was
      (subst (λ (n : ℕ). ComesOfLog n sysid es hardened bytes) (sym was.size_is) comes, answers)
  lived_holds _ _ _ (hardens since told upto old new lived is) =
      step_hardened tape moment faults size sysid es counts since told upto old new
      (lived_holds since told (Open old) lived) is
  lived_holds _ _ _ (fails_to_harden since told count old new lived is) =
      step_open tape moment faults size sysid es since told 0 old new (NotHardened count)
      (lived_holds since told (Open old) lived) is
  lived_holds _ _ _ (closes since told s lived) =
      is_closed tape moment faults size sysid es since told s
      (lived_holds since told (Open s) lived)
  lived_holds _ _ _ (crashes since told standing at t left disk lived told_t later crash is) =
      crashed since told (disk_standing standing) at t left disk
      (any_closed since told standing (lived_holds since told standing lived)) told_t later crash is
  lived_holds _ _ _ (is_killed since told standing at t stopped disk lived told_t later stops is) =
      killed since told (disk_standing standing) at t stopped disk
      (any_closed since told standing (lived_holds since told standing lived)) told_t later stops is

  -- ---- what follows

  more_held : (promise upto : ℕ) (found : List FoundRecord) → ReachesEntries size es promise upto
      → IsFrontUpto size es upto found → IsFrontUpto size es promise found
  more_held promise upto found reaches front = record {
    count = front.count;
    within = front.within;
    found_is = front.found_is;
    holds = λ i e got low. front.holds i e got (reaches i e got low);
  }

  module _ (since : ℕ) (told : List (ℕ × ℕ)) (disk : D) (was : ClosedSo since told disk) where
    left_here : (at : ℕ) (image : DiskImage) → since ≤ at → LeftAt was.t at image
        → NoTornPass size (pages_in size image) es → (found : List FoundRecord) (answer : Answer)
        → Decodes size (pages_in size image) size None found answer
        → IsFrontUpto size es 0 found
        × All (λ promise. promise.0 ≤ at → IsFrontUpto size es promise.1 found) told
    left_here at image later leaves none_torn found answer decodes =
        let order = was.order.order in
        let front = λ (upto : ℕ) (is : IsLawful size sysid image es upto).
        lawful_images_decode_to_fronts size sysid upto image es order.valid order.known order.narrow
        order.chained order.bounded is none_torn found answer decodes in (
          front 0 (image_lawful size sysid es since was.t was.order at image later leaves),
          All-weaker (IsHeld size sysid es was.t)
              (λ promise. promise.0 ≤ at → IsFrontUpto size es promise.1 found)
              (λ promise held after. more_held promise.1 held.upto found held.reaches
              (front held.upto (image_held size sysid es since was.t was.order at image later leaves
              promise.0 held.upto held.whole held.keeps after))) told was.held,
        )

    all_left : IfSome (tape disk) (λ t. (at : ℕ) (image : DiskImage) → since ≤ at
        → LeftAt t at image
        → NoTornPass size (pages_in size image) es → (found : List FoundRecord) (answer : Answer)
        → Decodes size (pages_in size image) size None found answer
        → IsFrontUpto size es 0 found
        × All (λ promise. promise.0 ≤ at → IsFrontUpto size es promise.1 found) told)
    all_left = subst (λ (o : Option Tape). IfSome o (λ t. (at : ℕ) (image : DiskImage) → since ≤ at
        → LeftAt t at image
        → NoTornPass size (pages_in size image) es → (found : List FoundRecord) (answer : Answer)
        → Decodes size (pages_in size image) size None found answer
        → IsFrontUpto size es 0 found
        × All (λ promise. promise.0 ≤ at → IsFrontUpto size es promise.1 found) told))
        (sym was.told_tape) left_here

  pub promises_are_kept : (since : ℕ) (told : List (ℕ × ℕ)) (standing : StandbyState D)
      → Lived tape moment faults size sysid es since told standing
      → KeepsStandbyPromises tape size sysid es since told standing
  promises_are_kept since told standing lived =
      kept since told standing (lived_holds since told standing lived)
    where
      kept : (since : ℕ) (told : List (ℕ × ℕ)) (standing : StandbyState D)
          → Holds since told standing → KeepsStandbyPromises tape size sysid es since told standing
      kept since told (Closed disk) was = record {
        left = all_left since told disk was;
        stands = tt;
        never_diverges = tt;
      }
      kept since told (Open s) was = record {
        left = all_left since told (standby_disk s)
            (is_closed tape moment faults size sysid es since told s was);
        stands = All-weaker (IsHeldBy tape moment faults size sysid es was.t s)
            (λ promise. ReachesEntries size es promise.1 (standby_end s))
            (λ promise held i e got low. omega (arith, held.0.reaches i e got low, held.1.within))
            told was.held;
        never_diverges = λ new hardened at bytes comes diverged.
            never_diverges tape moment faults sysid es since hardened s new bytes at diverged
            (subst (λ (n : ℕ). ComesOfLog n sysid es hardened bytes) (sym was.size_is) comes)
            was.follows;
      }
