-- The end that is kept beside a pass, and what the log's answers leave of it.
use Rattle.std.specs.Prelude.{Result, Ok, Err, Some, None}
use Rattle.std.proofs.Common.{◌≡◌, ◌⊎◌, ℕ, ◌≤◌, max, List, [], ◌∷◌, ◌++◌, refl, sym, ap, ◌∙◌, subst, inl, inr, arith}
use Rattle.std.proofs.lemmas.Bool.{cases_lt}
use Rattle.byte_position.specs.Geometry.{IsSegmentSize}
use Rattle.byte_position.specs.Position.{end_address_of, first_position}
use Rattle.byte_position.proofs.EndAddresses.{end_address_of-mono, le-position_of}
use Rattle.wal_spelling.specs.Spelling.{Assembled}
use Rattle.wal_page.specs.Order.{Entry, finish_of, position_behind}
use Rattle.wal_types.specs.declared.answers.Hard as hard
use Rattle.wal_types.specs.declared.answers.Receipt.{Receipt}
use Rattle.wal_types.specs.declared.answers.Refused as refused
use Rattle.wal_types.specs.declared.answers.Sealed.{Sealed}
use Rattle.run_laws.specs.Answered.{told_of_commit, told_of_commit_async, told_of_insert}
use Rattle.run_laws.specs.declared.told.Told.{Told}
use Rattle.run_laws.specs.declared.told.Told.TheVariants.{Wrote, Hard, Flushed, Async, Idle, Switched, Stayed, Refused}
use Rattle.machine_state.specs.declared.setup.Setup.{Setup}
use Rattle.wal_rule.specs.Downs.{KnowsDown}
use Rattle.machine_state.specs.Views.{View}
use Rattle.wal_log.specs.declared.behind.Caught.{Caught}
use Rattle.wal_log.specs.declared.behind.Caught.TheVariants as caught
use Rattle.wal_log.specs.declared.flushing.FlushErr.{FlushErr}
use Rattle.wal_log.specs.declared.flushing.FlushErr.TheVariants as flushes
use Rattle.wal_log.specs.declared.inserting.InsertErr.{InsertErr}
use Rattle.wal_log.specs.declared.inserting.InsertErr.TheVariants as inserts
use Rattle.wal_log.specs.declared.switching.Switch as switching
use Rattle.wal_log.specs.declared.switching.Switch.TheVariants as switched
use Rattle.wal_log.specs.Behind.{AnswersBehind}
use Rattle.wal_log.specs.Committing.{AnswersCommit, refused_of_insert}
use Rattle.wal_log.specs.Flushing.{AnswersFlush}
use Rattle.wal_log.specs.Inserting.{AnswersInsert, RefusesInsert}
use Rattle.wal_log.specs.PassLogs.{PassLog}
use Rattle.wal_log.specs.Standing.{KeepsPass}
use Rattle.wal_log.specs.Switching.{AnswersSwitch}
use Rattle.wal_log.proofs.Refusals.{switch_refused}
use Rattle.run_laws.specs.Played.{behind_last_own, end_of_own}
use Rattle.run_laws.specs.Reached.{EndsBy}
use Rattle.run_backends.specs.Sessions.{IsReserved, told_of_flush_err}

-- ---- the end of a pass's own last entry

pub behind_last_own-append : (size behind : ℕ) (es : List Entry) (e : Entry)
    → behind_last_own size behind (es ++ e ∷ []) ≡ position_behind size e
behind_last_own-append size behind [] e = refl
behind_last_own-append size behind (x ∷ es) e =
    behind_last_own-append size (position_behind size x) es e

pub end_of_own-append : (size : ℕ) (es : List Entry) (e : Entry)
    → end_of_own size (es ++ e ∷ []) ≡ finish_of size e
end_of_own-append size es e =
    ap (end_address_of size) (behind_last_own-append size (first_position size) es e)

-- ---- addresses that were reserved

module _ (setup : Setup) (valid : IsSegmentSize setup.seg_size) where
  pub reserved_since : (address : ℕ) (u v : View) → (u.reserving).seen ≤ (v.reserving).seen
      → IsReserved setup address u → IsReserved setup address v
  reserved_since address u v rises (inl below) = inl below
  reserved_since address u v rises (inr below) =
      let further = end_address_of-mono setup.seg_size valid (u.reserving).seen
      (v.reserving).seen rises in inr (omega (arith, below, further))

  pub finish_reserved : (e : Entry) (v : View)
      → position_behind setup.seg_size e ≤ (v.reserving).seen
      → IsReserved setup (finish_of setup.seg_size e) v
  finish_reserved e v seen = inr (end_address_of-mono setup.seg_size valid
      (position_behind setup.seg_size e) (v.reserving).seen seen)

pub reserved_max : (setup : Setup) (a b : ℕ) (v : View) → IsReserved setup a v
    → IsReserved setup b v → IsReserved setup (max a b) v
reserved_max setup a b v first second =
    elim (cases_lt a b) [
      | inl h ↦
          (let is : b ≡ max a b = omega arith in
          subst (λ (x : ℕ). IsReserved setup x v) is second)
      | inr h ↦
          (let is : a ≡ max a b = omega arith in
          subst (λ (x : ℕ). IsReserved setup x v) is first)
    ]

-- ---- what is told

-- what a line is told by an insert's answer, and by that of a flush of the end kept, which is never
-- found unreserved
abbrev pub told_of_inserted : Result Receipt InsertErr → Told
told_of_inserted (Ok receipt) = Wrote receipt.start receipt.end
told_of_inserted (Err e) = told_of_insert (Err (refused_of_insert e))

abbrev pub told_of_ahead : Result Receipt InsertErr → Told
told_of_ahead (Ok receipt) = Async receipt.start receipt.end
told_of_ahead (Err e) = told_of_commit_async (Err (refused_of_insert e))

abbrev pub told_of_flushed : Result hard.Hard FlushErr → Told
told_of_flushed (Ok done) = Flushed done.upto done.moment
told_of_flushed (Err e) = told_of_flush_err e

abbrev pub told_of_caught : Result Caught FlushErr → Told
told_of_caught (Ok (caught.Flushed done)) = Flushed done.upto done.moment
told_of_caught (Ok (caught.Idle upto)) = Idle upto
told_of_caught (Err e) = told_of_flush_err e

-- and by a segment switch's, which is refused as an insert is
abbrev pub told_of_switched : Result switching.Switch InsertErr → Told
told_of_switched (Ok (switched.Done start end)) = Switched start end
told_of_switched (Ok (switched.Stayed end)) = Stayed end
told_of_switched (Err e) = told_of_insert (Err (refused_of_insert e))

-- the end kept behind an answer
abbrev pub end_behind : ℕ → Told → ℕ
end_behind end (Wrote start last) = max end last.0
end_behind end (Hard start last moment) = max end last.0
end_behind end (Flushed upto moment) = end
end_behind end (Async start last) = max end last.0
end_behind end (Idle upto) = end
end_behind end (Switched start last) = max end last.0
end_behind end (Stayed last) = end
end_behind end (Refused cause reserved) = end

pub flush_keeps_end : (end : ℕ) (answer : Result hard.Hard FlushErr)
    → end_behind end (told_of_flushed answer) ≡ end
flush_keeps_end end (Ok done) = refl
flush_keeps_end end (Err (flushes.Disk faults)) = refl
flush_keeps_end end (Err (flushes.Down faults)) = refl
flush_keeps_end end (Err (flushes.Unreserved found)) = refl

pub caught_keeps_end : (end : ℕ) (answer : Result Caught FlushErr)
    → end_behind end (told_of_caught answer) ≡ end
caught_keeps_end end (Ok (caught.Flushed done)) = refl
caught_keeps_end end (Ok (caught.Idle upto)) = refl
caught_keeps_end end (Err e) = flush_keeps_end end (Err e)

-- a commit that is answered ahead has its end told as an insert has
pub ahead_keeps_end : (end : ℕ) (answer : Result Receipt InsertErr)
    → end_behind end (told_of_inserted answer) ≡ end_behind end (told_of_ahead answer)
ahead_keeps_end end (Ok receipt) = refl
ahead_keeps_end end (Err e) = refl

pub ends_by_end_behind : (end : ℕ) (told : Told) → EndsBy (end_behind end told) told
ends_by_end_behind end (Wrote start last) = omega arith
ends_by_end_behind end (Hard start last moment) = omega arith
ends_by_end_behind end (Flushed upto moment) = tt
ends_by_end_behind end (Async start last) = omega arith
ends_by_end_behind end (Idle upto) = tt
ends_by_end_behind end (Switched start last) = omega arith
ends_by_end_behind end (Stayed last) = tt
ends_by_end_behind end (Refused cause reserved) = tt

pub le-end_behind : (end : ℕ) (told : Told) → end ≤ end_behind end told
le-end_behind end (Wrote start last) = omega arith
le-end_behind end (Hard start last moment) = omega arith
le-end_behind end (Flushed upto moment) = omega arith
le-end_behind end (Async start last) = omega arith
le-end_behind end (Idle upto) = omega arith
le-end_behind end (Switched start last) = omega arith
le-end_behind end (Stayed last) = omega arith
le-end_behind end (Refused cause reserved) = omega arith

-- ---- the end kept beside a pass

-- as `KeepsEnd` says it of a session
pub record HasEnd (setup : Setup) (end : ℕ) (v : View) : Type 0 where
  pub own : (end_of_own setup.seg_size (v.reserving).entries ≤ end)
      ⊎ ((faults : ℕ) × KnowsDown faults v)
  pub reserved : IsReserved setup end v

module _ (setup : Setup) (valid : IsSegmentSize setup.seg_size) (old new : View)
    (keeps : KeepsPass old new) (end : ℕ) (had : HasEnd setup end old) where
  still_reserved : IsReserved setup end new
  still_reserved = reserved_since setup valid end old new keeps.rises had.reserved

  -- the pass reserved no entry
  end_stays : (new.reserving).entries ≡ (old.reserving).entries → HasEnd setup end new
  end_stays same = record {
    own = stays had.own;
    reserved = still_reserved;
  }
    where
      stays : (end_of_own setup.seg_size (old.reserving).entries ≤ end)
          ⊎ ((faults : ℕ) × KnowsDown faults old)
          → (end_of_own setup.seg_size (new.reserving).entries ≤ end)
          ⊎ ((faults : ℕ) × KnowsDown faults new)
      stays (inl low) = inl (subst (λ (es : List Entry). end_of_own setup.seg_size es ≤ end)
          (sym same) low)
      stays (inr known) = inr (known.0, keeps.down known.0 known.1)

  -- it knows of a failed disk
  end_known_down : (faults : ℕ) → KnowsDown faults new → HasEnd setup end new
  end_known_down faults knows = record {
    own = inr (faults, knows);
    reserved = still_reserved;
  }

  -- it reserved an entry, whose end is told
  end_rises : (e : Entry) (last : ℕ) → last ≡ finish_of setup.seg_size e
      → (new.reserving).entries ≡ (old.reserving).entries ++ e ∷ []
      → position_behind setup.seg_size e ≤ (new.reserving).seen
      → HasEnd setup (max end last) new
  end_rises e last is added seen =
      let own : end_of_own setup.seg_size (new.reserving).entries ≡ last =
      ap (end_of_own setup.seg_size) added
      ∙ end_of_own-append setup.seg_size (old.reserving).entries e ∙ sym is in
      record {
        own = inl (omega (arith, own));
        reserved = reserved_max setup end last new still_reserved
            (subst (λ (x : ℕ). IsReserved setup x new) (sym is)
            (finish_reserved setup valid e new seen));
      }

  module _ (body : Assembled) where
    end_refused : (e : InsertErr) → RefusesInsert setup body old new e → HasEnd setup end new
    end_refused (inserts.Full free) why =
        end_stays (ap (λ (l : PassLog). l.entries) why.0.log_is)
    end_refused (inserts.Disk faults start) why =
        end_known_down faults (why.1.some, inr why.1.set)
    end_refused (inserts.Down faults None) why =
        end_known_down faults (why.1.some, inl why.1.met)
    end_refused (inserts.Down faults (Some start)) why =
        end_known_down faults (why.1.some, inl why.1.met)

    pub end_inserted : (answer : Result Receipt InsertErr)
        → AnswersInsert setup body old answer new
        → HasEnd setup (end_behind end (told_of_inserted answer)) new
    end_inserted (Ok receipt) told = end_rises told.entry receipt.end.0 told.end_is
        (ap (λ (l : PassLog). l.entries) told.reserved.log_is) told.reserved.seen
    end_inserted (Err e) why = end_refused e why

    pub end_switched : (answer : Result switching.Switch InsertErr)
        → AnswersSwitch setup body old answer new
        → HasEnd setup (end_behind end (told_of_switched answer)) new
    end_switched (Ok (switched.Done start last)) told =
        let reserved = (told.switched).reserved in
        end_rises told.entry last.0 told.end_is (ap (λ (l : PassLog). l.entries) reserved.log_is)
        reserved.seen
    end_switched (Ok (switched.Stayed last)) told =
        end_stays (ap (λ (l : PassLog). l.entries) told.log_is)
    end_switched (Err e) why = end_refused e (switch_refused setup body old new e why)

    pub end_committed : (answer : Result Sealed refused.Refused)
        → AnswersCommit setup body old answer new
        → HasEnd setup (end_behind end (told_of_commit answer)) new
    end_committed (Ok sealed) told =
        let below = le-position_of setup.seg_size valid
        (position_behind setup.seg_size told.entry) told.upto told.reached in
        end_rises told.entry sealed.end.0 told.end_is
        (ap (λ (l : PassLog). l.entries) told.log_is) (omega (arith, below, told.seen))
    end_committed (Err e) why = end_refused why.0 why.2

  pub end_flushed : (asked : ℕ) (answer : Result hard.Hard FlushErr)
      → AnswersFlush asked old answer new → HasEnd setup end new
  end_flushed asked (Ok done) told = end_stays (ap (λ (l : PassLog). l.entries) told.0.log_is)
  end_flushed asked (Err e) why = end_stays (ap (λ (l : PassLog). l.entries) why.0)

  pub end_caught : (answer : Result Caught FlushErr) → AnswersBehind old answer new
      → HasEnd setup end new
  end_caught (Ok (caught.Flushed done)) told =
      end_stays (ap (λ (l : PassLog). l.entries) told.told.0.log_is)
  end_caught (Ok (caught.Idle upto)) told =
      end_stays (ap (λ (l : PassLog). l.entries) told.log_is)
  end_caught (Err e) why = end_stays (ap (λ (l : PassLog). l.entries) why.0)
