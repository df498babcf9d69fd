-- A commit answers what its insert and its flush do.
use Rattle.std.specs.Prelude.{Result, Ok, Err, None, IfErr}
use Rattle.std.proofs.Common.{◌≡◌, ℕ, ◌≤◌, All, List, sym, ap, subst, ◌∙◌, arith}
use Rattle.byte_position.specs.Geometry.{IsSegmentSize}
use Rattle.byte_position.specs.Position.{position_of}
use Rattle.byte_position.proofs.EndAddresses.{end_address_of-mono}
use Rattle.wal_types.specs.declared.answers.Receipt.{Receipt}
use Rattle.wal_types.specs.declared.answers.Refused.{Refused}
use Rattle.wal_types.specs.declared.answers.Sealed.{Sealed}
use Rattle.wal_spelling.specs.Spelling.{Assembled}
use Rattle.wal_types.specs.declared.lsn.Lsn.{Lsn}
use Rattle.wal_page.specs.Order.{Entry, position_behind}
use Rattle.machine_state.specs.declared.setup.Setup.{Setup}
use Rattle.machine_state.specs.Views.{FlushPromise, View}
use Rattle.machine_state.specs.Words.{Opening, end_form}
use Rattle.wal_log.specs.declared.inserting.InsertErr.{InsertErr}
use Rattle.wal_log.specs.declared.inserting.InsertErr.TheVariants.{Down}
use Rattle.wal_log.specs.Committing.{IsSealed, commit_known_down, refused_of_insert}
use Rattle.wal_log.specs.Flushing.{IsToldHard, IsUnreserved}
use Rattle.wal_log.specs.Inserting.{IsReceipt, IsStarted}
use Rattle.wal_log.specs.PassLogs.{PassLog, log_of_pass, log_with_promise}
use Rattle.wal_log.specs.Standing.{KeepsPass}
use Rattle.wal_log.proofs.Keeping.{both_up, up_before}
use Rattle.wal_log.proofs.FlushLaws.{moment_behind}
use Rattle.wal_log.proofs.WholeLaws.{copied_behind}

pub never_both : {A E : Type 0} (r : Result A E) (a : A) (e : E) → r ≡ Ok a → r ≡ Err e → ⊥
never_both {A} {E} r a e ok err =
    subst (λ (x : Result A E). IfErr x (λ (y : E). ⊥)) (sym ok ∙ err) tt

-- what is answered where an insert was refused
abbrev pub answer_of_insert : Result Receipt InsertErr → Result Sealed Refused
answer_of_insert (Ok receipt) = commit_known_down 0
answer_of_insert (Err e) = Err (refused_of_insert e)

pub known_again : (inserted : Result Receipt InsertErr) (e : InsertErr)
    (answer : Result Sealed Refused) (refused : Refused) (faults : ℕ)
    → inserted ≡ Err e → answer ≡ Err refused → refused ≡ refused_of_insert e
    → inserted ≡ Err (Down faults None) → answer ≡ commit_known_down faults
known_again inserted e answer refused faults was is same known =
    is ∙ ap (λ (x : Refused). Err x) same ∙ ap answer_of_insert (sym was ∙ known)

module _ (setup : Setup) (body : Assembled) (old mid new : View) (receipt : Receipt)
    (told : IsReceipt setup body old mid receipt) where
  -- what was reserved stays so behind steps that leave the pass's log
  pub started : log_of_pass new ≡ log_of_pass mid → (mid.reserving).seen ≤ (new.reserving).seen
      → IsStarted setup body old new receipt.start.0
  started same rises = record {
    entry = told.entry;
    reserved = record {
      own = (told.reserved).own;
      log_is = same ∙ (told.reserved).log_is;
      seen = (let seen = (told.reserved).seen in omega (arith, seen, rises));
    };
    start_is = told.start_is;
  }

  -- and is told to be durable behind the flush
  pub sealed_is : KeepsPass old mid → KeepsPass mid new → (mid.opening).setup ≡ setup
      → (sealed : Sealed) (upto : ℕ)
      → sealed.start ≡ receipt.start → sealed.end ≡ receipt.end
      → IsToldHard receipt.end.0 upto sealed.moment mid new → IsSealed setup body old new sealed
  sealed_is keeps behind own sealed upto start end hard = record {
    entry = told.entry;
    upto = upto;
    own = (told.reserved).own;
    copied = copied_behind old mid new told.entry behind told.copied;
    log_is = hard.log_is ∙ ap (log_with_promise upto sealed.moment) (told.reserved).log_is;
    reached = (let is = told.end_is in let far = hard.reached in omega (arith, is, far));
    since = subst (λ (o : Opening). o.moment ≤ sealed.moment) keeps.opening hard.since;
    of_word = moment_behind old mid new sealed.moment keeps hard.of_word;
    held = hard.held;
    latest = record {
      moments = subst (λ (ps : List FlushPromise).
          All (λ (p : FlushPromise). p.moment ≤ sealed.moment) ps) same_promises
          (hard.latest).moments;
      addresses = subst (λ (ps : List FlushPromise).
          All (λ (p : FlushPromise). p.upto ≤ upto) ps) same_promises (hard.latest).addresses;
    };
    seen = subst (λ (s : Setup). position_of s.seg_size upto ≤ (new.reserving).seen) own
        hard.seen;
    start_is = ap (λ (l : Lsn). l.0) start ∙ told.start_is;
    end_is = ap (λ (l : Lsn). l.0) end ∙ told.end_is;
    up = hard.up;
  }
    where
      same_promises : mid.writing.promises ≡ old.writing.promises
      same_promises = ap (λ (l : PassLog). l.promises) (told.reserved).log_is

  -- the insert set no down value
  pub set_none : KeepsPass old mid → mid.writing.down_set ≡ old.writing.down_set
  set_none keeps = both_up old mid (up_before old mid keeps told.up) told.up

  -- the pass has seen its own record reserved, up to its end
  pub end_is_reserved : (end : ℕ) → IsSegmentSize setup.seg_size → (mid.opening).setup ≡ setup
      → IsUnreserved receipt.end.0 end mid new → ⊥
  end_is_reserved end size own unreserved =
      let e : Entry = told.entry in
      let finish = told.end_is in
      let seen = (told.reserved).seen in
      let rises = unreserved.rises in
      let above = unreserved.above in
      let is : end ≡ end_form setup (new.reserving).seen =
      unreserved.end_is ∙ ap (λ (s : Setup). end_form s (new.reserving).seen) own in
      let low = end_address_of-mono setup.seg_size size
      (position_behind setup.seg_size e) (new.reserving).seen (omega (arith, seen, rises)) in
      omega (arith, finish, above, is, low)
