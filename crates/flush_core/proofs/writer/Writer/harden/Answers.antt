-- What waits for a sync is synced, or the sync failed.
use Rattle.std.proofs.Common.{rules, ◌≡◌, ℕ, List, false, Option, IfSome, ap, subst, sym, ◌∙◌, ◌/◌, arith}
use Rattle.segment_disk.specs.Tape.{Tape, sync_call}
use Rattle.flush_core.specs.declared.writer.Writer.{Writer}
use Rattle.flush_core.specs.Pages.{PutPages}
use Rattle.segment_disk.specs.Assured.{IsMadeUpto, TapeAssures}
use Rattle.flush_core.specs.Left.{IsKeptWord}
use Rattle.flush_core.specs.Writer.{IsReached, IsWriter}
use Rattle.flush_core.specs.Left.{IsWordPut}
use Rattle.segment_disk.specs.Assured.{IsNowhere}
use Rattle.flush_core.proofs.LeftLaws.{TapeAssures-with_call, TapeAssures-failed}
use Rattle.flush_core.proofs.LeftPuts.{IsKept-synced}
use Rattle.flush_core.proofs.WriterLaws.{IsWriter-synced, harden_failed}
use Rattle.flush_core.proofs.writer.Writer.harden.Given.{Over}
use Rattle.flush_core.proofs.writer.Writer.harden.Goals.{then-self+in-Ok, else-self}
use Rattle.flush_core.proofs.writer.Writer.harden.Goals as goal

pub returns-in-Err-clause-failed : goal.returns-in-Err-clause-failed
returns-in-Err-clause-failed g c =
    let old = c.args.self.now in
    let fails = rw c.segment_size.ensures.value at c.in-Err.ensures.answers in
    harden_failed g.row.D.Denot g.D.Disk.tape old c.sync.new.self g.D.Disk.moment g.D.Disk.faults c.fail.new.self c.fail.result.faults c.if-self.true c.in_ok-check.ensures fails c.in-Err.ensures.cause c.fail.ensures.told c.fail.ensures.kept

-- what is held is held behind the sync
holds_behind : (g : Over) (c : goal.After-moment g) (pages : PutPages) → IsWriter g.D.Disk.tape c.args.self.now pages → IsWriter g.D.Disk.tape c.if-self.self pages
holds_behind g c pages is =
    let tape = g.D.Disk.tape in
    let old = c.args.self.now in
    elim c.if-self.branch [
      | then-self+in-Ok w ↦
          (let made = rw w.segment_size.ensures.value at w.in-Ok.ensures.answers.tape in
          subst (λ (new : Writer g.row.D.Denot). IsWriter tape new pages) (sym w.self-is) (IsWriter-synced g.row.D.Denot tape old w.sync.new.self w.if-self.true made pages is))
      | else-self w ↦ subst (λ (new : Writer g.row.D.Denot). IsWriter tape new pages) (sym w.self-is) is
    ]

pub returns-clause-done : goal.returns-clause-done
returns-clause-done g c =
    let old = c.args.self.now in
    let synced : c.if-self.self.unsynced ≡ false = elim c.if-self.branch [ then-self+in-Ok w ↦ ap (λ (s : Writer g.row.D.Denot). s.unsynced) w.self-is | else-self w ↦ ap (λ (s : Writer g.row.D.Denot). s.unsynced) w.self-is ∙ w.if-self.false ] in
    let written : c.if-self.self.written.0 ≡ old.written.0 = elim c.if-self.branch [ then-self+in-Ok w ↦ ap (λ (s : Writer g.row.D.Denot). s.written.0) w.self-is | else-self w ↦ ap (λ (s : Writer g.row.D.Denot). s.written.0) w.self-is ] in
    record {
      hardened = λ pages is. IsKept-synced g.row.D.Denot g.D.Disk.tape g.D.Disk.moment g.met.D.Disk.counts c.if-self.self c.args.upto.0 c.moment.result pages synced (omega (arith, written, c.requires)) c.moment.ensures (holds_behind g c pages is);
      holds = holds_behind g c;
      calls = search rules;
      told_is = c.moment.ensures;
      synced = synced;
    }

-- what a crash leaves still fits behind the sync
fits_behind : (g : Over) (c : goal.After-moment g) (IsThere : ℕ → ℕ → Type 0) (Fits : ℕ → ℕ → List ℕ → Type 0) (moment : ℕ) → IfSome (g.D.Disk.tape c.args.self.now.disk) (TapeAssures c.args.self.now.geometry (IsThere c.args.self.now.geometry) Fits moment)
    → IfSome (g.D.Disk.tape c.if-self.self.disk) (TapeAssures c.if-self.self.geometry (IsThere c.if-self.self.geometry) Fits moment)
fits_behind g c IsThere Fits moment assures =
    let tape = g.D.Disk.tape in
    let old = c.args.self.now in
    elim c.if-self.branch [
      | then-self+in-Ok w ↦
          subst (λ (new : Writer g.row.D.Denot). IfSome (tape new.disk) (TapeAssures new.geometry (IsThere new.geometry) Fits moment)) (sym w.self-is)
          (subst (λ (t : Option Tape). IfSome t (TapeAssures old.geometry (IsThere old.geometry) Fits moment)) (sym w.in-Ok.ensures.answers.tape) (TapeAssures-with_call old.geometry (IsThere old.geometry) Fits moment (tape old.disk) _ tt assures))
      | else-self w ↦ subst (λ (new : Writer g.row.D.Denot). IfSome (tape new.disk) (TapeAssures new.geometry (IsThere new.geometry) Fits moment)) (sym w.self-is) assures
    ]

pub returns-clause-keeps : goal.returns-clause-keeps
returns-clause-keeps g c =
    let reached = λ (was : IsReached c.args.self.now). let is : IsReached c.if-self.self = elim c.if-self.branch [
      | then-self+in-Ok w ↦ subst (λ (new : Writer g.row.D.Denot). IsReached new) (sym w.self-is) was
      | else-self w ↦ subst (λ (new : Writer g.row.D.Denot). IsReached new) (sym w.self-is) was
    ] in is in
    record {
      kept = λ moment position pages kept. (reached kept.0, fits_behind g c (λ size. IsMadeUpto size position) (IsKeptWord position pages) moment kept.1);
      only = λ moment puts. fits_behind g c (λ size. IsNowhere) (IsWordPut puts) moment;
    }

-- and where the sync failed
fits_failed : (g : Over) (c : goal.After-fail g) (IsThere : ℕ → ℕ → Type 0) (Fits : ℕ → ℕ → List ℕ → Type 0) (moment : ℕ) → IfSome (g.D.Disk.tape c.args.self.now.disk) (TapeAssures c.args.self.now.geometry (IsThere c.args.self.now.geometry) Fits moment)
    → IfSome (g.D.Disk.tape c.fail.new.self.disk) (TapeAssures c.fail.new.self.geometry (IsThere c.fail.new.self.geometry) Fits moment)
fits_failed g c IsThere Fits moment assures =
    let tape = g.D.Disk.tape in
    let old = c.args.self.now in
    subst (λ (new : Writer g.row.D.Denot). IfSome (tape new.disk) (TapeAssures new.geometry (IsThere new.geometry) Fits moment)) (sym c.fail.ensures.kept) (TapeAssures-failed old.geometry (IsThere old.geometry) Fits moment (tape old.disk) (tape c.sync.new.self) _ _ (sync_call old.geometry (old.written.0 / c.segment_size.result)) tt c.in-Err.ensures.answers assures)

pub returns-in-Err-clause-keeps : goal.returns-in-Err-clause-keeps
returns-in-Err-clause-keeps g c = record {
  kept = λ moment position pages kept. (
    subst (λ (new : Writer g.row.D.Denot). IsReached new) (sym c.fail.ensures.kept) kept.0,
    fits_failed g c (λ size. IsMadeUpto size position) (IsKeptWord position pages) moment kept.1,
  );
  only = λ moment puts. fits_failed g c (λ size. IsNowhere) (IsWordPut puts) moment;
}
