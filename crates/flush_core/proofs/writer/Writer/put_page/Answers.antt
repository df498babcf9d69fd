-- A page is put by the calls of its place.
use Rattle.std.specs.Option.{is_some}
use Rattle.std.proofs.Common.{rules, ◌≡◌, ◌+◌, ◌*◌, ◌/◌, ◌%◌, ◌==◌, ◌≤◌, ◌∙◌, ℕ, max, nat_lt, Option, Some, IfSome, List, ap, subst, sym, arith}
use Rattle.byte_position.specs.Geometry.{IsSegmentSize, pages_of}
use Rattle.segment_disk.specs.declared.disk.Call.{Call}
use Rattle.segment_disk.specs.Tape.{Tape}
use Rattle.flush_core.specs.declared.writer.Writer.{Writer}
use Rattle.flush_core.specs.Calls.{is_create, to_sync, store_calls, put_calls, with_calls, BreaksOff}
use Rattle.flush_core.specs.Pages.{PutPages}
use Rattle.flush_core.specs.Left.{PutHistory, with_put, IsKeptWord, SameBelow}
use Rattle.segment_disk.specs.Assured.{IsMadeUpto, TapeAssures}
use Rattle.flush_core.specs.Left.{IsWordPut}
use Rattle.segment_disk.specs.Assured.{IsNowhere}
use Rattle.flush_core.specs.Writer.{IsReached}
use Rattle.flush_core.proofs.NextCalls.{creates_if, syncs_if}
use Rattle.flush_core.proofs.PutLaws.{page_reaches}
use Rattle.flush_core.proofs.LeftLaws.{AllFit, TapeAssures-with_calls, TapeAssures-broken}
use Rattle.flush_core.proofs.LeftPuts.{put_keeps, put_adds, HoldsOnly-more}
use Rattle.flush_core.proofs.WriterLaws.{put_calls_are, IsWriter-put}
use Rattle.flush_core.proofs.writer.Writer.put_page.Given.{Over}
use Rattle.flush_core.proofs.writer.Writer.put_page.Goals.{After-store_page}
use Rattle.flush_core.proofs.writer.Writer.put_page.Goals as goal

module _ (g : Over) (c : After-store_page g) where
  -- the calls that store the page at its place
  abbrev stored : List Call
  stored = store_calls c.args.self.now.geometry c.place_of-place.result.segment c.place_of-place.result.page c.creates-is_new.result c.is_some-is_full.result c.args.bytes.now

  fresh : c.creates-is_new.result ≡ nat_lt c.args.self.now.made c.place_of-place.result.segment
  fresh = c.creates-is_new.ensures ∙ ap is_create c.next_call.ensures ∙ creates_if c.args.self.now.made c.place_of-place.result.segment

  full : c.is_some-is_full.result ≡ (c.args.upto.0 % c.args.self.now.geometry == 0)
  full = c.is_some-is_full.ensures
      ∙ ap is_some (c.to_sync.ensures ∙ ap to_sync c.next_behind.ensures.next)
      ∙ syncs_if (c.args.upto.0 % c.args.self.now.geometry == 0) (c.args.page / pages_of c.args.self.now.geometry)

  stored_are : stored ≡ put_calls c.args.self.now.geometry c.args.self.now.made c.args.page c.args.upto.0 c.args.bytes.now
  stored_are =
      put_calls_are c.args.self.now.geometry c.args.self.now.made c.args.page c.args.upto.0 c.place_of-place.result.segment c.place_of-place.result.page c.creates-is_new.result c.is_some-is_full.result c.args.bytes.now
      c.place_of-place.ensures.segment c.place_of-place.ensures.page fresh full

  makes : c.max-made.result ≡ max c.args.self.now.made (c.args.page / pages_of c.args.self.now.geometry)
  makes = c.max-made.ensures ∙ ap (max c.args.self.now.made) c.place_of-place.ensures.segment

  valid : IsSegmentSize c.args.self.now.geometry
  valid = c.next_behind.ensures.valid

pub returns-in-Ok-clause-done : goal.returns-in-Ok-clause-done
returns-in-Ok-clause-done g c =
    let before = (goal.at.returns-in-Ok-clause-done g c).After-store_page in
    record {
      put =
          IsWriter-put g.row.D.Denot g.D.Disk.tape c.args.self.now c.store_page.new.disk c.args.page c.args.upto c.args.bytes.now c.is_some-is_full.result c.max-made.result (stored g before) (valid g before) c.requires.number c.requires.rises c.requires.begun c.requires.within (omega arith)
          c.in-Ok.ensures.ok.tape (stored_are g before) (full g before) (makes g before);
      calls = search rules;
      moment_rises = search rules;
      written = search rules;
      synced = search rules;
      made = search rules;
      as_written = search rules;
    }

-- the calls were made, or broke off, and they fit
module _ (g : Over) (c : After-store_page g) (IsThere : ℕ → ℕ → Type 0) (Fits : ℕ → ℕ → List ℕ → Type 0) (moment : ℕ) (fit : AllFit c.args.self.now.geometry (IsThere c.args.self.now.geometry) Fits (stored g c)) (assures : IfSome (g.D.Disk.tape c.args.self.now.disk) (TapeAssures c.args.self.now.geometry (IsThere c.args.self.now.geometry) Fits moment)) where
  fits_made : (disk : g.row.D.Denot) → g.D.Disk.tape disk ≡ with_calls (g.D.Disk.tape c.args.self.now.disk) (stored g c) → IfSome (g.D.Disk.tape disk) (TapeAssures c.args.self.now.geometry (IsThere c.args.self.now.geometry) Fits moment)
  fits_made disk made =
      subst (λ (t : Option Tape). IfSome t (TapeAssures c.args.self.now.geometry (IsThere c.args.self.now.geometry) Fits moment)) (sym made) (TapeAssures-with_calls c.args.self.now.geometry (IsThere c.args.self.now.geometry) Fits moment (g.D.Disk.tape c.args.self.now.disk) (stored g c) fit assures)

  fits_broken : (disk : g.row.D.Denot) (new : Writer g.row.D.Denot) (old_moment new_moment told : ℕ) → BreaksOff (g.D.Disk.tape c.args.self.now.disk) (g.D.Disk.tape disk) old_moment new_moment (stored g c)
      → new ≡ record c.args.self.now { disk = disk; fault = Some told } → IfSome (g.D.Disk.tape new.disk) (TapeAssures new.geometry (IsThere new.geometry) Fits moment)
  fits_broken disk new old_moment new_moment told broken kept =
      subst (λ (w : Writer g.row.D.Denot). IfSome (g.D.Disk.tape w.disk) (TapeAssures w.geometry (IsThere w.geometry) Fits moment)) (sym kept)
      (TapeAssures-broken c.args.self.now.geometry (IsThere c.args.self.now.geometry) Fits moment (g.D.Disk.tape c.args.self.now.disk) (g.D.Disk.tape disk) old_moment new_moment (stored g c) broken fit assures)

module _ (g : Over) (c : After-store_page g) where
  keeps : IsReached c.args.self.now → (position : ℕ) (pages : PutPages) → position ≤ c.args.self.now.written.0 → SameBelow position c.args.page c.args.bytes.now (pages c.args.page) → AllFit c.args.self.now.geometry (IsMadeUpto c.args.self.now.geometry position) (IsKeptWord position pages) (stored g c)
  keeps = put_keeps c.args.self.now.geometry c.args.self.now.made c.args.self.now.written.0 c.args.upto.0 c.args.page c.args.bytes.now (stored g c) (stored_are g c) (valid g c) c.requires.number

  reaches : c.args.upto.0 ≤ c.max-made.result * c.args.self.now.geometry + c.args.self.now.geometry
  reaches =
      subst (λ (m : ℕ). c.args.upto.0 ≤ m * c.args.self.now.geometry + c.args.self.now.geometry) (sym (makes g c))
      (page_reaches c.args.self.now.geometry c.args.upto.0 c.args.page (valid g c) c.requires.within c.args.self.now.made)

  adds : (puts : PutHistory) → AllFit c.args.self.now.geometry IsNowhere (IsWordPut (with_put puts c.args.page c.args.bytes.now)) (stored g c)
  adds = put_adds c.args.self.now.geometry c.args.self.now.made c.args.self.now.written.0 c.args.upto.0 c.args.page c.args.bytes.now (stored g c) (stored_are g c) (valid g c) c.requires.number

  more : (puts : PutHistory) (moment : ℕ) → IfSome (g.D.Disk.tape c.args.self.now.disk) (TapeAssures c.args.self.now.geometry IsNowhere (IsWordPut puts) moment)
      → IfSome (g.D.Disk.tape c.args.self.now.disk) (TapeAssures c.args.self.now.geometry IsNowhere (IsWordPut (with_put puts c.args.page c.args.bytes.now)) moment)
  more puts moment = HoldsOnly-more c.args.page c.args.bytes.now c.args.self.now.geometry puts moment (g.D.Disk.tape c.args.self.now.disk)

pub returns-in-Ok-clause-keeps : goal.returns-in-Ok-clause-keeps
returns-in-Ok-clause-keeps g c =
    let before = (goal.at.returns-in-Ok-clause-keeps g c).After-store_page in
    record {
      kept = λ moment position pages low same kept. (
        reaches g before,
        fits_made g before (λ size. IsMadeUpto size position) (IsKeptWord position pages) moment (keeps g before kept.0 position pages low same) kept.1 c.store_page.new.disk c.in-Ok.ensures.ok.tape,
      );
      only = λ moment puts only. fits_made g before (λ size. IsNowhere) (IsWordPut (with_put puts c.args.page c.args.bytes.now)) moment (adds g before puts) (more g before puts moment only) c.store_page.new.disk c.in-Ok.ensures.ok.tape;
    }

pub returns-in-Err-clause-keeps : goal.returns-in-Err-clause-keeps
returns-in-Err-clause-keeps g c =
    let before = (goal.at.returns-in-Err-clause-keeps g c).After-store_page in
    record {
      kept = λ moment position pages low same kept. (
        subst (λ (w : Writer g.row.D.Denot). IsReached w) (sym c.fail.ensures.kept) kept.0,
        fits_broken g before (λ size. IsMadeUpto size position) (IsKeptWord position pages) moment (keeps g before kept.0 position pages low same) kept.1 c.store_page.new.disk c.fail.new.self _ _ c.fail.result.faults c.in-Err.ensures.err c.fail.ensures.kept,
      );
      only = λ moment puts only. fits_broken g before (λ size. IsNowhere) (IsWordPut (with_put puts c.args.page c.args.bytes.now)) moment (adds g before puts) (more g before puts moment only) c.store_page.new.disk c.fail.new.self _ _ c.fail.result.faults c.in-Err.ensures.err c.fail.ensures.kept;
    }

pub returns-in_err-check-clause-keeps : goal.returns-in_err-check-clause-keeps
returns-in_err-check-clause-keeps g c = record {
  kept = λ moment position pages low same kept. kept;
  only = λ moment puts. HoldsOnly-more c.args.page c.args.bytes.now c.args.self.now.geometry puts moment (g.D.Disk.tape c.args.self.now.disk);
}
