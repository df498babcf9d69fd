use Rattle.std.proofs.Common.{◌≡◌, ℕ, Option, Some, Result, Err, option_map, subst, sym, ap, ◌∙◌}
use Rattle.wal_types.specs.declared.lsn.Lsn.{Lsn}
use Rattle.wal_reader.specs.Buffers.{AreFor, HoldsPageOf}
use Rattle.wal_reader.specs.Filled.{read_with}
use Rattle.wal_reader.specs.LogReader.{Knows, reader_state}
use Rattle.wal_reader.specs.PageCursor.{IsLogOf, Sees}
use Rattle.wal_reader.specs.Pages.{Pages}
use Rattle.wal_reader.specs.PassingOver.{place_again, stored_at}
use Rattle.wal_reader.specs.RecordRead.{IsRead}
use Rattle.wal_reader.specs.declared.buffers.Buffers.{Buffers}
use Rattle.wal_reader.specs.declared.found.RecordHead.{RecordHead}
use Rattle.wal_reader.specs.declared.read_failure.ReadFailure.{ReadFailure}
use Rattle.wal_reader.specs.declared.record_place.RecordPlace.{RecordPlace}
use Rattle.wal_reader.specs.declared.standing.Standing.TheVariants.{At}
use Rattle.wal_reader.proofs.PassingLaws.{GivesStored-told, StoredNext-told}
use Rattle.wal_reader.proofs.log_reader.Reader.pass_over.Given.{Over}
use Rattle.wal_reader.proofs.log_reader.Reader.pass_over.Goals as goal
use Rattle.wal_reader.proofs.log_reader.Reader.pass_over.Goals.{After-read_stored}

in_buffers : (g : Over) (c : After-read_stored g) (pages : Pages) → Knows c.args.self.now pages → HoldsPageOf c.args.self.now.geometry (Some c.in-Some.buffers) pages
in_buffers g c pages knows = subst (λ (d : Option Buffers). HoldsPageOf c.args.self.now.geometry d pages) c.in-Some.is (c.set_up.ensures.holds pages knows)

-- the buffers are those of the reader's log
fit : (g : Over) (c : After-read_stored g) → c.in-Some.buffers.cache.geometry ≡ c.args.self.now.geometry
fit g c = subst (λ (d : Option Buffers). AreFor c.args.self.now.geometry d) c.in-Some.is (c.set_up.ensures.fit c.args.self.now.fit)

sees : (g : Over) (c : After-read_stored g) (pages : Pages) → IsLogOf (g.D.Disk.tape c.args.disk.now) c.args.self.now.geometry pages → Knows c.args.self.now pages → Sees (g.D.Disk.tape c.args.disk.now) c.in-Some.buffers.cache pages
sees g c pages log knows =
    let held = in_buffers g c pages knows in
    record { log = subst (λ (n : ℕ). IsLogOf (g.D.Disk.tape c.args.disk.now) n pages) (sym held.0) log; held = held.1 }

knows_still : (g : Over) (c : After-read_stored g) (pages : Pages) → IsLogOf (g.D.Disk.tape c.args.disk.now) c.args.self.now.geometry pages → Knows c.args.self.now pages → HoldsPageOf c.args.self.now.geometry (Some c.read_stored.new.buffers) pages
knows_still g c pages log knows =
    let on = c.read_stored.ensures.reads_on in
    (on.geometry ∙ (in_buffers g c pages knows).0, (on.sees pages (sees g c pages log knows)).held)

-- what is stored there, of the reader's log
stored_here : (g : Over) (c : After-read_stored g) (pages : Pages) → IsLogOf (g.D.Disk.tape c.args.disk.now) c.args.self.now.geometry pages → Knows c.args.self.now pages
    → (let place = place_again c.args.self.now.geometry c.args.at.0 in IsRead c.args.self.now.geometry pages place (stored_at c.args.self.now.geometry pages (option_map (λ (e : Lsn). e.0) c.args.self.now.end) place) (read_with c.read_stored.new.value c.read_stored.result))
stored_here g c pages log knows =
    let read = c.read_stored.ensures.reads pages (sees g c pages log knows) in
    let by : ℕ → RecordPlace → Type 0 = λ size place. IsRead size pages place (stored_at size pages (option_map (λ (e : Lsn). e.0) c.args.self.now.end) place) (read_with c.read_stored.new.value c.read_stored.result) in
    subst (by c.args.self.now.geometry) c.place_again-place.ensures.place (subst (λ (n : ℕ). by n c.place_again-place.result) (fit g c) read)

-- by what was answered
stored_so : (g : Over) (c : After-read_stored g) (pages : Pages) → IsLogOf (g.D.Disk.tape c.args.disk.now) c.args.self.now.geometry pages → Knows c.args.self.now pages → (result : Result (RecordHead × RecordPlace) ReadFailure) → c.read_stored.result ≡ result
    → (let place = place_again c.args.self.now.geometry c.args.at.0 in IsRead c.args.self.now.geometry pages place (stored_at c.args.self.now.geometry pages (option_map (λ (e : Lsn). e.0) c.args.self.now.end) place) (read_with c.read_stored.new.value result))
stored_so g c pages log knows result is =
    let place = place_again c.args.self.now.geometry c.args.at.0 in
    subst (λ (r : Result (RecordHead × RecordPlace) ReadFailure). IsRead c.args.self.now.geometry pages place (stored_at c.args.self.now.geometry pages (option_map (λ (e : Lsn). e.0) c.args.self.now.end) place) (read_with c.read_stored.new.value r)) is (stored_here g c pages log knows)

pub returns-in-Ok-clause-gives : goal.returns-in-Ok-clause-gives
returns-in-Ok-clause-gives g c pages log knows =
    let before = (goal.at.returns-in-Ok-clause-gives g c).After-read_stored in
    let so = stored_so g before pages log knows _ c.in-Ok.is in
    record {
      knows = knows_still g before pages log knows;
      next = (so.0, ap (λ (p : RecordPlace). record (reader_state c.args.self.now) { standing = At p }) so.1);
    }

pub returns-in-Err-Told-clause-gives : goal.returns-in-Err-Told-clause-gives
returns-in-Err-Told-clause-gives g c pages log knows =
    let before = (goal.at.returns-in-Err-Told-clause-gives g c).After-read_stored in
    let so = stored_so g before pages log knows _ (c.in-Err-Told.is ∙ ap Err c.in-Err-Told.field-0-is) in
    let held = knows_still g before pages log knows in
    record {
      knows = rw c.forget_page.ensures (held.0, tt);
      next = rw (c.told.ensures c.read_stored.new.value) (StoredNext-told pages (reader_state c.args.self.now) _ (place_again c.args.self.now.geometry c.args.at.0) c.in-Err-Told.answer so);
    }

pub returns-in-Err-Memory-clause-gives : goal.returns-in-Err-Memory-clause-gives
returns-in-Err-Memory-clause-gives g c pages log knows =
    let before = (goal.at.returns-in-Err-Memory-clause-gives g c).After-read_stored in
    record { knows = knows_still g before pages log knows; next = tt }

pub returns-in-Err-Disk-clause-gives : goal.returns-in-Err-Disk-clause-gives
returns-in-Err-Disk-clause-gives g c pages log knows =
    let before = (goal.at.returns-in-Err-Disk-clause-gives g c).After-read_stored in
    record { knows = knows_still g before pages log knows; next = tt }

pub returns-in-Err-Told-clause-stored : goal.returns-in-Err-Told-clause-stored
returns-in-Err-Told-clause-stored g c = rw (c.told.ensures c.read_stored.new.value) (GivesStored-told c.in-Err-Told.answer)

pub invariant_of-self-in-Ok : goal.invariant_of-self-in-Ok
invariant_of-self-in-Ok g c =
    let self = c.args.self.now in
    let held = subst (λ (d : Option Buffers). AreFor self.geometry d) c.in-Some.is (c.set_up.ensures.fit self.fit) in
    record {
      valid = self.valid;
      on_way = (c.in-Ok.ensures.reachable.aligned, c.in-Ok.ensures.reachable.bounded);
      fit = c.in-Ok.ensures.reads_on.geometry ∙ held;
      ahead = tt;
    }
