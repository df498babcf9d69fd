use Rattle.std.proofs.Common.{◌≡◌, ◌⊎◌, inl, inr, ℕ, List, [], ◌∷◌, Option, Some, Result, Ok, Err, option_map, subst, sym, ap, ◌∙◌}
use Rattle.wal_types.specs.declared.lsn.Lsn.{Lsn}
use Rattle.byte_position.specs.Position.{address_of}
use Rattle.wal_reader.specs.Cache.{HoldsLastPage}
use Rattle.wal_reader.specs.PageCursor.{IsLogOf, Sees}
use Rattle.wal_reader.specs.Pages.{Pages}
use Rattle.std.specs.Prelude.{IfOk}
use Rattle.wal_reader.specs.Buffers.{AreFor, HoldsPageOf, page_in, room_in}
use Rattle.wal_reader.specs.Filled.{found_with, read_with}
use Rattle.wal_reader.specs.LogReader.{Knows, NeedsNoPage, reader_page, reader_state, reader_room}
use Rattle.wal_reader.specs.RecordRead.{IsBehind}
use Rattle.wal_reader.specs.Answered.{IsNextIn}
use Rattle.wal_reader.specs.Spelled.{IsSpelledIn}
use Rattle.wal_reader.specs.RecordPlace.{IsOutOfReach}
use Rattle.wal_reader.specs.Steps.{ComesNext}
use Rattle.wal_reader.specs.declared.buffers.Buffers.{Buffers}
use Rattle.wal_reader.specs.declared.found.RecordHead.{RecordHead}
use Rattle.wal_reader.specs.declared.found.FoundRecord.{FoundRecord}
use Rattle.wal_reader.specs.declared.record_place.RecordPlace.{RecordPlace}
use Rattle.wal_reader.specs.declared.read_failure.ReadFailure.{ReadFailure}
use Rattle.wal_reader.specs.declared.read_failure.ReadFailure.TheVariants as failures
use Rattle.wal_reader.specs.declared.standing.Standing.{Standing}
use Rattle.wal_reader.specs.Ready.{IsReadyIn}
use Rattle.wal_reader.proofs.ReadyLaws.{ready_in}
use Rattle.wal_reader.proofs.LogReaderLaws.{standing_from, Gives-comes, IsNext-told, Leaves-told, OnEnd-told, SpelledIn-told, StandsAfter-told}
use Rattle.wal_reader.proofs.log_reader.Reader.next_into.Given.{Over}
use Rattle.wal_reader.proofs.log_reader.Reader.next_into.Goals as goal
use Rattle.wal_reader.proofs.log_reader.Reader.next_into.Goals.{After-next_given, in-NotBegun, in-At}

in_buffers : (g : Over) (c : After-next_given g) (pages : Pages) → Knows c.args.self.now pages → HoldsPageOf c.args.self.now.geometry (Some c.in-Some.buffers) pages
in_buffers g c pages knows = subst (λ (d : Option Buffers). HoldsPageOf c.args.self.now.geometry d pages) c.in-Some.is (c.set_up.ensures.holds pages knows)

-- the buffers are those of the reader's log
fit : (g : Over) (c : After-next_given g) → c.in-Some.buffers.cache.geometry ≡ c.args.self.now.geometry
fit g c = subst (λ (d : Option Buffers). AreFor c.args.self.now.geometry d) c.in-Some.is (c.set_up.ensures.fit c.args.self.now.fit)

-- and the room is that which the reader had
room_before : (g : Over) (c : After-next_given g) → c.in-Some.buffers.room.items ≡ reader_room c.args.self.now
room_before g c = subst (λ (d : Option Buffers). room_in d ≡ reader_room c.args.self.now) c.in-Some.is c.set_up.ensures.room

sees : (g : Over) (c : After-next_given g) (pages : Pages) → IsLogOf (g.D.Disk.tape c.args.disk.now) c.args.self.now.geometry pages → Knows c.args.self.now pages → Sees (g.D.Disk.tape c.args.disk.now) c.in-Some.buffers.cache pages
sees g c pages log knows =
    let held = in_buffers g c pages knows in
    record { log = subst (λ (n : ℕ). IsLogOf (g.D.Disk.tape c.args.disk.now) n pages) (sym held.0) log; held = held.1 }

knows_still : (g : Over) (c : After-next_given g) (pages : Pages) → IsLogOf (g.D.Disk.tape c.args.disk.now) c.args.self.now.geometry pages → Knows c.args.self.now pages → HoldsPageOf c.args.self.now.geometry (Some c.next_given.new.buffers) pages
knows_still g c pages log knows =
    let on = c.next_given.ensures.reads_on in
    (on.geometry ∙ (in_buffers g c pages knows).0, (on.sees pages (sees g c pages log knows)).held)

-- what next_given answers, of the reader's log and its room
here : (g : Over) (c : After-next_given g) (pages : Pages) → IsLogOf (g.D.Disk.tape c.args.disk.now) c.args.self.now.geometry pages → Knows c.args.self.now pages
    → IsNextIn c.args.self.now.geometry pages c.args.self.now.start.0 (option_map (λ (e : Lsn). e.0) c.args.self.now.end) c.match-self.from (reader_room c.args.self.now) c.next_given.new.buffers.room.items (read_with (g.K.KeepsRecord.kept c.next_given.new.value) c.next_given.result)
here g c pages log knows =
    let next = c.next_given.ensures.gives pages (sees g c pages log knows) in
    let size : ℕ → List ℕ → Type 0 = λ n room. IsNextIn n pages c.args.self.now.start.0 (option_map (λ (e : Lsn). e.0) c.args.self.now.end) c.match-self.from room c.next_given.new.buffers.room.items (read_with (g.K.KeepsRecord.kept c.next_given.new.value) c.next_given.result) in
    subst (size c.args.self.now.geometry) (room_before g c) (subst (λ (n : ℕ). size n c.in-Some.buffers.room.items) (fit g c) next)

stands : (g : Over) (c : After-next_given g) → c.args.self.now.standing ≡ standing_from c.match-self.from
stands g c =
    elim c.match-self.branch [
      | in-NotBegun w ↦ w.in-NotBegun.is ∙ ap standing_from (sym w.from-is)
      | in-At w ↦ w.in-At.is ∙ ap standing_from (sym w.from-is)
    ]

pub next_given-requires-clause-ready : goal.next_given-requires-clause-ready
next_given-requires-clause-ready g c =
    let self = c.args.self.now in
    elim c.match-self.branch [
      | in-NotBegun w ↦ rw w.from-is tt
      | in-At w ↦ (let here = subst (λ (standing : Standing). IsReadyIn standing self.buffers self.ready) w.in-At.is self.ahead in
          rw w.from-is (ready_in w.in-At.at self.buffers c.in-Some.buffers c.set_up.new.buffers self.ready here c.set_up.ensures.same c.in-Some.is))
    ]

pub returns-in-Ok-clause-gives : goal.returns-in-Ok-clause-gives
returns-in-Ok-clause-gives g c pages log knows =
    let before = (goal.at.returns-in-Ok-clause-gives g c).After-next_given in
    let self = c.args.self.now in
    let end = option_map (λ (e : Lsn). e.0) self.end in
    let got = here g before pages log knows in
    let value = g.K.KeepsRecord.kept c.next_given.new.value in
    let found = found_with value c.in-Ok.head in
    let next : ComesNext self.geometry pages self.start.0 end c.match-self.from (Ok (found, c.in-Ok.behind)) = subst (λ (r : Result (RecordHead × RecordPlace) ReadFailure). ComesNext self.geometry pages self.start.0 end c.match-self.from (read_with value r)) c.in-Ok.is got.next in
    record {
      knows = knows_still g before pages log knows;
      next = λ others answer rest. Gives-comes pages (reader_state self) c.match-self.from (found ∷ others) answer (stands g before) (next others answer rest);
      spelled = subst (λ (r : Result (RecordHead × RecordPlace) ReadFailure). IfOk (read_with value r) (λ read. IsSpelledIn self.geometry pages read.0)) c.in-Ok.is got.spelled;
      room = got.room;
    }

pub returns-in-Ok-clause-behind : goal.returns-in-Ok-clause-behind
returns-in-Ok-clause-behind g c =
    let before = (goal.at.returns-in-Ok-clause-behind g c).After-next_given in
    subst (λ (n : ℕ). IsBehind n (found_with (g.K.KeepsRecord.kept c.next_given.new.value) c.in-Ok.head) c.in-Ok.behind) (fit g before) c.in-Ok.ensures.answered.behind

pub returns-in-Err-Told-clause-gives : goal.returns-in-Err-Told-clause-gives
returns-in-Err-Told-clause-gives g c pages log knows =
    let before = (goal.at.returns-in-Err-Told-clause-gives g c).After-next_given in
    let self = c.args.self.now in
    let end = option_map (λ (e : Lsn). e.0) self.end in
    let got = here g before pages log knows in
    let said : Result (FoundRecord × RecordPlace) ReadFailure = Err (failures.Told c.in-Err-Told.answer) in
    let next : ComesNext self.geometry pages self.start.0 end c.match-self.from said = subst (λ (r : Result (RecordHead × RecordPlace) ReadFailure). ComesNext self.geometry pages self.start.0 end c.match-self.from (read_with (g.K.KeepsRecord.kept c.next_given.new.value) r)) (c.in-Err-Told.is ∙ ap Err c.in-Err-Told.field-0-is) got.next in
    let gives = Gives-comes pages (reader_state self) c.match-self.from [] c.in-Err-Told.answer (stands g before) next in
    let held = knows_still g before pages log knows in
    record {
      knows = rw c.forget_page.ensures (held.0, tt);
      next = rw (c.told.ensures (g.K.KeepsRecord.kept c.next_given.new.value)) (IsNext-told pages (reader_state self) _ c.in-Err-Told.answer gives);
      spelled = rw (c.told.ensures (g.K.KeepsRecord.kept c.next_given.new.value)) (SpelledIn-told self.geometry pages c.in-Err-Told.answer);
      room = rw c.forget_page.ensures got.room;
    }

-- a step that meets a trouble says nothing of what comes next
pub returns-in-Err-Memory-clause-gives : goal.returns-in-Err-Memory-clause-gives
returns-in-Err-Memory-clause-gives g c pages log knows =
    let before = (goal.at.returns-in-Err-Memory-clause-gives g c).After-next_given in
    record { knows = knows_still g before pages log knows; next = tt; spelled = tt; room = (here g before pages log knows).room }

pub returns-in-Err-Disk-clause-gives : goal.returns-in-Err-Disk-clause-gives
returns-in-Err-Disk-clause-gives g c pages log knows =
    let before = (goal.at.returns-in-Err-Disk-clause-gives g c).After-next_given in
    record { knows = knows_still g before pages log knows; next = tt; spelled = tt; room = (here g before pages log knows).room }

pub returns-in-Err-Told-clause-forgets : goal.returns-in-Err-Told-clause-forgets
returns-in-Err-Told-clause-forgets g c =
    let before = (goal.at.returns-in-Err-Told-clause-forgets g c).After-next_given in
    let geometry = c.next_given.ensures.reads_on.geometry ∙ fit g before in
    rw (c.told.ensures (g.K.KeepsRecord.kept c.next_given.new.value)) (OnEnd-told c.in-Err-Told.answer _ (λ others. rw c.forget_page.ensures (geometry, tt)))

pub returns-in-Err-Told-clause-behind : goal.returns-in-Err-Told-clause-behind
returns-in-Err-Told-clause-behind g c =
    rw (c.told.ensures (g.K.KeepsRecord.kept c.next_given.new.value)) (StandsAfter-told c.args.self.now.geometry _ c.in-Err-Told.answer)

pub returns-in-Err-Told-clause-leaves : goal.returns-in-Err-Told-clause-leaves
returns-in-Err-Told-clause-leaves g c =
    rw (c.after-self.ensures, c.told.ensures (g.K.KeepsRecord.kept c.next_given.new.value)) (Leaves-told (reader_state c.args.self.now) c.in-Err-Told.answer)

-- and the page is the one that the reader held
page_before : (g : Over) (c : After-next_given g) → c.in-Some.buffers.cache.number ≡ reader_page c.args.self.now
page_before g c = subst (λ (d : Option Buffers). page_in d ≡ reader_page c.args.self.now) c.in-Some.is c.set_up.ensures.held

-- where nothing is read the disk is left alone
left_alone : (g : Over) (c : After-next_given g) → NeedsNoPage (reader_state c.args.self.now) (reader_page c.args.self.now) c.args.self.now.standing → c.next_given.new.disk ≡ c.args.disk.now
left_alone g c needs =
    elim c.match-self.branch [
      | in-NotBegun w ↦ c.next_given.ensures.unbegun w.from-is (rw w.in-NotBegun.is at needs)
      | in-At w ↦
          (let needs_none : IsOutOfReach c.args.self.now.geometry (option_map (λ (e : Lsn). e.0) c.args.self.now.end) w.in-At.at.position ⊎ HoldsLastPage (reader_page c.args.self.now) (address_of c.args.self.now.geometry w.in-At.at.position) = rw w.in-At.is at needs in
          let unread = rw w.from-is at c.next_given.ensures.unread in
          let last_page = rw w.from-is at c.next_given.ensures.last_page in
          elim needs_none [
            | inl out ↦ unread (rw (fit g c) out)
            | inr last ↦ last_page (rw (fit g c, page_before g c) last)
          ])
    ]

pub returns-in-Ok-clause-unread : goal.returns-in-Ok-clause-unread
returns-in-Ok-clause-unread g c = left_alone g (goal.at.returns-in-Ok-clause-unread g c).After-next_given

pub returns-in-Err-Told-clause-unread : goal.returns-in-Err-Told-clause-unread
returns-in-Err-Told-clause-unread g c = left_alone g (goal.at.returns-in-Err-Told-clause-unread g c).After-next_given

pub returns-in-Err-Memory-clause-unread : goal.returns-in-Err-Memory-clause-unread
returns-in-Err-Memory-clause-unread g c = left_alone g (goal.at.returns-in-Err-Memory-clause-unread g c).After-next_given

pub returns-in-Err-Disk-clause-unread : goal.returns-in-Err-Disk-clause-unread
returns-in-Err-Disk-clause-unread g c = left_alone g (goal.at.returns-in-Err-Disk-clause-unread g c).After-next_given
