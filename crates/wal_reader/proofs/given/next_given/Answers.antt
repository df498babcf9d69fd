use Rattle.std.proofs.Common.{◌≡◌, ℕ, List, Some, None, Ok, option_map, refl, subst, ◌∙◌}
use Rattle.std.specs.Prelude.{IfOk}
use Rattle.wal_types.specs.declared.lsn.Lsn.{Lsn}
use Rattle.wal_reader.specs.PageCursor.{Sees}
use Rattle.wal_reader.specs.Decodes.{beginning}
use Rattle.wal_reader.specs.RecordRead.{IsRoomAfterStep}
use Rattle.wal_reader.specs.Filled.{read_with}
use Rattle.wal_reader.specs.Spelled.{IsSpelledIn}
use Rattle.wal_reader.specs.Steps.{ComesNext}
use Rattle.wal_reader.specs.Answered.{IsNextIn}
use Rattle.wal_reader.specs.ReadsOn.{ReadsOn}
use Rattle.wal_reader.proofs.ReadsOnLaws.{reads_more}
use Rattle.wal_reader.proofs.GivesLaws.{ComesNext-begun}
use Rattle.wal_reader.proofs.given.next_given.Goals as goal
use Rattle.wal_reader.proofs.given.next_given.Goals.{in-Some, in-None+in_ok-at-in-None}

pub returns-clause-reads_on : goal.returns-clause-reads_on
returns-clause-reads_on g c =
    elim c.match-from.branch [
      | in-Some w ↦ rw (← w.buffers-is, ← w.disk-is) c.read_given.ensures.reads_on
      | in-None+in_ok-at-in-None w ↦
          (let on : ReadsOn g.D.Disk.tape g.D.Disk.moment c.args.disk.now c.match-from.disk c.args.buffers.now.cache c.match-from.buffers.cache = rw (w.buffers-is, w.disk-is) w.in_ok-at-in-None.ensures.reads_on in
          reads_more on c.read_given.ensures.reads_on)
    ]

pub returns-clause-gives : goal.returns-clause-gives
returns-clause-gives g c pages sees =
    let size = c.args.buffers.now.cache.geometry in
    let start = c.args.start.0 in
    let end = option_map (λ (e : Lsn). e.0) c.args.end in
    let now = c.read_given.new.buffers.room.items in
    let result = read_with (g.K.KeepsRecord.kept c.read_given.new.value) c.read_given.result in
    elim c.match-from.branch [
      | in-Some w ↦
          (let here : Sees (g.D.Disk.tape c.match-from.disk) c.match-from.buffers.cache pages = rw (w.buffers-is, w.disk-is) sees in
          let same : IsNextIn size pages start end (Some c.match-from.at) c.args.buffers.now.room.items now result = rw (← w.buffers-is) (c.read_given.ensures.gives pages here) in
          rw (w.in-Some.is, ← w.at-is) same)
      | in-None+in_ok-at-in-None w ↦
          (let on : ReadsOn g.D.Disk.tape g.D.Disk.moment c.args.disk.now c.match-from.disk c.args.buffers.now.cache c.match-from.buffers.cache = rw (w.buffers-is, w.disk-is) w.in_ok-at-in-None.ensures.reads_on in
          let here = c.read_given.ensures.gives pages (on.sees pages sees) in
          let same : ComesNext size pages start end (Some c.match-from.at) result = subst (λ (n : ℕ). ComesNext n pages start end (Some c.match-from.at) result) on.geometry here.next in
          let begun : beginning size pages start ≡ Ok c.match-from.at = rw w.at-is (w.in_ok-at-in-None.ensures.begins pages sees) in
          let all : ComesNext size pages start end None result = ComesNext-begun size pages start end c.match-from.at result begun same in
          let room : c.match-from.buffers.room.items ≡ c.args.buffers.now.room.items = rw w.buffers-is refl in
          record {
            next = rw w.in-None.is all;
            spelled = subst (λ (n : ℕ). IfOk result (λ r. IsSpelledIn n pages r.0)) on.geometry here.spelled;
            room = subst (λ (items : List ℕ). IsRoomAfterStep size pages items now) room (subst (λ (n : ℕ). IsRoomAfterStep n pages c.match-from.buffers.room.items now) on.geometry here.room);
          })
    ]

pub returns-clause-unread : goal.returns-clause-unread
returns-clause-unread g c =
    elim c.match-from.branch [
      | in-Some w ↦ rw w.in-Some.is (λ out. c.read_given.ensures.unread (rw (w.buffers-is, w.at-is) out) ∙ w.disk-is)
      | in-None+in_ok-at-in-None w ↦ rw w.in-None.is tt
    ]

pub returns-clause-last_page : goal.returns-clause-last_page
returns-clause-last_page g c =
    elim c.match-from.branch [
      | in-Some w ↦ rw w.in-Some.is (λ last. c.read_given.ensures.last_page (rw (w.buffers-is, w.at-is) last) ∙ w.disk-is)
      | in-None+in_ok-at-in-None w ↦ rw w.in-None.is tt
    ]

pub read_given-requires-clause-ready : goal.read_given-requires-clause-ready
read_given-requires-clause-ready g c =
    elim c.match-from.branch [
      | in-Some w ↦ (let ready = rw w.in-Some.is at c.requires.ready in
          rw (w.buffers-is, w.at-is, w.ready-is) ready)
      | in-None+in_ok-at-in-None w ↦ rw w.ready-is tt
    ]
