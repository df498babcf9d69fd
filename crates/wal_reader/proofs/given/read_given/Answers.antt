use Rattle.std.proofs.Common.{◌≡◌, ℕ, ◌/◌, ◌≤◌, ◌⊎◌, inl, inr, ◌∷◌, Option, Some, Result, Ok, Err, option_map, subst, sym, ap, ◌∙◌, arith}
use Rattle.std.proofs.lemmas.Bool.{cases_lt}
use Rattle.std.proofs.lemmas.Result.{err_from_is_err_and}
use Rattle.wal_types.specs.declared.lsn.Lsn.{Lsn}
use Rattle.wal_reader.specs.declared.found.FoundRecord.{FoundRecord}
use Rattle.wal_reader.specs.declared.record_place.RecordPlace.{RecordPlace}
use Rattle.wal_reader.specs.declared.page_cache.PageCache.{PageCache}
use Rattle.wal_reader.specs.declared.read_failure.ReadFailure.{ReadFailure}
use Rattle.byte_position.specs.Position.{address_of}
use Rattle.wal_reader.specs.Cache.{HoldsLastPage}
use Rattle.wal_reader.specs.ReadAt.{read_at}
use Rattle.wal_reader.specs.Pages.{Pages}
use Rattle.wal_reader.specs.RecordRead.{IsRead}
use Rattle.wal_reader.specs.Filled.{found_with}
use Rattle.wal_reader.specs.Spelled.{IsSpelledIn}
use Rattle.wal_reader.proofs.ReadAtLaws.{room_after_record}
use Rattle.wal_reader.specs.RecordPlace.{IsOutOfReach}
use Rattle.wal_reader.proofs.ReadsOnLaws.{reads_more}
use Rattle.wal_reader.proofs.GivesLaws.{GivesFrom-given, GivesFrom-passed, ComesNext-stopped}
use Rattle.wal_reader.proofs.given.read_given.Goals as goal

-- a place behind one in the last page that is read, which is held, is in that page too, or out of reach
last_or_out : (held : Option ℕ) (size : ℕ) (end : Option ℕ) (from at : ℕ) → HoldsLastPage held (address_of size from) → address_of size from ≤ address_of size at → HoldsLastPage held (address_of size at) ⊎ IsOutOfReach size end at
last_or_out held size end from at last rises = elim (cases_lt (address_of size from / 8192) (address_of size at / 8192)) [
  | inl above ↦ inr (inr (omega (arith, last.1)))
  | inr same ↦ (let one : address_of size from / 8192 ≡ address_of size at / 8192 = omega (arith, rises) in inl (last.0 ∙ ap Some one, omega (arith, last.1, one)))
]

-- what was read, of the log that the buffers was for
read_of : (size other : ℕ) (pages : Pages) (end : Option ℕ) (place : RecordPlace) (result : Result (FoundRecord × RecordPlace) ReadFailure) → size ≡ other → IsRead size pages place (read_at size pages end place) result → IsRead other pages place (read_at other pages end place) result
read_of size other pages end place result same read = subst (λ (n : ℕ). IsRead n pages place (read_at n pages end place) result) same read

-- the place from which nothing is read is that of the first turn
out_here : (size other : ℕ) (end : Option ℕ) (at from : RecordPlace) → size ≡ other → at ≡ from → IsOutOfReach other end from.position → IsOutOfReach size end at.position
out_here size other end at from same here out = rw (same, here) out

pub returns-in_err-found-clause-unread : goal.returns-in_err-found-clause-unread
returns-in_err-found-clause-unread g c out =
    let end = option_map (λ (e : Lsn). e.0) c.args.end in
    let first = c.records.invariant.unread out in
    let here = out_here c.records.buffers.cache.geometry c.args.buffers.now.cache.geometry end c.records.at c.args.from c.records.invariant.reads_on.geometry first.0 out in
    (c.in_err-found.ensures.unread here).0 ∙ first.1

pub returns-then-found-start-clause-unread : goal.returns-then-found-start-clause-unread
returns-then-found-start-clause-unread g c out =
    let end = option_map (λ (e : Lsn). e.0) c.args.end in
    let first = c.records.invariant.unread out in
    let here = out_here c.records.buffers.cache.geometry c.args.buffers.now.cache.geometry end c.records.at c.args.from c.records.invariant.reads_on.geometry first.0 out in
    absurd (c.in_ok-found.ensures.unread here).1

-- in the last page that is read nothing more is read
last_here : (size other : ℕ) (held number : Option ℕ) (at : ℕ) → size ≡ other → number ≡ held → HoldsLastPage held (address_of other at) → HoldsLastPage number (address_of size at)
last_here size other held number at same is last = rw (same, is) last

pub returns-in_err-found-clause-last_page : goal.returns-in_err-found-clause-last_page
returns-in_err-found-clause-last_page g c last =
    let end = option_map (λ (e : Lsn). e.0) c.args.end in
    let size = c.args.buffers.now.cache.geometry in
    let so_far = c.records.invariant.last_page last in
    elim (last_or_out c.args.buffers.now.cache.number size end c.args.from.position c.records.at.position last so_far.2) [
      | inl here ↦ (c.in_err-found.ensures.last_page (last_here c.records.buffers.cache.geometry size c.args.buffers.now.cache.number c.records.buffers.cache.number c.records.at.position c.records.invariant.reads_on.geometry (ap (λ (cache : PageCache). cache.number) so_far.1) here)).0 ∙ so_far.0
      | inr out ↦ (c.in_err-found.ensures.unread (subst (λ (n : ℕ). IsOutOfReach n end c.records.at.position) (sym c.records.invariant.reads_on.geometry) out)).0 ∙ so_far.0
    ]

pub returns-then-found-start-clause-last_page : goal.returns-then-found-start-clause-last_page
returns-then-found-start-clause-last_page g c last =
    let end = option_map (λ (e : Lsn). e.0) c.args.end in
    let size = c.args.buffers.now.cache.geometry in
    let so_far = c.records.invariant.last_page last in
    elim (last_or_out c.args.buffers.now.cache.number size end c.args.from.position c.records.at.position last so_far.2) [
      | inl here ↦ (c.in_ok-found.ensures.last_page (last_here c.records.buffers.cache.geometry size c.args.buffers.now.cache.number c.records.buffers.cache.number c.records.at.position c.records.invariant.reads_on.geometry (ap (λ (cache : PageCache). cache.number) so_far.1) here)).0 ∙ so_far.0
      | inr out ↦ absurd (c.in_ok-found.ensures.unread (subst (λ (n : ℕ). IsOutOfReach n end c.records.at.position) (sym c.records.invariant.reads_on.geometry) out)).1
    ]

pub returns-in_err-found-clause-gives : goal.returns-in_err-found-clause-gives
returns-in_err-found-clause-gives g c pages sees =
    let inv = c.records.invariant in
    let size = c.args.buffers.now.cache.geometry in
    let here = c.in_err-found.ensures.reads pages (inv.reads_on.sees pages sees) in
    let end = option_map (λ (e : Lsn). e.0) c.args.end in
    let exit = err_from_is_err_and c.from_residual.result c.from_residual.ensures.1 in
    let read = read_of c.records.buffers.cache.geometry size pages end c.records.at (Err c.in_err-found.field-0.0) inv.reads_on.geometry here.reads in
    record {
      next = rw (exit.1, exit.2) (ComesNext-stopped size pages c.args.start.0 end c.args.from c.records.at c.in_err-found.field-0.0 (inv.comes pages sees) read);
      spelled = rw exit.1 tt;
      room = room_after_record size c.records.buffers.cache.geometry pages c.records.at _ _ _ inv.reads_on.geometry (inv.room pages sees) here.room;
    }

pub returns-then-found-start-clause-gives : goal.returns-then-found-start-clause-gives
returns-then-found-start-clause-gives g c pages sees =
    let inv = c.records.invariant in
    let size = c.args.buffers.now.cache.geometry in
    let here = c.in_ok-found.ensures.reads pages (inv.reads_on.sees pages sees) in
    let end = option_map (λ (e : Lsn). e.0) c.args.end in
    let found = found_with (g.K.KeepsRecord.kept c.read_record.new.value) c.in_ok-found.found in
    let read = read_of c.records.buffers.cache.geometry size pages end c.records.at (Ok (found, c.in_ok-found.behind)) inv.reads_on.geometry here.reads in
    record {
      next = λ others answer rest. inv.comes pages sees (found ∷ others) answer (GivesFrom-given size pages c.args.start.0 end c.records.at found c.in_ok-found.behind read.0 read.1 others answer rest c.if-found-start.true);
      spelled = subst (λ (n : ℕ). IsSpelledIn n pages found) inv.reads_on.geometry here.spelled;
      room = room_after_record size c.records.buffers.cache.geometry pages c.records.at _ _ _ inv.reads_on.geometry (inv.room pages sees) here.room;
    }

pub returns-in_err-found-clause-reads_on : goal.returns-in_err-found-clause-reads_on
returns-in_err-found-clause-reads_on g c = reads_more c.records.invariant.reads_on c.in_err-found.ensures.reads_on

pub returns-then-found-start-clause-reads_on : goal.returns-then-found-start-clause-reads_on
returns-then-found-start-clause-reads_on g c = reads_more c.records.invariant.reads_on c.in_ok-found.ensures.reads_on

pub records-preserved : goal.records-preserved
records-preserved g c = record {
  reads_on = reads_more c.records.invariant.reads_on c.in_ok-found.ensures.reads_on;
  faults = c.in_ok-found.ensures.cause ∙ c.records.invariant.faults;
  reachable = c.in_ok-found.ensures.answered.further.1;
  ready = c.in_ok-found.ensures.ready;
  further = (let further = c.in_ok-found.ensures.answered.further.0 in
      omega arith);
  unread = λ out. (let first = c.records.invariant.unread out in
      let end = option_map (λ (e : Lsn). e.0) c.args.end in
      let here = out_here c.records.buffers.cache.geometry c.args.buffers.now.cache.geometry end c.records.at c.args.from c.records.invariant.reads_on.geometry first.0 out in
      absurd (c.in_ok-found.ensures.unread here).1);
  last_page = λ last. (let end = option_map (λ (e : Lsn). e.0) c.args.end in
      let size = c.args.buffers.now.cache.geometry in
      let so_far = c.records.invariant.last_page last in
      let rises = subst (λ (n : ℕ). address_of n c.records.at.position ≤ address_of n c.in_ok-found.behind.position) c.records.invariant.reads_on.geometry c.in_ok-found.ensures.rises in
      elim (last_or_out c.args.buffers.now.cache.number size end c.args.from.position c.records.at.position last so_far.2) [
        | inl here ↦
            (let now = c.in_ok-found.ensures.last_page (last_here c.records.buffers.cache.geometry size c.args.buffers.now.cache.number c.records.buffers.cache.number c.records.at.position c.records.invariant.reads_on.geometry (ap (λ (cache : PageCache). cache.number) so_far.1) here) in
            (now.0 ∙ so_far.0, now.1 ∙ so_far.1, omega (arith, rises, so_far.2)))
        | inr out ↦ absurd (c.in_ok-found.ensures.unread (subst (λ (n : ℕ). IsOutOfReach n end c.records.at.position) (sym c.records.invariant.reads_on.geometry) out)).1
      ]);
  room = λ pages sees. room_after_record c.args.buffers.now.cache.geometry c.records.buffers.cache.geometry pages c.records.at _ _ _ c.records.invariant.reads_on.geometry (c.records.invariant.room pages sees) (c.in_ok-found.ensures.reads pages (c.records.invariant.reads_on.sees pages sees)).room;
  comes = λ pages sees. (let here = c.in_ok-found.ensures.reads pages (c.records.invariant.reads_on.sees pages sees) in
      let end = option_map (λ (e : Lsn). e.0) c.args.end in
      let size = c.args.buffers.now.cache.geometry in
      let found = found_with (g.K.KeepsRecord.kept c.read_record.new.value) c.in_ok-found.found in
      let read = read_of c.records.buffers.cache.geometry size pages end c.records.at (Ok (found, c.in_ok-found.behind)) c.records.invariant.reads_on.geometry here.reads in
      λ others answer rest. c.records.invariant.comes pages sees others answer (GivesFrom-passed size pages c.args.start.0 end c.records.at found c.in_ok-found.behind read.0 read.1 others answer rest c.if-found-start.false));
}
