use Rattle.std.proofs.Common.{◌≡◌, ℕ, Option, None, subst, ◌%◌, ◌/◌, ◌&&◌, true, false, eqb, Some, refl, sym, ap, ◌∙◌, arith}
use Rattle.std.proofs.lemmas.Bool.{and_right, eq-eqb, ne_eqb}
use Rattle.std.proofs.lemmas.Result.{err_from_is_err_and}
use Rattle.byte_position.specs.Position.{address_of}
use Rattle.byte_position.proofs.Words.{address_of-mod_word}
use Rattle.wal_page.specs.Page.{first_fault, is_continued}
use Rattle.wal_reader.specs.declared.page_cursor.PageCursor.{PageCursor}
use Rattle.wal_reader.specs.declared.found.Answer.{Answer}
use Rattle.wal_reader.specs.declared.found.DamageKind.TheVariants as kinds
use Rattle.wal_reader.specs.Decodes.{opening_fault, damaged, is_zero_word, opens_page, page_answers}
use Rattle.wal_reader.specs.Pages.{Pages}
use Rattle.wal_reader.specs.PageCursor.{Sees}
use Rattle.wal_reader.proofs.RecordStages.{opening_page_fails, opening_claims, opening_passes, gathers_none, opens_at}
use Rattle.wal_reader.proofs.record_start.open_page.Goals as goal
use Rattle.wal_reader.proofs.record_start.open_page.Goals.{After-check_held, else-opens-via-then-opens+else-is_zero_word, else-opens-via-else-opens, else-opens-2-via-then-opens-2+else-is_continued, else-opens-2-via-else-opens-2}

-- the page is there and held
there : (g : _) (c : After-check_held g) (pages : Pages) → Sees (g.D.Disk.tape c.args.disk.now) c.args.cache.now pages → pages (address_of c.load.new.self.geometry c.args.at.position / 8192) ≡ Some c.load.new.self.bytes.value
there g c pages sees =
    let loaded = (rw c.if-not-branch.false at (c.in_ok-load.ensures.loaded pages sees)).1 in
    rw (c.in_ok-load.ensures.reads_on.geometry, ← c.to_lsn-start.ensures) loaded

opens : (g : _) (c : After-check_held g) → opens_page c.load.new.self.geometry c.args.at.position ≡ eqb (c.to_lsn-start.result.0 % 8192) c.header_len.result
opens g c = opens_at c.load.new.self.geometry c.args.at.position c.to_lsn-start.result.0 c.header_len.result (c.to_lsn-start.ensures ∙ ap (λ size. address_of size c.args.at.position) (sym c.in_ok-load.ensures.reads_on.geometry)) c.header_len.ensures.value

-- the page does not begin with zeros where the record would start there
marked : (g : _) (c : After-check_held g) → (opens_page c.load.new.self.geometry c.args.at.position && is_zero_word c.load.new.self.bytes.value) ≡ false
marked g c =
    elim c.else-opens.branch [
      | else-opens-via-then-opens+else-is_zero_word w ↦ and_right _ _ (sym w.is_zero_word.ensures.value ∙ w.if-is_zero_word.false)
      | else-opens-via-else-opens w ↦ rw (opens g c, ne_eqb _ _ w.if-opens.false) refl
    ]

-- the page's number
numbered : (g : _) (c : After-check_held g) → c.to_lsn-start.result.0 / 8192 ≡ address_of c.load.new.self.geometry c.args.at.position / 8192
numbered g c = ap (λ (a : ℕ). a / 8192) (c.to_lsn-start.ensures ∙ ap (λ size. address_of size c.args.at.position) (sym c.in_ok-load.ensures.reads_on.geometry))

-- its checks, by that number
checks_of : (g : _) (c : After-check_held g) → Option Answer → Type 0
checks_of g c told = first_fault (page_answers c.load.new.self.geometry (address_of c.load.new.self.geometry c.args.at.position / 8192) c.load.new.self.bytes.value c.args.at.timeline) ≡ told

checks_at : (g : _) (c : After-check_held g) (told : Option Answer) → first_fault (page_answers c.load.new.self.geometry (c.to_lsn-start.result.0 / 8192) c.load.new.self.bytes.value c.args.at.timeline) ≡ told → checks_of g c told
unfolding checks_of
checks_at g c told e = subst (λ (page : ℕ). first_fault (page_answers c.load.new.self.geometry page c.load.new.self.bytes.value c.args.at.timeline) ≡ told) (numbered g c) e

fails : (g : _) (c : After-check_held g) (pages : Pages) → Sees (g.D.Disk.tape c.args.disk.now) c.args.cache.now pages → (answer : Answer) → checks_of g c (Some answer) → opening_fault c.args.cache.now.geometry c.args.at (pages (address_of c.args.cache.now.geometry c.args.at.position / 8192)) ≡ Some answer
unfolding checks_of
fails g c pages sees answer told = rw (← c.in_ok-load.ensures.reads_on.geometry) (opening_page_fails c.load.new.self.geometry c.args.at _ _ (there g c pages sees) (marked g c) answer told)

-- a page that is held is not read again, as `load` says it
unread : (g : _) (c : After-check_held g) → c.args.cache.now.number ≡ Some (address_of c.args.cache.now.geometry c.args.at.position / 8192) → (c.load.new.disk ≡ c.args.disk.now) × (c.load.new.self ≡ c.args.cache.now)
unread g c held = c.in_ok-load.ensures.unread (held ∙ ap (λ (a : ℕ). Some (a / 8192)) (sym c.to_lsn-start.ensures))

pub returns-in_err-info-clause-opens : goal.returns-in_err-info-clause-opens
returns-in_err-info-clause-opens g c =
    let before = (goal.at.returns-in_err-info-clause-opens g c).After-check_held in
    let stop = err_from_is_err_and c.from_residual-in_err-info.result c.from_residual-in_err-info.ensures.1 in
    record {
      cursor = rw stop.1 tt;
      place = rw stop.1 tt;
      passes = rw stop.1 tt;
      unread = unread g before;
      checks = λ pages sees. rw (stop.1, stop.2) (fails g before pages sees c.in_err-info.field-0.0 (checks_at g before (Some c.in_err-info.field-0.0) c.in_err-info.ensures.checks));
    }

claims : (g : _) (c : After-check_held g) (pages : Pages) → Sees (g.D.Disk.tape c.args.disk.now) c.args.cache.now pages → checks_of g c None → opens_page c.load.new.self.geometry c.args.at.position ≡ true → is_continued c.load.new.self.bytes.value ≡ true
    → opening_fault c.args.cache.now.geometry c.args.at (pages (address_of c.args.cache.now.geometry c.args.at.position / 8192)) ≡ Some (damaged c.to_lsn-start.result.0 kinds.Claims)
unfolding checks_of
claims g c pages sees told first continued = rw (c.to_lsn-start.ensures, ← c.in_ok-load.ensures.reads_on.geometry) (opening_claims c.load.new.self.geometry c.args.at _ _ (there g c pages sees) (marked g c) told first continued)

pub returns-then-is_continued-clause-opens : goal.returns-then-is_continued-clause-opens
returns-then-is_continued-clause-opens g c =
    let before = (goal.at.returns-then-is_continued-clause-opens g c).After-check_held in
    let first = opens g before ∙ eq-eqb _ _ c.if-opens-2.true in
    let continued = sym c.in_ok-info.ensures.continued ∙ sym c.is_continued.ensures ∙ c.if-is_continued.true in
    record {
      cursor = tt;
      place = tt;
      passes = tt;
      unread = unread g before;
      checks = λ pages sees. rw c.damaged.ensures (claims g before pages sees (checks_at g before None c.in_ok-info.ensures.checks) first continued);
    }

passes : (g : _) (c : After-check_held g) (pages : Pages) → Sees (g.D.Disk.tape c.args.disk.now) c.args.cache.now pages → checks_of g c None → (opens_page c.load.new.self.geometry c.args.at.position && is_continued c.load.new.self.bytes.value) ≡ false
    → opening_fault c.args.cache.now.geometry c.args.at (pages (address_of c.args.cache.now.geometry c.args.at.position / 8192)) ≡ None
unfolding checks_of
passes g c pages sees told last = rw (← c.in_ok-load.ensures.reads_on.geometry) (opening_passes c.load.new.self.geometry c.args.at _ _ (there g c pages sees) (marked g c) told last)

opens_here : (g : _) (c : After-check_held g) → checks_of g c None → (opens_page c.load.new.self.geometry c.args.at.position && is_continued c.load.new.self.bytes.value) ≡ false → opening_fault c.args.cache.now.geometry c.args.at (Some c.load.new.self.bytes.value) ≡ None
unfolding checks_of
opens_here g c told last = subst (λ (size : ℕ). opening_fault size c.args.at (Some c.load.new.self.bytes.value) ≡ None) c.in_ok-load.ensures.reads_on.geometry (opening_passes c.load.new.self.geometry c.args.at (Some c.load.new.self.bytes.value) c.load.new.self.bytes.value refl (marked g c) told last)

pub returns-clause-opens : goal.returns-clause-opens
returns-clause-opens g c =
    let before = (goal.at.returns-clause-opens g c).After-check_held in
    let last : (opens_page c.load.new.self.geometry c.args.at.position && is_continued c.load.new.self.bytes.value) ≡ false =
    elim c.else-opens-2.branch [
      | else-opens-2-via-then-opens-2+else-is_continued w ↦ and_right _ _ (sym c.in_ok-info.ensures.continued ∙ sym w.is_continued.ensures ∙ w.if-is_continued.false)
      | else-opens-2-via-else-opens-2 w ↦ rw (opens g before, ne_eqb _ _ w.if-opens-2.false) refl
    ] in
    let size = c.args.cache.now.geometry in
    let valid = rw c.in_ok-load.ensures.reads_on.geometry at c.header_len.ensures.valid in
    let cursor : PageCursor = record { page = c.to_lsn-start.result.0 / 8192; offset = c.to_lsn-start.result.0 % 8192; timeline = c.in_ok-info.info.timeline } in
    let held = rw c.if-not-branch.false at c.in_ok-load.ensures.held in
    let reach = rw c.if-not-branch.false at c.in_ok-load.ensures.reach in
    let page = ap (λ (a : ℕ). a / 8192) c.to_lsn-start.ensures in
    let word = address_of-mod_word c.args.cache.now.geometry valid c.args.at.position c.requires.reachable.aligned in
    record {
      cursor = ((held refl, sym c.in_ok-info.ensures.info.0), gathers_none size c.args.at.position cursor valid page (ap (λ (a : ℕ). a % 8192) c.to_lsn-start.ensures) (reach refl));
      place = (page, omega (arith, c.to_lsn-start.ensures));
      passes = opens_here g before (checks_at g before None c.in_ok-info.ensures.checks) last;
      unread = unread g before;
      checks = λ pages sees. passes g before pages sees (checks_at g before None c.in_ok-info.ensures.checks) last;
    }
