-- The calls that write page by page are those of all pages.
use Rattle.std.proofs.Common.{◌≡◌, ℕ, suc, ◌+◌, ◌-◌, ◌*◌, ◌/◌, ◌<◌, ◌≤◌, Bool, eqb, List, [], ◌++◌, max, nat_lt, refl, sym, ap, ◌∙◌, subst, append_assoc, arith, if◌then◌else◌}
use Rattle.std.proofs.lemmas.List.{append-nil}
use Rattle.std.proofs.lemmas.Bool.{eq-eqb, le-ltb, lt-ltb, ne_eqb}
use Rattle.byte_position.specs.Geometry.{pages_of}
use Rattle.segment_disk.specs.declared.disk.Call.{Call}
use Rattle.flush_core.specs.Calls.{calls_of_pages, page_upto, pages_between, waiting_calls, waiting_behind}
use Rattle.machine_state.specs.Views.{Plain}
use Rattle.word_ring.specs.MadeCalls.{HasBrokenOff, HasCalled, calls_to_flush, calls_to_put_page, calls_to_write}
use Rattle.wal_log.specs.Writing.{BreaksWriting, WritesAll}
use Rattle.word_ring.proofs.CallLists.{called_none, called_on, broken_on, broken_before}

-- so many pages from the first on were put, with these bytes, each once: what is called for any
-- more of them comes behind
pub record HasPutPages (size known first page : ℕ) (old now : Plain) : Type 0 where
  pub count : ℕ
  pub at : page ≡ first + count
  pub bytes : ℕ → List ℕ
  pub calls : List Call
  pub called : HasCalled calls old now
  pub front : (more : ℕ) (whole : ℕ → List ℕ) → ((p : ℕ) → p < page → whole p ≡ bytes p)
      → calls_of_pages (count + more) size old.made old.waiting first known whole
      ≡ calls ++ calls_of_pages more size now.made now.waiting page known whole

none_more : (more : ℕ) → 0 + more ≡ more
none_more more = omega arith

pub none_put : (size known first : ℕ) (w : Plain) → HasPutPages size known first first w w
none_put size known first w = record {
  count = 0;
  at = omega arith;
  bytes = λ p. [];
  calls = [];
  called = called_none w;
  front = λ more whole same. ap
      (λ (n : ℕ). calls_of_pages n size w.made w.waiting first known whole)
      (none_more more);
}

-- the bytes of the pages so far, with one page more
abbrev pub one_page_more : ℕ → List ℕ → (ℕ → List ℕ) → ℕ → List ℕ
one_page_more page new bytes p = if eqb p page then new else bytes p

below_page : (page p : ℕ) (new : List ℕ) (bytes : ℕ → List ℕ) → p < page
    → one_page_more page new bytes p ≡ bytes p
below_page page p new bytes less = ap (λ (b : Bool). if b then new else bytes p)
    (ne_eqb p page (λ same. omega (arith, same, less)))

at_page : (page : ℕ) (new : List ℕ) (bytes : ℕ → List ℕ) → one_page_more page new bytes page ≡ new
at_page page new bytes = ap (λ (b : Bool). if b then new else bytes page) (eq-eqb page page refl)

module _ (size known first page : ℕ) (new : List ℕ) (old now put : Plain)
    (before : HasPutPages size known first page old now) where
  abbrev bytes : ℕ → List ℕ
  bytes = one_page_more page new before.bytes

  -- the calls of all pages are those so far, then those of this one, then the others
  all_calls : (more : ℕ) (whole : ℕ → List ℕ) → ((p : ℕ) → p < page + 1 → whole p ≡ bytes p)
      → calls_of_pages (before.count + 1 + more) size old.made old.waiting first known whole
      ≡ (before.calls ++ calls_to_put_page size known page new now)
      ++ calls_of_pages more size (max now.made (page / pages_of size))
      (waiting_behind size (page_upto known page)) (page + 1) known whole
  all_calls more whole same =
      let shift : before.count + 1 + more ≡ before.count + suc more = omega arith in
      let rest = calls_of_pages more size (max now.made (page / pages_of size))
      (waiting_behind size (page_upto known page)) (page + 1) known whole in
      ap (λ (n : ℕ). calls_of_pages n size old.made old.waiting first known whole) shift
      ∙ before.front (suc more) whole (λ p less. same p (omega (arith, less))
      ∙ below_page page p new before.bytes less)
      ∙ ap (λ (b : List ℕ). before.calls ++ (calls_to_put_page size known page b now ++ rest))
      (same page (omega arith) ∙ at_page page new before.bytes)
      ∙ sym (append_assoc before.calls (calls_to_put_page size known page new now) rest)

  pub one_put : HasCalled (calls_to_put_page size known page new now) now put
      → put.made ≡ max now.made (page / pages_of size)
      → put.waiting ≡ waiting_behind size (page_upto known page)
      → HasPutPages size known first (page + 1) old put
  one_put called made waits = record {
    count = before.count + 1;
    at = (let at = before.at in omega (arith, at));
    bytes = bytes;
    calls = before.calls ++ calls_to_put_page size known page new now;
    called = called_on before.calls (calls_to_put_page size known page new now) old now put
        before.called called;
    front = λ more whole same. all_calls more whole same
        ∙ ap (λ (m : ℕ). (before.calls ++ calls_to_put_page size known page new now)
        ++ calls_of_pages more size m (waiting_behind size (page_upto known page)) (page + 1) known
        whole) (sym made)
        ∙ ap (λ w. (before.calls ++ calls_to_put_page size known page new now)
        ++ calls_of_pages more size put.made w (page + 1) known whole) (sym waits);
  }

  -- a page was not put: the calls of all break off
  pub broke_in_page : (total : ℕ) → before.count + 1 ≤ total
      → HasBrokenOff (calls_to_put_page size known page new now) now put
      → HasBrokenOff (calls_of_pages total size old.made old.waiting first known bytes) old put
  broke_in_page total within broken =
      let more : before.count + 1 + (total - (before.count + 1)) ≡ total = omega (arith, within) in
      let first_calls = before.calls ++ calls_to_put_page size known page new now in
      let others = calls_of_pages (total - (before.count + 1)) size
      (max now.made (page / pages_of size)) (waiting_behind size (page_upto known page)) (page + 1)
      known bytes in
      subst (λ (l : List Call). HasBrokenOff l old put)
      (sym (all_calls (total - (before.count + 1)) bytes (λ p less. refl))
      ∙ ap (λ (n : ℕ). calls_of_pages n size old.made old.waiting first known bytes) more)
      (broken_before first_calls others old put
      (broken_on before.calls (calls_to_put_page size known page new now) old now put
      before.called broken))

-- all pages were put
pub all_put : (size known first page total : ℕ) (old now : Plain)
    → (before : HasPutPages size known first page old now) → before.count ≡ total
    → HasCalled (calls_of_pages total size old.made old.waiting first known before.bytes) old now
all_put size known first page total old now before done =
    let count : before.count + 0 ≡ total = omega (arith, done) in
    subst (λ (l : List Call). HasCalled l old now)
    (sym (append-nil before.calls)
    ∙ sym (before.front 0 before.bytes (λ p less. refl))
    ∙ ap (λ (n : ℕ). calls_of_pages n size old.made old.waiting first known before.bytes) count)
    before.called

-- ---- of a whole writing

-- how many pages there are, and what waits behind them
pub pages_left : (written known : ℕ) → written < known
    → pages_between written known ≡ (known + 8191) / 8192 - written / 8192
pages_left written known left =
    ap (λ (b : Bool). if b then (known + 8191) / 8192 - written / 8192 else 0)
    (lt-ltb written known left)

pub no_pages_left : (written known : ℕ) → known ≤ written → pages_between written known ≡ 0
no_pages_left written known over =
    ap (λ (b : Bool). if b then (known + 8191) / 8192 - written / 8192 else 0)
    (le-ltb written known over)

module _ (size known : ℕ) (old now : Plain) where
  -- nothing was to be written
  pub none_written : known ≤ old.written → now ≡ old → WritesAll size known old now
  none_written over same = record {
    bytes = λ p. [];
    called = subst (λ (w : Plain). HasCalled (calls_to_write size known (λ p. []) old) old w)
        (sym same) (subst (λ (l : List Call). HasCalled l old old)
        (sym (ap (λ (n : ℕ). calls_of_pages n size old.made old.waiting (old.written / 8192) known
        (λ p. [])) (no_pages_left old.written known over))) (called_none old));
    waiting = ap (λ (w : Plain). w.waiting) same
        ∙ sym (ap (λ (b : Bool). if b then waiting_behind size known else old.waiting)
        (le-ltb old.written known over));
  }

  module _ (page : ℕ) (left : old.written < known)
      (before : HasPutPages size known (old.written / 8192) page old now) where
    -- all was
    pub all_written : page * 8192 < known + 8192 → known ≤ page * 8192
        → now.waiting ≡ waiting_behind size known → WritesAll size known old now
    all_written begun over waits =
        let at = before.at in
        let total = pages_left old.written known left in
        let done : before.count ≡ pages_between old.written known =
        omega (arith, at, begun, over, total, left) in
        record {
          bytes = before.bytes;
          called = all_put size known (old.written / 8192) page (pages_between old.written known)
              old now before done;
          waiting = waits
              ∙ sym (ap (λ (b : Bool). if b then waiting_behind size known else old.waiting)
              (lt-ltb old.written known left));
        }

    -- it broke off in a page
    pub breaks_writing : (new : List ℕ) (put : Plain) → page * 8192 < known
        → HasBrokenOff (calls_to_put_page size known page new now) now put
        → BreaksWriting size known old put
    breaks_writing new put some broken =
        let at = before.at in
        let total = pages_left old.written known left in
        record {
          bytes = one_page_more page new before.bytes;
          broken = broke_in_page size known (old.written / 8192) page new old now put before
              (pages_between old.written known) (omega (arith, at, some, total, left)) broken;
        }

-- ---- of a flush

module _ (size known : ℕ) (w : Plain) where
  -- it broke off while pages were written
  pub flush_breaks : (bytes : ℕ → List ℕ) (now : Plain)
      → HasBrokenOff (calls_to_write size known bytes w) w now
      → HasBrokenOff (calls_to_flush size known bytes w) w now
  flush_breaks bytes now = broken_before (calls_to_write size known bytes w)
      (waiting_calls size (if nat_lt w.written known then waiting_behind size known else w.waiting))
      w now

  -- behind all of them one sync
  module _ (now synced : Plain) (wrote : WritesAll size known w now) where
    last_sync : waiting_calls size now.waiting ≡ waiting_calls size
        (if nat_lt w.written known then waiting_behind size known else w.waiting)
    last_sync = ap (λ o. waiting_calls size o) wrote.waiting

    pub flush_ends : HasCalled (waiting_calls size now.waiting) now synced
        → HasCalled (calls_to_flush size known wrote.bytes w) w synced
    flush_ends called = called_on (calls_to_write size known wrote.bytes w) _ w now synced
        wrote.called (subst (λ (l : List Call). HasCalled l now synced) last_sync called)

    pub flush_fails : HasBrokenOff (waiting_calls size now.waiting) now synced
        → HasBrokenOff (calls_to_flush size known wrote.bytes w) w synced
    flush_fails broken = broken_on (calls_to_write size known wrote.bytes w) _ w now synced
        wrote.called (subst (λ (l : List Call). HasBrokenOff l now synced) last_sync broken)
