-- Pages are written one behind another, and behind each it is stored how far the log is written.
use Rattle.std.proofs.Common.{◌≡◌, ℕ, ◌+◌, ◌*◌, ◌/◌, ◌<◌, ◌≤◌, List, max, sym, ap, ◌∙◌, subst, arith}
use Rattle.std.specs.Prelude.{Option}
use Rattle.segment_disk.specs.Tape.{Tape}
use Rattle.byte_position.specs.Geometry.{pages_of}
use Rattle.flush_core.specs.Calls.{page_upto, waiting_behind}
use Rattle.machine_state.specs.Views.{Plain, View}
use Rattle.wal_rule.specs.declared.seated.SeatedPass.{SeatedPass}
use Rattle.wal_rule.specs.SeatedPasses.{HasView, setup_of, view_of}
use Rattle.word_ring.specs.InHand.{ChangesHand, IsReady, known_copied, lent_in, writer_in}
use Rattle.word_ring.specs.MadeCalls.{HasCalled, calls_to_put_page}
use Rattle.word_ring.specs.Written.{IsPageWritten}
use Rattle.word_ring.proofs.HandLaws.{known_kept}
use Rattle.wal_log.specs.Downs.{KnowsNoFault}
use Rattle.wal_log.specs.Hands.{HasAllStored}
use Rattle.wal_log.specs.Standing.{AddsNothing, KeepsPass}
use Rattle.wal_log.specs.Writing.{WritesCopied, stored_view}
use Rattle.wal_log.proofs.AddingNothing.{adds_on, hand_changed, held_else}
use Rattle.wal_log.proofs.Keeping.{changes_up, further_pass, still_up}
use Rattle.wal_log.proofs.Seated.{view_is}
use Rattle.wal_log.proofs.WritingCalls.{HasPutPages, none_put, one_put}

-- all pages below one are written up to what is known, and stored as written
pub record HasWrittenTo {D : Type 0} (tape : D → Option Tape) (moment faults : D → ℕ)
    (known page : ℕ) (old now : SeatedPass D) : Type 0 where
  pub all : HasAllStored tape moment faults now
  pub adds : AddsNothing old now
  pub copied : known ≡ known_copied (view_of now)
  pub begun : page * 8192 < known
      → ((writer_in (view_of now)).written / 8192 ≡ page) × ((writer_in (view_of now)).written < known)
  pub full : known ≤ page * 8192 → known ≤ (writer_in (view_of now)).written
  pub behind : page * 8192 < known + 8192
  pub left : (writer_in (view_of old)).written < known
  pub put : HasPutPages (setup_of old).seg_size known ((writer_in (view_of old)).written / 8192)
      page (writer_in (view_of old)) (writer_in (view_of now))
  pub waits : known ≤ page * 8192
      → (writer_in (view_of now)).waiting ≡ waiting_behind (setup_of old).seg_size known

module _ {D : Type 0} (tape : D → Option Tape) (moment faults : D → ℕ) where
  -- behind a store
  module _ (old new : SeatedPass D) (ready : IsReady tape moment faults new)
      (view : HasView (stored_view (view_of old)) old new) where
    pub stored_up : KnowsNoFault (view_of old) → KnowsNoFault (view_of new)
    stored_up up = still_up (view_of old) _ (view_of new) (view_is view) up

    pub all_stored : KnowsNoFault (view_of old) → HasAllStored tape moment faults new
    all_stored up = record {
      ready = ready;
      stored = ap (λ (v : View). (lent_in v.writing.hold).stored) (view_is view)
          ∙ sym (ap (λ (v : View). (writer_in v).written) (view_is view));
      up = stored_up up;
    }

    pub store_adds : AddsNothing old new
    store_adds = held_else old new _ view.same_table (view_is view)

    pub store_keeps : (writer_in (view_of new)).written ≡ (writer_in (view_of old)).written
    store_keeps = ap (λ (v : View). (writer_in v).written) (view_is view)

    pub store_same : writer_in (view_of new) ≡ writer_in (view_of old)
    store_same = ap (λ (v : View). writer_in v) (view_is view)

    pub store_knows : known_copied (view_of new) ≡ known_copied (view_of old)
    store_knows = ap (λ (v : View). known_copied v) (view_is view)

  first_put : (known page : ℕ) (old new : SeatedPass D)
      → page ≡ (writer_in (view_of old)).written / 8192
      → writer_in (view_of new) ≡ writer_in (view_of old)
      → HasPutPages (setup_of old).seg_size known ((writer_in (view_of old)).written / 8192)
      page (writer_in (view_of old)) (writer_in (view_of new))
  first_put known page old new is same =
      let w = writer_in (view_of old) in
      subst (λ (x : Plain). HasPutPages (setup_of old).seg_size known (w.written / 8192) page w
      x) (sym same)
      (subst (λ (p : ℕ). HasPutPages (setup_of old).seg_size known (w.written / 8192) p w w)
      (sym is) (none_put (setup_of old).seg_size known (w.written / 8192) w))

  -- before the first page
  pub written_first : (known page : ℕ) (old new : SeatedPass D) → IsReady tape moment faults new
      → HasView (stored_view (view_of old)) old new → KnowsNoFault (view_of old)
      → known ≡ known_copied (view_of old) → page ≡ (writer_in (view_of old)).written / 8192
      → (writer_in (view_of old)).written < known
      → HasWrittenTo tape moment faults known page old new
  written_first known page old new ready view up copied is left =
      let same = store_keeps old new ready view in
      record {
        all = all_stored old new ready view up;
        adds = store_adds old new ready view;
        copied = copied ∙ sym (store_knows old new ready view);
        begun = λ some. (omega (arith, same, is), omega (arith, same, left));
        full = λ over. absurd (omega (arith, over, is, left));
        behind = omega (arith, is, left);
        left = left;
        put = first_put known page old new is (store_same old new ready view);
        waits = λ over. absurd (omega (arith, over, is, left));
      }

  -- one page more
  pub written_next : (size known page : ℕ) (bytes : List ℕ) (old now put new : SeatedPass D)
      → HasWrittenTo tape moment faults known page old now → page * 8192 < known
      → ChangesHand now put → size ≡ (setup_of old).seg_size
      → HasCalled (calls_to_put_page size known page bytes (writer_in (view_of now)))
      (writer_in (view_of now)) (writer_in (view_of put))
      → IsPageWritten size known (writer_in (view_of now)) (writer_in (view_of put))
      → IsReady tape moment faults new → HasView (stored_view (view_of put)) put new
      → HasWrittenTo tape moment faults known (page + 1) old new
  written_next size known page bytes old now put new before some changes own called wrote ready
      view =
      let first = writer_in (view_of old) in
      let w = writer_in (view_of now) in
      let same = store_keeps put new ready view in
      let here = (before.begun some).0 in
      let written = wrote.written in
      record {
        all = all_stored put new ready view (changes_up now put changes before.all.up);
        adds = adds_on old put new (adds_on old now put before.adds (hand_changed now put changes))
            (store_adds put new ready view);
        copied = before.copied ∙ sym (store_knows put new ready view ∙ known_kept now put changes);
        begun = λ more. (
          omega (arith, same, here, written, more),
          omega (arith, same, here, written, more),
        );
        full = λ over. omega (arith, same, here, written, over, some);
        behind = omega (arith, some);
        left = before.left;
        put = subst (λ (x : Plain). HasPutPages (setup_of old).seg_size known
            (first.written / 8192) (page + 1) first x) (sym (store_same put new ready view))
            (one_put (setup_of old).seg_size known (first.written / 8192) page bytes first w
            (writer_in (view_of put)) before.put
            (subst (λ (n : ℕ). HasCalled (calls_to_put_page n known page bytes w) w
            (writer_in (view_of put))) own called)
            (wrote.made ∙ ap (λ (p : ℕ). max w.made (p / pages_of size)) here
            ∙ ap (λ (n : ℕ). max w.made (page / pages_of n)) own)
            (wrote.waiting ∙ ap (λ (n : ℕ). waiting_behind size n)
            (written ∙ ap (λ (p : ℕ). page_upto known p) here)
            ∙ ap (λ (n : ℕ). waiting_behind n (page_upto known page)) own));
        waits = λ over.
            let all : (writer_in (view_of put)).written ≡ known =
            omega (arith, here, written, over, some) in
            ap (λ (x : Plain). x.waiting) (store_same put new ready view) ∙ wrote.waiting
            ∙ ap (λ (n : ℕ). waiting_behind size n) all
            ∙ ap (λ (n : ℕ). waiting_behind n known) own;
      }

  -- what was written behind steps that kept the pass
  pub written_since : (upto : ℕ) (old now : View) (p : SeatedPass D) → KeepsPass old now
      → WritesCopied tape moment faults upto now p → WritesCopied tape moment faults upto old p
  written_since upto old now p keeps wrote = record {
    bound = wrote.bound;
    asked = wrote.asked;
    since = further_pass old now wrote.asked keeps wrote.since;
    watched = wrote.watched;
    finished = wrote.finished;
    writing = wrote.writing;
    keeps = wrote.keeps;
    stored = wrote.stored;
    written = wrote.written;
    same_table = wrote.same_table;
    given_back = wrote.given_back;
  }
