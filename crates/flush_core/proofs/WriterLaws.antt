-- What a writer's calls leave of it.
use Rattle.std.proofs.Common.{◌≡◌, ℕ, ◌+◌, ◌-◌, ◌*◌, ◌/◌, ◌%◌, ◌^◌, ◌<◌, ◌≤◌, ◌⊎◌, inl, inr, max, nat_lt, Bool, true, false, not, List, [], ◌∷◌, length, Option, Some, None, IfSome, refl, sym, ap, subst, ◌∙◌, ◌==◌, arith}
use Rattle.std.proofs.lemmas.Option.{IfSome_then}
use Rattle.byte_position.specs.Geometry.{IsSegmentSize, pages_of}
use Rattle.wal_types.specs.declared.lsn.Lsn.{Lsn}
use Rattle.segment_disk.specs.declared.disk.Call.{Call}
use Rattle.segment_disk.specs.Tape.{DiskState, Tape, Fails, state_now, sync_call, with_call}
use Rattle.flush_core.specs.declared.writer.Writer.{Writer}
use Rattle.flush_core.specs.Calls.{store_calls, put_calls, harden_calls, with_calls}
use Rattle.flush_core.specs.Pages.{PutPages, with_page, HoldsPut}
use Rattle.flush_core.specs.Writer.{IsWriter, TellsFault}
use Rattle.flush_core.proofs.CallLaws.{holds-with_calls, breaks_off}
use Rattle.flush_core.proofs.PutLaws.{HoldsPut-put, HoldsPut-synced, ArePutUpto-put, put_covers, put_reaches}

-- the calls of a page's place are those that put it
pub put_calls_are : (size made page upto segment number : ℕ) (is_new is_full : Bool) (bytes : List ℕ) → segment ≡ page / pages_of size → number ≡ page % pages_of size → is_new ≡ nat_lt made segment → is_full ≡ (upto % size == 0)
    → store_calls size segment number is_new is_full bytes ≡ put_calls size made page upto bytes
put_calls_are size made page upto segment number is_new is_full bytes of_segment of_number new full = rw (full, new, of_segment, of_number) refl

module _ (D : Type 0) (tape : D → Option Tape) (old : Writer D) (disk : D) where
  -- a page was put
  pub IsWriter-put : (page : ℕ) (upto : Lsn) (bytes : List ℕ) (is_full : Bool) (made : ℕ) (stored : List Call) → IsSegmentSize old.geometry → page ≡ old.written.0 / 8192 → old.written.0 ≤ upto.0 → page * 8192 < upto.0 → upto.0 ≤ (page + 1) * 8192 → length bytes ≡ 8192
      → tape disk ≡ with_calls (tape old.disk) stored → stored ≡ put_calls old.geometry old.made page upto.0 bytes → is_full ≡ (upto.0 % old.geometry == 0) → made ≡ max old.made (page / pages_of old.geometry) → (pages : PutPages) → IsWriter tape old pages
      → IsWriter tape (record { disk = disk; geometry = old.geometry; written = upto; made = made; unsynced = not is_full; fault = old.fault }) (with_page pages page bytes)
  IsWriter-put page upto bytes is_full made stored valid at rises above below whole are_made are same makes pages is =
      let calls = put_calls old.geometry old.made page upto.0 bytes in
      let held = IfSome_then (tape old.disk) is.holds (λ t holds. HoldsPut-put old.geometry old.written.0 upto.0 page valid is.begun at above below old.made (state_now t) pages bytes old.unsynced is.made is.put holds) in
      let after = holds-with_calls (λ (s : DiskState). HoldsPut old.geometry upto.0 (max old.made (page / pages_of old.geometry)) (not (upto.0 % old.geometry == 0)) s (with_page pages page bytes)) (tape old.disk) calls held in
      record {
        up = is.up;
        begun = omega (arith, is.begun);
        reached = subst (λ (m : ℕ). upto.0 ≤ m * old.geometry + old.geometry) (sym makes) (put_reaches old.geometry old.written.0 upto.0 page valid is.begun at above below old.made);
        made = omega (arith, makes, put_covers old.geometry old.written.0 upto.0 page valid is.begun at above below old.made);
        put = ArePutUpto-put old.geometry old.written.0 upto.0 page valid is.begun at above below pages bytes is.put whole rises;
        holds = subst (λ (b : Bool). IfSome (tape disk) (λ t. HoldsPut old.geometry upto.0 made (not b) (state_now t) (with_page pages page bytes))) (sym same)
            (subst (λ (m : ℕ). IfSome (tape disk) (λ t. HoldsPut old.geometry upto.0 m (not (upto.0 % old.geometry == 0)) (state_now t) (with_page pages page bytes))) (sym makes)
            (subst (λ (o : Option Tape). IfSome o (λ t. HoldsPut old.geometry upto.0 (max old.made (page / pages_of old.geometry)) (not (upto.0 % old.geometry == 0)) (state_now t) (with_page pages page bytes))) (sym (are_made ∙ ap (with_calls (tape old.disk)) are)) after));
      }

  -- what waited for a sync was synced
  pub IsWriter-synced : old.unsynced ≡ true → tape disk ≡ with_call (tape old.disk) (sync_call old.geometry (old.written.0 / old.geometry)) → (pages : PutPages) → IsWriter tape old pages → IsWriter tape (record old { disk = disk; unsynced = false }) pages
  IsWriter-synced waits made pages is =
      let size = old.geometry in
      let written = old.written.0 in
      let held = IfSome_then (tape old.disk) is.holds (λ t holds. HoldsPut-synced size written old.made (state_now t) pages (subst (λ b. HoldsPut size written old.made b (state_now t) pages) waits holds)) in
      let after = holds-with_calls (λ (s : DiskState). HoldsPut size written old.made false s pages) (tape old.disk) (sync_call size (written / size) ∷ []) held in
      record {
        up = is.up;
        begun = is.begun;
        reached = is.reached;
        made = is.made;
        put = is.put;
        holds = subst (λ (o : Option Tape). IfSome o (λ t. HoldsPut size written old.made false (state_now t) pages)) (sym made) after;
      }

  -- the sync failed
  pub harden_failed : (moment faults : D → ℕ) (new : Writer D) (told : ℕ) → old.unsynced ≡ true → old.fault ≡ None
      → Fails (tape old.disk) (tape disk) (moment old.disk) (moment disk) (sync_call old.geometry (old.written.0 / old.geometry))
      → (faults disk ≡ faults old.disk + 1) ⊎ ((faults disk ≡ faults old.disk) × (faults disk ≡ 2 ^ 64 - 1)) → told ≡ faults disk → new ≡ record old { disk = disk; fault = Some told }
      → TellsFault tape moment faults old new told (harden_calls old.geometry old.written.0 old.unsynced)
  harden_failed moment faults new told waits was_up fails cause is_told kept =
      let call = sync_call old.geometry (old.written.0 / old.geometry) in
      let failed : Writer D = record old { disk = disk; fault = Some told } in
      subst (λ (w : Writer D). TellsFault tape moment faults old w told (harden_calls old.geometry old.written.0 old.unsynced)) (sym kept) (inl (record {
        was_up = was_up;
        is_down = refl;
        is_told = is_told;
        rose = elim cause [ inl more ↦ inl (omega arith) | inr last ↦ inr (is_told ∙ last.1) ];
        made = breaks_off (tape old.disk) (tape old.disk) (tape disk) (moment old.disk) (moment old.disk) (moment disk) [] call [] (harden_calls old.geometry old.written.0 old.unsynced) (ap (harden_calls old.geometry old.written.0) waits) refl (omega arith)
            fails;
      }))
