-- Each call of the device only adds to what is read: who has the writer in hand writes a page as it
-- was loaded last, so each word that is read there is put again.
use Rattle.std.proofs.Common.{◌≡◌, inl, inr, ℕ, ◌+◌, ◌*◌, ◌%◌, ◌<◌, Bool, List, length, Option, Some, None, IfSome, refl, sym, ◌∙◌, subst, arith}
use Rattle.std.specs.Int.{w64, to_le_bytes}
use Rattle.byte_position.specs.Geometry.{IsSegmentSize, pages_of}
use Rattle.segment_disk.specs.Tape.{DiskState, Segment, page_as_read}
use Rattle.machine_state.specs.Views.{IsLoadedLast}
use Rattle.machine_state.specs.Steps.{IsPageLoaded}
use Rattle.machine_state.specs.Growing.{AddsTo, IsZeroOr}
use Rattle.machine_state.specs.Reading.{word_read}
use Rattle.machine_laws.proofs.LogReading.{creating, syncing, writing}
use Rattle.machine_laws.proofs.ReadingParts.{Puts}
use Rattle.machine_laws.proofs.WordsRead.{read_created, read_on_page, read_synced, read_written}

module _ (size : ℕ) (valid : IsSegmentSize size) (staged : List (ℕ × ℕ)) (state : DiskState) where
  pub puts_created : (segment : ℕ) (made done : Bool)
      → Puts size staged state (creating size segment made done)
  puts_created segment made done = record {
    adds = refl;
    turns = λ k. inl (read_created size valid state segment size made done k);
  }

  pub puts_synced : (segment : ℕ) (done : Bool)
      → Puts size staged state (syncing size segment done)
  puts_synced segment done = record {
    adds = tt;
    turns = λ k. inl (inr (read_synced size valid state segment size done k));
  }

  -- a page of the log is written as it was loaded last
  module _ (segment page number : ℕ) (bytes : List ℕ) (within : page < pages_of size)
      (number_is : segment * pages_of size + page ≡ number) (whole : length bytes ≡ 8192)
      (loaded : IsPageLoaded number bytes staged)
      (there : (s : Segment) → state segment ≡ Some s → s.pages ≡ pages_of size)
      (read : (k word : ℕ) → IsLoadedLast k word staged
      → IsZeroOr (to_le_bytes w64 word) (word_read size state k)) where
    adds_to : (s : Segment) → state segment ≡ Some s → AddsTo (page_as_read s page) bytes
    adds_to s is = record {
      whole = whole;
      words = λ n low.
          let l = loaded n low in
          let here = read_on_page size valid state segment page number within number_is s is
          (there s is) n low in
          subst (λ (x : List ℕ × List ℕ). IsZeroOr x.0 x.1) (λ j. (sym l.2 j, here j))
          (read (number * 1024 + n) l.0 l.1);
    }

    adds_here : (o : Option Segment) → state segment ≡ o
        → IfSome o (λ (s : Segment). AddsTo (page_as_read s page) bytes)
    adds_here None is = tt
    adds_here (Some s) is = adds_to s is

    pub puts_written : (done : Bool)
        → Puts size staged state (writing size segment page (record { bytes = bytes }) done)
    puts_written done = record {
      adds = adds_here (state segment) refl;
      turns = λ k. elim (read_written size valid state segment page number within number_is size
          (record { bytes = bytes }) done k) [
            | inl on ↦ (let l = loaded (k % 1024) (omega arith) in
                let k_is : number * 1024 + k % 1024 ≡ k = omega (arith, on.0) in inr (
                  l.0,
                  subst (λ (i : ℕ). IsLoadedLast i l.0 staged) k_is l.1,
                  on.1 ∙ l.2,
                ))
            | inr was ↦ inl (inr was)
          ];
    }
