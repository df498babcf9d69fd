-- What every part rests on behind a change of one of them, or of the words.
use Rattle.std.proofs.Common.{◌≡◌, ◌≢◌, ℕ, ◌<◌, ◌≤◌, All, List, [], ◌∷◌, ◌++◌, length, set, refl, sym, ◌∙◌, subst, arith}
use Rattle.std.proofs.lemmas.List.Elements.{All-append, All-cons, All-nil}
use Rattle.wal_page.specs.Order.{Entry, finish_of}
use Rattle.machine_state.specs.Words.{Opening}
use Rattle.machine_state.specs.Views.{HasAt, FlushPromise, Joined, Plain}
use Rattle.machine_state.proofs.Lists.{one_added, one_set}
use Rattle.machine_laws.specs.RisingMoments.{LogsRise, Promised, PromisesRise, NextRises, RisesForEach, RisesHold, with_opening}
use Rattle.machine_laws.proofs.MomentRises.{next_first, next_grown, next_later, next_told, next_weaker, promises_first, promises_grown, promises_told}

-- ---- parts that change

-- a promise more
abbrev pub with_promise : ℕ → ℕ → Promised → Promised
with_promise upto moment x = record x {
  promises = x.promises
      ++ (record { upto = upto; moment = moment; entries = length x.entries }) ∷ [];
}

-- an entry more
abbrev pub with_entry : Entry → Promised → Promised
with_entry e x = record x { entries = x.entries ++ e ∷ [] }

-- this was stored, or is forgotten
abbrev pub with_hard : ℕ → ℕ → Promised → Promised
with_hard hard moment x = record x { hard = hard; hard_moment = moment }

-- another pass and what it took in
abbrev pub with_joined : Joined → List Joined → Promised → Promised
with_joined j js x = record x { joined = x.joined ++ j ∷ js }

-- a pass that was told nothing
abbrev pub nothing_told : Promised
nothing_told = record { entries = []; promises = []; joined = []; hard = 0; hard_moment = 0 }

module _ (opening : Opening) where
  abbrev Next : Promised → ℕ → ℕ → Type 0
  Next x upto moment = NextRises opening x.entries x.promises upto moment

  abbrev JoinedRise : List Joined → Type 0
  JoinedRise js = All (λ (j : Joined). PromisesRise opening j.entries j.promises) js

  module _ (flushed moment : ℕ) (writer : Plain) (parts : List Promised) where
    -- what is said of one part among these, but for what it has stored
    pub record FitsIn (x : Promised) : Type 0 where
      pub in_order : LogsRise opening x
      pub of_flushed : Next x flushed moment
      pub of_written : Next x writer.written writer.moment
      pub of_hard : (id : ℕ) (y : Promised) → HasAt parts id y → y.hard ≢ 0 → Next x y.hard moment

    -- what a part has stored may be promised, to the others and to it
    abbrev pub HasStored : Promised → Type 0
    HasStored x = x.hard ≢ 0
        → (x.hard_moment ≡ moment) × RisesForEach opening parts x.hard moment
        × Next x x.hard moment

  module _ (flushed moment : ℕ) (writer : Plain) (parts : List Promised)
      (k : RisesHold opening flushed moment writer parts) where
    abbrev Fits : Promised → Type 0
    Fits x = FitsIn flushed moment writer parts x

    pub fits_at : (id : ℕ) (x : Promised) → HasAt parts id x → Fits x
    fits_at id x here = record {
      in_order = k.in_order id x here;
      of_flushed = k.of_flushed id x here;
      of_written = k.of_written id x here;
      of_hard = λ j y at some_stored. (k.of_hard j y at some_stored).1 id x here;
    }

    -- what a part stored, where that is what one of these parts stored
    pub has_stored : (id : ℕ) (x y : Promised) → HasAt parts id x → Fits y → y.hard ≡ x.hard
        → y.hard_moment ≡ x.hard_moment → HasStored flushed moment writer parts y
    has_stored id x y here fits same same_moment some_stored =
        let stored : x.hard ≢ 0 = λ none. some_stored (same ∙ none) in
        let had = k.of_hard id x here stored in (
          same_moment ∙ had.0,
          subst (λ (n : ℕ). RisesForEach opening parts n moment) (sym same) had.1,
          subst (λ (n : ℕ). Next y n moment) (sym same) (fits.of_hard id x here stored),
        )

    -- one part in the place of another one
    pub replaced : (id : ℕ) (y : Promised) → Fits y → HasStored flushed moment writer parts y
        → RisesHold opening flushed moment writer (set parts id y)
    replaced id y fits stored = record {
      in_order = one_set (λ _ x. LogsRise opening x) parts id y
          (λ j x apart at. k.in_order j x at) fits.in_order;
      of_flushed = one_set (λ _ x. Next x flushed moment) parts id y
          (λ j x apart at. k.of_flushed j x at) fits.of_flushed;
      of_written = one_set (λ _ x. Next x writer.written writer.moment) parts id y
          (λ j x apart at. k.of_written j x at) fits.of_written;
      of_hard = one_set (λ _ x. x.hard ≢ 0 → (x.hard_moment ≡ moment)
          × RisesForEach opening (set parts id y) x.hard moment) parts id y
          (λ j x apart at some_stored. (
            (k.of_hard j x at some_stored).0,
            one_set (λ _ z. Next z x.hard moment) parts id y
                (λ i z away there. (k.of_hard j x at some_stored).1 i z there)
                (fits.of_hard j x at some_stored),
          ))
          (λ some_stored. (
            (stored some_stored).0,
            one_set (λ _ z. Next z y.hard moment) parts id y
                (λ i z away there. ((stored some_stored).1) i z there) (stored some_stored).2,
          ));
    }

    pub added : (y : Promised) → Fits y → HasStored flushed moment writer parts y
        → RisesHold opening flushed moment writer (parts ++ y ∷ [])
    added y fits stored = record {
      in_order = one_added (λ _ x. LogsRise opening x) parts y k.in_order fits.in_order;
      of_flushed = one_added (λ _ x. Next x flushed moment) parts y k.of_flushed fits.of_flushed;
      of_written = one_added (λ _ x. Next x writer.written writer.moment) parts y k.of_written
          fits.of_written;
      of_hard = one_added (λ _ x. x.hard ≢ 0 → (x.hard_moment ≡ moment)
          × RisesForEach opening (parts ++ y ∷ []) x.hard moment) parts y
          (λ j x at some_stored. (
            (k.of_hard j x at some_stored).0,
            one_added (λ _ z. Next z x.hard moment) parts y (k.of_hard j x at some_stored).1
                (fits.of_hard j x at some_stored),
          ))
          (λ some_stored. (
            (stored some_stored).0,
            one_added (λ _ z. Next z y.hard moment) parts y (stored some_stored).1
                (stored some_stored).2,
          ));
    }

    -- ---- the parts that a step leaves

    -- a part is told what may be promised next
    pub tells : (id : ℕ) (x : Promised) → HasAt parts id x → (upto since : ℕ)
        → Next x upto since → since ≤ moment → moment ≤ writer.moment
        → RisesHold opening flushed moment writer (set parts id (with_promise upto since x))
    tells id x here upto since next late later =
        let had = fits_at id x here in
        let fits : Fits (with_promise upto since x) = record {
          in_order = record {
            own = promises_told opening x.entries x.promises upto since next (had.in_order).own;
            joined = (had.in_order).joined;
          };
          of_flushed = next_told opening x.entries x.promises flushed moment upto since late
              had.of_flushed;
          of_written = next_told opening x.entries x.promises writer.written writer.moment upto
              since (omega arith) had.of_written;
          of_hard = λ j y at some_stored. next_told opening x.entries x.promises y.hard moment upto
              since late (had.of_hard j y at some_stored);
        } in
        replaced id (with_promise upto since x) fits
        (has_stored id x (with_promise upto since x) here fits refl refl)

    -- a part has an entry more, which ends above all that is written, and all that was promised
    pub grows : (id : ℕ) (x : Promised) → HasAt parts id x → (e : Entry)
        → flushed ≤ writer.written → writer.written < finish_of (opening.setup).seg_size e
        → ((j : ℕ) (y : Promised) → HasAt parts j y → y.hard ≤ writer.written)
        → All (λ (p : FlushPromise). p.upto ≤ flushed) (with_opening opening x.promises)
        → RisesHold opening flushed moment writer (set parts id (with_entry e x))
    grows id x here e low above hard_low told_low =
        let had = fits_at id x here in
        let fits : Fits (with_entry e x) = record {
          in_order = record {
            own = promises_grown opening x.entries x.promises e
                (λ i d within. let told = told_low i d within in omega arith) (had.in_order).own;
            joined = (had.in_order).joined;
          };
          of_flushed = next_grown opening x.entries x.promises flushed moment e (omega arith)
              had.of_flushed;
          of_written = next_grown opening x.entries x.promises writer.written writer.moment e above
              had.of_written;
          of_hard = λ j y at some_stored. next_grown opening x.entries x.promises y.hard moment e
              (let y_low = hard_low j y at in omega arith) (had.of_hard j y at some_stored);
        } in
        replaced id (with_entry e x) fits (has_stored id x (with_entry e x) here fits refl refl)

    -- a part forgets what it stored
    pub forgets : (id : ℕ) (x : Promised) → HasAt parts id x
        → RisesHold opening flushed moment writer (set parts id (with_hard 0 0 x))
    forgets id x here =
        let had = fits_at id x here in
        replaced id (with_hard 0 0 x) (record {
          in_order = record { own = (had.in_order).own; joined = (had.in_order).joined };
          of_flushed = had.of_flushed;
          of_written = had.of_written;
          of_hard = had.of_hard;
        }) (λ some_stored. absurd (some_stored refl))

    -- a part that was told nothing
    fits_nothing : opening.moment ≤ moment → moment ≤ writer.moment → Fits nothing_told
    fits_nothing begun late = record {
      in_order = record {
        own = promises_first opening;
        joined = All-nil (λ (j : Joined). PromisesRise opening j.entries j.promises);
      };
      of_flushed = next_first opening flushed moment begun;
      of_written = next_first opening writer.written writer.moment (omega arith);
      of_hard = λ j y at some_stored. next_first opening y.hard moment begun;
    }

    pub begins : opening.moment ≤ moment → moment ≤ writer.moment
        → RisesHold opening flushed moment writer (parts ++ nothing_told ∷ [])
    begins begun late =
        added nothing_told (fits_nothing begun late) (λ some_stored. absurd (some_stored refl))

    pub ends : (id : ℕ) → opening.moment ≤ moment → moment ≤ writer.moment
        → RisesHold opening flushed moment writer (set parts id nothing_told)
    ends id begun late = replaced id nothing_told (fits_nothing begun late)
        (λ some_stored. absurd (some_stored refl))

    -- a part takes another one in
    pub takes_in : (id : ℕ) (x : Promised) → HasAt parts id x → (j : Joined) (js : List Joined)
        → PromisesRise opening j.entries j.promises → JoinedRise js
        → RisesHold opening flushed moment writer (set parts id (with_joined j js x))
    takes_in id x here j js rises rise =
        let had = fits_at id x here in
        let P : Joined → Type 0 = λ i. PromisesRise opening i.entries i.promises in
        let fits : Fits (with_joined j js x) = record {
          in_order = record {
            own = (had.in_order).own;
            joined = All-append P x.joined (j ∷ js) (had.in_order).joined
                (All-cons P j js rises rise);
          };
          of_flushed = had.of_flushed;
          of_written = had.of_written;
          of_hard = had.of_hard;
        } in
        replaced id (with_joined j js x) fits
        (has_stored id x (with_joined j js x) here fits refl refl)

    -- ---- the words and the writer

    with_writer : (other : Plain) → RisesForEach opening parts other.written other.moment
        → RisesHold opening flushed moment other parts
    with_writer other next = record {
      in_order = k.in_order;
      of_flushed = k.of_flushed;
      of_written = next;
      of_hard = k.of_hard;
    }

    -- a call that writes nothing
    pub calls : (other : Plain) → other.written ≡ writer.written → writer.moment ≤ other.moment
        → RisesHold opening flushed moment other parts
    calls other same late = with_writer other (λ id x here. next_weaker opening x.entries
        x.promises writer.written other.written writer.moment other.moment (omega arith) late
        (k.of_written id x here))

    -- a write is a call, so the moment behind it is a later one
    pub writes : (other : Plain) → writer.moment < other.moment
        → RisesHold opening flushed moment other parts
    writes other late = with_writer other (λ id x here. next_later opening x.entries x.promises
        writer.written other.written writer.moment other.moment late (k.of_written id x here))

    -- the one with the writer in hand stores its moment, behind which all that is written is durable
    pub stores_moment : (id : ℕ) (x : Promised) → HasAt parts id x → moment ≤ writer.moment
        → ((j : ℕ) (y : Promised) → j ≢ id → HasAt parts j y → y.hard ≡ 0)
        → RisesHold opening flushed writer.moment writer
        (set parts id (with_hard writer.written writer.moment x))
    stores_moment id x here late alone =
        let y : Promised = with_hard writer.written writer.moment x in
        let later : RisesForEach opening parts flushed writer.moment =
        λ j z at. next_weaker opening z.entries z.promises flushed flushed moment
        writer.moment (omega arith) late (k.of_flushed j z at) in
        let written : RisesForEach opening (set parts id y) writer.written writer.moment =
        one_set (λ _ z. Next z writer.written writer.moment) parts id y
        (λ j z apart at. k.of_written j z at) (k.of_written id x here) in
        record {
          in_order = one_set (λ _ z. LogsRise opening z) parts id y
              (λ j z apart at. k.in_order j z at)
              (record { own = (k.in_order id x here).own; joined = (k.in_order id x here).joined });
          of_flushed = one_set (λ _ z. Next z flushed writer.moment) parts id y
              (λ j z apart at. later j z at) (later id x here);
          of_written = written;
          of_hard = one_set (λ _ z. z.hard ≢ 0 → (z.hard_moment ≡ writer.moment)
              × RisesForEach opening (set parts id y) z.hard writer.moment) parts id y
              (λ j z apart at some_stored. absurd (some_stored (alone j z apart at)))
              (λ some_stored. (refl, written));
        }

    -- what was stored as durable is flushed
    pub stores_flushed : (id : ℕ) (x : Promised) → HasAt parts id x → x.hard ≢ 0
        → RisesHold opening x.hard moment writer parts
    stores_flushed id x here some_stored = record {
      in_order = k.in_order;
      of_flushed = (k.of_hard id x here some_stored).1;
      of_written = k.of_written;
      of_hard = k.of_hard;
    }
