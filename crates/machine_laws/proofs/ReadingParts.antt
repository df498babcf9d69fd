-- What is read of the writer's disk, where a view is changed, a word is stored in memory, a word is
-- loaded for a write, or a call of the device is made.
use Rattle.std.proofs.Common.{◌≡◌, ◌⊎◌, inl, inr, ℕ, ◌≤◌, List, [], ◌∷◌, ◌++◌, length, set, Bool, Option, Some, IfSome, refl, sym, ap, ◌∙◌, subst, arith}
use Rattle.std.proofs.lemmas.Option.{IfSome_then}
use Rattle.std.specs.Int.{w64, to_le_bytes}
use mathlib.Core.Option.{none, some}
use Rattle.segment_disk.specs.declared.disk.Call.{Call}
use Rattle.segment_disk.specs.ImageWords.{zero_word}
use Rattle.segment_disk.specs.Tape.{DiskState, Tape, after_call, failed_call, state_now}
use Rattle.machine_state.specs.Words.{Opening}
use Rattle.machine_state.specs.Views.{HasAt, Hold, Idle, Turned, Out, IsLoadedLast, Lent, Plain, Writing}
use Rattle.machine_state.specs.Moves.{CallOutcome, Done, Failed, no_writing, with_lent, with_outcome}
use Rattle.machine_state.specs.Suited.{BeganSuited, IfSuited, tape_from}
use Rattle.machine_state.specs.Growing.{IsZeroOr, OnlyAdds, OnlyAddsSince}
use Rattle.machine_state.specs.Reading.{IsLoadedRightly, ReadingHolds, ReadsAtMost, word_read}
use Rattle.machine_state.proofs.Lists.{one_added, one_set}
use Rattle.machine_state.proofs.Tapes.{at_suited, began_behind, counted_on, on_tape, state_behind, tape_behind}
use Rattle.machine_laws.proofs.DurableAssured.{lent_cases}
use Rattle.machine_laws.proofs.GrowthLaws.{since_more}
use Rattle.machine_laws.proofs.LoadedLast.{same_loaded}

-- ---- words that were loaded

-- what one has of the turn then: nothing is loaded that was not before
abbrev pub LoadsNoMore : Hold → Hold → Type 0
LoadsNoMore before behind = (l : Lent) → behind ≡ Out l → (k word : ℕ)
    → IsLoadedLast k word l.staged
    → (m : Lent) × (before ≡ Out m) × IsLoadedLast k word m.staged

pub as_before : (hold : Hold) → LoadsNoMore hold hold
as_before hold l is k word last = (l, is, last)

pub none_idle : (before : Hold) → LoadsNoMore before Idle
none_idle before l is = absurd (cc)

pub none_turned : (before : Hold) → LoadsNoMore before Turned
none_turned before l is = absurd (cc)

-- one that is lent anew has loaded nothing
pub none_lent : (before : Hold) (new : Lent) → new.staged ≡ [] → LoadsNoMore before (Out new)
none_lent before new empty l is k word last =
    let same : new ≡ l = cc in
    absurd (subst (IsLoadedLast k word)
    (ap (λ (m : Lent). m.staged) (sym same) ∙ empty) last)

pub lent_as_before : (f : Lent → Lent) → ((m : Lent) → (f m).staged ≡ m.staged) → (hold : Hold)
    → LoadsNoMore hold (with_lent f hold)
lent_as_before f same hold = lent_cases f
    (λ l. (k word : ℕ) → IsLoadedLast k word l.staged
    → (m : Lent) × (hold ≡ Out m) × IsLoadedLast k word m.staged) hold
    (λ m is k word last. (m, is, subst (IsLoadedLast k word) (same m) last))

-- ---- words that are read

-- 0 is zeros
zero_read : (whole bytes : ℕ) → whole ≡ 0 → (word : List ℕ) → IsZeroOr (to_le_bytes w64 whole) word
    → IsZeroOr (to_le_bytes w64 bytes) word
zero_read whole bytes nothing word (inl zeros) = inl zeros
zero_read whole bytes nothing word (inr same) = inl (same ∙ ap (to_le_bytes w64) nothing)

-- behind a call: zeros, as it was, or a word that was loaded last
abbrev pub TurnsOnly : List (ℕ × ℕ) → (k : ℕ) → (before behind : List ℕ) → Type 0
TurnsOnly staged k before behind = ((behind ≡ zero_word) ⊎ (behind ≡ before))
    ⊎ ((word : ℕ) × IsLoadedLast k word staged × (behind ≡ to_le_bytes w64 word))

-- the call only adds, and does no more to what is read
pub record Puts (size : ℕ) (staged : List (ℕ × ℕ)) (state : DiskState) (call : Call) : Type 0 where
  pub adds : OnlyAdds size state call
  pub turns : (k : ℕ) → TurnsOnly staged k (word_read size state k)
      (word_read size (after_call state call) k)

-- so it is still zeros or a word that it was
turned_still : (staged : List (ℕ × ℕ)) (k whole : ℕ) (before behind : List ℕ)
    → TurnsOnly staged k before behind → IsZeroOr (to_le_bytes w64 whole) before
    → ((word : ℕ) → IsLoadedLast k word staged → (word ≡ 0) ⊎ (word ≡ whole))
    → IsZeroOr (to_le_bytes w64 whole) behind
turned_still staged k whole before behind (inl (inl zeros)) was rightly = inl zeros
turned_still staged k whole before behind (inl (inr same)) was rightly =
    subst (IsZeroOr (to_le_bytes w64 whole)) (sym same) was
turned_still staged k whole before behind (inr put) was rightly =
    elim (rightly put.0 put.1) [
      | inl nothing ↦ inl (put.2 ∙ ap (to_le_bytes w64) nothing)
      | inr own ↦ inr (put.2 ∙ ap (to_le_bytes w64) own)
    ]

-- ---- the part, where views or the memory change

module _ (first : DiskState) (o : Opening) (memory : ℕ → ℕ) (w : Plain) where
  abbrev Rightly : ℕ → ℕ → Type 0
  Rightly k word = IsLoadedRightly first o memory w k word

  -- of one view
  abbrev IsStagedRightly : Writing → Type 0
  IsStagedRightly x = (l : Lent) → x.hold ≡ Out l → (k word : ℕ) → IsLoadedLast k word l.staged
      → Rightly k word

  module _ (parts : List Writing) (h : ReadingHolds first o memory w parts) where
    with_parts : (others : List Writing)
        → ((j : ℕ) (u : Writing) → HasAt others j u → IsStagedRightly u)
        → ReadingHolds first o memory w others
    with_parts others staged = record {
      adds = h.adds;
      reads = h.reads;
      staged = λ j u l there. staged j u there l;
    }

    of_each : (j : ℕ) (u : Writing) → HasAt parts j u → IsStagedRightly u
    of_each j u there l = h.staged j u l there

    of_none : IsStagedRightly no_writing
    of_none l is = absurd (cc)

    -- one view loads nothing
    no_more : (id : ℕ) (x y : Writing) → HasAt parts id x → LoadsNoMore x.hold y.hold
        → IsStagedRightly y
    no_more id x y here less l is k word last =
        let was = less l is k word last in
        h.staged id x was.0 here was.1 k word was.2

    pub part_changes : (id : ℕ) (x y : Writing) → HasAt parts id x → LoadsNoMore x.hold y.hold
        → ReadingHolds first o memory w (set parts id y)
    part_changes id x y here less = with_parts (set parts id y)
        (one_set (λ j u. IsStagedRightly u) parts id y (λ j u apart there. of_each j u there)
        (no_more id x y here less))

    -- and one comes that has nothing
    pub part_added : (id : ℕ) (x y : Writing) → HasAt parts id x → LoadsNoMore x.hold y.hold
        → ReadingHolds first o memory w (set parts id y ++ no_writing ∷ [])
    part_added id x y here less = with_parts (set parts id y ++ no_writing ∷ [])
        (one_added (λ j u. IsStagedRightly u) (set parts id y) no_writing
        (λ j u there l. (part_changes id x y here less).staged j u l there) of_none)

    -- one takes another in
    pub part_joined : (id other : ℕ) (x y : Writing) → HasAt parts id x → LoadsNoMore x.hold y.hold
        → ReadingHolds first o memory w (set (set parts other no_writing) id y)
    part_joined id other x y here less = with_parts (set (set parts other no_writing) id y)
        (one_set (λ j u. IsStagedRightly u) (set parts other no_writing) id y
        (λ j u apart there. one_set (λ i z. IsStagedRightly z) parts other no_writing
        (λ i z not_other at. of_each i z at) of_none j u there)
        (no_more id x y here less))

    -- a word is loaded that is the one in memory
    pub word_loaded : (id number met : ℕ) (x y : Writing) → HasAt parts id x
        → y.hold ≡ with_lent (λ l. record l { staged = (number, met) ∷ l.staged }) x.hold
        → ((l : Lent) → x.hold ≡ Out l → met ≡ memory number)
        → ReadingHolds first o memory w (set parts id y)
    word_loaded id number met x y here is from_memory = with_parts (set parts id y)
        (one_set (λ j u. IsStagedRightly u) parts id y (λ j u apart there. of_each j u there)
        (λ l out. lent_cases (λ m. record m { staged = (number, met) ∷ m.staged })
        (λ m. (k word : ℕ) → IsLoadedLast k word m.staged → Rightly k word) x.hold
        (λ m held k word last. elim last [
          | inl now ↦ (let own : word ≡ memory k =
              sym now.1 ∙ from_memory m held ∙ ap memory now.0 in record {
                loaded = inr own;
                read = IfSome_then (tape_from first w.calls) h.reads (λ t reads suited.
                    subst (λ (n : ℕ). ReadsAtMost (o.setup).seg_size k n t) (sym own)
                    (reads suited k));
              })
          | inr before ↦ h.staged id x m here held k word before.1
        ]) l (sym is ∙ out)))

    -- in memory a word turns from 0 to another
    pub memory_turns : (memory2 : ℕ → ℕ)
        → ((k : ℕ) → (memory k ≡ 0) ⊎ (memory k ≡ memory2 k))
        → ReadingHolds first o memory2 w parts
    memory_turns memory2 turns = record {
      adds = h.adds;
      reads = IfSome_then (tape_from first w.calls) h.reads (λ t reads suited k.
          elim (turns k) [
            | inl nothing ↦ zero_read (memory k) (memory2 k) nothing
                (word_read (o.setup).seg_size (state_now t) k) (reads suited k)
            | inr same ↦ subst (λ (n : ℕ). ReadsAtMost (o.setup).seg_size k n t) same
                (reads suited k)
          ]);
      staged = λ id x l here is k word last.
          let was = h.staged id x l here is k word last in record {
            loaded = elim was.loaded [
              | inl nothing ↦ inl nothing
              | inr own ↦ elim (turns k) [
                | inl nothing ↦ inl (own ∙ nothing)
                | inr same ↦ inr (own ∙ same)
              ]
            ];
            read = was.read;
          };
    }

-- ---- a call of the device

module _ {first : DiskState} (o : Opening) (memory : ℕ → ℕ) (w : Plain) (parts : List Writing)
    (h : ReadingHolds first o memory w parts)
    (counted : IfSome w.calls (λ calls. w.moment ≡ length calls)) (begun : o.moment ≤ w.moment)
    (id : ℕ) (x : Writing) (here : HasAt parts id x) (l : Lent) (out : x.hold ≡ Out l)
    (alone : (j : ℕ) (u : Writing) (m : Lent) → HasAt parts j u → u.hold ≡ Out m → j ≡ id) where
  abbrev size : ℕ
  size = (o.setup).seg_size

  abbrev read_in : Tape → ℕ → List ℕ
  read_in t k = word_read size (state_now t) k

  -- what was loaded last is 0 or the word in memory, and read as zeros or that
  rightly : (k word : ℕ) → IsLoadedLast k word l.staged → IsLoadedRightly first o memory w k word
  rightly = h.staged id x l here out

  -- on each tape that began as suits a log
  abbrev PutsThere : Call → Type 0
  PutsThere call = (t : Tape) → tape_from first w.calls ≡ Some t → BeganSuited o t
      → Puts (o.setup).seg_size l.staged (state_now t) call

  module _ (call : Call) (outcome : CallOutcome) (puts : PutsThere call)
      (failed_puts : (made : Bool) → PutsThere (failed_call made call))
      (n : Plain) (calls : n.calls ≡ (with_outcome call outcome w).calls) where
    within : (t : Tape) → tape_from first w.calls ≡ Some t → o.moment ≤ length t.calls
    within t is = omega (arith, begun, counted_on first w.moment w.calls t is counted)

    suited_behind : (Q : Tape → Type 0)
        → ((t : Tape) → tape_from first w.calls ≡ Some t → BeganSuited o t
        → Q (tape_behind outcome call t))
        → IfSuited first o n Q
    suited_behind Q f =
        subst (λ (cs : Option (List Call)).
        IfSome (tape_from first cs) (λ t. BeganSuited o t → Q t)) (sym calls)
        (on_tape first (λ t. BeganSuited o t → Q t) call outcome w
        (λ t is suited. f t is (began_behind o call outcome t (within t is) suited)))

    adds_behind : (result : CallOutcome) (t : Tape) → tape_from first w.calls ≡ Some t
        → BeganSuited o t → OnlyAddsSince size o.moment (tape_behind result call t)
    adds_behind result t is suited = of_outcome result
      where
        before : OnlyAddsSince size o.moment t
        before = at_suited first o w (OnlyAddsSince size o.moment) t is suited h.adds

        of_outcome : (result : CallOutcome)
            → OnlyAddsSince size o.moment (tape_behind result call t)
        of_outcome Done = since_more size o.moment t call (within t is) before
            (puts t is suited).adds
        of_outcome (Failed faults none) = before
        of_outcome (Failed faults (some made)) = since_more size o.moment t
            (failed_call made call) (within t is) before (failed_puts made t is suited).adds

    turns_behind : (result : CallOutcome) (t : Tape) → tape_from first w.calls ≡ Some t
        → BeganSuited o t → (k : ℕ)
        → TurnsOnly l.staged k (read_in t k) (read_in (tape_behind result call t) k)
    turns_behind result t is suited k = of_outcome result
      where
        one_more : (made : Call) → Puts size l.staged (state_now t) made
            → TurnsOnly l.staged k (read_in t k)
            (read_in (record t { calls = t.calls ++ made ∷ [] }) k)
        one_more made puts = subst
            (λ (state : DiskState). TurnsOnly l.staged k (read_in t k) (word_read size state k))
            (sym (state_behind t made)) (puts.turns k)

        of_outcome : (result : CallOutcome)
            → TurnsOnly l.staged k (read_in t k) (read_in (tape_behind result call t) k)
        of_outcome Done = one_more call (puts t is suited)
        of_outcome (Failed faults none) = inl (inr refl)
        of_outcome (Failed faults (some made)) =
            one_more (failed_call made call) (failed_puts made t is suited)

    -- a word that was loaded last is read as it or as zeros still
    loaded_behind : (k word : ℕ) → IsLoadedLast k word l.staged
        → IsLoadedRightly first o memory n k word
    loaded_behind k word last = record {
      loaded = (rightly k word last).loaded;
      read = suited_behind (ReadsAtMost size k word) (λ t is suited.
          turned_still l.staged k word (read_in t k)
          (read_in (tape_behind outcome call t) k)
          (turns_behind outcome t is suited k)
          (at_suited first o w (ReadsAtMost size k word) t is suited (rightly k word last).read)
          (λ other also. inr (same_loaded k other word l.staged also last)));
    }

    pub call_made : (y : Writing) (m : Lent) → y.hold ≡ Out m → m.staged ≡ l.staged
        → ReadingHolds first o memory n (set parts id y)
    call_made y m is same = record {
      adds = suited_behind (OnlyAddsSince size o.moment) (adds_behind outcome);
      reads = suited_behind (λ t. (k : ℕ) → ReadsAtMost size k (memory k) t) (λ t is suited k.
          turned_still l.staged k (memory k) (read_in t k)
          (read_in (tape_behind outcome call t) k)
          (turns_behind outcome t is suited k)
          (at_suited first o w (λ t. (k : ℕ) → ReadsAtMost size k (memory k) t) t is suited h.reads
          k)
          (λ word last. (rightly k word last).loaded));
      staged = λ j u lent there has. one_set
          (λ i z. (g : Lent) → z.hold ≡ Out g → (k word : ℕ) → IsLoadedLast k word g.staged
          → IsLoadedRightly first o memory n k word)
          parts id y
          (λ i z apart at g holds. absurd (apart (alone i z g at holds)))
          (λ g holds k word last.
          let own : m ≡ g = (let e : Out m ≡ Out g = sym is ∙ holds in cc) in
          loaded_behind k word (subst (IsLoadedLast k word)
          (ap (λ (z : Lent). z.staged) (sym own) ∙ same) last))
          j u there lent has;
    }
