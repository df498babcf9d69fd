-- Calls that a state says, made one behind another.
use Rattle.std.proofs.Common.{◌≡◌, ℕ, zero, suc, ◌+◌, ◌-◌, ◌<◌, inl, inr, List, [], ◌∷◌, ◌++◌, length, Option, Some, None, IfSome, refl, sym, ap, subst, ◌∙◌, arith}
use Rattle.std.specs.List.{flat_map, range_with_len}
use Rattle.std.proofs.lemmas.Grind.{flat_map-append}
use Rattle.std.proofs.lemmas.List.{append-nil, append_assoc, length-append}
use Rattle.std.proofs.lemmas.List.Concat.{flat_map_single}
use Rattle.segment_disk.specs.declared.disk.Call.{Call}
use Rattle.segment_disk.specs.Tape.{DiskState, Tape, Fails, IsMade, IsNotMade, state_now, sync_call, with_call}
use Rattle.flush_core.specs.Calls.{AreMade, with_calls}
use Rattle.flush_core.specs.Settled.{MakesCalls, NextFails, StopsCalls, sync_calls}
use Rattle.flush_core.proofs.GrowingTapes.{with_calls-append, with_calls-some}

-- what one state says, the other one says as well
abbrev pub Agree : Option Tape → Option Tape → (DiskState → List Call) → (DiskState → List Call) → Type 0
Agree old mid g h = IfSome old (λ t. IfSome mid (λ u. g (state_now u) ≡ h (state_now t)))

agree_always : (old mid : Option Tape) (g h : DiskState → List Call) → ((s u : DiskState) → g u ≡ h s) → Agree old mid g h
agree_always None mid g h same = tt
agree_always (Some t) None g h same = tt
agree_always (Some t) (Some u) g h same = same (state_now t) (state_now u)

pub agree_fixed : (old mid : Option Tape) (calls : List Call) → Agree old mid (λ _. calls) (λ _. calls)
agree_fixed old mid calls = agree_always old mid (λ _. calls) (λ _. calls) (λ s u. refl)

abbrev said_by : Option Tape → (DiskState → List Call) → List Call
said_by None h = []
said_by (Some t) h = h (state_now t)

both_said : (old mid : Option Tape) (f g h : DiskState → List Call) (xs ys : List Call) → IfSome old (λ t. xs ≡ f (state_now t)) → IfSome mid (λ u. ys ≡ g (state_now u)) → mid ≡ with_calls old xs → Agree old mid g h
    → IfSome old (λ t. xs ++ ys ≡ f (state_now t) ++ h (state_now t))
both_said None mid f g h xs ys first second grown agree = tt
both_said (Some t) None f g h xs ys first second grown agree =
    let none : None ≡ Some (record t { calls = t.calls ++ xs }) = grown ∙ with_calls-some t xs in
    absurd (cc none)
both_said (Some t) (Some u) f g h xs ys first second grown agree = ap (λ (l : List Call). l ++ ys) first ∙ ap (λ (l : List Call). f (state_now t) ++ l) (second ∙ agree)

-- ---- made

fixed_said : (old : Option Tape) (calls : List Call) → IfSome old (λ t. calls ≡ calls)
fixed_said None calls = tt
fixed_said (Some t) calls = refl

pub makes_one : (old new : Option Tape) (old_moment new_moment : ℕ) (call : Call) → IsMade old new old_moment new_moment call → MakesCalls old new old_moment new_moment (λ _. call ∷ [])
makes_one old new old_moment new_moment call made = record {
  calls = call ∷ [];
  made = record { tape = made.tape; moment = made.moment };
  are = fixed_said old (call ∷ []);
}

are_made_on : (old mid new : Option Tape) (m0 m1 m2 : ℕ) (xs ys : List Call) → AreMade old mid m0 m1 xs → AreMade mid new m1 m2 ys → AreMade old new m0 m2 (xs ++ ys)
are_made_on old mid new m0 m1 m2 xs ys first second = record {
  tape = second.tape ∙ ap (λ (t : Option Tape). with_calls t ys) first.tape ∙ sym (with_calls-append old xs ys);
  moment = omega (arith, first.moment, second.moment, length-append xs ys);
}

module _ (old mid new : Option Tape) (m0 m1 m2 : ℕ) (f g h : DiskState → List Call) where
  pub then_makes : MakesCalls old mid m0 m1 f → MakesCalls mid new m1 m2 g → Agree old mid g h → MakesCalls old new m0 m2 (λ s. f s ++ h s)
  then_makes first second agree = record {
    calls = first.calls ++ second.calls;
    made = are_made_on old mid new m0 m1 m2 first.calls second.calls first.made second.made;
    are = both_said old mid f g h first.calls second.calls first.are second.are first.made.tape agree;
  }

  pub then_stops : MakesCalls old mid m0 m1 f → StopsCalls mid new m1 m2 g → Agree old mid g h → StopsCalls old new m0 m2 (λ s. f s ++ h s)
  then_stops first second agree =
      let xs = first.calls in
      let ys = second.front in
      let tape : with_calls mid ys ≡ with_calls old (xs ++ ys) = ap (λ (t : Option Tape). with_calls t ys) first.made.tape ∙ sym (with_calls-append old xs ys) in
      let moment : m1 + length ys ≡ m0 + length (xs ++ ys) = omega (arith, first.made.moment, length-append xs ys) in
      record {
        front = xs ++ ys;
        others = second.others;
        ends = elim second.ends [
          | inl made ↦ inl (are_made_on old mid new m0 m1 m2 xs ys first.made made)
          | inr fails ↦ inr (subst (λ (t : Option Tape). NextFails t new (m0 + length (xs ++ ys)) m2 second.others) tape (subst (λ (m : ℕ). NextFails (with_calls mid ys) new m m2 second.others) moment fails))
        ];
        are = subst (λ (l : List Call). IfSome old (λ t. l ≡ f (state_now t) ++ h (state_now t))) (sym (append_assoc xs ys second.others)) (both_said old mid f g h xs (ys ++ second.others) first.are second.are first.made.tape agree);
      }

-- ---- stopped

next_of_longer : (old new : Option Tape) (m0 m1 : ℕ) (others more : List Call) → NextFails old new m0 m1 others → NextFails old new m0 m1 (others ++ more)
next_of_longer old new m0 m1 [] more fails = absurd fails
next_of_longer old new m0 m1 (next ∷ others) more fails = fails

module _ (old new : Option Tape) (m0 m1 : ℕ) (f h : DiskState → List Call) where
  longer_said : (front others : List Call) → IfSome old (λ t. front ++ others ≡ f (state_now t)) → IfSome old (λ t. front ++ (others ++ said_by old h) ≡ f (state_now t) ++ h (state_now t))
  longer_said front others are = subst (λ (l : List Call). IfSome old (λ t. l ≡ f (state_now t) ++ h (state_now t))) (append_assoc front others (said_by old h)) (said old refl are)
    where
      said : (tape : Option Tape) → old ≡ tape → IfSome tape (λ t. front ++ others ≡ f (state_now t)) → IfSome tape (λ t. (front ++ others) ++ said_by tape h ≡ f (state_now t) ++ h (state_now t))
      said None same are = tt
      said (Some t) same are = ap (λ (l : List Call). l ++ h (state_now t)) are

  -- more calls would have come
  pub stops_longer : StopsCalls old new m0 m1 f → StopsCalls old new m0 m1 (λ s. f s ++ h s)
  stops_longer stops = record {
    front = stops.front;
    others = stops.others ++ said_by old h;
    ends = elim stops.ends [ inl made ↦ inl made | inr fails ↦ inr (next_of_longer _ new _ m1 stops.others (said_by old h) fails) ];
    are = longer_said stops.front stops.others stops.are;
  }

pub stops_one : (old new : Option Tape) (m0 m1 : ℕ) (call : Call) → Fails old new m0 m1 call → StopsCalls old new m0 m1 (λ _. call ∷ [])
stops_one old new m0 m1 call fails =
    let moment : m0 ≡ m0 + 0 = omega arith in
    record { front = []; others = call ∷ []; ends = inr (subst (λ (m : ℕ). Fails old new m m1 call) moment fails); are = fixed_said old (call ∷ []) }

-- nothing was called
pub stops_at_once : (old new : Option Tape) (m0 m1 : ℕ) (said : DiskState → List Call) → IsNotMade old new m0 m1 → StopsCalls old new m0 m1 said
stops_at_once old new m0 m1 said same = record {
  front = [];
  others = said_by old said;
  ends = inl (record { tape = same.same_tape; moment = omega (arith, same.same_moment) });
  are = itself old;
}
  where
    itself : (tape : Option Tape) → IfSome tape (λ t. said_by tape said ≡ said (state_now t))
    itself None = tt
    itself (Some t) = refl

-- ---- the same said otherwise

same_said : (old : Option Tape) (calls : List Call) (f g : DiskState → List Call) → ((s : DiskState) → f s ≡ g s) → IfSome old (λ t. calls ≡ f (state_now t)) → IfSome old (λ t. calls ≡ g (state_now t))
same_said None calls f g same are = tt
same_said (Some t) calls f g same are = are ∙ same (state_now t)

pub makes_as : (old new : Option Tape) (m0 m1 : ℕ) (f g : DiskState → List Call) → ((s : DiskState) → f s ≡ g s) → MakesCalls old new m0 m1 f → MakesCalls old new m0 m1 g
makes_as old new m0 m1 f g same makes = record { calls = makes.calls; made = makes.made; are = same_said old makes.calls f g same makes.are }

pub stops_as : (old new : Option Tape) (m0 m1 : ℕ) (f g : DiskState → List Call) → ((s : DiskState) → f s ≡ g s) → StopsCalls old new m0 m1 f → StopsCalls old new m0 m1 g
stops_as old new m0 m1 f g same stops = record { front = stops.front; others = stops.others; ends = stops.ends; are = same_said old (stops.front ++ stops.others) f g same stops.are }

-- ---- item by item

pub range_split : (a n m : ℕ) → range_with_len a (n + m) ≡ range_with_len a n ++ range_with_len (a + n) m
range_split a zero m =
    let at : a ≡ a + 0 = omega arith in
    let none : 0 + m ≡ m = omega arith in
    ap (range_with_len a) none ∙ ap (λ (b : ℕ). range_with_len b m) at
range_split a (suc n) m =
    let at : a + 1 + n ≡ a + suc n = omega arith in
    let count : suc n + m ≡ suc (n + m) = omega arith in
    ap (range_with_len a) count ∙ ap (λ (l : List ℕ). a ∷ l) (range_split (a + 1) n m ∙ ap (λ (b : ℕ). range_with_len (a + 1) n ++ range_with_len b m) at)

pub range_more : (a n : ℕ) → range_with_len a (n + 1) ≡ range_with_len a n ++ (a + n) ∷ []
range_more a n = range_split a n 1

pub range_around : (a n i : ℕ) → i < n → range_with_len a n ≡ range_with_len a i ++ (a + i) ∷ range_with_len (a + i + 1) (n - i - 1)
range_around a n i within =
    let count : n ≡ i + suc (n - i - 1) = omega arith in
    ap (range_with_len a) count ∙ range_split a i (suc (n - i - 1))

flat_around : {A : Type 0} (F : A → List Call) (ys zs : List A) (x : A) → flat_map F (ys ++ x ∷ zs) ≡ (flat_map F ys ++ F x) ++ flat_map F zs
flat_around F ys zs x = flat_map-append F ys (x ∷ zs) ∙ sym (append_assoc (flat_map F ys) (F x) (flat_map F zs))

module _ {A : Type 0} (old mid new : Option Tape) (m0 m1 m2 : ℕ) (F : A → DiskState → List Call) (ys : List A) (x : A) where
  pub makes_more : MakesCalls old mid m0 m1 (λ s. flat_map (λ j. F j s) ys) → MakesCalls mid new m1 m2 (F x) → Agree old mid (F x) (F x) → MakesCalls old new m0 m2 (λ s. flat_map (λ j. F j s) (ys ++ x ∷ []))
  makes_more first second agree =
      makes_as old new m0 m2 (λ s. flat_map (λ j. F j s) ys ++ F x s) (λ s. flat_map (λ j. F j s) (ys ++ x ∷ [])) (λ s. sym (flat_around (λ j. F j s) ys [] x ∙ append-nil (flat_map (λ j. F j s) ys ++ F x s)))
      (then_makes old mid new m0 m1 m2 (λ s. flat_map (λ j. F j s) ys) (F x) (F x) first second agree)

  pub stops_among : (zs : List A) → MakesCalls old mid m0 m1 (λ s. flat_map (λ j. F j s) ys) → StopsCalls mid new m1 m2 (F x) → Agree old mid (F x) (F x) → StopsCalls old new m0 m2 (λ s. flat_map (λ j. F j s) (ys ++ x ∷ zs))
  stops_among zs first second agree =
      stops_as old new m0 m2 (λ s. (flat_map (λ j. F j s) ys ++ F x s) ++ flat_map (λ j. F j s) zs) (λ s. flat_map (λ j. F j s) (ys ++ x ∷ zs)) (λ s. sym (flat_around (λ j. F j s) ys zs x))
      (stops_longer old new m0 m2 (λ s. flat_map (λ j. F j s) ys ++ F x s) (λ s. flat_map (λ j. F j s) zs)
      (then_stops old mid new m0 m1 m2 (λ s. flat_map (λ j. F j s) ys) (F x) (F x) first second agree))

-- syncs, one behind another
syncs_flat : (size : ℕ) (xs : List ℕ) → flat_map (λ x. sync_call size x ∷ []) xs ≡ sync_calls size xs
syncs_flat size xs = flat_map_single (sync_call size) xs

module _ (size : ℕ) (old mid new : Option Tape) (m0 m1 m2 : ℕ) (ys : List ℕ) (x : ℕ) (first : MakesCalls old mid m0 m1 (λ _. sync_calls size ys)) where
  abbrev each : ℕ → DiskState → List Call
  each j s = sync_call size j ∷ []

  flat_first : MakesCalls old mid m0 m1 (λ s. flat_map (λ j. each j s) ys)
  flat_first = makes_as old mid m0 m1 (λ _. sync_calls size ys) (λ s. flat_map (λ j. each j s) ys) (λ s. sym (syncs_flat size ys)) first

  pub syncs_more : (all : List ℕ) → all ≡ ys ++ x ∷ [] → IsMade mid new m1 m2 (sync_call size x) → MakesCalls old new m0 m2 (λ _. sync_calls size all)
  syncs_more all are made =
      makes_as old new m0 m2 (λ s. flat_map (λ j. each j s) (ys ++ x ∷ [])) (λ _. sync_calls size all) (λ s. syncs_flat size (ys ++ x ∷ []) ∙ ap (sync_calls size) (sym are))
      (makes_more old mid new m0 m1 m2 each ys x flat_first (makes_one mid new m1 m2 (sync_call size x) made) (agree_fixed old mid (sync_call size x ∷ [])))

  pub syncs_stop : (all zs : List ℕ) → all ≡ ys ++ x ∷ zs → Fails mid new m1 m2 (sync_call size x) → StopsCalls old new m0 m2 (λ _. sync_calls size all)
  syncs_stop all zs are fails =
      stops_as old new m0 m2 (λ s. flat_map (λ j. each j s) (ys ++ x ∷ zs)) (λ _. sync_calls size all) (λ s. syncs_flat size (ys ++ x ∷ zs) ∙ ap (sync_calls size) (sym are))
      (stops_among old mid new m0 m1 m2 each ys x zs flat_first (stops_one mid new m1 m2 (sync_call size x) fails) (agree_fixed old mid (sync_call size x ∷ [])))

-- a call behind a read
module _ (old mid new : Option Tape) (m0 m1 m2 : ℕ) (call : Call) (said : DiskState → List Call) (read : IsNotMade old mid m0 m1) (are : IfSome old (λ t. call ∷ [] ≡ said (state_now t))) where
  pub makes_behind_read : IsMade mid new m1 m2 call → MakesCalls old new m0 m2 said
  makes_behind_read made = record {
    calls = call ∷ [];
    made = record { tape = made.tape ∙ ap (λ (t : Option Tape). with_call t call) read.same_tape; moment = omega (arith, made.moment, read.same_moment) };
    are = are;
  }

  pub stops_behind_read : Fails mid new m1 m2 call → StopsCalls old new m0 m2 said
  stops_behind_read fails =
      let moment : m1 ≡ m0 + 0 = omega (arith, read.same_moment) in
      record {
        front = [];
        others = call ∷ [];
        ends = inr (subst (λ (m : ℕ). Fails old new m m2 call) moment (subst (λ (t : Option Tape). Fails t new m1 m2 call) read.same_tape fails));
        are = are;
      }

pub lifted : (tape : Option Tape) (P Q : Tape → Type 0) → ((t : Tape) → P t → Q t) → IfSome tape P → IfSome tape Q
lifted None P Q more holds = tt
lifted (Some t) P Q more holds = more t holds
