-- What holds of each replay's script that is read.
use Rattle.std.proofs.Common.{◌≡◌, ℕ, ◌+◌, ◌<◌, ◌≤◌, List, [], ◌∷◌, ◌++◌, length, Bool, true, false, ◌&&◌, Option, Some, None, Result, Ok, Err, All, codes, eqb, ltb, ltb-true, length-append, refl, sym, ◌∙◌, true≢false, arith}
use Rattle.std.specs.Prelude.{◌||◌, IfOk, if◌then◌else◌}
use Rattle.std.proofs.lemmas.Bool.{cond_both, or_parts}
use Rattle.std.proofs.lemmas.List.Elements.{All-nil, All-cons, All-append}
use Rattle.run_script.specs.declared.item.Item.{Item}
use Rattle.run_script.specs.ScheduleMeaning.{after_lines}
use Rattle.run_script.specs.Turns.{backends_in_turn, most_turns}
use Rattle.run_script.proofs.Turns.{lines_are_of_backends, lines_are_within}
use Rattle.run_script.specs.declared.line.Refusal.{Refusal}
use Rattle.run_script.specs.declared.line.ScriptFault.TheVariants as faults
use Rattle.run_script.specs.Asked.{Asked, AskedLine, Insert, Commit}
use Rattle.run_script.specs.Meaning.{commit_of, insert_of, line_with, passes, asks, refuses, script_limit}
use Rattle.run_script.specs.Replay.{IsOfReplay, ScriptLine, of_backend, begins, ends, ScheduleLines, BackendsMeaning, ReplayMeaning, alone, backend_line_with, begin_fault, is_of_runs, most_backends, backends_from, backends_with, items_or_fault, script_line_of, script_line_with, replay_meaning, replay_with, schedule_with, unless_fault, with_schedule}
use Rattle.run_script.specs.Text.{is_text, fields_of, lines_of}
use Rattle.run_script.specs.Writable.{AsksWritable}
use Rattle.run_script.proofs.Writing.{MeansOnly, asks_as_only, line_with_only, line_with_writable}

-- ---- lines

-- what one of a backend's lines asks for is only this
abbrev LineOnly : (Asked → Type 0) → ScriptLine → Type 0
LineOnly P (of_backend meaning) = MeansOnly P meaning
LineOnly P (begins is_alone) = Unit {0}
LineOnly P ends = Unit {0}

alone_only : (P : Asked → Type 0) (line : ScriptLine) (fields : List (List ℕ)) → LineOnly P line → LineOnly P (alone line fields)
alone_only P line [] only = only
alone_only P line (field ∷ fields) only = tt

-- where each line of a backend that the script knows asks for only this, so does each line
script_line_with_only : (P : Asked → Type 0) (takes_schedule : Bool) (word : List ℕ) (fields : List (List ℕ)) → ((takes_schedule && is_of_runs word) ≡ false → MeansOnly P (line_with (word ∷ fields))) → LineOnly P (script_line_with takes_schedule (word ∷ fields))
script_line_with_only P takes_schedule word fields only =
    let line = of_backend (backend_line_with takes_schedule word fields) in
    let end = if takes_schedule && is_text word (codes "S") then alone ends fields else line in
    cond_both (is_text word (codes "B")) (begins (eqb (length fields) 0)) end (LineOnly P) (λ _. tt)
    (λ _. cond_both (takes_schedule && is_text word (codes "S")) (alone ends fields) line (LineOnly P) (λ _. alone_only P ends fields tt)
    (λ _. cond_both (takes_schedule && is_of_runs word) (refuses faults.Word) (line_with (word ∷ fields)) (MeansOnly P) (λ _. tt) only))

script_line_of_only : (P : Asked → Type 0) (takes_schedule : Bool) → ((fields : List (List ℕ)) → LineOnly P (script_line_with takes_schedule fields)) → (text : List ℕ) → LineOnly P (script_line_of takes_schedule text)
script_line_of_only P takes_schedule only [] = tt
script_line_of_only P takes_schedule only (c ∷ cs) =
    cond_both (eqb c 35) (of_backend passes) (script_line_with takes_schedule (fields_of (c ∷ cs))) (LineOnly P) (λ _. tt) (λ _. only (fields_of (c ∷ cs)))

writable_fields : (takes_schedule : Bool) (fields : List (List ℕ)) → LineOnly AsksWritable (script_line_with takes_schedule fields)
writable_fields takes_schedule [] = tt
writable_fields takes_schedule (word ∷ fields) = script_line_with_only AsksWritable takes_schedule word fields (λ _. line_with_writable (word ∷ fields))

-- a letter that a replay knows asks for what it may ask for
replay_letters : (word : List ℕ) (fields : List (List ℕ)) → is_of_runs word ≡ false → MeansOnly IsOfReplay (line_with (word ∷ fields))
replay_letters word fields known =
    let none = or_parts (is_text word (codes "A") || is_text word (codes "L")) (is_text word (codes "W")) known in
    let neither = or_parts (is_text word (codes "A")) (is_text word (codes "L")) none.0 in
    line_with_only IsOfReplay word fields
    (λ _. asks_as_only IsOfReplay Insert (insert_of fields) (λ x is. tt))
    (λ _. asks_as_only IsOfReplay Commit (commit_of fields) (λ x is. tt))
    (λ _. tt)
    (λ is. absurd (true≢false (sym is ∙ neither.0)))
    (λ is. absurd (true≢false (sym is ∙ neither.1)))
    (λ is. absurd (true≢false (sym is ∙ none.1)))

replay_fields : (fields : List (List ℕ)) → LineOnly IsOfReplay (script_line_with true fields)
replay_fields [] = tt
replay_fields (word ∷ fields) = script_line_with_only IsOfReplay true word fields (λ known. replay_letters word fields known)

-- ---- the backends

module _ (P : Asked → Type 0) where
  abbrev pub AskOnly : List AskedLine → Type 0
  AskOnly lines = All (λ line. P line.asked) lines

  -- what holds of backends that were read
  pub record AreFit (m : BackendsMeaning) : Type 0 where
    pub some : 0 < length m.backends
    pub most : length m.backends ≤ most_backends
    pub only : All AskOnly m.backends

  AreFit-pushed : (before : List (List AskedLine)) (lines : List AskedLine) (schedule : Option ScheduleLines) → length before < most_backends → All AskOnly before → AskOnly lines → AreFit (record { backends = before ++ lines ∷ []; schedule = schedule })
  AreFit-pushed before lines schedule room before_only lines_only = record {
    some = omega (arith, length-append before (lines ∷ []));
    most = omega (arith, room, length-append before (lines ∷ []));
    only = All-append AskOnly before (lines ∷ []) before_only (All-cons AskOnly lines [] lines_only (All-nil AskOnly));
  }

  begins_fit : (number : ℕ) (has_room is_alone : Bool) (next : Result BackendsMeaning Refusal) → (has_room ≡ true → IfOk next AreFit) → IfOk (unless_fault number (begin_fault has_room is_alone) next) AreFit
  begins_fit number false is_alone next fit = tt
  begins_fit number true false next fit = tt
  begins_fit number true true next fit = fit refl

  backends_with_fit : (number : ℕ) (before : List (List AskedLine)) (lines : List AskedLine) (line : ScriptLine) (texts : List (List ℕ)) (others : List (List AskedLine) → List AskedLine → Result BackendsMeaning Refusal) → length before < most_backends → All AskOnly before → AskOnly lines → LineOnly P line → ((so_far : List (List AskedLine)) (latest : List AskedLine) → length so_far < most_backends → All AskOnly so_far → AskOnly latest → IfOk (others so_far latest) AreFit) → IfOk (backends_with number before lines line texts others) AreFit
  backends_with_fit number before lines (of_backend passes) texts others room before_only lines_only only fit = fit before lines room before_only lines_only
  backends_with_fit number before lines (of_backend (asks asked)) texts others room before_only lines_only only fit =
      let line : AskedLine = record { number = number; asked = asked } in
      let Is = λ (l : AskedLine). P l.asked in
      fit before (lines ++ line ∷ []) room before_only (All-append Is lines (line ∷ []) lines_only (All-cons Is line [] only (All-nil Is)))
  backends_with_fit number before lines (of_backend (refuses fault)) texts others room before_only lines_only only fit = tt
  backends_with_fit number before lines (begins is_alone) texts others room before_only lines_only only fit =
      begins_fit number (ltb (length before + 1) most_backends) is_alone (others (before ++ lines ∷ []) [])
      (λ holds. fit (before ++ lines ∷ []) [] (omega (arith, ltb-true (length before + 1) most_backends holds, length-append before (lines ∷ []))) (AreFit-pushed before lines None room before_only lines_only).only (All-nil (λ l. P l.asked)))
  backends_with_fit number before lines ends texts others room before_only lines_only only fit =
      AreFit-pushed before lines (Some (record { number = number; texts = texts })) room before_only lines_only

  module _ (takes_schedule : Bool) (only : (text : List ℕ) → LineOnly P (script_line_of takes_schedule text)) where
    backends_from_fit : (number : ℕ) (before : List (List AskedLine)) (lines : List AskedLine) (texts : List (List ℕ)) → length before < most_backends → All AskOnly before → AskOnly lines → IfOk (backends_from takes_schedule number before lines texts) AreFit
    backends_from_fit number before lines [] room before_only lines_only = AreFit-pushed before lines None room before_only lines_only
    backends_from_fit number before lines (text ∷ texts) room before_only lines_only =
        backends_with_fit number before lines (script_line_of takes_schedule text) texts (λ so_far latest. backends_from takes_schedule (number + 1) so_far latest texts) room before_only lines_only (only text)
        (λ so_far latest. backends_from_fit (number + 1) so_far latest texts)

    -- the backends of each script are fit
    only_fit : (script : List ℕ) → IfOk (backends_from takes_schedule 1 [] [] (lines_of script)) AreFit
    only_fit script = backends_from_fit 1 [] [] (lines_of script) (omega arith) (All-nil AskOnly) (All-nil (λ l. P l.asked))

pub backends_fit : (takes_schedule : Bool) (script : List ℕ) → IfOk (backends_from takes_schedule 1 [] [] (lines_of script)) (AreFit AsksWritable)
backends_fit takes_schedule script = only_fit AsksWritable takes_schedule (script_line_of_only AsksWritable takes_schedule (writable_fields takes_schedule)) script

replay_fit : (script : List ℕ) → IfOk (backends_from true 1 [] [] (lines_of script)) (AreFit IsOfReplay)
replay_fit script = only_fit IsOfReplay true (script_line_of_only IsOfReplay true replay_fields) script

-- ---- the schedule

abbrev AreWithin : List Item → Type 0
AreWithin items = length (backends_in_turn items) ≤ most_turns

-- what holds of a schedule that was read for so many backends
record AreTaken (backends : ℕ) (items : List Item) : Type 0 where
  there : All (λ backend. backend < backends) (backends_in_turn items)
  within : length (backends_in_turn items) ≤ most_turns

items_or_fault_taken : (backends : ℕ) (items : Result (List Item) ℕ) → IfOk items (λ read. All (λ backend. backend < backends) (backends_in_turn read)) → IfOk items AreWithin → IfOk (items_or_fault items) (AreTaken backends)
items_or_fault_taken backends (Ok items) there within = record { there = there; within = within }
items_or_fault_taken backends (Err line) there within = tt

schedule_with_taken : (backends : ℕ) (schedule : Option ScheduleLines) → IfOk (schedule_with backends schedule) (AreTaken backends)
schedule_with_taken backends None = record { there = All-nil (λ backend. backend < backends); within = omega arith }
schedule_with_taken backends (Some lines) =
    items_or_fault_taken backends (after_lines backends (lines.number + 1) [] lines.texts) (lines_are_of_backends backends (lines.number + 1) lines.texts) (lines_are_within backends (lines.number + 1) lines.texts)

-- ---- all of it

with_schedule_keeps : (backends : List (List AskedLine)) (items : Result (List Item) Refusal) (P : ReplayMeaning → Type 0) → IfOk items (λ read. P (record { backends = backends; schedule = read })) → IfOk (with_schedule backends items) P
with_schedule_keeps backends (Ok items) P holds = holds
with_schedule_keeps backends (Err refusal) P holds = tt

-- what holds of each replay whose backends are fit and whose turns can be taken
module _ (Q : Asked → Type 0) (fit_all : (script : List ℕ) → IfOk (backends_from true 1 [] [] (lines_of script)) (AreFit Q)) (P : ReplayMeaning → Type 0) (holds : (m : BackendsMeaning) (items : List Item) → AreFit Q m → AreTaken (length m.backends) items → P (record { backends = m.backends; schedule = items })) where
  by_items : (m : BackendsMeaning) → AreFit Q m → (items : Result (List Item) Refusal) → IfOk items (AreTaken (length m.backends)) → IfOk items (λ read. P (record { backends = m.backends; schedule = read }))
  by_items m fit (Ok items) taken = holds m items fit taken
  by_items m fit (Err refusal) taken = tt

  by_backends : (read : Result BackendsMeaning Refusal) → IfOk read (AreFit Q) → IfOk (replay_with read) P
  by_backends (Ok m) fit =
      let items = schedule_with (length m.backends) m.schedule in
      with_schedule_keeps m.backends items P (by_items m fit items (schedule_with_taken (length m.backends) m.schedule))
  by_backends (Err refusal) fit = tt

  limited : (limit : ℕ) (refusal : Refusal) (script : List ℕ) → IfOk (if ltb limit (length script) then Err refusal else replay_with (backends_from true 1 [] [] (lines_of script))) P
  limited limit refusal script =
      let meaning = replay_with (backends_from true 1 [] [] (lines_of script)) in
      cond_both (ltb limit (length script)) (Err refusal) meaning (λ read. IfOk read P) (λ _. tt)
      (λ _. by_backends (backends_from true 1 [] [] (lines_of script)) (fit_all script))

  of_any : (script : List ℕ) → IfOk (replay_meaning script) P
  of_any script = limited script_limit _ script

abbrev of_replay : (P : ReplayMeaning → Type 0) → ((m : BackendsMeaning) (items : List Item) → AreFit AsksWritable m → AreTaken (length m.backends) items → P (record { backends = m.backends; schedule = items })) → (script : List ℕ) → IfOk (replay_meaning script) P
of_replay = of_any AsksWritable (backends_fit true)

pub some_backends_are_there : (script : List ℕ) → IfOk (replay_meaning script) (λ m. (0 < length m.backends) × (length m.backends ≤ most_backends))
some_backends_are_there = of_replay (λ m. (0 < length m.backends) × (length m.backends ≤ most_backends)) (λ m items fit taken. (fit.some, fit.most))

pub backends_are_writable : (script : List ℕ) → IfOk (replay_meaning script) (λ m. All (All (λ line. AsksWritable line.asked)) m.backends)
backends_are_writable = of_replay (λ m. All (AskOnly AsksWritable) m.backends) (λ m items fit taken. fit.only)

pub replays_ask_for_nothing_behind : (script : List ℕ) → IfOk (replay_meaning script) (λ m. All (All (λ line. IsOfReplay line.asked)) m.backends)
replays_ask_for_nothing_behind = of_any IsOfReplay replay_fit (λ m. All (AskOnly IsOfReplay) m.backends) (λ m items fit taken. fit.only)

pub turns_are_of_backends : (script : List ℕ) → IfOk (replay_meaning script) (λ m. All (λ backend. backend < length m.backends) (backends_in_turn m.schedule))
turns_are_of_backends = of_replay (λ m. All (λ backend. backend < length m.backends) (backends_in_turn m.schedule)) (λ m items fit taken. taken.there)

pub turns_are_within : (script : List ℕ) → IfOk (replay_meaning script) (λ m. length (backends_in_turn m.schedule) ≤ most_turns)
turns_are_within = of_replay (λ m. AreWithin m.schedule) (λ m items fit taken. taken.within)
