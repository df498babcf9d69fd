-- The headlines, of the call.
use Rattle.std.proofs.Common.{◌≡◌, ℕ, List, [], ◌∷◌, Option, Ok, Result, inl, inr, refl, sym, ap, subst, ◌∙◌}
use Rattle.std.proofs.lemmas.List.{append_cancel_left}
use Rattle.run_script.specs.Asked.{AskedLine}
use Rattle.run_script.specs.Run.{run_meaning}
use Rattle.run_script.specs.declared.line.Refusal.{Refusal}
use Rattle.run_script.specs.Generated.{generated_script}
use Rattle.run_laws.specs.declared.told.Told.{Told}
use Rattle.cli_line.specs.declared.commands.GenOptions.{GenOptions}
use Rattle.cli_line.specs.declared.commands.ScriptRunOptions.{ScriptRunOptions}
use Rattle.cli_line.specs.declared.commands.Command.TheVariants.{Run, Append, Gen, Replay, Dump, Redo, Send, Receive}
use Rattle.cli_line.specs.declared.asking.Request.{Request}
use Rattle.cli_line.specs.declared.asking.Request.TheVariants.{Command, Help, Version, Nothing}
use Rattle.backend_cli.specs.Appending.{AppendHeadline, AppendHolds}
use Rattle.backend_cli.specs.Asked.{AsksAppend, AsksBackends}
use Rattle.backend_cli.specs.Headline.{Headline}
use Rattle.backend_cli.specs.Obeying.{Obeys, ObeysInMemory}
use Rattle.backend_cli.specs.Outside.{DiskSeen, Outside, SourceView}
use Rattle.backend_cli.specs.Reading.{ScriptMeans}
use Rattle.backend_cli.specs.Run.{PlayHolds, RunHolds}
use Rattle.backend_cli.specs.declared.outcome.Outcome.{Outcome}

-- a source hands out one script
same_lines : (one other : List (List AskedLine))
    → (let read : Result (List (List AskedLine)) Refusal = Ok one in read ≡ Ok other)
    → one ≡ other
same_lines one other e = cc

same_script : (writer : Option ℕ) (before after : SourceView)
    (one other : List (List AskedLine)) → ScriptMeans writer before after (Ok one)
    → ScriptMeans writer before after (Ok other) → one ≡ other
same_script writer before after one other first second =
    let bytes = append_cancel_left before.handed first.0 second.0
    (sym (first.1).handed_out ∙ (second.1).handed_out) in
    same_lines one other (sym first.2 ∙ (ap (run_meaning writer) bytes ∙ second.2))

module _ (outside : Outside) (outcome : Outcome) where
  abbrev Leaves : ℕ → List (List AskedLine) → List (List Told) → Type 0
  Leaves size script told =
      Headline size outside.moment_before script told outside.tape_before outside.tape_after

  of_run : (options : ScriptRunOptions) (told : List (List Told)) → (told ≡ [] → ⊥)
      → RunHolds outside options outcome told
      → (size : ℕ) (script : List (List AskedLine)) → size ≡ options.run.geometry
      → ScriptMeans options.writer outside.source_before outside.source_after (Ok script)
      → Leaves size script told
  of_run options [] opened holds size script size_is means = absurd (opened refl)
  of_run options (t ∷ ts) opened holds size script size_is means =
      let same = same_script options.writer outside.source_before outside.source_after holds.0
      script holds.1 means in
      subst (λ (s : ℕ). Leaves s script (t ∷ ts)) (sym size_is)
      (subst (λ (lines : List (List AskedLine)). Leaves options.run.geometry lines (t ∷ ts)) same
      (holds.2).headline)

  of_play : (options : GenOptions) (told : List (List Told)) → (told ≡ [] → ⊥)
      → PlayHolds outside options.run outcome (generated_script options.lines) told
      → Leaves options.run.geometry (generated_script options.lines) told
  of_play options [] opened holds = absurd (opened refl)
  of_play options (t ∷ ts) opened holds = holds.headline

  of_request : {D : Type 0} (seen : DiskSeen D) (request : Request) (told : List (List Told))
      → (told ≡ [] → ⊥) → Obeys seen request outside outcome told → (size : ℕ) (script : List (List AskedLine))
      → AsksBackends request outside.source_before outside.source_after size script
      → Leaves size script told
  of_request seen Nothing told opened obeys size script asks = absurd asks
  of_request seen Help told opened obeys size script asks = absurd asks
  of_request seen Version told opened obeys size script asks = absurd asks
  of_request seen (Command (Run options)) told opened obeys size script asks =
      of_run options told opened obeys size script asks.0 asks.1
  of_request seen (Command (Append options)) told opened obeys size script asks = absurd asks
  of_request seen (Command (Gen options)) told opened obeys size script asks =
      subst (λ (s : ℕ). Leaves s script told) (sym asks.0)
      (subst (λ (lines : List (List AskedLine)). Leaves options.run.geometry lines told)
      (sym asks.1) (of_play options told opened obeys.plays))
  of_request seen (Command (Replay options)) told opened obeys size script asks = absurd asks
  of_request seen (Command (Dump options)) told opened obeys size script asks = absurd asks
  of_request seen (Command (Redo options)) told opened obeys size script asks = absurd asks
  of_request seen (Command (Send options)) told opened obeys size script asks = absurd asks
  of_request seen (Command (Receive options)) told opened obeys size script asks = absurd asks

  -- words that ask for a run, and a log that was opened
  pub headline_of_call : {D : Type 0} (seen : DiskSeen D) (request : Request)
      (told : List (List Told)) → ObeysInMemory seen request outside outcome told
      → (size : ℕ) (script : List (List AskedLine))
      → AsksBackends request outside.source_before outside.source_after size script
      → (told ≡ [] → ⊥) → Leaves size script told
  headline_of_call seen request told (inl cut) size script asks opened =
      absurd (opened (cut.0).nothing_told)
  headline_of_call seen request told (inr obeys) size script asks opened =
      of_request seen request told opened obeys size script asks

  -- ---- of a run that goes on with a log

  abbrev LeavesWhole : ℕ → List (List AskedLine) → List (List Told) → Type 0
  LeavesWhole size script told =
      AppendHeadline size outside.moment_before script told outside.tape_before outside.tape_after

  of_append : (options : ScriptRunOptions) (told : List (List Told)) → (told ≡ [] → ⊥)
      → AppendHolds outside options outcome told
      → (size : ℕ) (script : List (List AskedLine)) → size ≡ options.run.geometry
      → ScriptMeans options.writer outside.source_before outside.source_after (Ok script)
      → LeavesWhole size script told
  of_append options [] opened holds size script size_is means = absurd (opened refl)
  of_append options (t ∷ ts) opened holds size script size_is means =
      let same = same_script options.writer outside.source_before outside.source_after holds.0
      script holds.1 means in
      subst (λ (s : ℕ). LeavesWhole s script (t ∷ ts)) (sym size_is)
      (subst (λ (lines : List (List AskedLine)). LeavesWhole options.run.geometry lines (t ∷ ts))
      same (holds.2).headline)

  append_of_request : {D : Type 0} (seen : DiskSeen D) (request : Request)
      (told : List (List Told)) → (told ≡ [] → ⊥) → Obeys seen request outside outcome told → (size : ℕ) (script : List (List AskedLine))
      → AsksAppend request outside.source_before outside.source_after size script
      → LeavesWhole size script told
  append_of_request seen Nothing told opened obeys size script asks = absurd asks
  append_of_request seen Help told opened obeys size script asks = absurd asks
  append_of_request seen Version told opened obeys size script asks = absurd asks
  append_of_request seen (Command (Run options)) told opened obeys size script asks = absurd asks
  append_of_request seen (Command (Append options)) told opened obeys size script asks =
      of_append options told opened obeys size script asks.0 asks.1
  append_of_request seen (Command (Gen options)) told opened obeys size script asks = absurd asks
  append_of_request seen (Command (Replay options)) told opened obeys size script asks = absurd asks
  append_of_request seen (Command (Dump options)) told opened obeys size script asks = absurd asks
  append_of_request seen (Command (Redo options)) told opened obeys size script asks = absurd asks
  append_of_request seen (Command (Send options)) told opened obeys size script asks = absurd asks
  append_of_request seen (Command (Receive options)) told opened obeys size script asks = absurd asks

  -- words that ask to go on with a log, and that was opened
  pub append_headline_of_call : {D : Type 0} (seen : DiskSeen D) (request : Request)
      (told : List (List Told)) → ObeysInMemory seen request outside outcome told
      → (size : ℕ) (script : List (List AskedLine))
      → AsksAppend request outside.source_before outside.source_after size script
      → (told ≡ [] → ⊥) → LeavesWhole size script told
  append_headline_of_call seen request told (inl cut) size script asks opened =
      absurd (opened (cut.0).nothing_told)
  append_headline_of_call seen request told (inr obeys) size script asks opened =
      append_of_request seen request told opened obeys size script asks
