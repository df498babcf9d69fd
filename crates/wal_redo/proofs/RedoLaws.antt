-- Records that are redone one behind another.
use Rattle.std.proofs.Common.{◌≡◌, ℕ, ◌+◌, List, [], ◌∷◌, ◌++◌, Option, Some, None, Ok, Err, sym, ap, subst, ◌∙◌, append_assoc, inl}
use Rattle.std.specs.Prelude.{IfSome}
use Rattle.std.proofs.lemmas.Grind.{flat_map-append}
use Rattle.std.proofs.lemmas.List.{append-nil}
use Rattle.byte_position.specs.Geometry.{IsSegmentSize}
use Rattle.segment_disk.specs.Tape.{Tape}
use Rattle.wal_types.specs.declared.lsn.Lsn.{Lsn}
use Rattle.wal_reader.specs.SoFar.{LogBegins, LogDecodes, SaysOfLog}
use Rattle.wal_reader.specs.declared.found.Answer.{Answer}
use Rattle.wal_reader.specs.declared.found.Answer.TheVariants as answers
use Rattle.wal_reader.specs.declared.found.FoundRecord.{FoundRecord}
use Rattle.wal_reader.specs.declared.standing.ReadErr.{ReadErr}
use Rattle.wal_reader.specs.declared.standing.ReadErr.TheVariants.{Memory, Disk, Stopped}
use Rattle.wal_reader.specs.declared.standing.Step.TheVariants.{End}
use Rattle.wal_reader.proofs.SoFarLaws.{same_log}
use Rattle.wal_redo.specs.declared.redoing.RedoErr.{RedoErr}
use Rattle.wal_redo.specs.declared.redoing.RedoErr.TheVariants as redoing
use Rattle.wal_redo.specs.Again.{RedoAgainChangesNothing, RedoGoesOnBehindARefusal}
use Rattle.wal_redo.specs.BlockMap.{BlockMap, PagePut, told_behind}
use Rattle.wal_redo.specs.Calls.{CallsAll, CallsFront, CallsPuts, CallsRedo, IsCalled, PutCall}
use Rattle.wal_redo.specs.Images.{puts_in, puts_of}
use Rattle.wal_redo.specs.Redo.{HasStoreCause, IsRedo, PutsAll, PutsSome, RedoesFront, unread}
use Rattle.wal_redo.proofs.CallLaws.{CallsAll-more, CallsFront-of, CallsPuts-more, CallsRedo-refused}
use Rattle.wal_redo.proofs.PutLaws.{PutsAll-again, PutsAll-more, PutsSome-all, PutsSome-more, PutsSome-of}

same_found : (size : ℕ) (t : Tape) (start : ℕ) → IsSegmentSize size
    → (found others : List FoundRecord) (answer other : Answer)
    → LogDecodes size start None found answer t → LogDecodes size start None others other t
    → found ≡ others
same_found size t start valid found others answer other one two = (same_log t valid one two).0

-- it is so of the puts of all that the disk's log decodes to
abbrev pub OfLog : ℕ → ℕ → Tape → (List PagePut → Type 0) → Type 0
OfLog size start t P =
    (found : List FoundRecord) (answer : Answer) → LogDecodes size start None found answer t
    → P (puts_in found)

puts_in-append : (found others : List FoundRecord)
    → puts_in (found ++ others) ≡ puts_in found ++ puts_in others
puts_in-append found others = flat_map-append (λ f. puts_of f.value.blocks) found others

puts_in-one : (f : FoundRecord) → puts_in (f ∷ []) ≡ puts_of f.value.blocks
puts_in-one f = append-nil (puts_of f.value.blocks)

puts_in-more : (found : List FoundRecord) (f : FoundRecord)
    → puts_in (found ++ f ∷ []) ≡ puts_in found ++ puts_of f.value.blocks
puts_in-more found f =
    puts_in-append found (f ∷ [])
    ∙ ap (λ (puts : List PagePut). puts_in found ++ puts) (puts_in-one f)

-- ---- with a record more

module _ (found : List FoundRecord) (f : FoundRecord) where
  pub redoes_more : (old between new : Option BlockMap) (count more : ℕ)
      → PutsAll old between (puts_in found) count → PutsAll between new (puts_of f.value.blocks) more
      → PutsAll old new (puts_in (found ++ f ∷ [])) (count + more)
  redoes_more old between new count more made puts =
      subst (λ (all : List PagePut). PutsAll old new all (count + more)) (sym (puts_in-more found f))
      (PutsAll-more made puts)

  pub calls_more : (old between new : List PutCall) → CallsAll old between (puts_in found)
      → CallsAll between new (puts_of f.value.blocks)
      → CallsAll old new (puts_in (found ++ f ∷ []))
  calls_more old between new all called =
      subst (CallsAll old new) (sym (puts_in-more found f))
      (CallsAll-more old between new (puts_in found) (puts_of f.value.blocks) all called)

-- ---- what the steps of a reader say of a redo

module _ (size start : ℕ) (valid : IsSegmentSize size) (found : List FoundRecord) where
  -- what is so of these puts is so of all of the log's, if these are all of its records
  all_so : (P : List PagePut → Type 0) (t : Tape) (answer : Answer)
      → LogDecodes size start None found answer t → P (puts_in found) → OfLog size start t P
  all_so P t answer ends holds others other decodes =
      subst (λ (fs : List FoundRecord). P (puts_in fs))
      (same_found size t start valid found others answer other ends decodes) holds

  -- what is so of them, whatever puts come behind, if its records begin with these
  front_so : (Q : List PagePut → Type 0) → ((rest : List PagePut) → Q (puts_in found ++ rest))
      → (t : Tape) → LogBegins size start None found t → OfLog size start t Q
  front_so Q more t begins others other decodes =
      let all = found ++ begins.others in
      let same : all ≡ others =
      same_found size t start valid all others begins.answer other begins.decodes decodes in
      subst (λ (fs : List FoundRecord). Q (puts_in fs)) same
      (subst Q (sym (puts_in-append found begins.others)) (more (puts_in begins.others)))

  module _ (old between : Option BlockMap) (count : ℕ)
      (redoes : PutsAll old between (puts_in found) count) where
    put_front : (t : Tape) → LogBegins size start None found t → RedoesFront size start t old between
    put_front t begins = front_so (PutsSome old between) (λ rest. PutsSome-of redoes rest) t begins

    pub redo_ended : (tape : Option Tape) (at : Lsn)
        → IfSome tape (SaysOfLog size start None found (Ok (End at)))
        → IfSome tape (IsRedo size start old between (Ok count))
    redo_ended None at says = tt
    redo_ended (Some t) at says = record { found = found; at = at; decodes = says; puts = redoes }

    pub redo_unread : (tape : Option Tape) (e : ReadErr)
        → IfSome tape (SaysOfLog size start None found (Err e))
        → IfSome tape (IsRedo size start old between (Err (unread e)))
    redo_unread None e says = tt
    redo_unread (Some t) Memory says = put_front t says
    redo_unread (Some t) (Disk faults) says = put_front t says
    redo_unread (Some t) (Stopped reason) says =
        record { found = found; decodes = says; put = redoes.put }

  module _ (old new : List PutCall) (calls : CallsAll old new (puts_in found)) where
    call_front : (t : Tape) → LogBegins size start None found t
        → OfLog size start t (CallsFront old new)
    call_front t begins =
        front_so (CallsFront old new) (λ rest. CallsFront-of old new (puts_in found) calls rest) t
        begins

    pub calls_ended : (count : ℕ) (tape : Option Tape) (at : Lsn)
        → IfSome tape (SaysOfLog size start None found (Ok (End at)))
        → IfSome tape (IsCalled size start old new (Ok count))
    calls_ended count None at says = tt
    calls_ended count (Some t) at says = all_so (CallsAll old new) t (answers.End at) says calls

    pub calls_unread : (tape : Option Tape) (e : ReadErr)
        → IfSome tape (SaysOfLog size start None found (Err e))
        → IfSome tape (IsCalled size start old new (Err (unread e)))
    calls_unread None e says = tt
    calls_unread (Some t) Memory says =
        λ others answer decodes. inl (call_front t says others answer decodes)
    calls_unread (Some t) (Disk faults) says = call_front t says
    calls_unread (Some t) (Stopped reason) says =
        all_so (CallsAll old new) t (answers.Stopped reason) says calls

  -- a put of a record's images was refused
  module _ (f : FoundRecord) where
    cut_so : (Q : List PagePut → Type 0)
        → ((rest : List PagePut) → Q (puts_in found ++ (puts_of f.value.blocks ++ rest)))
        → (t : Tape) → LogBegins size start None (found ++ f ∷ []) t → OfLog size start t Q
    cut_so Q more t begins others other decodes =
        let all = (found ++ f ∷ []) ++ begins.others in
        let same : all ≡ others =
        same_found size t start valid all others begins.answer other begins.decodes decodes in
        let puts : puts_in all
        ≡ puts_in found ++ (puts_of f.value.blocks ++ puts_in begins.others) =
        puts_in-append (found ++ f ∷ []) begins.others
        ∙ ap (λ (front : List PagePut). front ++ puts_in begins.others) (puts_in-more found f)
        ∙ append_assoc (puts_in found) (puts_of f.value.blocks) (puts_in begins.others) in
        subst (λ (fs : List FoundRecord). Q (puts_in fs)) same
        (subst Q (sym puts) (more (puts_in begins.others)))

    module _ (old between new : Option BlockMap) (count : ℕ)
        (redoes : PutsAll old between (puts_in found) count)
        (cut : PutsSome between new (puts_of f.value.blocks)) where
      cut_front : (t : Tape) → LogBegins size start None (found ++ f ∷ []) t
          → RedoesFront size start t old new
      cut_front t begins =
          cut_so (PutsSome old new) (λ rest. PutsSome-more redoes cut rest) t begins

      pub redo_refused : (tape : Option Tape) (e : RedoErr) (faults faults_after : ℕ)
          → IfSome tape (LogBegins size start None (found ++ f ∷ []))
          → HasStoreCause faults faults_after (Err e)
          → IfSome tape (IsRedo size start old new (Err e))
      redo_refused None e faults faults_after begins cause = tt
      redo_refused (Some t) redoing.Memory faults faults_after begins cause = cut_front t begins
      redo_refused (Some t) (redoing.Store more) faults faults_after begins cause =
          cut_front t begins
      redo_refused (Some t) (redoing.Disk more) faults faults_after begins cause = absurd cause
      redo_refused (Some t) (redoing.Stopped reason) faults faults_after begins cause =
          absurd cause

    pub calls_refused : (old between new : List PutCall) (tape : Option Tape) (e : RedoErr)
        → CallsAll old between (puts_in found)
        → IfSome tape (LogBegins size start None (found ++ f ∷ []))
        → CallsPuts between new (puts_of f.value.blocks) (Err e)
        → IfSome tape (IsCalled size start old new (Err e))
    calls_refused old between new None e calls begins cut = tt
    calls_refused old between new (Some t) e calls begins cut =
        cut_so (CallsRedo old new (Err e)) (λ rest. CallsRedo-refused old new
        (puts_in found ++ (puts_of f.value.blocks ++ rest)) e
        (CallsPuts-more old between new (puts_in found) (puts_of f.value.blocks) e calls cut rest)) t
        begins

-- ---- redo that is made again

module _ (size start : ℕ) (t : Tape) (valid : IsSegmentSize size) where
  pub redo_again : {old once twice : Option BlockMap} {count again : ℕ} → IsRedo size start old once (Ok count) t → IsRedo size start once twice (Ok again) t → IsRedo size start old twice (Ok count) t × (again ≡ count)
  redo_again {old} {once} {twice} {count} {again} first second =
      let same : second.found ≡ first.found = same_found size t start valid second.found first.found (answers.End second.at) (answers.End first.at) second.decodes first.decodes in
      let puts = subst (λ (found : List FoundRecord). PutsAll once twice (puts_in found) again) same second.puts in
      let counts : again ≡ count = puts.count_is ∙ sym first.puts.count_is in
      let all = PutsAll-again (PutsSome-all first.puts.put) puts in (
        record { found = first.found; at = first.at; decodes = first.decodes; puts = subst (PutsAll old twice (puts_in first.found)) counts all },
        counts,
      )

  behind_front : {old between new : Option BlockMap} {count : ℕ} → RedoesFront size start t old between → IsRedo size start between new (Ok count) t → IsRedo size start old new (Ok count) t
  behind_front front all = record { found = all.found; at = all.at; decodes = all.decodes; puts = PutsAll-again (front all.found (answers.End all.at) all.decodes) all.puts }

  pub redo_behind : {old between new : Option BlockMap} {count : ℕ} (e : RedoErr) → IsRedo size start old between (Err e) t → IsRedo size start between new (Ok count) t → IsRedo size start old new (Ok count) t
  redo_behind redoing.Memory refused all = behind_front refused all
  redo_behind (redoing.Disk faults) refused all = behind_front refused all
  redo_behind (redoing.Store faults) refused all = behind_front refused all
  redo_behind {old} {between} {new} (redoing.Stopped reason) refused all =
      let same : refused.found ≡ all.found = same_found size t start valid refused.found all.found (answers.Stopped reason) (answers.End all.at) refused.decodes all.decodes in
      let front = PutsSome-all refused.put in
      record { found = all.found; at = all.at; decodes = all.decodes; puts = PutsAll-again (subst (λ (found : List FoundRecord). PutsSome old between (puts_in found)) same front) all.puts }

pub redo_again_changes_nothing : RedoAgainChangesNothing
redo_again_changes_nothing size start t old once twice count again valid first second =
    let all = redo_again size start t valid first second in
    let same : all.0.found ≡ first.found = same_found size t start valid all.0.found first.found (answers.End all.0.at) (answers.End first.at) all.0.decodes first.decodes in
    (all.0.puts.put ∙ ap (λ (found : List FoundRecord). told_behind old (puts_in found)) same ∙ sym first.puts.put, all.1)

pub redo_goes_on_behind_a_refusal : RedoGoesOnBehindARefusal
redo_goes_on_behind_a_refusal size start t old between new error count valid refused all = redo_behind size start t valid error refused all
