-- Runs of a reader that stop early give fronts.
use Rattle.std.proofs.Common.{◌≡◌, ℕ, List, ◌++◌, refl, sym, ap, subst, ◌∙◌}
use Rattle.byte_position.specs.Geometry.{IsSegmentSize}
use Rattle.wal_reader.specs.declared.found.FoundRecord.{FoundRecord}
use Rattle.wal_reader.specs.declared.found.Answer.{Answer}
use Rattle.wal_reader.specs.LogReader.{ReaderState, GivesRecords}
use Rattle.wal_reader.specs.Pages.{Pages, pages_in}
use Rattle.wal_reader.specs.Runs.{Gave, RunsCompose, RunsGiveFronts, nothing, record_more}
use Rattle.wal_reader.proofs.SettledLaws.{decoding_is_settled, gives_something}

gave_and : (pages : Pages) {old last : ReaderState} {found : List FoundRecord} → Gave pages old found last
    → (others : List FoundRecord) (answer : Answer) → GivesRecords pages last others answer → GivesRecords pages old (found ++ others) answer
gave_and pages nothing others answer gives = gives
gave_and pages (record_more {others = front} new next leaves rest) others answer gives =
    next (front ++ others) answer (gave_and pages rest others answer gives)

pub runs_compose : RunsCompose
runs_compose pages old last found others answer gave gives = gave_and pages gave others answer gives

-- the log's segment size stays
size_stays : (pages : Pages) {old last : ReaderState} {found : List FoundRecord} → Gave pages old found last → last.size ≡ old.size
size_stays pages nothing = refl
size_stays pages (record_more new next leaves rest) =
    size_stays pages rest ∙ ap (λ (state : ReaderState). state.size) leaves.0

pub runs_give_fronts : RunsGiveFronts
runs_give_fronts size image start end found last valid gave all answer decodes =
    let pages = pages_in size image in
    let same : last.size ≡ size = size_stays pages gave in
    let left = gives_something image last (subst IsSegmentSize (sym same) valid) in
    let gives = subst (λ (n : ℕ). GivesRecords (pages_in n image) last left.0 left.1) same left.2 in
    let settled = decoding_is_settled size image start end valid in
    let whole = settled.3 (found ++ left.0) left.1 (gave_and pages gave left.0 left.1 gives) in
    let given = settled.3 all answer decodes in
    let answers : left.1 ≡ answer = whole.1 ∙ sym given.1 in
    (left.0, given.0 ∙ sym whole.0, subst (λ (told : Answer). GivesRecords pages last left.0 told) answers gives)
