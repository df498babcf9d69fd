-- A page that is handed in, and what was read before.
use Rattle.std.specs.Prelude.{if◌then◌else◌}
use Rattle.std.specs.Borrow.{Bor}
use Rattle.std.specs.Option.{option_map}
use Rattle.std.proofs.Common.{◌≡◌, ◌∙◌, ap, ℕ, List, Bool, Option, None, Some, eq-eqb, subst, sym}
use Rattle.std.proofs.lemmas.Bool.{ne_eqb}
use Rattle.handed_pages.specs.Handed.{page_of_log}
use Rattle.handed_pages.specs.Reading.{HasReadLog}
use Rattle.wal_reader.specs.declared.found.FoundRecord.{FoundRecord}
use Rattle.pgwal_c.specs.declared.reader_handle.ReaderCall.{ReaderCall}
use Rattle.pgwal_c.specs.ReaderTold.{HandsTold, HoldsOfReader, ProgramReader, page_handed, program_log}

pub none_handed : (asked : ReaderCall) → asked.there ≡ 0 → page_handed asked ≡ None
none_handed asked none =
    ap (λ (x : Bool). if x then None else Some asked.bytes) (eq-eqb asked.there 0 none)

pub some_handed : (asked : ReaderCall) → (asked.there ≡ 0 → ⊥) → page_handed asked ≡ Some asked.bytes
some_handed asked some =
    ap (λ (x : Bool). if x then None else Some asked.bytes) (ne_eqb asked.there 0 some)

pub hands_told : (asked : ReaderCall) (answer : ℕ) (held : Option ProgramReader)
    (old new : ProgramReader) (page : Option (Bor (List ℕ))) → held ≡ Some old
    → page_handed asked ≡ option_map (λ p. p.now) page
    → ((size start : ℕ) (found : List FoundRecord) → HasReadLog program_log size start found old
    → page_of_log program_log (record { segment = asked.segment; page = asked.page })
    ≡ option_map (λ p. p.now) page
    → HasReadLog program_log size start found new)
    → HoldsOfReader (HandsTold asked) answer held (Some new)
hands_told asked answer held old new page is page_is reads =
    subst (λ (x : Option ProgramReader). HoldsOfReader (HandsTold asked) answer x (Some new))
    (sym is) (record {
      reads = λ size start found was same. reads size start found was (same ∙ page_is);
    })
