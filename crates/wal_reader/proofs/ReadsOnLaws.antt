-- Reads, one behind another.
use Rattle.std.proofs.Common.{ℕ, Option, refl, ◌∙◌}
use Rattle.segment_disk.specs.Tape.{Tape}
use Rattle.wal_reader.specs.declared.page_cache.PageCache.{PageCache}
use Rattle.wal_reader.specs.ReadsOn.{ReadsOn}

-- nothing was read
pub reads_none : {D : Type 0} (tape : D → Option Tape) (moment : D → ℕ) (disk : D) (cache : PageCache) → ReadsOn tape moment disk disk cache cache
reads_none tape moment disk cache = record { geometry = refl; sees = λ pages sees. sees; uncalled = record { same_tape = refl; same_moment = refl } }

pub reads_more : {D : Type 0} {tape : D → Option Tape} {moment : D → ℕ} {disk between last : D} {cache held now : PageCache} → ReadsOn tape moment disk between cache held → ReadsOn tape moment between last held now → ReadsOn tape moment disk last cache now
reads_more first second = record {
  geometry = second.geometry ∙ first.geometry;
  sees = λ pages sees. second.sees pages (first.sees pages sees);
  uncalled = record { same_tape = second.uncalled.same_tape ∙ first.uncalled.same_tape; same_moment = second.uncalled.same_moment ∙ first.uncalled.same_moment };
}
