use Rattle.std.proofs.Common.{◌≡◌, ℕ, List, [], ◌++◌, ap, subst, to_z-of_z, ◌∙◌}
use Rattle.std.specs.Option.{option_map_or}
use Rattle.waldump_text.specs.TimeText.{time_text}
use Rattle.waldump_text.specs.Listing.{commit_time_of}
use Rattle.waldump_text.specs.Put.{PutsBut}
use Rattle.waldump_text.proofs.lines.put_commit_time.Goals as goal

pub returns-in-Some : goal.returns-in-Some
returns-in-Some g c =
    let same : c.as_bytes.result.now ≡ option_map_or time_text (commit_time_of c.args.value.now) [] = c.as_bytes.ensures.text ∙ c.time_text.ensures ∙ ap time_text (to_z-of_z c.in-Some.ensures.fits) ∙ ap (λ o. option_map_or time_text o []) c.in-Some.ensures.time in
    subst (λ (text : List ℕ). PutsBut (g.O.Sink.taken c.args.out.now) (g.O.Sink.taken c.append.new.out) (g.O.Sink.faults c.args.out.now) (g.O.Sink.faults c.append.new.out) (c.args.buffer.now ++ text) c.append.new.self c.append.result) same c.append.ensures
