-- Where a kept body lies.
use Rattle.wal_spelling.specs.declared.kept_body.BodyPlace.{BodyPlace}
use Rattle.wal_spelling.specs.declared.kept_body.BodyPlace.TheVariants.{Arena, Own}
use Rattle.wal_spelling.specs.Spelling.{Assembled}

-- the body in that place
abbrev pub body_at : BodyPlace → Assembled
body_at (Arena body) = body.now
body_at (Own body) = body.value
