-- Records that something takes, one behind another.
use Rattle.std.specs.Prelude.{List, ◌++◌}
use Rattle.waldump_filter.specs.declared.listed.Listed.{Listed}
use Rattle.cluster_listing.specs.declared.taking.TakeErr.{TakeErr}

-- whatever was taken before, behind it these are
abbrev pub TookMore : {V : Type 0} → (V → V → List Listed → Type 0) → V → V → List Listed → Type 0
TookMore {V = V} took old new records =
    (first : V) (before : List Listed) → took first old before → took first new (before ++ records)

-- whatever was taken before, behind it a front of what these come to is
abbrev pub CutMore : {V : Type 0} → (V → V → List Listed → Type 0)
    → (V → V → TakeErr → List Listed → Type 0) → V → V → TakeErr → List Listed → Type 0
CutMore {V = V} took cut old new e records =
    (first : V) (before : List Listed) → took first old before
    → cut first new e (before ++ records)
