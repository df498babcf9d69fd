-- What holds once a sync, or a write of pages that were answered Ok, has failed.
use Rattle.std.specs.Prelude.{Bool, IsTrue, OnOk, Result}

-- where it had failed before a call it has failed behind it, and the call does not answer Ok
abbrev pub FailsForGood : {T E : Type 0} → Bool → Bool → Result T E → Type 0
FailsForGood before after result = IsTrue before → IsTrue after × OnOk result ⊥
