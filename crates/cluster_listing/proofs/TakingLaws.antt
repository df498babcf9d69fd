-- Records that are taken one behind another.
use Rattle.std.proofs.Common.{List, [], ◌++◌, sym, subst, append_assoc}
use Rattle.std.proofs.lemmas.List.{append-nil}
use Rattle.waldump_filter.specs.declared.listed.Listed.{Listed}
use Rattle.cluster_listing.specs.Taking.{CutMore, TookMore}
use Rattle.cluster_listing.specs.declared.taking.TakeErr.{TakeErr}

module _ {V : Type 0} (took : V → V → List Listed → Type 0) where
  pub TookMore-none : (old : V) → TookMore took old old []
  TookMore-none old first before was = subst (took first old) (sym (append-nil before)) was

  pub TookMore-further : (old mid new : V) (records more : List Listed) → TookMore took old mid records → TookMore took mid new more → TookMore took old new (records ++ more)
  TookMore-further old mid new records more past next first before was =
      subst (took first new) (append_assoc before records more) (next first (before ++ records) (past first before was))

  pub CutMore-behind : (cut : V → V → TakeErr → List Listed → Type 0) (old mid new : V) (e : TakeErr) (records more : List Listed) → TookMore took old mid records → CutMore took cut mid new e more → CutMore took cut old new e (records ++ more)
  CutMore-behind cut old mid new e records more past next first before was =
      subst (cut first new e) (append_assoc before records more) (next first (before ++ records) (past first before was))
