use Rattle.std.proofs.Common.{inl, inr, refl}
use Rattle.pgwal_c.proofs.Telling.{split_told, unsplit_told}
use Rattle.pgwal_c.proofs.session_handle.SessionHandle.split.Goals as goal

pub returns-in-Ok : goal.returns-in-Ok
returns-in-Ok c =
    split_told _ _ c.self.inside.session c.in-Some.session c.in-Some.is c.args.self.now
    c.self.view_is c.split.new.self c.in-Some-split.other 0 (inl refl) c.in-Some-split.ensures

pub returns : goal.returns
returns c =
    split_told _ _ c.self.inside.session c.in-Some.session c.in-Some.is c.args.self.now
    c.self.view_is c.split.new.self c.in-Some-split.other 5 (inr refl) c.in-Some-split.ensures

pub returns-in_default : goal.returns-in_default
returns-in_default c = unsplit_told c.args.self.now _ c.self.view_is c.in_default.is
