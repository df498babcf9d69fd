-- the program's word is taken of no call at all
use Rattle.std.proofs.Common.{refl, subst}
use Rattle.machine_state.specs.declared.setup.Setup.{Setup}
use Rattle.embedded_log.specs.Reopened.{ReopensWithHost, SaysReopenStop}
use Rattle.pgwal_c.specs.OpenTold.{program_segments}
use Rattle.pgwal_c.specs.Told.{ProgramSays}
use Rattle.pgwal_c.proofs.opening.open_log.Goals as goal

pub reopen-requires : goal.reopen-requires
unfolding ProgramSays
reopen-requires c = tt

pub returns-in-Ok-new : goal.returns-in-Ok-new
returns-in-Ok-new c = record {
  done = λ done. record {
    session = c.in-Ok.session;
    found = c.in-Ok.found;
    reopens = subst (λ (x : Setup). ReopensWithHost x program_segments
        c.args.handle.now.pages.items c.in-Ok.session c.in-Ok.calls c.in-Ok.found)
        c.setup_of.ensures (rw (← c.replace-pages.ensures.value) c.in-Ok.ensures.reopened);
    count = refl;
    end = refl;
  };
  stopped = λ other. absurd (other refl);
}
