use Rattle.std.proofs.Common.{ap, ◌∙◌}
use Rattle.machine_state.specs.Steps.{page_mapped}
use Rattle.machine_state.specs.Views.{Published, View}
use Rattle.word_ring.proofs.Steps.{replaced, view_is}
use Rattle.word_ring.proofs.mapping.replace.Goals as goal

pub publish_end-requires-clause-may : goal.publish_end-requires-clause-may
publish_end-requires-clause-may g c = (
  c.args.at,
  ap (λ (w : View). (w.mapping).stage) (view_is _ _ _ c.zero_page.ensures.view),
)

pub publish_initialised_end-requires-clause-may : goal.publish_initialised_end-requires-clause-may
publish_initialised_end-requires-clause-may g c = (
  c.args.at,
  ap (λ (w : View). (w.mapping).stage) (view_is _ _ _ c.publish_end.ensures.steps)
      ∙ ap (λ (w : View). Published (page_mapped (w.mapping).stage))
      (view_is _ _ _ c.zero_page.ensures.view),
)

pub returns : goal.returns
returns g c = record {
  view = replaced c.args.seated.now c.args.at c.requires.ready.0 c.requires.ready.1 _ _ _ _
      c.clear_end.ensures.steps c.zero_page.ensures.view c.publish_end.ensures.steps
      c.publish_initialised_end.ensures.steps;
}
