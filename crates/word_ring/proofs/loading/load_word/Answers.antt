use Rattle.std.proofs.Common.{ap, ◌∙◌, sym}
use Rattle.machine_state.specs.Words.{Opening}
use Rattle.machine_state.specs.Steps.{ring_number, ring_place}
use Rattle.word_ring.proofs.Calls.{may_load}
use Rattle.word_ring.proofs.HandLaws.{loads_word}
use Rattle.word_ring.proofs.loading.load_word.Goals as goal

pub load_ring_word-requires-clause-number : goal.load_ring_word-requires-clause-number
load_ring_word-requires-clause-number g c = c.requires.place
    ∙ sym (ap (λ (o : Opening). ring_number o.setup (ring_place o.setup c.args.k))
    c.args.seated.now.seated.own)

pub load_ring_word-requires-clause-may : goal.load_ring_word-requires-clause-may
load_ring_word-requires-clause-may g c =
    may_load g.D.Disk.tape g.D.Disk.moment g.D.Disk.faults c.args.seated.now c.requires.hand
    c.args.k c.requires.next

pub returns : goal.returns
returns g c = record {
  loads = loads_word g.D.Disk.tape g.D.Disk.moment g.D.Disk.faults c.args.seated.now
      c.load_ring_word.new.self c.requires.hand c.args.k c.load_ring_word.result
      c.load_ring_word.ensures.steps;
}
