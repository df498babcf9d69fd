use Rattle.machine_laws.proofs.WholeOrders.{IsLawful-whole, LiesBehind-new, whole_order}
use Rattle.machine_laws.proofs.crashes.whole_orders_have_the_same_images.Goals as goal

pub returns : goal.returns
returns c = record {
  lawful = IsLawful-whole;
  whole = λ opening front order valid lies follows. whole_order opening valid front lies order follows;
  fresh = LiesBehind-new;
}
