use Rattle.byte_position.proofs.Rising.{position_of-mono, position_of-le_self, address_of-mono_lt, le-address_of, lt-position_of, address_of-lt, address_of-bound}
use Rattle.byte_position.proofs.laws.positions_and_addresses_rise.Goals as goal

pub returns : goal.returns
returns c = record {
  position = λ size a b valid h. position_of-mono size a b h;
  address = λ size p q valid h. address_of-mono_lt size valid p q h;
  both = λ size p a valid. (lt-position_of size valid p a, address_of-lt size valid p a);
  position_below = λ size a valid. position_of-le_self size a;
  address_near = λ size p valid. (le-address_of size valid p, address_of-bound size valid p);
}
