use Rattle.byte_position.proofs.PositionLaws.{address_of-position_of, position_of-address_of, is_in_header-address_of}
use Rattle.byte_position.proofs.laws.positions_and_addresses_correspond.Goals as goal

pub returns : goal.returns
returns c = record {
  address_of_position = λ size address valid outside. address_of-position_of size valid address outside;
  position_of_address = λ size position valid. position_of-address_of size valid position;
  outside_headers = λ size position valid. is_in_header-address_of size valid position;
}
