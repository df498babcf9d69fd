use Rattle.byte_position.proofs.PositionLaws.{end_address_of-next}
use Rattle.byte_position.proofs.EndAddresses.{end_address_of-page_start, end_address_of-not_page_start, position_of-end_address_of, end_address_of-le, le-position_of, end_address_of-mono_lt}
use Rattle.byte_position.proofs.Places.{HasPosition-end_address_of}
use Rattle.byte_position.proofs.laws.end_addresses_follow_the_byte_before.Goals as goal

pub returns : goal.returns
returns c = record {
  behind = end_address_of-next;
  page_start = λ size page valid. end_address_of-page_start size valid page;
  elsewhere = λ size p valid h. end_address_of-not_page_start size valid p h;
  position = λ size p valid. position_of-end_address_of size valid p;
  has_position = λ size p valid. HasPosition-end_address_of size valid p;
  both = λ size p a valid. (le-position_of size valid p a, end_address_of-le size valid p a);
  rises = λ size p q valid h. end_address_of-mono_lt size valid p q h;
}
