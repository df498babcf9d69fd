use Rattle.byte_position.proofs.PageLaws.{is_in_header-first_page, position_of-first_page, address_of-first_page, end_address_of-first_page, address_of-second_page}
use Rattle.byte_position.proofs.laws.first_page_counts_on.Goals as goal

pub returns : goal.returns
returns c = record {
  outside_header = λ size k valid b. is_in_header-first_page size valid k b;
  position = λ size k valid b. position_of-first_page size valid k b;
  address = λ size k valid b. address_of-first_page size valid k b;
  end_address = λ size k valid h b. end_address_of-first_page size valid k h b;
  second_page = λ size valid. address_of-second_page size valid;
}
