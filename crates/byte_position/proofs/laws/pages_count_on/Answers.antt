use Rattle.byte_position.proofs.Pages.{is_in_header-page_header, is_in_header-page_rest, position_of-page_header, position_of-page_rest, position_of-next_page, address_of-page, position_in_page}
use Rattle.byte_position.proofs.laws.pages_count_on.Goals as goal

pub returns : goal.returns
returns c = record {
  header = λ size page k valid b. is_in_header-page_header size valid page k b;
  rest = λ size page k valid h b. is_in_header-page_rest size valid page k h b;
  header_position = λ size page k valid b. position_of-page_header size valid page k b;
  position = λ size page k valid b. position_of-page_rest size valid page k b;
  next_page = λ size page valid. position_of-next_page size valid page;
  address = λ size page k valid b. address_of-page size valid page k b;
  page_of_position = λ size position valid. position_in_page size valid position;
}
