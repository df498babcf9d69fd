use Rattle.byte_position.proofs.Words.{is_in_header-word, position_of-word_inside, position_of-word_outside, position_of-mod_word, address_of-mod_word, address_of-in_word, end_address_of-mod_word}
use Rattle.byte_position.proofs.laws.words_stay_whole.Goals as goal

pub returns : goal.returns
returns c = record {
  header = λ size k i valid b. is_in_header-word size valid k i b;
  inside = λ size k i valid b h. position_of-word_inside size valid k i b h;
  outside = λ size k i valid b h. position_of-word_outside size valid k i b h;
  position = λ size k valid. position_of-mod_word size valid k;
  address = λ size p valid h. address_of-mod_word size valid p h;
  in_word = λ size p i valid h b. address_of-in_word size valid p i h b;
  end_address = λ size p valid h. end_address_of-mod_word size valid p h;
}
