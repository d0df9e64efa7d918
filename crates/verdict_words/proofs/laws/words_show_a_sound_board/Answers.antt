use Rattle.verdict_words.specs.Cells.{verdict_word}
use Rattle.verdict_words.specs.Laws.{within_on}
use Rattle.verdict_words.proofs.Sounding.{words_are_sound}
use Rattle.verdict_words.proofs.laws.words_show_a_sound_board.Goals as goal

pub returns : goal.returns
returns c = record {
  words = λ j s found. words_are_sound j s.words found.fold;
  seats = λ j s seat v found at.
      let seen = found.seats seat v at in
      words_are_sound j v.known (within_on v.known s.words (verdict_word j) seen.stands found.fold);
}
