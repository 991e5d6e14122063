-- `words::put_at` writes word k at four times k. Assumes nothing.
use Rattle.words.specs.Word.{put}
use Rattle.words.proofs.put_at.Goals as goal

pub returns : goal.returns
unfolding put
returns c = c.write_word.ensures
