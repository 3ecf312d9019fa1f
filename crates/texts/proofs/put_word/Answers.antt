-- `texts::put_word` meets its contract: what is put is the front of the word, and one byte more. Assumes nothing.
use Rattle.texts.proofs.Laws.{put_start, put_byte_more}
use Rattle.texts.proofs.put_word.Goals as goal

pub loop-byte-init : goal.loop-byte-init
loop-byte-init c = put_start _ _

pub loop-byte-preserved : goal.loop-byte-preserved
loop-byte-preserved c = put_byte_more c.loop-byte.byte-index _ c.loop-byte-test.true c.loop-byte.invariant c.put-next.ensures
