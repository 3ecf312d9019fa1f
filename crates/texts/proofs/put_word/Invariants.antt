-- The invariant of `put_word`'s loop: the first bytes of the word are put. Assumes nothing.
use Rattle.std.proofs.Common.{take}
use Rattle.texts.specs.Texts.{Put}
use Rattle.texts.proofs.put_word.Given as goal

abbrev pub invariant-loop-byte : goal.invariant-loop-byte
invariant-loop-byte l = Put l.at (take l.byte-index l.word) l.initial.out l.out l.next
