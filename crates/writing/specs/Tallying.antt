-- The fetches of each disk, counted round by round. Document 01, "Playing a round": "its fetches on a disk are the actions of that disk, in all R
-- rounds, that fetch a block". Assumes nothing.
use Rattle.std.specs.Prelude.{List, [], ◌∷◌, ℕ, ◌+◌}
use Rattle.model.specs.Playing.{fetched}
use Rattle.writing.specs.declared.Action.{Action}
use Rattle.writing.specs.Writing.{action_in}

-- One fetch more for each disk that fetched a block.
unfoldable pub tallied : List ℕ → List Action → List ℕ
tallied [] acts = []
tallied (n ∷ more) [] = n ∷ more
tallied (n ∷ more) (a ∷ rest) = (n + fetched (action_in a)) ∷ tallied more rest
