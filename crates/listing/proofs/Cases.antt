-- What `passes` prints for document 02's note (L6), with and without a line feed, and for refusals. Assumes nothing.
use mathlib.Core.Path.{◌≡◌, refl}
use mathlib.Core.List.{[], ◌∷◌, ◌++◌}
use Rattle.model.specs.Text.{text}
use Rattle.listing.specs.Passes.{passes_printed}

-- "So `1 2*3 | (4 5)*2` gives 1 4 2 5 2 4 2 5": with a line feed at its end, and with none
pub passes_feed : passes_printed (text "1 2*3 | (4 5)*2" ++ 10 ∷ []) ≡ text "1 4 2 5 2 4 2 5" ++ 10 ∷ []
unfolding passes_printed text
passes_feed = refl

pub passes_none : passes_printed (text "1 2*3 | (4 5)*2") ≡ text "1 4 2 5 2 4 2 5" ++ 10 ∷ []
unfolding passes_printed text
passes_none = refl

-- "an empty note .. is malformed", with a line feed too; and a second line feed is part of the note
pub passes_empty : passes_printed [] ≡ text "refused 22" ++ 10 ∷ []
unfolding passes_printed text
passes_empty = refl

pub passes_feed_alone : passes_printed (10 ∷ []) ≡ text "refused 22" ++ 10 ∷ []
unfolding passes_printed text
passes_feed_alone = refl

pub passes_two_feeds : passes_printed (text "1" ++ 10 ∷ 10 ∷ []) ≡ text "refused 22" ++ 10 ∷ []
unfolding passes_printed text
passes_two_feeds = refl

-- blocks of one, two and three digits
pub passes_digits : passes_printed (text "0 10 511*2") ≡ text "0 10 511 511" ++ 10 ∷ []
unfolding passes_printed text
passes_digits = refl
