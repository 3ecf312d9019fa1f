-- A page as it is printed, line by line, from the bytes of a sheet and of its reasons. `proofs/ReadBack.antt` leads from here to the model's page.
-- Assumes nothing.
use Rattle.std.specs.Prelude.{List, [], ◌++◌, ℕ, zero, suc}
use Rattle.model.specs.Page.{legend, ended}
use Rattle.lines.specs.declared.Place.{Place}
use Rattle.lines.specs.Lines.{shown_at, place_after, line_at}

-- The n lines from a place on,
unfoldable pub lines_read : List ℕ → List ℕ → ℕ → ℕ → Place → List ℕ
unfolding shown_at
lines_read sheet reasons disks zero p = []
lines_read sheet reasons disks (suc n) p =
    line_at sheet reasons p ++ lines_read sheet reasons disks n (place_after p (shown_at sheet p.at).next disks)

-- and the page of n lines, which begin with round 1 and disk 0, after the sheet's 12 bits for its rounds.
abbrev pub first_place : Place
first_place = record { line = 0; at = 12; round = 1; disk = 0 }

unfoldable pub page_read : List ℕ → List ℕ → ℕ → ℕ → List ℕ
unfolding lines_read legend ended
page_read sheet reasons disks n = lines_read sheet reasons disks n first_place ++ ended legend
