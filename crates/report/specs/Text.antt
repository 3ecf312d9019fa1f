-- The text of what a planning call returns. Assumes nothing.
use Rattle.std.specs.Prelude.{List, ◌++◌, ℕ, ◌≤◌, get_or, Result, Ok, Err}
use Rattle.refusal.specs.Refusals.{number}
use Rattle.refusal.specs.declared.Refusal.{Refusal}
use Rattle.model.specs.Calls.{is_short, is_sparing}
use Rattle.playing.specs.declared.Counts.{Counts}
use Rattle.returning.specs.declared.Planned.{Planned}
use Rattle.returning.specs.declared.Mark.{Mark}
use Rattle.returning.specs.declared.Mark.TheVariants.{Short, Sparing}
use Rattle.texts.specs.Texts.{line_end, refusal_line}
use Rattle.report.specs.Report.{disk_lines, mark_word}

-- The lines of a plan: its mark and its rounds, and then each disk.
unfoldable pub plan_text : List ℕ → Counts → ℕ → List ℕ
unfolding line_end disk_lines
plan_text word c disks = word ++ (line_end c.rounds ++ disk_lines (λ d. get_or c.fetches d 0) disks)

abbrev pub text_by : Mark → Planned → ℕ → List ℕ
text_by Short p disks = plan_text (mark_word is_short) p.short disks
text_by Sparing p disks = plan_text (mark_word is_sparing) p.sparing disks

unfoldable pub text_of : Result Planned Refusal → ℕ → List ℕ
unfolding plan_text refusal_line
text_of (Ok p) disks = text_by p.mark p disks
text_of (Err refusal) disks = refusal_line (number refusal)

-- The rounds of a call's plans are as documents 01 and 02 bound them.
abbrev pub Small : Result Planned Refusal → Type 0
Small (Ok p) = (p.short.rounds ≤ 2048) × (p.sparing.rounds ≤ 2048)
Small (Err refusal) = Unit {0}
