-- `page::main` does nothing undefined, and returns: what is printed fits the buffer. Assumes nothing.
use Rattle.std.proofs.Common.{ℕ, ◌≡◌, ◌≤◌, List, length, sym, arith}
use Rattle.std.proofs.lemmas.List.{length-take-le}
use Rattle.page_text.proofs.PagePrinted.{Printed, printed-within}
use Rattle.page.proofs.main.Goals as goal

fits : (t out : List ℕ) {after : List ℕ} {n : ℕ} → 278613 ≡ length out → Printed t out after n → n ≤ length after
fits t out e = printed-within t out (omega (arith, e))

pub slice_bounds-text-end : goal.slice_bounds-text-end
slice_bounds-text-end c = fits _ c.zeros-text.result c.zeros-text.ensures (c.page-m.ensures.bytes, c.page-m.ensures.count)

pub slice_bounds-write_all-end : goal.slice_bounds-write_all-end
slice_bounds-write_all-end c =
    sym (length-take-le c.page-m.result c.page-m.new.out (fits _ c.zeros-text.result c.zeros-text.ensures (c.page-m.ensures.bytes, c.page-m.ensures.count)))
