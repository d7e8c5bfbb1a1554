use Rattle.std.proofs.Common.{sym, ℕ, ℤ, pos}
use Rattle.std.proofs.lemmas.List.{length-replicate}
use Rattle.prog_walk_back.proofs.main.Goals as goal

pub slice_bounds-read_and_print-end : goal.slice_bounds-read_and_print-end
slice_bounds-read_and_print-end c = sym (length-replicate {A = ℕ} 524288 0)

pub slice_bounds-read_and_print-end-2 : goal.slice_bounds-read_and_print-end-2
slice_bounds-read_and_print-end-2 c = sym (length-replicate {A = ℕ} 1048576 0)

pub slice_bounds-read_and_print-end-3 : goal.slice_bounds-read_and_print-end-3
slice_bounds-read_and_print-end-3 c = sym (length-replicate {A = ℕ} 524288 0)

pub slice_bounds-read_and_print-end-4 : goal.slice_bounds-read_and_print-end-4
slice_bounds-read_and_print-end-4 c = sym (length-replicate {A = ℤ} 1048576 (pos 0))

pub slice_bounds-read_and_print-end-5 : goal.slice_bounds-read_and_print-end-5
slice_bounds-read_and_print-end-5 c = sym (length-replicate {A = ℕ} 65536 0)
