use Rattle.std.proofs.Common.{sym, ℕ, ℤ, pos}
use Rattle.std.proofs.lemmas.List.{length-replicate}
use Rattle.prog_common.proofs.reencode_input.Goals as goal

pub slice_bounds-print_reencoded-end : goal.slice_bounds-print_reencoded-end
slice_bounds-print_reencoded-end g c = sym (length-replicate {A = ℕ} 524288 0)

pub slice_bounds-print_reencoded-end-2 : goal.slice_bounds-print_reencoded-end-2
slice_bounds-print_reencoded-end-2 g c = sym (length-replicate {A = ℤ} 652192 (pos 0))

pub slice_bounds-print_reencoded-end-3 : goal.slice_bounds-print_reencoded-end-3
slice_bounds-print_reencoded-end-3 g c = sym (length-replicate {A = ℕ} 524288 0)

pub slice_bounds-print_reencoded-end-4 : goal.slice_bounds-print_reencoded-end-4
slice_bounds-print_reencoded-end-4 g c = sym (length-replicate {A = ℕ} 262144 0)
