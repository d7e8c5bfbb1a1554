-- "Log and new formula": the texts.
use Rattle.std.specs.Prelude.{List, ◌++◌, ℕ, length}
use Rattle.definition.specs.Lists.{for_each}
use Rattle.definition.specs.Literals.{Clause, Formula}
use Rattle.definition.specs.Text.{Bytes, bytes, digits, literal_text}
use Rattle.definition.specs.Standing.{Line, addition, deletion}

-- the literals and `0`, single blanks, LF after
unfoldable pub clause_text : Clause → Bytes
clause_text c = for_each c (λ l. literal_text l ++ bytes " ") ++ bytes "0\n"

-- an added line is its literals and `0`; a deletion has `d` before
unfoldable pub log_line_text : Line → Bytes
log_line_text (addition c) = clause_text c
log_line_text (deletion c) = bytes "d " ++ clause_text c

unfoldable pub log_text : List Line → Bytes
log_text ss = for_each ss log_line_text

-- `p cnf H M`, then the standing clauses one a line, laid out like added lines
unfoldable pub formula_text : ℕ → Formula → Bytes
formula_text h f = bytes "p cnf " ++ digits h ++ bytes " " ++ digits (length f) ++ bytes "\n" ++ for_each f clause_text

-- all of this file, for a proof that computes: `unfolding computing` opens every name of the next line
unfoldable pub computing : Unit {0}
unfolding clause_text log_line_text log_text formula_text
computing = tt
