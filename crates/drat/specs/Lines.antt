-- A proof line from its parts.
use Rattle.std.specs.Prelude.{◌≡◌, refl, Bool, true, false, [], ◌∷◌, pos, negsuc}
use Rattle.definition.specs.Lists as Lists
use Rattle.definition.specs.Literals.{Clause}
use Rattle.definition.specs.Text.{bytes}
use Rattle.definition.specs.Text as Text
use Rattle.definition.specs.Standing.{Line, addition, deletion}
use Rattle.definition.specs.Log.{log_line_text}
use Rattle.definition.specs.Log as Log
use Rattle.drat.specs.declared.ProofLine.{ProofLine}

-- the line of a clause, by whether it is a deletion
abbrev pub line_of : Bool → Clause → Line
line_of true c = deletion c
line_of false c = addition c

-- the clause of a proof line
abbrev pub line_clause : ProofLine → Clause
line_clause (ProofLine.Addition c) = c.now
line_clause (ProofLine.Deletion c) = c.now

-- the line that a proof line says
abbrev pub line_said : ProofLine → Line
line_said (ProofLine.Addition c) = addition c.now
line_said (ProofLine.Deletion c) = deletion c.now

examples : (log_line_text (line_of true (pos 12 ∷ negsuc 6 ∷ [])) ≡ bytes "d 12 -7 0\n") × (log_line_text (line_of false []) ≡ bytes "0\n")
unfolding Log.computing Text.computing Lists.computing
examples = (refl, refl)
