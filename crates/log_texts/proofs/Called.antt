-- What a call over the three texts has of them: the first fault, or its outcome as one of what lies in the workspace and the table.
use Rattle.std.proofs.Common.{◌≡◌, ◌∙◌, List, ℕ, ℤ, take}
use Rattle.definition.specs.Checked.{Checked, fault, ◌>>=◌}
use Rattle.definition.specs.Literals.{Formula}
use Rattle.definition.specs.Text.{Bytes}
use Rattle.definition.specs.Standing.{Line}
use Rattle.definition.specs.Assignments.{Assignment}
use Rattle.definition.specs.Calls.{assigned, read_texts}
use Rattle.theory_base.specs.Slices.{between}
use Rattle.store.specs.Store.{stored}
use Rattle.answer.specs.Table.{marked}
use Rattle.drat.specs.Loaded.{lines_in}
use Rattle.carry.specs.declared.Direction.{Direction}
use Rattle.log_texts.specs.declared.Texts.{Texts}
use Rattle.log_texts.specs.Handed.{most, line_end, TextsRead}

-- an outcome made of the line's end, the formula, the lines and the assignment, once the texts are read
unfoldable pub after_texts : Direction → ℕ → ℕ → Bytes → Bytes → Bytes → (ℕ → Formula → List Line → Assignment → Checked Bytes) → Checked Bytes
after_texts d size kept formula log answer made =
    read_texts (most d) size kept formula log answer >>= λ t.
    made (line_end d t.input t.lines) t.input.formula t.lines (assigned t.named)

module _ (d : Direction) (size kept : ℕ) (formula log answer : Bytes) (made : ℕ → Formula → List Line → Assignment → Checked Bytes) {whole : Checked Bytes} (is : whole ≡ after_texts d size kept formula log answer made) where
  pub texts_refused : {n : ℕ} → read_texts (most d) size kept formula log answer ≡ fault n → whole ≡ fault n
  unfolding after_texts ◌>>=◌
  texts_refused e = is ∙ rw e

  pub texts_handed : {t : Texts} {work : List ℤ} {marks : Bytes} → TextsRead d (read_texts (most d) size kept formula log answer) t work marks →
      whole ≡ made t.variables (stored (take t.formula_end work)) (lines_in (between t.formula_end t.lines_end work)) (marked marks)
  unfolding after_texts ◌>>=◌
  texts_handed r = is ∙ rw (r.outcome, ← r.last, ← r.formula, ← r.lines, ← r.assignment)
