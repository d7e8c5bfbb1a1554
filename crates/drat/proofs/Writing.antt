-- A proof line written: its clause with or without `d`, and into what is left of a buffer.
use Rattle.std.proofs.Common.{◌≡◌, [], ◌∷◌, ◌++◌, ℕ, ◌+◌, ◌-◌, min, length, take, drop, Bor, arith}
use Rattle.definition.specs.Literals.{Clause}
use Rattle.definition.specs.Text.{Bytes, bytes}
use Rattle.definition.specs.Log.{clause_text, log_line_text}
use Rattle.text.specs.Output.{Put}
use Rattle.text.proofs.Output.{put_then}
use Rattle.theory_base.proofs.Parts.{sets_capped}
use Rattle.drat.specs.declared.ProofLine.{ProofLine}
use Rattle.drat.specs.Lines.{line_clause, line_said}

-- ---- a line

module _ {line : ProofLine} {c : Bor Clause} where
  pub addition_size : line ≡ ProofLine.Addition c → length (line_clause line) ≡ length c.now
  addition_size e = rw e

  pub deletion_size : line ≡ ProofLine.Deletion c → length (line_clause line) ≡ length c.now
  deletion_size e = rw e

  pub addition_put : {l n : Bytes} {r : ℕ} → line ≡ ProofLine.Addition c → Put l 0 (clause_text c.now) r n → Put l 0 (log_line_text (line_said line)) r n
  unfolding log_line_text
  addition_put e p = rw e p

  pub deletion_put : {l m n k : Bytes} {a b r : ℕ} → line ≡ ProofLine.Deletion c → Put l 0 (100 ∷ []) a m → Put m a (32 ∷ []) b n → Put n b (clause_text c.now) r k → Put l 0 (log_line_text (line_said line)) r k
  unfolding log_line_text bytes
  deletion_put e p q s = rw e (put_then (put_then p q) s)

-- ---- a text in what is left of a buffer

pub rest_put : {l n xs : Bytes} {r : ℕ} (at start : ℕ) → start ≡ min at (length l) → Put (take (length l - start) (drop start l)) 0 xs r n → Put l at xs (at + r) (take start l ++ (n ++ drop (length l - start) (drop start l)))
rest_put {l} {n} {xs} at start m p = record { next = omega (arith, p.next); kept = sets_capped xs l n at start m p.kept }
