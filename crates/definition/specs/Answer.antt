-- "Walk-back" and "Who can be turned back", 41 to 43: reading a solver's answer.
use Rattle.std.specs.Prelude.{Bool, true, false, not, ◌&&◌, ◌||◌, cond, [], ◌∷◌, ◌++◌, ℕ, eqb, ltb, neg_ℤ, nat_abs, length, take, drop}
use Rattle.definition.specs.Checked.{Checked, value, ◌>>=◌, refuse_if, or_fault, through}
use Rattle.definition.specs.Literals.{Clause, holds}
use Rattle.definition.specs.Text.{Bytes, bytes, is, text_lines, line_text, same_bytes, words_by, number}

-- how far an answer is read: the `s` line, the closing `0`, the literals named
pub record Answer : Type 0 where
  pub begun : Bool
  pub closed : Bool
  pub named : Clause

unfoldable pub begins_with : Bytes → Bytes → Bool
begins_with p t = same_bytes p (take (length p) t)

unfoldable pub space_or_tab : ℕ → Bool
space_or_tab b = is " " b || is "\t" b

-- a number of a `v ` line: nothing after the `0`, no variable above X, none twice
unfoldable pub read_answer_word : ℕ → Answer → Bytes → Checked Answer
read_answer_word x a w =
    refuse_if a.closed 41
    (or_fault (number w) 41 >>= λ l.
    cond (eqb 0 (nat_abs l)) (value (record { begun = true; closed = true; named = a.named }))
    (refuse_if (ltb x (nat_abs l)) 42
    (refuse_if (holds l a.named || holds (neg_ℤ l) a.named) 43
    (value (record { begun = true; closed = false; named = a.named ++ (l ∷ []) })))))

-- lines beginning `c` anywhere; one `s SATISFIABLE` line, then `v ` lines up to the `0`
unfoldable pub read_answer_line : ℕ → Answer → Bytes → Checked Answer
read_answer_line x a t =
    cond (begins_with (bytes "c") t) (value a)
    (cond (same_bytes t (bytes "s SATISFIABLE") && not a.begun)
    (value (record { begun = true; closed = false; named = [] }))
    (refuse_if (not (begins_with (bytes "v ") t && a.begun && not a.closed)) 41
    (through (read_answer_word x) a (words_by space_or_tab (drop 2 t)))))

-- the literals that an answer names, with X the highest variable allowed
unfoldable pub read_answer : ℕ → Bytes → Checked Clause
read_answer x t =
    through (λ a l. read_answer_line x a (line_text l)) (record { begun = false; closed = false; named = [] }) (text_lines t) >>= λ a.
    refuse_if (not a.closed) 41 (value a.named)

-- all of this file, for a proof that computes: `unfolding computing` opens every name of the next line
unfoldable pub computing : Unit {0}
unfolding begins_with space_or_tab read_answer_word read_answer_line read_answer
computing = tt
