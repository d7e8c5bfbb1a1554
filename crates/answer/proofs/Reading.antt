-- An answer read word by word and line by line: what is read so far and the outcome of what follows lead to the outcome of the whole.
use Rattle.text.proofs.Numbers.{number_answer}
use mathlib.Core.Path.{◌≡◌, refl, sym, ap, subst}
use mathlib.Core.Bool.{true, false, not, ◌&&◌, ◌||◌, and-false}
use mathlib.Core.List.{List, [], ◌∷◌, ◌++◌}
use Prim.Native.Nat.{ℕ, ◌≤◌, ◌<◌}
use native.Mathlib.Omega.{arith}
use lib.Dec.{eqb}
use lib.IntN.{ℤ, neg_ℤ, nat_abs}
use lib.ListN.{length, get_or, drop, replicate}
use borrow.Author.Tests.{eq-eqb, ne_eqb, lt-ltb, le-ltb}
use Rattle.definition.specs.Checked.{Checked, fault, ◌>>=◌, refuse_if, or_fault, through}
use Rattle.definition.specs.Text.{Bytes, bytes, same_bytes, words_by, TextLine, text_lines, line_text, number}
use Rattle.definition.specs.Literals.{Clause, holds}
use Rattle.definition.specs.Answer.{Answer, begins_with, space_or_tab, read_answer_word, read_answer_line, read_answer}
use Rattle.text.specs.declared.NumberError.TheVariants.{TooLarge, NotANumber}
use Rattle.text.specs.Numbers.{number_class}
use Rattle.std.proofs.Common.{Result, Ok, Err}
use Rattle.refusals.specs.declared.Refusal.{Refusal}
use Rattle.refusals.specs.Numbers.{number as number_of}
use Rattle.answer.specs.declared.State.{State}
use Rattle.answer.specs.declared.State.TheVariants.{Waiting, Open, Closed}
use Rattle.answer.specs.Table.{Table, naming}
use Rattle.theory_base.specs.Slices.{between}
use Rattle.theory_text.specs.TextLines.{FirstLine}
use Rattle.answer.specs.Reading.{waiting_at, open_at, closed_at, read_literal, Stands, Reached, Steps, StepsOpen, closing, Ends, ReadAs}
use Rattle.answer.proofs.Table.{variable_named, table_start, table_naming}

-- ---- a number before the closing `0`

module _ (x : ℕ) (l : ℤ) (m : Bytes) where
  pub literal_zero : nat_abs l ≡ 0 → StepsOpen (λ c. read_literal x c l) m (Ok Closed) m
  unfolding read_literal
  literal_zero e = λ c t. (closed_at c, rw (eq-eqb 0 (nat_abs l) (sym e)) refl, (c, refl, t))

  not_zero : (nat_abs l ≡ 0 → ⊥) → eqb 0 (nat_abs l) ≡ false
  not_zero n = ne_eqb 0 (nat_abs l) (λ e. n (sym e))

  twice_named : (nat_abs l ≡ 0 → ⊥) → (c : Clause) → Table c m → holds l c || holds (neg_ℤ l) c ≡ not (eqb (get_or m (nat_abs l) 0) 0)
  twice_named n c t = variable_named c m t l (λ e. n (ap nat_abs e))

  pub literal_above : (nat_abs l ≡ 0 → ⊥) → x < nat_abs l → (c : Clause) → Table c m → read_literal x c l ≡ fault 42
  unfolding read_literal refuse_if
  literal_above n h c t = rw (not_zero n, lt-ltb x (nat_abs l) h) refl

  pub literal_twice : (nat_abs l ≡ 0 → ⊥) → nat_abs l ≤ x → 0 < get_or m (nat_abs l) 0 → (c : Clause) → Table c m → read_literal x c l ≡ fault 43
  unfolding read_literal refuse_if
  literal_twice n h k c t = rw (not_zero n, le-ltb x (nat_abs l) h, twice_named n c t, ne_eqb (get_or m (nat_abs l) 0) 0 (λ e. omega arith)) refl

  pub literal_named : (nat_abs l ≡ 0 → ⊥) → nat_abs l ≤ x → x < length m → get_or m (nat_abs l) 0 ≤ 0 → StepsOpen (λ c. read_literal x c l) m (Ok Open) (naming l m)
  unfolding read_literal refuse_if
  literal_named n h b k =
      let e : get_or m (nat_abs l) 0 ≡ 0 = omega arith in
      λ c t. (
        open_at (c ++ (l ∷ [])),
        rw (not_zero n, le-ltb x (nat_abs l) h, twice_named n c t, eq-eqb (get_or m (nat_abs l) 0) 0 e) refl,
        (c ++ (l ∷ []), refl, table_naming c m t l (omega arith) e),
      )

-- ---- a word before the closing `0`: what the number read says of it

module _ (x : ℕ) (w : Bytes) where
  word_literal : (l : ℤ) → Ok l ≡ number_class (number w) → (c : Clause) → read_literal x c l ≡ read_answer_word x (open_at c) w
  unfolding read_answer_word read_literal refuse_if or_fault ◌>>=◌
  word_literal l e c = let r = number_answer (number w) e in rw r.0 refl

  pub word_number : (l : ℤ) (m : Bytes) (q : Result State Refusal) (after : Bytes) → Ok l ≡ number_class (number w) → StepsOpen (λ c. read_literal x c l) m q after → StepsOpen (λ c. read_answer_word x (open_at c) w) m q after
  word_number l m q after e s = λ c t. rw (word_literal l e c) at (s c t)

  pub word_large : x ≤ 70_000 → Err TooLarge ≡ number_class (number w) → (c : Clause) → read_answer_word x (open_at c) w ≡ fault 42
  unfolding read_answer_word refuse_if or_fault ◌>>=◌
  word_large h e c = let r = number_answer (number w) e in rw (r.1, ne_eqb 0 (nat_abs r.0) (λ q. omega (arith, r.2)), lt-ltb x (nat_abs r.0) (omega (arith, r.2))) refl

  pub word_none : Err NotANumber ≡ number_class (number w) → (c : Clause) → read_answer_word x (open_at c) w ≡ fault 41
  unfolding read_answer_word refuse_if or_fault ◌>>=◌
  word_none e c = rw (number_answer (number w) e) refl

  -- ---- a word, by what is read before it
  module _ (m : Bytes) (q : Result State Refusal) (after : Bytes) (s : StepsOpen (λ c. read_answer_word x (open_at c) w) m q after) where
    pub word_waiting : Steps (λ a. read_answer_word x a w) Waiting m q after
    unfolding read_answer_word
    word_waiting = λ a r. rw r.0 (s [] r.1)

    pub word_open : Steps (λ a. read_answer_word x a w) Open m q after
    word_open = λ a r. rw r.1 (s r.0 r.2)

  pub word_closed : (m : Bytes) (a : Answer) → Stands Closed m a → read_answer_word x a w ≡ fault 41
  unfolding read_answer_word refuse_if
  word_closed m a r = rw r.1 refl

-- ---- a walk through the words of a line, or the lines of a text

-- the answer so far stands, and what follows leads from it to the whole
pub record Walked (p : State) (m : Bytes) (rest : Answer → Checked Answer) (whole : Checked Answer) : Type 0 where
  so_far : Answer
  stands : Stands p m so_far
  pub leads : rest so_far ≡ whole

module _ {W : Type 0} (step : Answer → W → Checked Answer) where
  pub walked_start : (p : State) (m : Bytes) (s : Answer) (ws : List W) → Stands p m s → Walked p m (λ a. through step a ws) (through step s ws)
  walked_start p m s ws r = record { so_far = s; stands = r; leads = refl }

  module _ (p : State) (m : Bytes) (after : Bytes) (w : W) (ws vs : List W) (whole : Checked Answer) (e : vs ≡ w ∷ ws) (k : Walked p m (λ a. through step a vs) whole) where
    pub walked_step : (q : State) → Steps (λ a. step a w) p m (Ok q) after → Walked q after (λ a. through step a ws) whole
    unfolding through ◌>>=◌
    walked_step q s = let r = s k.so_far k.stands in record { so_far = r.0; stands = r.2; leads = rw (e, r.1) at k.leads }

    pub walked_fault : (n : Refusal) → Steps (λ a. step a w) p m (Err n) after → whole ≡ fault (number_of n)
    unfolding through ◌>>=◌
    walked_fault n s = let r = s k.so_far k.stands in sym (rw (e, r) at k.leads)

  pub walked_end : (p : State) (m : Bytes) (ws : List W) (whole : Checked Answer) → ws ≡ [] → Walked p m (λ a. through step a ws) whole → Reached (Ok p) m whole
  unfolding through
  walked_end p m ws whole e k = (k.so_far, sym (rw e at k.leads), k.stands)

-- ---- a line, by what is read before it

module _ (x : ℕ) (t m : Bytes) where
  abbrev LineSteps : State → Result State Refusal → Bytes → Type 0
  LineSteps p q after = Steps (λ a. read_answer_line x a t) p m q after

  -- the line is refused
  abbrev Refused : State → Type 0
  Refused p = (a : Answer) → Stands p m a → read_answer_line x a t ≡ fault 41

  pub line_comment : begins_with (bytes "c") t ≡ true → (p : State) → LineSteps p (Ok p) m
  unfolding read_answer_line
  line_comment e p a r = (a, rw e refl, r)

  module _ (e : begins_with (bytes "c") t ≡ false) where
    pub line_status : same_bytes t (bytes "s SATISFIABLE") ≡ true → LineSteps Waiting (Ok Open) m
    unfolding read_answer_line
    line_status s a r = (open_at [], rw (r.0, e, s) refl, ([], refl, r.1))

    pub line_waiting : same_bytes t (bytes "s SATISFIABLE") ≡ false → Refused Waiting
    unfolding read_answer_line refuse_if
    line_waiting s a r = rw (r.0, e, s, and-false (begins_with (bytes "v ") t)) refl

    pub line_values : (q : Result State Refusal) (after : Bytes) → begins_with (bytes "v ") t ≡ true → StepsOpen (λ c. through (read_answer_word x) (open_at c) (words_by space_or_tab (drop 2 t))) m q after → LineSteps Open q after
    unfolding read_answer_line refuse_if
    line_values q after v s a r = rw (r.1, e, and-false (same_bytes t (bytes "s SATISFIABLE")), v) (s r.0 r.2)

    pub line_open : begins_with (bytes "v ") t ≡ false → Refused Open
    unfolding read_answer_line refuse_if
    line_open v a r = rw (r.1, e, and-false (same_bytes t (bytes "s SATISFIABLE")), v) refl

    pub line_closed : Refused Closed
    unfolding read_answer_line refuse_if
    line_closed a r = rw (r.1, e, and-false (same_bytes t (bytes "s SATISFIABLE")), and-false (begins_with (bytes "v ") t && true)) refl

-- ---- the text's end

pub ends_waiting : (m : Bytes) (a : Answer) → Stands Waiting m a → closing a ≡ fault 41
unfolding closing refuse_if
ends_waiting m a r = rw r.0 refl

pub ends_open : (m : Bytes) (a : Answer) → Stands Open m a → closing a ≡ fault 41
unfolding closing refuse_if
ends_open m a r = rw r.1 refl

pub ends_closed : (m : Bytes) (a : Answer) → Stands Closed m a → ReadAs (closing a) (Ok tt) m
unfolding closing refuse_if
ends_closed m a r = (r.0, rw r.1 refl, r.2)

-- ---- the lines of a text

abbrev line_step : ℕ → Answer → TextLine → Checked Answer
line_step x a l = read_answer_line x a (line_text l)

module _ (x : ℕ) (t : Bytes) where
  -- the lines from a place on lead from what is read to the outcome of all lines
  abbrev pub LinesWalked : ℕ → State → Bytes → Type 0
  LinesWalked at p m = Walked p m (λ a. through (line_step x) a (text_lines (drop at t))) (through (line_step x) waiting_at (text_lines t))

  pub lines_start : (n : ℕ) (m : Bytes) → m ≡ replicate n 0 → LinesWalked 0 Waiting m
  lines_start n m e = walked_start (line_step x) Waiting m waiting_at (text_lines t) (refl, rw e (table_start n))

  module _ {at start end next : ℕ} (p : State) (m after : Bytes) (f : FirstLine t at start end next) (k : LinesWalked at p m) where
    abbrev ThisLine : Result State Refusal → Type 0
    ThisLine q = Steps (λ a. read_answer_line x a (between start end t)) p m q after

    of_line : (q : Result State Refusal) → ThisLine q → Steps (λ a. line_step x a f.line) p m q after
    of_line q = subst (λ (w : Bytes). Steps (λ a. read_answer_line x a w) p m q after) (sym f.text)

    pub lines_step : (q : State) → ThisLine (Ok q) → LinesWalked next q after
    lines_step q s = walked_step (line_step x) p m after f.line (text_lines (drop next t)) (text_lines (drop at t)) _ f.lines k q (of_line (Ok q) s)

    pub lines_fault : (n : Refusal) → ThisLine (Err n) → read_answer x t ≡ fault (number_of n)
    unfolding read_answer ◌>>=◌
    lines_fault n s = rw (walked_fault (line_step x) p m after f.line (text_lines (drop next t)) (text_lines (drop at t)) _ f.lines k n (of_line (Err n) s)) refl

  pub lines_end : (at : ℕ) (p : State) (m : Bytes) (r : Result (Unit {0}) Refusal) → text_lines (drop at t) ≡ [] → LinesWalked at p m → Ends p r → ReadAs (read_answer x t) r m
  unfolding read_answer closing ◌>>=◌
  lines_end at p m r e k ends = let w = walked_end (line_step x) p m (text_lines (drop at t)) _ e k in rw w.1 (ends m w.0 w.2)
