-- The lines of a text met in a walk over it: where a line ends, its CR left out, and what it begins with.
use mathlib.Core.Path.{◌≡◌, refl, sym, ap, ◌∙◌}
use mathlib.Core.Bool.{true, false, ◌&&◌}
use mathlib.Core.List.{[], ◌∷◌, ◌++◌, append-nil}
use Prim.Native.Nat.{ℕ, suc, ◌+◌, ◌-◌, ◌≤◌, ◌<◌}
use Prim.Native.Char.{code}
use native.Mathlib.Omega.{arith}
use native.Mathlib.Numerals.{add-one}
use lib.Dec.{eqb}
use lib.ListN.{length-take, length, get_or, take, drop, length-drop, drop_of_length-le}
use lib.Seq.{take-length, drop-cons}
use borrow.Author.Tests.{eq-eqb, ne_eqb}
use Rattle.definition.specs.Text.{Bytes, is, text_lines, without_last_cr, line_text, same_bytes}
use Rattle.definition.specs.Answer.{begins_with}
use Rattle.theory_base.specs.Slices.{between}
use Rattle.theory_base.proofs.Parts.{between_none, between_snoc, between_then}
use Rattle.theory_base.proofs.Tests.{to_true, to_false, second_holds}
use Rattle.theory_text.proofs.Words.{free-++, first_line, past_line, last_cr, last_line, same_length, same_turned}
use Rattle.theory_text.specs.Words.{Free}
use Rattle.theory_text.specs.TextLines.{LineEnd, Trimmed, FirstLine}

-- ---- a CR at the end

module _ (t : Bytes) (start end : ℕ) where
  last_byte : start < end → end ≤ length t → between start end t ≡ between start (end - 1) t ++ (get_or t (end - 1) 0 ∷ [])
  last_byte h k = let e : end - 1 + 1 ≡ end = omega arith in ap (λ (i : ℕ). between start i t) (sym e) ∙ between_snoc start (end - 1) t 0 (omega arith) (omega arith)

  pub trimmed_cr : start < end → end ≤ length t → get_or t (end - 1) 0 ≡ 13 → Trimmed t start end (end - 1)
  unfolding is
  trimmed_cr h k e = record {
    after = omega arith;
    before = omega arith;
    text = sym (ap without_last_cr (last_byte h k) ∙ last_cr (between start (end - 1) t) (get_or t (end - 1) 0) ∙ (rw e refl));
  }

  pub trimmed_none : start < end → end ≤ length t → (get_or t (end - 1) 0 ≡ 13 → ⊥) → Trimmed t start end end
  unfolding is
  trimmed_none h k n = record {
    after = omega arith;
    before = omega arith;
    text = sym (ap without_last_cr (last_byte h k) ∙ last_cr (between start (end - 1) t) (get_or t (end - 1) 0) ∙ (rw (ne_eqb (get_or t (end - 1) 0) 13 n) refl) ∙ sym (last_byte h k));
  }

  pub trimmed_empty : start ≡ end → Trimmed t start end end
  unfolding without_last_cr
  trimmed_empty e = record { after = omega arith; before = omega arith; text = rw (← e, between_none start t) refl }

-- ---- the line

module _ (t : Bytes) (at end : ℕ) (h : at < length t) (e : LineEnd t at end) where
  -- the text ends it
  pub line_last : end ≡ length t → FirstLine t at at end end
  unfolding line_text text_lines
  line_last q = record {
    line = record { text = between at end t; ended = false };
    lines = ap text_lines whole ∙ last_line (between at end t) some e.no_newline ∙ ap (λ (r : Bytes). record { text = between at end t; ended = false } ∷ text_lines r) (sym none);
    text = refl;
    rest = drop_of_length-le (drop at t) {i = suc (length (between at end t))} (omega (arith, ap length whole)) ∙ sym none;
    ordered = e.after;
    before = omega arith;
    forward = omega arith;
    within = e.within;
  }
    where
      none : drop end t ≡ []
      none = drop_of_length-le t {i = end} (omega arith)

      whole : drop at t ≡ between at end t
      whole = between_then at end t e.after ∙ ap (λ (r : Bytes). between at end t ++ r) none ∙ append-nil (between at end t)

      some : 1 ≤ length (between at end t)
      some = omega (arith, ap length whole, length-drop at t)

  -- LF ends it
  pub line_ended : (trimmed : ℕ) → end < length t → Trimmed t at end trimmed → FirstLine t at at trimmed (end + 1)
  unfolding line_text
  line_ended trimmed q r = record {
    line = record { text = between at end t; ended = true };
    lines = ap text_lines whole ∙ first_line (between at end t) (drop (end + 1) t) e.no_newline;
    text = sym r.text;
    rest = ap (drop (suc (length (between at end t)))) whole ∙ past_line (between at end t) (code "\n") (drop (end + 1) t);
    ordered = r.after;
    before = omega (arith, r.before);
    forward = omega (arith, e.after);
    within = omega arith;
  }
    where
      whole : drop at t ≡ between at end t ++ code "\n" ∷ drop (end + 1) t
      whole = between_then at end t e.after ∙ ap (λ (r : Bytes). between at end t ++ r) (drop-cons t end 0 q ∙ ap (λ (b : ℕ). b ∷ drop (suc end) t) (e.stops q) ∙ ap (λ (i : ℕ). code "\n" ∷ drop i t) (sym (add-one end)))

pub lines_none : (t : Bytes) (at : ℕ) → length t ≤ at → text_lines (drop at t) ≡ []
unfolding text_lines
lines_none t at h = rw (drop_of_length-le t {i = at} h) refl
