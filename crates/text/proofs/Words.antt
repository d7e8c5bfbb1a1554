-- The law of the next word, for every test that parts words. Assumes nothing.
use mathlib.Core.Path.{◌≡◌, refl, sym, ap, ◌∙◌}
use mathlib.Core.Bool.{Bool, true, false, not, ◌&&◌, beq}
use mathlib.Core.List.{[], ◌∷◌}
use Prim.Native.Nat.{ℕ, ◌≤◌, ◌<◌}
use lib.Dec.{ltb, eqb}
use lib.Pointwise.{pointwise}
use lib.ListN.{drop}
use borrow.Author.Tests.{ltb-true, ltb-false, lt-ltb, le-ltb}
use Rattle.definition.specs.Text.{Bytes, words_by, same_bytes}
use Rattle.theory_base.proofs.Tests.{by_test}
use Rattle.text.specs.declared.Word.{Word}
use Rattle.std.proofs.Common.{Option, Some, None}
use Rattle.theory_text.specs.Runs.{in_run, run_end}
use Rattle.theory_text.proofs.Runs.{First, word_first, word_none}
use Rattle.text.specs.Words.{word_between, word_at}

-- a byte of a run, by what the test of separators says of it
pub of_run : (separates : ℕ → Bool) (parting : Bool) (b : ℕ) {r x : Bool} → r ≡ separates b → not (beq r parting) ≡ x → in_run separates parting b ≡ not x
of_run separates parting b {r} e h = go parting r e ∙ ap not h
  where
    go : (parting r : Bool) → r ≡ separates b → in_run separates parting b ≡ not (not (beq r parting))
    go true true e = sym e
    go true false e = sym e
    go false true e = ap not (sym e)
    go false false e = ap not (sym e)

module _ (separates : ℕ → Bool) (t : Bytes) (at : ℕ) where
  abbrev start : ℕ
  start = run_end separates true t at

  abbrev end : ℕ
  end = run_end separates false t start

  -- the answer from the ends of the two runs
  answer : (s e : ℕ) → s ≡ start → e ≡ run_end separates false t s → word_between s e ≡ word_at separates t at
  unfolding word_at
  answer s e p q = ap (word_between s) q ∙ ap (λ (k : ℕ). word_between k (run_end separates false t k)) p

  pub answer_word : (s e : ℕ) → s ≡ start → e ≡ run_end separates false t s → s < e → Some (record { start = s; end = e }) ≡ word_at separates t at
  answer_word s e p q h = rw (lt-ltb s e h) at (answer s e p q)

  pub answer_end : (s e : ℕ) → s ≡ start → e ≡ run_end separates false t s → e ≤ s → None ≡ word_at separates t at
  answer_end s e p q h = rw (le-ltb s e h) at (answer s e p q)

  -- what an answer says of the words
  abbrev pub Says : Option Word → Type 0
  Says (Some w) = First separates t at w.start w.end
  Says None = words_by separates (drop at t) ≡ []

  pub word_says : Says (word_at separates t at)
  unfolding word_at
  word_says = by_test (ltb start end) (λ e. rw e (word_first separates t at (ltb-true start end e))) (λ e. rw e (word_none separates t at (ltb-false start end e)))

  -- by an answer that a function gave
  pub word_answer : {w : Option Word} → w ≡ word_at separates t at → Says w
  word_answer e = rw e word_says

-- ---- what a line begins with

pub pointwise_same : (p t : Bytes) → pointwise eqb p t ≡ same_bytes p t
unfolding same_bytes
pointwise_same [] [] = refl
pointwise_same [] (c ∷ u) = refl
pointwise_same (b ∷ t) [] = refl
pointwise_same (b ∷ t) (c ∷ u) = ap (λ (x : Bool). eqb b c && x) (pointwise_same t u)
