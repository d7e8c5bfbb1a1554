-- The outcome by what the reader answers, and the store after it. Assumes nothing.
use mathlib.Core.Path.{◌≡◌, refl, sym, ap, subst, ◌∙◌}
use Rattle.std.specs.Prelude.{Result, Ok, Err, is_err, true, false}
use mathlib.Core.List.{List, [], ◌∷◌, ◌++◌}
use Prim.Native.Nat.{ℕ, zero, suc, ◌+◌, ◌*◌, ◌-◌, ◌≤◌, ◌<◌}
use native.Mathlib.Omega.{arith}
use native.Mathlib.Numerals.{add-one}
use lib.IntN.{ℤ, pos}
use lib.ListN.{length, set, drop, replicate}
use lib.Seq.{sets-eq}
use borrow.Author.Tests.{lt-ltb, le-ltb}
use Rattle.definition.specs.Checked.{Checked, fault, ◌>>=◌, refuse_if}
use Rattle.definition.specs.Text.{Bytes}
use Rattle.definition.specs.Reading.{Limits, Input, read_back_limits, read_formula}
use Rattle.definition.specs.Calls.{workspace_need, numbers_of, read_back, buffer_after}
use Rattle.theory_text.proofs.Accepted.{accepted, read_highest}
use Rattle.refusals.specs.declared.Refusal.{Refusal}
use Rattle.refusals.specs.declared.Refusal.TheVariants.{ShortWorkspace}
use Rattle.refusals.specs.Numbers.{number}
use Rattle.refusals.specs.Outcomes.{outcome as outcome_said, showing}
use Rattle.dimacs.specs.declared.Limits as Code
use Rattle.dimacs.specs.declared.Formula as Dimacs
use Rattle.dimacs.specs.Limits.{limits_of}
use Rattle.dimacs.specs.Entries.{entries_of}
use Rattle.dimacs.specs.Outcome.{summary, Filled}
use Rattle.dimacs.proofs.Entries.{entries_numbers}
use Rattle.dimacs.proofs.Outcome.{FormulaIs, formula_told, formula_refused}
use Rattle.call_read_back.specs.declared.ReadBack.{ReadBack}
use Rattle.call_read_back.specs.Outcome.{outcome, told_of, Reads}

-- ---- by the reader's answer

module _ (t : Bytes) (m : Code.Limits) (k : limits_of m ≡ read_back_limits) (a : Result Dimacs.Formula Refusal) (p : outcome_said a ≡ showing summary (read_formula (limits_of m) t)) where
  at_limits : read_formula (limits_of m) t ≡ read_formula read_back_limits t
  at_limits = ap (λ (l : Limits). read_formula l t) k

  pub refused : (store : List ℤ) (n : Refusal) → a ≡ Err n → outcome store t ≡ fault (number n)
  unfolding read_back ◌>>=◌
  refused store n q = rw (sym at_limits ∙ formula_refused (read_formula (limits_of m) t) q p) refl

  module _ (f : Dimacs.Formula) (q : a ≡ Ok f) where
    pub found : FormulaIs (read_formula read_back_limits t) f
    found = rw at_limits at (formula_told (read_formula (limits_of m) t) q p)

    few : (length found.input.formula ≤ 300_000) × (f.filled ≡ f.literals + length found.input.formula)
    unfolding read_back_limits numbers_of
    few =
        let k = accepted read_back_limits t found.input found.is in
        (omega (arith, k.formula_few, k.clauses_few), omega (arith, found.literals, found.filled))

    -- what the clauses fill, less the literals, is the number of clauses
    pub clauses_left : (f.literals ≤ f.filled) × (f.filled - f.literals ≤ 300_000)
    clauses_left = (omega (arith, few.1), omega (arith, few.0, few.1))

    module _ (need : ℕ) (w : need ≡ 40 * f.literals + 4 * f.clauses + 12 * f.variables + 8_192) (store : List ℤ) where
      need_is : workspace_need found.input ≡ need
      unfolding workspace_need
      need_is = omega (arith, found.variables, found.clauses, found.literals, read_highest read_back_limits t found.input found.is)

      pub short : length store < need → outcome store t ≡ fault (number ShortWorkspace)
      unfolding read_back ◌>>=◌ refuse_if
      short h = rw (found.is, need_is, lt-ltb (length store) need h) refl

      filled_few : need ≤ length store → length (entries_of found.input) ≤ length store
      filled_few h = omega (arith, entries_numbers found.input.formula, found.filled, few.1, found.clauses, (accepted read_back_limits t found.input found.is).formula_few)

      pub back : need ≤ length store → (new : List ℤ) → Filled (read_formula (limits_of m) t) store new → Reads (outcome store t) store (Ok (record { variables = f.variables; clauses = f.filled - f.literals; literals = f.literals })) new
      unfolding read_back ◌>>=◌ refuse_if
      back h new z =
          let i = found.input in
          let e : f.filled - f.literals ≡ length i.formula = omega (arith, few.1) in
          let n : 0 + length (entries_of i) ≡ length (entries_of i) = omega arith in (
            i,
            rw (found.is, need_is, le-ltb (length store) need h) refl,
            cc (e, found.variables, found.literals),
            z i (at_limits ∙ found.is) ∙ sets-eq (entries_of i) store 0 (omega (arith, filled_few h)) ∙ ap (λ (k : ℕ). entries_of i ++ drop k store) n,
          )

-- ---- the store, made zero at a refusal

module _ (o : Checked Input) (old new : List ℤ) (a : Result ReadBack Refusal) (p : Reads o old a new) where
  -- what the answer says
  pub says : outcome_said a ≡ showing told_of o
  says = go a p
    where
      go : (b : Result ReadBack Refusal) → Reads o old b new → outcome_said b ≡ showing told_of o
      go (Err e) q = rw q refl
      go (Ok r) (i, e, s, n) = rw (e, s) refl

  -- by the test whether it is a refusal
  pub zero_after : {zeros : List ℤ} → is_err a ≡ true → length new ≡ length old → zeros ≡ replicate (length new) (pos 0) → zeros ≡ buffer_after (pos 0) o entries_of old
  unfolding buffer_after
  zero_after {zeros} t k z = go a p t
    where
      go : (b : Result ReadBack Refusal) → Reads o old b new → is_err b ≡ true → zeros ≡ buffer_after (pos 0) o entries_of old
      go (Err e) q t = rw q (z ∙ ap (λ (n : ℕ). replicate n (pos 0)) k)
      go (Ok r) q t = cc

  pub filled_after : is_err a ≡ false → new ≡ buffer_after (pos 0) o entries_of old
  unfolding buffer_after
  filled_after t = go a p t
    where
      go : (b : Result ReadBack Refusal) → Reads o old b new → is_err b ≡ false → new ≡ buffer_after (pos 0) o entries_of old
      go (Err e) q t = cc
      go (Ok r) (i, e, s, n) t = rw e n
