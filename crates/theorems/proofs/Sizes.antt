-- Sizes beforehand: by the outcome of the run, then by the three tests of the room.
use mathlib.Core.Path.{◌≡◌, refl, sym, ◌∙◌, subst}
use mathlib.Core.Bool.{Bool, true, false}
use mathlib.Core.Logic.{◌⊎◌, inl, inr}
use mathlib.Core.List.Memᴰ.{head as here}
use mathlib.Core.List.Memᴰ.{tail as there}
use mathlib.Core.List.{[], ◌∷◌, Memᴰ}
use Prim.Native.Nat.{ℕ, ◌≤◌, ◌<◌}
use native.Mathlib.Omega.{arith}
use lib.Dec.{ltb}
use lib.ListN.{length}
use borrow.Author.Tests.{lt-ltb, le-ltb}
use Rattle.definition.specs.Checked.{Checked, fault, value, ◌>>=◌, refuse_if}
use Rattle.definition.specs.Text.{Bytes}
use Rattle.definition.specs.Reading.{Input}
use Rattle.definition.specs.Reencoding.{Settings}
use Rattle.definition.specs.Calls.{read_input, Tally, Reencoded, reencoded, limited, run, fitted, reencode, sizes}
use Rattle.theory_base.proofs.Outcomes.{refuse_value, bind_value}
use Rattle.theory_run.proofs.Table.{table_length}
use Rattle.theorems.specs.Sizes.{OfRun, Fills, Told, SizingHolds}

-- ---- the run over an input

of_reencoded : (s : Settings) (i : Input) → OfRun s i (reencoded s i).tally
unfolding reencoded
of_reencoded s i = record { choices = refl; highest = refl; clauses = refl; lines = refl; log_bytes = refl; formula_bytes = refl }

fills : (s : Settings) (i : Input) → Fills (reencoded s i).tally (reencoded s i)
unfolding reencoded
fills s i = record { tally = refl; log = refl; formula = refl; table = table_length s i }

-- ---- a result, by the room for it

module _ (r : Reencoded) (filled : Fills r.tally r) (log_room formula_room table_room : ℕ) where
  table_short : table_room < r.tally.choices → fitted table_room log_room formula_room r ≡ fault 17
  unfolding fitted refuse_if
  table_short h = rw (lt-ltb table_room r.tally.choices h) refl

  module _ (h : r.tally.choices ≤ table_room) where
    log_short : log_room < r.tally.log_bytes → fitted table_room log_room formula_room r ≡ fault 12
    unfolding fitted refuse_if
    log_short k = rw (le-ltb table_room r.tally.choices h, lt-ltb log_room (length r.log) (omega (arith, filled.log))) refl

    module _ (k : r.tally.log_bytes ≤ log_room) where
      formula_short : formula_room < r.tally.formula_bytes → fitted table_room log_room formula_room r ≡ fault 13
      unfolding fitted refuse_if
      formula_short m = rw (le-ltb table_room r.tally.choices h, le-ltb log_room (length r.log) (omega (arith, filled.log)), lt-ltb formula_room (length r.formula) (omega (arith, filled.formula))) refl

      all_fit : r.tally.formula_bytes ≤ formula_room → fitted table_room log_room formula_room r ≡ value r
      unfolding fitted refuse_if
      all_fit m = rw (le-ltb table_room r.tally.choices h, le-ltb log_room (length r.log) (omega (arith, filled.log)), le-ltb formula_room (length r.formula) (omega (arith, filled.formula))) refl

-- a refusal for want of room is 17, 12 or 13
fitted_fault : (table_room log_room formula_room n : ℕ) (r : Reencoded) → fitted table_room log_room formula_room r ≡ fault n → Memᴰ n (12 ∷ 13 ∷ 17 ∷ [])
unfolding fitted refuse_if
fitted_fault table_room log_room formula_room n r e = go (ltb table_room r.tally.choices) (ltb log_room (length r.log)) (ltb formula_room (length r.formula)) e
  where
    go : (a b c : Bool) → refuse_if a 17 (refuse_if b 12 (refuse_if c 13 (value r))) ≡ fault n → Memᴰ n (12 ∷ 13 ∷ 17 ∷ [])
    go true b c e = let z : n ≡ 17 = cc in there (there (here z))
    go false true c e = let z : n ≡ 12 = cc in here z
    go false false true e = let z : n ≡ 13 = cc in there (here z)
    go false false false e = absurd (let z : ◌≡◌ {A = ℕ} 0 1 = cc in omega arith)

-- a result is given as it is
fitted_value : (table_room log_room formula_room : ℕ) (r u : Reencoded) → fitted table_room log_room formula_room r ≡ value u → u ≡ r
unfolding fitted
fitted_value table_room log_room formula_room r u e =
    let d = (refuse_value _ 13 _ u (refuse_value _ 12 _ u (refuse_value _ 17 _ u e).1).1).1 in
    let z : u ≡ r = cc d in
    z

-- ---- the calls, by the outcome of the run

module _ (s : Settings) (workspace : ℕ) (t : Bytes) where
  -- a run that gives a result is that of an input
  run_result : (r : Reencoded) → run s workspace t ≡ value r → (i : Input) × (read_input t ≡ value i) × (reencoded s i ≡ r)
  unfolding run limited
  run_result r e =
      let b = bind_value (read_input t) _ r (refuse_value _ 15 _ r e).1 in
      let d = (refuse_value _ 16 _ r (refuse_value _ 11 _ r b.2).1).1 in
      let z : reencoded s b.0 ≡ r = cc d in
      (b.0, b.1, z)

  run_fills : (r : Reencoded) → run s workspace t ≡ value r → Fills r.tally r
  run_fills r e = let i = run_result r e in subst (λ (u : Reencoded). Fills u.tally u) i.2 (fills s i.0)

  sized : (x : Tally) → sizes s workspace t ≡ value x → (r : Reencoded) × (run s workspace t ≡ value r) × (r.tally ≡ x)
  unfolding sizes
  sized x e =
      let b = bind_value (run s workspace t) (λ r. value r.tally) x e in
      let z : b.0.tally ≡ x = cc b.2 in
      (b.0, b.1, z)

  -- what follows a run
  module _ {o : Checked Reencoded} (e : run s workspace t ≡ o) where
    sizes_after : sizes s workspace t ≡ (o >>= λ r. value r.tally)
    unfolding sizes
    sizes_after = rw e refl

    reencode_after : (log_room formula_room table_room : ℕ) → reencode s workspace log_room formula_room table_room t ≡ (o >>= fitted table_room log_room formula_room)
    unfolding reencode
    reencode_after log_room formula_room table_room = rw e refl

  told_here : (r : Reencoded) → run s workspace t ≡ value r → (log_room formula_room table_room : ℕ) → Told s workspace t r.tally log_room formula_room table_room
  unfolding ◌>>=◌
  told_here r e log_room formula_room table_room =
      let f = run_fills r e in
      let then = reencode_after e log_room formula_room table_room in
      record {
        enough = λ k m h. (r, then ∙ all_fit r f log_room formula_room table_room h k m, f);
        table_short = λ h. then ∙ table_short r f log_room formula_room table_room h;
        log_short = λ h k. then ∙ log_short r f log_room formula_room table_room h k;
        formula_short = λ h k m. then ∙ formula_short r f log_room formula_room table_room h k m;
      }

  refusals_from : (log_room formula_room table_room n : ℕ) (o : Checked Reencoded) → run s workspace t ≡ o → reencode s workspace log_room formula_room table_room t ≡ fault n → (sizes s workspace t ≡ fault n) ⊎ Memᴰ n (12 ∷ 13 ∷ 17 ∷ [])
  unfolding ◌>>=◌
  refusals_from log_room formula_room table_room n (fault m) e q =
      let z : m ≡ n = cc (reencode_after e log_room formula_room table_room) in
      inl (rw z at (sizes_after e))
  refusals_from log_room formula_room table_room n (value r) e q =
      inr (fitted_fault table_room log_room formula_room n r (sym (reencode_after e log_room formula_room table_room) ∙ q))

  refused_from : (n : ℕ) (o : Checked Reencoded) → run s workspace t ≡ o → sizes s workspace t ≡ fault n → (log_room formula_room table_room : ℕ) → reencode s workspace log_room formula_room table_room t ≡ fault n
  unfolding ◌>>=◌
  refused_from n (fault m) e q log_room formula_room table_room =
      let z : m ≡ n = cc (sizes_after e) in
      rw z at (reencode_after e log_room formula_room table_room)
  refused_from n (value r) e q log_room formula_room table_room = absurd (let z : ◌≡◌ {A = ℕ} 0 1 = cc (sizes_after e) in omega arith)

  accepted_from : (log_room formula_room table_room : ℕ) (u : Reencoded) → reencode s workspace log_room formula_room table_room t ≡ value u → sizes s workspace t ≡ value u.tally
  unfolding reencode ◌>>=◌
  accepted_from log_room formula_room table_room u q =
      let b = bind_value (run s workspace t) (fitted table_room log_room formula_room) u q in
      rw (fitted_value table_room log_room formula_room b.0 u b.2) (sizes_after b.1)

pub sizing : SizingHolds
unfolding SizingHolds
sizing s workspace t = record {
  of_run = λ x e.
      let r = sized s workspace t x e in
      let i = run_result s workspace t r.0 r.1 in
      (i.0, i.1, subst (OfRun s i.0) r.2 (subst (λ (u : Reencoded). OfRun s i.0 u.tally) i.2 (of_reencoded s i.0)));
  told = λ x e log_room formula_room table_room.
      let r = sized s workspace t x e in
      subst (λ (y : Tally). Told s workspace t y log_room formula_room table_room) r.2 (told_here s workspace t r.0 r.1 log_room formula_room table_room);
  accepted = accepted_from s workspace t;
  refused = λ n. refused_from s workspace t n (run s workspace t) refl;
  refusals = λ log_room formula_room table_room n. refusals_from s workspace t log_room formula_room table_room n (run s workspace t) refl;
}
