-- Choices numbered in parts: what is asked of all is asked of each part, and the parts' numberings are one of all.
use mathlib.Core.Path.{◌≡◌, refl, sym, ap, ◌∙◌}
use mathlib.Core.List.Memᴰ
use mathlib.Core.List.Memᴰ.{head as here}
use mathlib.Core.List.{List, [], ◌∷◌, ◌++◌, map-append}
use Prim.Native.Nat.{ℕ, ◌+◌, ◌*◌, ◌-◌, ◌≤◌, ◌^◌}
use native.Mathlib.Omega.{arith}
use lib.ListN.{length, set, length-append, length-map}
use lib.Seq.{sets, length-sets}
use Rattle.definition.specs.Lists.{sum_of}
use Rattle.definition.specs.Literals.{Clause}
use Rattle.definition.specs.Events.{TableRecord}
use Rattle.definition.specs.Counter.{below_new, last_new}
use Rattle.theory_base.proofs.Slices.{sets_then}
use Rattle.theory_base.proofs.Sums.{sum_most}
use Rattle.theory_counter.proofs.NewVariables.{below_new_least}
use Rattle.theory_room.specs.Choices.{used_after, as_choice}
use Rattle.theory_room.proofs.Lines.{used_least, used-++}
use Rattle.theory_run.specs.Table.{taken_records}
use Rattle.theory_run.proofs.Table.{taken_records_length}
use Rattle.tables.specs.Entries.{entry_of}
use Rattle.records.specs.declared.ChoiceRecord.{ChoiceRecord}
use Rattle.records.specs.Rows.{shown_record, rows_of}
use Rattle.pass_number.specs.declared.Numbered.{Numbered}
use Rattle.pass_number.specs.Numbering.{weighed, Numberable, Numbers}

-- ---- rows

taken-++ : (g : ℕ) (order : Clause → Clause) (count : Clause → ℕ) (n : ℕ) (cs ds : List Clause) →
    taken_records g order count n (cs ++ ds) ≡ taken_records g order count n cs ++ taken_records g order count (used_after g order n cs) ds
unfolding taken_records used_after
taken-++ g order count n [] ds = refl
taken-++ g order count n (c ∷ cs) ds =
    let k = as_choice g n order c in
    ap (λ (rs : List TableRecord). record { first = k.below + 1; length = length k.literals; clauses = count c } ∷ rs) (taken-++ g order count (last_new k) cs ds)

-- the rows of choices
abbrev rows_for : ℕ → List ℕ → ℕ → List Clause → List ChoiceRecord
rows_for g w n ls = rows_of (taken_records g (λ l. l) (weighed w) n ls)

rows_for_length : (g : ℕ) (w : List ℕ) (n : ℕ) (ls : List Clause) → length (rows_for g w n ls) ≡ length ls
rows_for_length g w n ls = omega (arith, length-map (taken_records g (λ l. l) (weighed w) n ls) shown_record, taken_records_length g (λ l. l) (weighed w) n ls)

rows_for-++ : (g : ℕ) (w : List ℕ) (n : ℕ) (ls ks : List Clause) → rows_for g w n (ls ++ ks) ≡ rows_for g w n ls ++ rows_for g w (used_after g (λ l. l) n ls) ks
rows_for-++ g w n ls ks =
    ap rows_of (taken-++ g (λ l. l) (weighed w) n ls ks)
    ∙ map-append shown_record (taken_records g (λ l. l) (weighed w) n ls) (taken_records g (λ l. l) (weighed w) (used_after g (λ l. l) n ls) ks)

-- ---- no choice, and one part after another

pub none_numbered : (g : ℕ) (w : List ℕ) (rows : List ChoiceRecord) (m : Numbered) → Numbers g [] w rows m.highest m.choices rows m
unfolding used_after taken_records
none_numbered g w rows m = record { choices = omega arith; highest = refl; written = refl }

module _ {g : ℕ} {ls : List Clause} {w : List ℕ} {rows : List ChoiceRecord} {n m : ℕ} {new : List ChoiceRecord} {r : Numbered} (a : Numbers g ls w rows n m new r) where
  pub numbered_length : length new ≡ length rows
  numbered_length = ap length a.written ∙ length-sets rows m (rows_for g w n ls)

  pub numbers_join : {ks : List Clause} {last : List ChoiceRecord} {q : Numbered} → Numbers g ks w new r.highest r.choices last q → Numbers g (ls ++ ks) w rows n m last q
  numbers_join {ks} b =
      let front = rows_for g w n ls in
      let behind = rows_for g w (used_after g (λ l. l) n ls) ks in
      let place : r.choices ≡ m + length front = omega (arith, a.choices, rows_for_length g w n ls) in
      record {
        choices = omega (arith, a.choices, b.choices, length-append ls ks);
        highest = b.highest ∙ ap (λ (k : ℕ). used_after g (λ l. l) k ks) a.highest ∙ sym (used-++ g (λ l. l) n ls ks);
        written = b.written
            ∙ ap (λ (k : ℕ). sets new r.choices (rows_for g w k ks)) a.highest
            ∙ ap (λ (x : List ChoiceRecord). sets x r.choices behind) a.written
            ∙ ap (λ (k : ℕ). sets (sets rows m front) k behind) place
            ∙ sets_then front behind rows m
            ∙ ap (sets rows m) (sym (rows_for-++ g w n ls ks));
      }

-- ---- what is asked of the parts

module _ (ls ks : List Clause) {g : ℕ} {w : List ℕ} {rows : List ChoiceRecord} {n m : ℕ} (a : Numberable g (ls ++ ks) w rows n m) where
  pub numberable_first : Numberable g ls w rows n m
  numberable_first = record {
    step_least = a.step_least;
    step_most = a.step_most;
    low = omega (arith, a.low, used-++ g (λ l. l) n ls ks, used_least g (λ l. l) (used_after g (λ l. l) n ls) ks);
    few = a.few;
    least = λ l i. a.least l (Memᴰ.append_left ks i);
    most = λ l i. a.most l (Memᴰ.append_left ks i);
    room = omega (arith, a.room, length-append ls ks);
  }

  pub numberable_rest : {new : List ChoiceRecord} {r : Numbered} → Numbers g ls w rows n m new r → Numberable g ks w new r.highest r.choices
  numberable_rest b = record {
    step_least = a.step_least;
    step_most = a.step_most;
    low = rw b.highest (rw (used-++ g (λ l. l) n ls ks) at a.low);
    few = a.few;
    least = λ l i. a.least l (Memᴰ.append_right ls i);
    most = λ l i. a.most l (Memᴰ.append_right ls i);
    room = omega (arith, a.room, length-append ls ks, b.choices, numbered_length b);
  }

-- ---- one choice: the numbers that the code makes stay small

module _ {g : ℕ} {l : Clause} {w : List ℕ} {rows : List ChoiceRecord} {n m : ℕ} (a : Numberable g (l ∷ []) w rows n m) where
  pub one_least : 1 ≤ length l
  one_least = a.least l (here refl)

  pub one_most : length l ≤ 64
  one_most = a.most l (here refl)

  pub one_low : below_new g n + (length l - 1) ≤ 200_000
  unfolding used_after last_new
  one_low = a.low

  pub one_used_low : n ≤ 200_000
  one_used_low = omega (arith, one_low, below_new_least g n)

  pub one_weighs : sum_of (entry_of w) l ≤ 64 * 2 ^ 20
  one_weighs = omega (arith, sum_most (2 ^ 20) (entry_of w) a.few l, one_most)

-- the row that the code writes, and what it answers
pub one_numbered : {g : ℕ} {l : Clause} {w : List ℕ} {rows : List ChoiceRecord} {n m : ℕ} {new : List ChoiceRecord} (below size clauses : ℕ) → below ≡ below_new g n → size ≡ length l → clauses ≡ weighed w l →
    new ≡ set rows m (record { first = below + 1; length = size; clauses = clauses }) → Numbers g (l ∷ []) w rows n m new (record { choices = m + 1; highest = below + (size - 1) })
unfolding used_after last_new taken_records
one_numbered below size clauses b s c e = record { choices = refl; highest = rw (b, s) refl; written = e ∙ rw (b, s, c) refl }
