-- The standing clauses slid down: the loop of `compact`. Assumes nothing.
use mathlib.Core.Path.{◌≡◌, refl, sym, ap, ap₂, ◌∙◌}
use mathlib.Core.Bool.{true, false}
use mathlib.Core.List.{List, [], ◌∷◌, ◌++◌, append_assoc, append-nil}
use Prim.Native.Nat.{ℕ, ◌+◌, ◌-◌, ◌≤◌, ◌<◌}
use native.Mathlib.Omega.{arith}
use lib.IntN.{ℤ}
use lib.ListN.{length, take, drop, length-drop}
use lib.Seq.{length-take-le, sets, sets-eq, length-sets}
use Rattle.std.specs.List.{copy_within}
use Rattle.definition.specs.Literals.{Formula}
use Rattle.definition.specs.Calls.{numbers_of}
use Rattle.theory_base.proofs.Tests.{by_test}
use Rattle.store.specs.Store.{Formed, stored_from, stored, header_at, size_at, deleted_at, clause_at, past, slid, slid_to, Compacted}
use Rattle.theory_base.proofs.Slices.{sets_after, taken_sets}
use Rattle.theory_base.proofs.Clauses.{numbers_none, numbers_first, numbers-++}
use Rattle.store.proofs.Laws.{formed-++, stored-++, stored_end, formed_next, rest_deleted, rest_stands, piece, clause_length, formed_one_at, stored_one_at}

-- what copying within a list stores
moved_part : (s : List ℤ) (to from n : ℕ) → to ≤ from → from + n ≤ length s → copy_within s from (from + n) to ≡ sets s to (take n (drop from s))
moved_part s to from n l h =
    let e : from + n - from ≡ n = omega arith in
    let m : length (take n (drop from s)) ≡ n = length-take-le n (drop from s) (omega (arith, length-drop from s)) in
    rw (e, sets-eq (take n (drop from s)) s to (omega (arith, m)), m) refl

-- ---- the entry at a place, moved down
pub entry_moved : (s : List ℤ) (to from next : ℕ) → to ≤ from → from < length s → Formed (drop from s) → next ≡ past s from → deleted_at s from ≡ false → copy_within s from next to ≡ slid s to from
entry_moved s to from next l h f n e = rw (n, e) (moved_part s to from (1 + size_at s from) l (formed_next s from h f).0)

module _ (s : List ℤ) (to from : ℕ) (l : to ≤ from) (h : from < length s) (f : Formed (drop from s)) (g : Formed (take to s)) where
  abbrev moved : List ℤ
  moved = sets s to (take (1 + size_at s from) (drop from s))

  moved_length : length (take (1 + size_at s from) (drop from s)) ≡ 1 + size_at s from
  moved_length = length-take-le (1 + size_at s from) (drop from s) (omega (arith, (formed_next s from h f).0, length-drop from s))

  moved_behind : drop (past s from) moved ≡ drop (past s from) s
  moved_behind = sets_after (take (1 + size_at s from) (drop from s)) s to (past s from) (omega (arith, moved_length))

  moved_front : take (to + (1 + size_at s from)) moved ≡ take to s ++ header_at s from ∷ clause_at s from
  moved_front =
      ap (λ (k : ℕ). take (to + k) moved) (sym moved_length)
      ∙ taken_sets (take (1 + size_at s from) (drop from s)) s to (omega (arith, moved_length, (formed_next s from h f).0))
      ∙ ap (λ (r : List ℤ). take to s ++ r) (piece s from h)

  moved_formed : Formed (take (to + (1 + size_at s from)) moved)
  moved_formed = rw moved_front (formed-++ (take to s) _ g (formed_one_at s from h f))

  moved_stored : deleted_at s from ≡ false → stored (take (to + (1 + size_at s from)) moved) ≡ stored (take to s) ++ (clause_at s from ∷ [])
  moved_stored e = ap stored moved_front ∙ stored-++ (take to s) _ g ∙ ap (λ (r : Formula). stored (take to s) ++ r) (stored_one_at s from h f ∙ rw e refl)

-- ---- the loop of `compact`: what stands before `to` and what stands from `from` on make up the old store

pub record Sliding (old s : List ℤ) (to from : ℕ) : Type 0 where
  pub order : to ≤ from
  pub inside : from ≤ length s
  pub len : length s ≡ length old
  pub front : Formed (take to s)
  pub rest : Formed (drop from s)
  pub same : stored (take to s) ++ stored (drop from s) ≡ stored old
  pub size : to ≡ numbers_of (stored (take to s))

pub sliding_start : (s : List ℤ) → Formed s → Sliding s s 0 0
unfolding stored_from
sliding_start s f = record { order = omega arith; inside = omega arith; len = refl; front = tt; rest = f; same = refl; size = sym numbers_none }

module _ (old s : List ℤ) (to from : ℕ) (i : Sliding old s to from) (h : from < length s) where
  sliding_deleted : deleted_at s from ≡ true → Sliding old s to (past s from)
  sliding_deleted e =
      let f = formed_next s from h i.rest in
      record {
        order = omega (arith, i.order);
        inside = f.0;
        len = i.len;
        front = i.front;
        rest = f.1;
        same = ap (λ (r : Formula). stored (take to s) ++ r) (sym (rest_deleted s from h e)) ∙ i.same;
        size = i.size;
      }

  sliding_stands : deleted_at s from ≡ false → Sliding old (moved s to from i.order h i.rest i.front) (to + (1 + size_at s from)) (past s from)
  sliding_stands e =
      let f = formed_next s from h i.rest in
      let m = moved_stored s to from i.order h i.rest i.front e in
      let b = moved_behind s to from i.order h i.rest i.front in
      record {
        order = omega (arith, i.order);
        inside = simp length-sets f.0;
        len = simp length-sets i.len;
        front = moved_formed s to from i.order h i.rest i.front;
        rest = rw b f.1;
        same =
            ap₂ (λ (a b : Formula). a ++ b) m (ap stored b)
            ∙ append_assoc (stored (take to s)) (clause_at s from ∷ []) (stored (drop (past s from) s))
            ∙ ap (λ (r : Formula). stored (take to s) ++ r) (sym (rest_stands s from h e))
            ∙ i.same;
        size =
            let a = ap numbers_of m ∙ numbers-++ (stored (take to s)) (clause_at s from ∷ []) in
            omega (arith, a, i.size, numbers_first (clause_at s from) [], numbers_none, clause_length s from h i.rest);
      }

  pub sliding_turn : (t : List ℤ) (r next : ℕ) → t ≡ slid s to from → r ≡ slid_to s to from → next ≡ past s from → Sliding old t r next
  sliding_turn t r next d k n = rw (d, k, n) (by_test (deleted_at s from) (λ e. rw e (sliding_deleted e)) (λ e. rw e (sliding_stands e)))

pub sliding_end : (old s : List ℤ) (to from : ℕ) → Sliding old s to from → length s ≤ from → Compacted old to s
sliding_end old s to from i h =
    let e : stored (take to s) ≡ stored old = sym (append-nil (stored (take to s))) ∙ ap (λ (r : Formula). stored (take to s) ++ r) (sym (stored_end s from h)) ∙ i.same in
    record { within = omega (arith, i.order, i.inside); formed = i.front; same = e; size = i.size ∙ ap numbers_of e }
