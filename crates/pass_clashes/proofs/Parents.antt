-- The two clauses of a clash deleted: each is the only one with its literal, so the deletion finds it, and the second stays where the first is marked. Assumes nothing.
use mathlib.Core.Path.{◌≡◌, refl, sym, ap, ap₂, subst, ◌∙◌}
use mathlib.Core.Logic.{◌≢◌}
use mathlib.Core.List.Memᴰ
use mathlib.Core.List.Memᴰ.{head as here}
use mathlib.Core.List.{List, [], ◌∷◌, Memᴰ}
use Prim.Native.Nat.{ℕ, ◌+◌, ◌≤◌, ◌<◌, ◌^◌}
use native.Mathlib.Omega.{arith}
use lib.Dec.{ltb}
use lib.IntN.{ℤ, pos, neg_ℤ}
use lib.ListN.{length, take, drop, set, length-set}
use lib.Seq.{length-take-le, take-set-le, take-set-lt, get_or-set_other}
use borrow.Author.Tests.{ltb-true, ltb-false}
use Rattle.definition.specs.Literals.{Clause, with_first}
use Rattle.definition.specs.Text.{Bytes}
use Rattle.definition.specs.Standing.{deletion, take_out, changed, after}
use Rattle.definition.specs.Clearing.{times}
use Rattle.theory_base.proofs.Tests.{by_test}
use Rattle.theory_base.proofs.Loops.{by_order}
use Rattle.theory_base.proofs.Removal.{Removed, removed_take_out}
use Rattle.theory_soundness.proofs.Times.{times_at, times_removed}
use Rattle.theory_soundness.proofs.Without.{only_removed}
use Rattle.literals.specs.Literal.{negative, header_literals, flip}
use Rattle.store.specs.Store.{Formed, stored, header_at, clause_at, past, marked}
use Rattle.store.proofs.Laws.{place_within, place_formed, place_prefix, prefix_header, stored_around, marked_stored, marked_place, marked_before, marked_behind, kept_clause, past_within}
use Rattle.progress.specs.declared.Progress.{Progress}
use Rattle.progress.specs.Progress.{Written, LogRoom}
use Rattle.progress.proofs.Laws.{written_then, room_rest}
use Rattle.index.specs.Index.{SameEntries}
use Rattle.index.specs.Reading.{StandsAt}
use Rattle.index.proofs.Walk.{marked_same, same_trans}
use Rattle.pass_clashes.specs.Clashes.{clash_there}
use Rattle.pass_clashes.specs.Resolving.{parent_lines, Parents, ParentsGone}

-- ---- two places

-- the clause at y stays where the one at x is deleted
record Stays (s : List ℤ) (x y : ℕ) : Type 0 where
  pub standing : StandsAt (marked s x) y
  pub clause : clause_at (marked s x) y ≡ clause_at s y

module _ {s : List ℤ} {x y : ℕ} (p : StandsAt s x) (q : StandsAt s y) where
  abbrev new : List ℤ
  new = marked s x

  size : length new ≡ length s
  size = length-set s x (flip (header_at s x))

  all_formed : Formed new
  all_formed = place_formed (marked_place s x p.inside p.place)

  other_header : y ≢ x → header_at new y ≡ header_at s y
  other_header n = get_or-set_other s x y (flip (header_at s x)) (pos 0) n

  stays_behind : x < y → Stays s x y
  stays_behind h =
      let e = other_header (λ e. apart e) in
      record {
        standing = record {
          inside = omega (arith, size, q.inside);
          place = record { inside = omega (arith, size, q.inside); before = front; rest = rw (marked_behind s x p.inside y h) q.place.rest };
          stands = ap negative e ∙ q.stands;
        };
        clause = ap₂ (λ (z : ℤ) (r : List ℤ). take (header_literals z) r) e (marked_behind s x p.inside (y + 1) (omega arith));
      }
    where
      apart : y ≡ x → ⊥
      apart e = omega arith

      front : Formed (take y new)
      front =
          let n : length (take y s) ≡ y = length-take-le y s q.place.inside in
          let e : take y new ≡ marked (take y s) x = take-set-lt y s x (flip (header_at s x)) h ∙ ap (λ (z : ℤ). set (take y s) x (flip z)) (sym (prefix_header s y x h q.place.inside)) in
          rw e (place_formed (marked_place (take y s) x (omega arith) (place_prefix q.place p.place (omega arith))))

  stays_before : y < x → Stays s x y
  stays_before h =
      let e = other_header (λ e. apart e) in
      record {
        standing = record {
          inside = omega (arith, size, q.inside);
          place = place_within all_formed (omega (arith, size, q.inside)) (rw (take-set-le y s x (flip (header_at s x)) (omega arith)) q.place.before);
          stands = ap negative e ∙ q.stands;
        };
        clause = kept_clause s new x y (sym (marked_before s x p.inside)) p.place.inside (omega (arith, size, p.inside)) h (past_within q.place p.place h);
      }
    where
      apart : y ≡ x → ⊥
      apart e = omega arith

  stays : y ≢ x → Stays s x y
  stays n = by_test (ltb x y) (λ e. stays_behind (ltb-true x y e)) (λ e. stays_before (less (ltb-false x y e)))
    where
      less : y ≤ x → y < x
      less h = by_order y x h (λ e. absurd (n e)) (λ l. l)

-- ---- the only clause with a literal is deleted

once_removed : {s : List ℤ} {at : ℕ} (l : ℤ) → StandsAt s at → Memᴰ l (clause_at s at) → times l (stored s) ≡ 1 → Removed (with_first l (clause_at s at)) (stored s) (stored (marked s at))
once_removed {s} {at} l p i e =
    let around = stored_around s at p.inside p.place p.stands in
    rw (around, marked_stored s at p.inside p.place p.stands) (only_removed l (clause_at s at) (stored (take at s)) (stored (drop (past s at) s)) i (sym (ap (times l) around) ∙ e))

-- the clause stands in the list
pub standing_mem : {s : List ℤ} {at : ℕ} → StandsAt s at → Memᴰ (clause_at s at) (stored s)
standing_mem {s} {at} p = rw (stored_around s at p.inside p.place p.stands) (Memᴰ.append_right (stored (take at s)) (here refl))

-- ---- both are deleted
module _ {s : List ℤ} {v x y : ℕ} (p : Parents s v x y) where
  abbrev mid : List ℤ
  mid = marked s x

  abbrev n : ℤ
  n = neg_ℤ (pos v)

  first_removed : Removed (with_first (pos v) (clause_at s x)) (stored s) (stored mid)
  first_removed = once_removed (pos v) p.one_stands p.one_holds p.one_once

  second_stays : Stays s x y
  second_stays = stays p.one_stands p.other_stands (λ e. p.apart (ap_mem e))
    where
      ap_mem : y ≡ x → Memᴰ n (clause_at s x)
      ap_mem e = subst (λ (k : ℕ). Memᴰ n (clause_at s k)) e p.other_holds

  pub second_standing : StandsAt mid y
  second_standing = second_stays.standing

  second_holds : Memᴰ n (clause_at mid y)
  second_holds = rw second_stays.clause p.other_holds

  second_once : times n (stored mid) ≡ 1
  second_once = omega (arith, times_removed n first_removed, p.other_once, times_at n (standing_mem second_standing) second_holds)

  second_removed : Removed (with_first n (clause_at mid y)) (stored mid) (stored (marked mid y))
  second_removed = once_removed n second_standing second_holds second_once

  both_after : stored (marked mid y) ≡ after (stored s) (parent_lines (clash_there s v x y))
  unfolding after changed
  both_after =
      sym (removed_take_out second_removed)
      ∙ ap (λ (c : Clause). take_out (with_first n c) (stored mid)) second_stays.clause
      ∙ ap (take_out (with_first n (clause_at s y))) (sym (removed_take_out first_removed))

  both_same : SameEntries s (marked mid y)
  both_same = same_trans (marked_same p.one_stands.place p.one_stands.inside) (marked_same second_standing.place second_standing.inside)

  both_formed : Formed (marked mid y)
  both_formed = place_formed (marked_place mid y second_standing.inside second_standing.place)

  -- by what the calls answer
  pub parents_gone : {t u : List ℤ} {f g h : Bytes} {i j k : Progress} (l m : ℤ) → l ≡ pos v → m ≡ neg_ℤ (pos v)
      → Written (deletion (with_first l (clause_at s x)) ∷ []) f i g j → j.end ≡ i.end → t ≡ marked s x
      → Written (deletion (with_first m (clause_at t y)) ∷ []) g j h k → k.end ≡ j.end → u ≡ marked t y
      → ParentsGone (clash_there s v x y) s f i u h k
  parents_gone {t} {u} {f} {g} {h} {i} {j} {k} l m el em w₁ d₁ e₁ w₂ d₂ e₂ =
      let e : u ≡ marked mid y = e₂ ∙ ap (λ (r : List ℤ). marked r y) e₁ in
      let c : with_first m (clause_at t y) ≡ with_first n (clause_at s y) = ap₂ with_first em (ap (λ (r : List ℤ). clause_at r y) e₁ ∙ second_stays.clause) in
      record {
        formed = rw e both_formed;
        stands = ap stored e ∙ both_after;
        same_entries = rw e both_same;
        written = written_then (subst (λ (z : ℤ). Written (deletion (with_first z (clause_at s x)) ∷ []) f i g j) el w₁) (subst (λ (z : Clause). Written (deletion z ∷ []) g j h k) c w₂);
        kept = d₂ ∙ d₁;
      }

  -- the log's room
  pub parents_room : {f g : Bytes} {i j : Progress} (l : ℤ) → l ≡ pos v → LogRoom (parent_lines (clash_there s v x y)) i → Written (deletion (with_first l (clause_at s x)) ∷ []) f i g j → (j.at < 2 ^ 63) × (j.lines < 2 ^ 63)
  parents_room {f} {g} {i} {j} l e r w =
      let q = room_rest (deletion (with_first (pos v) (clause_at s x)) ∷ []) (deletion (with_first n (clause_at s y)) ∷ []) r (subst (λ (z : ℤ). Written (deletion (with_first z (clause_at s x)) ∷ []) f i g j) e w) in
      (omega (arith, q.text), omega (arith, q.count))
