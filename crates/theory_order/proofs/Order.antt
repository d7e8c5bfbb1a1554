-- The order form of one choice, after its counter form, is sound; what stands after it.
use mathlib.Core.Path.{◌≡◌, refl, sym, ◌∙◌, ap}
use mathlib.Core.Logic.{◌⊎◌, inl, inr, ⊎_elim}
use mathlib.Core.Bool.{false}
use mathlib.Core.List.Memᴰ
use mathlib.Core.List.{List, [], ◌∷◌, ◌++◌, Memᴰ, append_assoc, append-nil, map}
use Prim.Native.Nat.{ℕ, ◌+◌, ◌-◌, ◌≤◌, ◌<◌}
use native.Mathlib.Omega.{arith}
use lib.IntN.{ℤ, neg_ℤ, nat_abs}
use lib.ListN.{length, length-append}
use lib.Seq.{take_at}
use Rattle.definition.specs.Lists.{for_each}
use Rattle.definition.specs.Literals.{Clause, Formula, opposes}
use Rattle.definition.specs.Standing.{Line, deletion, after}
use Rattle.definition.specs.Assignments.{trues}
use Rattle.definition.specs.Events.{Choice, Event, literals_deleted}
use Rattle.definition.specs.Clearing.{times}
use Rattle.definition.specs.Counter.{last_new, counter}
use Rattle.definition.specs.Order.{replace, order_events, literal_deletions}
use Rattle.definition.specs.Reencoding.{GoesInto, later, lines_of, lines}
use Rattle.theory_base.proofs.Tests.{differ}
use Rattle.theory_base.proofs.Members.{natAbs_neg, mem_opposes}
use Rattle.theory_base.specs.Clauses.{Fits, Absent}
use Rattle.theory_base.proofs.Replay.{leads_after}
use Rattle.theory_soundness.proofs.Sound.{Into, into_none, Sound, nothing, sound_leads, weaken}
use Rattle.theory_soundness.proofs.Times.{times-++, times_none, none_times}
use Rattle.theory_soundness.proofs.Without.{Stands, Known, clear_absent}
use Rattle.theory_soundness.proofs.Removals.{Removes, times_removes, mem_removes, stay_in}
use Rattle.theory_soundness.specs.Removals.{take_all}
use Rattle.theory_counter.specs.Ready.{WellFormed}
use Rattle.theory_order.proofs.Recursive.{deletions}
use Rattle.theory_base.proofs.Loops.{for_each-++}
use Rattle.theory_base.proofs.Fitting.{fits_up, fits-++}
use Rattle.theory_counter.proofs.CounterLiterals.{counter_fits}
use Rattle.theory_order.proofs.Replace.{replaced_literal, replaced_fit}
use Rattle.theory_order.proofs.Deletions.{Gone, literals_deleted_sound, deletions_absent}
use Rattle.theory_order.proofs.Found.{removes_deletions, counter_times, counter_stands}
use Rattle.theory_order.proofs.Pass.{pass_sound, pass_times, pass_known, kept_mem, mem_kept, added_mem}
use Rattle.theory_order.specs.Pass.{kept, added, Before}

-- what stands after the order form, where E and then the counter clauses stood
unfoldable pub ordered : Formula → Choice → Formula
ordered E k = take_all (kept k E ++ (counter k ++ added k E)) (deletions k)

-- only later events can take a clause into a choice
only_later : (k : Choice) {K : List Event} (P : Clause → Type 0) → ((c : Clause) → Into K c → P c) → (c : Clause) → Into (literals_deleted k ∷ K) c → P c
only_later k {K} P h c i = go i.goes
  where
    go : {j : Choice} {d : Clause} → GoesInto j (literals_deleted k ∷ K) d → P d
    go {j} {d} (later g) = h d (record { choice = j; goes = g })

-- the clauses gone through are those before the counter clauses
pub order_events_are : (k : Choice) (E : Formula) → order_events k (E ++ counter k) ≡ for_each E (replace k) ++ (literals_deleted k ∷ [])
unfolding order_events
order_events_are k E =
    let l : length E ≡ length (E ++ counter k) - length (counter k) = omega (arith, length-append E (counter k)) in
    rw (take_at E (counter k) (length (E ++ counter k) - length (counter k)) l)

module _ (k : Choice) (E : Formula) (b : Before E k) where
  u : WellFormed k
  u = b.well_formed

  last : Removes (kept k E ++ (counter k ++ added k E)) (deletions k) (ordered E k)
  unfolding ordered
  last = removes_deletions k u (kept k E) (added k E)

  -- ---- how often a literal of a variable before the new ones stands
  left_times : (x : ℤ) → nat_abs x ≤ k.below → times x (ordered E k) ≡ times x (kept k E) + times x (added k E)
  left_times x s =
      omega (arith, times_removes x last, counter_times k u x s, times-++ x (kept k E) (counter k ++ added k E), times-++ x (counter k) (added k E))

  pub ordered_times : (x : ℤ) → nat_abs x ≤ k.below → times x (ordered E k) ≤ times x E
  ordered_times x s = omega (arith, left_times x s, pass_times k u x s E)

  ordered_gone : Gone k.literals (ordered E k)
  ordered_gone x i = (
    none_times x (ordered E k) (omega (arith, ordered_times x (u.fit x i).1, b.absent x i)),
    none_times (neg_ℤ x) (ordered E k)
        (omega (arith, left_times (neg_ℤ x) (rw natAbs_neg (u.fit x i).1), times_none (neg_ℤ x) (kept k E) kept_none, times_none (neg_ℤ x) (added k E) added_none)),
  )
    where
      kept_none : Absent (neg_ℤ x) (kept k E)
      kept_none d j m = differ (mem_opposes k.literals d x i m) (kept_mem k E d j).1

      added_none : Absent (neg_ℤ x) (added k E)
      added_none d j m =
          let y = added_mem k E d j in
          ⊎_elim (λ p. p.1 x i refl) (λ p. omega (arith, p.0, natAbs_neg x, (u.fit x i).1)) (replaced_literal k u y.0 (neg_ℤ x) (rw y.2 at m))

  -- ---- its literals
  pub ordered_fits : Fits (last_new k) (ordered E k)
  unfolding last_new
  ordered_fits d i =
      fits-++ (last_new k) (kept k E) (counter k ++ added k E)
      (λ y j. fits_up (last_new k) k.below E (omega arith) b.fits y (kept_mem k E y j).0)
      (fits-++ (last_new k) (counter k) (added k E) (counter_fits u)
      (λ y j x m. let w = added_mem k E y j in replaced_fit k u w.0 (b.fits w.0 w.1) x (rw w.2 at m)))
      d (mem_removes last i)

  -- a clause without negated choice literals that holds a literal of another variable is left
  pub ordered_mem : (d : Clause) → Memᴰ d E → opposes k.literals d ≡ false →
      (x : ℤ) → Memᴰ x d → (Memᴰ x k.literals → ⊥) → (Memᴰ (neg_ℤ x) k.literals → ⊥) → Memᴰ d (ordered E k)
  ordered_mem d i o x m p q =
      stay_in x last (Memᴰ.append_left (counter k ++ added k E) (mem_kept k E d i o)) m (deletions_absent k u x (b.fits d i x m).1 p q)

  -- ---- the variables that stand after it stood before
  stood : (v : ℕ) → Stands v (ordered E k) → Stands v (E ++ counter k)
  stood v s =
      ⊎_elim
      (λ i. (s.0, Memᴰ.append_left (counter k) (kept_mem k E s.0 i).0, s.2, s.3, s.4))
      (λ j. ⊎_elim (λ i. (s.0, Memᴰ.append_right E i, s.2, s.3, s.4)) added_stood (Memᴰ.append_cases (counter k) j))
      (Memᴰ.append_cases (kept k E) (mem_removes last s.1))
    where
      added_stood : Memᴰ s.0 (added k E) → Stands v (E ++ counter k)
      added_stood i =
          let y = added_mem k E s.0 i in
          ⊎_elim (λ p. (y.0, Memᴰ.append_left (counter k) y.1, s.2, p.0, s.4))
          (λ p. let r = counter_stands k u v (omega (arith, p.0, s.4)) (omega (arith, p.1, s.4)) in (r.0, Memᴰ.append_right E r.1, r.2, r.3, r.4))
          (replaced_literal k u y.0 s.2 (rw y.2 at s.3))

  -- ---- the events
  order_known : {K : List Event} → Known (last_new k) K (ordered E k) → Known (last_new k) (order_events k (E ++ counter k) ++ K) (E ++ counter k)
  order_known {K} w =
      rw (order_events_are k E, append_assoc)
      (pass_known k (last_new k) (literals_deleted k ∷ K) (E ++ counter k) E (λ d i. Memᴰ.append_left (counter k) i)
      (only_later k (λ (c : Clause). (x : ℤ) → Memᴰ x c → Stands (nat_abs x) (E ++ counter k) ⊎ (last_new k < nat_abs x))
      (λ c i x m. ⊎_elim (λ s. inl (stood (nat_abs x) s)) inr (w c i x m))))

  pub order_lines : lines (order_events k (E ++ counter k)) ≡ lines (for_each E (replace k)) ++ map deletion (deletions k)
  unfolding lines lines_of literal_deletions for_each
  order_lines = rw (order_events_are k E, for_each-++ (for_each E (replace k)) (literals_deleted k ∷ []) lines_of, append-nil (map deletion (deletions k)))

  order_lines_sound : {H : Formula} {K L : List Event} {xs : List Line} → Known (last_new k) K (ordered E k) → Sound (ordered E k) K xs H L →
      Sound (E ++ counter k) (order_events k (E ++ counter k) ++ K) (lines (order_events k (E ++ counter k)) ++ xs) H L
  unfolding last_new
  order_lines_sound {H} {K} {L} {xs} w s =
      rw (order_lines, order_events_are k E, append_assoc (for_each E (replace k)) (literals_deleted k ∷ []) K, append_assoc (lines (for_each E (replace k))) (map deletion (deletions k)) xs)
      (rw (append-nil (counter k)) at (pass_sound k u H (literals_deleted k ∷ K) L (map deletion (deletions k) ++ xs) [] E [] (λ d i. absurd (Memᴰ.not-nil i)) (λ d i x j. (replaced_fit k u d (b.fits d i) x j).0)
      (weaken (λ σ t o. only_later k (λ (c : Clause). trues σ c ≡ 1) o)
      (literals_deleted_sound k u ordered_gone
      (λ x i. clear_absent (last_new k) x K (ordered E k) w (omega (arith, (u.fit x i).1)) (ordered_gone x i).0 (ordered_gone x i).1)
      last s))))

  pub order_sound : {H : Formula} {K L : List Event} {xs : List Line} → Known (last_new k) K (ordered E k) → Sound (ordered E k) K xs H L →
      Sound (E ++ counter k) (order_events k (E ++ counter k) ++ K) (lines (order_events k (E ++ counter k)) ++ xs) H L
      × Known (last_new k) (order_events k (E ++ counter k) ++ K) (E ++ counter k)
  order_sound w s = (order_lines_sound w s, order_known w)

  pub after_order : after (E ++ counter k) (lines (order_events k (E ++ counter k))) ≡ ordered E k
  after_order =
      ap (after (E ++ counter k)) (sym (append-nil (lines (order_events k (E ++ counter k)))))
      ∙ leads_after (sound_leads (order_lines_sound {K = []} {L = []} (λ c i. absurd (into_none i)) (nothing (λ σ t o. o))))
