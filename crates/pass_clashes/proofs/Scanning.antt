-- Clearing by marks: the lowest mark is the lowest variable that clashes, so its clash is the first event left; after it the marks left are the clashes left. Assumes nothing.
use mathlib.Core.Path.{◌≡◌, refl, sym, ap, subst, ◌∙◌}
use mathlib.Core.Bool.{Bool, true, false, not, ◌&&◌}
use mathlib.Core.List.{List, [], ◌∷◌, ◌++◌, append_assoc, append-nil}
use mathlib.Core.Option.{some}
use Prim.Native.Nat.{ℕ, ◌+◌, ◌*◌, ◌/◌, ◌≤◌, ◌<◌}
use native.Mathlib.Omega.{arith}
use lib.Dec.{ltb}
use lib.IntN.{ℤ, nat_abs}
use lib.ListN.{length, take, replicate}
use lib.Seq.{length-take-le}
use borrow.Author.Tests.{ltb-true, ltb-false}
use Rattle.definition.specs.Literals.{Formula}
use Rattle.definition.specs.Text.{Bytes}
use Rattle.definition.specs.Standing.{after}
use Rattle.definition.specs.Events.{Clash, Event, clash_cleared}
use Rattle.definition.specs.Clearing.{clash_at, clash_lines, clear_clashes}
use Rattle.definition.specs.Reencoding.{lines, resolved_into}
use Rattle.theory_base.specs.Cells.{cells_of}
use Rattle.theory_base.specs.Clauses.{ProperAll, Fits}
use Rattle.theory_base.proofs.Tests.{by_test, second_fails}
use Rattle.theory_base.proofs.Replay.{after-++, lines-++}
use Rattle.theory_clearing.specs.Clashing.{clashes, ends}
use Rattle.theory_clearing.proofs.Clash.{IsClash, after_proper, after_fits, after_shorter}
use Rattle.theory_clearing.proofs.Clashes.{clash_at_some}
use Rattle.theory_clearing.proofs.Clashing.{clashes_some, clashes_after, clear_clashes_at, clear_clashes_none}
use Rattle.marks.specs.Marks.{input_words, marked, lowest_from}
use Rattle.std.proofs.Common.{Some, None}
use Rattle.marks.proofs.Laws.{lowest_marked, none_past}
use Rattle.tables.specs.Sizes.{input_reach, input_size}
use Rattle.store.proofs.Laws.{few_stored}
use Rattle.index.specs.Index.{Indexed, Roomy}
use Rattle.progress.specs.declared.Progress.{Progress}
use Rattle.progress.specs.Progress.{standing, Runs}
use Rattle.progress.proofs.Laws.{lines_none, runs_nothing, runs_join, good_first, good_rest}
use Rattle.pass_clashes.specs.Marking.{MarksClashes}
use Rattle.pass_clashes.specs.Clashes.{clash_there, Clashing}
use Rattle.pass_clashes.specs.Resolving.{Resolvable, Ended}
use Rattle.pass_clashes.specs.Weights.{Weighed, Light, Reweighs}
use Rattle.pass_clashes.specs.Scan.{ClashReady, Searching, Scanned, turns_left}
use Rattle.pass_clashes.specs.declared.Scan.{Scan}
use Rattle.pass_clashes.proofs.Resolved.{after_clash}
use Rattle.pass_clashes.proofs.Weighing.{light_then, reweighs_none, reweighs_join, zeros_light, zeros_weighed}

-- ---- what the other events need where the first ran
ready_rest : (xs ys : List Event) {step : ℕ} {work new : List ℤ} {log new_log : Bytes} {p r : Progress} → ClashReady step (xs ++ ys) work p → Runs xs work log p new new_log r
    → ProperAll (after (standing work p) (lines xs)) → Fits input_reach (after (standing work p) (lines xs)) → ClashReady step ys new r
ready_rest xs ys {work = work} {new = new} {p = p} {r = r} k g a b = record {
  good = good_rest xs ys k.good g a b;
  space = λ us vs e. omega (arith, g.size, ap (λ (F : Formula). cells_of F) (after_more us), k.space (xs ++ us) vs (rest_as us vs e));
  cells = λ us vs c e o. k.cells (xs ++ us) vs c (rest_as us (clash_cleared c ∷ vs) e) o;
}
  where
    rest_as : (us vs : List Event) → ys ≡ us ++ vs → xs ++ ys ≡ (xs ++ us) ++ vs
    rest_as us vs e = ap (λ (es : List Event). xs ++ es) e ∙ sym (append_assoc xs us vs)

    after_more : (us : List Event) → after (standing new r) (lines us) ≡ after (standing work p) (lines (xs ++ us))
    after_more us = ap (λ (F : Formula). after F (lines us)) g.stands ∙ sym (after-++ (standing work p) (lines xs) (lines us)) ∙ ap (after (standing work p)) (sym (lines-++ xs us))

-- what stands after no event
after_none : (F : Formula) → after F (lines []) ≡ F
unfolding after
after_none F = ap (after F) lines_none

-- ---- the lowest mark
module _ {step : ℕ} {work : List ℤ} {newest table weights m : List ℕ} {z : Scan} (s : Searching step work newest table weights m z) where
  abbrev F : Formula
  F = standing work z.progress

  stays : (log : Bytes) → Runs [] work log z.progress work log z.progress
  stays log = runs_nothing log z.progress z.progress refl (record { inside = s.ready.good.inside; formed = s.ready.good.formed; stands = refl }) refl refl

  -- what stands leaves so much room
  pub step_room : cells_of F + step ≤ length work
  step_room = rw (after_none F) at (s.ready.space [] (clear_clashes F) refl)

  -- no variable below the lowest mark is marked
  none_below : (v : ℕ) → ((k : ℕ) → 32 * z.word ≤ k → k < v → marked m k ≡ false) → (k : ℕ) → k < v → marked m k ≡ false
  none_below v f k h = by_test (ltb k (32 * z.word)) (λ t. s.passed k (ltb-true k _ t)) (λ t. f k (ltb-false k _ t) h)

  -- none is marked
  module _ (e : lowest_from m (32 * z.word) ≡ None) where
    none_marked : (k : ℕ) → marked m k ≡ false
    none_marked k = none_below (k + 1) (λ i a _. (lowest_marked m (32 * z.word)).none_marked e i a) k (omega arith)

    pub scanned_none : (log : Bytes) → Scanned step work weights log z work newest table weights log m (record { progress = z.progress; word = length m })
    scanned_none log =
        record {
          events = [];
          runs = stays log;
          rest = refl;
          searching = record { ready = s.ready; indexed = s.indexed; zeros = s.zeros; light = s.light; exact = s.exact; passed = λ k _. none_marked k; size = s.size };
          reweighs = reweighs_none F weights;
        }

  pub none_fewer : z.word < length m → turns_left work (record { progress = z.progress; word = length m }) < turns_left work z
  none_fewer h = omega (arith, s.size)

  -- v is the lowest
  module _ {v : ℕ} (e : lowest_from m (32 * z.word) ≡ Some v) where
    lowest : (32 * z.word ≤ v) × (marked m v ≡ true) × ((k : ℕ) → 32 * z.word ≤ k → k < v → marked m k ≡ false)
    lowest = (lowest_marked m (32 * z.word)).found v e

    below : (k : ℕ) → k < v → marked m k ≡ false
    below = none_below v lowest.2

    lowest_clashes : clashes F v ≡ true
    lowest_clashes = sym (s.exact v) ∙ lowest.1

    pub lowest_small : v ≤ input_reach
    lowest_small =
        let c = clashes_some F v lowest_clashes in
        let r = clash_at_some F v c.0 c.1 in
        omega (arith, (s.ready.good.fits c.0.one r.1.one_stands c.0.v r.1.one_holds).1, ap nat_abs r.0)

    -- room made, and the clauses found
    module _ {mid : List ℤ} {log : Bytes} {q : Progress} (k : Runs [] work log z.progress mid log q) where
      same : standing mid q ≡ F
      same = k.stands ∙ after_none F

      pub there_clashes : clashes (standing mid q) v ≡ true
      there_clashes = ap (λ (G : Formula). clashes G v) same ∙ lowest_clashes

      pub light_there : Light (standing mid q) weights
      light_there = subst (λ (G : Formula). Light G weights) (sym same) s.light

      module _ {x y : ℕ} (h : Clashing (take q.end mid) v x y) where
        abbrev c : Clash
        c = clash_there (take q.end mid) v x y

        abbrev others : List Event
        others = clear_clashes (after F (clash_lines c))

        clash_here : clash_at F v ≡ some c
        clash_here = ap (λ (G : Formula). clash_at G v) (sym same) ∙ h.clash

        is_clash : IsClash F c
        is_clash = (clash_at_some F v c clash_here).1

        left_are : clear_clashes F ≡ clash_cleared c ∷ others
        left_are = clear_clashes_at F s.ready.good.proper v c clash_here (λ n l. sym (s.exact n) ∙ below n l)

        there_ready : ClashReady step (clash_cleared c ∷ others) mid q
        there_ready =
            ready_rest [] (clash_cleared c ∷ others) (subst (λ (es : List Event). ClashReady step es work z.progress) left_are s.ready) k
            (rw (after_none F) s.ready.good.proper) (rw (after_none F) s.ready.good.fits)

        pub resolvable : {later : List ℕ} → Indexed mid q.end later → Roomy step mid q.end later → Resolvable mid later q v x y
        resolvable i r = record {
          good = good_first (clash_cleared c ∷ []) others there_ready.good;
          clash = h;
          indexed = i;
          space = λ o. omega (arith, r, there_ready.cells [] others c refl o);
        }

        module _ {new : List ℤ} {new_log : Bytes} {w : Progress} (g : Runs (clash_cleared c ∷ []) mid log q new new_log w) where
          all : Runs (clash_cleared c ∷ []) work log z.progress new new_log w
          all = runs_join {es = []} k g

          stands_then : standing new w ≡ after F (clash_lines c)
          stands_then = all.stands ∙ after_clash F c

          pub clash_fewer : turns_left new (record { progress = w; word = v / 32 }) < turns_left work z
          clash_fewer = omega (arith, ap length stands_then, after_shorter F c s.ready.good.proper is_clash, lowest.0)

          module _ {later zeros heavier : List ℕ} (new_m : List ℕ) (u : Ended c m new_m) (l : length new_m ≡ length m) (i : Indexed new w.end later) (n : zeros ≡ replicate input_size 0)
              (j : Reweighs (clash_cleared c ∷ []) (standing mid q) weights (standing new w) heavier) where
            reweighs_all : Reweighs (clash_cleared c ∷ []) F weights (standing new w) heavier
            reweighs_all = subst (λ (G : Formula). Reweighs (clash_cleared c ∷ []) G weights (standing new w) heavier) same j

            exact_then : MarksClashes (standing new w) new_m
            exact_then n =
                u n ∙ ap (λ (b : Bool). not (ends c n) && b) (s.exact n) ∙ sym (clashes_after F c s.ready.good.proper is_clash n)
                ∙ ap (λ (G : Formula). clashes G n) (sym stands_then)

            passed_then : (n : ℕ) → n < 32 * (v / 32) → marked new_m n ≡ false
            passed_then n i = u n ∙ sym (second_fails (not (ends c n)) (marked m n) (below n (omega arith)))

            pub scanned_clash : Scanned step work weights log z new later zeros heavier new_log new_m (record { progress = w; word = v / 32 })
            scanned_clash =
                let e : clash_cleared c ∷ clear_clashes (standing new w) ≡ clear_clashes F = ap (λ (G : Formula). clash_cleared c ∷ clear_clashes G) stands_then ∙ sym left_are in
                record {
                  events = clash_cleared c ∷ [];
                  runs = all;
                  rest = e;
                  searching = record {
                    ready =
                        ready_rest (clash_cleared c ∷ []) (clear_clashes (standing new w)) (subst (λ (es : List Event). ClashReady step es work z.progress) (sym e) s.ready) all
                        (rw (after_clash F c) (after_proper F c s.ready.good.proper is_clash)) (rw (after_clash F c) (after_fits F c s.ready.good.proper is_clash input_reach s.ready.good.fits));
                    indexed = i;
                    zeros = n;
                    light = light_then s.light reweighs_all;
                    exact = exact_then;
                    passed = passed_then;
                    size = l ∙ s.size;
                  };
                  reweighs = reweighs_all;
                }

-- ---- the loop
pub scanned_start : {step : ℕ} {work : List ℤ} {newest table weights m : List ℕ} {p : Progress} (log : Bytes) → ClashReady step (clear_clashes (standing work p)) work p → Indexed work p.end newest →
    table ≡ replicate input_size 0 → weights ≡ replicate input_size 0 → MarksClashes (standing work p) m → length m ≡ input_words →
    Scanned step work weights log (record { progress = p; word = 0 }) work newest table weights log m (record { progress = p; word = 0 })
scanned_start {step} {work} {newest} {table} {weights} {m} {p} log r i n u e l =
    let few = few_stored (take p.end work) in
    let s : Searching step work newest table weights m (record { progress = p; word = 0 }) = record {
      ready = r;
      indexed = i;
      zeros = n;
      light = zeros_light u (omega (arith, few, length-take-le p.end work r.good.inside, r.good.inside, r.good.small));
      exact = e;
      passed = λ v h. absurd (omega arith);
      size = l;
    } in
    record { events = []; runs = stays s log; rest = refl; searching = s; reweighs = reweighs_none (standing work p) weights }

pub scanned_then : {step : ℕ} {a b c : List ℤ} {l m n : Bytes} {f g h i j k t u w : List ℕ} {x y z : Scan} → Scanned step a t l x b f g u m h y → Scanned step b u m y c i j w n k z → Scanned step a t l x c i j w n k z
scanned_then {c = c} {z = z} s t = record {
  events = s.events ++ t.events;
  runs = runs_join s.runs t.runs;
  rest = append_assoc s.events t.events (clear_clashes (standing c z.progress)) ∙ ap (λ (es : List Event). s.events ++ es) t.rest ∙ s.rest;
  searching = t.searching;
  reweighs = reweighs_join s.reweighs t.reweighs;
}

module _ {step : ℕ} {work new : List ℤ} {log new_log : Bytes} {newest table weights heavier m : List ℕ} {y z : Scan} (s : Scanned step work weights log y new newest table heavier new_log m z) (h : length m ≤ z.word) where
  none_left : (v : ℕ) → clashes (standing new z.progress) v ≡ false
  none_left v = sym (s.searching.exact v) ∙ none_below s.searching (v + 1) (λ k a _. none_past m k (omega arith)) v (omega arith)

  all_happened : s.events ≡ clear_clashes (standing work y.progress)
  all_happened = sym (append-nil s.events) ∙ ap (λ (es : List Event). s.events ++ es) (sym (clear_clashes_none (standing new z.progress) none_left)) ∙ s.rest

  pub scanned_end : Runs (clear_clashes (standing work y.progress)) work log y.progress new new_log z.progress
  scanned_end = subst (λ (es : List Event). Runs es work log y.progress new new_log z.progress) all_happened s.runs

  pub scanned_weighed : weights ≡ replicate input_size 0 → Weighed (resolved_into (λ d. 1) (clear_clashes (standing work y.progress))) (length (standing work y.progress)) (standing new z.progress) heavier
  scanned_weighed e =
      zeros_weighed e (subst (λ (es : List Event). Reweighs es (standing work y.progress) weights (standing new z.progress) heavier) all_happened s.reweighs)
