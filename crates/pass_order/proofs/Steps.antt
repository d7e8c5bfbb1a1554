-- Adding a result and replacing the clause at a place, by what the functions answer. Assumes nothing.
use mathlib.Core.Path.{◌≡◌, refl, sym, ap, subst, ◌∙◌}
use mathlib.Core.Bool.{Bool, true, false, not}
use mathlib.Core.List.{List, [], ◌∷◌, ◌++◌, map, append_assoc}
use Prim.Native.Nat.{ℕ, ◌+◌, ◌*◌, ◌-◌, ◌≤◌, ◌<◌, ◌^◌}
use native.Mathlib.Omega.{arith}
use lib.IntN.{ℤ, pos}
use lib.ListN.{length, take, drop, set, length-set, length-append, length-take, get_or-append}
use lib.Seq.{sets, sets-eq, length-sets, take_at, drop_at, take-take, take-append-le, get_or_at, length-take-le, set-append_left}
use Rattle.definition.specs.Lists.{only_if}
use Rattle.definition.specs.Literals.{Clause, Formula, opposed}
use Rattle.definition.specs.Text.{Bytes}
use Rattle.definition.specs.Standing.{Line, addition, deletion}
use Rattle.definition.specs.Events.{Choice, choice_of}
use Rattle.definition.specs.Order.{replaced, replacement_lines}
use Rattle.theory_base.specs.Clauses.{Proper, FitAll}
use Rattle.theory_base.proofs.Clauses.{numbers_none, numbers_first, literals_none, literals_first}
use Rattle.theory_base.proofs.Slices.{part_is, sets_before, getD_before}
use Rattle.theory_counter.specs.Ready.{WellFormed}
use Rattle.literals.specs.Literal.{largest, header_of, header_literals, flip}
use Rattle.tables.specs.Places.{Places}
use Rattle.store.specs.Store.{Formed, entry, header_at, clause_at, past, marked, Place}
use Rattle.store.proofs.Laws.{part_there, entry_clause, formed_next, prefix_header, kept_clause, place_within}
use Rattle.index.specs.Index.{nodes, Indexed}
use Rattle.index.proofs.Laws.{indexed_sets, indexed_marked, marked_take}
use Rattle.progress.specs.declared.Progress.{Progress}
use Rattle.progress.specs.Progress.{Written, LogRoom}
use Rattle.progress.specs.Growth.{entries, EntryThere, Grown}
use Rattle.progress.proofs.Laws.{written_then, room_rest}
use Rattle.progress.proofs.Growing.{grown_none}
use Rattle.pass_order.specs.Pass.{result_of, Tabled, Replaceable, StepReady, ReplacedAt}

-- ---- the result of a clause
module _ (k : Choice) (d : Clause) where
  result_none : opposed (replaced k d) ≡ true → result_of k d ≡ []
  unfolding only_if
  result_none e = rw e refl

  result_one : opposed (replaced k d) ≡ false → result_of k d ≡ replaced k d ∷ []
  unfolding only_if
  result_one e = rw e refl

  -- its lines: the result is added, then the clause deleted
  replacement_parts : replacement_lines d (replaced k d) ≡ map addition (result_of k d) ++ (deletion d ∷ [])
  unfolding replacement_lines only_if
  replacement_parts = go (opposed (replaced k d))
    where
      go : (b : Bool) → only_if (not b) (addition (replaced k d) ∷ []) ++ (deletion d ∷ []) ≡ map addition (only_if (not b) (replaced k d ∷ [])) ++ (deletion d ∷ [])
      go true = refl
      go false = refl

-- ---- adding it

-- what lies behind the store does not show
grown_same_store : {f : Formula} {w v new : List ℤ} {m n : List ℕ} {x y : Bytes} {p q : Progress} → length v ≡ length w → take p.end v ≡ take p.end w → Grown f v m x p new n y q → Grown f w m x p new n y q
grown_same_store {f} s t g = record {
  size = g.size ∙ s;
  next = g.next;
  filled = g.filled ∙ ap (λ (r : List ℤ). r ++ entries f) t;
  formed = g.formed;
  stands = g.stands;
  written = g.written;
  indexed = g.indexed;
  nodes_are = g.nodes_are;
}

module _ {t : List ℕ} {l : Clause} {below : ℕ} (v : Tabled t l below) (work : List ℤ) {newest : List ℕ} (from len : ℕ) {p : Progress} (i : Indexed work p.end newest) (a : Replaceable (choice_of l below) (take len (drop from work)) work newest p) where
  abbrev k : Choice
  k = choice_of l below

  abbrev d : Clause
  d = take len (drop from work)

  abbrev W : Clause
  W = replaced k d

  -- by what is_opposed answers of the part of the store
  pub opposed_there : {r b : Bool} →
      ((j : Choice) → Places t j.literals → WellFormed j → length j.literals ≤ 64 → Proper (take (from + len - from) (drop from work)) → FitAll j.below (take (from + len - from) (drop from work)) → r ≡ opposed (replaced j (take (from + len - from) (drop from work)))) →
      r ≡ b →
      opposed (replaced (choice_of l below) (take len (drop from work))) ≡ b
  opposed_there e f =
      let q = part_is work from len in
      ap (λ (c : Clause). opposed (replaced k c)) (sym q) ∙ sym (e k v.places v.well_formed v.small.few (rw q a.proper) (rw q a.fit)) ∙ f

  pub none_added : (log : Bytes) → opposed (replaced (choice_of l below) (take len (drop from work))) ≡ true → Grown (result_of (choice_of l below) (take len (drop from work))) work newest log p work newest log p
  none_added log e = rw (result_none k d e) (grown_none work newest log p i)

  module _ (e : opposed (replaced (choice_of l below) (take len (drop from work))) ≡ false) where
    both_room : p.end + length (entry W) + 2 * (nodes newest + length W) ≤ length work
    both_room = omega (arith, rw (result_one k d e) at a.space, numbers_first W [], numbers_none, literals_first W [], literals_none)

    pub entry_room : p.end + length (entry (replaced (choice_of l below) (take len (drop from work)))) ≤ length work
    entry_room = omega (arith, both_room)

    short : length W ≤ largest
    short = omega (arith, entry_room, i.small)

    module _ {new : List ℤ} {next : ℕ} (g : next ≡ p.end + length (entry (replaced (choice_of l below) (take len (drop from work))))) (h : new ≡ sets work p.end (entry (replaced (choice_of l below) (take len (drop from work))))) where
      abbrev others : List ℤ
      others = drop (p.end + length (entry W)) work

      size : length new ≡ length work
      size = ap length h ∙ length-sets work p.end (entry W)

      store_size : length (take p.end work) ≡ p.end
      store_size = length-take-le p.end work (omega (arith, entry_room))

      before : take p.end new ≡ take p.end work
      before = ap (take p.end) h ∙ sets_before (entry W) work p.end p.end (omega arith)

      new_is : new ≡ take p.end work ++ (entry W ++ others)
      new_is = h ∙ sets-eq (entry W) work p.end entry_room ∙ append_assoc (take p.end work) (entry W) others

      header : header_at new p.end ≡ header_of (length W)
      header = ap (λ (s : List ℤ). header_at s p.end) new_is ∙ get_or_at (take p.end work) (header_of (length W)) (W ++ others) (pos 0) p.end store_size

      clause : clause_at new p.end ≡ W
      clause = entry_clause new p.end W short others (ap (drop p.end) new_is ∙ drop_at (take p.end work) (entry W ++ others) p.end store_size)

      indexed : Indexed new p.end newest
      indexed = subst (λ (s : List ℤ). Indexed s p.end newest) (sym h) (indexed_sets i p.end (entry W) (omega arith) (omega (arith, both_room)))

      entry_there : EntryThere new p.end next
      entry_there = let n : next - (p.end + 1) ≡ length W = omega arith in record { longer = omega arith; header = rw n header }

      -- what record_added asks
      pub added_ready : (Indexed new p.end newest × EntryThere new p.end next) × ((next + 2 * (nodes newest + (next - (p.end + 1))) ≤ length new) × ((p.at < 2 ^ 63) × (p.lines < 2 ^ 63)))
      added_ready = ((indexed, entry_there), (omega (arith, both_room, size), (omega (arith, a.room.text), omega (arith, a.room.count))))

      pub result_added : {w : List ℤ} {n : List ℕ} {x y : Bytes} {r : Progress} → Grown (clause_at new p.end ∷ []) new newest x p w n y r → Grown (result_of (choice_of l below) (take len (drop from work))) work newest x p w n y r
      result_added {w} {n} {x} {y} {r} o =
          rw (result_one k d e) (grown_same_store size before (subst (λ (c : Clause). Grown (c ∷ []) new newest x p w n y r) clause o))

-- ---- the clause at a place
module _ {t : List ℕ} {l : Clause} {below : ℕ} (work : List ℤ) {newest : List ℕ} (at : ℕ) {p : Progress} (u : StepReady t l below work newest at p) where
  abbrev K : Choice
  K = choice_of l below

  abbrev c : Clause
  c = clause_at work at

  abbrev old : List ℤ
  old = take p.end work

  within : p.end ≤ length work
  within = omega (arith, u.indexed.room)

  old_size : length old ≡ p.end
  old_size = length-take-le p.end work within

  past_inside : past work at ≤ p.end
  past_inside =
      omega (arith, (formed_next old at (omega (arith, u.inside, old_size)) u.place.rest).0, old_size, ap header_literals (prefix_header work p.end at u.inside within))

  module _ {next : ℕ} (f : next ≡ past work at) where
    part : take (next - (at + 1)) (drop (at + 1) work) ≡ c
    part = part_there work at next f

    pub clause_inside : at + 1 + (next - (at + 1)) ≤ p.end
    clause_inside = omega (arith, f, past_inside)

    pub step_replaceable : Replaceable (choice_of l below) (take (next - (at + 1)) (drop (at + 1) work)) work newest p
    step_replaceable = subst (λ (d : Clause). Replaceable K d work newest p) (sym part) u.replaceable

    module _ {x y : Bytes} {new : List ℤ} {n : List ℕ} {q : Progress} (w : Grown (result_of (choice_of l below) (take (next - (at + 1)) (drop (at + 1) work))) work newest x p new n y q) where
      abbrev R : List ℤ
      R = entries (result_of K c)

      grown : Grown (result_of K c) work newest x p new n y q
      grown = subst (λ (d : Clause). Grown (result_of K d) work newest x p new n y q) part w

      before_same : take p.end new ≡ old
      before_same = sym (take-take p.end q.end new (omega (arith, grown.next))) ∙ ap (take p.end) grown.filled ∙ take_at old R p.end old_size

      header_same : header_at new at ≡ header_at work at
      header_same = getD_before new work p.end at (pos 0) before_same u.inside

      -- the clause stands where it stood
      old_part : take (next - (at + 1)) (drop (at + 1) new) ≡ c
      old_part =
          part_there new at next (f ∙ ap (λ (z : ℤ). at + (1 + header_literals z)) (sym header_same))
          ∙ kept_clause work new p.end at (sym before_same) within (omega (arith, within, grown.size)) u.inside past_inside

      last_room : LogRoom (deletion c ∷ []) q
      last_room =
          room_rest (map addition (result_of K c)) (deletion c ∷ [])
          (subst (λ (ls : List Line). LogRoom ls p) (replacement_parts K c) u.replaceable.room) grown.written

      pub deletion_room : (q.at + 12 * length (take (next - (at + 1)) (drop (at + 1) new)) + 4 < 2 ^ 64) × (q.lines + 1 < 2 ^ 64)
      deletion_room = (
        omega (arith, f, past_inside, within, u.indexed.small, length-take (next - (at + 1)) (drop (at + 1) new), last_room.text),
        omega (arith, last_room.count),
      )

      new_store : take q.end new ≡ old ++ R
      new_store = grown.filled

      new_place : Place (take q.end new) at
      new_place =
          place_within grown.indexed.formed (omega (arith, u.inside, ap length new_store, length-append old R, old_size))
          (subst (λ (s : List ℤ). Formed s) (sym (ap (take at) new_store ∙ take-append-le at old R (omega (arith, u.inside, old_size)))) u.place.before)

      pub step_replaced : {z : Bytes} {last : List ℤ} {o : Progress} → Written (deletion (take (next - (at + 1)) (drop (at + 1) new)) ∷ []) y q z o → o.end ≡ q.end → last ≡ marked new at →
          ReplacedAt (choice_of l below) (clause_at work at) work newest at x p last n z o
      step_replaced {z} {last} {o} v i j =
          let inside : at < q.end = omega (arith, u.inside, grown.next) in
          let Y : List ℤ = old ++ R in
          record {
            size = ap length j ∙ length-set new at (flip (header_at new at)) ∙ grown.size;
            next = i ∙ grown.next;
            filled =
                ap (λ (m : ℕ). take m last) i ∙ ap (take q.end) j ∙ marked_take grown.indexed new_place inside ∙ ap (λ (s : List ℤ). marked s at) new_store
                ∙ ap (λ (z : ℤ). set Y at (flip z)) (get_or-append old R (pos 0) at (omega (arith, u.inside, old_size)))
                ∙ set-append_left old R at (flip (header_at old at)) (omega (arith, u.inside, old_size));
            formed = grown.formed;
            stands = grown.stands;
            written = subst (λ (ls : List Line). Written ls x p z o) (sym (replacement_parts K c)) (written_then grown.written (subst (λ (d : Clause). Written (deletion d ∷ []) y q z o) old_part v));
            indexed =
                subst (λ (m : ℕ). Indexed last m n) (sym i) (subst (λ (s : List ℤ). Indexed s q.end n) (sym j) (indexed_marked grown.indexed new_place inside));
            nodes_are = grown.nodes_are;
          }
