-- Adding the resolvent of a clash: the parts copied from the workspace are the two clauses without the variable. Assumes nothing.
use mathlib.Core.Path.{◌≡◌, sym, ap, ap₂, subst, ◌∙◌}
use mathlib.Core.Bool.{Bool, true, false, not, cond}
use mathlib.Core.List.{List, [], ◌∷◌, ◌++◌, append_assoc, Memᴰ}
use Prim.Native.Nat.{ℕ, suc, ◌+◌, ◌-◌, ◌*◌, ◌≤◌, ◌<◌}
use native.Mathlib.Omega.{arith}
use lib.IntN.{ℤ, pos, neg_ℤ}
use lib.ListN.{length, take, drop, length-append}
use lib.Seq.{length-take-le, drop_at, get_or-set_same, sets, sets-eq, length-sets}
use Rattle.definition.specs.Lists.{only_if, those}
use Rattle.definition.specs.Literals.{Clause, Formula, same, without, opposed}
use Rattle.definition.specs.Text.{Bytes}
use Rattle.definition.specs.Events.{Clash}
use Rattle.definition.specs.Clearing.{resolvent}
use Rattle.theory_base.proofs.Members.{proper_unopposed}
use Rattle.theory_base.proofs.Clauses.{numbers_none, numbers_first, literals_none, literals_first}
use Rattle.theory_base.proofs.Slices.{sets_first, sets_before}
use Rattle.theory_base.proofs.Fitting.{proper_fits, proper_length}
use Rattle.theory_soundness.proofs.Times.{unique_at}
use Rattle.theory_clearing.proofs.Clash.{IsClash}
use Rattle.theory_clearing.proofs.Clashes.{clash_at_some}
use Rattle.literals.specs.Literal.{largest, header_of, header_literals}
use Rattle.literals.proofs.Laws.{signed_small}
use Rattle.store.specs.Store.{stored, entry, header_at, clause_at, past}
use Rattle.store.proofs.Laws.{formed_next, prefix_header, prefix_clause, part_there, entry_clause}
use Rattle.progress.specs.declared.Progress.{Progress}
use Rattle.progress.specs.Growth.{entries, Grown, EntryThere}
use Rattle.progress.proofs.Growing.{grown_none}
use Rattle.tables.specs.Sizes.{input_reach}
use Rattle.index.specs.Index.{nodes, Indexed}
use Rattle.index.specs.Reading.{StandsAt}
use Rattle.index.proofs.Laws.{indexed_sets}
use Rattle.pass_clashes.specs.Clashes.{clash_there}
use Rattle.pass_clashes.specs.Resolving.{joined, Joinable, added_by, Resolvable, Parents}

-- ---- a clause of the store, as a part of the workspace
module _ (work : List ℤ) (end at : ℕ) {n : ℕ} (p : StandsAt (take end work) at) (l : end ≤ length work) (e : n ≡ past work at) where
  inside_end : at < end
  inside_end = omega (arith, p.inside, length-take-le end work l)

  part_inside : (at + 1 ≤ n) × (n ≤ end)
  part_inside =
      omega (
        arith,
        e,
        (formed_next (take end work) at p.inside p.place.rest).0,
        length-take-le end work l,
        ap header_literals (prefix_header work end at inside_end l),
      )

  part_clause : take (n - (at + 1)) (drop (at + 1) work) ≡ clause_at (take end work) at
  part_clause = part_there work at n e ∙ sym (prefix_clause work end at inside_end l (omega (arith, part_inside, e)))

-- ---- an entry written behind the store
module _ (work : List ℤ) (end : ℕ) (c : Clause) (b : end + length (entry c) ≤ length work) where
  header_there : header_at (sets work end (entry c)) end ≡ header_of (length c)
  header_there =
      ap (λ (s : List ℤ). header_at s end) (sym (sets_first c work end (header_of (length c))))
      ∙ get_or-set_same (sets work (suc end) c) end (header_of (length c)) (pos 0) (omega (arith, length-sets work (suc end) c))

  clause_there : length c ≤ largest → clause_at (sets work end (entry c)) end ≡ c
  clause_there h =
      let rest = drop (end + length (entry c)) work in
      entry_clause (sets work end (entry c)) end c h rest
      (ap (drop end) (sets-eq (entry c) work end b ∙ append_assoc (take end work) (entry c) rest) ∙ drop_at (take end work) (entry c ++ rest) end (length-take-le end work (omega arith)))

-- what grew has the same store before it
grown_before : {f : Formula} {w v u : List ℤ} {m n : List ℕ} {x y : Bytes} {p q : Progress} → length v ≡ length w → take p.end v ≡ take p.end w → Grown f v m x p u n y q → Grown f w m x p u n y q
grown_before {f} l e g = record {
  size = g.size ∙ l;
  next = g.next;
  filled = g.filled ∙ ap (λ (s : List ℤ). s ++ entries f) e;
  formed = g.formed;
  stands = g.stands;
  written = g.written;
  indexed = g.indexed;
  nodes_are = g.nodes_are;
}

-- ---- the clauses of a clash

-- a clause is not longer without a literal
without_length : (l : ℤ) (c : Clause) → length (without l c) ≤ length c
unfolding without those
without_length l [] = omega arith
without_length l (x ∷ c) = go (same l x) (without_length l c)
  where
    go : (b : Bool) → length (those (λ m. not (same l m)) c) ≤ length c
        → length (cond (not b) (x ∷ those (λ m. not (same l m)) c) (those (λ m. not (same l m)) c)) ≤ length (x ∷ c)
    go true h = omega arith
    go false h = omega arith

module _ {work : List ℤ} {newest : List ℕ} {p : Progress} {v x y : ℕ} (r : Resolvable work newest p v x y) where
  abbrev s : List ℤ
  s = take p.end work

  abbrev c : Clash
  c = clash_there s v x y

  pub is_clash : IsClash (stored s) c
  is_clash = (clash_at_some (stored s) v c r.clash.clash).1

  variable_small : v ≤ input_reach
  variable_small = (r.good.fits c.one is_clash.one_stands (pos v) is_clash.one_holds).1

  pub parents : Parents s v x y
  parents = record {
    one_stands = r.clash.one_stands;
    one_holds = is_clash.one_holds;
    one_once = unique_at (stored s) c.one is_clash.one_unique (pos v) is_clash.one_holds;
    other_stands = r.clash.other_stands;
    other_holds = is_clash.other_holds;
    other_once = unique_at (stored s) c.other is_clash.other_unique (neg_ℤ (pos v)) is_clash.other_holds;
    apart = λ i. proper_unopposed c.one (r.good.proper c.one is_clash.one_stands) (pos v) is_clash.one_holds i;
    small = variable_small;
    one_proper = r.good.proper c.one is_clash.one_stands;
    other_proper = r.good.proper c.other is_clash.other_stands;
    other_fits = r.good.fits c.other is_clash.other_stands;
  }

  short : (d : Clause) → Memᴰ d (stored s) → length d ≤ input_reach
  short d i = proper_length input_reach d (proper_fits input_reach (stored s) r.good.proper r.good.fits d i)

  resolvent_short : length (resolvent c) ≤ input_reach + input_reach
  unfolding resolvent
  resolvent_short =
      omega (
        arith,
        length-append (without (pos v) c.one) (without (neg_ℤ (pos v)) c.other),
        without_length (pos v) c.one,
        without_length (neg_ℤ (pos v)) c.other,
        short c.one is_clash.one_stands,
        short c.other is_clash.other_stands,
      )

  one_inside : {e : ℕ} → e ≡ past work x → (x + 1 ≤ e) × (e ≤ p.end) × (e ≤ length work)
  one_inside i = let k = part_inside work p.end x r.clash.one_stands r.good.inside i in (k.0, k.1, omega (arith, k.1, r.good.inside))

  other_inside : {e : ℕ} → e ≡ past work y → (y + 1 ≤ e) × (e ≤ p.end) × (e ≤ length work)
  other_inside i = let k = part_inside work p.end y r.clash.other_stands r.good.inside i in (k.0, k.1, omega (arith, k.1, r.good.inside))

  -- by what `is_tautology` answers
  pub opposed_as : {b t : Bool} → t ≡ opposed (resolvent c) → t ≡ b → opposed (resolvent c) ≡ b
  opposed_as e k = sym e ∙ k

  -- room for the entry of the resolvent and its nodes
  entry_room : opposed (resolvent c) ≡ false → p.end + (length (resolvent c) + 1) + 2 * (nodes newest + length (resolvent c)) ≤ length work
  entry_room o = omega (arith, r.space o, numbers_first (resolvent c) [], numbers_none, literals_first (resolvent c) [], literals_none)

  -- nothing is added
  pub none_grown : (log : Bytes) → opposed (resolvent c) ≡ true → Grown (added_by c) work newest log p work newest log p
  unfolding only_if
  none_grown log e = rw e (grown_none work newest log p r.indexed)

  -- by the places past the two clauses
  module _ {e f : ℕ} (i : e ≡ past work x) (j : f ≡ past work y) where
    abbrev a : ℕ
    a = x + 1

    abbrev b : ℕ
    b = y + 1

    abbrev na : ℕ
    na = e - a

    abbrev nb : ℕ
    nb = f - b

    one_part : take na (drop a work) ≡ c.one
    one_part = part_clause work p.end x r.clash.one_stands r.good.inside i

    other_part : take nb (drop b work) ≡ c.other
    other_part = part_clause work p.end y r.clash.other_stands r.good.inside j

    joined_is : joined work a na b nb v ≡ resolvent c
    unfolding resolvent
    joined_is =
        ap₂ (λ (x y : Clause). x ++ y)
        (ap₂ without (signed_small false v (omega (arith, variable_small))) one_part)
        (ap₂ without (signed_small true v (omega (arith, variable_small))) other_part)

    pub parts_joinable : opposed (resolvent c) ≡ false → Joinable work p.end a na b nb v
    parts_joinable o = record { one = omega (arith, one_inside i); other = omega (arith, other_inside j); space = omega (arith, entry_room o, ap length joined_is) }

    -- the entry is written
    module _ (o : opposed (resolvent c) ≡ false) {n : ℕ} {new : List ℤ} (d : n ≡ p.end + (length (joined work a na b nb v) + 1)) (w : new ≡ sets work p.end (entry (joined work a na b nb v))) where
      next_is : n ≡ p.end + (length (resolvent c) + 1)
      next_is = omega (arith, d, ap length joined_is)

      new_is : new ≡ sets work p.end (entry (resolvent c))
      new_is = w ∙ ap (λ (x : Clause). sets work p.end (entry x)) joined_is

      entry_fits : p.end + length (entry (resolvent c)) ≤ length work
      entry_fits = omega (arith, entry_room o)

      pub still_indexed : Indexed new p.end newest
      still_indexed = rw new_is (indexed_sets r.indexed p.end (entry (resolvent c)) (omega arith) (omega (arith, entry_room o)))

      pub entry_there : EntryThere new p.end n
      entry_there = record {
        longer = omega (arith, next_is);
        header = ap (λ (s : List ℤ). header_at s p.end) new_is ∙ header_there work p.end (resolvent c) entry_fits ∙ ap header_of (omega (arith, next_is));
      }

      pub nodes_room : n + 2 * (nodes newest + (n - (p.end + 1))) ≤ length new
      nodes_room = omega (arith, next_is, entry_room o, ap length new_is, length-sets work p.end (entry (resolvent c)))

      pub resolvent_grown : {log new_log : Bytes} {more : List ℤ} {later : List ℕ} {q : Progress} → Grown (clause_at new p.end ∷ []) new newest log p more later new_log q → Grown (added_by c) work newest log p more later new_log q
      unfolding only_if
      resolvent_grown {log} {new_log} {more} {later} {q} g =
          let e : clause_at new p.end ≡ resolvent c = ap (λ (s : List ℤ). clause_at s p.end) new_is ∙ clause_there work p.end (resolvent c) entry_fits (omega (arith, resolvent_short)) in
          rw o (grown_before (ap length new_is ∙ length-sets work p.end (entry (resolvent c))) (ap (take p.end) new_is ∙ sets_before (entry (resolvent c)) work p.end p.end (omega arith))
          (subst (λ (d : Clause). Grown (d ∷ []) new newest log p more later new_log q) e g))
