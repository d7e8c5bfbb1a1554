-- Clauses added one after another. Assumes nothing.
use mathlib.Core.Path.{◌≡◌, refl, sym, ap, ap₂, subst, ◌∙◌}
use mathlib.Core.List.{List, [], ◌∷◌, ◌++◌, map, map-append, append-nil, append_assoc}
use Prim.Native.Nat.{ℕ, suc, ◌+◌, ◌-◌, ◌*◌, ◌≤◌, ◌<◌}
use native.Mathlib.Omega.{arith}
use lib.IntN.{ℤ, pos}
use lib.ListN.{length, take, drop, length-append, length-drop}
use lib.Seq.{sets, sets-eq, length-sets, length-take-le, drop_at}
use Rattle.definition.specs.Lists.{for_each, for_from}
use Rattle.definition.specs.Literals.{Clause, Formula}
use Rattle.definition.specs.Text.{Bytes}
use Rattle.definition.specs.Standing.{addition}
use Rattle.definition.specs.Calls.{numbers_of}
use Rattle.theory_base.proofs.Clauses.{numbers_none, numbers_first, numbers-++, literals_none, literals_first, literals-++}
use Rattle.theory_base.proofs.Loops.{for_each-++, for_from_around, for_from_next}
use Rattle.theory_base.proofs.Slices.{sets_before, getD_before}
use Rattle.literals.specs.Literal.{largest, header_of, header_literals}
use Rattle.literals.proofs.Laws.{literals_header}
use Rattle.store.specs.Store.{Formed, stored, entry, header_at, size_at, clause_at, past, end_after, with_entry}
use Rattle.std.specs.Prelude.{Some, None}
use Rattle.store.proofs.Laws.{formed-++, stored-++, stored_none, entry_formed, entry_stored, entry_header, entry_clause, fits_within, prefix_next, part_there, kept_clause}
use Rattle.index.specs.Index.{nodes, Indexed}
use Rattle.index.proofs.Laws.{indexed_sets}
use Rattle.progress.specs.declared.Progress.{Progress}
use Rattle.progress.specs.Progress.{Written, standing}
use Rattle.progress.specs.Growth.{entries, EntryThere, GrowRoom, Grown}
use Rattle.progress.proofs.Laws.{written_none, written_then, room_first, room_rest, Holds}

-- ---- entries

entries-++ : (f g : Formula) → entries (f ++ g) ≡ entries f ++ entries g
entries-++ f g = for_each-++ f g entry

pub entries_one : (c : Clause) → entries (c ∷ []) ≡ entry c
unfolding for_each
entries_one c = append-nil (entry c)

pub entries_length : (f : Formula) → length (entries f) ≡ numbers_of f
unfolding for_each
entries_length [] = sym numbers_none
entries_length (c ∷ f) = omega (arith, length-append (entry c) (entries f), numbers_first c f, entries_length f)

-- ---- room

pub grow_first : (f g : Formula) {work : List ℤ} {newest : List ℕ} {p : Progress} → GrowRoom (f ++ g) work newest p → GrowRoom f work newest p
grow_first f g r = record {
  indexed = r.indexed;
  space = omega (arith, r.space, numbers-++ f g, literals-++ f g);
  log = room_first (map addition f) (map addition g) (rw (map-append addition f g) at r.log);
}

pub grow_rest : (f g : Formula) {w v : List ℤ} {m n : List ℕ} {x y : Bytes} {p q : Progress} → GrowRoom (f ++ g) w m p → Grown f w m x p v n y q → GrowRoom g v n q
grow_rest f g r a = record {
  indexed = a.indexed;
  space = omega (arith, r.space, numbers-++ f g, literals-++ f g, a.next, a.size, a.nodes_are);
  log = room_rest (map addition f) (map addition g) (rw (map-append addition f g) at r.log) a.written;
}

-- ---- clauses added

pub grown_none : (w : List ℤ) (m : List ℕ) (x : Bytes) (p : Progress) → Indexed w p.end m → Grown [] w m x p w m x p
unfolding for_each
grown_none w m x p i = record {
  size = refl;
  next = omega (arith, numbers_none);
  filled = sym (append-nil (take p.end w));
  formed = tt;
  stands = stored_none;
  written = written_none x p p refl refl;
  indexed = i;
  nodes_are = omega (arith, literals_none);
}

pub grown_then : {f g : Formula} {w v u : List ℤ} {m n o : List ℕ} {x y z : Bytes} {p q r : Progress} → Grown f w m x p v n y q → Grown g v n y q u o z r → Grown (f ++ g) w m x p u o z r
grown_then {f} {g} {w} {p = p} a b = record {
  size = b.size ∙ a.size;
  next = omega (arith, a.next, b.next, numbers-++ f g);
  filled =
      b.filled ∙ ap (λ (s : List ℤ). s ++ entries g) a.filled ∙ append_assoc (take p.end w) (entries f) (entries g)
      ∙ ap (λ (s : List ℤ). take p.end w ++ s) (sym (entries-++ f g));
  formed = rw (entries-++ f g) (formed-++ (entries f) (entries g) a.formed b.formed);
  stands = ap stored (entries-++ f g) ∙ stored-++ (entries f) (entries g) a.formed ∙ ap₂ (λ (c d : Formula). c ++ d) a.stands b.stands;
  written = rw (map-append addition f g) (written_then a.written b.written);
  indexed = b.indexed;
  nodes_are = omega (arith, a.nodes_are, b.nodes_are, literals-++ f g);
}

-- one clause
pub grown_one : {w v : List ℤ} {m n : List ℕ} {x y : Bytes} {p q : Progress} (c : Clause) → length c ≤ largest → length v ≡ length w → q.end ≡ p.end + (length c + 1) → take q.end v ≡ take p.end w ++ entry c →
    Written (addition c ∷ []) x p y q → Indexed v q.end n → nodes n ≡ nodes m + length c → Grown (c ∷ []) w m x p v n y q
grown_one {w} {p = p} c s l e t d i k = record {
  size = l;
  next = omega (arith, numbers_first c [], numbers_none);
  filled = t ∙ ap (λ (s : List ℤ). take p.end w ++ s) (sym (entries_one c));
  formed = rw (entries_one c) (entry_formed c s);
  stands = ap stored (entries_one c) ∙ entry_stored c s;
  written = d;
  indexed = i;
  nodes_are = omega (arith, literals_first c [], literals_none);
}

-- ---- by what enter and record_line answer of an entry that was written behind the store

module _ {w : List ℤ} {m : List ℕ} (at next : ℕ) (i : Indexed w at m) (t : EntryThere w at next) (b : next + 2 * (nodes m + (next - (at + 1))) ≤ length w) where
  there_size : size_at w at ≡ next - (at + 1)
  there_size = ap header_literals t.header ∙ literals_header (next - (at + 1)) (omega (arith, i.small))

  pub there_past : next ≡ past w at
  there_past = omega (arith, there_size, t.longer)

  there_length : length (clause_at w at) ≡ next - (at + 1)
  there_length = length-take-le (size_at w at) (drop (at + 1) w) (omega (arith, length-drop (at + 1) w, there_size, t.longer)) ∙ there_size

  there_filled : take next w ≡ take at w ++ entry (clause_at w at)
  there_filled =
      ap (λ (n : ℕ). take n w) there_past ∙ prefix_next w at (omega (arith, t.longer))
      ∙ ap (λ (h : ℤ). take at w ++ (h ∷ clause_at w at)) (t.header ∙ ap header_of (sym there_length))

  there_part : (v : List ℤ) → length v ≡ length w → take next v ≡ take next w → take (next - (at + 1)) (drop (at + 1) v) ≡ clause_at w at
  there_part v l e =
      let h : header_at v at ≡ header_at w at = getD_before v w next at (pos 0) e t.longer in
      part_there v at next (there_past ∙ ap (λ (x : ℤ). at + (1 + header_literals x)) (sym h))
      ∙ kept_clause w v next at (sym e) (omega arith) (omega arith) t.longer (omega (arith, there_past))

  pub entered_grown : {v : List ℤ} {n : List ℕ} {x y : Bytes} {p q : Progress} → p.end ≡ at → length v ≡ length w → Indexed v next n → take next v ≡ take next w → nodes n ≡ nodes m + (next - (at + 1)) →
      Written (addition (take (next - (at + 1)) (drop (at + 1) v)) ∷ []) x p y q → Grown (clause_at w at ∷ []) w m x p v n y (record { end = next; at = q.at; lines = q.lines })
  entered_grown {v} {n} {x} {y} {p} {q} a l d e k o =
      let r : Written (addition (clause_at w at) ∷ []) x p y q = subst (λ (c : Clause). Written (addition c ∷ []) x p y q) (there_part v l e) o in
      grown_one (clause_at w at) (omega (arith, there_length, i.small)) l (omega (arith, there_length, t.longer, a)) (e ∙ there_filled ∙ ap (λ (j : ℕ). take j w ++ entry (clause_at w at)) (sym a))
      (record { written = r.written; counted = r.counted }) d (omega (arith, k, there_length))

-- the free part of the workspace may have been written before
pub grown_from : {f : Formula} {w u v : List ℤ} {m n : List ℕ} {x y : Bytes} {p q : Progress} → length u ≡ length w → take p.end u ≡ take p.end w → Grown f u m x p v n y q → Grown f w m x p v n y q
grown_from {f} l e g = record {
  size = g.size ∙ l;
  next = g.next;
  filled = g.filled ∙ ap (λ (s : List ℤ). s ++ entries f) e;
  formed = g.formed;
  stands = g.stands;
  written = g.written;
  indexed = g.indexed;
  nodes_are = g.nodes_are;
}

-- an entry written behind the store
pub record PutThere (c : Clause) (w : List ℤ) (m : List ℕ) (p : Progress) (v : List ℤ) (next : ℕ) : Type 0 where
  pub size : length v ≡ length w
  pub kept : take p.end v ≡ take p.end w
  pub indexed : Indexed v p.end m
  pub there : EntryThere v p.end next
  pub space : next + 2 * (nodes m + (next - (p.end + 1))) ≤ length v
  pub clause_is : clause_at v p.end ≡ c

clause_space : (c : Clause) {w : List ℤ} {m : List ℕ} {p : Progress} → GrowRoom (c ∷ []) w m p → p.end + (length c + 1) + 2 * (nodes m + length c) ≤ length w
clause_space c r = omega (arith, r.space, numbers_first c [], numbers_none, literals_first c [], literals_none)

pub never_full : {P : Type 0} (c : Clause) {w : List ℤ} {m : List ℕ} {p : Progress} → length c ≤ largest → GrowRoom (c ∷ []) w m p → end_after (length w) p.end c ≡ None → P
never_full c {w} {p = p} h r e = absurd (let z : ◌≡◌ {A = ℕ} 0 1 = cc (rw (fits_within (length w) p.end c (omega arith) (omega (arith, clause_space c r))) at e) in omega arith)

-- an entry set there
pub put_at : {w v : List ℤ} {m : List ℕ} {p : Progress} {next : ℕ} (c : Clause) → length c ≤ largest → GrowRoom (c ∷ []) w m p → next ≡ p.end + (length c + 1) → v ≡ sets w p.end (entry c) → PutThere c w m p v next
put_at {w} {v} {m} {p} {next} c h r e f =
    let at = p.end in
    let space = clause_space c r in
    let behind = drop (at + length (entry c)) w in
    let d : drop at v ≡ entry c ++ behind =
    ap (drop at) (f ∙ sets-eq (entry c) w at (omega arith) ∙ append_assoc (take at w) (entry c) behind)
    ∙ drop_at (take at w) (entry c ++ behind) at (length-take-le at w (omega arith)) in
    let n : next - (at + 1) ≡ length c = omega arith in
    record {
      size = ap length f ∙ length-sets w at (entry c);
      kept = ap (take at) f ∙ sets_before (entry c) w at at (omega arith);
      indexed = rw f (indexed_sets r.indexed at (entry c) (omega arith) (omega arith));
      there = record { longer = omega arith; header = entry_header v at c h behind d ∙ ap header_of (sym n) };
      space = omega (arith, ap length f, length-sets w at (entry c));
      clause_is = entry_clause v at c h behind d;
    }

-- by what append_clause answers
pub put_there : {w v : List ℤ} {m : List ℕ} {p : Progress} {next : ℕ} (c : Clause) → length c ≤ largest → GrowRoom (c ∷ []) w m p → end_after (length w) p.end c ≡ Some next → v ≡ with_entry w p.end c → PutThere c w m p v next
put_there {w} {v} {m} {p} {next} c h r e f =
    let space = clause_space c r in
    let fit = fits_within (length w) p.end c (omega arith) (omega arith) in
    let a : Some (p.end + (length c + 1)) ≡ Some next = rw fit at e in
    let b : v ≡ sets w p.end (entry c) = rw fit at f in
    let g : p.end + (length c + 1) ≡ next = cc in
    put_at c h r (sym g) b

pub grown_put : {w u v : List ℤ} {m n : List ℕ} {x y : Bytes} {p q : Progress} {next : ℕ} {c : Clause} → PutThere c w m p u next → Grown (clause_at u p.end ∷ []) u m x p v n y q → Grown (c ∷ []) w m x p v n y q
grown_put {w} {u} {v} {m} {n} {x} {y} {p} {q} t g = subst (λ (d : Clause). Grown (d ∷ []) w m x p v n y q) t.clause_is (grown_from t.size t.kept g)

-- ---- what stands then
module _ {f : Formula} {w v : List ℤ} {m n : List ℕ} {x y : Bytes} {p q : Progress} (g : Grown f w m x p v n y q) where
  pub grown_holds : Formed (take p.end w) → Holds (standing w p ++ f) v q.end
  grown_holds a = record {
    inside = omega (arith, g.indexed.room);
    formed = rw g.filled (formed-++ (take p.end w) (entries f) a g.formed);
    stands = ap stored g.filled ∙ stored-++ (take p.end w) (entries f) a ∙ ap (λ (G : Formula). standing w p ++ G) g.stands;
  }

-- ---- a loop that adds the clauses f j for each j from k on

pub grown_start : (k j : ℕ) (f : ℕ → Formula) (w : List ℤ) (m : List ℕ) (x : Bytes) (p : Progress) → Indexed w p.end m → j ≤ k → Grown (for_from k (j - k) f) w m x p w m x p
unfolding for_from
grown_start k j f w m x p i h = let e : j - k ≡ 0 = omega arith in rw e (grown_none w m x p i)

pub grow_turn : {w v : List ℤ} {m o : List ℕ} {x y : Bytes} {p q : Progress} (k n j : ℕ) (f : ℕ → Formula) → k ≤ j → j < k + n → GrowRoom (for_from k n f) w m p → Grown (for_from k (j - k) f) w m x p v o y q → GrowRoom (f j) v o q
grow_turn k n j f a b r g =
    grow_first (f j) (for_from (suc j) (k + n - suc j) f) (grow_rest (for_from k (j - k) f) (f j ++ for_from (suc j) (k + n - suc j) f) (rw (for_from_around k n j f a b) at r) g)

pub grown_turn : {w v u : List ℤ} {m n o : List ℕ} {x y z : Bytes} {p q r : Progress} (k j : ℕ) (f : ℕ → Formula) → k ≤ j → Grown (for_from k (j - k) f) w m x p v n y q → Grown (f j) v n y q u o z r → Grown (for_from k (j + 1 - k) f) w m x p u o z r
grown_turn k j f a g h = rw (for_from_next k j f a) (grown_then g h)
