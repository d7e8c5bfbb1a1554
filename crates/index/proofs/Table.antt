-- The table read is the walk over what stands: both meet a literal's entries in turn, the walk from the first on and the table from the last, where each place read goes before those already there. Assumes nothing.
use mathlib.Core.Path.{◌≡◌, refl, sym, ap, ◌∙◌}
use mathlib.Core.Bool.{Bool, true, false, not, ◌&&◌, cond}
use mathlib.Core.List.Memᴰ.{head as here}
use mathlib.Core.List.Memᴰ.{tail as there}
use mathlib.Core.List.{List, [], ◌∷◌, ◌++◌, append-nil, Memᴰ}
use Prim.Native.Nat.{ℕ, zero, suc, ◌+◌, ◌≤◌, ◌<◌}
use native.Mathlib.Omega.{arith}
use lib.IntN.{ℤ}
use lib.ListN.{length, take}
use lib.Seq.{take-length, length-take-le}
use borrow.Author.Tests.{ne_eqb}
use Rattle.definition.specs.Literals.{Clause, same}
use Rattle.theory_base.proofs.Tests.{by_test}
use Rattle.literals.specs.Literal.{negative, index_of, header_literals}
use Rattle.tables.specs.Sizes.{log_size}
use Rattle.store.specs.Store.{FormedFrom, Formed, header_at, deleted_at, clause_at, past, Place}
use Rattle.store.proofs.Laws.{by_entries, place_end, clause_length, prefix_next, prefix_header}
use Rattle.index.specs.Index.{nodes, Chain, none, node, entered_from, entered, Indexed, read_from, table_places, holding_from, holding}
use Rattle.index.proofs.Walk.{pushed, entered_next, entered_sound}
use Rattle.index.proofs.Laws.{indexed_inside, indexed_length}

-- each place whose clause stands before those already there
unfoldable standing : List ℤ → List ℕ → List ℕ → List ℕ
standing s [] ps = ps
standing s (a ∷ qs) ps = standing s qs (cond (deleted_at s a) ps (a ∷ ps))

read_chain : {work : List ℤ} {t : ℕ} {qs : List ℕ} (n : ℕ) (ps : List ℕ) → Chain work t qs → t ≤ n → read_from n work t ps ≡ standing work qs ps
unfolding read_from standing
read_chain zero ps none h = refl
read_chain (suc n) ps none h = refl
read_chain zero ps (node p o l c) h = absurd (omega arith)
read_chain {work} (suc n) ps (node {t = t} {a = a} p o l c) h =
    let e : t ≡ 0 → ⊥ = λ z. omega arith in
    rw (ne_eqb t 0 e, p, o) (read_chain n (cond (deleted_at work a) ps (a ∷ ps)) c (omega arith))

standing_same : (s t : List ℤ) (qs ps : List ℕ) → ((a : ℕ) → Memᴰ a qs → deleted_at s a ≡ deleted_at t a) → standing s qs ps ≡ standing t qs ps
unfolding standing
standing_same s t [] ps f = refl
standing_same s t (a ∷ qs) ps f = rw (f a (here refl)) (standing_same s t qs (cond (deleted_at t a) ps (a ∷ ps)) (λ b i. f b (there i)))

standing_before : (s : List ℤ) (qs ps rs : List ℕ) → standing s qs (ps ++ rs) ≡ standing s qs ps ++ rs
unfolding standing
standing_before s [] ps rs = refl
standing_before s (a ∷ qs) ps rs = ap (standing s qs) (go (deleted_at s a)) ∙ standing_before s qs (cond (deleted_at s a) ps (a ∷ ps)) rs
  where
    go : (b : Bool) → cond b (ps ++ rs) (a ∷ ps ++ rs) ≡ cond b ps (a ∷ ps) ++ rs
    go true = refl
    go false = refl

-- ---- one entry more

pushed_first : (l : ℤ) (a : ℕ) (c : Clause) (ps : List ℕ) → pushed l a c (a ∷ ps) ≡ a ∷ pushed l a c ps
unfolding pushed
pushed_first l a [] ps = refl
pushed_first l a (x ∷ c) ps = go (same l x) (pushed_first l a c (a ∷ ps)) (pushed_first l a c ps)
  where
    go : (b : Bool) → pushed l a c (a ∷ a ∷ ps) ≡ a ∷ pushed l a c (a ∷ ps) → pushed l a c (a ∷ ps) ≡ a ∷ pushed l a c ps
        → pushed l a c (cond b (a ∷ a ∷ ps) (a ∷ ps)) ≡ a ∷ pushed l a c (cond b (a ∷ ps) ps)
    go true e f = e
    go false e f = f

module _ (s : List ℤ) (l : ℤ) (a : ℕ) where
  standing_deleted : (c : Clause) (qs ps : List ℕ) → deleted_at s a ≡ true → standing s (pushed l a c qs) ps ≡ standing s qs ps
  unfolding standing pushed
  standing_deleted [] qs ps d = refl
  standing_deleted (x ∷ c) qs ps d = standing_deleted c (cond (same l x) (a ∷ qs) qs) ps d ∙ go (same l x)
    where
      go : (b : Bool) → standing s (cond b (a ∷ qs) qs) ps ≡ standing s qs ps
      go true = ap (λ (t : Bool). standing s qs (cond t ps (a ∷ ps))) d
      go false = refl

  standing_stands : (c : Clause) (qs ps : List ℕ) → deleted_at s a ≡ false → standing s (pushed l a c qs) ps ≡ standing s qs (pushed l a c ps)
  unfolding standing pushed
  standing_stands [] qs ps d = refl
  standing_stands (x ∷ c) qs ps d = standing_stands c (cond (same l x) (a ∷ qs) qs) ps d ∙ go (same l x)
    where
      go : (b : Bool) → standing s (cond b (a ∷ qs) qs) (pushed l a c ps) ≡ standing s qs (pushed l a c (cond b (a ∷ ps) ps))
      go true = ap (λ (t : Bool). standing s qs (cond t (pushed l a c ps) (a ∷ pushed l a c ps))) d ∙ ap (standing s qs) (sym (pushed_first l a c ps))
      go false = refl

holding_fresh : (l : ℤ) (b d : Bool) (m n at : ℕ) (s : List ℤ) → holding_from l 0 b m at s ≡ holding_from l 0 d n at s
unfolding holding_from
holding_fresh l b d m n at [] = refl
holding_fresh l b d m n at (h ∷ s) = refl

holding-++ : (l : ℤ) (k : ℕ) (b : Bool) (start at : ℕ) (s t : List ℤ) → FormedFrom k s → holding_from l k b start at (s ++ t) ≡ holding_from l k b start at s ++ holding_from l 0 false 0 (at + length s) t
unfolding holding_from
holding-++ l zero b start at [] t f = holding_fresh l b false start 0 at t ∙ ap (λ (n : ℕ). holding_from l 0 false 0 n t) (omega arith)
holding-++ l (suc k) b start at [] t f = absurd f
holding-++ l zero b start at (h ∷ s) t f =
    holding-++ l (header_literals h) (not (negative h)) at (at + 1) s t f ∙ ap (λ (n : ℕ). holding_from l (header_literals h) (not (negative h)) at (at + 1) s ++ holding_from l 0 false 0 n t) (omega arith)
holding-++ l (suc k) b start at (x ∷ s) t f =
    go (b && same l x) (holding-++ l k b start (at + 1) s t f ∙ ap (λ (n : ℕ). holding_from l k b start (at + 1) s ++ holding_from l 0 false 0 n t) (omega arith))
  where
    go : (d : Bool) → holding_from l k b start (at + 1) (s ++ t) ≡ holding_from l k b start (at + 1) s ++ holding_from l 0 false 0 (at + length (x ∷ s)) t
        → cond d (start ∷ holding_from l k b start (at + 1) (s ++ t)) (holding_from l k b start (at + 1) (s ++ t)) ≡ cond d (start ∷ holding_from l k b start (at + 1) s) (holding_from l k b start (at + 1) s) ++ holding_from l 0 false 0 (at + length (x ∷ s)) t
    go true e = ap (λ (r : List ℕ). start ∷ r) e
    go false e = e

holding_clause : (l : ℤ) (k : ℕ) (b : Bool) (start at : ℕ) (c : Clause) → length c ≤ k → holding_from l k b start at c ≡ cond b (pushed l start c []) []
unfolding holding_from pushed
holding_clause l k true start at [] h = refl
holding_clause l k false start at [] h = refl
holding_clause l zero b start at (x ∷ c) h = absurd (omega arith)
holding_clause l (suc k) false start at (x ∷ c) h = holding_clause l k false start (at + 1) c (omega arith)
holding_clause l (suc k) true start at (x ∷ c) h = go (same l x) (holding_clause l k true start (at + 1) c (omega arith))
  where
    go : (b : Bool) → holding_from l k true start (at + 1) c ≡ pushed l start c []
        → cond b (start ∷ holding_from l k true start (at + 1) c) (holding_from l k true start (at + 1) c) ≡ pushed l start c (cond b (start ∷ []) [])
    go true e = ap (λ (r : List ℕ). start ∷ r) e ∙ sym (pushed_first l start c [])
    go false e = e

module _ (l : ℤ) (s : List ℤ) (at : ℕ) (h : at < length s) (p : Place s at) where
  holding_next : holding l (take (past s at) s) ≡ holding l (take at s) ++ cond (not (deleted_at s at)) (pushed l at (clause_at s at) []) []
  unfolding holding_from
  holding_next =
      ap (holding l) (prefix_next s at h)
      ∙ holding-++ l 0 false 0 0 (take at s) (header_at s at ∷ clause_at s at) p.before
      ∙ ap (λ (r : List ℕ). holding l (take at s) ++ r)
      (holding_clause l (header_literals (header_at s at)) (not (deleted_at s at)) (0 + length (take at s)) (0 + length (take at s) + 1) (clause_at s at) (omega (arith, clause_length s at h p.rest))
      ∙ ap (λ (n : ℕ). cond (not (deleted_at s at)) (pushed l n (clause_at s at) []) []) (omega (arith, length-take-le at s p.inside)))

  standing_next : standing s (entered l (take at s)) [] ≡ holding l (take at s) → standing s (entered l (take (past s at) s)) [] ≡ holding l (take (past s at) s)
  standing_next e = ap (λ (r : List ℕ). standing s r []) (entered_next s at h p l) ∙ by_test (deleted_at s at) gone stays ∙ sym holding_next
    where
      gone : deleted_at s at ≡ true → standing s (pushed l at (clause_at s at) (entered l (take at s))) [] ≡ holding l (take at s) ++ cond (not (deleted_at s at)) (pushed l at (clause_at s at) []) []
      gone d = standing_deleted s l at (clause_at s at) (entered l (take at s)) [] d ∙ e ∙ sym (rw d (append-nil (holding l (take at s))))

      stays : deleted_at s at ≡ false → standing s (pushed l at (clause_at s at) (entered l (take at s))) [] ≡ holding l (take at s) ++ cond (not (deleted_at s at)) (pushed l at (clause_at s at) []) []
      stays d =
          standing_stands s l at (clause_at s at) (entered l (take at s)) [] d
          ∙ standing_before s (entered l (take at s)) [] (pushed l at (clause_at s at) [])
          ∙ ap (λ (r : List ℕ). r ++ pushed l at (clause_at s at) []) e
          ∙ sym (rw d refl)

entered_holding : (l : ℤ) (s : List ℤ) → Formed s → standing s (entered l s) [] ≡ holding l s
unfolding standing entered_from holding_from
entered_holding l s f =
    rw (take-length s) at
    (by_entries s (λ (q : ℕ). standing s (entered l (take q s)) [] ≡ holding l (take q s)) refl (λ at h p e. standing_next l s at h p e) (length s) (place_end f))

-- what the table gives for a literal is what a walk over the store finds
pub table_holding : (work : List ℤ) (end : ℕ) (newest : List ℕ) → Indexed work end newest → (l : ℤ) → index_of l < log_size → table_places work newest l ≡ holding l (take end work)
table_holding work end newest i l h =
    let c = i.chains l h in
    read_chain (nodes newest) [] c.1 c.0
    ∙ standing_same work (take end work) (entered l (take end work)) [] (λ a m. ap negative (sym (prefix_header work end a (inside a m) (indexed_inside i))))
    ∙ entered_holding l (take end work) i.formed
  where
    inside : (a : ℕ) → Memᴰ a (entered l (take end work)) → a < end
    inside a m = omega (arith, (entered_sound i.formed m).inside, indexed_length i)
