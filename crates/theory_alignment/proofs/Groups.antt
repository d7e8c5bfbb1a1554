-- Two literals are in one group exactly when a chain joins them. Assumes nothing.
use mathlib.Core.Path.{◌≡◌, refl, ◌∙◌, fun_ext}
use mathlib.Core.Bool.{Bool, true, false, cond, ◌&&◌, and_comm}
use mathlib.Core.List.Memᴰ
use mathlib.Core.List.Memᴰ.{head as here}
use mathlib.Core.List.Memᴰ.{tail as there}
use mathlib.Core.List.{List, [], ◌∷◌, Memᴰ}
use lib.Dec.{T}
use lib.IntN.{ℤ, neg_ℤ}
use Rattle.definition.specs.Lists.{for_each, only_if}
use Rattle.definition.specs.Literals.{Clause, Formula, same, holds, same_set}
use Rattle.definition.specs.Standing.{stands}
use Rattle.definition.specs.Alignment.{choice_literals, linked, Chain, nothing, link, links, join, grouped, group}
use Rattle.theory_base.proofs.Tests.{to_true, of_true, and_l, and_r, and_i}
use Rattle.theory_base.proofs.Members.{any_mem, same_eq, same_refl, holds_mem, same_set_same, same_joined, pair_turned}
use Rattle.theory_base.proofs.Removal.{stands_same}
use Rattle.theory_base.proofs.Loops.{for_each_mem, mem_for_each, only_if_mem, mem_only_if}
use Rattle.theory_alignment.specs.Groups.{apart}

-- ---- links and chains, turned
stands_pair_turned : (x y : ℤ) (f : Formula) → T (stands (x ∷ y ∷ []) f) → T (stands (y ∷ x ∷ []) f)
unfolding stands
stands_pair_turned x y f t =
    let r = any_mem (same_set (x ∷ y ∷ [])) f t in
    stands_same (y ∷ x ∷ []) r.0 f r.1 (same_joined (pair_turned y x) (same_set_same (x ∷ y ∷ []) r.0 r.2))

pub apart_turned : (cs : List Clause) (a b : ℤ) → apart cs a b ≡ apart cs b a
apart_turned cs a b =
    rw (and_comm (holds a (choice_literals cs)) (holds b (choice_literals cs)), fun_ext (λ (c : Clause). and_comm (holds a c) (holds b c)))

module _ (f : Formula) (cs : List Clause) where
  linked_turned : (a b : ℤ) → T (linked f cs a b) → T (linked f cs b a)
  unfolding linked
  linked_turned a b t =
      and_i (apart cs b a) (stands (neg_ℤ b ∷ neg_ℤ a ∷ []) f) (rw (apart_turned cs a b) at (and_l (apart cs a b) _ t))
      (stands_pair_turned (neg_ℤ a) (neg_ℤ b) f (and_r (apart cs a b) _ t))

  -- a chain is an equivalence
  pub chain_joined : {a b d : ℤ} → Chain f cs a b → Chain f cs b d → Chain f cs a d
  chain_joined nothing q = q
  chain_joined (link t p) q = link t (chain_joined p q)

  pub chain_turned : {a b : ℤ} → Chain f cs a b → Chain f cs b a
  chain_turned nothing = nothing
  chain_turned (link {a = a} {b = b} t p) = chain_joined (chain_turned p) (link (linked_turned a b t) nothing)

  -- the list of links holds exactly the links
  links_linked : (l : ℤ × ℤ) → Memᴰ l (links f cs) → T (linked f cs l.0 l.1)
  unfolding links
  links_linked l i =
      let r = for_each_mem (choice_literals cs) (λ a. for_each (choice_literals cs) (λ b. only_if (linked f cs a b) ((a, b) ∷ []))) l i in
      let q = for_each_mem (choice_literals cs) (λ b. only_if (linked f cs r.0 b) ((r.0, b) ∷ [])) l r.2 in
      let u = only_if_mem (linked f cs r.0 q.0) ((r.0, q.0) ∷ []) l q.2 in
      rw (Memᴰ.eq_of_singleton u.1) u.0

  linked_links : (a b : ℤ) → T (linked f cs a b) → Memᴰ (a, b) (links f cs)
  unfolding links linked
  linked_links a b t =
      let ls = choice_literals cs in
      let both = and_l (holds a ls && holds b ls) _ (and_l (apart cs a b) _ t) in
      mem_for_each ls _ a (a, b) (holds_mem a ls (and_l (holds a ls) _ both))
      (mem_for_each ls _ b (a, b) (holds_mem b ls (and_r (holds a ls) _ both)) (mem_only_if (linked f cs a b) ((a, b) ∷ []) (a, b) t (here refl)))

-- ---- joining groups, link by link
join_same : (g : ℤ → ℤ) (l : ℤ × ℤ) → join g l l.0 ≡ join g l l.1
unfolding join
join_same g l = let e : same (g l.1) (g l.1) ≡ true = to_true (same_refl (g l.1)) in rw e (go (same (g l.0) (g l.1)))
  where
    go : (b : Bool) → cond b (g l.0) (g l.0) ≡ g l.0
    go true = refl
    go false = refl

-- what is in one group stays in one group
grouped_keeps : (g : ℤ → ℤ) (ls : List (ℤ × ℤ)) (a b : ℤ) → g a ≡ g b → grouped g ls a ≡ grouped g ls b
unfolding grouped join
grouped_keeps g [] a b e = e
grouped_keeps g (l ∷ ls) a b e = grouped_keeps (join g l) ls a b (rw e)

-- the two literals of a link are in one group
grouped_joins : (g : ℤ → ℤ) (ls : List (ℤ × ℤ)) (l : ℤ × ℤ) → Memᴰ l ls → grouped g ls l.0 ≡ grouped g ls l.1
unfolding grouped
grouped_joins g (k ∷ ls) l (here e) = rw e (grouped_keeps (join g k) ls k.0 k.1 (join_same g k))
grouped_joins g (k ∷ ls) l (there i) = grouped_joins (join g k) ls l i
grouped_joins g [] l x' = elim x' [ ]

module _ (f : Formula) (cs : List Clause) where
  -- a chain joins a literal to its group's name
  join_chain : (g : ℤ → ℤ) (l : ℤ × ℤ) → ((m : ℤ) → Chain f cs m (g m)) → T (linked f cs l.0 l.1) → (m : ℤ) → Chain f cs m (join g l m)
  unfolding join
  join_chain g l h t m = go (same (g m) (g l.1)) refl
    where
      go : (b : Bool) → same (g m) (g l.1) ≡ b → Chain f cs m (cond b (g l.0) (g m))
      go true e =
          let to_second = rw (same_eq (g m) (g l.1) (of_true e)) at (h m) in
          let to_first = chain_turned f cs (link t (h l.1)) in
          chain_joined f cs to_second (chain_joined f cs to_first (h l.0))
      go false e = h m

  grouped_chain : (g : ℤ → ℤ) (ls : List (ℤ × ℤ)) → ((m : ℤ) → Chain f cs m (g m)) → ((l : ℤ × ℤ) → Memᴰ l ls → T (linked f cs l.0 l.1)) → (m : ℤ) → Chain f cs m (grouped g ls m)
  unfolding grouped
  grouped_chain g [] h t m = h m
  grouped_chain g (l ∷ ls) h t m = grouped_chain (join g l) ls (join_chain g l h (t l (here refl))) (λ k i. t k (there i)) m

  -- two literals are in one group exactly when a chain joins them
  pub chain_group : (a b : ℤ) → Chain f cs a b → group f cs a ≡ group f cs b
  unfolding group
  chain_group a b nothing = refl
  chain_group a d (link {b = b} t p) = grouped_joins (λ l. l) (links f cs) (a, b) (linked_links f cs a b t) ∙ chain_group b d p

  pub group_chain : (a b : ℤ) → group f cs a ≡ group f cs b → Chain f cs a b
  unfolding group
  group_chain a b e =
      let named = grouped_chain (λ l. l) (links f cs) (λ m. nothing) (links_linked f cs) in
      chain_joined f cs (rw e at (named a)) (chain_turned f cs (named b))
