-- A chain of nodes reads the elements of its nodes only, from the last one on: it stays while those do, and a new node goes in front. Assumes nothing.
use mathlib.Core.Path.{◌≡◌, sym, ap, ◌∙◌}
use mathlib.Core.List.{List, ◌∷◌}
use Prim.Native.Nat.{ℕ, ◌+◌, ◌-◌, ◌*◌, ◌≤◌, ◌<◌, ◌^◌}
use native.Mathlib.Omega.{arith}
use lib.IntN.{ℤ, pos}
use lib.ListN.{length, get_or, drop, set, length-set}
use lib.Seq.{get_or-drop, get_or-set_same, get_or-set_other, drop-set-lt}
use Rattle.literals.specs.Literal.{header_of, header_literals}
use Rattle.literals.proofs.Laws.{literals_header}
use Rattle.index.specs.Index.{node_place, older_node, Chain, none, node, with_node}

-- what two lists share from a place on
pub getD_behind : {A : Type 0} (s t : List A) (k i : ℕ) (d : A) → drop k s ≡ drop k t → k ≤ i → get_or s i d ≡ get_or t i d
getD_behind {A} s t k i d e h =
    let z : k + (i - k) ≡ i = omega arith in
    ap (λ (n : ℕ). get_or s n d) (sym z) ∙ sym (get_or-drop k s (i - k) d) ∙ ap (λ (r : List A). get_or r (i - k) d) e ∙ get_or-drop k t (i - k) d ∙ ap (λ (n : ℕ). get_or t n d) z

-- the elements of the first n nodes are the same
pub record SameNodes (n : ℕ) (work new : List ℤ) : Type 0 where
  pub size : length new ≡ length work
  pub room : 2 * n ≤ length work
  pub same : drop (length work - 2 * n) new ≡ drop (length work - 2 * n) work

module _ {n : ℕ} {work new : List ℤ} (e : SameNodes n work new) where
  pub same_place : (t : ℕ) → t ≤ n → node_place new t ≡ node_place work t
  same_place t h =
      ap (λ (k : ℕ). header_literals (get_or new (k - 2 * t) (pos 0))) e.size
      ∙ ap header_literals (getD_behind new work (length work - 2 * n) (length work - 2 * t) (pos 0) e.same (omega arith))

  pub same_older : (t : ℕ) → t ≤ n → older_node new t ≡ older_node work t
  same_older t h =
      ap (λ (k : ℕ). header_literals (get_or new (k - 2 * t + 1) (pos 0))) e.size
      ∙ ap header_literals (getD_behind new work (length work - 2 * n) (length work - 2 * t + 1) (pos 0) e.same (omega arith))

pub chain_kept : {n : ℕ} {work new : List ℤ} {t : ℕ} {ps : List ℕ} → SameNodes n work new → t ≤ n → Chain work t ps → Chain new t ps
chain_kept e h none = none
chain_kept e h (node {t = t} p o l c) = node (same_place e t h ∙ p) (same_older e t h ∙ o) l (chain_kept e (omega arith) c)

-- ---- a new node

module _ (work : List ℤ) (n at u : ℕ) (room : 2 * (n + 1) ≤ length work) where
  pub length_with_node : length (with_node work n at u) ≡ length work
  length_with_node = length-set (set work (length work - 2 * (n + 1)) (header_of at)) (length work - 2 * (n + 1) + 1) (header_of u) ∙ length-set work (length work - 2 * (n + 1)) (header_of at)

  pub with_node_same : SameNodes n work (with_node work n at u)
  with_node_same = record {
    size = length_with_node;
    room = omega arith;
    same = drop-set-lt (length work - 2 * n) (set work (length work - 2 * (n + 1)) (header_of at)) (length work - 2 * (n + 1) + 1) (header_of u) (omega arith)
        ∙ drop-set-lt (length work - 2 * n) work (length work - 2 * (n + 1)) (header_of at) (omega arith);
  }

  module _ (small : length work < 2 ^ 31) (a : at < 2 ^ 31) (b : u ≤ n) where
    new_place : node_place (with_node work n at u) (n + 1) ≡ at
    new_place =
        ap (λ (k : ℕ). header_literals (get_or (with_node work n at u) (k - 2 * (n + 1)) (pos 0))) length_with_node
        ∙ ap header_literals
        (get_or-set_other (set work (length work - 2 * (n + 1)) (header_of at)) (length work - 2 * (n + 1) + 1) (length work - 2 * (n + 1)) (header_of u) (pos 0) (λ e. next (length work - 2 * (n + 1)) e)
        ∙ get_or-set_same work (length work - 2 * (n + 1)) (header_of at) (pos 0) (omega arith))
        ∙ literals_header at a
      where
        next : (k : ℕ) → k ≡ k + 1 → ⊥
        next k e = omega arith

    new_older : older_node (with_node work n at u) (n + 1) ≡ u
    new_older =
        ap (λ (k : ℕ). header_literals (get_or (with_node work n at u) (k - 2 * (n + 1) + 1) (pos 0))) length_with_node
        ∙ ap header_literals
        (get_or-set_same (set work (length work - 2 * (n + 1)) (header_of at)) (length work - 2 * (n + 1) + 1) (header_of u) (pos 0) (omega (arith, length-set work (length work - 2 * (n + 1)) (header_of at))))
        ∙ literals_header u (omega arith)

    pub chain_more : {ps : List ℕ} → Chain work u ps → Chain (with_node work n at u) (n + 1) (at ∷ ps)
    chain_more c = node new_place new_older (omega arith) (chain_kept with_node_same b c)
