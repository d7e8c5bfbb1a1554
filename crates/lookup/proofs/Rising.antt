-- Lists that rise strictly: an element more at the end, and the part from a number on. Assumes nothing.
use mathlib.Core.Path.{◌≡◌, refl, sym, ap, ◌∙◌}
use mathlib.Core.Bool.{Bool, true, false, cond}
use mathlib.Core.List.Memᴰ
use mathlib.Core.List.Memᴰ.{head as here}
use mathlib.Core.List.Memᴰ.{tail as there}
use mathlib.Core.List.{List, [], ◌∷◌, ◌++◌, Memᴰ}
use Prim.Native.Nat.{ℕ, ◌≤◌, ◌<◌}
use native.Mathlib.Omega.{arith}
use lib.Dec.{leb}
use lib.ListN.{length}
use borrow.Author.Tests.{leb-true, leb-false, le-leb, lt-leb}
use Rattle.definition.specs.Lists.{those}
use Rattle.theory_base.proofs.Tests.{by_test}
use Rattle.theory_base.proofs.Members.{those_same}

abbrev pub Rising : List ℕ → Type 0
Rising [] = Unit {0}
Rising (a ∷ xs) = ((b : ℕ) → Memᴰ b xs → a < b) × Rising xs

pub rising_snoc : (xs : List ℕ) (a : ℕ) → Rising xs → ((b : ℕ) → Memᴰ b xs → b < a) → Rising (xs ++ (a ∷ []))
rising_snoc [] a r h = (λ b i. absurd (Memᴰ.not-nil i), tt)
rising_snoc (x ∷ xs) a r h = (λ b i. last xs b (h x (here refl)) r.0 i, rising_snoc xs a r.1 (λ b i. h b (there i)))
  where
    last : (ys : List ℕ) (b : ℕ) → x < a → ((c : ℕ) → Memᴰ c ys → x < c) → Memᴰ b (ys ++ (a ∷ [])) → x < b
    last [] b l g (here e) = omega arith
    last (y ∷ ys) b l g (here e) = g b (here e)
    last (y ∷ ys) b l g (there i) = last ys b l (λ c j. g c (there j)) i
    last [] b l g (there i) = elim i [ ]

-- ---- the part from a number on

abbrev pub from_on : ℕ → List ℕ → List ℕ
from_on b xs = those (leb b) xs

-- it is the same from two numbers between which there is none
pub from_same : (a b : ℕ) (xs : List ℕ) → a ≤ b → ((x : ℕ) → Memᴰ x xs → x < b → x < a) → from_on a xs ≡ from_on b xs
from_same a b xs l h = those_same (leb a) (leb b) xs (λ x i. by_test (leb b x) (λ t. le-leb a x (omega (arith, leb-true b x t)) ∙ sym t) (λ t. lt-leb a x (h x i (leb-false b x t)) ∙ sym t))

-- none are left from past the last on
pub from_none : (b : ℕ) (xs : List ℕ) → ((x : ℕ) → Memᴰ x xs → x < b) → from_on b xs ≡ []
unfolding those
from_none b [] h = refl
from_none b (x ∷ xs) h = rw (lt-leb b x (h x (here refl))) (from_none b xs (λ y i. h y (there i)))

pub from_all : (xs : List ℕ) → from_on 0 xs ≡ xs
unfolding those
from_all [] = refl
from_all (x ∷ xs) = rw (le-leb 0 x (omega arith)) (ap (λ (r : List ℕ). x ∷ r) (from_all xs))

pub from_few : (b : ℕ) (xs : List ℕ) → length (from_on b xs) ≤ length xs
unfolding those
from_few b [] = omega arith
from_few b (x ∷ xs) = go (leb b x) (from_few b xs)
  where
    go : (t : Bool) → length (from_on b xs) ≤ length xs → length (cond t (x ∷ from_on b xs) (from_on b xs)) ≤ length (x ∷ xs)
    go true h = omega arith
    go false h = omega arith

-- from the last one below b on: that one, and those from b on
pub from_more : (a b : ℕ) (xs : List ℕ) → Rising xs → Memᴰ a xs → a < b → ((x : ℕ) → Memᴰ x xs → x < b → x ≤ a) → from_on a xs ≡ a ∷ from_on b xs
unfolding those
from_more a b (y ∷ ys) r (here e) l h =
    rw (le-leb a y (omega arith), lt-leb b y (omega arith))
    (ap (λ (z : ℕ). z ∷ from_on a ys) (sym e) ∙ ap (λ (zs : List ℕ). a ∷ zs) (those_same (leb a) (leb b) ys same))
  where
    same : (x : ℕ) → Memᴰ x ys → leb a x ≡ leb b x
    same x i =
        let g : a < x = omega (arith, r.0 x i) in
        le-leb a x (omega arith) ∙ sym (by_test (leb b x) (λ t. t) (λ t. absurd (omega (arith, h x (there i) (leb-false b x t)))))
from_more a b (y ∷ ys) r (there i) l h =
    let g : y < a = r.0 a i in
    rw (lt-leb a y (omega arith), lt-leb b y (omega arith)) (from_more a b ys r.1 i l (λ x j. h x (there j)))
from_more a b [] r x4 l h = elim x4 [ ]
