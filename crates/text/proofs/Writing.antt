-- Laws of the writers of bytes, literals and clauses. Assumes nothing.
use mathlib.Core.Path.{◌≡◌, ap, ◌∙◌}
use mathlib.Core.List.{[], ◌∷◌, ◌++◌, append-nil, append_assoc}
use Prim.Native.Nat.{ℕ, ◌+◌, ◌≤◌, ◌<◌}
use native.Mathlib.Omega.{arith}
use native.Mathlib.Numerals.{add-one}
use lib.IntN.{ℤ, pos, nat_abs}
use lib.ListN.{length, get_or, take, length-append}
use lib.Seq.{take-suc}
use mir.Syntax.{w32}
use mir.Val.{SFits, of_z, to_z}
use Rattle.definition.specs.Lists.{for_each}
use Rattle.definition.specs.Literals.{Clause}
use Rattle.definition.specs.Text.{Bytes, bytes, digits, literal_text}
use Rattle.definition.specs.Log.{clause_text}
use Rattle.theory_base.proofs.Loops.{for_each-++}
use mathlib.Core.Bool.{true, false}
use Rattle.literals.specs.Literal.{negative}
use Rattle.literals.proofs.Laws.{at_arg}
use Rattle.theory_text.specs.ClauseText.{literals_text}
use Rattle.text.specs.Output.{Put}
use Rattle.text.proofs.Output.{put_then, put_past, put_same, negative_text, positive_text, literal_length}

-- ---- bytes

-- the first bytes of a text are written, and one more
pub text_step : {old buf new : Bytes} {at end r : ℕ} (t : Bytes) (i : ℕ) → i < length t → Put old at (take i t) end buf → Put buf end (get_or t i 0 ∷ []) r new → Put old at (take (i + 1) t) r new
text_step t i h p q = rw (add-one i, take-suc t i 0 h) (put_then p q)

-- ---- a literal and its blank

-- as a signed argument of a call
pub item_argument : (l : ℤ) → SFits w32 l → literal_text (to_z w32 (of_z w32 l)) ++ bytes " " ≡ literal_text l ++ bytes " "
item_argument l f = at_arg (λ (z : ℤ). literal_text z ++ bytes " ") l f

pub item_put : {x y z : Bytes} {at a r : ℕ} (l : ℤ) → SFits w32 l → Put x at (literal_text (to_z w32 (of_z w32 l))) a y → Put y a (32 ∷ []) r z → Put x at (literal_text l ++ bytes " ") r z
unfolding bytes
item_put l f p q = put_same (put_then p q) (item_argument l f)

-- how long they are, by the number of digits
module _ (l : ℤ) where
  pub item_negative : negative l ≡ true → length (digits (nat_abs l)) + 1 + 1 ≡ length (literal_text l ++ bytes " ")
  unfolding bytes
  item_negative e = omega (arith, length-append (literal_text l) (32 ∷ []), ap length (negative_text l e), length-append (45 ∷ []) (digits (nat_abs l)))

  pub item_positive : negative l ≡ false → length (digits (nat_abs l)) + 1 ≡ length (literal_text l ++ bytes " ")
  unfolding bytes
  item_positive e = omega (arith, length-append (literal_text l) (32 ∷ []), ap length (positive_text l e))

  -- past the buffer's end they are counted
  pub item_past : SFits w32 l → (b : Bytes) (at : ℕ) {n : ℕ} → length b ≤ at → n ≡ length (literal_text (to_z w32 (of_z w32 l)) ++ bytes " ") → Put b at (literal_text l ++ bytes " ") (at + n) b
  item_past f b at h e = put_past b at (literal_text l ++ bytes " ") h (ap (λ (k : ℕ). at + k) (e ∙ ap length (item_argument l f)))

  pub item_few : SFits w32 l → {n : ℕ} → n ≡ length (literal_text (to_z w32 (of_z w32 l)) ++ bytes " ") → n ≤ 12
  unfolding bytes
  item_few f e = omega (arith, ap length (item_argument l f), length-append (literal_text l) (32 ∷ []), literal_length l f)

-- ---- the literals of a clause

one_more : (c : Clause) (i : ℕ) → i < length c → literals_text (take i c) ++ (literal_text (get_or c i (pos 0)) ++ bytes " ") ≡ literals_text (take (i + 1) c)
unfolding literals_text for_each
one_more c i h =
    rw (add-one i, take-suc c i (pos 0) h, for_each-++ (take i c) (get_or c i (pos 0) ∷ []) (λ l. literal_text l ++ bytes " "), append-nil (literal_text (get_or c i (pos 0)) ++ bytes " "))

-- the first literals are written, and one more
pub items_step : {old buf new : Bytes} {at end r : ℕ} (c : Clause) (i : ℕ) → i < length c → Put old at (literals_text (take i c)) end buf →
    Put buf end (literal_text (get_or c i (pos 0)) ++ bytes " ") r new → Put old at (literals_text (take (i + 1) c)) r new
items_step c i h p q = put_same (put_then p q) (one_more c i h)

-- ---- a clause

pub clause_put : {l m n k : Bytes} {at a b e : ℕ} (c : Clause) → Put l at (literals_text c) a m → Put m a (48 ∷ []) b n → Put n b (10 ∷ []) e k → Put l at (clause_text c) e k
unfolding clause_text literals_text bytes
clause_put c p q r = put_same (put_then (put_then p q) r) (append_assoc (literals_text c) (48 ∷ []) (10 ∷ []))
