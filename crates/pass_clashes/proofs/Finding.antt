-- The clauses of a clash: a literal of a unique literal clause stands in one clause alone, so the one found with it is that of the clash. Assumes nothing.
use mathlib.Core.Path.{◌≡◌, sym, ap, ap₂, ◌∙◌}
use mathlib.Core.Bool.{true}
use mathlib.Core.List.Memᴰ
use mathlib.Core.List.{List, Memᴰ}
use mathlib.Core.Option.{some}
use Prim.Native.Nat.{ℕ, ◌≤◌}
use native.Mathlib.Omega.{arith}
use lib.IntN.{ℤ, pos, neg_ℤ}
use Rattle.definition.specs.Literals.{Clause}
use Rattle.definition.specs.Events.{Clash}
use Rattle.definition.specs.Clearing.{times}
use Rattle.theory_soundness.proofs.Times.{unique_at, one_clause}
use Rattle.theory_clearing.specs.Clashing.{clashes}
use Rattle.theory_clearing.proofs.Clashes.{clash_at_some}
use Rattle.theory_clearing.proofs.Clashing.{clashes_some}
use Rattle.store.specs.Store.{stored, clause_at}
use Rattle.index.specs.Reading.{StandsAt, FoundWith}
use Rattle.pass_clashes.specs.Clashes.{clash_there, Clashing}
use Rattle.pass_clashes.proofs.Parents.{standing_mem}

-- a literal that stands in one clause alone is found there
found_same : {l : ℤ} {s : List ℤ} {at : ℕ} (a : Clause) → times l (stored s) ≡ 1 → Memᴰ a (stored s) → Memᴰ l a → (1 ≤ times l (stored s) → FoundWith l s at) → StandsAt s at × (clause_at s at ≡ a)
found_same {l} {s} {at} a t i j f =
    let r = f (omega arith) in
    (r.standing, one_clause l (stored s) t (clause_at s at) a (standing_mem r.standing) r.with_literal i j)

pub found_clashing : {s : List ℤ} {v x y : ℕ} → (1 ≤ times (pos v) (stored s) → FoundWith (pos v) s x) → (1 ≤ times (neg_ℤ (pos v)) (stored s) → FoundWith (neg_ℤ (pos v)) s y) →
    clashes (stored s) v ≡ true → Clashing s v x y
found_clashing {s} {v} {x} {y} f g t =
    let r = clashes_some (stored s) v t in
    let c = r.0 in
    let q = clash_at_some (stored s) v c r.1 in
    let i = Memᴰ.cast (sym q.0) q.1.one_holds in
    let j = Memᴰ.cast (ap neg_ℤ (sym q.0)) q.1.other_holds in
    let a = found_same c.one (unique_at (stored s) c.one q.1.one_unique (pos v) i) q.1.one_stands i f in
    let b = found_same c.other (unique_at (stored s) c.other q.1.other_unique (neg_ℤ (pos v)) j) q.1.other_stands j g in
    record { one_stands = a.0; other_stands = b.0; clash = r.1 ∙ ap some (same c q.0 (sym a.1) (sym b.1)) }
  where
    same : (c : Clash) → c.v ≡ pos v → c.one ≡ clause_at s x → c.other ≡ clause_at s y → c ≡ clash_there s v x y
    same c d e h = ap₂ (λ (a b : Clause). record { v = c.v; one = a; other = b }) e h ∙ ap (λ (z : ℤ). record { v = z; one = clause_at s x; other = clause_at s y }) d
