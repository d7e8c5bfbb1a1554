-- One clash cleared: the resolvent added, then its two clauses deleted.
use Rattle.std.specs.Prelude.{◌≡◌, Bool, true, false, not, ◌&&◌, ℕ, ◌+◌, ◌≤◌, ℤ, pos, neg_ℤ, length, take, drop}
use mathlib.Core.List.{List, [], ◌∷◌, ◌++◌, Memᴰ}
use Rattle.std.proofs.lemmas.List.Edits.{sets}
use Rattle.definition.specs.Lists.{only_if}
use Rattle.definition.specs.Literals.{Clause, Formula, same, without, with_first, opposed}
use Rattle.definition.specs.Text.{Bytes}
use Rattle.definition.specs.Standing.{Line, deletion, after}
use Rattle.definition.specs.Events.{Clash, clash_cleared}
use Rattle.definition.specs.Clearing.{times, resolvent}
use Rattle.theory_base.specs.Clauses.{Proper, FitAll}
use Rattle.theory_base.specs.Cells.{cells_of}
use Rattle.theory_clearing.specs.Clashing.{ends}
use Rattle.literals.specs.Literal.{signed_of}
use Rattle.store.specs.Store.{Formed, stored, clause_at}
use Rattle.marks.specs.Marks.{marked}
use Rattle.progress.specs.declared.Progress.{Progress}
use Rattle.progress.specs.Progress.{Written, Good}
use Rattle.tables.specs.Sizes.{input_reach}
use Rattle.tables.specs.Counts.{pure_in}
use Rattle.index.specs.Index.{Indexed, SameEntries, Roomy}
use Rattle.index.specs.Reading.{StandsAt}
use Rattle.pass_clashes.specs.Clashes.{clash_there, Clashing}

-- l is not the literal that is left out, and its negation is counted
abbrev pub opposite_in : List ℕ → ℤ → ℤ → Bool
opposite_in t out l = not (same out l) && not (pure_in t l)

-- n literals of a store from a place on, without a literal
abbrev pub part_without : List ℤ → ℕ → ℕ → ℤ → Clause
part_without s from n out = without out (take n (drop from s))

-- they are copied to another place; r is the one past them
pub record Copied (work : List ℤ) (to from n : ℕ) (out : ℤ) (new : List ℤ) (r : ℕ) : Type 0 where
  pub next : r ≡ to + length (part_without work from n out)
  pub copied : new ≡ sets work to (part_without work from n out)

-- na literals of a store from a on without v, then nb from b on without -v
abbrev pub joined : List ℤ → ℕ → ℕ → ℕ → ℕ → ℕ → Clause
joined s a na b nb v = part_without s a na (signed_of false v) ++ part_without s b nb (signed_of true v)

-- both parts lie before the end, and the entry of what they give fits behind it
pub record Joinable (work : List ℤ) (end a na b nb v : ℕ) : Type 0 where
  pub one : a + na ≤ end
  pub other : b + nb ≤ end
  pub space : end + (length (joined work a na b nb v) + 1) ≤ length work

-- the clause that a clash adds, if it does
abbrev pub added_by : Clash → Formula
added_by c = only_if (not (opposed (resolvent c))) (resolvent c ∷ [])

-- the deletions of a clash
abbrev pub parent_lines : Clash → List Line
parent_lines c = deletion (with_first c.v c.one) ∷ deletion (with_first (neg_ℤ c.v) c.other) ∷ []

-- what clearing the clash of v at x and y needs
pub record Resolvable (work : List ℤ) (newest : List ℕ) (p : Progress) (v x y : ℕ) : Type 0 where
  pub good : Good input_reach (clash_cleared (clash_there (take p.end work) v x y) ∷ []) work p
  pub clash : Clashing (take p.end work) v x y
  pub indexed : Indexed work p.end newest
  pub space : opposed (resolvent (clash_there (take p.end work) v x y)) ≡ false → Roomy (cells_of (resolvent (clash_there (take p.end work) v x y) ∷ [])) work p.end newest

-- v stands once, in the clause at x, and -v once, in the one at y
pub record Parents (s : List ℤ) (v x y : ℕ) : Type 0 where
  pub one_stands : StandsAt s x
  pub one_holds : Memᴰ (pos v) (clause_at s x)
  pub one_once : times (pos v) (stored s) ≡ 1
  pub other_stands : StandsAt s y
  pub other_holds : Memᴰ (neg_ℤ (pos v)) (clause_at s y)
  pub other_once : times (neg_ℤ (pos v)) (stored s) ≡ 1
  pub apart : Memᴰ (neg_ℤ (pos v)) (clause_at s x) → ⊥
  pub small : v ≤ input_reach
  pub one_proper : Proper (clause_at s x)
  pub other_proper : Proper (clause_at s y)
  pub other_fits : FitAll input_reach (clause_at s y)

-- the clauses of the clash c are deleted, and nothing else changed
pub record ParentsGone (c : Clash) (s : List ℤ) (log : Bytes) (p : Progress) (new : List ℤ) (new_log : Bytes) (r : Progress) : Type 0 where
  pub formed : Formed new
  pub stands : stored new ≡ after (stored s) (parent_lines c)
  pub same_entries : SameEntries s new
  pub written : Written (parent_lines c) log p new_log r
  pub kept : r.end ≡ p.end

-- the marks of the clashes that end with c are cleared
abbrev pub Ended : Clash → List ℕ → List ℕ → Type 0
Ended c m new = (v : ℕ) → marked new v ≡ (not (ends c v) && marked m v)
