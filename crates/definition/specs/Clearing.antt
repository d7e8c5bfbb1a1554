-- "Clearing clashes".
use Rattle.std.specs.Prelude.{Bool, not, ◌&&◌, cond, List, [], ◌∷◌, ◌++◌, ℕ, zero, suc, eqb, ltb, leb, ℤ, pos, neg_ℤ, length}
use Rattle.std.proofs.Math.Option.{Option, some, none}
use Rattle.definition.specs.Lists.{all, first, count, only_if, first_from}
use Rattle.definition.specs.Literals.{Clause, Formula, holds, without, with_first, opposed, highest_of}
use Rattle.definition.specs.Standing.{Line, addition, deletion, after}
use Rattle.definition.specs.Events.{Clash, Event, clash_cleared, pure_deleted}

-- in how many clauses a literal stands
unfoldable pub times : ℤ → Formula → ℕ
times l f = count (holds l) f

-- a unique literal clause (ULC): at least one literal, and none of its literals stands in another clause
unfoldable pub unique : Formula → Clause → Bool
unique f c = ltb 0 (length c) && all (λ l. eqb (times l f) 1) c

-- the ULC in which a literal stands
unfoldable pub ulc_with : Formula → ℤ → Option Clause
ulc_with f l = first (λ c. holds l c && unique f c) f

-- a clash: v stands in one ULC and -v in another (v stands in one clause only, so B is another if it does not hold v)
unfoldable pub clash_of : ℤ → Option Clause → Option Clause → Option Clash
clash_of v none b = none
clash_of v (some a) none = none
clash_of v (some a) (some b) = cond (holds v b) none (some (record { v = v; one = a; other = b }))

unfoldable pub clash_at : Formula → ℕ → Option Clash
clash_at f v = clash_of (pos v) (ulc_with f (pos v)) (ulc_with f (neg_ℤ (pos v)))

-- the one with the lowest v
unfoldable pub lowest_clash : Formula → Option Clash
lowest_clash f = first_from 1 (highest_of f) (clash_at f)

-- A without v, then B without -v, in their orders
unfoldable pub resolvent : Clash → Clause
resolvent c = without c.v c.one ++ without (neg_ℤ c.v) c.other

-- the resolvent is added, unless it holds a literal and its negation; then A is deleted, v first, and B, -v first
unfoldable pub clash_lines : Clash → List Line
clash_lines c =
    only_if (not (opposed (resolvent c))) (addition (resolvent c) ∷ [])
    ++ (deletion (with_first c.v c.one) ∷ deletion (with_first (neg_ℤ c.v) c.other) ∷ [])

-- while there is a clash, the lowest, then what `more` does
unfoldable pub clear_next : (Formula → List Event) → Formula → Option Clash → List Event
clear_next more f none = []
clear_next more f (some c) = clash_cleared c ∷ more (after f (clash_lines c))

-- each clash takes out a clause more than it adds, so as many as clauses are enough
unfoldable pub clear_up_to : ℕ → Formula → List Event
clear_up_to zero f = []
clear_up_to (suc n) f = clear_next (clear_up_to n) f (lowest_clash f)

unfoldable pub clear_clashes : Formula → List Event
clear_clashes f = clear_up_to (length f) f

-- a literal whose negation stands nowhere
unfoldable pub pure : Formula → ℤ → Bool
pure f l = eqb (times (neg_ℤ l) f) 0

-- 5 to 64 literals
unfoldable pub choice_size : Clause → Bool
choice_size c = leb 5 (length c) && leb (length c) 64

-- the clauses that are deleted if they have a pure literal; a ULC of 5 to 64 literals is not, and is taken as a choice
unfoldable pub deletable : Formula → Clause → Bool
deletable f c = unique f c && not (choice_size c)

-- its first pure literal
unfoldable pub pure_literal : Formula → Clause → Option ℤ
pure_literal f c = cond (deletable f c) (first (pure f) c) none

-- the literal is written first
unfoldable pub pure_lines : ℤ → Clause → List Line
pure_lines l c = deletion (with_first l c) ∷ []

-- the clause c is deleted for its literal, or left
unfoldable pub pure_next : Clause → List Event → List Event → Option ℤ → List Event
pure_next c if_left if_deleted none = if_left
pure_next c if_left if_deleted (some l) = pure_deleted l c ∷ if_deleted

-- in list order: those gone through and left, then those to come
unfoldable pub clear_pure_from : Formula → Formula → List Event
clear_pure_from left [] = []
clear_pure_from left (c ∷ rest) =
    pure_next c (clear_pure_from (left ++ (c ∷ [])) rest) (clear_pure_from left rest) (pure_literal (left ++ (c ∷ rest)) c)

unfoldable pub clear_pure : Formula → List Event
clear_pure f = clear_pure_from [] f

-- all of this file, for a proof that computes: `unfolding computing` opens every name of the next line
unfoldable pub computing : Unit {0}
unfolding times unique ulc_with clash_of clash_at lowest_clash resolvent clash_lines clear_next clear_up_to clear_clashes pure choice_size deletable pure_literal pure_lines pure_next clear_pure_from clear_pure
computing = tt
