-- The loop over the standing clauses: the choices among those gone through are in the list. Assumes nothing.
use mathlib.Core.Path.{◌≡◌, refl, sym, ap, ◌∙◌}
use mathlib.Core.Bool.{Bool, true, false, ◌&&◌}
use mathlib.Core.List.Memᴰ.{head as here}
use mathlib.Core.List.Memᴰ.{tail as behind}
use mathlib.Core.List.{List, [], ◌∷◌, ◌++◌, append-nil, append_assoc, Memᴰ}
use Prim.Native.Nat.{ℕ, ◌+◌, ◌≤◌}
use native.Mathlib.Omega.{arith}
use lib.IntN.{ℤ, pos}
use lib.ListN.{length, take, replicate, length-replicate}
use Rattle.definition.specs.Lists.{those}
use Rattle.definition.specs.Literals.{Clause, Formula}
use Rattle.definition.specs.Calls.{numbers_of}
use Rattle.definition.specs.Clearing.{unique, choice_size}
use Rattle.definition.specs.Counter.{choices}
use Rattle.theory_base.proofs.Tests.{by_test, differ, of_true, and_l}
use Rattle.theory_base.proofs.Clauses.{choice_size_within, numbers_none, numbers_first, numbers-++}
use Rattle.store.specs.Store.{Formed, stored, Counted, fits_in, end_after, with_entry}
use Rattle.tables.specs.Sizes.{input_reach}
use Rattle.tables.specs.Counts.{unique_by, choice_by}
use Rattle.tables.proofs.Counting.{choice_is}
use Rattle.std.proofs.Common.{Some, None, Option, ◌-◌, drop}
use Rattle.std.specs.Option.{unwrap_or}
use Rattle.std.proofs.lemmas.Slice.{between_is}
use Rattle.store.proofs.Laws.{stored_none, appended, fits_within}
use Rattle.pass_choose.specs.Collecting.{if_choice, Joined, Collected}

choice_within : (t : List ℕ) (c : Clause) → choice_by t c ≡ true → length c ≤ 64
choice_within t c e = (choice_size_within c (and_l (choice_size c) (unique_by t c) (of_true e))).1

-- ---- one clause more

joined_none : (old : List ℤ) (end : ℕ) → end ≤ length old → Joined [] old end end old
joined_none old end h =
    record { next = omega (arith, numbers_none); inside = h; formed = λ f. f; stands = λ f. sym (append-nil (stored (take end old))) }

-- there is room for a choice
pub room_for : (size end : ℕ) (c : Clause) → length c ≤ 64 → end + (length c + 1) ≤ size → end_after size end c ≡ Some (end + (length c + 1))
room_for size end c a b = rw (fits_within size end c (omega arith) b) refl

pub joined_one : (old new : List ℤ) (end : ℕ) (c : Clause) → length c ≤ 64 → end + (length c + 1) ≤ length old → new ≡ with_entry old end c → Joined (c ∷ []) old end (end + (length c + 1)) new
joined_one old new end c a b w =
    let k = appended old new end (end + (length c + 1)) c (omega arith) (room_for (length old) end c a b) w in
    record { next = omega (arith, k.next, numbers_first c [], numbers_none); inside = k.within; formed = k.formed; stands = k.standing }

-- ---- one clause, by whether it is a choice

pub choice_room : {r : Bool} (t : List ℕ) (c : Clause) (end n : ℕ) → r ≡ choice_by t c → r ≡ true → end + numbers_of (if_choice t c) ≤ n → (length c ≤ 64) × (end + (length c + 1) ≤ n)
choice_room t c end n a b h =
    let e : choice_by t c ≡ true = sym a ∙ b in
    (choice_within t c e, omega (arith, rw e at h, numbers_first c [], numbers_none))

pub other_joined : {r : Bool} (t : List ℕ) (c : Clause) (old : List ℤ) (end : ℕ) → r ≡ choice_by t c → r ≡ false → end + numbers_of (if_choice t c) ≤ length old → Joined (if_choice t c) old end end old
other_joined t c old end a b h = rw (sym a ∙ b) (joined_none old end (omega arith))

-- ---- the loop over the standing clauses

-- the test of the definition
abbrev is_choice : Formula → Clause → Bool
is_choice F c = choice_size c && unique F c

-- the choices among the clauses that are gone through are in the list; the others are left
pub record Collecting (F left : Formula) (size end : ℕ) (chosen : List ℤ) : Type 0 where
  pub inside : (c : Clause) → Memᴰ c left → Memᴰ c F
  pub same_size : length chosen ≡ size
  pub within : end ≤ length chosen
  pub next : end ≡ numbers_of (stored (take end chosen))
  pub formed : Formed (take end chosen)
  pub stands : stored (take end chosen) ++ those (is_choice F) left ≡ choices F

pub collecting_start : {F : Formula} (chosen : List ℤ) → Collecting F F (length chosen) 0 chosen
unfolding choices
collecting_start {F} chosen = record {
  inside = λ c i. i;
  same_size = refl;
  within = omega arith;
  next = rw stored_none (sym numbers_none);
  formed = tt;
  stands = rw stored_none refl;
}

module _ {s : List ℤ} {t : List ℕ} {size : ℕ} (w : Counted input_reach s t) {end : ℕ} {chosen : List ℤ} {left : Formula} (i : Collecting (stored s) left size end chosen) {c : Clause} {rest : Formula} (e : left ≡ c ∷ rest) where
  abbrev F : Formula
  F = stored s

  there : Memᴰ c F
  there = i.inside c (rw e (here refl))

  same_test : choice_by t c ≡ is_choice F c
  same_test = choice_is input_reach (omega arith) t F w.table c (λ x j. (w.fits c there x j).1)

  -- the choices of what is left
  here_first : those (is_choice F) left ≡ if_choice t c ++ those (is_choice F) rest
  unfolding those
  here_first = rw (e, same_test) (by_test (is_choice F c) (λ b. rw b refl) (λ b. rw b refl))

  more : (stored (take end chosen) ++ if_choice t c) ++ those (is_choice F) rest ≡ choices F
  more = append_assoc (stored (take end chosen)) (if_choice t c) (those (is_choice F) rest) ∙ ap (λ (r : Formula). stored (take end chosen) ++ r) (sym here_first) ∙ i.stands

  pub collecting_room : numbers_of (choices (stored s)) ≤ size → end + numbers_of (if_choice t c) ≤ length chosen
  collecting_room space =
      omega (
        arith,
        i.next,
        i.same_size,
        ap numbers_of more,
        numbers-++ (stored (take end chosen) ++ if_choice t c) (those (is_choice F) rest),
        numbers-++ (stored (take end chosen)) (if_choice t c),
      )

  pub collecting_step : {r : ℕ} {new : List ℤ} → length new ≡ length chosen → Joined (if_choice t c) chosen end r new → Collecting (stored s) rest size r new
  collecting_step k j =
      let n = j.stands i.formed in
      record {
        inside = λ d m. i.inside d (rw e (there_behind m));
        same_size = k ∙ i.same_size;
        within = j.inside;
        next = omega (arith, j.next, i.next, ap numbers_of n, numbers-++ (stored (take end chosen)) (if_choice t c));
        formed = j.formed i.formed;
        stands = rw n more;
      }
    where
      there_behind : {d : Clause} → Memᴰ d rest → Memᴰ d (c ∷ rest)
      there_behind m = behind m

pub collecting_end : {F : Formula} {size end : ℕ} {chosen : List ℤ} {left : Formula} → Collecting F left size end chosen → left ≡ [] → Collected (choices F) size end chosen
unfolding those
collecting_end {end = end} {chosen = chosen} i e =
    record { same_size = i.same_size; inside = i.within; formed = i.formed; stands = sym (append-nil (stored (take end chosen))) ∙ rw e at i.stands }

-- for the edit `header_among_the_literals`, which puts a clause into an entry of its own: room for it
abbrev room : List ℤ
room = replicate 65 (pos 0)

-- a clause put into an entry of its own and read from there is a choice if it was one
module _ {new : List ℤ} {a : Option ℕ} {r : ℕ} (t : List ℕ) (c : Clause) (e : a ≡ end_after (length room) 0 c) (w : new ≡ with_entry room 0 c) (u : r ≡ unwrap_or a 1) where
  entered_whole : fits_in (length room) 0 c ≡ true → if_choice t (take (r - 1) (drop 1 new)) ≡ if_choice t c
  entered_whole f =
      let k = appended room new 0 (0 + (length c + 1)) c (omega arith) (rw f refl) w in
      let z : a ≡ Some (0 + (length c + 1)) = e ∙ rw f refl in
      let l : r ≡ 0 + (length c + 1) = u ∙ ap (λ (x : Option ℕ). unwrap_or x 1) z in
      ap (if_choice t) (ap (λ (m : ℕ). take (m - 1) (drop 1 new)) l ∙ between_is new 1 (0 + (length c + 1)) ∙ ap (drop 1) k.filled)

  entered_none : fits_in (length room) 0 c ≡ false → if_choice t (take (r - 1) (drop 1 new)) ≡ if_choice t c
  unfolding choice_size
  entered_none f =
      let z : a ≡ None = e ∙ rw f refl in
      let l : r ≡ 1 = u ∙ ap (λ (x : Option ℕ). unwrap_or x 1) z in
      let g : if_choice t (take (r - 1) (drop 1 new)) ≡ [] = rw l refl in
      g
      ∙ by_test (choice_by t c)
      (λ b. let h = choice_within t c b in differ {b = true} tt (sym (fits_within (length room) 0 c (omega (arith, h)) (omega (arith, h, length-replicate {A = ℤ} 65 (pos 0)))) ∙ f))
      (λ b. rw b refl)

  pub entered : if_choice t (take (r - 1) (drop 1 new)) ≡ if_choice t c
  entered = by_test (fits_in (length room) 0 c) entered_whole entered_none
