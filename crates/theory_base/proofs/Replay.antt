-- Lines that lead from one formula to another, every deletion finding its clause. Assumes nothing.
use mathlib.Core.Path.{◌≡◌, refl, sym, ◌∙◌, ap, subst}
use mathlib.Core.Logic.{⊎_elim}
use mathlib.Core.Bool.{true, false}
use mathlib.Core.List.Memᴰ
use mathlib.Core.List.Memᴰ.{head as here}
use mathlib.Core.List.Memᴰ.{tail as there}
use mathlib.Core.List.{List, [], ◌∷◌, ◌++◌, map, append_assoc, append-nil, Memᴰ}
use Prim.Native.Nat.{ℕ, zero, suc}
use lib.ListN.{take}
use Rattle.definition.specs.Checked.{value, ◌>>=◌, refuse_if, through}
use Rattle.definition.specs.Literals.{Clause, Formula, same_set}
use Rattle.definition.specs.Standing.{Line, addition, deletion, literals, take_out, stands, changed, after, replay_line, replay}
use Rattle.definition.specs.Events.{Event}
use Rattle.definition.specs.Reencoding.{lines_of, lines}
use Rattle.theory_base.proofs.Tests.{to_true}
use Rattle.theory_base.proofs.Loops.{for_each_mem, for_each-++}
use Rattle.theory_base.proofs.Clauses.{members_snoc}
use Rattle.theory_base.proofs.Removal.{Removed, removed_take_out, removed_stands, mem_take_out, take_out_first}

pub data Leads : Formula → List Line → Formula → Type 0 where
  ends : {F : Formula} → Leads F [] F
  adds : {F G : Formula} {c : Clause} {xs : List Line} → Leads (F ++ (c ∷ [])) xs G → Leads F (addition c ∷ xs) G
  dels : {F E G : Formula} {c : Clause} {xs : List Line} → Removed c F E → Leads E xs G → Leads F (deletion c ∷ xs) G

pub leads_after : {F G : Formula} {xs : List Line} → Leads F xs G → after F xs ≡ G
unfolding after changed
leads_after ends = refl
leads_after (adds s) = leads_after s
leads_after (dels r s) = rw (removed_take_out r) (leads_after s)

-- number 32 never occurs
pub leads_replay : {F G : Formula} {xs : List Line} → Leads F xs G → replay F xs ≡ value G
unfolding replay through replay_line refuse_if ◌>>=◌ changed
leads_replay ends = refl
leads_replay (adds s) = leads_replay s
leads_replay {F} (dels {c = c} r s) = let e : stands c F ≡ true = to_true (removed_stands r) in rw (e, removed_take_out r) (leads_replay s)

-- the log cut after line j
pub leads_cut : {F G : Formula} {xs : List Line} (j : ℕ) → Leads F xs G → Leads F (take j xs) (after F (take j xs))
unfolding after changed
leads_cut zero s = ends
leads_cut (suc j) ends = ends
leads_cut (suc j) (adds s) = adds (leads_cut j s)
leads_cut {F} (suc j) (dels {c = c} {xs = xs} r s) =
    subst (λ (X : Formula). Leads F (deletion c ∷ take j xs) (after X (take j xs))) (sym (removed_take_out r)) (dels r (leads_cut j s))

pub leads_split : {F G : Formula} (xs ys : List Line) → Leads F (xs ++ ys) G → Leads F xs (after F xs) × Leads (after F xs) ys G
unfolding after changed
leads_split [] ys s = (ends, s)
leads_split (addition c ∷ xs) ys (adds s) = let r = leads_split xs ys s in (adds r.0, r.1)
leads_split {F} {G} (deletion c ∷ xs) ys (dels r s) =
    let q = leads_split xs ys s in
    rw (removed_take_out r) (dels r q.0, q.1)

pub after-++ : (F : Formula) (xs ys : List Line) → after F (xs ++ ys) ≡ after (after F xs) ys
unfolding after
after-++ F [] ys = refl
after-++ F (x ∷ xs) ys = after-++ (changed F x) xs ys

-- the lines of two lists of events
pub lines-++ : (es fs : List Event) → lines (es ++ fs) ≡ lines es ++ lines fs
unfolding lines
lines-++ es fs = for_each-++ es fs lines_of

-- ---- additions, and deletions that leave what stands last
pub after_additions : (F : Formula) (cs : List Clause) → after F (map addition cs) ≡ F ++ cs
unfolding after changed
after_additions F [] = sym (append-nil F)
after_additions F (c ∷ cs) = after_additions (F ++ (c ∷ [])) cs ∙ append_assoc F (c ∷ []) cs

pub after_deletions : (F X : Formula) (ds : List Clause) → ((d : Clause) → Memᴰ d ds → (x : Clause) → Memᴰ x X → same_set d x ≡ false) →
    after (F ++ X) (map deletion ds) ≡ after F (map deletion ds) ++ X
unfolding after changed
after_deletions F X [] h = refl
after_deletions F X (d ∷ ds) h =
    ap (λ (Y : Formula). after Y (map deletion ds)) (take_out_first d F X (h d (here refl))) ∙ after_deletions (take_out d F) X ds (λ e m. h e (there m))

-- ---- every clause that stands, every line
abbrev pub AllClauses : (Clause → Type 0) → Formula → Type 0
AllClauses P F = (d : Clause) → Memᴰ d F → P d

abbrev pub AllLines : (Clause → Type 0) → List Line → Type 0
AllLines P xs = (x : Line) → Memᴰ x xs → P (literals x)

module _ (P : Clause → Type 0) where
  pub all_changed : (F : Formula) (x : Line) → AllClauses P F → P (literals x) → AllClauses P (changed F x)
  unfolding changed literals
  all_changed F (addition c) a p = members_snoc P F c a p
  all_changed F (deletion c) a p = λ d m. a d (mem_take_out c F d m)

  pub all_after : (F : Formula) (xs : List Line) → AllClauses P F → AllLines P xs → AllClauses P (after F xs)
  unfolding after
  all_after F [] a h = a
  all_after F (x ∷ xs) a h = all_after (changed F x) xs (all_changed F x a (h x (here refl))) (λ y m. h y (there m))

  pub all_lines-++ : (xs ys : List Line) → AllLines P xs → AllLines P ys → AllLines P (xs ++ ys)
  all_lines-++ xs ys a b x m = ⊎_elim (a x) (b x) (Memᴰ.append_cases xs m)

  pub all_additions : (cs : List Clause) → AllClauses P cs → AllLines P (map addition cs)
  unfolding literals
  all_additions cs a x m = let r = Memᴰ.of_map addition cs m in subst (λ (y : Line). P (literals y)) r.2 (a r.0 r.1)

  pub all_deletions : (cs : List Clause) → AllClauses P cs → AllLines P (map deletion cs)
  unfolding literals
  all_deletions cs a x m = let r = Memᴰ.of_map deletion cs m in subst (λ (y : Line). P (literals y)) r.2 (a r.0 r.1)

  -- line by line of each event
  pub all_events : (es : List Event) → ((e : Event) → Memᴰ e es → AllLines P (lines_of e)) → AllLines P (lines es)
  unfolding lines
  all_events es h x m = let r = for_each_mem es lines_of x m in h r.0 r.1 x r.2

-- what holds at every line of one part and then of the next
pub at_every_line : (P : Formula → Type 0) (F : Formula) (xs ys : List Line) → ((j : ℕ) → P (after F (take j xs))) → ((j : ℕ) → P (after (after F xs) (take j ys))) → (j : ℕ) → P (after F (take j (xs ++ ys)))
unfolding after
at_every_line P F [] ys h k j = k j
at_every_line P F (x ∷ xs) ys h k zero = h 0
at_every_line P F (x ∷ xs) ys h k (suc j) = at_every_line P (changed F x) xs ys (λ i. h (suc i)) k j
