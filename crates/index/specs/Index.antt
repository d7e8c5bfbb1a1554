-- Clauses found by literal. The store grows from the workspace's start, and nodes from its end: one for each literal of the store's clauses, deleted ones too, in the order in which they were entered.
-- A node is two elements: where its clause is, and the number of the node before it with the same literal, 0 where there is none. A table has the number of each literal's last node.
use Rattle.std.specs.Prelude.{◌≡◌, refl, Bool, false, not, ◌&&◌, cond, List, [], ◌∷◌, ℕ, zero, suc, ◌+◌, ◌-◌, ◌*◌, ◌≤◌, ◌<◌, ◌^◌, eqb, ℤ, pos, negsuc, length, get_or, take, set, replicate}
use Rattle.definition.specs.Literals.{same}
use Rattle.literals.specs.Literal.{negative, index_of, header_of, header_literals}
use Rattle.tables.specs.Sizes.{log_size}
use Rattle.tables.specs.Entries.{entry_of}
use Rattle.store.specs.Store.{Formed, stored, deleted_at}

-- ---- nodes

-- how many there are: at 1, which is no literal's index
abbrev pub nodes : List ℕ → ℕ
nodes newest = get_or newest 1 0

-- the node t, from 1 on: the place of its clause, and the node before it with the same literal
abbrev pub node_place : List ℤ → ℕ → ℕ
node_place work t = header_literals (get_or work (length work - 2 * t) (pos 0))

abbrev pub older_node : List ℤ → ℕ → ℕ
older_node work t = header_literals (get_or work (length work - 2 * t + 1) (pos 0))

-- from the node t on, the places are ps
pub data Chain (work : List ℤ) : ℕ → List ℕ → Type 0 where
  none : Chain work 0 []
  node : {t u a : ℕ} {ps : List ℕ} → node_place work t ≡ a → older_node work t ≡ u → u < t → Chain work u ps → Chain work t (a ∷ ps)

-- the workspace with the node n + 1, for a clause at a place, before which u was the last
abbrev pub with_node : List ℤ → ℕ → ℕ → ℕ → List ℤ
with_node work n at u = set (set work (length work - 2 * (n + 1)) (header_of at)) (length work - 2 * (n + 1) + 1) (header_of u)

-- the table with a new node, as the last of l
abbrev pub with_last : List ℕ → ℤ → List ℕ
with_last newest l = set (set newest (index_of l) (nodes newest + 1)) 1 (nodes newest + 1)

-- ---- the walk over all entries

-- the places of the entries that hold l, deleted ones too, the last first; k literals are left of the entry that begins at `here`, and the next element is at `at`
unfoldable pub entered_from : ℤ → ℕ → ℕ → ℕ → List ℕ → List ℤ → List ℕ
entered_from l k here at ps [] = ps
entered_from l zero here at ps (h ∷ s) = entered_from l (header_literals h) at (at + 1) ps s
entered_from l (suc k) here at ps (x ∷ s) = entered_from l k here (at + 1) (cond (same l x) (here ∷ ps) ps) s

abbrev pub entered : ℤ → List ℤ → List ℕ
entered l s = entered_from l 0 0 0 [] s

-- the literals of all entries, counted
unfoldable pub literals_from : ℕ → List ℤ → ℕ
literals_from k [] = 0
literals_from zero (h ∷ s) = literals_from (header_literals h) s
literals_from (suc k) (x ∷ s) = 1 + literals_from k s

abbrev pub literals_in : List ℤ → ℕ
literals_in s = literals_from 0 s

-- ---- the invariant

-- nodes and table are those of the store, the first `end` elements
pub record Indexed (work : List ℤ) (end : ℕ) (newest : List ℕ) : Type 0 where
  pub small : length work < 2 ^ 31
  pub size : length newest ≡ log_size
  pub formed : Formed (take end work)
  pub room : end + 2 * nodes newest ≤ length work
  pub counted : nodes newest ≡ literals_in (take end work)
  pub chains : (l : ℤ) → index_of l < log_size → (entry_of newest l ≤ nodes newest) × Chain work (entry_of newest l) (entered l (take end work))

-- ---- deletions: they change nothing of it

-- two stores with the same entries, of which one may have more deleted than the other
pub record SameEntries (s t : List ℤ) : Type 0 where
  pub size : length t ≡ length s
  pub formed : Formed s → Formed t
  pub literals : literals_in t ≡ literals_in s
  pub places : (l : ℤ) → entered l t ≡ entered l s

-- whatever the table, the index of one workspace is that of another
abbrev pub KeepsIndex : List ℤ → ℕ → List ℤ → ℕ → Type 0
KeepsIndex work end new r = (newest : List ℕ) → Indexed work end newest → Indexed new r newest

-- ---- the table read, and the walk over what stands

-- from the node t on, each place whose clause stands before those already read
unfoldable pub read_from : ℕ → List ℤ → ℕ → List ℕ → List ℕ
read_from zero work t ps = ps
read_from (suc n) work t ps =
    let at = node_place work t in
    let more = read_from n work (older_node work t) (cond (deleted_at work at) ps (at ∷ ps)) in
    cond (eqb t 0) ps more

abbrev pub table_places : List ℤ → List ℕ → ℤ → List ℕ
table_places work newest l = read_from (nodes newest) work (entry_of newest l) []

-- the places of the standing clauses that hold l, in list order
unfoldable pub holding_from : ℤ → ℕ → Bool → ℕ → ℕ → List ℤ → List ℕ
holding_from l k stands here at [] = []
holding_from l zero stands here at (h ∷ s) = holding_from l (header_literals h) (not (negative h)) at (at + 1) s
holding_from l (suc k) stands here at (x ∷ s) =
    let more = holding_from l k stands here (at + 1) s in
    cond (stands && same l x) (here ∷ more) more

abbrev pub holding : ℤ → List ℤ → List ℕ
holding l s = holding_from l 0 false 0 0 s

-- ---- room

-- beside the store and its nodes there is room for so many elements
abbrev pub Roomy : ℕ → List ℤ → ℕ → List ℕ → Type 0
Roomy cells work end newest = end + 2 * nodes newest + cells ≤ length work

-- the store may have moved, but the same stands, and there is room
pub record MadeRoom (cells : ℕ) (work : List ℤ) (end : ℕ) (new : List ℤ) (r : ℕ) (newest : List ℕ) : Type 0 where
  pub size : length new ≡ length work
  pub indexed : Indexed new r newest
  pub stands : stored (take r new) ≡ stored (take end work)
  pub roomy : Roomy cells new r newest

-- the clauses 1 -2, -3 1 (deleted) and 1, in a workspace of 18
sample : List ℤ
sample =
    pos 2 ∷ pos 1 ∷ negsuc 1 ∷ negsuc 2 ∷ negsuc 2 ∷ pos 1 ∷ pos 1 ∷ pos 1
    ∷ pos 6 ∷ pos 4 ∷ pos 3 ∷ pos 1 ∷ pos 3 ∷ pos 0 ∷ pos 0 ∷ pos 0 ∷ pos 0 ∷ pos 0 ∷ []

sample_newest : List ℕ
sample_newest = set (set (set (set (replicate 8 0) 1 5) 2 5) 5 2) 7 3

examples : (entered (pos 1) (take 8 sample) ≡ 6 ∷ 3 ∷ 0 ∷ []) × (holding (pos 1) (take 8 sample) ≡ 0 ∷ 6 ∷ [])
    × (table_places sample sample_newest (pos 1) ≡ 0 ∷ 6 ∷ []) × (table_places sample sample_newest (negsuc 2) ≡ []) × (literals_in (take 8 sample) ≡ 5)
unfolding sample sample_newest entered_from holding_from read_from literals_from Rattle.definition.specs.Literals.computing Rattle.definition.specs.Lists.computing
examples = (refl, refl, refl, refl, refl)
