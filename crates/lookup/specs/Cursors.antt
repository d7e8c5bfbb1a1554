-- Cursors that gather the clauses with a negated literal of a choice: one for each literal, at a node of the index.
use Rattle.std.specs.Prelude.{◌≡◌, Bool, not, ◌&&◌, cond, ℕ, ◌+◌, ◌-◌, ◌≤◌, ◌<◌, eqb, ltb, ℤ, pos, neg_ℤ, length, get_or, take}
use mathlib.Core.List.{List, Memᴰ}
use Rattle.definition.specs.Literals.{Clause}
use Rattle.store.specs.Store.{deleted_at}
use Rattle.lookup.specs.declared.Cursor.{Cursor}
use Rattle.index.specs.Index.{node_place, Indexed}
use Rattle.index.specs.Reading.{Reading, FoundWith}

-- the clause at the node t stands and is before a place
abbrev pub node_stands : List ℤ → ℕ → ℕ → Bool
node_stands work t before = not (deleted_at work (node_place work t)) && ltb (node_place work t) before

-- where it is and one more, 0 for no node
abbrev pub shown_place : List ℤ → ℕ → ℕ
shown_place work t = cond (eqb t 0) 0 (node_place work t + 1)

-- ---- one cursor

-- from the node t on, every standing clause before b that holds m is read
pub record Led (work : List ℤ) (end : ℕ) (m : ℤ) (b t : ℕ) : Type 0 where
  pub newest : List ℕ
  pub indexed : Indexed work end newest
  pub rest : List ℕ
  pub reading : Reading work end newest m t rest
  pub each : (p : ℕ) → p < b → FoundWith m (take end work) p → Memᴰ p rest

-- and t is none, or the node of such a clause
pub record LastBefore (work : List ℤ) (end : ℕ) (m : ℤ) (b t : ℕ) : Type 0 where
  pub led : Led work end m b t
  pub found : 0 < t → (node_place work t < b) × FoundWith m (take end work) (node_place work t)

-- a node from which some literal is read
pub record Readable (work : List ℤ) (t : ℕ) : Type 0 where
  pub end : ℕ
  pub literal : ℤ
  pub led : Led work end literal 0 t

-- from the node t on, r is the first whose clause stands before a place
pub record Moved (work : List ℤ) (t before r : ℕ) : Type 0 where
  pub readable : Readable work r
  pub moves : (end : ℕ) (m : ℤ) → Led work end m before t → LastBefore work end m before r

-- ---- the cursors

-- the cursor i, one at no node past the last
abbrev pub cursor_at : List Cursor → ℕ → Cursor
cursor_at cs i = get_or cs i (record { node = 0; place = 0 })

-- a cursor is at such a node, from t on
pub record Placed (work : List ℤ) (t before : ℕ) (c : Cursor) : Type 0 where
  pub moved : Moved work t before c.node
  pub place : c.place ≡ shown_place work c.node

abbrev pub AllReadable : List ℤ → List Cursor → Type 0
AllReadable work cs = (i : ℕ) → i < length cs → Readable work (cursor_at cs i).node

-- the cursors of the first n literals
pub record Cursors (work : List ℤ) (end : ℕ) (l : Clause) (b n : ℕ) (cs : List Cursor) : Type 0 where
  pub each : (i : ℕ) → i < n → LastBefore work end (neg_ℤ (get_or l i (pos 0))) b (cursor_at cs i).node
  pub shown : (i : ℕ) → i < n → (cursor_at cs i).place ≡ shown_place work (cursor_at cs i).node

-- the workspace has an index
pub record Searchable (work : List ℤ) (newest : List ℕ) : Type 0 where
  pub end : ℕ
  pub indexed : Indexed work end newest

-- they begin before `start`
pub record Starts (work : List ℤ) (newest : List ℕ) (start : ℕ) (l : Clause) (cs : List Cursor) : Type 0 where
  pub starts : (end : ℕ) → Indexed work end newest → Cursors work end l start (length cs) cs

-- all those whose clause is the one before `next` are moved
pub record Steps (work : List ℤ) (next : ℕ) (cs new : List Cursor) : Type 0 where
  pub steps : (end : ℕ) (l : Clause) → Cursors work end l next (length cs) cs → Cursors work end l (next - 1) (length cs) new

-- r is the greatest place that the first n show
pub record Latest (n : ℕ) (cs : List Cursor) (r : ℕ) : Type 0 where
  pub most : (i : ℕ) → i < n → (cursor_at cs i).place ≤ r
  pub met : 0 < r → (i : ℕ) × (i < n) × ((cursor_at cs i).place ≡ r)
