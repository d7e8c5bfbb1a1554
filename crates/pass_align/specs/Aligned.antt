-- What the tables say, and what alignment needs and gives.
use Rattle.std.specs.Prelude.{◌≡◌, ℕ, ◌≤◌, ◌<◌, ◌^◌, T, ℤ, nat_abs, length, get_or, take}
use mathlib.Core.List.{List, map, Memᴰ}
use Rattle.definition.specs.Literals.{Clause, Formula}
use Rattle.definition.specs.Alignment.{linked, Chain}
use Rattle.theory_base.specs.Clauses.{ProperAll, Fits, Parted}
use Rattle.store.specs.Store.{Formed, stored}
use Rattle.index.specs.Index.{Indexed}
use Rattle.tables.specs.Sizes.{input_reach, input_size}
use Rattle.tables.specs.Entries.{entry_of}
use Rattle.theory_alignment.specs.Groups.{apart}
use Rattle.pass_align.specs.declared.Links.{Links}
use Rattle.pass_align.specs.Tables.{linked_by, Forest, root_of, group_of}

-- ---- what alignment reads

-- a store of proper clauses of an input's variables
pub record ProperStore (s : List ℤ) : Type 0 where
  pub formed : Formed s
  pub proper : ProperAll (stored s)
  pub fits : Fits input_reach (stored s)

-- choices without a common variable, in a store of their own
pub record Choices (chosen : List ℤ) : Type 0 where
  pub short : length chosen < 2 ^ 31
  pub formed : Formed chosen
  pub fits : Fits input_reach (stored chosen)
  pub parted : Parted (stored chosen)

-- ---- what the tables say

-- which literals are of different choices
abbrev pub Owned : List Clause → List ℕ → Type 0
Owned cs t = (a b : ℤ) → nat_abs a ≤ input_reach → nat_abs b ≤ input_reach → linked_by t a b ≡ apart cs a b

-- each literal is a group of its own
abbrev pub Separate : List ℕ → Type 0
Separate groups = (length groups ≡ input_size) × ((k : ℕ) → k < length groups → get_or groups k 0 ≡ k)

-- literals of one group are joined by a chain
pub record Grouping (F : Formula) (cs : List Clause) (groups : List ℕ) : Type 0 where
  pub size : length groups ≡ input_size
  pub forest : Forest groups
  pub chained : (a b : ℤ) → nat_abs a ≤ input_reach → nat_abs b ≤ input_reach → group_of groups a ≡ group_of groups b → Chain F cs a b

-- all that is linked to a is in its group
abbrev pub Met : Formula → List Clause → List ℕ → ℤ → Type 0
Met F cs groups a = (b : ℤ) → T (linked F cs a b) → group_of groups a ≡ group_of groups b

-- all links of the literals ls are joined, and nothing but links: what was in one group is, and literals of one group are joined by a chain still
pub record Joined (s : List ℤ) (owners : List ℕ) (ls : Clause) (old new : List ℕ) : Type 0 where
  pub forest : Forest new
  pub coarser : (j k : ℕ) → root_of old j ≡ root_of old k → root_of new j ≡ root_of new k
  pub grouping : (cs : List Clause) → Owned cs owners → Grouping (stored s) cs old → Grouping (stored s) cs new × ((a : ℤ) → Memᴰ a ls → Met (stored s) cs new a)

-- what links are read from is a proper store with its index
abbrev pub Readable : Links → Type 0
Readable k = Indexed k.work.now k.end k.newest.now × ProperStore (take k.end k.work.now)

-- the same by what links are read from
abbrev pub JoinedBy : Links → Clause → List ℕ → List ℕ → Type 0
JoinedBy k = Joined (take k.end k.work.now) k.owners.now

-- two literals have one entry exactly if a chain joins them; entries are places of the table
pub record Grouped (F : Formula) (cs : List Clause) (groups : List ℕ) : Type 0 where
  pub size : length groups ≡ input_size
  pub inside : (k : ℕ) → k < length groups → get_or groups k 0 < input_size
  pub chained : (a b : ℤ) → nat_abs a ≤ input_reach → nat_abs b ≤ input_reach → entry_of groups a ≡ entry_of groups b → Chain F cs a b
  pub joined : (a b : ℤ) → Chain F cs a b → entry_of groups a ≡ entry_of groups b

-- ---- what alignment gives

-- each standing clause is changed by f
pub record Mapped (f : Clause → Clause) (old new : List ℤ) : Type 0 where
  pub same_size : length new ≡ length old
  pub formed : Formed new
  pub stands : stored new ≡ map f (stored old)
