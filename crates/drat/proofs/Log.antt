-- A line by its clause, and the loop over the kept lines: the lines ss are read and their entries stored.
use Rattle.std.proofs.Common.{◌≡◌, refl, sym, ap, ◌∙◌, Bool, true, false, cond, List, [], ◌∷◌, ◌++◌, ℕ, suc, ◌+◌, ◌-◌, ◌≤◌, ◌<◌, min, max, arith, zero-add, add-one, ltb, eqb, ℤ, length, set, take, drop, length-append, length-drop, drop-drop, Result, Ok, Err}
use Rattle.std.specs.List.{starts_with}
use lib.ListN.{drop_of_length-le}
use lib.Seq.{sets, length-sets}
use borrow.Author.Tests.{lt-ltb, le-ltb}
use Rattle.definition.specs.Checked.{Checked, fault, value, ◌>>=◌, refuse_if, through}
use Rattle.definition.specs.Lists.{for_each}
use Rattle.definition.specs.Literals.{Clause}
use Rattle.definition.specs.Text.{Bytes}
use Rattle.definition.specs.Standing.{Line, literals, highest_in}
use Rattle.definition.specs.LogReading.{read_log}
use Rattle.theory_base.proofs.Parts.{sets_capped}
use Rattle.theory_base.proofs.Slices.{rest_is, sets_then, sets_first}
use Rattle.theory_base.proofs.Fitting.{highest_snoc}
use Rattle.theory_text.specs.LogLines.{first_read, begins_deletion, rest_read}
use Rattle.theory_text.proofs.LogLines.{as_line, deletion_read, addition_read, lines_read, log_none, LineFirst, line_first, line_refused}
use Rattle.tables.specs.Stamps.{Fresh}
use Rattle.tables.specs.Sizes.{log_size}
use Rattle.drat.specs.Lines.{line_of}
use Rattle.drat.specs.Loaded.{line_header, closed, line_entry, line_entries}
use Rattle.drat.specs.Reading.{StoredRead, Kept, LogReads}
use Rattle.drat.specs.declared.LineRead.{LineRead}
use Rattle.drat.specs.declared.KeptLines.{KeptLines}
use Rattle.refusals.specs.declared.Refusal.{Refusal}
use Rattle.drat.proofs.Words.{deletion_start}
use Rattle.drat.proofs.Loaded.{line_literals, entries_size, entry_size, entries_snoc}

-- ---- a line by its clause

line_by_clause : (t : Bytes) (d : Bool) → d ≡ begins_deletion t → first_read t ≡ as_line (line_of d) (rest_read (cond d 2 0) [] (drop (cond d 2 0) t))
line_by_clause t true e = deletion_read t (sym e)
line_by_clause t false e = addition_read t (sym e)

line_value : (make : Clause → Line) (x : Checked (ℕ × Clause)) (n : ℕ) (c : Clause) → x ≡ value (n, c) → as_line make x ≡ value (n, make c)
unfolding ◌>>=◌
line_value make x n c e = rw e

line_fault : (make : Clause → Line) (x : Checked (ℕ × Clause)) → x ≡ fault 31 → as_line make x ≡ fault 31
unfolding ◌>>=◌
line_fault make x e = rw e

entry_of : (d : Bool) (c : Clause) → line_header d (length c) ∷ closed c ≡ line_entry (line_of d c)
entry_of true c = refl
entry_of false c = refl

-- the header in front of the literals and their number
entry_stored : (old : List ℤ) (to : ℕ) {mid new : List ℤ} {count : ℕ} {h : ℤ} (d : Bool) (c : Clause) → mid ≡ sets old (to + 1) (closed c) →
    count ≡ length c → h ≡ line_header d count → new ≡ set mid to h → new ≡ sets old to (line_entry (line_of d c))
entry_stored old to d c m n p z =
    z ∙ rw (m, p, n, add-one to) (sets_first (closed c) old to (line_header d (length c))) ∙ ap (sets old to) (entry_of d c)

module _ (t : Bytes) {d : Bool} {from : ℕ} (e : d ≡ starts_with eqb t (100 ∷ 32 ∷ [])) (f : from ≡ cond d 2 0) where
  by_clause : first_read t ≡ as_line (line_of d) (rest_read from [] (drop from t))
  by_clause = rw f (line_by_clause t d (e ∙ deletion_start t))

  pub line_refused_by_clause : rest_read from [] (drop from t) ≡ fault 31 → first_read t ≡ fault 31
  line_refused_by_clause q = by_clause ∙ line_fault (line_of d) _ q

  pub line_stored : {r : LineRead} {old mid new : List ℤ} {to : ℕ} {h : ℤ} → StoredRead (λ c. c) closed (rest_read from [] (drop from t)) r old (to + 1) mid → h ≡ line_header d r.count → new ≡ set mid to h → StoredRead literals line_entry (first_read t) r old to new
  line_stored {r} {old} {mid} {new} {to} c p z = record {
    s = line_of d c.s;
    read = by_clause ∙ line_value (line_of d) _ r.next c.s c.read;
    size = c.size ∙ ap length (sym (line_literals d c.s));
    high = rw (line_literals d c.s) c.high;
    room = c.room;
    stored = entry_stored old to d c.s c.stored c.size p z;
  }

-- ---- the loop over the lines

abbrev enough : ℕ → List Line → Checked (List Line)
enough kept ss = refuse_if (ltb (length ss) kept) 34 (value ss)

pub record ReadingLog (log : Bytes) (kept stamp at n filled top : ℕ) (seen : List ℕ) (old store : List ℤ) : Type 0 where
  pub ss : List Line
  pub count : n ≡ length ss
  pub inside : at ≤ length log
  pub size : filled ≡ length (line_entries ss)
  pub room : filled ≤ at
  pub high : top ≡ highest_in ss
  pub place : lines_read ss (kept - n) (drop at log) ≡ lines_read [] kept log
  pub table : length seen ≡ log_size
  pub fresh : Fresh seen stamp
  pub stored : store ≡ sets old 0 (line_entries ss)

pub log_start : (log : Bytes) (kept stamp : ℕ) (seen : List ℕ) (old : List ℤ) → length seen ≡ log_size → Fresh seen stamp → ReadingLog log kept stamp 0 0 0 0 seen old old
unfolding for_each highest_in
log_start log kept stamp seen old h f =
    let z : kept - 0 ≡ kept = omega arith in record {
      ss = [];
      count = refl;
      inside = omega arith;
      size = refl;
      room = omega arith;
      high = refl;
      place = ap (λ (k : ℕ). lines_read [] k log) z;
      table = h;
      fresh = f;
      stored = refl;
    }

module _ {log : Bytes} {kept stamp at n filled top : ℕ} {seen : List ℕ} {old store : List ℤ} (s : ReadingLog log kept stamp at n filled top seen old store) where
  pub log_length : length store ≡ length old
  log_length = ap length s.stored ∙ length-sets old 0 (line_entries s.ss)

  -- each line read fills an element at least
  pub log_counted : n ≤ filled
  log_counted = omega (arith, s.count, s.size, entries_size s.ss)

  pub log_end : kept ≡ n → Kept (read_log kept log) (record { numbers = filled - kept; highest = top; filled = filled }) old 0 store
  unfolding read_log ◌>>=◌ refuse_if through
  log_end h =
      let z : kept - n ≡ 0 = omega arith in record {
        ss = s.ss;
        read = rw (← s.place, z, le-ltb (length s.ss) kept (omega (arith, s.count)));
        sum = omega (arith, s.size, s.count, entries_size s.ss);
        high = s.high;
        size = s.size;
        stored = s.stored;
      }

  pub log_short : n < kept → length log ≤ at → read_log kept log ≡ fault 34
  unfolding read_log ◌>>=◌ refuse_if
  log_short h l =
      rw (← s.place, drop_of_length-le log l, log_none s.ss (kept - n), lt-ltb (length s.ss) kept (omega (arith, s.count)))

  module _ (h : n < kept) (l : at < length log) where
    left : kept - n ≡ suc (kept - (n + 1))
    left = omega arith

    abbrev rest : Bytes
    rest = take (length log - at) (drop at log)

    pub line_room : filled + length rest ≤ length log
    line_room = omega (arith, s.room, ap length (rest_is log at), length-drop at log)

    pub log_refused : first_read rest ≡ fault 31 → read_log kept log ≡ fault 31
    unfolding read_log ◌>>=◌
    log_refused q =
        rw (← s.place, left, line_refused (drop at log) (omega (arith, length-drop at log)) (ap first_read (sym (rest_is log at)) ∙ q) s.ss (kept - (n + 1)))

    module _ {x : LineRead} {new : List ℤ} (f : StoredRead literals line_entry (first_read rest) x store filled new) where
      line : LineFirst (drop at log) x.next f.s
      line = line_first (drop at log) (ap first_read (sym (rest_is log at)) ∙ f.read)

      pub next_inside : at + x.next ≤ length log
      next_inside = omega (arith, line.within, length-drop at log)

      pub next_room : filled + (x.count + 2) ≤ at + x.next
      next_room = omega (arith, s.room, f.room)

      pub log_step : {t stamp' : ℕ} {seen' : List ℕ} → t ≡ max top x.highest → length seen' ≡ length seen → Fresh seen' stamp' → ReadingLog log kept stamp' (at + x.next) (n + 1) (filled + (x.count + 2)) t seen' old new
      log_step q z b = record {
        ss = s.ss ++ (f.s ∷ []);
        count = omega (arith, s.count, length-append s.ss (f.s ∷ []));
        inside = next_inside;
        size = omega (arith, s.size, f.size, entry_size f.s, ap length (entries_snoc s.ss f.s), length-append (line_entries s.ss) (line_entry f.s));
        room = next_room;
        high = omega (arith, q, s.high, f.high, highest_snoc s.ss f.s);
        place = ap (lines_read (s.ss ++ (f.s ∷ [])) (kept - (n + 1))) (sym (drop-drop x.next at log)) ∙ sym (line.step s.ss (kept - (n + 1))) ∙ ap (λ (k : ℕ). lines_read s.ss k (drop at log)) (sym left) ∙ s.place;
        table = z ∙ s.table;
        fresh = b;
        stored =
            f.stored
            ∙ rw (s.stored, s.size, ← zero-add (length (line_entries s.ss))) (sets_then (line_entries s.ss) (line_entry f.s) old 0)
            ∙ ap (sets old 0) (entries_snoc s.ss f.s);
      }

-- ---- behind a place

pub log_behind : (o : Checked (List Line)) (r : Result KeptLines Refusal) (s rest : List ℤ) (to start : ℕ) → start ≡ min to (length s) →
    LogReads o r (take (length s - start) (drop start s)) 0 rest →
    LogReads o r s to (take start s ++ (rest ++ drop (length s - start) (drop start s)))
log_behind o (Ok x) s part to start m k = record {
  ss = k.ss;
  read = k.read;
  sum = k.sum;
  high = k.high;
  size = k.size;
  stored = sets_capped (line_entries k.ss) s part to start m k.stored;
}
log_behind o (Err e) s part to start m k = k
