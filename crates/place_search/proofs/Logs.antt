-- The logs of places, as more are visited.
use Rattle.std.proofs.Common.{◌≡◌, ℕ, zero, suc, ◌+◌, ◌-◌, reverse, append_assoc, ◌<◌, ◌≤◌, List, [], ◌∷◌, ◌++◌, length, get_or, refl, sym, ap, ◌∙◌, subst, arith, inl, inr, All, Contains, below_more, length-append, lit<}
use Rattle.std.proofs.lemmas.List.{get_or-append-add, get_or_append_left, get_or_at, get_or_default, reverse-append}
use Rattle.std.proofs.lemmas.List.Elements.{Contains-append_left, Contains-get_or}
use Rattle.mach_types.specs.declared.events.Entry.{Entry}
use Rattle.found_outcomes.specs.Reduced.{IsNextOf, IsOneMore}
use Rattle.place_search.specs.Logs.{AreAfterParents, AreSingle, grown, log_at, log_next, logs_of}
use Rattle.place_search.specs.declared.row.Row.{Row}

abbrev Logs : Type 0
Logs = List (List Entry)

pub grown_push : (logs : Logs) (rows : List Row) (row : Row) → grown logs (rows ++ row ∷ []) ≡ grown logs rows ++ log_next (grown logs rows) row ∷ []
grown_push logs [] row = refl
grown_push logs (r ∷ rows) row = grown_push (logs ++ log_next logs r ∷ []) rows row

pub grown_more : (logs : Logs) (rows more : List Row) → grown logs (rows ++ more) ≡ grown (grown logs rows) more
grown_more logs [] more = refl
grown_more logs (r ∷ rows) more = grown_more (logs ++ log_next logs r ∷ []) rows more

longer_by_one : (logs : Logs) (log : List Entry) → length (logs ++ log ∷ []) ≡ length logs + 1
longer_by_one logs log = length-append logs (log ∷ [])

pub grown_length : (logs : Logs) (rows : List Row) → length (grown logs rows) ≡ length logs + length rows
grown_length logs [] = omega arith
grown_length logs (r ∷ rows) =
    let one = longer_by_one logs (log_next logs r) in
    let all = grown_length (logs ++ log_next logs r ∷ []) rows in
    omega arith

-- those that were there stay where they are
pub grown_keeps : (logs : Logs) (rows : List Row) (k : ℕ) (d : List Entry) → k < length logs → get_or (grown logs rows) k d ≡ get_or logs k d
grown_keeps logs [] k d lt = refl
grown_keeps logs (r ∷ rows) k d lt =
    let one = longer_by_one logs (log_next logs r) in
    grown_keeps (logs ++ log_next logs r ∷ []) rows k d (omega arith) ∙ get_or_append_left logs (log_next logs r ∷ []) d k lt

pub grown_contains : (logs : Logs) (rows : List Row) (log : List Entry) → Contains logs log → Contains (grown logs rows) log
grown_contains logs [] log has = has
grown_contains logs (r ∷ rows) log has = grown_contains (logs ++ log_next logs r ∷ []) rows log (Contains-append_left logs (log_next logs r ∷ []) log has)

-- the log of a place is that of its parent with its entry
abbrev from_parent : Logs → Row → List Entry
from_parent logs row = get_or logs row.parent [] ++ reverse row.entries.items

grown_parent : (logs : Logs) (rows : List Row) (i n : ℕ) (d : Row) → n ≡ length logs + i → i < length rows → (get_or rows i d).parent < n → get_or (grown logs rows) n [] ≡ from_parent (grown logs rows) (get_or rows i d)
grown_parent logs [] i n d is lt before = absurd (omega arith)
grown_parent logs (r ∷ rows) zero n d is lt before =
    let next = log_next logs r in
    let one = longer_by_one logs next in
    let here : get_or (grown (logs ++ next ∷ []) rows) n [] ≡ next =
    grown_keeps (logs ++ next ∷ []) rows n [] (omega arith)
    ∙ ap (λ k. get_or (logs ++ next ∷ []) k []) is ∙ get_or-append-add logs (next ∷ []) 0 [] in
    let parent : get_or (grown (logs ++ next ∷ []) rows) r.parent [] ≡ get_or logs r.parent [] =
    grown_keeps (logs ++ next ∷ []) rows r.parent [] (omega arith) ∙ get_or_append_left logs (next ∷ []) [] r.parent (omega arith) in
    here ∙ ap (λ (log : List Entry). log ++ reverse r.entries.items) (sym parent)
grown_parent logs (r ∷ rows) (suc i) n d is lt before =
    let next = log_next logs r in
    let one = longer_by_one logs next in
    grown_parent (logs ++ next ∷ []) rows i n d (omega arith) (omega arith) before

pub log_parent : (rows : List Row) (i : ℕ) (d : Row) → AreAfterParents rows → i < length rows → log_at rows (i + 1) ≡ from_parent (logs_of rows) (get_or rows i d)
log_parent rows i d after lt =
    let before : (get_or rows i d).parent ≤ i = after i d lt in
    grown_parent ([] ∷ []) rows i (i + 1) d (omega arith) lt (omega arith)

-- of each place
pub logs_length : (rows : List Row) → length (logs_of rows) ≡ length rows + 1
logs_length rows = let all = grown_length ([] ∷ []) rows in omega arith

pub has_log : (rows : List Row) (place : ℕ) → place ≤ length rows → Contains (logs_of rows) (log_at rows place)
has_log rows place there =
    let all = logs_length rows in
    Contains-get_or (logs_of rows) place [] (omega arith)

pub has_first : (rows : List Row) → Contains (logs_of rows) []
has_first rows = grown_contains ([] ∷ []) rows [] (0, lit< tt, refl)

pub stays_at : (rows more : List Row) (place : ℕ) → place ≤ length rows → log_at (rows ++ more) place ≡ log_at rows place
stays_at rows more place there =
    let all = logs_length rows in
    ap (λ (logs : Logs). get_or logs place []) (grown_more ([] ∷ []) rows more) ∙ grown_keeps (logs_of rows) more place [] (omega arith)

pub stays_among : (rows more : List Row) (log : List Entry) → Contains (logs_of rows) log → Contains (logs_of (rows ++ more)) log
stays_among rows more log has = subst (λ (logs : Logs). Contains logs log) (sym (grown_more ([] ∷ []) rows more)) (grown_contains (logs_of rows) more log has)

-- where one entry leads to each place, one event leads to it
first_of : (rows : List Row) → 0 < length rows → Row
first_of [] some = absurd (omega arith)
first_of (r ∷ rows) some = r

one_entry_of : (es : List Entry) → length es ≡ 1 → (e : Entry) × (reverse es ≡ e ∷ [])
one_entry_of [] is = absurd (omega (arith, is))
one_entry_of (e ∷ []) is = (e, refl)
one_entry_of (e ∷ x ∷ more) is = absurd (omega (arith, is))

one_more : (rows : List Row) (i : ℕ) (d : Row) → AreAfterParents rows → AreSingle rows → i < length rows → IsOneMore (logs_of rows) (log_at rows (i + 1))
one_more rows i d after single there =
    let row = get_or rows i d in
    let before : row.parent ≤ i = after i d there in
    let last = one_entry_of row.entries.items (single i d there) in
    record {
      before = log_at rows row.parent;
      entry = last.0;
      among = has_log rows row.parent (omega arith);
      all = log_parent rows i d after there ∙ ap (λ (es : List Entry). log_at rows row.parent ++ es) last.1;
    }

pub single_logs : (rows : List Row) → AreAfterParents rows → AreSingle rows → All (IsNextOf (logs_of rows)) (logs_of rows)
single_logs rows after single = go
  where
    go : (k : ℕ) (d : List Entry) → k < length (logs_of rows) → IsNextOf (logs_of rows) (get_or (logs_of rows) k d)
    go zero d lt = inl (get_or_default (logs_of rows) 0 d [] lt ∙ grown_keeps ([] ∷ []) rows 0 [] (lit< tt))
    go (suc i) d lt =
        let size = logs_length rows in
        let there : i < length rows = omega (arith, lt) in
        let next : i + 1 ≡ suc i = omega arith in
        let same : log_at rows (i + 1) ≡ get_or (logs_of rows) (suc i) d = ap (log_at rows) next ∙ get_or_default (logs_of rows) (suc i) [] d lt in
        inr (subst (IsOneMore (logs_of rows)) same (one_more rows i (first_of rows (omega arith)) after single there))

-- one place more
pub logs_push : (rows : List Row) (row : Row) → logs_of (rows ++ row ∷ []) ≡ logs_of rows ++ log_next (logs_of rows) row ∷ []
logs_push rows row = grown_push ([] ∷ []) rows row

pub parents_push : (rows : List Row) (row : Row) → AreAfterParents rows → row.parent ≤ length rows → AreAfterParents (rows ++ row ∷ [])
parents_push rows row after before i d lt =
    let size = length-append rows (row ∷ []) in
    let P : ℕ → Type 0 = λ k. (get_or (rows ++ row ∷ []) k d).parent ≤ k in
    below_more P (length rows)
    (λ k h. subst (λ (r : Row). r.parent ≤ k) (sym (get_or_append_left rows (row ∷ []) d k h)) (after k d h))
    (subst (λ (r : Row). r.parent ≤ length rows) (sym (get_or_at rows row [] d (length rows) refl)) before)
    i (omega arith)

-- the way back from a place to the first
pub path_next : (rows : List Row) (at : ℕ) (d : Row) (later more all : List Entry) → AreAfterParents rows → at ≤ length rows → 0 < at → more ≡ later ++ (get_or rows (at - 1) d).entries.items
    → log_at rows at ++ reverse later ≡ all → log_at rows (get_or rows (at - 1) d).parent ++ reverse more ≡ all
path_next rows at d later more all after there some is path =
    let row = get_or rows (at - 1) d in
    let before = log_at rows row.parent in
    let one : log_at rows at ≡ before ++ reverse row.entries.items =
    let next : at ≡ at - 1 + 1 = omega arith in
    ap (log_at rows) next ∙ log_parent rows (at - 1) d after (omega arith) in
    ap (λ (log : List Entry). before ++ reverse log) is ∙ ap (λ (log : List Entry). before ++ log) (reverse-append later row.entries.items)
    ∙ sym (append_assoc before (reverse row.entries.items) (reverse later)) ∙ ap (λ (log : List Entry). log ++ reverse later) (sym one) ∙ path

pub path_first : (rows : List Row) (at : ℕ) (later all : List Entry) → at ≡ 0 → log_at rows at ++ reverse later ≡ all → reverse later ≡ all
path_first rows at later all is path =
    let none : log_at rows at ≡ [] = ap (log_at rows) is ∙ grown_keeps ([] ∷ []) rows 0 [] (lit< tt) in
    ap (λ (log : List Entry). log ++ reverse later) (sym none) ∙ path

pub parent_there : (rows : List Row) (at : ℕ) (d : Row) → AreAfterParents rows → at ≤ length rows → 0 < at → (get_or rows (at - 1) d).parent ≤ length rows
parent_there rows at d after there some =
    let before : (get_or rows (at - 1) d).parent ≤ at - 1 = after (at - 1) d (omega arith) in
    omega arith

pub parent_before : (rows : List Row) (at : ℕ) (d : Row) → AreAfterParents rows → at ≤ length rows → 0 < at → (get_or rows (at - 1) d).parent < at
parent_before rows at d after there some =
    let before : (get_or rows (at - 1) d).parent ≤ at - 1 = after (at - 1) d (omega arith) in
    omega arith
