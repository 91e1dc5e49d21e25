-- Rows of 512 entries, which chunks share or have for themselves: new ones, and rows in which an entry is written.
use Rattle.std.proofs.Common.{◌-◌, ◌≡◌, ◌≢◌, ℕ, zero, suc, ◌+◌, ◌*◌, ◌/◌, ◌%◌, ◌<◌, ◌≤◌, inl, inr, true, false, cond, List, [], ◌∷◌, ◌++◌, length, replicate, get_or, set, nat_eq, refl, sym, ap, ◌∙◌, subst, arith, length-append, eq-eqb}
use Rattle.std.specs.Prelude.{All}
use Rattle.std.proofs.lemmas.Bool.{cases_eq, ne_eqb}
use Rattle.std.proofs.lemmas.List.{get_or-set_same, get_or-set_other, get_or_append_left, get_or-append_right, length-set, length-replicate}
use Rattle.std.proofs.lemmas.List.Elements.{All-append, All-set}
use Rattle.std.proofs.lemmas.List.Sums.{sum_by-cons, sum_by-set}
use Rattle.page_map.specs.Layout.{IsRows, bare_count, names_with, rows_with}

-- a row without entries
pub record IsFresh {A : Type 0} (none : A) (fresh : List A) : Type 0 where
  pub long : length fresh ≡ 512
  pub empty : (k : ℕ) → get_or fresh k none ≡ none

pub none-at : {A : Type 0} (none : A) (n k : ℕ) → get_or (replicate n none) k none ≡ none
none-at none zero k = refl
none-at none (suc n) zero = refl
none-at none (suc n) (suc k) = none-at none n k

pub fresh-row : {A : Type 0} (none : A) → IsFresh none (replicate 512 none)
fresh-row none = record { long = length-replicate 512 none; empty = none-at none 512 }

one-whole : {A : Type 0} (none : A) (fresh : List A) → IsFresh none fresh → All (λ (row : List A). length row ≡ 512) (fresh ∷ [])
one-whole none fresh is zero d lt = is.long
one-whole none fresh is (suc k) d lt = absurd (omega arith)

abbrev one_bare : ℕ → ℕ
one_bare row = cond (nat_eq row 0) 1 0

-- the names of chunks without rows
bare-all : (names : List ℕ) → ((c : ℕ) → get_or names c 0 ≡ 0) → bare_count names ≡ length names
unfolding bare_count
bare-all [] zeros = refl
bare-all (row ∷ names) zeros =
    let here : row ≡ 0 = zeros zero in
    let one : one_bare row ≡ 1 = rw (eq-eqb row 0 here) refl in
    omega (arith, sum_by-cons one_bare row names, bare-all names (λ c. zeros (suc c)), one)

-- a chunk that had no row gets one
bare-fewer : (names : List ℕ) (c row : ℕ) → c < length names → get_or names c 0 ≡ 0 → row ≢ 0
    → bare_count (set names c row) + 1 ≡ bare_count names
unfolding bare_count
bare-fewer names c row within bare named =
    let old : one_bare (get_or names c 0) ≡ 1 = rw (eq-eqb (get_or names c 0) 0 bare) refl in
    let new : one_bare row ≡ 0 = rw (ne_eqb row 0 named) refl in
    omega (arith, sum_by-set one_bare names c row 0 within, old, new)

-- where a chunk has no row, some chunk has none
bare-some : (names : List ℕ) (c : ℕ) → c < length names → get_or names c 0 ≡ 0 → 0 < bare_count names
bare-some names c within bare =
    let fewer : bare_count (set names c 1) + 1 ≡ bare_count names = bare-fewer names c 1 within bare (λ e. omega arith) in
    omega arith

-- rows of which the only one has no entries
pub new-rows : {A : Type 0} (none : A) (fresh : List A) (size : ℕ) (names : List ℕ) (rows : List (List A)) (capacity : ℕ)
    → IsFresh none fresh → length names ≡ size → ((c : ℕ) → get_or names c 0 ≡ 0) → rows ≡ fresh ∷ [] → size + 1 ≤ capacity
    → IsRows none size names rows capacity
new-rows {A} none fresh size names rows capacity is chunks zeros one roomy =
    let count : length rows ≡ 1 = ap length one in
    let bare : bare_count names ≡ length names = bare-all names zeros in
    record {
      chunks = chunks;
      named = λ c within. omega (arith, zeros c);
      whole = subst (All (λ (row : List A). length row ≡ 512)) (sym one) (one-whole none fresh is);
      empty = λ k. ap (λ ls. get_or (get_or ls 0 []) k none) one ∙ is.empty k;
      own = λ c d _ _ named _. absurd (named (zeros c));
      counted = omega arith;
      room = roomy;
    }

pub new-entry : {A : Type 0} (none : A) (fresh : List A) (names : List ℕ) (rows : List (List A)) → IsFresh none fresh
    → ((c : ℕ) → get_or names c 0 ≡ 0) → rows ≡ fresh ∷ [] → (n : ℕ)
    → get_or (get_or rows (get_or names (n / 512) 0) []) (n % 512) none ≡ none
new-entry none fresh names rows is zeros one n =
    (λ i. get_or (get_or (one i) (zeros (n / 512) i) []) (n % 512) none) ∙ is.empty (n % 512)

-- where a chunk has no row, there is room for one
pub has-room : {A : Type 0} (none : A) (size : ℕ) (names : List ℕ) (rows : List (List A)) (capacity c : ℕ)
    → IsRows none size names rows capacity → c < size → get_or names c 0 ≡ 0 → length rows < size + 1
has-room none size names rows capacity c table within bare =
    let chunks : length names ≡ size = table.chunks in
    let some : 0 < bare_count names = bare-some names c (omega arith) bare in
    let all = table.counted in
    omega arith

-- a chunk that has a row of its own, among rows that are else as before
pub record HasRow {A : Type 0} (none : A) (size : ℕ) (names : List ℕ) (rows : List (List A)) (c : ℕ) (names' : List ℕ) (rows' : List (List A)) (row : ℕ) : Type 0 where
  pub chunks : length names' ≡ length names
  pub row_is : get_or names' c 0 ≡ row
  pub others : (d : ℕ) → d ≢ c → get_or names' d 0 ≡ get_or names d 0
  pub within : row < length rows'
  pub not_empty : row ≢ 0
  pub apart : (d : ℕ) → d < size → d ≢ c → get_or names d 0 ≢ row
  pub entries : (k : ℕ) → get_or (get_or rows' row []) k none ≡ get_or (get_or rows (get_or names c 0) []) k none
  pub rows_same : (i : ℕ) → i < length rows → get_or rows' i [] ≡ get_or rows i []
  pub grows : length rows ≤ length rows'
  pub whole : All (λ (l : List A). length l ≡ 512) rows'
  pub counted : length rows' + bare_count names' ≡ length rows + bare_count names

module _ {A : Type 0} (none : A) (fresh : List A) (is_fresh : IsFresh none fresh) (size : ℕ) (names : List ℕ) (rows : List (List A)) (capacity : ℕ)
    (table : IsRows none size names rows capacity) where
  old-row : (c : ℕ) → c < size → get_or names c 0 ≢ 0 → HasRow none size names rows c names rows (get_or names c 0)
  old-row c within named = record {
    chunks = refl;
    row_is = refl;
    others = λ d _. refl;
    within = table.named c within;
    not_empty = named;
    apart = λ d lt two same. two (sym (table.own c d within lt named (sym same)));
    entries = λ k. refl;
    rows_same = λ i _. refl;
    grows = omega arith;
    whole = table.whole;
    counted = refl;
  }

  new-row : (c : ℕ) → c < size → get_or names c 0 ≡ 0
      → HasRow none size names rows c (set names c (length rows)) (rows ++ fresh ∷ []) (length rows)
  new-row c within unnamed =
      let chunks : length names ≡ size = table.chunks in
      let some : get_or names c 0 < length rows = table.named c within in
      record {
        chunks = length-set names c (length rows);
        row_is = get_or-set_same names c (length rows) 0 (omega arith);
        others = λ d two. get_or-set_other names c d (length rows) 0 two;
        within = omega (arith, length-append rows (fresh ∷ []));
        not_empty = λ e. omega arith;
        apart = λ d lt two same. let below : get_or names d 0 < length rows = table.named d lt in omega arith;
        entries = λ k.
            let here : get_or (rows ++ fresh ∷ []) (length rows) [] ≡ fresh =
            get_or-append_right rows (fresh ∷ []) (length rows) (length rows) [] refl (omega arith)
            ∙ ap (λ j. get_or (fresh ∷ []) j []) (let none : length rows - length rows ≡ 0 = omega arith in none) in
            ap (λ l. get_or l k none) here ∙ is_fresh.empty k ∙ sym (table.empty k)
            ∙ ap (λ j. get_or (get_or rows j []) k none) (sym unnamed);
        rows_same = λ i lt. get_or_append_left rows (fresh ∷ []) [] i lt;
        grows = omega (arith, length-append rows (fresh ∷ []));
        whole = All-append (λ (l : List A). length l ≡ 512) rows (fresh ∷ []) table.whole (one-whole none fresh is_fresh);
        counted =
            let fewer : bare_count (set names c (length rows)) + 1 ≡ bare_count names =
            bare-fewer names c (length rows) (omega arith) unnamed (λ e. omega arith) in
            omega (arith, length-append rows (fresh ∷ []));
      }

  has-row : (c row : ℕ) → c < size → row ≡ get_or (names_with names (length rows) c) c 0
      → HasRow none size names rows c (names_with names (length rows) c) (rows_with names rows fresh c) row
  has-row c row within is = elim (cases_eq (get_or names c 0) 0) [
    | inl bare ↦
        let test : nat_eq (get_or names c 0) 0 ≡ true = eq-eqb (get_or names c 0) 0 bare in
        let new = new-row c within bare in
        let named : row ≡ length rows = is ∙ (rw test new.row_is) in
        rw (test, named) new
    | inr some ↦
        let test : nat_eq (get_or names c 0) 0 ≡ false = ne_eqb (get_or names c 0) 0 some in
        let named : row ≡ get_or names c 0 = is ∙ (rw test refl) in
        rw (test, named) (old-row c within some)
  ]

  pub has-own : (c row : ℕ) (names' : List ℕ) (rows' : List (List A)) → c < size
      → names' ≡ names_with names (length rows) c → rows' ≡ rows_with names rows fresh c → row ≡ get_or names' c 0
      → HasRow none size names rows c names' rows' row
  has-own c row names' rows' within names_are rows_are is =
      rw (names_are, rows_are) (has-row c row within (is ∙ ap (λ d. get_or d c 0) names_are))

-- an entry is written into the row of its chunk
module _ {A : Type 0} (none : A) (size : ℕ) (names names' : List ℕ) (rows rows' after : List (List A)) (at row : ℕ) (entry : A)
    (has : HasRow none size names rows (at / 512) names' rows' row)
    (written : after ≡ set rows' row (set (get_or rows' row []) (at % 512) entry)) where
  after-row : get_or after row [] ≡ set (get_or rows' row []) (at % 512) entry
  after-row = ap (λ ls. get_or ls row []) written ∙ get_or-set_same rows' row (set (get_or rows' row []) (at % 512) entry) [] has.within

  after-other : (i : ℕ) → i ≢ row → i < length rows → get_or after i [] ≡ get_or rows i []
  after-other i two lt =
      ap (λ ls. get_or ls i []) written ∙ get_or-set_other rows' row i (set (get_or rows' row []) (at % 512) entry) [] two
      ∙ has.rows_same i lt

  after-length : length after ≡ length rows'
  after-length = ap length written ∙ length-set rows' row (set (get_or rows' row []) (at % 512) entry)

  entry-here : (n : ℕ) → n ≡ at
      → get_or (get_or after (get_or names' (n / 512) 0) []) (n % 512) none ≡ entry
  entry-here n same =
      let size : length (get_or rows' row []) ≡ 512 = has.whole row [] has.within in
      ap (λ m. get_or (get_or after (get_or names' (m / 512) 0) []) (m % 512) none) same
      ∙ ap (λ i. get_or (get_or after i []) (at % 512) none) has.row_is
      ∙ ap (λ l. get_or l (at % 512) none) after-row
      ∙ get_or-set_same (get_or rows' row []) (at % 512) entry none (omega arith)

  entry-beside : (n : ℕ) → n ≢ at → n / 512 ≡ at / 512
      → get_or (get_or after (get_or names' (n / 512) 0) []) (n % 512) none ≡ get_or (get_or rows (get_or names (n / 512) 0) []) (n % 512) none
  entry-beside n two chunk =
      let apart : n % 512 ≢ at % 512 = λ e. two (omega arith) in
      ap (λ c. get_or (get_or after (get_or names' c 0) []) (n % 512) none) chunk
      ∙ ap (λ i. get_or (get_or after i []) (n % 512) none) has.row_is
      ∙ ap (λ l. get_or l (n % 512) none) after-row
      ∙ get_or-set_other (get_or rows' row []) (at % 512) (n % 512) entry none apart
      ∙ has.entries (n % 512)
      ∙ ap (λ c. get_or (get_or rows (get_or names c 0) []) (n % 512) none) (sym chunk)

  module _ (capacity : ℕ) (table : IsRows none size names rows capacity) (inside : at < size * 512) where
    entry-else : (n : ℕ) → n < size * 512 → n / 512 ≢ at / 512
        → get_or (get_or after (get_or names' (n / 512) 0) []) (n % 512) none ≡ get_or (get_or rows (get_or names (n / 512) 0) []) (n % 512) none
    entry-else n lt chunk =
        let within : n / 512 < size = omega arith in
        ap (λ i. get_or (get_or after i []) (n % 512) none) (has.others (n / 512) chunk)
        ∙ ap (λ l. get_or l (n % 512) none) (after-other (get_or names (n / 512) 0) (has.apart (n / 512) within chunk) (table.named (n / 512) within))

    pub written-entry : (n : ℕ) → n < size * 512
        → get_or (get_or after (get_or names' (n / 512) 0) []) (n % 512) none
        ≡ cond (nat_eq n at) entry (get_or (get_or rows (get_or names (n / 512) 0) []) (n % 512) none)
    written-entry n lt = elim (cases_eq n at) [
      | inl same ↦ rw (eq-eqb n at same) (entry-here n same)
      | inr two ↦ elim (cases_eq (n / 512) (at / 512)) [
        | inl chunk ↦ rw (ne_eqb n at two) (entry-beside n two chunk)
        | inr chunk ↦ rw (ne_eqb n at two) (entry-else n lt chunk)
      ]
    ]

    still-own : (c d : ℕ) → c < size → d < size → get_or names' c 0 ≢ 0 → get_or names' c 0 ≡ get_or names' d 0 → c ≡ d
    still-own c d within lt named same = elim (cases_eq c (at / 512)) [
      | inl here ↦ elim (cases_eq d (at / 512)) [
        | inl there ↦ here ∙ sym there
        | inr there ↦ absurd (has.apart d lt there (sym (has.others d there) ∙ sym same ∙ ap (λ k. get_or names' k 0) here ∙ has.row_is))
      ]
      | inr here ↦ elim (cases_eq d (at / 512)) [
        | inl there ↦ absurd (has.apart c within here (sym (has.others c here) ∙ same ∙ ap (λ k. get_or names' k 0) there ∙ has.row_is))
        | inr there ↦ table.own c d within lt (λ e. named (has.others c here ∙ e)) (sym (has.others c here) ∙ same ∙ has.others d there)
      ]
    ]

    still-named : (c : ℕ) → c < size → get_or names' c 0 < length after
    still-named c within = elim (cases_eq c (at / 512)) [
      | inl here ↦
          let is : get_or names' c 0 ≡ row = ap (λ k. get_or names' k 0) here ∙ has.row_is in
          let lt : row < length rows' = has.within in
          omega (arith, after-length)
      | inr here ↦
          let is : get_or names' c 0 ≡ get_or names c 0 = has.others c here in
          let lt : get_or names c 0 < length rows = table.named c within in
          let grows : length rows ≤ length rows' = has.grows in
          omega (arith, after-length)
    ]

    pub written-rows : (capacity' : ℕ) → capacity ≤ capacity' → IsRows none size names' after capacity'
    written-rows capacity' grows = record {
      chunks = has.chunks ∙ table.chunks;
      named = still-named;
      whole =
          let long : length (set (get_or rows' row []) (at % 512) entry) ≡ 512 =
          length-set (get_or rows' row []) (at % 512) entry ∙ has.whole row [] has.within in
          subst (All (λ (l : List A). length l ≡ 512)) (sym written)
          (All-set (λ (l : List A). length l ≡ 512) rows' row (set (get_or rows' row []) (at % 512) entry) long has.whole);
      empty = λ k.
          let some : get_or names 0 0 < length rows = table.named 0 (omega arith) in
          ap (λ l. get_or l k none) (after-other 0 (λ e. has.not_empty (sym e)) (omega arith)) ∙ table.empty k;
      own = still-own;
      counted = ap (λ n. n + bare_count names') after-length ∙ has.counted ∙ table.counted;
      room = let enough : size + 1 ≤ capacity = table.room in omega arith;
    }

-- what was read at a place is what stands there
pub read-at : {X : Type 0} (xs : List X) (i : ℕ) (x d : X) → x ≡ get_or xs i x → i < length xs → x ≡ get_or xs i d
read-at [] i x d is lt = absurd (omega arith)
read-at (y ∷ xs) zero x d is lt = is
read-at (y ∷ xs) (suc i) x d is lt = read-at xs i x d is (omega arith)
