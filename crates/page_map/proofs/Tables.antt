-- A table of pages: a new one, and one in which a page gets a place.
use Rattle.std.proofs.Common.{◌-◌, ◌≡◌, ◌≢◌, ℕ, ◌+◌, ◌*◌, ◌/◌, ◌%◌, ◌<◌, ◌≤◌, inl, inr, Bool, true, false, cond, is_some, List, [], ◌∷◌, Option, Some, None, get_or, set, nat_eq, nat_lt, refl, sym, ap, ◌∙◌, subst, arith, eq-eqb}
use Rattle.std.proofs.lemmas.Bool.{cases_eq, cases_lt, le-leb, lt-leb, lt-ltb, le-ltb, ne_eqb}
use Rattle.page_map.specs.Layout.{IsFilled, IsTable, empty_leaf, filled_with}
use Rattle.mach_types.specs.Kernel.Pages.{first_page}
use Rattle.mach_types.proofs.Laws.{first_page-is, first_page-none}
use Rattle.page_map.specs.Table.{Table, place_in}
use Rattle.page_map.proofs.Rows.{HasRow, IsFresh, fresh-row, new-entry, written-entry}

pub fresh-leaf : IsFresh None empty_leaf
unfolding empty_leaf
fresh-leaf = fresh-row None

none-if : (b : Bool) (place : Option ℕ) → place ≡ None → cond b place None ≡ None
none-if true place none = none
none-if false place none = refl

-- a table whose only leaf is the one without entries
pub new-places : (directory : List ℕ) (leaves : List (List (Option ℕ))) → ((c : ℕ) → get_or directory c 0 ≡ 0)
    → leaves ≡ empty_leaf ∷ [] → (n : ℕ)
    → place_in (record { directory = directory; leaves = leaves }) n ≡ None
new-places directory leaves zeros one n = none-if (nat_lt n 67108864) _ (new-entry None empty_leaf directory leaves fresh-leaf zeros one n)

-- a place is written into the leaf of a page's chunk
pub inserted-places : (directory directory' : List ℕ) (leaves leaves' after : List (List (Option ℕ))) (capacity page leaf : ℕ) (place : Option ℕ)
    → HasRow None 131072 directory leaves (page / 512) directory' leaves' leaf
    → after ≡ set leaves' leaf (set (get_or leaves' leaf []) (page % 512) place)
    → IsTable directory leaves capacity → page < 67108864 → (n : ℕ)
    → place_in (record { directory = directory'; leaves = after }) n
    ≡ cond (nat_eq n page) place (place_in (record { directory = directory; leaves = leaves }) n)
inserted-places directory directory' leaves leaves' after capacity page leaf place has written table inside n = elim (cases_lt n 67108864) [
  | inl lt ↦
      rw (lt-ltb n 67108864 lt)
      (written-entry None 131072 directory directory' leaves leaves' after page leaf place has written capacity table (omega arith) n (omega arith))
  | inr past ↦ rw (le-ltb n 67108864 past, ne_eqb n page (λ e. omega arith)) refl
]

-- a page of a chunk without a leaf has no place
pub bare-none : (directory : List ℕ) (leaves : List (List (Option ℕ))) (capacity n : ℕ) → IsTable directory leaves capacity
    → get_or directory (n / 512) 0 ≡ 0 → place_in (record { directory = directory; leaves = leaves }) n ≡ None
bare-none directory leaves capacity n table bare =
    none-if (nat_lt n 67108864) _ (ap (λ i. get_or (get_or leaves i []) (n % 512) None) bare ∙ table.empty (n % 512))

-- the first page with a place: no page before one has a place
pub record NoneBefore (t : Table) (from page : ℕ) : Type 0 where
  pub low : from ≤ page
  pub none : (k : ℕ) → from ≤ k → k < page → is_some (place_in t k) ≡ false

module _ (t : Table) (from page : ℕ) (passed : NoneBefore t from page) where
  -- chunks without leaves are passed over
  pub pass-chunks : (capacity to : ℕ) → IsTable t.directory t.leaves capacity → page / 512 < to
      → ((c : ℕ) → page / 512 ≤ c → c < to → get_or t.directory c 0 ≡ 0) → NoneBefore t from (to * 512)
  pass-chunks capacity to table past bare = record {
    low = let before = passed.low in omega arith;
    none = λ k low high. elim (cases_lt k page) [
      | inl before ↦ passed.none k low before
      | inr here ↦ ap is_some (bare-none t.directory t.leaves capacity k table (bare (k / 512) (omega arith) (omega arith)))
    ];
  }

  -- and so is a page without a place
  pub pass-page : is_some (place_in t page) ≡ false → NoneBefore t from (page + 1)
  pass-page none = record {
    low = let before = passed.low in omega arith;
    none = λ k low high. elim (cases_eq k page) [
      | inl here ↦ ap (λ n. is_some (place_in t n)) here ∙ none
      | inr two ↦ passed.none k low (omega arith)
    ];
  }

  pub found : (end : ℕ) → page < end → is_some (place_in t page) ≡ true → Some page ≡ first_page (λ n. is_some (place_in t n)) from (end - from)
  found end lt some =
      let low = passed.low in
      sym (first_page-is (λ n. is_some (place_in t n)) from (end - from) page low (omega arith) some passed.none)

  pub found-none : (end : ℕ) → end ≤ page → None ≡ first_page (λ n. is_some (place_in t n)) from (end - from)
  found-none end past =
      let low = passed.low in
      sym (first_page-none (λ n. is_some (place_in t n)) from (end - from) (λ k from_here to. passed.none k from_here (omega arith)))

-- no page is filled at first
pub new-filled : (t : Table) → IsFilled t 33554432
new-filled t = record { from = omega arith; placed = λ n low high. absurd (omega arith) }

-- one more page with a place
pub filled-next : (t : Table) (page : ℕ) → IsFilled t page → is_some (place_in t page) ≡ true → IsFilled t (page + 1)
filled-next t page filled some = record {
  from = let low = filled.from in omega arith;
  placed = λ n low high. elim (cases_eq n page) [
    | inl here ↦ ap (λ k. is_some (place_in t k)) here ∙ some
    | inr two ↦ filled.placed n low (omega arith)
  ];
}

-- how far pages have places, once one gets a place, or has none any more
module _ (t t' : Table) (filled_to page : ℕ) where
  set-beside : (place : Option ℕ) → ((n : ℕ) → place_in t' n ≡ cond (nat_eq n page) place (place_in t n))
      → (n : ℕ) → n ≢ page → is_some (place_in t n) ≡ true → is_some (place_in t' n) ≡ true
  set-beside place places n two some = ap is_some (places n) ∙ rw (ne_eqb n page two) some

  set-some : (p : ℕ) → ((n : ℕ) → place_in t' n ≡ cond (nat_eq n page) (Some p) (place_in t n)) → IsFilled t filled_to
      → IsFilled t' filled_to
  set-some p places filled = record {
    from = filled.from;
    placed = λ n low high. elim (cases_eq n page) [
      | inl here ↦ ap is_some (places n) ∙ rw (eq-eqb n page here) refl
      | inr two ↦ set-beside (Some p) places n two (filled.placed n low high)
    ];
  }

  set-none : (to : ℕ) → ((n : ℕ) → place_in t' n ≡ cond (nat_eq n page) None (place_in t n)) → IsFilled t filled_to
      → 33554432 ≤ to → to ≤ filled_to → (33554432 ≤ page → to ≤ page) → IsFilled t' to
  set-none to places filled from below apart = record {
    from = from;
    placed = λ n low high. elim (cases_eq n page) [
      | inl here ↦ let past : to ≤ page = apart (omega arith) in absurd (omega arith)
      | inr two ↦ set-beside None places n two (filled.placed n low (omega arith))
    ];
  }

  pub filled-set : (place : Option ℕ) → IsFilled t filled_to
      → ((n : ℕ) → place_in t' n ≡ cond (nat_eq n page) place (place_in t n)) → IsFilled t' (filled_with filled_to page place)
  filled-set (Some p) filled places = elim (cases_eq page filled_to) [
    | inl same ↦
        let here : is_some (place_in t' page) ≡ true = ap is_some (places page) ∙ rw (eq-eqb page page refl) refl in
        rw (eq-eqb page filled_to same) (filled-next t' page (subst (IsFilled t') (sym same) (set-some p places filled)) here)
    | inr two ↦ rw (ne_eqb page filled_to two) (set-some p places filled)
  ]
  filled-set None filled places = elim (cases_lt page 33554432) [
    | inl below ↦
        let low = filled.from in
        rw (lt-leb 33554432 page below) (set-none filled_to places filled low (omega arith) (λ from. absurd (omega arith)))
    | inr from ↦ elim (cases_lt page filled_to) [
      | inl before ↦
          rw (le-leb 33554432 page from, lt-ltb page filled_to before)
          (set-none page places filled from (omega arith) (λ low. omega arith))
      | inr past ↦
          let low = filled.from in
          rw (le-leb 33554432 page from, le-ltb page filled_to past) (set-none filled_to places filled low (omega arith) (λ _. past))
    ]
  ]
