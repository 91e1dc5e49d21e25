-- Pages that stand at the places of a list, and lists that name the same pages.
use Rattle.std.proofs.Common.{◌≡◌, ℕ, ◌⊎◌, ◌+◌, ◌<◌, ◌≤◌, inl, inr, List, Option, Some, None, length, get_or, nat_eq, cond, refl, sym, ap, ◌∙◌, subst, arith, eq-eqb, slice_get}
use Rattle.std.specs.Option.{option_map}
use Rattle.std.proofs.lemmas.Bool.{cases_eq, ne_eqb}
use Rattle.std.proofs.lemmas.Option.{slice_get-get_or, slice_get_within}
use Rattle.page_map.specs.Copying.{StandAlike}
use Rattle.page_map.specs.Map.{Map, Page, frame_bytes, page_at, page_in, permission_in}
use Rattle.page_map.specs.Mapping.{IsMap}
use Rattle.page_map.specs.Starting.{StandsWith}
use Rattle.page_map.specs.Table.{place_in}
use Rattle.page_map.specs.declared.mapped_page.MappedPage.{MappedPage}
use Rattle.page_map.proofs.Maps.{one-page, page-none, page-some, place_or_none, slice_get-read}

module _ (m : Map) (capacity : ℕ) (kept : IsMap m capacity) where
  -- a page isn't mapped, or stands at a place
  pub placed-or-none : (n : ℕ) → (page_in m n ≡ None) ⊎ ((i : ℕ) × (permission : ℕ) × StandsWith m.mapped i n permission)
  placed-or-none n = elim (place_or_none m capacity kept n (place_in m.table n) refl) [
    | inl none ↦ inl (page-none m n none)
    | inr some ↦
        let there = kept.placed n some.0 some.1 in
        inr (some.0, there.page.permission, record { page = there.page; there = there.there; number = there.number; permission = refl })
  ]

  -- the page that stands at a place has the bytes of its frame
  pub page-there : (i n permission : ℕ) (p : MappedPage) (bytes : List ℕ) → slice_get m.mapped i ≡ Some p → StandsWith m.mapped i n permission
      → slice_get m.pool p.frame ≡ Some (Some bytes) → page_in m n ≡ Some (record { permission = permission; bytes = bytes })
  page-there i n permission p bytes at stands holds =
      let one : p ≡ stands.page = one-page m.mapped i p stands.page at stands.there in
      let numbered : p.number ≡ n = ap (λ (q : MappedPage). q.number) one ∙ stands.number in
      let permitted : p.permission ≡ permission = ap (λ (q : MappedPage). q.permission) one ∙ stands.permission in
      page-some m n i p (ap (place_in m.table) (sym numbered) ∙ kept.entered i p at) at
      ∙ ap (λ b. let q : Option Page = Some (record { permission = p.permission; bytes = frame_bytes b }) in q) holds
      ∙ ap (λ (k : ℕ). let q : Option Page = Some (record { permission = k; bytes = bytes }) in q) permitted

-- what stands in one of two lists that are alike stands in the other
pub alike-there : (mapped others : List MappedPage) → StandAlike mapped others → (i n permission : ℕ) → StandsWith mapped i n permission → StandsWith others i n permission
alike-there mapped others alike i n permission at =
    let within : i < length others = let low = slice_get_within mapped i at.page at.there in omega (arith, alike.count) in
    let q : MappedPage = get_or others i at.page in
    let there : slice_get others i ≡ Some q = slice_get-get_or others i at.page within in
    let both = alike.each i at.page q at.there there in
    record { page = q; there = there; number = sym both.0 ∙ at.number; permission = sym both.1 ∙ at.permission }

pub alike-back : (mapped others : List MappedPage) → StandAlike mapped others → (i n permission : ℕ) → StandsWith others i n permission → StandsWith mapped i n permission
alike-back mapped others alike i n permission at =
    let within : i < length mapped = let low = slice_get_within others i at.page at.there in omega (arith, alike.count) in
    let p : MappedPage = get_or mapped i at.page in
    let there : slice_get mapped i ≡ Some p = slice_get-get_or mapped i at.page within in
    let both = alike.each i p at.page there at.there in
    record { page = p; there = there; number = both.0 ∙ at.number; permission = both.1 ∙ at.permission }

-- what is read at a place of the list stands there
pub there-at : (mapped now : List MappedPage) (i : ℕ) (p : MappedPage) → mapped ≡ now → p ≡ get_or mapped i p → i < length now → slice_get mapped i ≡ Some p
there-at mapped now i p same is lt = slice_get-read mapped i p is (subst (λ (ms : List MappedPage). i < length ms) (sym same) lt)

-- a page that is taken over is that of the other map
pub one-taken : (n number : ℕ) (x old : Option Page) (other : ℕ → Option Page) → other number ≡ x → cond (nat_eq n number) x old ≡ cond (nat_eq n number) (other n) old
one-taken n number x old other is = elim (cases_eq n number) [
  | inl same ↦ rw (eq-eqb n number same) (sym is ∙ ap other (sym same))
  | inr two ↦ rw (ne_eqb n number two) refl
]

-- a page at a place stands there
pub stands-at : (mapped : List MappedPage) (i : ℕ) (p : MappedPage) → slice_get mapped i ≡ Some p → StandsWith mapped i p.number p.permission
stands-at mapped i p at = record { page = p; there = at; number = refl; permission = refl }

-- the pages so far are those of another map
abbrev pub TakenTo : List MappedPage → (ℕ → Option Page) → (ℕ → Option Page) → ℕ → Type 0
TakenTo mapped page other to = (i n permission : ℕ) → i < to → StandsWith mapped i n permission → page n ≡ other n

-- one page more
pub taken-next : (mapped : List MappedPage) (before after other : ℕ → Option Page) (k number permission : ℕ) → StandsWith mapped k number permission
    → ((n : ℕ) → after n ≡ cond (nat_eq n number) (other n) (before n)) → TakenTo mapped before other k → TakenTo mapped after other (k + 1)
taken-next mapped before after other k number permission at step was i n allowed lt stands = elim (cases_eq n number) [
  | inl same ↦ step n ∙ (rw (eq-eqb n number same) refl)
  | inr two ↦ elim (cases_eq i k) [
    | inl here ↦
        let there = subst (λ (j : ℕ). StandsWith mapped j n allowed) here stands in
        let one : there.page ≡ at.page = one-page mapped k there.page at.page there.there at.there in
        absurd (two (sym there.number ∙ ap (λ (q : MappedPage). q.number) one ∙ at.number))
    | inr past ↦ step n ∙ (rw (ne_eqb n number two) (was i n allowed (omega arith) stands))
  ]
]

-- pages that stand alike, each of which is the other's
pub all-taken : (mapped others : List MappedPage) (page other : ℕ → Option Page) (to : ℕ) → StandAlike mapped others → length mapped ≤ to
    → ((n : ℕ) → (page n ≡ None) ⊎ ((i : ℕ) × (permission : ℕ) × StandsWith mapped i n permission))
    → ((n : ℕ) → (other n ≡ None) ⊎ ((i : ℕ) × (permission : ℕ) × StandsWith others i n permission))
    → TakenTo mapped page other to → (n : ℕ) → page n ≡ other n
all-taken mapped others page other to alike whole placed others_placed taken n = elim (placed n) [
  | inr there ↦ let within = slice_get_within mapped there.0 there.2.page there.2.there in taken there.0 n there.1 (omega arith) there.2
  | inl none ↦ elim (others_placed n) [
    | inl neither ↦ none ∙ sym neither
    | inr there ↦
        let at = alike-back mapped others alike there.0 n there.1 there.2 in
        let within = slice_get_within mapped there.0 at.page at.there in
        taken there.0 n there.1 (omega arith) at
  ]
]

-- the same pages have the same permissions
pub alike-permissions : (m other : Map) → StandAlike m.mapped other.mapped
    → ((n : ℕ) → (page_in m n ≡ None) ⊎ ((i : ℕ) × (permission : ℕ) × StandsWith m.mapped i n permission))
    → ((i n permission : ℕ) → StandsWith m.mapped i n permission → permission_in m n ≡ Some permission)
    → ((n : ℕ) → (page_in other n ≡ None) ⊎ ((i : ℕ) × (permission : ℕ) × StandsWith other.mapped i n permission))
    → ((i n permission : ℕ) → StandsWith other.mapped i n permission → permission_in other n ≡ Some permission)
    → (n : ℕ) → permission_in m n ≡ permission_in other n
alike-permissions m other alike placed there others_placed others_there n = elim (placed n) [
  | inr at ↦ there at.0 n at.1 at.2 ∙ sym (others_there at.0 n at.1 (alike-there m.mapped other.mapped alike at.0 n at.1 at.2))
  | inl none ↦ elim (others_placed n) [
    | inl neither ↦ ap (option_map (λ (p : Page). p.permission)) none ∙ sym (ap (option_map (λ (p : Page). p.permission)) neither)
    | inr at ↦ there at.0 n at.1 (alike-back m.mapped other.mapped alike at.0 n at.1 at.2) ∙ sym (others_there at.0 n at.1 at.2)
  ]
]
