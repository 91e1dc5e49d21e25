-- Pages that stand as a start maps them: their permissions are those of the start, and so are their bytes once they are written.
use Rattle.std.proofs.Common.{◌≡◌, ◌≢◌, ℕ, zero, suc, ◌+◌, ◌-◌, ◌<◌, ◌≤◌, ◌⊎◌, inl, inr, Bool, true, false, cond, List, [], ◌∷◌, Option, Some, None, length, nat_eq, slice_get, slice_index, refl, sym, ap, ◌∙◌, subst, arith, eq-eqb}
use Rattle.std.specs.Prelude.{All, IfSome}
use Rattle.std.specs.Option.{option_map, option_or}
use Rattle.std.proofs.lemmas.Bool.{cases_eq, cases_lt, eqb-true, ne_eqb}
use Rattle.std.proofs.lemmas.Option.{slice_get-get_or, slice_get_within}
use Rattle.mach_types.specs.Kernel.Pages.{is_in, permission_of}
use Rattle.elf_load.specs.Start.{page_of, return_byte, return_run, stack_run, start_runs}
use Rattle.elf_load.specs.declared.image.ImagePage.{ImagePage}
use Rattle.frame_pool.specs.Pool.{free_count, zeroed}
use Rattle.frame_pool.proofs.Laws.{AreHeld-zeroed, free_count-zeroed, zeroed-at}
use Rattle.page_map.specs.Map.{Map, Page, frame_bytes, page_in, permission_in, zero_page}
use Rattle.page_map.specs.Mapping.{IsMap, frames_of}
use Rattle.page_map.specs.Starting.{AreLaidOut, IsStartPage, StandsWith, image_page, mapped_page, stack_page}
use Rattle.page_map.specs.Table.{place_in}
use Rattle.page_map.specs.declared.mapped_page.MappedPage.{MappedPage}
use Rattle.page_map.proofs.Maps.{one-page, page-none, page-some, page-taken, place_or_none, repooled-map}
use Rattle.page_map.proofs.Starts.{by-place, image-permission, none-below, not-return, not-stack, return-run, stack-run, start-page}

none-tail : (b : Bool) (p : ImagePage) (o : Option ImagePage) → cond b (Some p) o ≡ None → o ≡ None
none-tail true p o none = cc
none-tail false p o none = none

-- a page of an image with a number stands somewhere
first-place : (b : Bool) (p q : ImagePage) (pages : List ImagePage) (n : ℕ) → nat_eq p.number n ≡ b → cond b (Some p) (page_of pages n) ≡ Some q
    → (page_of pages n ≡ Some q → (i : ℕ) × (slice_get pages i ≡ Some q) × (q.number ≡ n))
    → (i : ℕ) × (slice_get (p ∷ pages) i ≡ Some q) × (q.number ≡ n)
first-place true p q pages n same is later =
    let number : p.number ≡ n = eqb-true p.number n same in
    let one : q ≡ p = cc in
    (0, is, ap (λ (r : ImagePage). r.number) one ∙ number)
first-place false p q pages n other is later = let rest = later is in (suc rest.0, rest.1, rest.2)

page_of-place : (pages : List ImagePage) (n : ℕ) (q : ImagePage) → page_of pages n ≡ Some q → (i : ℕ) × (slice_get pages i ≡ Some q) × (q.number ≡ n)
page_of-place [] n q found = absurd (cc)
page_of-place (p ∷ pages) n q found = first-place (nat_eq p.number n) p q pages n refl found (page_of-place pages n q)

-- where none has it, it is no page's
page_of-missing : (pages : List ImagePage) (n i : ℕ) (q : ImagePage) → page_of pages n ≡ None → slice_get pages i ≡ Some q → q.number ≢ n
page_of-missing [] n i q none at same = cc
page_of-missing (p ∷ pages) n zero q none at same =
    let one : p ≡ q = cc in
    let here : p.number ≡ n = ap (λ (r : ImagePage). r.number) one ∙ same in
    let found : page_of (p ∷ pages) n ≡ Some p = rw (eq-eqb p.number n here) refl in
    cc
page_of-missing (p ∷ pages) n (suc i) q none at same = page_of-missing pages n i q (none-tail (nat_eq p.number n) p (page_of pages n) none) at same

module _ (m : Map) (capacity : ℕ) (kept : IsMap m capacity) where
  -- a page that stands at a place is mapped
  pub shown-at : (n i permission : ℕ) → StandsWith m.mapped i n permission → permission_in m n ≡ Some permission
  shown-at n i permission at =
      ap (option_map (λ (p : Page). p.permission))
      (page-some m n i at.page (ap (place_in m.table) (sym at.number) ∙ kept.entered i at.page at.there) at.there)
      ∙ ap Some at.permission

  -- once all frames are zero
  pub zeroed-map : IsMap (record { pool = zeroed m.pool; mapped = m.mapped; table = m.table; break_at = m.break_at; break_start = m.break_start }) capacity
  zeroed-map = repooled-map m capacity kept (zeroed m.pool) (AreHeld-zeroed m.pool (frames_of m.mapped) kept.held) (free_count-zeroed m.pool)

  pub zeroed-pages : (n : ℕ)
      → page_in (record { pool = zeroed m.pool; mapped = m.mapped; table = m.table; break_at = m.break_at; break_start = m.break_start }) n
      ≡ option_map zero_page (permission_in m n)
  zeroed-pages n = elim (place_or_none m capacity kept n (place_in m.table n) refl) [
    | inl none ↦
        page-none (record { pool = zeroed m.pool; mapped = m.mapped; table = m.table; break_at = m.break_at; break_start = m.break_start }) n none
        ∙ sym (ap (λ (o : Option Page). option_map zero_page (option_map (λ (p : Page). p.permission) o)) (page-none m n none))
    | inr some ↦
        page-some (record { pool = zeroed m.pool; mapped = m.mapped; table = m.table; break_at = m.break_at; break_start = m.break_start }) n some.0 some.2 some.1 some.3
        ∙ ap (λ b. let q : Option Page = Some (record { permission = some.2.permission; bytes = frame_bytes b }) in q)
        (zeroed-at m.pool some.2.frame (page-taken m capacity kept some.0 some.2 some.3))
        ∙ sym (ap (λ (o : Option Page). option_map zero_page (option_map (λ (p : Page). p.permission) o)) (page-some m n some.0 some.2 some.1 some.3))
  ]

  module _ (pages : List ImagePage) (laid : AreLaidOut pages m.mapped) where
    -- what stands at a place has the number that stands there
    number-of : (i number permission : ℕ) (p : MappedPage) → StandsWith m.mapped i number permission → slice_get m.mapped i ≡ Some p → p.number ≡ number
    number-of i number permission p at there = ap (λ (q : MappedPage). q.number) (one-page m.mapped i p at.page there at.there) ∙ at.number

    -- no page is mapped that the start doesn't map
    none-other : (n i : ℕ) (p : MappedPage) → (n < 0x3FFFF00) ⊎ (0x3FFFF40 ≤ n) → n ≢ 0x3FFFFF0 → page_of pages n ≡ None
        → slice_get m.mapped i ≡ Some p → p.number ≢ n
    none-other n i p out two none at same =
        let within : i < length m.mapped = slice_get_within m.mapped i p at in
        let count : length m.mapped ≡ length pages + 65 = omega (arith, laid.count) in
        elim (cases_lt i (length pages)) [
          | inl image ↦
              let given : ImagePage = record { number = 0; perm = 0; bytes = [] } in
              let there = slice_get-get_or pages i given image in
              let own = laid.image i _ there in
              page_of-missing pages n i _ none there (sym (number-of i _ _ p own at) ∙ same)
          | inr past ↦ elim (cases_eq i (length pages)) [
            | inl return ↦ two (sym same ∙ number-of i 0x3FFFFF0 5 p (subst (λ (j : ℕ). StandsWith m.mapped j 0x3FFFFF0 5) (sym return) laid.return) at)
            | inr behind ↦
                let few : length m.mapped - 1 - i < 64 = omega arith in
                let place : length m.mapped - 1 - (length m.mapped - 1 - i) ≡ i = omega arith in
                let number : p.number ≡ 0x3FFFF00 + (length m.mapped - 1 - i) =
                number-of i (0x3FFFF00 + (length m.mapped - 1 - i)) 6 p
                (subst (λ (j : ℕ). StandsWith m.mapped j (0x3FFFF00 + (length m.mapped - 1 - i)) 6) place (laid.stack (length m.mapped - 1 - i) few)) at in
                elim out [
                  | inl low ↦ absurd (omega arith)
                  | inr high ↦ absurd (omega arith)
                ]
          ]
        ]

    permission-stack : (n : ℕ) → 0x3FFFF00 ≤ n → n < 0x3FFFF40 → permission_in m n ≡ permission_of (start_runs pages) n
    permission-stack n from to =
        let few : n - 0x3FFFF00 < 64 = omega arith in
        let same : 0x3FFFF00 + (n - 0x3FFFF00) ≡ n = omega arith in
        let run : is_in stack_run n ≡ true = stack-run n from to in
        shown-at n (length m.mapped - 1 - (n - 0x3FFFF00)) 6
        (subst (λ (j : ℕ). StandsWith m.mapped (length m.mapped - 1 - (n - 0x3FFFF00)) j 6) same (laid.stack (n - 0x3FFFF00) few))
        ∙ (rw run refl)

    permission-return : (n : ℕ) → n ≡ 0x3FFFFF0 → permission_in m n ≡ permission_of (start_runs pages) n
    permission-return n same =
        let run : is_in stack_run n ≡ false = not-stack n (inr (omega arith)) in
        let other : is_in return_run n ≡ true = return-run n ∙ eq-eqb 0x3FFFFF0 n (sym same) in
        shown-at n (length pages) 5 (subst (λ (j : ℕ). StandsWith m.mapped (length pages) j 5) (sym same) laid.return)
        ∙ (rw (run, other) refl)

    permission-page : (n : ℕ) → (n < 0x3FFFF00) ⊎ (0x3FFFF40 ≤ n) → n ≢ 0x3FFFFF0 → (o : Option ImagePage) → page_of pages n ≡ o
        → permission_in m n ≡ option_map (λ (p : Page). p.permission) (option_map mapped_page o)
    permission-page n out two (Some q) found =
        let at = page_of-place pages n q found in
        shown-at n at.0 q.perm (subst (λ (j : ℕ). StandsWith m.mapped at.0 j q.perm) at.2 (laid.image at.0 q at.1))
    permission-page n out two None none = elim (place_or_none m capacity kept n (place_in m.table n) refl) [
      | inl unplaced ↦ ap (option_map (λ (p : Page). p.permission)) (page-none m n unplaced)
      | inr some ↦ let there = kept.placed n some.0 some.1 in absurd (none-other n some.0 there.page out two none there.there there.number)
    ]

    permission-image : (n : ℕ) → (n < 0x3FFFF00) ⊎ (0x3FFFF40 ≤ n) → n ≢ 0x3FFFFF0 → permission_in m n ≡ permission_of (start_runs pages) n
    permission-image n out two =
        let run : is_in stack_run n ≡ false = not-stack n out in
        let other : is_in return_run n ≡ false = return-run n ∙ ne_eqb 0x3FFFFF0 n (λ e. two (sym e)) in
        permission-page n out two (page_of pages n) refl ∙ sym (image-permission pages n) ∙ (rw (run, other) refl)

    pub start-permission : (n : ℕ) → permission_in m n ≡ permission_of (start_runs pages) n
    start-permission n = elim (cases_lt n 0x3FFFF00) [
      | inl low ↦ permission-image n (inl low) (λ e. omega arith)
      | inr from ↦ elim (cases_lt n 0x3FFFF40) [
        | inl to ↦ permission-stack n from to
        | inr high ↦ elim (cases_eq n 0x3FFFFF0) [
          | inl same ↦ permission-return n same
          | inr two ↦ permission-image n (inr high) two
        ]
      ]
    ]

-- a page is written, of pages of which others were written before
pub written-over : (b : Bool) (x : Page) (o old : Option Page) → cond b (Some x) (option_or o old) ≡ option_or (cond b (Some x) o) old
written-over true x o old = refl
written-over false x o old = refl

left-over : (o : Option Page) (permission : Option ℕ) → permission ≡ option_map (λ (p : Page). p.permission) o → option_or o (option_map zero_page permission) ≡ o
left-over None permission is = ap (option_map zero_page) is
left-over (Some p) permission is = refl

-- pages that stand so, once all are zero and those of the image and the return page are written, are those of the start
module _ (pages : List ImagePage) (n : ℕ) (permission : Option ℕ) (bytes : List ℕ) (after : Option Page)
    (allowed : permission ≡ permission_of (start_runs pages) n) (below : All (λ (p : ImagePage). p.number < 33554432) pages)
    (written : after ≡ cond (nat_eq n 0x3FFFFF0) (Some (record { permission = 5; bytes = bytes })) (option_or (image_page pages n) (option_map zero_page permission)))
  where
    laid-stack : 0x3FFFF00 ≤ n → n < 0x3FFFF40
        → after ≡ cond (is_in stack_run n) (Some stack_page) (cond (nat_eq n 0x3FFFFF0) (Some (record { permission = 5; bytes = bytes })) (image_page pages n))
    laid-stack from to =
        let run : is_in stack_run n ≡ true = stack-run n from to in
        let six : permission ≡ Some 6 = allowed ∙ (rw run refl) in
        let none : image_page pages n ≡ None = ap (option_map mapped_page) (none-below pages n below (omega arith)) in
        let zero_one : option_or (image_page pages n) (option_map zero_page permission) ≡ Some stack_page =
        ap (λ (o : Option Page). option_or o (option_map zero_page permission)) none ∙ ap (option_map zero_page) six in
        written ∙ (rw (not-return n run, run) zero_one)

    laid-return : n ≡ 0x3FFFFF0
        → after ≡ cond (is_in stack_run n) (Some stack_page) (cond (nat_eq n 0x3FFFFF0) (Some (record { permission = 5; bytes = bytes })) (image_page pages n))
    laid-return same =
        let run : is_in stack_run n ≡ false = not-stack n (inr (omega arith)) in
        written ∙ (rw (run, eq-eqb n 0x3FFFFF0 same) refl)

    laid-image : (n < 0x3FFFF00) ⊎ (0x3FFFF40 ≤ n) → n ≢ 0x3FFFFF0
        → after ≡ cond (is_in stack_run n) (Some stack_page) (cond (nat_eq n 0x3FFFFF0) (Some (record { permission = 5; bytes = bytes })) (image_page pages n))
    laid-image out two =
        let run : is_in stack_run n ≡ false = not-stack n out in
        let other : is_in return_run n ≡ false = return-run n ∙ ne_eqb 0x3FFFFF0 n (λ e. two (sym e)) in
        let given : permission ≡ option_map (λ (p : Page). p.permission) (image_page pages n) = allowed ∙ (rw (run, other) (image-permission pages n)) in
        written ∙ (rw (run, ne_eqb n 0x3FFFFF0 two) (left-over (image_page pages n) permission given))

    laid-after : after ≡ cond (is_in stack_run n) (Some stack_page) (cond (nat_eq n 0x3FFFFF0) (Some (record { permission = 5; bytes = bytes })) (image_page pages n))
    laid-after = by-place n laid-image laid-stack laid-return

    pub refilled : IfSome (image_page pages n) (λ p. (k : ℕ) → slice_index p.bytes k < 256) → ((k : ℕ) → slice_index bytes k ≡ return_byte k)
        → ((k : ℕ) → slice_index bytes k < 256) → IsStartPage pages n after
    refilled small return_bytes return_small =
        start-page pages n (image_page pages n) (cond (nat_eq n 0x3FFFFF0) (Some (record { permission = 5; bytes = bytes })) (image_page pages n)) after bytes
        refl small refl laid-after return_bytes return_small
