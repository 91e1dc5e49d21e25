-- A page gets another permission.
use Rattle.std.proofs.Common.{◌≡◌, ◌≢◌, ℕ, inl, inr, cond, List, [], ◌∷◌, zero, suc, false, Some, nat_eq, slice_get, slice_set, refl, sym, ap, ◌∙◌, subst, arith, eq-eqb}
use Rattle.std.specs.Option.{option_map}
use Rattle.std.proofs.lemmas.Bool.{cases_eq, ne_eqb}
use Rattle.std.proofs.lemmas.List.{length-set}
use Rattle.mach_types.specs.Kernel.Pages.{can_execute}
use Rattle.elf_load.specs.Images.{IsPermission}
use Rattle.frame_pool.specs.Held.{AreHeld}
use Rattle.frame_pool.proofs.Laws.{slice_get-set_other, slice_get-set_same}
use Rattle.page_map.specs.Map.{Map, page_in, protected_page}
use Rattle.page_map.specs.Mapping.{CanLie, IsMap, frames_of}
use Rattle.page_map.specs.Table.{place_in}
use Rattle.page_map.specs.declared.mapped_page.MappedPage.{MappedPage}
use Rattle.page_map.proofs.Maps.{all-of, one-page, page-lies, page-none, page-permission, page-some, place-own, place_or_none}

frames-same : (mapped : List MappedPage) (i : ℕ) (p q : MappedPage) → slice_get mapped i ≡ Some p → q.frame ≡ p.frame
    → frames_of (slice_set mapped i q) ≡ frames_of mapped
frames-same [] i p q there same = refl
frames-same (r ∷ mapped) zero p q there same =
    let is : r ≡ p = cc in
    ap (λ (f : ℕ). f ∷ frames_of mapped) (same ∙ ap (λ (x : MappedPage). x.frame) (sym is))
frames-same (r ∷ mapped) (suc i) p q there same = ap (λ (fs : List ℕ). r.frame ∷ fs) (frames-same mapped i p q there same)

module _ (m : Map) (capacity : ℕ) (kept : IsMap m capacity) (number i permission : ℕ) (p : MappedPage)
    (place : place_in m.table number ≡ Some i) (there : slice_get m.mapped i ≡ Some p) where
  abbrev changed : MappedPage
  changed = record p { permission = permission }

  abbrev after : Map
  after = record m { mapped = slice_set m.mapped i changed }

  at-place : slice_get (slice_set m.mapped i changed) i ≡ Some changed
  at-place = slice_get-set_same m.mapped i p changed there

  at-other : (k : ℕ) → k ≢ i → slice_get (slice_set m.mapped i changed) k ≡ slice_get m.mapped k
  at-other k two = slice_get-set_other m.mapped i k changed two

  p-number : p.number ≡ number
  p-number =
      let stands = kept.placed number i place in
      ap (λ (q : MappedPage). q.number) (one-page m.mapped i p stands.page there stands.there) ∙ stands.number

  protected-here : (n : ℕ) → n ≡ number → page_in after n ≡ option_map (protected_page permission) (page_in m n)
  protected-here n same =
      page-some after n i changed (ap (place_in m.table) same ∙ place) at-place
      ∙ ap (option_map (protected_page permission)) (sym (page-some m n i p (ap (place_in m.table) same ∙ place) there))

  protected-other : (n : ℕ) → n ≢ number → page_in after n ≡ page_in m n
  protected-other n two = elim (place_or_none m capacity kept n (place_in m.table n) refl) [
    | inl none ↦ page-none after n none ∙ sym (page-none m n none)
    | inr some ↦
        let other : some.0 ≢ i = λ e. two (place-own m capacity kept n number i (some.1 ∙ ap Some e) place) in
        page-some after n some.0 some.2 some.1 (at-other some.0 other ∙ some.3) ∙ sym (page-some m n some.0 some.2 some.1 some.3)
  ]

  pub protected-pages : (n : ℕ) → page_in after n ≡ cond (nat_eq n number) (option_map (protected_page permission) (page_in m n)) (page_in m n)
  protected-pages n = elim (cases_eq n number) [
    | inl same ↦ rw (eq-eqb n number same) (protected-here n same)
    | inr two ↦ rw (ne_eqb n number two) (protected-other n two)
  ]

  -- what holds of the changed page, and of each other one, holds of each
  each-page : (P : MappedPage → Type 0) → P changed → ((k : ℕ) (q : MappedPage) → slice_get m.mapped k ≡ Some q → P q)
      → (k : ℕ) (q : MappedPage) → slice_get (slice_set m.mapped i changed) k ≡ Some q → P q
  each-page P here others k q at = elim (cases_eq k i) [
    | inl same ↦ subst P (one-page (slice_set m.mapped i changed) k changed q (ap (slice_get (slice_set m.mapped i changed)) same ∙ at-place) at) here
    | inr two ↦ others k q (sym (at-other k two) ∙ at)
  ]

  pub protected-map : IsPermission permission → can_execute (Some permission) ≡ false → IsMap after capacity
  protected-map allowed no_code = record {
    held = subst (AreHeld m.pool) (sym (frames-same m.mapped i p changed there refl)) kept.held;
    placed = λ n k is. elim (cases_eq k i) [
      | inl same ↦
          let one : n ≡ number = place-own m capacity kept n number i (is ∙ ap Some same) place in
          record { page = changed; there = ap (slice_get (slice_set m.mapped i changed)) same ∙ at-place; number = p-number ∙ sym one }
      | inr two ↦
          let stands = kept.placed n k is in
          record { page = stands.page; there = at-other k two ∙ stands.there; number = stands.number }
    ];
    entered = λ k q at. elim (cases_eq k i) [
      | inl same ↦
          let is : changed ≡ q = one-page (slice_set m.mapped i changed) k changed q (ap (slice_get (slice_set m.mapped i changed)) same ∙ at-place) at in
          ap (λ (x : MappedPage). place_in m.table x.number) (sym is) ∙ ap (place_in m.table) p-number ∙ place ∙ ap Some (sym same)
      | inr two ↦ kept.entered k q (sym (at-other k two) ∙ at)
    ];
    permissions =
        all-of (λ (q : MappedPage). IsPermission q.permission) (slice_set m.mapped i changed)
        (each-page (λ (q : MappedPage). IsPermission q.permission) allowed (λ k q at. page-permission m capacity kept k q at));
    lie =
        all-of (λ (q : MappedPage). CanLie m.break_start m.break_at q.number q.permission) (slice_set m.mapped i changed)
        (each-page (λ (q : MappedPage). CanLie m.break_start m.break_at q.number q.permission)
        (let lies = page-lies m capacity kept i p there in record {
          inside = lies.inside;
          gap = lies.gap;
          past_break = lies.past_break;
          code = λ runs past. absurd (cc);
        })
        (λ k q at. page-lies m capacity kept k q at));
    break_from = kept.break_from;
    break_to = kept.break_to;
    room = let room = kept.room in let size = length-set m.mapped i changed in omega arith;
    numbers = let numbers = kept.numbers in let size = length-set m.mapped i changed in omega arith;
  }
