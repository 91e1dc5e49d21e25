-- What each page map keeps, page by page.
use Rattle.std.proofs.Common.{◌≡◌, ◌<◌, ◌≤◌, ℕ, Bool, true, false, arith, subst, Option, Some, None, inl, inr, refl, sym, ap, ◌∙◌}
use Rattle.std.specs.Option.{option_map}
use Rattle.mach_types.specs.Kernel.Pages.{can_execute, can_read, can_write, pages_of}
use Rattle.elf_load.specs.Images.{IsPermission}
use Rattle.page_map.specs.Map.{Map, Page, page_in, permission_in}
use Rattle.page_map.specs.Mapping.{CanLie, IsGap, IsMap}
use Rattle.page_map.specs.declared.mapped_page.MappedPage.{MappedPage}
use Rattle.std.proofs.lemmas.Bool.{cases_lt}
use Rattle.page_map.specs.Table.{place_in}
use Rattle.page_map.proofs.Maps.{all-of, page-lies, page-none, page-permission, page-some, place_or_none}

readable : (p : ℕ) → IsPermission p → can_write (Some p) ≡ true → (can_read (Some p) ≡ true) × (can_execute (Some p) ≡ false)
readable p (inl e) w = let none : can_write (Some p) ≡ false = ap (λ q. can_write (Some q)) e in absurd (cc)
readable p (inr (inl e)) w = let none : can_write (Some p) ≡ false = ap (λ q. can_write (Some q)) e in absurd (cc)
readable p (inr (inr (inl e))) w = let none : can_write (Some p) ≡ false = ap (λ q. can_write (Some q)) e in absurd (cc)
readable p (inr (inr (inr (inl e)))) w = let none : can_write (Some p) ≡ false = ap (λ q. can_write (Some q)) e in absurd (cc)
readable p (inr (inr (inr (inr e)))) w = (ap (λ q. can_read (Some q)) e, ap (λ q. can_execute (Some q)) e)

by_page : (o : Option ℕ) (p : ℕ) → o ≡ Some p → IsPermission p → can_write o ≡ true → (can_read o ≡ true) × (can_execute o ≡ false)
by_page o p is allowed w =
    let both = readable p allowed (ap can_write (sym is) ∙ w) in
    (ap can_read is ∙ both.0, ap can_execute is ∙ both.1)

by_none : (o : Option ℕ) → o ≡ None → can_write o ≡ true → (can_read o ≡ true) × (can_execute o ≡ false)
by_none o is w = let none : can_write o ≡ false = ap can_write is in absurd (cc)

-- a page that can be written can be read and can't be executed
pub writable-kept : (m : Map) (capacity : ℕ) → IsMap m capacity → (n : ℕ) → can_write (permission_in m n) ≡ true
    → (can_read (permission_in m n) ≡ true) × (can_execute (permission_in m n) ≡ false)
writable-kept m capacity kept n w = elim (place_or_none m capacity kept n (place_in m.table n) refl) [
  | inl none ↦ by_none (permission_in m n) (ap (option_map (λ (p : Page). p.permission)) (page-none m n none)) w
  | inr some ↦
      by_page (permission_in m n) some.2.permission (ap (option_map (λ (p : Page). p.permission)) (page-some m n some.0 some.2 some.1 some.3))
      (page-permission m capacity kept some.0 some.2 some.3) w
]

-- no page lies in the gap
pub gap-kept : (m : Map) (capacity : ℕ) → IsMap m capacity → (n : ℕ) → IsGap n → permission_in m n ≡ None
gap-kept m capacity kept n between = elim (place_or_none m capacity kept n (place_in m.table n) refl) [
  | inl none ↦ ap (option_map (λ (p : Page). p.permission)) (page-none m n none)
  | inr some ↦
      let there = kept.placed n some.0 some.1 in
      let lies = page-lies m capacity kept some.0 there.page there.there in
      absurd (lies.gap (subst IsGap (sym there.number) between))
]

-- no page lies between the break and the mappings
pub break-kept : (m : Map) (capacity : ℕ) → IsMap m capacity → (n : ℕ) → pages_of m.break_at ≤ n → n < 33554432 → page_in m n ≡ None
break-kept m capacity kept n past below = elim (place_or_none m capacity kept n (place_in m.table n) refl) [
  | inl none ↦ page-none m n none
  | inr some ↦
      let there = kept.placed n some.0 some.1 in
      let lies = page-lies m capacity kept some.0 there.page there.there in
      let number : there.page.number ≡ n = there.number in
      let far : 33554432 ≤ there.page.number = lies.past_break (omega arith) in
      absurd (omega arith)
]

can't : (b : Bool) → (b ≡ true → ⊥) → b ≡ false
can't false never = refl
can't true never = absurd (never refl)

-- and none there, from the lowest break on, can be executed
pub data-kept : (m : Map) (capacity : ℕ) → IsMap m capacity → (n : ℕ) → pages_of m.break_start ≤ n → n < 33554432
    → can_execute (permission_in m n) ≡ false
data-kept m capacity kept n past below = elim (place_or_none m capacity kept n (place_in m.table n) refl) [
  | inl none ↦ ap (λ o. can_execute (option_map (λ (p : Page). p.permission) o)) (page-none m n none)
  | inr some ↦
      let there = kept.placed n some.0 some.1 in
      let lies = page-lies m capacity kept some.0 there.page there.there in
      let number : there.page.number ≡ n = there.number in
      ap (λ o. can_execute (option_map (λ (p : Page). p.permission) o)) (page-some m n some.0 there.page some.1 there.there)
      ∙ can't (can_execute (Some there.page.permission)) (λ runs. let far : 33554432 ≤ there.page.number = lies.code runs (omega arith) in omega arith)
]

-- the break moves where no page is between it and the mappings
pub moved-break : (m : Map) (capacity : ℕ) → IsMap m capacity → (at : ℕ) → m.break_start ≤ at → at ≤ 137438953472
    → ((n : ℕ) → pages_of at ≤ n → n < 33554432 → page_in m n ≡ None) → IsMap (record m { break_at = at }) capacity
moved-break m capacity kept at from to none = record {
  held = kept.held;
  placed = kept.placed;
  entered = kept.entered;
  permissions = kept.permissions;
  room = kept.room;
  numbers = kept.numbers;
  lie = all-of (λ (p : MappedPage). CanLie m.break_start at p.number p.permission) m.mapped (λ i p there.
      let lies = page-lies m capacity kept i p there in
      record {
        inside = lies.inside;
        gap = lies.gap;
        past_break = λ past. elim (cases_lt p.number 33554432) [
          | inl below ↦
              let missing : page_in m p.number ≡ None = none p.number past below in
              let mapped = page-some m p.number i p (kept.entered i p there) there in
              cc
          | inr far ↦ far
        ];
        code = lies.code;
      });
  break_from = from;
  break_to = to;
}
