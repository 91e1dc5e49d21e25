-- The first page that is mapped.
use Rattle.std.proofs.Common.{◌≡◌, ℕ, ◌<◌, ◌≤◌, true, false, Option, Some, None, IfSome, is_some, refl, sym, ap, arith, inl, inr}
use Rattle.std.specs.Option.{option_map}
use Rattle.std.proofs.lemmas.Bool.{cases_lt, le-ltb}
use Rattle.mach_types.specs.Kernel.Pages.{first_page}
use Rattle.mach_types.proofs.Laws.{first_page-some}
unfoldable use Rattle.page_map.specs.Map.{page_in}
use Rattle.page_map.specs.Map.{Map, Page}
use Rattle.page_map.specs.declared.listing.TheConstants.{ALL_PAGES}
use Rattle.place_keys.specs.MappedPages.{is_page}

-- no page has a number past all
pub past_all : (m : Map) (n : ℕ) → ALL_PAGES ≤ n → page_in m n ≡ None
unfolding page_in
past_all m n past = rw (le-ltb n ALL_PAGES past) refl

pub page_within : (m : Map) (n : ℕ) → is_page m n ≡ true → n < ALL_PAGES
page_within m n mapped = elim (cases_lt n ALL_PAGES) [
  | inl lt ↦ lt
  | inr past ↦
      let none : is_page m n ≡ false = ap (λ (o : Option Page). is_some (option_map (λ (p : Page). p.permission) o)) (past_all m n past) in
      let no : ⊥ = cc in
      absurd no
]

-- what is known of the first page that is mapped
module _ (m : Map) (from count : ℕ) where
  pub found_from : (o : Option ℕ) → o ≡ first_page (is_page m) from count → IfSome o (λ n. from ≤ n)
  found_from None is = tt
  found_from (Some n) is = (first_page-some (is_page m) from count n (sym is)).low

  pub found_mapped : (o : Option ℕ) → o ≡ first_page (is_page m) from count → IfSome o (λ n. is_page m n ≡ true)
  found_mapped None is = tt
  found_mapped (Some n) is = (first_page-some (is_page m) from count n (sym is)).passes

  pub found_within : (o : Option ℕ) → o ≡ first_page (is_page m) from count → IfSome o (λ n. n < ALL_PAGES)
  found_within None is = tt
  found_within (Some n) is = page_within m n (first_page-some (is_page m) from count n (sym is)).passes
