use Rattle.std.proofs.Common.{◌≡◌, ◌∙◌, ℕ, List, Option, Some, None, ap, sym, refl}
use Rattle.std.specs.Option.{option_map}
use Rattle.page_map.specs.Map.{Page, page_in}
use Rattle.place_keys.specs.PageWords.{page_word}
use Rattle.place_keys.proofs.MemoryWords.{start_nowhere, start_there}
use Rattle.place_keys.proofs.pages.start_bytes.Goals as goal

-- the page of these bytes
record HasBytes (o : Option Page) (bytes : List ℕ) : Type 0 where
  page : Page
  is : o ≡ Some page
  bytes_are : page.bytes ≡ bytes

has_bytes : (o : Option Page) (bytes : List ℕ) → option_map (λ (p : Page). p.bytes) o ≡ Some bytes → HasBytes o bytes
has_bytes None bytes e = cc
has_bytes (Some p) bytes e = record { page = p; is = refl; bytes_are = cc }

no_page : (o : Option Page) → None ≡ option_map (λ (p : Page). p.bytes) o → o ≡ None
no_page None e = refl
no_page (Some p) e = cc

pub returns-in-Some-clause-words : goal.returns-in-Some-clause-words
returns-in-Some-clause-words c = λ k lt.
    let has = has_bytes (page_in c.args.start.now c.args.number) c.in-Some.bytes.now (sym c.in-Some.ensures.bytes) in
    start_there c.args.start.now c.args.number k lt has.page has.is ∙ ap (λ (bytes : List ℕ). page_word bytes k) has.bytes_are

pub returns-in-None-clause-words : goal.returns-in-None-clause-words
returns-in-None-clause-words c = λ k lt.
    start_nowhere c.args.start.now c.args.number k lt (no_page (page_in c.args.start.now c.args.number) c.in-None.ensures.bytes)
    ∙ ap (λ (bytes : List ℕ). page_word bytes k) (sym c.no_bytes.ensures)
