-- The segment whose pages come first, among those looked at so far.
use Rattle.std.proofs.Common.{◌≡◌, ℕ, ◌+◌, ◌<◌, ◌≤◌, true, List, length, get_or, Option, Some, None, IfSome, IfNone, IsSomeAnd, Contains, inl, inr, sym, ap, subst, ◌∙◌, arith}
use Rattle.std.proofs.lemmas.Bool.{cases_lt}
use Rattle.std.proofs.lemmas.List.{get_or_default}
use Rattle.elf_load.specs.declared.program_headers.ProgramHeader.{ProgramHeader}
use Rattle.elf_load.specs.Fields.{first_page, has_pages}
use Rattle.elf_load.specs.Paging.{IsNext}

-- what was found among the first headers of the table
pub record IsChosen (headers : List ProgramHeader) (from count : ℕ) (found : Option ProgramHeader) : Type 0 where
  pub some : IfSome found (λ h. Contains headers h × (has_pages h ≡ true) × (from ≤ first_page h))
  pub best : (k : ℕ) (d : ProgramHeader) → k < count → has_pages (get_or headers k d) ≡ true → from ≤ first_page (get_or headers k d) → IsSomeAnd found (λ h. first_page h ≤ first_page (get_or headers k d))

pub chosen-none : (headers : List ProgramHeader) (from : ℕ) → IsChosen headers from 0 None
chosen-none headers from = record { some = tt; best = λ k d lt pages later. absurd (omega arith) }

-- a header at any default
same_header : (headers : List ProgramHeader) (i k : ℕ) (h d e : ProgramHeader) → i < length headers → h ≡ get_or headers i e → k ≡ i → h ≡ get_or headers k d
same_header headers i k h d e lt is same = is ∙ get_or_default headers i e d lt ∙ ap (λ (j : ℕ). get_or headers j d) (sym same)

chain_first : (found : Option ProgramHeader) (h g : ProgramHeader) → IfSome found (λ f. first_page h < first_page f) → IsSomeAnd found (λ f. first_page f ≤ first_page g) → first_page h ≤ first_page g
chain_first None h g sooner best = absurd best
chain_first (Some f) h g sooner best = omega arith

not_sooner : (found : Option ProgramHeader) (h : ProgramHeader) → (IfSome found (λ f. first_page h < first_page f) → ⊥) → IsSomeAnd found (λ f. first_page f ≤ first_page h)
not_sooner None h late = absurd (late tt)
not_sooner (Some f) h late = elim (cases_lt (first_page h) (first_page f)) [ inl lt ↦ absurd (late lt) | inr ge ↦ ge ]

-- the next header takes the place of what was found
pub chosen-taken : (headers : List ProgramHeader) (from i : ℕ) (found : Option ProgramHeader) (h e : ProgramHeader) → IsChosen headers from i found → i < length headers → h ≡ get_or headers i e
    → has_pages h ≡ true → from ≤ first_page h → IfSome found (λ f. first_page h < first_page f) → IsChosen headers from (i + 1) (Some h)
chosen-taken headers from i found h e chosen lt is pages later sooner = record {
  some = ((i, lt, get_or_default headers i h e lt ∙ sym is), pages, later);
  best = λ k d more k_pages k_later. elim (cases_lt k i) [
    | inl before ↦ chain_first found h (get_or headers k d) sooner (IsChosen.best chosen k d before k_pages k_later)
    | inr at ↦ let same : h ≡ get_or headers k d = same_header headers i k h d e lt is (omega arith) in omega (arith, ap first_page same)
  ];
}

-- what was found stays
pub chosen-kept : (headers : List ProgramHeader) (from i : ℕ) (found : Option ProgramHeader) (h e : ProgramHeader) → IsChosen headers from i found → i < length headers → h ≡ get_or headers i e
    → (has_pages h ≡ true → from ≤ first_page h → IfSome found (λ f. first_page h < first_page f) → ⊥) → IsChosen headers from (i + 1) found
chosen-kept headers from i found h e chosen lt is late = record {
  some = IsChosen.some chosen;
  best = λ k d more k_pages k_later. elim (cases_lt k i) [
    | inl before ↦ IsChosen.best chosen k d before k_pages k_later
    | inr at ↦
        let same : h ≡ get_or headers k d = same_header headers i k h d e lt is (omega arith) in
        let here : IsSomeAnd found (λ f. first_page f ≤ first_page h) = not_sooner found h (late (ap has_pages same ∙ k_pages) (omega (arith, ap first_page same))) in
        subst (λ (g : ProgramHeader). IsSomeAnd found (λ f. first_page f ≤ first_page g)) same here
  ];
}

-- what was found among all headers
pub chosen-next : (headers : List ProgramHeader) (from count : ℕ) (found : Option ProgramHeader) → IsChosen headers from count found → length headers ≤ count → IfSome found (IsNext headers from)
chosen-next headers from count None chosen all = tt
chosen-next headers from count (Some h) chosen all = record {
  listed = (IsChosen.some chosen).0;
  nonempty = (IsChosen.some chosen).1;
  later = (IsChosen.some chosen).2;
  first = λ k d lt pages later. IsChosen.best chosen k d (omega arith) pages later;
}

pub chosen-last : (headers : List ProgramHeader) (from count : ℕ) (found : Option ProgramHeader) → IsChosen headers from count found → length headers ≤ count
    → IfNone found ((k : ℕ) (d : ProgramHeader) → k < length headers → has_pages (get_or headers k d) ≡ true → first_page (get_or headers k d) < from)
chosen-last headers from count None chosen all = λ k d lt pages. elim (cases_lt (first_page (get_or headers k d)) from) [
  | inl below ↦ below
  | inr later ↦ absurd (IsChosen.best chosen k d (omega arith) pages later)
]
chosen-last headers from count (Some h) chosen all = tt
