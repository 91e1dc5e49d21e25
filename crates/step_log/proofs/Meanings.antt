-- The meaning of a line, by its fields.
use Rattle.std.proofs.Common.{◌≡◌, ℕ, ◌<◌, List, [], ◌∷◌, length, ◌==◌, Option, Some, None, refl, arith, ap, sym, ◌∙◌, true}
use Rattle.std.specs.Option.{is_some, option_copied}
use Rattle.std.proofs.lemmas.List.Splits.{length-slice_split}
use denote.Ref.{Bor}
use Rattle.mach_types.specs.declared.events.Hart.{Hart}
use Rattle.mach_types.specs.declared.events.Kind.{Kind}
use Rattle.step_log.specs.Parts.{long_meaning, fields_left}
use Rattle.step_log.specs.Script.{fields_of, hart_read, kind_read, meaning_of_fields, line_meaning}
use Rattle.step_log.specs.Text.{space}

pub some_field : (text : List ℕ) → 0 < length (fields_of text)
some_field text = omega (arith, length-slice_split (λ b. b == space) text)

-- a fifth field is one too many
pub long-more : (hart : Hart) (kind : Kind) (t p : List ℕ) (fs : List (List ℕ)) → 0 < length fs → long_meaning hart kind (t ∷ p ∷ fs) ≡ None
long-more hart kind t p [] h = absurd (omega arith)
long-more hart kind t p (f ∷ fs) h = refl

pub meaning-long : (h k : List ℕ) (fs : List (List ℕ)) (hart : Hart) (kind : Kind) → 0 < length fs → hart_read h ≡ Some hart → kind_read k ≡ Some kind
    → meaning_of_fields (h ∷ k ∷ fs) ≡ long_meaning hart kind fs
meaning-long h k [] hart kind some eh ek = absurd (omega arith)
meaning-long h k (t ∷ []) hart kind some eh ek = rw (eh, ek) refl
meaning-long h k (t ∷ p ∷ []) hart kind some eh ek = rw (eh, ek) refl
meaning-long h k (t ∷ p ∷ q ∷ fs) hart kind some eh ek = refl

-- the fields of a text whose first field is known
pub fields-two : (text first rest : List ℕ) (o : Option (List ℕ)) → fields_of text ≡ first ∷ fields_left o → o ≡ Some rest → fields_of text ≡ first ∷ fields_of rest
fields-two text first rest o e is = e ∙ ap (λ (p : Option (List ℕ)). first ∷ fields_left p) is

-- a pc that is followed by a space
pub long_past : (hart : Hart) (kind : Kind) (text t rest p : List ℕ) (o more : Option (List ℕ)) → fields_of text ≡ t ∷ fields_left o → o ≡ Some rest
    → fields_of rest ≡ p ∷ fields_left more → is_some more ≡ true → long_meaning hart kind (fields_of text) ≡ None
long_past hart kind text t rest p o None e is e2 h = cc
long_past hart kind text t rest p o (Some m) e is e2 h =
    ap (long_meaning hart kind) (fields-two text t rest o e is ∙ ap (λ (fs : List (List ℕ)). t ∷ fs) e2)
    ∙ long-more hart kind t p (fields_of m) (some_field m)

-- a line that goes on behind its kind
pub meaning_past : (text h rest k rest' : List ℕ) (o o' : Option (List ℕ)) (hart : Hart) (kind : Kind) → fields_of text ≡ h ∷ fields_left o → o ≡ Some rest
    → fields_of rest ≡ k ∷ fields_left o' → o' ≡ Some rest' → hart_read h ≡ Some hart → kind_read k ≡ Some kind
    → long_meaning hart kind (fields_of rest') ≡ line_meaning text
meaning_past text h rest k rest' o o' hart kind e is e' is' eh ek =
    sym (ap meaning_of_fields (fields-two text h rest o e is ∙ ap (λ (fs : List (List ℕ)). h ∷ fs) (fields-two rest k rest' o' e' is'))
    ∙ meaning-long h k (fields_of rest') hart kind (some_field rest') eh ek)

pub is_some-copied : (o : Option (Bor (List ℕ))) → is_some (option_copied o) ≡ is_some o
is_some-copied None = refl
is_some-copied (Some x) = refl
