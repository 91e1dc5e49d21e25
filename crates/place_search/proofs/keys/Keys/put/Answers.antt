use Rattle.std.proofs.Common.{◌≡◌, ◌⊎◌, inl, inr, ℕ, List, [], ◌∷◌, Option, None, Some, Bool, true, false, cond, bytes_eq, refl, subst, sym, ap, ◌∙◌, Vec, Global}
use Rattle.std.specs.Map.{lookup}
use Rattle.std.proofs.lemmas.Slice.Eq.{bytes_eq-Decides}
use Rattle.place_search.proofs.Lists.{lookup_map}
use Rattle.place_search.proofs.keys.Keys.put.Goals as goal

abbrev bytes_of : Vec ℕ Global → List ℕ
bytes_of k = k.items

same_bool : (x y : Bool) → (x ≡ true → y ≡ true) → (y ≡ true → x ≡ true) → x ≡ y
same_bool true y there back = sym (there refl)
same_bool false true there back = back refl
same_bool false false there back = refl

bytes_swap : (a b : List ℕ) → bytes_eq a b ≡ bytes_eq b a
bytes_swap a b =
    same_bool (bytes_eq a b) (bytes_eq b a) (λ is. (bytes_eq-Decides b a).1 (sym ((bytes_eq-Decides a b).0 is))) (λ is. (bytes_eq-Decides a b).1 (sym ((bytes_eq-Decides b a).0 is)))

-- a key that is found is that of an entry
abbrev IsOfEntry : List ℕ → List (Vec ℕ Global × ℕ) → Type 0
IsOfEntry other es = (lookup (λ (v : Vec ℕ Global). bytes_eq other v.items) es ≡ None) ⊎ ((v : Vec ℕ Global) × (v.items ≡ other))

found_next : (other : List ℕ) (e : Vec ℕ Global × ℕ) (es : List (Vec ℕ Global × ℕ)) (b : Bool) → bytes_eq other e.0.items ≡ b → IsOfEntry other es → IsOfEntry other (e ∷ es)
found_next other e es true is rest = inr (e.0, sym ((bytes_eq-Decides other e.0.items).0 is))
found_next other e es false is (inl none) = inl (ap (λ (b : Bool). cond b (Some e.1) (lookup (λ (v : Vec ℕ Global). bytes_eq other v.items) es)) is ∙ none)
found_next other e es false is (inr x) = inr x

found_key : (other : List ℕ) (es : List (Vec ℕ Global × ℕ)) → IsOfEntry other es
found_key other [] = inl refl
found_key other (e ∷ es) = found_next other e es (bytes_eq other e.0.items) refl (found_key other es)

module _ (old new : List (Vec ℕ Global × ℕ)) (key : Vec ℕ Global) (place : ℕ)
    (updates : (q : Vec ℕ Global) → lookup (λ (v : Vec ℕ Global). bytes_eq q.items v.items) new ≡ cond (bytes_eq key.items q.items) (Some place) (lookup (λ (v : Vec ℕ Global). bytes_eq q.items v.items) old)) where
  at_vec : (other : List ℕ) (q : Vec ℕ Global) → q.items ≡ other
      → lookup (λ (v : Vec ℕ Global). bytes_eq other v.items) new ≡ cond (bytes_eq key.items other) (Some place) (lookup (λ (v : Vec ℕ Global). bytes_eq other v.items) old)
  at_vec other q is =
      subst (λ (o : List ℕ). lookup (λ (v : Vec ℕ Global). bytes_eq o v.items) new ≡ cond (bytes_eq key.items o) (Some place) (lookup (λ (v : Vec ℕ Global). bytes_eq o v.items) old)) is (updates q)

  at_bytes : (other : List ℕ) (b : Bool) → bytes_eq key.items other ≡ b
      → lookup (λ (v : Vec ℕ Global). bytes_eq other v.items) new ≡ cond (bytes_eq key.items other) (Some place) (lookup (λ (v : Vec ℕ Global). bytes_eq other v.items) old)
  at_bytes other true is = at_vec other key ((bytes_eq-Decides key.items other).0 is)
  at_bytes other false is =
      elim (found_key other new) [
        | inr x ↦ at_vec other x.0 x.1
        | inl none ↦ elim (found_key other old) [
          | inr x ↦ at_vec other x.0 x.1
          | inl also ↦ none ∙ sym (ap (λ (b : Bool). cond b (Some place) (lookup (λ (v : Vec ℕ Global). bytes_eq other v.items) old)) is ∙ also)
        ]
      ]

pub returns-clause-ok : goal.returns-clause-ok
returns-clause-ok c = λ other.
    let old = c.self.inside.known.entries in
    let new = c.insert.new.self.entries in
    let key = c.in_ok-key.key in
    let before : lookup (λ (v : Vec ℕ Global). bytes_eq other v.items) old ≡ lookup (bytes_eq other) c.args.self.now =
    sym (lookup_map bytes_of (bytes_eq other) old) ∙ ap (lookup (bytes_eq other)) c.self.view_is in
    lookup_map bytes_of (bytes_eq other) new ∙ at_bytes old new key c.args.place (λ q. c.in_ok-_before.ensures.updates.0 q) other (bytes_eq key.items other) refl
    ∙ ap (λ (o : Option ℕ). cond (bytes_eq key.items other) (Some c.args.place) o) before
    ∙ ap (λ (b : Bool). cond b (Some c.args.place) (lookup (bytes_eq other) c.args.self.now)) (bytes_swap key.items other ∙ ap (bytes_eq other) c.in_ok-key.ensures)
