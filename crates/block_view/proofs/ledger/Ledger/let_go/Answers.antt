use Rattle.std.proofs.Common.{◌≡◌, ℕ, List, [], ◌∷◌, length, sym, ◌∙◌, refl, rules, arith}
use Rattle.std.proofs.lemmas.Bool.{eqb-true}
use Rattle.block_view.specs.Following.IsLetGo.{Same, Gone}
use Rattle.block_view.specs.declared.ledger.Hanging.{Hanging}
use Rattle.block_view.proofs.ledger.Ledger.let_go.Goals as goal

none_listed : (xs : List Hanging) → length xs ≡ 0 → xs ≡ []
none_listed [] none = refl
none_listed (x ∷ xs) none = absurd (omega (arith, none))

pub returns-then-none_goes_on : goal.returns-then-none_goes_on
returns-then-none_goes_on c =
    let zero = eqb-true _ 0 (sym c.is_empty.ensures ∙ c.if-is_empty.true) in
    let none : length c.args.self.now.hanging.items ≡ 0 = first_of (search rules, omega (arith, zero)) in
    Gone
    (record { going = sym c.none_goes_on.ensures ∙ c.if-none_goes_on.true; hanging = none_listed c.args.self.now.hanging.items none })
    (search rules)

pub returns-else-is_empty : goal.returns-else-is_empty
returns-else-is_empty c = Same refl
