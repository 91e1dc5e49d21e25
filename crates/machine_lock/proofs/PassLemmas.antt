-- What a call knows of a pass when it begins, and owes of it when it ends.
use Rattle.std.proofs.Common.{◌≡◌, ℕ, ◌≤◌, Bool, true, false, List, [], ◌∷◌, length, sym, refl, ap, ◌∙◌, subst}
use Rattle.std.specs.Prelude.{Option, Some, None}
use Rattle.std.specs.Option.{unwrap_or, option_map}
use Rattle.atomic_table.specs.declared.shared.Seat.{Seat}
use Rattle.atomic_table.specs.Seated.{TableId}
use Rattle.machine_lock.specs.declared.history.Origin.{Origin}
use Rattle.machine_lock.specs.declared.history.View.{View}
use Rattle.machine_lock.specs.declared.history.Stage.{Stage}
use Rattle.machine_lock.specs.declared.history.Stage.TheVariants.{Away, Waiting, Served}
use Rattle.machine_lock.specs.Numbers.{Owns}
use Rattle.machine_lock.specs.Passes.{TurnstileView, PassView, Holds, IsWhole, is_out, pass_view}

abbrev is_true : Bool → Type 0
is_true true = Unit {0}
is_true false = ⊥

module _ {M : Type 0} where
  stage_away : (st : Stage) (slots : List (ℕ × Option M)) → is_out st ≡ false → Holds st slots → (st ≡ Away) × (slots ≡ [])
  stage_away Away slots out holds = (refl, holds)
  stage_away (Waiting t) slots out holds = absurd holds
  stage_away (Served t) slots out holds = absurd (subst is_true out tt)

  stage_served : (st : Stage) (slots : List (ℕ × Option M)) → is_out st ≡ true → Holds st slots → (t : ℕ) × (st ≡ Served t) × (slots ≡ (0, None) ∷ [])
  stage_served Away slots out holds = absurd (subst is_true (sym out) tt)
  stage_served (Waiting t) slots out holds = absurd holds
  stage_served (Served t) slots out holds = (t, refl, holds)

  -- the pass is of the turnstile with this name and origin
  pub whose : (lock : TurnstileView M) (s : Seat (Option M) (View M)) (v : PassView M) → IsWhole s → pass_view s ≡ v → v.turnstile ≡ Some lock
      → (s.table_id ≡ lock.name) × (s.me.0.origin ≡ Some lock.origin)
  whose lock s v w is own =
      let f : Origin M → TurnstileView M = λ o. record { name = s.table_id; origin = o } in
      let all : Some (f w.origin) ≡ Some lock = ap (option_map f) (sym w.live) ∙ (ap (λ (p : PassView M). p.turnstile) is ∙ own) in
      let same : f w.origin ≡ lock = ap (λ (o : Option (TurnstileView M)). unwrap_or o lock) all in
      (ap (λ (t : TurnstileView M). t.name) same, w.live ∙ ap Some (ap (λ (t : TurnstileView M). t.origin) same))

  pub idle : (s : Seat (Option M) (View M)) (v : PassView M) → IsWhole s → pass_view s ≡ v → v.out ≡ false → (s.me.0.stage ≡ Away) × (s.me.1 ≡ [])
  idle s v w is out = stage_away s.me.0.stage s.me.1 (ap (λ (p : PassView M). p.out) is ∙ out) w.holds

  pub served : (s : Seat (Option M) (View M)) (v : PassView M) → IsWhole s → pass_view s ≡ v → v.out ≡ true → (t : ℕ) × (s.me.0.stage ≡ Served t) × (s.me.1 ≡ (0, None) ∷ [])
  served s v w is out = stage_served s.me.0.stage s.me.1 (ap (λ (p : PassView M). p.out) is ∙ out) w.holds

  pub whole_away : (s : Seat (Option M) (View M)) (k : Origin M) (v : View M) → s.me ≡ (v, []) → v.origin ≡ Some k → v.other ≡ v.seen → v.stage ≡ Away → 1 ≤ v.parts → Owns v.mine (length v.seen) → IsWhole s
  whole_away s k v is live looked away part owns = record {
    origin = k;
    live = ap (λ m. m.0.origin) is ∙ live;
    looked = ap (λ m. m.0.other) is ∙ (looked ∙ sym (ap (λ m. m.0.seen) is));
    holds = subst (λ (m : View M × List (ℕ × Option M)). Holds m.0.stage m.1) (sym is) (subst (λ (st : Stage). Holds {M = M} st []) (sym away) refl);
    sound = record {
      part = subst (λ (m : View M × List (ℕ × Option M)). 1 ≤ m.0.parts) (sym is) part;
      owns = subst (λ (m : View M × List (ℕ × Option M)). Owns m.0.mine (length m.0.seen)) (sym is) owns;
    };
  }

  pub whole_served : (s : Seat (Option M) (View M)) (k : Origin M) (v : View M) (t : ℕ) → s.me ≡ (v, (0, None) ∷ []) → v.origin ≡ Some k → v.other ≡ v.seen → v.stage ≡ Served t → 1 ≤ v.parts → Owns v.mine (length v.seen) → IsWhole s
  whole_served s k v t is live looked at part owns = record {
    origin = k;
    live = ap (λ m. m.0.origin) is ∙ live;
    looked = ap (λ m. m.0.other) is ∙ (looked ∙ sym (ap (λ m. m.0.seen) is));
    holds = subst (λ (m : View M × List (ℕ × Option M)). Holds m.0.stage m.1) (sym is) (subst (λ (st : Stage). Holds {M = M} st ((0, None) ∷ [])) (sym at) refl);
    sound = record {
      part = subst (λ (m : View M × List (ℕ × Option M)). 1 ≤ m.0.parts) (sym is) part;
      owns = subst (λ (m : View M × List (ℕ × Option M)). Owns m.0.mine (length m.0.seen)) (sym is) owns;
    };
  }

  -- a call that keeps the name and the origin of a pass keeps its turnstile
  pub turnstile_kept : (s s' : Seat (Option M) (View M)) (v : PassView M) → pass_view s ≡ v → s'.table_id ≡ s.table_id → s'.me.0.origin ≡ s.me.0.origin → (pass_view s').turnstile ≡ v.turnstile
  turnstile_kept s s' v is name origin =
      ap (λ (n : TableId). option_map (λ (k : Origin M). record { name = n; origin = k }) s'.me.0.origin) name
      ∙ (ap (option_map (λ (k : Origin M). record { name = s.table_id; origin = k })) origin ∙ ap (λ (p : PassView M). p.turnstile) is)

  -- a pass is seen as what its parts are seen as
  pub seen_as : (s : Seat (Option M) (View M)) (v : PassView M) → (pass_view s).turnstile ≡ v.turnstile → s.me.0.seen ≡ v.seen → s.me.0.mine ≡ v.mine → s.me.0.parts ≡ v.parts → is_out s.me.0.stage ≡ v.out → pass_view s ≡ v
  seen_as s v turnstile seen mine parts out = λ i. record { turnstile = turnstile i; seen = seen i; mine = mine i; parts = parts i; out = out i }
