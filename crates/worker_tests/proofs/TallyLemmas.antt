-- What an attempt to go on adds to a log.
use Rattle.std.proofs.Common.{◌≡◌, ℕ, ◌≤◌, Bool, List, [], ◌∷◌, length, length-append, get_or, sym, ap, ◌∙◌, subst, arith, zero, suc}
use Rattle.std.specs.Prelude.{Option, Some}
use Rattle.mach_types.specs.declared.events.Advance.{Advance}
use Rattle.mach_types.specs.declared.events.Advance.TheVariants.{Made, NoneNow, Ended}
use Rattle.mach_types.specs.declared.events.Entry.{Entry}
use Rattle.mach_types.specs.declared.events.Hart.{Hart}
use Rattle.machine_lock.specs.Logs.{Adds, Advances}
use Rattle.machine_lock.proofs.Laws.{adds_none}

own_one : (e : Entry) (hart : Hart) → e.hart ≡ hart → (k : ℕ) (d : Entry) → suc k ≤ 1 → (get_or (e ∷ []) k d).hart ≡ hart
own_one e hart is zero d less = is
own_one e hart is (suc k) d less = absurd (omega arith)

-- how many entries an attempt adds
abbrev count_of : Advance → ℕ
count_of (Made e) = 1
count_of other = 0

module _ (next : List Entry → Hart → Option Entry) (ended : List Entry → Bool) (hart : Hart) (old new : List Entry) where
  adds : (came_to : Advance) → Advances next ended hart old new came_to → Adds next hart (count_of came_to) old new
  adds (Made e) a = record {
    follows = record { rest = e ∷ []; whole = sym a.3; legal = (subst (λ (h : Hart). next old h ≡ Some e) (sym a.1) a.2, tt) };
    counted = sym (length-append old (e ∷ [])) ∙ ap length (sym a.3);
    own = own_one e hart a.1;
  }
  adds NoneNow a = subst (Adds next hart 0 old) (sym a.2) (adds_none next hart old)
  adds Ended a = subst (Adds next hart 0 old) (sym a.1) (adds_none next hart old)

  pub adds_as : (result came_to : Advance) → result ≡ came_to → Advances next ended hart old new result → Adds next hart (count_of came_to) old new
  adds_as result came_to is a = adds came_to (subst (Advances next ended hart old new) is a)
