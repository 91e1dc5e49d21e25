-- What an event leads to, said of one log and of all.
use Rattle.std.proofs.Common.{◌≡◌, ℕ, zero, suc, ◌<◌, Bool, List, [], ◌∷◌, length, get_or, Contains, refl, sym, subst, arith}
use Rattle.mach_types.specs.declared.events.Choice.{Choice}
use Rattle.mach_types.specs.declared.events.Entry.{Entry}
use Rattle.block_model.specs.Setting.{Setting}
use Rattle.search_reductions.specs.declared.signals.Signals.{Signals}
use Rattle.settled_places.specs.Edges.{LeadsTo}
use Rattle.settled_places.specs.SettledSearch.{LeadsToStored}

pub itself : (log : List Entry) → Contains (log ∷ []) log
itself log = (0, omega arith, refl)

only_at : (log l : List Entry) (k : ℕ) → k < length (log ∷ []) → get_or (log ∷ []) k l ≡ l → l ≡ log
only_at log l zero lt at = sym at
only_at log l (suc k) lt at = absurd (omega arith)

pub only : (log l : List Entry) → Contains (log ∷ []) l → l ≡ log
only log l has = only_at log l has.0 has.1 has.2

-- what leads to one of the logs that are stored leads to them
pub leads_stored : (s : Setting) (signals : Signals) (threads : ℕ → Bool) (private : ℕ → ℕ → Bool) (logs : List (List Entry)) (log other : List Entry) (h : ℕ) (c : Choice) → Contains logs other
    → LeadsTo s signals threads private log other h c → LeadsToStored s signals threads private logs log h c
leads_stored s signals threads private logs log other h c has x = record {
  entry = x.entry;
  hart = x.hart;
  choice = x.choice;
  next = x.next;
  settles = record {
    more = x.settles.more;
    steps = x.settles.steps;
    other = x.settles.other;
    stored = subst (Contains logs) (sym (only other x.settles.other x.settles.stored)) has;
    same = x.settles.same;
    owed = x.settles.owed;
  };
}
