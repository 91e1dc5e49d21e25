-- A thread at a place may call.
use Rattle.process.proofs.Common.{◌≡◌, ℕ, Some, ap, ◌∙◌, sym, Hart, IsPlace, Parts, Stand, here_at, running_on, runs, running_saves_nothing}
use Rattle.sys_calls.specs.Answered.{IsCaller}
use Rattle.process.proofs.Places.{runs_there}
use Rattle.process.proofs.SystemCalls.{signals_found, tables_found}

pub caller_at : (v : Stand) (m : Parts) (h : Hart) (t : ℕ) → IsPlace v m h.0 → runs (here_at v h.0) ≡ Some t → IsCaller m.kernel h.0 t
caller_at v m h t place at = record {
  tables = (v.setting.limits.harts, tables_found v m h.0 v.setting.limits.harts place (sym place.tied.all_harts));
  signals = signals_found v m h.0 place;
  runs = ap (running_on h.0) place.tied.tables.threads ∙ at;
  quiet = running_saves_nothing t h m.kernel.threads place.tied.table (runs_there v m h t place at);
}
