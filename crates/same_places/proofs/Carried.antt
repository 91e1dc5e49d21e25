-- What parts answered and became at one place carries over to each that is the same.
use Rattle.std.proofs.Common.{◌≡◌, ℕ, Option, Some, None, Result, Ok, IfOk, refl, sym, ap, ◌∙◌, subst, length, map, slice_get}
use Rattle.elf_load.specs.declared.image.ImagePage.{ImagePage}
use Rattle.mach_types.specs.declared.events.Choice.{Choice}
use Rattle.mach_types.specs.declared.events.Entry.{Entry}
use Rattle.mach_types.specs.declared.events.Why.{Why}
use Rattle.block_model.specs.Deciding.{entry_in}
use Rattle.block_model.specs.Events.{done_of, refusal_of}
use Rattle.block_model.specs.Plain.{Plain, apply, here_in_plain}
use Rattle.block_model.specs.Setting.{Setting, with_steps}
use Rattle.block_model.specs.Stands.{Stand, here_at}
use Rattle.process.specs.Refinement.{IsAfter, IsAlone, IsPlace, IsReadable, IsTied, answer_to, answered}
use Rattle.process.specs.Harts.{hart_at}
use Rattle.hart_state.specs.declared.hart.HartState.{HartState}
use Rattle.kernel_threads.specs.Table.{IsTable}
use Rattle.sys_calls.specs.Made.{AreSaved, HoldsPages}
use Rattle.sys_calls.specs.Tables.{HoldsTables}
use Rattle.sys_calls.specs.declared.kernel.Kernel.{Kernel}
use Rattle.std.specs.Option.{option_map, option_map_or}
use Rattle.std.proofs.lemmas.Option.{slice_get-map}
use Rattle.std.proofs.lemmas.List.{length-map}
use Rattle.process.specs.declared.parts.Parts.{Parts}
use Rattle.std.specs.Prelude.{List}
use Rattle.same_places.specs.Places.{IsCarried, alone, plain_after_choice, rested}
use Rattle.same_places.specs.Resting.{rested_hart}
use Rattle.same_places.proofs.Transfers.{place_same, same_tied}

-- what is answered to a choice that is allowed
pub free_answer : (e f : Entry) (o p : Option Why) → answered e o ≡ answered f p → o ≡ None → p ≡ None
free_answer e f None None same free = refl
free_answer e f None (Some why) same free = cc
free_answer e f (Some why) p same free = cc

ok_after : (e : Entry) (o : Option Why) (r : Result Entry Why) (Q : Entry → Type 0) → r ≡ answered e o → o ≡ None → IfOk r Q → Q e
ok_after e None r Q is free after = subst (λ (x : Result Entry Why). IfOk x Q) is after
ok_after e (Some why) r Q is free after = cc

-- what `Parts::make` promises
abbrev pub Answers : List ImagePage → Parts → ℕ → Choice → Result Entry Why → Type 0
Answers code m h c r = (v : Stand) → IsPlace v m h → IsAlone code v → r ≡ answer_to v h c

abbrev pub Becomes : List ImagePage → Parts → ℕ → Choice → Result Entry Why → Parts → Type 0
Becomes code m h c r m' = (v : Stand) → IsPlace v m h → IsAlone code v → IfOk r (λ e. IsAfter v h (done_of c (here_at v h)) m m')

pub carried : (code : List ImagePage) (m m' : Parts) (h : ℕ) (c : Choice) (r : Result Entry Why) → Answers code m h c r → Becomes code m h c r m'
    → (s : Setting) (p : Plain) → IsPlace (alone s (rested p)) m h → code ≡ s.program.pages → IsCarried s p h c
carried code m m' h c r answers becomes s p place pages =
    let its : IsAlone code (alone s (rested p)) = record { none = refl; pages = pages } in
    let own = answers (alone s (rested p)) place its in
    record {
      answer = λ n q stands room high same.
          let there = place_same s n p q m h same stands room high place in
          sym (answers (alone (with_steps n s) (rested q)) there (record { none = refl; pages = pages })) ∙ own;
      after = λ n q stands room high same free.
          let there = place_same s n p q m h same stands room high place in
          let second : IsAlone code (alone (with_steps n s) (rested q)) = record { none = refl; pages = pages } in
          let again = answers (alone (with_steps n s) (rested q)) there second in
          let may = free_answer (entry_in c (here_in_plain s p h)) (entry_in c (here_in_plain (with_steps n s) q h)) (refusal_of c (here_in_plain s p h)) (refusal_of c (here_in_plain (with_steps n s) q h))
          (sym own ∙ again) free in
          let one = ok_after (entry_in c (here_in_plain s p h)) (refusal_of c (here_in_plain s p h)) r
          (λ e. IsAfter (alone s (rested p)) h (done_of c (here_in_plain s p h)) m m') own free (becomes (alone s (rested p)) place its) in
          let other = ok_after (entry_in c (here_in_plain (with_steps n s) q h)) (refusal_of c (here_in_plain (with_steps n s) q h)) r
          (λ e. IsAfter (alone (with_steps n s) (rested q)) h (done_of c (here_in_plain (with_steps n s) q h)) m m') again may (becomes (alone (with_steps n s) (rested q)) there second) in
          let met = same_tied s n (apply h (done_of c (here_in_plain s p h)) (rested p)) (apply h (done_of c (here_in_plain (with_steps n s) q h)) (rested q)) m' one.tied other.tied in
          record {
            harts = met.harts;
            files = met.files;
            pages = record { permissions = met.pages.permissions; bytes = met.pages.bytes; free = met.pages.free; break_at = met.pages.break_at };
            tables = met.tables;
            over = met.over;
          };
    }

-- the harts once their counts were forgotten
rested_at : (xs ys : List HartState) (k : ℕ) → ys ≡ map rested_hart xs → slice_get ys k ≡ option_map rested_hart (slice_get xs k)
rested_at xs ys k is = ap (λ (zs : List HartState). slice_get zs k) is ∙ slice_get-map rested_hart xs k

credit_rested : (o : Option HartState) → option_map_or (λ (x : HartState). x.credit) (option_map rested_hart o) 0 ≡ option_map_or (λ (x : HartState). x.credit) o 0
credit_rested None = refl
credit_rested (Some x) = refl

pub tied_rested : (s : Setting) (p : Plain) (m m' : Parts) → m'.harts.items ≡ map rested_hart m.harts.items → m'.pages ≡ m.pages → m'.kernel ≡ m.kernel → m'.ended ≡ m.ended
    → IsTied s p m → IsTied s (rested p) m'
tied_rested s p m m' harts pages kernel ended tied = record {
  all_harts = ap (λ (xs : List HartState). length xs) harts ∙ length-map m.harts.items rested_hart ∙ tied.all_harts;
  harts = λ h lt.
      rested_at m.harts.items m'.harts.items h harts ∙ ap (option_map rested_hart) (tied.harts h lt)
      ∙ ap (λ credit. Some (hart_at s (rested p) h credit))
      (sym (ap (λ (o : Option HartState). option_map_or (λ (x : HartState). x.credit) o 0) (rested_at m.harts.items m'.harts.items h harts) ∙ credit_rested (slice_get m.harts.items h)));
  pages = subst (HoldsPages p.kernel.pages s.program.break_at p.byte) (sym pages) tied.pages;
  readable = subst IsReadable (sym pages) tied.readable;
  tables = subst (λ k. HoldsTables k p.kernel) (sym kernel) tied.tables;
  table = subst (λ (k : Kernel). IsTable k.threads) (sym kernel) tied.table;
  saved = subst (λ (k : Kernel). AreSaved p.file k.threads) (sym kernel) tied.saved;
  ended = ended ∙ tied.ended;
}

-- what the parts are tied to then
pub tied_after : (code : List ImagePage) (m m' m'' : Parts) (h : ℕ) (c : Choice) (e : Entry) → Becomes code m h c (Ok e) m'
    → m''.harts.items ≡ map rested_hart m'.harts.items → m''.pages ≡ m'.pages → m''.kernel ≡ m'.kernel → m''.ended ≡ m'.ended
    → (s : Setting) (p : Plain) → IsPlace (alone s (rested p)) m h → code ≡ s.program.pages → IsTied s (rested (plain_after_choice s p h c)) m''
tied_after code m m' m'' h c e becomes harts pages kernel ended s p place same =
    let after = becomes (alone s (rested p)) place (record { none = refl; pages = same }) in
    let t = tied_rested s (apply h (done_of c (here_in_plain s p h)) (rested p)) m' m'' harts pages kernel ended after.tied in
    record {
      all_harts = t.all_harts;
      harts = t.harts;
      pages = t.pages;
      readable = t.readable;
      tables = t.tables;
      table = t.table;
      saved = t.saved;
      ended = t.ended;
    }
