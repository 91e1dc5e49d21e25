-- Parts that have done nothing yet.
use Rattle.process.proofs.Common.{◌≡◌, ℕ, nat_eq, zero, suc, ◌+◌, ◌/◌, ◌<◌, arith, List, [], ◌∷◌, length, map, refl, sym, ap, ◌∙◌, cond, Bool, true, false, Option, Some, None, is_some, slice_get, All, and_parts, same_Some, option_and_then, option_map, option_map_or, none_registered, can_read, can_write, is_in, permission_of, HartState, ImagePage, Parts, Saved, credit_of, hart_at, image_run, program_of, return_run, stack_run, start_file, start_runs, idle_hart, IsTable, saved_of, start_table, held_in, permission_in, areas_by_number, Setting, IsTied, start_signalling, start_byte, break_in, break_start_in, free_in, may_write, write_alone, first_kernel, plain_start}
use Rattle.std.proofs.lemmas.List.Elements.{All-map}
use Rattle.mach_types.specs.declared.limits.Limits.{Limits}
use Rattle.elf_load.specs.Images.{IsPermission}
use Rattle.elf_load.specs.declared.image.Image.{Image}
use Rattle.block_model.specs.Setting.{setting_of as setting_by}

-- where all elements are one, each place has that one
each : {X : Type 0} (x : X) (xs : List X) (i : ℕ) → All (λ y. y ≡ x) xs → i < length xs → slice_get xs i ≡ Some x
each x [] i all lt = absurd (omega arith)
each x (y ∷ ys) zero all lt = ap Some (all zero y (omega arith))
each x (y ∷ ys) (suc i) all lt = each x ys i (λ k d less. all (suc k) d (omega arith)) (omega arith)

-- harts of which each is idle
pub all_idle : (harts : List HartState) → All (λ hart. hart ≡ idle_hart) (map (λ _. idle_hart) harts)
all_idle harts = All-map (λ hart. hart ≡ idle_hart) (λ (_ : HartState). idle_hart) harts (λ k d lt. refl)

-- an idle hart is what the plain machine says at its start
idle : (s : Setting) (h : ℕ) → idle_hart ≡ hart_at s (plain_start s) h 0
idle s h = refl

alone_if : (b : Bool) (p : ℕ) (o : Option ℕ) → may_write (Some p) ≡ can_write (Some p) → may_write o ≡ can_write o → may_write (cond b (Some p) o) ≡ can_write (cond b (Some p) o)
alone_if true p o one other = one
alone_if false p o one other = other

-- whoever may write to a page may read it
image_alone : (pages : List ImagePage) (n : ℕ) → All (λ p. IsPermission p.perm) pages → may_write (permission_of (map image_run pages) n) ≡ can_write (permission_of (map image_run pages) n)
image_alone [] n allowed = refl
image_alone (p ∷ pages) n allowed =
    alone_if (is_in (image_run p) n) p.perm (permission_of (map image_run pages) n) (write_alone p.perm (allowed 0 p (omega arith)))
    (image_alone pages n (λ k d lt. allowed (suc k) d (omega arith)))

start_alone : (pages : List ImagePage) (n : ℕ) → All (λ p. IsPermission p.perm) pages → may_write (permission_of (start_runs pages) n) ≡ can_write (permission_of (start_runs pages) n)
start_alone pages n allowed =
    alone_if (is_in stack_run n) 6 (cond (is_in return_run n) (Some 5) (permission_of (map image_run pages) n)) refl
    (alone_if (is_in return_run n) 5 (permission_of (map image_run pages) n) refl (image_alone pages n allowed))

-- the thread at its start is all that is saved
saved_if : (b : Bool) (start x : Saved) → option_and_then (λ pair. pair.1) (cond b (let first : Option (ℕ × Option Saved) = Some (1, Some start) in first) None) ≡ Some x → x ≡ start
saved_if true start x is = sym (same_Some start x is)
saved_if false start x is = cc

-- a page that is mapped holds its byte
held_if : (b : ℕ) (o : Option ℕ) → cond (is_some o) (Some b) None ≡ option_map (λ _. b) o
held_if b None = refl
held_if b (Some permission) = refl

-- the parts at their start are tied to the plain machine at its start
pub tied-start : (image : Image) (limits : Limits) (m : Parts) → All (λ p. IsPermission p.perm) image.pages.items →
    ((n : ℕ) → permission_in m.pages n ≡ permission_of (start_runs image.pages.items) n) →
    ((a : ℕ) → held_in m.pages a ≡ cond (is_some (permission_of (start_runs image.pages.items) (a / 4096))) (Some (start_byte (program_of image) a)) None) →
    free_in m.pages + 65 + length image.pages.items ≡ limits.frames → break_in m.pages ≡ image.break_at → break_start_in m.pages ≡ image.break_at →
    length m.harts.items ≡ limits.harts → All (λ hart. hart ≡ idle_hart) m.harts.items →
    m.kernel.threads ≡ start_table (start_file (program_of image)) → m.kernel.signals ≡ start_signalling → m.kernel.ready ≡ (first_kernel (setting_by image limits)).scheduling → m.kernel.registered ≡ none_registered → m.kernel.console ≡ [] → m.kernel.random ≡ 0 → areas_by_number m.kernel.areas.items ≡ [] → IsTable m.kernel.threads → m.ended ≡ None →
    IsTied (setting_by image limits) (plain_start (setting_by image limits)) m
tied-start image limits m allowed permissions held free break_at break_start count idles threads signals ready registered console random areas table ended = record {
  all_harts = count;
  harts = λ h lt.
      let at = each idle_hart m.harts.items h idles (omega (arith, count)) in
      let none : credit_of m.harts.items h ≡ 0 = ap (λ o. option_map_or (λ (x : HartState). x.credit) o 0) at in
      at ∙ (ap Some (idle (setting_by image limits) h) ∙ ap (λ n. Some (hart_at (setting_by image limits) (plain_start (setting_by image limits)) h n)) (sym none));
  pages = record {
    permissions = permissions;
    held = λ a. held a ∙ held_if (start_byte (program_of image) a) (permission_of (start_runs image.pages.items) (a / 4096));
    free = omega (arith, free);
    break_at = break_at;
    break_start = break_start;
  };
  readable = λ n may.
      let o = permission_of (start_runs image.pages.items) n in
      let whole : may_write o ≡ true = start_alone image.pages.items n allowed ∙ sym (ap can_write (permissions n)) ∙ may in
      ap can_read (permissions n) ∙ (and_parts (can_read o) (can_write o) whole).0;
  tables = record {
    threads = ap (λ t. t.threads) threads;
    signals = signals;
    scheduling = ready;
    areas = areas;
    barriers = registered;
    console = console;
    random = random;
  };
  table = table;
  saved = λ u x is. saved_if (nat_eq 1 u) (start_file (program_of image)) x (ap (λ t. saved_of u t.saved) (sym threads) ∙ is);
  ended = ended;
}

-- no hart has a credit then
pub idle_credit : (harts : List HartState) (h : ℕ) → All (λ hart. hart ≡ idle_hart) harts → h < length harts → credit_of harts h ≡ 0
idle_credit harts h idles lt = ap (λ o. option_map_or (λ (x : HartState). x.credit) o 0) (each idle_hart harts h idles lt)
