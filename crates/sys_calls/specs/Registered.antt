-- The registered areas in the kernel's tables.
use Rattle.std.specs.Prelude.{ℕ, ◌+◌, ◌%◌, ◌^◌, List, map, Option, Result}
use Rattle.mach_types.specs.Kernel.Areas.{registration, unregistration}
use Rattle.mach_types.specs.Registers.{register}
use Rattle.mach_types.specs.declared.errors.Errno.{Errno}
use Rattle.mach_types.specs.declared.sequences.Area.{Area}
use Rattle.mach_types.specs.declared.threads.Saved.{Saved}
use Rattle.block_model.specs.Tables.{AreOfLive}
use Rattle.sys_calls.specs.declared.rseq_areas.RegisteredArea.{RegisteredArea}
use Rattle.sys_calls.specs.declared.kernel.Kernel.{Kernel}

-- each area with the number of its thread
abbrev pub areas_by_number : List RegisteredArea → List (ℕ × Area)
areas_by_number registered = map (λ entry. (entry.tid.0, entry.area)) registered

-- each area in the tables is that of a live thread, and a thread has at most one
abbrev pub HoldAreas : Kernel → Type 0
HoldAreas k = AreOfLive k.threads.threads (areas_by_number k.areas.items)

-- an argument of a call that is an `int`: the low 32 bits of its register
abbrev pub int_in : Saved → ℕ → ℕ
int_in saved k = register saved.file (10 + k) % 2 ^ 32

-- rseq(area, len, flags, sig) of a thread with these registers, where it has the area `old`: the area that it registers, or the
-- first refusal; and whether it unregisters it
abbrev pub area_asked : Saved → Option Area → Result Area Errno
area_asked saved old = registration old (register saved.file 10) (int_in saved 1) (int_in saved 2) (int_in saved 3)

abbrev pub unregistration_asked : Saved → Option Area → Result (Unit {0}) Errno
unregistration_asked saved old = unregistration old (register saved.file 10) (int_in saved 1) (int_in saved 2) (int_in saved 3)
