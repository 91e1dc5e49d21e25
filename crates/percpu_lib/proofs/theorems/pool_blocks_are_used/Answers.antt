use Rattle.std.proofs.Common.{◌≡◌, [], ◌∷◌, Some, take, eqb}
use Rattle.std.proofs.lemmas.Bool.{and_parts, eqb-true}
use Rattle.mach_types.specs.Registers.{register}
use Rattle.block_model.specs.History.{file}
use Rattle.percpu_lib.specs.Allocs.{alloc_form}
use Rattle.percpu_lib.specs.Frees.{free_form}
use Rattle.percpu_lib.specs.Pools.{count_seen, pool_at, slot_at}
use Rattle.percpu_lib.specs.Pushes.{word_seen}
use Rattle.percpu_lib.specs.Uses.{cells_of}
use Rattle.percpu_lib.proofs.ExampleParts.{is_shown, place_of, value_shown}
use Rattle.percpu_lib.proofs.FormTests.{alloc_tested, free_tested}
use Rattle.percpu_lib.proofs.PoolExample as example
use Rattle.percpu_lib.proofs.PoolExample.{alloc, free, full_setting, is_freed, log, setting}
use Rattle.percpu_lib.proofs.UseTests.{just_is}
use Rattle.percpu_lib.proofs.theorems.pool_blocks_are_used.Goals as goal

pub returns : goal.returns
returns c = record {
  free =
      is_shown free_form free_tested
      (λ s p q. word_seen s 0 (slot_at (pool_at (cells_of s p q.thread q.begun) 0) 0) q.reached ≡ Some 42) setting log
      51 free.form.slots free.at (place_of alloc ∷ []) is_freed example.free_used
      (λ q is. just_is (word_seen setting 0 (slot_at (pool_at (cells_of setting free.form.slots q.thread q.begun) 0) 0)
      q.reached) 42 is);
  alloc =
      value_shown alloc_form alloc_tested setting log 68 alloc.form.slots alloc.at (place_of free ∷ []) 42
      example.alloc_used;
  none =
      value_shown alloc_form alloc_tested setting log 81 alloc.form.slots alloc.at (place_of free ∷ []) 0
      example.none_used;
  full =
      let its = example.full_used in
      let q = its.sequence in
      let both = and_parts (eqb (register (file full_setting q.thread q.reached).file 18) 42) _ its.passes in (
        full_setting,
        take 22 example.full_log,
        free.form.slots,
        free.at,
        free.area,
        place_of alloc ∷ [],
        q,
        its.used,
        eqb-true (register (file full_setting q.thread q.reached).file 18) 42 both.0,
        just_is (count_seen full_setting 0 (cells_of full_setting free.form.slots q.thread q.begun) q.reached) 512
            both.1,
      );
  retried = (
    example.setting,
    example.again.first_time,
    example.again.anew,
    example.again.rest,
    free.form.slots,
    free.at,
    free.area,
    1,
    example.used_again.used.run,
    example.used_again.used.holds,
    example.used_again.retried,
    example.small_value,
    example.at_label,
  );
}
