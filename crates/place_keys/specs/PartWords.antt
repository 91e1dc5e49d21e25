-- All parts of a process as one list of words, its pages by what differs from a page map that is taken as the
-- start. Counts of events and instructions, credits, and which frames hold the pages are left out (own).
use Rattle.std.specs.Prelude.{ℕ, List, ◌++◌}
use Rattle.page_map.specs.Map.{Map}
use Rattle.sys_calls.specs.declared.kernel.Kernel.{Kernel}
use Rattle.sys_calls.specs.Registered.{areas_by_number}
use Rattle.process.specs.declared.parts.Parts.{Parts}
use Rattle.place_keys.specs.HartWords.{hart_words}
use Rattle.place_keys.specs.PageWords.{pages_words}
use Rattle.place_keys.specs.TableWords.{area_words, end_words, ready_words, registered_words, signals_words, threads_words}
use Rattle.place_keys.specs.Words.{of_list, of_option, word}

abbrev pub kernel_words : Kernel → List ℕ
kernel_words k =
    threads_words k.threads ++ (signals_words k.signals ++ (ready_words k.ready
    ++ (of_list area_words (areas_by_number k.areas.items) ++ (registered_words k.registered
    ++ (of_list word k.console ++ word k.random)))))

abbrev pub parts_words : Map → Parts → List ℕ
parts_words start m =
    of_list hart_words m.harts.items ++ (pages_words start m.pages ++ (kernel_words m.kernel
    ++ of_option end_words m.ended))
