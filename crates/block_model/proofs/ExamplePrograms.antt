-- Programs, lines of scripts and entries of logs that the worked examples share.
use Rattle.block_model.proofs.Common.{ℕ, List, [], ◌∷◌, ◌++◌, replicate, None, Result, Ok, Err, Ask, Choice, End, Entry, Kind, Setting, end_of, history}
use Rattle.block_model.specs.History.{console}

-- a program of two segments, its code at 0x100B0, and a page at 0x20000 that is read and written and begins with these bytes
abbrev pub code_and_page : List ℕ → List ℕ → Setting
code_and_page code bytes = record {
  program = record {
    pages = record { number = 0x10; perm = 5; bytes = replicate 0xB0 0 ++ code } ∷ record { number = 0x20; perm = 6; bytes = bytes } ∷ [];
    entry = 0x100B0;
    phdr = 0x10040;
    phnum = 2;
    break_at = 0x21000;
  };
  limits = record { harts = 2; frames = 4096; steps = 200000 };
}

abbrev pub code_and_data : List ℕ → Setting
code_and_data code = code_and_page code []

-- the same on a machine of so many frames
abbrev pub within_frames : ℕ → Setting → Setting
within_frames frames s = record s { limits = record { harts = 2; frames = frames; steps = 200000 } }

-- a line of a hart, and of hart 0
abbrev pub line_of : ℕ → Choice → Ask
line_of h choice = record { hart = record { 0 = h }; choice = choice; check = None }

abbrev pub line : Choice → Ask
line choice = line_of 0 choice

-- an entry of a hart and a thread, and of hart 0 and thread 1
abbrev pub entry_of : ℕ → Kind → ℕ → ℕ → Entry
entry_of h k t pc = record { hart = record { 0 = h }; kind = k; tid = record { 0 = t }; pc = pc }

abbrev pub entry : Kind → ℕ → Entry
entry k pc = entry_of 0 k 1 pc

-- what was written and how it ended, after a script
abbrev pub outcome : Setting → Result (List Entry) ℕ → Result (List ℕ × End) ℕ
outcome s (Ok log) = Ok (console s (history s log), end_of s (history s log))
outcome s (Err n) = Err n
