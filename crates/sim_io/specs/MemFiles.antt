-- What contracts see of files in memory.
use Rattle.std.specs.Prelude.{ℕ, ◌+◌, ◌-◌, ◌^◌, min, List, [], ◌∷◌, ◌++◌, ◌⊎◌, Option, option_map, find, count_by, Contains, IsNone, bytes_eq}
use Rattle.sim_io.specs.declared.mem_files.MemFile.{MemFile}
use Rattle.sim_io.specs.declared.files.FileFault.{FileFault}
use Rattle.sim_io.specs.declared.files.FileFault.TheVariants.{Failed, TooLong, OutOfMemory}

-- the files, the numbers of the calls that are to fail, how many calls were made, the names of those that failed, and how many
-- bytes came in the last call
pub record FilesView : Type 0 where
  pub files : List MemFile
  pub fails : List ℕ
  pub calls : ℕ
  pub failed : List (List ℕ)
  pub came : ℕ

abbrev pub files_view : List MemFile → List ℕ → ℕ → List (List ℕ) → ℕ → FilesView
files_view files fails calls failed came = record { files = files; fails = fails; calls = calls; failed = failed; came = came }

-- the bytes of the first file of this name
abbrev pub contents_of : List MemFile → List ℕ → Option (List ℕ)
contents_of files name = option_map (λ f. f.bytes) (find (λ f. bytes_eq f.name name) files)

-- how many of these names are this one
abbrev pub failures_of : List (List ℕ) → List ℕ → ℕ
failures_of failed name = count_by (λ kept. bytes_eq kept name) failed

-- the names kept after a call that answered this fault: its own behind the others, unless no memory was found for it
abbrev pub kept_after : FileFault → List (List ℕ) → List ℕ → List (List ℕ)
kept_after Failed failed name = failed ++ name ∷ []
kept_after TooLong failed name = failed
kept_after OutOfMemory failed name = failed

-- the number of the call after so many; it stands still at its type's greatest number
abbrev pub call_after : ℕ → ℕ
call_after calls = min (calls + 1) (2 ^ 64 - 1)

-- the next call fails: it is listed, or no file has the name
abbrev pub IsFailure : FilesView → List ℕ → Type 0
IsFailure state name = Contains state.fails (call_after state.calls) ⊎ IsNone (contents_of state.files name)
