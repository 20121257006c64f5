-- What an object got of lines and reports.
use Rattle.std.specs.Prelude.{ℕ, List, [], ◌++◌, Option, Result, Ok, Err, IfOk, IfErr, OnOk, OnErr}
use Rattle.std.proofs.Common.{◌≡◌, inl, inr, sym, subst}
use Rattle.sim_io.specs.Sink.{Rose, Got, GotPrefix}
use Rattle.trace_out.proofs.Writing.{Got-more}
use Rattle.top_run.specs.Refusals.{Told}
use Rattle.top_run.specs.declared.refusal.Refusal.{Refusal}
use Rattle.top_run.specs.declared.refusal.Refusal.TheVariants as refusals
use Rattle.run_gear.proofs.LineLaws.{nothing_more}
use Rattle.top_run.specs.Top.{Broke, IsFaultOfRun, IsFaultOfJob}

pub told_line : {A B : Type 0} (r : Result A B) (old new : Option (List ℕ)) (before after : ℕ) (line : List ℕ) → OnOk r (Got old new line) → OnErr r (GotPrefix old new line) → OnErr r (Rose before after) → Told line old new before after
told_line (Ok x) old new before after line got prefix rose = inl got
told_line (Err e) old new before after line got prefix rose = inr (rose, prefix)

-- what is true of the value of a result
pub of_ok : {A E : Type 0} (r : Result A E) (x : A) (P : A → Type 0) → r ≡ Ok x → IfOk r P → P x
of_ok (Ok y) x P e h = let same : y ≡ x = cc in subst P same h
of_ok (Err f) x P e h = absurd (cc)

-- the lines and then the report
pub all_written : (old mid new : Option (List ℕ)) (lines report bytes : List ℕ) → Got old mid lines → bytes ≡ report → Got mid new bytes → Got old new (lines ++ report)
all_written old mid new lines report bytes first e got = Got-more old mid new lines report first (subst (λ (l : List ℕ). Got mid new l) e got)

-- the lines and then a prefix of the report
pub some_written : (old mid new : Option (List ℕ)) (lines report bytes : List ℕ) → Got old mid lines → bytes ≡ report → GotPrefix mid new bytes → Broke lines report old new
some_written old mid new lines report bytes first e got = (mid, first, subst (λ (l : List ℕ). GotPrefix mid new l) e got)

-- a line that is written behind no others
pub broke_alone : {A B : Type 0} (r : Result A B) (rose : Type 0) (old new : Option (List ℕ)) (line bytes : List ℕ) → bytes ≡ line → OnErr r (rose × GotPrefix old new bytes) → OnErr r (Broke [] line old new)
broke_alone (Ok x) rose old new line bytes is h = h
broke_alone (Err e) rose old new line bytes is h = (old, nothing_more old, subst (λ (l : List ℕ). GotPrefix old new l) is h.1)

-- and where its write failed, nothing else did
pub fault_alone : {A : Type 0} (r : Result A Refusal) (rose memory : Type 0) (old new : Option (List ℕ)) (line bytes : List ℕ) → bytes ≡ line → OnErr r (rose × GotPrefix old new bytes) → IfErr r (λ refusal. refusal ≡ refusals.Write) → IfErr r (IsFaultOfJob (rose × Broke [] line old new) (λ _. ⊥) memory)
fault_alone (Ok x) rose memory old new line bytes is h w = tt
fault_alone (Err e) rose memory old new line bytes is h w = subst (IsFaultOfJob (rose × Broke [] line old new) (λ _. ⊥) memory) (sym w) (h.0, (old, nothing_more old, subst (λ (l : List ℕ). GotPrefix old new l) is h.1))

-- a fault of something without lines is one of its job
pub fault_of_line : (behind there memory others : Type 0) (at : ℕ → Type 0) (r : Refusal) → (behind → there) → (memory → others) → IsFaultOfJob behind (λ _. ⊥) memory r → IsFaultOfJob there at others r
fault_of_line behind there memory others at (refusals.Usage k) f g is = is
fault_of_line behind there memory others at (refusals.Read file) f g is = is
fault_of_line behind there memory others at (refusals.Config fault) f g is = is
fault_of_line behind there memory others at (refusals.Program breach) f g is = is
fault_of_line behind there memory others at (refusals.Plan breach) f g is = is
fault_of_line behind there memory others at (refusals.Name unknown) f g is = is
fault_of_line behind there memory others at refusals.Write f g is = f is
fault_of_line behind there memory others at (refusals.WriteAt d) f g is = absurd is
fault_of_line behind there memory others at refusals.OutOfMemory f g is = g is

-- a fault of a run is one of its job
pub fault_of_job : (behind memory others : Type 0) (at there : ℕ → Type 0) (r : Refusal) → ((d : ℕ) → at d → there d) → (memory → others) → IsFaultOfRun at memory r → IsFaultOfJob behind there others r
fault_of_job behind memory others at there (refusals.Usage k) f g is = is
fault_of_job behind memory others at there (refusals.Read file) f g is = is
fault_of_job behind memory others at there (refusals.Config fault) f g is = is
fault_of_job behind memory others at there (refusals.Program breach) f g is = is
fault_of_job behind memory others at there (refusals.Plan breach) f g is = is
fault_of_job behind memory others at there (refusals.Name unknown) f g is = is
fault_of_job behind memory others at there refusals.Write f g is = absurd is
fault_of_job behind memory others at there (refusals.WriteAt d) f g is = f d.0 is
fault_of_job behind memory others at there refusals.OutOfMemory f g is = g is
