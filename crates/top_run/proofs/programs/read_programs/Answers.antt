use Rattle.std.proofs.Common.{rules, ◌≡◌, ◌++◌, ◌∷◌, [], ◌∙◌, length, refl, sym, ap, subst, arith, length-append}
use Rattle.std.specs.Prelude.{slice_get, Some, Err}
use Rattle.sim_io.specs.Sink.{Rose}
use Rattle.top_run.specs.Job.{AreOwn, AreLoaded, IsProgramIn, IsNext, BreaksFormat, IsProgramName, AreRead}
use Rattle.top_run.proofs.Loading.{item_at, none_loaded, loaded_more, program_more, breaks_more, own_from}
use Rattle.top_run.proofs.Jobs.{program_from, rose_behind}
use Rattle.top_run.proofs.programs.read_programs.Goals as goal

pub loop-program-init : goal.loop-program-init
loop-program-init g c =
    let none : c.new-images.result.items ≡ [] = search rules in
    record {
      loaded = subst (AreLoaded (AreOwn (g.F.Files.contents c.args.files.now)) c.args.programs.now) (sym none) (none_loaded (AreOwn (g.F.Files.contents c.args.files.now)) c.args.programs.now);
      count = ap length none;
      stayed = λ name. refl;
      rise = λ name. omega arith;
    }

pub loop-program-preserved : goal.loop-program-preserved
loop-program-preserved g c =
    let old = g.F.Files.contents c.args.files.now in
    let now = g.F.Files.contents c.loop-program.files in
    let tables = c.args.programs.now in
    let k = c.loop-program.program-index in
    let table = c.program-item.result in
    let here : slice_get tables k ≡ Some table = item_at tables k table (omega arith) ∙ ap (λ t. Some t) (sym c.program-item.is) in
    let there : slice_get tables (length c.loop-program.images.items) ≡ Some table = ap (slice_get tables) c.loop-program.invariant.count ∙ here in
    let named : IsProgramIn (AreOwn now) table.file c.in_ok-image.image = subst (λ n. IsProgramIn (AreOwn now) n c.in_ok-image.image) c.file_name.ensures c.in_ok-image.ensures.image in
    let own = program_more (AreOwn now) (AreOwn old) (own_from now old c.loop-program.invariant.stayed) table.file c.in_ok-image.image named in
    let pushed : c.push.new.self.items ≡ c.loop-program.images.items ++ c.in_ok-image.image ∷ [] = c.in_ok-push.ensures.items in
    record {
      loaded = subst (AreLoaded (AreOwn old) tables) (sym pushed) (loaded_more (AreOwn old) tables c.loop-program.images.items table c.in_ok-image.image c.loop-program.invariant.loaded there own);
      count = (let n = ap length pushed in let m = length-append c.loop-program.images.items (c.in_ok-image.image ∷ []) in let l = c.loop-program.invariant.count in omega (arith, n, m, l));
      stayed = λ name. c.read_program.ensures.contents name ∙ c.loop-program.invariant.stayed name;
      rise = λ name. (let a = c.loop-program.invariant.rise name in let b = c.read_program.ensures.never_falls name in omega (arith, a, b));
    }

pub returns-in_err-image-clause-fault : goal.returns-in_err-image-clause-fault
returns-in_err-image-clause-fault g c =
    let old = g.F.Files.contents c.args.files.now in
    let now = g.F.Files.contents c.loop-program.files in
    let tables = c.args.programs.now in
    let k = c.loop-program.program-index in
    let images = c.loop-program.images.items in
    let table = c.program-item.result in
    let here : slice_get tables k ≡ Some table = item_at tables k table (omega arith) ∙ ap (λ t. Some t) (sym c.program-item.is) in
    let there : slice_get tables (length images) ≡ Some table = ap (slice_get tables) c.loop-program.invariant.count ∙ here in
    let next : IsNext (AreOwn old) tables images table = record { loaded = c.loop-program.invariant.loaded; here = there } in
    let told = program_from
    (λ name. (name ≡ c.file_name.result.now) × Rose (g.F.Files.faults c.loop-program.files name) (g.F.Files.faults c.read_program.new.files name))
    (λ name. IsProgramName (AreOwn old) tables name × Rose (g.F.Files.faults c.args.files.now name) (g.F.Files.faults c.read_program.new.files name))
    (λ breach. (breach.program ≡ c.len.result) × BreaksFormat (AreOwn now) c.file_name.result.now breach)
    (λ breach. AreRead (AreOwn old) tables (Err breach))
    (λ name read. ((images, table, next, read.0 ∙ c.file_name.ensures), rose_behind _ _ _ (c.loop-program.invariant.rise name) read.1))
    (λ breach read. (images, table, next, (let e : breach.program ≡ c.loop-program.images.len = read.0 ∙ c.len.ensures in omega (arith, e, c.loop-program.images.ok.0)), breaks_more (AreOwn now) (AreOwn old) (own_from now old c.loop-program.invariant.stayed) table.file breach (subst (λ n. BreaksFormat (AreOwn now) n breach) c.file_name.ensures read.1)))
    c.in_err-image.field-0.0 c.in_err-image.ensures.fault in
    search rules
