-- A run of a hub whose words change: whether it is paused, how many want to look, and whether nobody lingers.
use Rattle.std.proofs.Common.{ℕ, refl}
use Rattle.std.specs.Prelude.{Bool}
use Rattle.tick_law.specs.SerialLoop.{System}
use Rattle.hub_laws.specs.declared.stage.Stage.{Stage}
use Rattle.hub_laws.specs.declared.stage.Stage.TheVariants.{Boundary, Primary, Secondary, Over}
use Rattle.hub_floor.specs.declared.floor.Floor.{Floor}
use Rattle.hub_floor.specs.Floor.{RestsOf, PartsOf, LinksOf}
use Rattle.hub_floor.proofs.FloorGives.{of_same}
use Rattle.run_hub.specs.Stands.{StandsAt, Stands}

module _ {P N : Type 0} where
  abbrev worded : Bool → ℕ → Bool → Floor P N → Floor P N
  worded paused wants left f = record f { paused = paused; wants = wants; left = left }

  rests_worded : (r : System P N) (vp : P → Type 0) (vn : N → Type 0) (until : ℕ) (f : Floor P N) (paused : Bool) (wants : ℕ) (left : Bool) → RestsOf r vp vn until f → RestsOf r vp vn until (worded paused wants left f)
  rests_worded r vp vn until f paused wants left is = record {
    of = of_same r vp vn until f _ is.of refl refl refl refl refl;
    rest = record {
      boundary = is.rest.boundary;
      parts_home = is.rest.parts_home;
      links_home = is.rest.links_home;
      rows_stand = is.rest.rows_stand;
      parts_unmarked = is.rest.parts_unmarked;
      links_unmarked = is.rest.links_unmarked;
      calm = is.rest.calm;
      end_is = is.rest.end_is;
    };
    asked = is.asked;
    within = is.within;
  }

  parts_worded : (r : System P N) (vp : P → Type 0) (vn : N → Type 0) (until : ℕ) (f : Floor P N) (paused : Bool) (wants : ℕ) (left : Bool) → PartsOf r vp vn until f → PartsOf r vp vn until (worded paused wants left f)
  parts_worded r vp vn until f paused wants left is = record {
    stage_is = is.stage_is;
    of = of_same r vp vn until f _ is.of refl refl refl refl refl;
    parts = record {
      begun = is.parts.begun;
      passing = is.parts.passing;
      links_home = is.parts.links_home;
      links_unmarked = is.parts.links_unmarked;
      stirred_is = is.parts.stirred_is;
      end_is = is.parts.end_is;
    };
    asked = is.asked;
    within = is.within;
  }

  links_worded : (r : System P N) (vp : P → Type 0) (vn : N → Type 0) (until : ℕ) (f : Floor P N) (paused : Bool) (wants : ℕ) (left : Bool) → LinksOf r vp vn until f → LinksOf r vp vn until (worded paused wants left f)
  links_worded r vp vn until f paused wants left is = record {
    stage_is = is.stage_is;
    of = of_same r vp vn until f _ is.of refl refl refl refl refl;
    links = record {
      begun = is.links.begun;
      passing = is.links.passing;
      parts_home = is.links.parts_home;
      parts_marked = is.links.parts_marked;
      parts_due = is.links.parts_due;
      parts_quiet = is.links.parts_quiet;
      stirred_is = is.links.stirred_is;
      end_is = is.links.end_is;
    };
    asked = is.asked;
    within = is.within;
  }

  stands_at : (s : Stage) (r : System P N) (vp : P → Type 0) (vn : N → Type 0) (until : ℕ) (f : Floor P N) (paused : Bool) (wants : ℕ) (left : Bool) → StandsAt s r vp vn until f → StandsAt s r vp vn until (worded paused wants left f)
  stands_at Boundary r vp vn until f paused wants left is = rests_worded r vp vn until f paused wants left is
  stands_at Primary r vp vn until f paused wants left is = record { floor = parts_worded r vp vn until f paused wants left is.floor; goes_on = is.goes_on; written = is.written }
  stands_at Secondary r vp vn until f paused wants left is = record { floor = links_worded r vp vn until f paused wants left is.floor; goes_on = is.goes_on; written = is.written }
  stands_at Over r vp vn until f paused wants left is = record { floor = rests_worded r vp vn until f paused wants left is.floor; why = is.why }

  pub stands_worded : (r : System P N) (vp : P → Type 0) (vn : N → Type 0) (until : ℕ) (f : Floor P N) (paused : Bool) (wants : ℕ) (left : Bool) → Stands r vp vn until f → Stands r vp vn until (record f { paused = paused; wants = wants; left = left })
  stands_worded r vp vn until f paused wants left is = stands_at f.stage r vp vn until f paused wants left is
