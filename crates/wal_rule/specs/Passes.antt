-- A pass of a table: its view, and the numbers that it keeps at run time.
use Rattle.std.specs.Prelude.{◌≡◌, ℕ, true, List, [], ◌∷◌}
use Rattle.atomic_table.specs.Seated.{TableId}
use Rattle.machine_state.specs.Words.{Opening}
use Rattle.wal_rule.specs.declared.pass.Pass.{Pass}
use Rattle.machine_state.specs.Views.{View}
use Rattle.machine_state.specs.Opened.{first_view}
use Rattle.wal_rule.specs.Stepping.{Stands}

-- of a log without a size: what stands where a proof picks a view
abbrev pub no_view : View
no_view = first_view (record {
  setup = record {
    seg_size = 0;
    ring_pages = 0;
    cap_segments = 0;
    sysid = 0;
    passes = 0;
  };
  place = record { position = 0; prev = 0; below = [] };
  made = 0;
  moment = 0;
  faults = 0;
})

-- the first of some views
abbrev pub first_among : List View → View
first_among [] = no_view
first_among (v ∷ views) = v

-- what a pass knows and is about
abbrev pub view_of_pass : Pass → View
view_of_pass pass = first_among (pass.badge).views

-- a view's number and its spare ones are these
pub record HasNumbers (number spare spare_end : ℕ) (v : View) : Type 0 where
  pub own : number ≡ (v.reserving).number
  pub low : spare ≡ (v.reserving).spare
  pub high : spare_end ≡ (v.reserving).spare_end

-- a pass has a live seat of this table, of the log that was opened so, and the numbers of its view
pub record IsPassOf (table : TableId) (opening : Opening) (pass : Pass) : Type 0 where
  pub of_table : (pass.badge).table_id ≡ table
  pub seated : (pass.badge).views ≡ view_of_pass pass ∷ []
  pub numbers : HasNumbers pass.number pass.spare pass.spare_end (view_of_pass pass)
  pub own : (view_of_pass pass).opening ≡ opening
  pub live : ((view_of_pass pass).reserving).live ≡ true
  pub stands : ∥ Stands (view_of_pass pass) ∥₁

-- two passes have the same numbers, and know the same of their company
pub record SamePass (old new : Pass) : Type 0 where
  pub own : new.number ≡ old.number
  pub low : new.spare ≡ old.spare
  pub high : new.spare_end ≡ old.spare_end
  pub company : new.company ≡ old.company
