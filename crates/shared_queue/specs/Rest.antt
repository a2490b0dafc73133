-- A pass between two calls.
use Rattle.std.specs.Prelude.{ℕ, List, ◌∷◌}
use Rattle.atomic_table.specs.Seated.{TableId}
use Rattle.crossbeam_queue.specs.Passes.{Pass, view}
use Rattle.shared_queue.specs.declared.log.Log.{Log}
use Rattle.shared_queue.specs.Moves.{Moves}

-- a table as numbers, which are those of no other
abbrev pub home_of : TableId → List ℕ
home_of z = z.words ∷ z.slots ∷ z.views_name ∷ z.atom ∷ z.block ∷ z.offset ∷ z.slot_names

module _ {T : Type 0} where
  abbrev pub moves_of : Pass T (Log T) → ℕ → Moves T
  moves_of pass misses = record {
    home = home_of pass.table_id;
    parts = (view pass).parts;
    began = (view pass).began;
    put = (view pass).put;
    taken = (view pass).taken;
    misses = misses;
  }
